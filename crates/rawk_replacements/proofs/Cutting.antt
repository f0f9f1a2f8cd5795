-- A text in the midst of its replacements.
use Rattle.std.proofs.Common.{◌≡◌, ℕ, ◌+◌, ◌-◌, ◌≤◌, ◌<◌, List, [], ◌∷◌, ◌++◌, length, Option, None, Some, inl, inr, refl, sym, ap, ◌∙◌, arith, append_assoc}
use Rattle.std.specs.Prelude.{slice_range}
use Rattle.std.specs.Option.{option_map}
use Rattle.std.proofs.lemmas.Bool.{cases_lt}
use Rattle.rawk_value.specs.Values.{Bytes}
use Rattle.rawk_words.specs.declared.operator.Extent.{Extent}
use Rattle.rawk_words.specs.declared.operator.Extent.TheVariants.{First, All}
use Rattle.rawk_search.specs.Expressions.{ere_of}
use Rattle.rawk_replacements.specs.Replaced.{Replaced, taken, made, replaced_by}
use Rattle.rawk_ere_tree.specs.Tree.{Tree}
use Rattle.rawk_ere.specs.Sought.{Sought}
use Rattle.rawk_search.specs.declared.span.Span.{Span}
use Rattle.rawk_search.specs.Found.{IsWithin}
use Rattle.rawk_search.specs.Replacements.{next_cut, cuts_on, cuts, replacement, replaced}
use Rattle.rawk_search.specs.CutsOf.{cut_within, no_places, cuts_none, cuts_long, cuts_empty}

-- the next match, the text that is made so far and up to where it was copied, where the search went on, and how many were replaced
pub record Cutting (s : Bytes) (e : Tree) (by start : Bytes) (next : Option Span) (out : Bytes) (copied at count : ℕ) : Type 0 where
  pub after : Option ℕ
  pub next_is : next ≡ next_cut s e at after
  pub text : out ++ replaced by s copied (cuts_on s e at after) ≡ start ++ replaced by s 0 (cuts s e)
  pub counted : count + length (cuts_on s e at after) ≡ length (cuts s e)
  pub copied_below : copied ≤ at
  pub count_below : count ≤ at
  pub at_within : at ≤ length s + 1
  pub copied_within : copied ≤ length s

-- a match, and what stands behind it
abbrev pub up_to : Bytes → Bytes → ℕ → Span → Bytes
up_to s by copied m = slice_range s copied m.start ++ replacement (slice_range s m.start m.end) by

pub one_text : (by s old new : Bytes) (copied : ℕ) (m : Span) (more : List Span) → new ≡ old ++ up_to s by copied m → new ++ replaced by s m.end more ≡ old ++ replaced by s copied (m ∷ more)
unfolding replaced
one_text by s old new copied m more is =
    let a = slice_range s copied m.start in
    let r = replacement (slice_range s m.start m.end) by in
    let rest = replaced by s m.end more in
    ap (λ l. l ++ rest) is ∙ append_assoc old (a ++ r) rest ∙ ap (λ l. old ++ l) (append_assoc a r rest)

pub last_text : (by s old new : Bytes) (copied : ℕ) → new ≡ old ++ slice_range s copied (length s) → new ≡ old ++ replaced by s copied []
unfolding replaced
last_text by s old new copied is = is

module _ (s : Bytes) (e : Tree) (by start : Bytes) where
  pub begins : (first : Span) → Some first ≡ next_cut s e 0 None → Cutting s e by start (Some first) start 0 0 0
  begins first is = record { after = None; next_is = is; text = refl; counted = omega arith; copied_below = omega arith; count_below = omega arith; at_within = omega arith; copied_within = omega arith }

  module _ (next : Option Span) (out : Bytes) (copied at count : ℕ) (c : Cutting s e by start next out copied at count) where
    within_at : (m : Span) → next ≡ Some m → IsWithin at s m
    within_at m is = cut_within s e at c.after m (sym c.next_is ∙ is)

    pub within : (m : Span) → next ≡ Some m → IsWithin copied s m
    within m is = let w = within_at m is in let low = c.copied_below in (omega (arith, low, w.0), w.1, w.2)

    pub later : (m : Span) → next ≡ Some m → at ≤ m.start
    later m is = (within_at m is).0

    pub after_long : (m : Span) (new : Bytes) (more : Option Span) → next ≡ Some m → m.start < m.end → new ≡ out ++ up_to s by copied m → more ≡ next_cut s e m.end (Some m.end) → Cutting s e by start more new m.end m.end (count + 1)
    after_long m new more is lt made found =
        let w = within_at m is in
        let left = cuts_long s e at c.after m (sym c.next_is ∙ is) lt in
        record {
          after = Some m.end;
          next_is = found;
          text = one_text by s out new copied m (cuts_on s e m.end (Some m.end)) made ∙ ap (λ l. out ++ replaced by s copied l) (sym left) ∙ c.text;
          counted = omega (arith, ap length left, c.counted);
          copied_below = omega arith;
          count_below = omega (arith, c.count_below, w.0, lt);
          at_within = omega (arith, w.2);
          copied_within = w.2;
        }

    pub after_empty : (m : Span) (new : Bytes) (more : Option Span) → next ≡ Some m → m.end ≤ m.start → new ≡ out ++ up_to s by copied m → more ≡ next_cut s e (m.start + 1) None → Cutting s e by start more new m.end (m.start + 1) (count + 1)
    after_empty m new more is le made found =
        let w = within_at m is in
        let left = cuts_empty s e at c.after m (sym c.next_is ∙ is) le in
        record {
          after = None;
          next_is = found;
          text = one_text by s out new copied m (cuts_on s e (m.start + 1) None) made ∙ ap (λ l. out ++ replaced by s copied l) (sym left) ∙ c.text;
          counted = omega (arith, ap length left, c.counted);
          copied_below = omega (arith, le);
          count_below = omega (arith, c.count_below, w.0);
          at_within = omega (arith, w.1, w.2);
          copied_within = w.2;
        }

    pub none_left : next ≡ None → cuts_on s e at c.after ≡ []
    none_left is = cuts_none s e at c.after (sym c.next_is ∙ is)

    pub whole : (new : Bytes) → next ≡ None → new ≡ out ++ slice_range s copied (length s) → new ≡ start ++ replaced by s 0 (cuts s e)
    whole new is made = last_text by s out new copied made ∙ ap (λ l. out ++ replaced by s copied l) (sym (none_left is)) ∙ c.text

    pub all_counted : next ≡ None → count ≡ length (cuts s e)
    all_counted is = omega (arith, c.counted, ap length (none_left is))

-- what a finder of this text finds
pub sought_as : (f g : Sought) (s : Bytes) (at : ℕ) (after : Option ℕ) (more : Option Span) → f ≡ g → g.text ≡ s → more ≡ next_cut f.text f.ere at after → more ≡ next_cut s g.ere at after
sought_as f g s at after more same text is = is ∙ ap (λ (x : Sought). next_cut x.text x.ere at after) same ∙ ap (λ (t : Bytes). next_cut t g.ere at after) text

pub sought_of : (f : Sought) (s : Bytes) (e : Tree) (more : Option Span) → f.text ≡ s → f.ere ≡ e → more ≡ next_cut f.text f.ere 0 None → more ≡ next_cut s e 0 None
sought_of f s e more text ere is = is ∙ ap (λ (t : Bytes). next_cut t f.ere 0 None) text ∙ ap (λ (t : Tree). next_cut s t 0 None) ere

-- how long the text of a finder is
pub sought_length : (f g : Sought) (s : Bytes) → f ≡ g → g.text ≡ s → length s ≡ length f.text
sought_length f g s same text = ap length (sym text) ∙ ap (λ (x : Sought). length x.text) (sym same)

-- beyond the end of a text nothing is found
pub past_end : (s : Bytes) (e : Tree) (p : ℕ) → length s < p → None ≡ next_cut s e p None
past_end s e p lt = sym (no_places s e p None lt)

pub nearer : (size p q : ℕ) → p < q → p ≤ size + 1 → size + 2 - q < size + 2 - p
nearer size p q lt le = omega arith

-- what is made of all matches, or of the first
pub first_of_cuts : (s : Bytes) (e : Tree) (m : Span) → Some m ≡ next_cut s e 0 None → (more : List Span) × (cuts s e ≡ m ∷ more)
first_of_cuts s e m is = elim (cases_lt m.start m.end) [
  | inl lt ↦ (cuts_on s e m.end (Some m.end), cuts_long s e 0 None m (sym is) lt)
  | inr le ↦ (cuts_on s e (m.start + 1) None, cuts_empty s e 0 None m (sym is) le)
]

pub no_cuts : (s : Bytes) (e : Tree) → None ≡ next_cut s e 0 None → cuts s e ≡ []
no_cuts s e is = cuts_none s e 0 None (sym is)

pub made_first : (by s text : Bytes) (count : ℕ) (e : Tree) (m : Span) → Some m ≡ next_cut s e 0 None → text ≡ replaced by s 0 (m ∷ []) → count ≡ 1 → Some (record { text = text; count = count }) ≡ made by s (taken First (cuts s e))
made_first by s text count e m is whole counted =
    let all = first_of_cuts s e m is in
    ap (λ (t : Bytes). let r : Option Replaced = Some (record { text = t; count = count }) in r) whole
    ∙ ap (λ (n : ℕ). let r : Option Replaced = Some (record { text = replaced by s 0 (m ∷ []); count = n }) in r) counted
    ∙ ap (λ ms. made by s (taken First ms)) (sym all.1)

pub made_all : (by s text : Bytes) (count : ℕ) (e : Tree) (m : Span) → Some m ≡ next_cut s e 0 None → text ≡ replaced by s 0 (cuts s e) → count ≡ length (cuts s e) → Some (record { text = text; count = count }) ≡ made by s (taken All (cuts s e))
made_all by s text count e m is whole counted =
    let all = first_of_cuts s e m is in
    ap (λ (t : Bytes). let r : Option Replaced = Some (record { text = t; count = count }) in r) (whole ∙ ap (replaced by s 0) all.1)
    ∙ ap (λ (n : ℕ). let r : Option Replaced = Some (record { text = replaced by s 0 (m ∷ all.0); count = n }) in r) (counted ∙ ap length all.1)
    ∙ ap (made by s) (sym all.1)

pub made_none : (extent : Extent) (by s : Bytes) (e : Tree) → None ≡ next_cut s e 0 None → None ≡ made by s (taken extent (cuts s e))
made_none First by s e is = ap (λ ms. made by s (taken First ms)) (sym (no_cuts s e is))
made_none All by s e is = ap (λ ms. made by s (taken All ms)) (sym (no_cuts s e is))

pub by_pattern : (extent : Extent) (expression by s : Bytes) (e : Tree) (r : Option Replaced) → Some e ≡ ere_of expression → r ≡ made by s (taken extent (cuts s e)) → Some r ≡ replaced_by extent expression by s
by_pattern extent expression by s e r is h = ap (λ (o : Option Replaced). Some o) h ∙ ap (option_map (λ t. made by s (taken extent (cuts s t)))) is
