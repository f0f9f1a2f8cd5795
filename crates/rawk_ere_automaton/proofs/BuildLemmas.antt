-- How a table is built.
use mathlib.Core.Bool.{not, beq}
use Rattle.std.proofs.Common.{◌≡◌, ℕ, ◌+◌, ◌*◌, ◌/◌, ◌%◌, ◌<◌, ◌≤◌, inl, inr, true, false, List, [], ◌∷◌, ◌++◌, length, get_or, refl, sym, ap, ◌∙◌, subst, arith, append_assoc, length-append, zero, suc, ◌-◌, Bool, true≢false}
use Rattle.std.specs.Option.{ForSome}
use Rattle.std.specs.Prelude.{Some, ◌↔◌, IsTrue, Contains, slice_index_or}
use Rattle.std.proofs.Math.ListN.{get_or-append}
use Rattle.std.proofs.Math.Seq.{get_or-append_seam}
use Rattle.std.proofs.lemmas.Option.{slice_get_within}
use Rattle.std.proofs.lemmas.List.{get_or_past}
use Rattle.std.proofs.lemmas.Bool.{cases_eq, cases_lt}
use Rattle.std.proofs.lemmas.List.{append-nil}
use Rattle.rawk_ere_tree.specs.declared.code.Instruction.{Instruction}
use Rattle.rawk_ere_walks.specs.Sets.{Closes, TakesFrom}
use Rattle.rawk_ere_automaton.specs.Table.{members, Begins, LeadsBy, AreFilled, AreStarts, IsPlaced, Extends, AreAlike, AreMarkedAlike, IsTarget}

closes_same : (room : ℕ) (code : List Instruction) (F L : Type 0) (old new other : List ℕ) → ((q : ℕ) → Contains new q ↔ Contains other q) → Closes room code F L old new → Closes room code F L old other
closes_same room code F L old new other e c = record {
  keeps = λ q h. (e q).0 (c.keeps q h);
  closed = λ q r h hs lr. (e r).0 (c.closed q r ((e q).1 h) hs lr);
  only = λ r h. c.only r ((e r).1 h);
}

members_kept : (old new more : List (ℕ × List ℕ)) (r : ℕ) → new ≡ old ++ more → r < length old → members new r ≡ members old r
members_kept old new more r e lt = ap (λ l. members l r) e ∙ ap (λ (p : ℕ × List ℕ). p.1) (get_or-append old more (0, []) r lt)

longer : (old new more : List (ℕ × List ℕ)) → new ≡ old ++ more → length old ≤ length new
longer old new more e = omega (arith, ap length e ∙ length-append old more)

module _ (code : List Instruction) where
  pub filled_none : (sets : List (ℕ × List ℕ)) → AreFilled code sets []
  filled_none sets = record { source = λ k lt. absurd (omega arith); target = λ k lt. absurd (omega arith); leads = λ k lt. absurd (omega arith) }

  -- one more entry
  pub filled_more : (sets new : List (ℕ × List ℕ)) (next all : List ℕ) (row b index : ℕ) (to : List ℕ) → AreFilled code sets next → row < length sets → length next ≡ 256 * row + b → b < 256
      → LeadsBy code b (members sets row) to → IsPlaced sets new to index → all ≡ next ++ index ∷ [] → AreFilled code new all
  filled_more sets new next all row b index to f lr ln lb l p e =
      let len : length all ≡ length next + 1 = ap length e ∙ length-append next (index ∷ []) in
      let long = longer sets new p.more p.is in
      let here : get_or all (length next) 0 ≡ index = ap (λ x. get_or x (length next) 0) e ∙ get_or-append_seam next index [] 0 in
      let kept = λ (k : ℕ) (h : k < length next). ap (λ x. get_or x k 0) e ∙ get_or-append next (index ∷ []) 0 k h in
      let d : length next / 256 ≡ row = omega arith in
      let m : length next % 256 ≡ b = omega arith in
      record {
        source = λ k lt. elim (cases_eq k (length next)) [
          | inl is ↦ omega (arith, is)
          | inr ne ↦ (let ne' : k ≡ length next → ⊥ = ne in omega (arith, f.source k (omega (arith, ne'))))
        ];
        target = λ k lt. elim (cases_eq k (length next)) [
          | inl is ↦ (let i : get_or all k 0 ≡ index = ap (λ x. get_or all x 0) is ∙ here in omega (arith, p.within))
          | inr ne ↦
              let ne' : k ≡ length next → ⊥ = ne in
              let before : k < length next = omega (arith, ne') in
              omega (arith, f.target k before, kept k before)
        ];
        leads = λ k lt. elim (cases_eq k (length next)) [
          | inl is ↦
              let i : get_or all k 0 ≡ index = ap (λ x. get_or all x 0) is ∙ here in
              let from : members new (k / 256) ≡ members sets row = ap (λ x. members new x) (ap (λ x. x / 256) is ∙ d) ∙ members_kept sets new p.more row p.is lr in
              let here_b : k % 256 ≡ b = ap (λ x. x % 256) is ∙ m in
              let there : LeadsBy code b (members sets row) (members new index) = record { mid = l.mid; reads = l.reads; closes = closes_same (length code + 1) code (IsTrue false) (IsTrue false) l.mid to (members new index) p.same l.closes } in
              subst (λ x. LeadsBy code x (members new (k / 256)) (members new (get_or all k 0))) (sym here_b)
              (subst (λ x. LeadsBy code b x (members new (get_or all k 0))) (sym from) (subst (λ x. LeadsBy code b (members sets row) (members new x)) (sym i) there))
          | inr ne ↦
              let ne' : k ≡ length next → ⊥ = ne in
              let before : k < length next = omega (arith, ne') in
              let from = members_kept sets new p.more (k / 256) p.is (f.source k before) in
              let to' : members new (get_or all k 0) ≡ members sets (get_or next k 0) = ap (λ x. members new x) (kept k before) ∙ members_kept sets new p.more (get_or next k 0) p.is (f.target k before) in
              subst (λ x. LeadsBy code (k % 256) x (members new (get_or all k 0))) (sym from) (subst (λ x. LeadsBy code (k % 256) (members sets (k / 256)) x) (sym to') (f.leads k before))
        ];
      }

  pub starts_kept : (old new : List (ℕ × List ℕ)) (start later : ℕ) → Extends old new → AreStarts code old start later → AreStarts code new start later
  starts_kept old new start later e a =
      let long = longer old new e.0 e.1 in
      record {
        start_within = omega (arith, a.start_within);
        later_within = omega (arith, a.later_within);
        start_begins = subst (λ x. Begins code (IsTrue true) x) (sym (members_kept old new e.0 start e.1 a.start_within)) a.start_begins;
        later_begins = subst (λ x. Begins code (IsTrue false) x) (sym (members_kept old new e.0 later e.1 a.later_within)) a.later_begins;
      }

  begins_same : (F : Type 0) (set other : List ℕ) → ((q : ℕ) → Contains set q ↔ Contains other q) → Begins code F set → Begins code F other
  begins_same F set other e b = record { one = b.one; adds = b.adds; closes = closes_same (length code + 1) code F (IsTrue false) b.one set other e b.closes }

  pub starts_placed : (none one two : List (ℕ × List ℕ)) (a b : List ℕ) (start later : ℕ) → Begins code (IsTrue true) a → Begins code (IsTrue false) b → IsPlaced none one a start → IsPlaced one two b later → AreStarts code two start later
  starts_placed none one two a b start later ba bb pa pb =
      let long = longer one two pb.more pb.is in
      record {
        start_within = omega (arith, pa.within);
        later_within = pb.within;
        start_begins = subst (λ x. Begins code (IsTrue true) x) (sym (members_kept one two pb.more start pb.is pa.within)) (begins_same (IsTrue true) a (members one start) pa.same ba);
        later_begins = begins_same (IsTrue false) b (members two later) pb.same bb;
      }

pub placed_old : (sets new : List (ℕ × List ℕ)) (set : List ℕ) (row : ℕ) → new ≡ sets → row < length sets → ((q : ℕ) → Contains set q ↔ Contains (members sets row) q) → IsPlaced sets new set row
placed_old sets new set row e lt same =
    subst (λ l. IsPlaced sets l set row) (sym e) (record { more = []; is = sym (append-nil sets); within = lt; same = same })

pub extends_more : (a b c : List (ℕ × List ℕ)) (set : List ℕ) (row : ℕ) → Extends a b → IsPlaced b c set row → Extends a c
extends_more a b c set row e p = (e.0 ++ p.more, p.is ∙ ap (λ l. l ++ p.more) e.1 ∙ append_assoc a e.0 p.more)

pub found_row : (sets : List (ℕ × List ℕ)) (set : List ℕ) (row : ℕ) (there : ℕ × List ℕ) → row < length sets → there ≡ slice_index_or sets row (0, []) → ((q : ℕ) → Contains set q ↔ Contains there.1 q)
    → ForSome (Some row) (λ r. (r < length sets) × ((q : ℕ) → Contains set q ↔ Contains (members sets r) q))
found_row sets set row there lt e same =
    λ r is.
    let x : row ≡ r = cc in
    subst (λ r. (r < length sets) × ((q : ℕ) → Contains set q ↔ Contains (members sets r) q)) x (lt, subst (λ (p : ℕ × List ℕ). (q : ℕ) → Contains set q ↔ Contains p.1 q) e same)

pub placed_found : (sets slice : List (ℕ × List ℕ)) (set : List ℕ) (row : ℕ) → slice ≡ sets → (row < length slice) × ((q : ℕ) → Contains set q ↔ Contains (members slice row) q) → IsPlaced sets sets set row
placed_found sets slice set row e h =
    let g = subst (λ l. (row < length l) × ((q : ℕ) → Contains set q ↔ Contains (members l row) q)) e h in
    placed_old sets sets set row refl g.0 g.1

pub pushed_length : (next all : List ℕ) (n b x : ℕ) → length next ≡ n + b → all ≡ next ++ x ∷ [] → length all ≡ n + (b + 1)
pushed_length next all n b x h e = omega (arith, h, ap length e ∙ length-append next (x ∷ []))

pub row_extends : (old new : List (ℕ × List ℕ)) (row : ℕ) → Extends old new → row < length old → row < length new
row_extends old new row e lt = omega (arith, longer old new e.0 e.1)

module _ (code : List Instruction) where
  -- where a byte leads, one like it leads too
  pub leads_alike : (a b : ℕ) (old new : List ℕ) → AreAlike code a b → LeadsBy code a old new → LeadsBy code b old new
  leads_alike a b old new e l = record {
    mid = l.mid;
    reads = record {
      has = λ q h r lt. l.reads.has q h ((e q).1 r) lt;
      only = λ r h. let o = l.reads.only r h in (o.0, o.1, (e o.0).0 o.2, o.3);
    };
    closes = l.closes;
  }

  pub target_alike : (marks : List Bool) (sets : List (ℕ × List ℕ)) (next : List ℕ) (row b k index : ℕ) → AreMarkedAlike code marks → slice_index_or marks b false ≡ true → length next ≡ 256 * row + b → b < 256 → k + 1 ≡ length next → index ≡ get_or next k 0
      → AreFilled code sets next → IsTarget code sets sets row b index
  target_alike marks sets next row b k index m h len lt ek ei f =
      let like = m b h in
      let lk : k < length next = omega arith in
      let pos = like.0 in
      let d : k / 256 ≡ row = omega (arith, pos) in
      let r : k % 256 ≡ b - 1 = omega (arith, pos) in
      let there = subst (λ x. LeadsBy code x (members sets row) (members sets (get_or next k 0))) r (subst (λ x. LeadsBy code (k % 256) (members sets x) (members sets (get_or next k 0))) d (f.leads k lk)) in
      record {
        more = [];
        is = sym (append-nil sets);
        within = omega (arith, f.target k lk, ei);
        leads = subst (λ x. LeadsBy code b (members sets row) (members sets x)) (sym ei) (leads_alike (b - 1) b (members sets row) (members sets (get_or next k 0)) like.1 there);
      }

  pub target_placed : (sets new : List (ℕ × List ℕ)) (row b index : ℕ) (to : List ℕ) → LeadsBy code b (members sets row) to → IsPlaced sets new to index → IsTarget code sets new row b index
  target_placed sets new row b index to l p = record {
    more = p.more;
    is = p.is;
    within = p.within;
    leads = record { mid = l.mid; reads = l.reads; closes = closes_same (length code + 1) code (IsTrue false) (IsTrue false) l.mid to (members new index) p.same l.closes };
  }

pub placed_target : (code : List Instruction) (sets new : List (ℕ × List ℕ)) (row b index : ℕ) → IsTarget code sets new row b index → IsPlaced sets new (members new index) index
placed_target code sets new row b index t = record { more = t.more; is = t.is; within = t.within; same = λ q. (λ h. h, λ h. h) }

-- no state beyond the code reads
pub alike_all : (code : List Instruction) (a b state : ℕ) → length code ≤ state → ((q : ℕ) → q < state → TakesFrom code q a ↔ TakesFrom code q b) → AreAlike code a b
alike_all code a b state le h q = (λ r. (h q (omega (arith, slice_get_within code q r.0 r.1))).0 r, λ r. (h q (omega (arith, slice_get_within code q r.0 r.1))).1 r)

pub same_truth : (x y : Bool) → not (beq x y) ≡ false → x ≡ y
same_truth true true h = refl
same_truth true false h = absurd (true≢false h)
same_truth false true h = absurd (true≢false h)
same_truth false false h = refl

pub alike_here : (x y : Bool) (P Q : Type 0) → x ≡ y → IsTrue x ↔ P → IsTrue y ↔ Q → P ↔ Q
alike_here x y P Q e f g = (λ p. g.0 (sym e ∙ f.1 p), λ q. f.0 (e ∙ g.1 q))

pub marked_more : (code : List Instruction) (marks all : List Bool) (b : ℕ) (like : Bool) → AreMarkedAlike code marks → length marks ≡ b → 0 < b → all ≡ marks ++ like ∷ [] → (like ≡ true → AreAlike code (b - 1) b) → AreMarkedAlike code all
marked_more code marks all b like m len pos e h k is = elim (cases_lt k b) [
  | inl lt ↦ m k (sym (get_or-append marks (like ∷ []) false k (omega arith)) ∙ sym (ap (λ l. get_or l k false) e) ∙ is)
  | inr ge ↦ elim (cases_eq k b) [
    | inl same ↦
        let here : like ≡ true = sym (get_or-append_seam marks like [] false) ∙ ap (λ i. get_or (marks ++ like ∷ []) i false) (len ∙ sym same) ∙ sym (ap (λ l. get_or l k false) e) ∙ is in
        (omega arith, subst (λ x. AreAlike code (x - 1) x) (sym same) (h here))
    | inr other ↦
        let o : k ≡ b → ⊥ = other in
        let past : length all ≤ k = omega (arith, o, ap length e ∙ length-append marks (like ∷ [])) in
        absurd (true≢false (sym is ∙ get_or_past all k false past))
  ]
]

only_false : (k : ℕ) → get_or (false ∷ []) k false ≡ false
only_false zero = refl
only_false (suc k) = refl

pub marked_none : (code : List Instruction) (marks : List Bool) → marks ≡ false ∷ [] → AreMarkedAlike code marks
marked_none code marks e k is = absurd (true≢false (sym is ∙ ap (λ l. get_or l k false) e ∙ only_false k))

pub some_is : {T : Type 0} (P : T → Type 0) (x : T) → P x → ForSome (Some x) P
some_is P x h = λ y is. let e : x ≡ y = cc in subst P e h

-- one more mark says whether P holds at its place
pub marks_more : (P : ℕ → Type 0) (old new : List Bool) (i : ℕ) (b : Bool) → new ≡ old ++ b ∷ [] → IsTrue b ↔ P i
    → (length old ≡ i) × ((r : ℕ) → r < i → IsTrue (get_or old r false) ↔ P r)
    → (length new ≡ i + 1) × ((r : ℕ) → r < i + 1 → IsTrue (get_or new r false) ↔ P r)
marks_more P old new i b is here h =
    let here_at : (r : ℕ) → r ≡ i → get_or new r false ≡ b = λ r e. ap (λ l. get_or l r false) is ∙ ap (λ n. get_or (old ++ b ∷ []) n false) (e ∙ sym h.0) ∙ get_or-append_seam old b [] false in (
      ap length is ∙ length-append old (b ∷ []) ∙ ap (λ n. n + 1) h.0,
      λ r lt. elim (cases_eq r i) as (λ _. IsTrue (get_or new r false) ↔ P r) [
        | inl e ↦ subst (λ x. IsTrue x ↔ P r) (sym (here_at r e)) (subst (λ n. IsTrue b ↔ P n) (sym e) here)
        | inr o ↦ subst (λ x. IsTrue x ↔ P r) (sym (ap (λ l. get_or l r false) is ∙ get_or-append old (b ∷ []) false r (omega (arith, h.0, lt, o)))) (h.1 r (omega (arith, lt, o)))
      ],
    )
