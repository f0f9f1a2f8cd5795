-- The way through a tree's whole code is a match of the tree.
use Rattle.std.proofs.Common.{◌≡◌, ℕ, zero, suc, ◌+◌, ◌≤◌, Bool, true, List, [], length, Option, Some, None, refl, subst, arith, false, inl, inr, ◌<◌, ◌∷◌, sym, true≢false}
use Rattle.std.specs.Prelude.{IfOk, IsTrue, ◌↔◌}
use Rattle.std.specs.Bool.{then_some}
use Rattle.rawk_ere_tree.specs.Longer.{ends_reach}
use Rattle.std.proofs.Common.{Result, Ok, Err}
use Rattle.std.proofs.lemmas.Option.{slice_get_within}
use Rattle.rawk_ere_tree.specs.declared.code.Instruction.{Instruction}
use Rattle.rawk_ere_tree.specs.Tree.{Tree}
use Rattle.rawk_ere_tree.specs.Ends.{Ends, IsLongest, IsMatch, HasMatch}
use Rattle.rawk_ere_tree.specs.Open.{IsOpenMatch, IsSettled, MayBegin, IsOpenFrom}
use Rattle.rawk_ere_walks.specs.Ways.{BeginsIn, MayStart}
use Rattle.rawk_ere_automaton.specs.Search.{IsBetween, IsFirst, IsFirstOpen, IsOpenStart}
use Rattle.rawk_ere.proofs.OpenLemmas.{settled, none_before}
use Rattle.rawk_ere.proofs.NeedPaths.{wants_is}
use Rattle.rawk_ere_tree.specs.Code.{code_of, Path}
use Rattle.rawk_ere_walks.specs.Sets.{IsFarthest}
use Rattle.rawk_ere.proofs.Paths.{has_all, completes, sounds}

-- nothing leads on from the end of the code
at_end : (code : List Instruction) (closed : Bool) (s : List ℕ) (m q k j : ℕ) → length code ≤ q → Path code closed s m q k (length code) j → k ≡ j
at_end code closed s zero q k j le p = p.1
at_end code closed s (suc m) q k j le p = absurd (omega (arith, slice_get_within code q p.2.0 p.2.1))

pub match_from_path : (closed : Bool) (s : List ℕ) (e : Tree) (i j n : ℕ) → Path (code_of e) closed s n 0 i (length (code_of e)) j → Ends closed s e i j
match_from_path closed s e i j n p =
    let x = (sounds (code_of e) closed s e).by n 0 i (length (code_of e)) j (has_all (code_of e) []) (omega arith) p in
    subst (λ y. Ends closed s e i y) (at_end (code_of e) closed s x.1 (0 + length (code_of e)) x.0 j (omega arith) x.4) x.3

pub path_from_match : (closed : Bool) (s : List ℕ) (e : Tree) (i j : ℕ) → Ends closed s e i j → (n : ℕ) × Path (code_of e) closed s n 0 i (length (code_of e)) j
path_from_match closed s e i j h =
    let z : 0 + length (code_of e) ≡ length (code_of e) = omega arith in
    (completes (code_of e) closed s e).by 0 i j (length (code_of e)) j (has_all (code_of e) []) h (0, (z, refl))

pub longest_from_farthest : (code : List Instruction) (s : List ℕ) (e : Tree) (i : ℕ) (r : Option ℕ) → code ≡ code_of e → IsFarthest code true s i r → IsLongest s e i r
longest_from_farthest code s e i None is f =
    let g = subst (λ c. IsFarthest c true s i None) is f in
    λ j h. let p = path_from_match true s e i j h in g j p.0 p.1
longest_from_farthest code s e i (Some l) is f =
    let g = subst (λ c. IsFarthest c true s i (Some l)) is f in
    (match_from_path true s e i l g.0.0 g.0.1, λ k h. let p = path_from_match true s e i k h in g.1 k p.0 p.1)

-- the longest match ends within the text
pub longest_between : (s : List ℕ) (e : Tree) (i : ℕ) (r : Option ℕ) → i ≤ length s → IsLongest s e i r → IsBetween i (length s) r
longest_between s e i None le h = tt
longest_between s e i (Some l) le h = let reach = ends_reach true s e i l h.0 in (reach.0, omega (arith, reach.1, le))

-- a search for a way is a search for a match
pub match_from_first : (code : List Instruction) (s : List ℕ) (e : Tree) (p : ℕ) (r : Option (ℕ × ℕ)) → code ≡ code_of e → IsFirst code s p r → IsMatch s e p r
match_from_first code s e p None is f =
    let g = subst (λ c. IsFirst c s p None) is f in
    λ i j le end h. g i j le end (path_from_match true s e i j h)
match_from_first code s e p (Some m) is f =
    let g = subst (λ c. IsFirst c s p (Some m)) is f in
    (g.0, match_from_path true s e m.0 m.1 g.1.0 g.1.1, λ i j le h. g.2 i j le (path_from_match true s e i j h), λ k h. g.3 k (path_from_match true s e m.0 k h))

-- there is a way where there is a match
pub has_from_begins : (code : List Instruction) (s : List ℕ) (e : Tree) (b : Bool) → code ≡ code_of e → IsTrue b ↔ BeginsIn code s 0 (length s) → IsTrue b ↔ HasMatch s e
has_from_begins code s e b is f =
    let g = subst (λ c. IsTrue b ↔ BeginsIn c s 0 (length s)) is f in (
      λ h. let w = g.0 h in (w.0, w.1, w.3, match_from_path true s e w.0 w.1 w.4.0 w.4.1),
      λ m. g.1 (m.0, m.1, omega arith, m.2, path_from_match true s e m.0 m.1 m.3),
    )

-- a text without bytes has at most one match
nil : (s : List ℕ) → length s ≡ 0 → s ≡ []
nil [] z = refl
nil (b ∷ s) z = absurd (omega (arith, z))

pub has_on_empty : (code : List Instruction) (s : List ℕ) (e : Tree) (b : Bool) → code ≡ code_of e → length s ≡ 0 → IsTrue b ↔ BeginsIn code [] 0 0 → IsTrue b ↔ HasMatch s e
has_on_empty code s e b is z f = subst (λ x. IsTrue b ↔ HasMatch x e) (sym (nil s z)) (has_from_begins code [] e b is f)

pub match_on_empty : (code : List Instruction) (s : List ℕ) (e : Tree) (p : ℕ) (b : Bool) → code ≡ code_of e → length s ≡ 0 → p ≤ length s → IsTrue b ↔ BeginsIn code [] 0 0 → IsMatch s e p (then_some b (0, 0))
match_on_empty code s e p true is z le f =
    let m = (has_on_empty code s e true is z f).0 refl in
    let reach = ends_reach true s e m.0 m.1 m.3 in
    let low = m.2 in
    let begin : m.0 ≡ 0 = omega (arith, low, z) in
    let end : m.1 ≡ 0 = omega (arith, reach.1, low, z) in
    (omega (arith, le, z), subst (λ j. Ends true s e 0 j) end (subst (λ i. Ends true s e i m.1) begin m.3), λ i j from h. omega arith, λ k h. let r = ends_reach true s e 0 k h in omega (arith, r.1, z))
match_on_empty code s e p false is z le f = λ i j from end h. absurd (true≢false (sym ((has_on_empty code s e false is z f).1 (i, j, end, h))))

pub open_from_first : (code : List Instruction) (s : List ℕ) (e : Tree) (p : ℕ) (r : Option (ℕ × ℕ)) → code ≡ code_of e → IsFirstOpen code s p r → IsOpenMatch s e p r
open_from_first code s e p None is f =
    let g = subst (λ c. IsFirstOpen c s p None) is f in
    λ i j le lt h. let w = g i j le lt (path_from_match false s e i j h) in (w.0, w.1, w.2, (wants_is (code_of e) s e w.0 refl).0 w.3)
open_from_first code s e p (Some m) is f =
    let g = subst (λ c. IsFirstOpen c s p (Some m)) is f in (
      (g.0, g.1, match_from_path false s e m.0 m.1 g.3.0 g.3.1, λ i j le lt h. g.4 i j le lt (path_from_match false s e i j h), λ k h. g.5 k (path_from_match false s e m.0 k h)),
      λ k le upto n. g.6 k le upto ((wants_is (code_of e) s e k refl).1 n),
    )

pub settled_from_first : (code : List Instruction) (s : List ℕ) (e : Tree) (p : ℕ) (r : Option (ℕ × ℕ)) → code ≡ code_of e → IsFirstOpen code s p r → (m : ℕ × ℕ) → r ≡ Some m → IsSettled s e p m
settled_from_first code s e p r is f m h =
    let g = subst (λ x. IsFirstOpen code s p x) h f in
    settled s e p m g.2 (open_from_first code s e p (Some m) is g)

may_from : (s : List ℕ) (e : Tree) (i : ℕ) → MayStart (code_of e) s i → MayBegin s e i
may_from s e i (inl w) = inl ((wants_is (code_of e) s e i refl).0 w)
may_from s e i (inr h) = inr (h.0, h.1, match_from_path false s e i h.0 h.2.0 h.2.1)

may_to : (s : List ℕ) (e : Tree) (i : ℕ) → MayBegin s e i → MayStart (code_of e) s i
may_to s e i (inl n) = inl ((wants_is (code_of e) s e i refl).1 n)
may_to s e i (inr h) = inr (h.0, h.1, path_from_match false s e i h.0 h.2)

pub open_from_start : (code : List Instruction) (s : List ℕ) (e : Tree) (p f : ℕ) → code ≡ code_of e → IsOpenStart code s p f → IsOpenFrom s e p f
open_from_start code s e p f is h =
    let g = subst (λ c. IsOpenStart c s p f) is h in
    let before = λ (i : ℕ) (le : p ≤ i) (lt : i < f) (m : MayBegin s e i). g.before i le lt (may_to s e i m) in
    record { within = g.within; before = before; here = λ lt. may_from s e f (g.here lt); settled = none_before s e p f g.within.1 before }

-- what holds of the answer, in other words
pub if_ok_where : {T E : Type 0} (P Q : T → Type 0) (r : Result T E) → ((x : T) → P x → Q x) → IfOk r P → IfOk r Q
if_ok_where P Q (Ok x) f h = f x h
if_ok_where P Q (Err e) f h = tt
