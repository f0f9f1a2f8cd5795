-- Instructions as they are kept, when sets are added; sets of one byte.
use Rattle.std.proofs.Common.{◌≡◌, ℕ, zero, suc, ◌+◌, ◌/◌, ◌%◌, ◌^◌, ◌<◌, List, [], ◌∷◌, ◌++◌, length, map, get_or, inl, inr, refl, sym, ap, ◌∙◌, arith, append_assoc, take, Some, option_map}
use Rattle.std.specs.Prelude.{◌↔◌, slice_get}
use Rattle.std.specs.List.{All}
use Rattle.std.specs.Int.{bit_at}
use Rattle.std.proofs.lemmas.Bool.{cases_eq}
use Rattle.std.proofs.lemmas.List.Elements.{All-head, All-tail}
use Rattle.std.proofs.lemmas.Nat.Bits.{bit_at-pow_same, bit_at-pow_other, bit_at-zero}
use Rattle.std.proofs.lemmas.List.{get_or_append_left, map-append}
use Rattle.std.proofs.lemmas.Option.{slice_get-get_or, slice_get_within, slice_get-map, get_or_from_slice_get}
use Rattle.std.proofs.Math.Seq.{take-suc}
use Rattle.rawk_ere_tree.specs.declared.code.Instruction.{Instruction}
use Rattle.rawk_ere_tree.specs.declared.code.Instruction.TheVariants.{Bytes}
use Rattle.rawk_ere_tree.specs.declared.code.Kept.{Kept}
use Rattle.rawk_ere_tree.specs.declared.code.Kept.TheVariants as kept
use Rattle.rawk_ere_tree.specs.ByteSets.{IsIn}
use Rattle.rawk_ere_tree.specs.Kept.{set_of_word, set_of_byte, shown, IsKeptIn, Extends}

pub shown_still : (old new : List (List ℕ)) (k : Kept) → Extends old new → IsKeptIn old k → shown new k ≡ shown old k
shown_still old new (kept.Byte b) e h = refl
shown_still old new (kept.OneOf n) e h = ap Bytes (ap (λ s. get_or s n []) e.1 ∙ get_or_append_left old e.0 [] n h)
shown_still old new kept.Start e h = refl
shown_still old new kept.End e h = refl
shown_still old new (kept.Split d) e h = refl
shown_still old new (kept.Go d) e h = refl
shown_still old new (kept.Back d) e h = refl
shown_still old new (kept.Fork d) e h = refl

pub all_shown_still : (old new : List (List ℕ)) (ks : List Kept) → Extends old new → All (IsKeptIn old) ks → map (shown new) ks ≡ map (shown old) ks
all_shown_still old new [] e h = refl
all_shown_still old new (k ∷ ks) e h =
    ap (λ x. x ∷ map (shown new) ks) (shown_still old new k e (All-head (IsKeptIn old) k ks h)) ∙ ap (λ xs. shown old k ∷ xs) (all_shown_still old new ks e (All-tail (IsKeptIn old) k ks h))

-- an element that is there
pub there : {X : Type 0} (xs : List X) (n k : ℕ) (d x : X) → n ≡ k → k < length xs → get_or xs k d ≡ x → slice_get xs n ≡ Some x
there xs n k d x e lt is = ap (slice_get xs) e ∙ slice_get-get_or xs k d lt ∙ ap Some is

-- the last element of a list
pub last_there : {X : Type 0} (xs : List X) (n : ℕ) (x : X) → n ≡ length xs → slice_get (xs ++ x ∷ []) n ≡ Some x
last_there [] n x e = ap (slice_get (x ∷ [])) e
last_there (y ∷ xs) zero x e = absurd (omega (arith, e))
last_there (y ∷ xs) (suc n) x e = last_there xs n x (omega (arith, e))

zero_one : zero ≡ suc zero → ⊥
zero_one e = omega (arith, e)

-- the word of a byte, and the other words
same_word : (w word : ℕ) → w < 4 → get_or (set_of_word w word) w 0 ≡ word
same_word zero word lt = refl
same_word (suc zero) word lt = refl
same_word (suc (suc zero)) word lt = refl
same_word (suc (suc (suc zero))) word lt = refl
same_word (suc (suc (suc (suc w)))) word lt = absurd (omega (arith, lt))

other_word : (w word i : ℕ) → w < 4 → (i ≡ w → ⊥) → get_or (set_of_word w word) i 0 ≡ 0
other_word zero word zero lt ne = absurd (ne refl)
other_word zero word (suc zero) lt ne = refl
other_word zero word (suc (suc zero)) lt ne = refl
other_word zero word (suc (suc (suc zero))) lt ne = refl
other_word zero word (suc (suc (suc (suc i)))) lt ne = refl
other_word (suc zero) word zero lt ne = refl
other_word (suc zero) word (suc zero) lt ne = absurd (ne refl)
other_word (suc zero) word (suc (suc zero)) lt ne = refl
other_word (suc zero) word (suc (suc (suc zero))) lt ne = refl
other_word (suc zero) word (suc (suc (suc (suc i)))) lt ne = refl
other_word (suc (suc zero)) word zero lt ne = refl
other_word (suc (suc zero)) word (suc zero) lt ne = refl
other_word (suc (suc zero)) word (suc (suc zero)) lt ne = absurd (ne refl)
other_word (suc (suc zero)) word (suc (suc (suc zero))) lt ne = refl
other_word (suc (suc zero)) word (suc (suc (suc (suc i)))) lt ne = refl
other_word (suc (suc (suc w))) word zero lt ne = refl
other_word (suc (suc (suc w))) word (suc zero) lt ne = refl
other_word (suc (suc (suc w))) word (suc (suc zero)) lt ne = refl
other_word (suc (suc (suc w))) word (suc (suc (suc zero))) lt ne = absurd (ne (omega (arith, lt)))
other_word (suc (suc (suc w))) word (suc (suc (suc (suc i)))) lt ne = refl

-- a byte is in the set of a byte if it is that
pub one_read : (x b : ℕ) → x < 256 → b < 256 → (x ≡ b) ↔ IsIn x (set_of_byte b)
one_read x b lx lb =
    let lw : b / 64 < 4 = omega arith in
    elim (cases_eq (x / 64) (b / 64)) as (λ _. (x ≡ b) ↔ IsIn x (set_of_byte b)) [
      | inl same ↦
          let word : get_or (set_of_byte b) (x / 64) 0 ≡ 2 ^ (b % 64) = ap (λ i. get_or (set_of_byte b) i 0) same ∙ same_word (b / 64) (2 ^ (b % 64)) lw in
          elim (cases_eq (x % 64) (b % 64)) as (λ _. (x ≡ b) ↔ IsIn x (set_of_byte b)) [
            | inl bit ↦
                let is : x ≡ b = omega arith in
                let on : bit_at (get_or (set_of_byte b) (x / 64) 0) (x % 64) ≡ 1 = ap (λ w. bit_at w (x % 64)) word ∙ ap (λ i. bit_at (2 ^ (b % 64)) i) bit ∙ bit_at-pow_same (b % 64) in
                (λ e. on, λ h. is)
            | inr other ↦
                let off : bit_at (get_or (set_of_byte b) (x / 64) 0) (x % 64) ≡ 0 = ap (λ w. bit_at w (x % 64)) word ∙ bit_at-pow_other (b % 64) (x % 64) other in
                (λ e. absurd (other (ap (λ n. n % 64) e)), λ h. absurd (zero_one (sym off ∙ h)))
          ]
      | inr other ↦
          let none : get_or (set_of_byte b) (x / 64) 0 ≡ 0 = other_word (b / 64) (2 ^ (b % 64)) (x / 64) lw other in
          let off : bit_at (get_or (set_of_byte b) (x / 64) 0) (x % 64) ≡ 0 = ap (λ w. bit_at w (x % 64)) none ∙ bit_at-zero (x % 64) in
          (λ e. absurd (other (ap (λ n. n / 64) e)), λ h. absurd (zero_one (sym off ∙ h)))
    ]

-- one more instruction
pub kept_more : (old new : List (List ℕ)) (ks : List Kept) (k : Kept) (x : Instruction) → Extends old new → All (IsKeptIn old) ks → shown new k ≡ x → map (shown new) (ks ++ k ∷ []) ≡ map (shown old) ks ++ x ∷ []
kept_more old new ks k x e h is = map-append (shown new) ks (k ∷ []) ∙ ap (λ l. l ++ shown new k ∷ []) (all_shown_still old new ks e h) ∙ ap (λ y. map (shown old) ks ++ y ∷ []) is

-- the instruction that is kept at a place
pub shown_at : (sets : List (List ℕ)) (ks : List Kept) (i : ℕ) (k : Kept) → i < length ks → k ≡ get_or ks i k → slice_get (map (shown sets) ks) i ≡ Some (shown sets k)
shown_at sets ks i k lt is = slice_get-map (shown sets) ks i ∙ ap (option_map (shown sets)) (slice_get-get_or ks i k lt ∙ ap Some (sym is))

next : (i : ℕ) → i + 1 ≡ suc i
next i = omega arith

-- one more element is taken
pub taken_more : {X : Type 0} (old now new xs : List X) (i : ℕ) (x : X) → now ≡ old ++ take i xs → slice_get xs i ≡ Some x → new ≡ now ++ x ∷ [] → new ≡ old ++ take (i + 1) xs
taken_more old now new xs i x h at e =
    e ∙ ap (λ l. l ++ x ∷ []) h ∙ append_assoc old (take i xs) (x ∷ []) ∙ ap (λ l. old ++ l)
    (sym (ap (λ n. take n xs) (next i) ∙ take-suc xs i x (slice_get_within xs i x at) ∙ ap (λ y. take i xs ++ y ∷ []) (get_or_from_slice_get xs i x x at)))
