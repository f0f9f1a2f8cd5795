-- Marks tell which bytes lead on.
use Rattle.std.proofs.Common.{◌≡◌, ◌≢◌, ℕ, ◌+◌, ◌*◌, ◌/◌, ◌%◌, ◌<◌, ◌⊎◌, inl, inr, Bool, true, false, Option, Some, None, List, get_or, refl, sym, ap, subst, ◌∙◌, arith, bit_and}
use Rattle.std.specs.Int.{bit_at}
use Rattle.std.proofs.lemmas.Bool.{cases_eq}
use Rattle.std.proofs.lemmas.Nat.Bits.{bit_at_and, bit_at-lt, bit_at-zero, same_from_bits}
use Rattle.rawk_ere_begins.specs.declared.nibbles.Nibbles.{Nibbles}
use Rattle.rawk_ere_begins.specs.declared.filter.Filter.{Filter}
use Rattle.rawk_ere_begins.specs.Filters.{AreSingle, HasMark, IsAsked, KeepsMarks, marks_of, pair_marks, IsFilter}

module _ (next : List ℕ) (ends : List Bool) where
  -- the bytes that may come after one that led to the row have the mark
  abbrev pub MarksNexts : ℕ → ℕ → Nibbles → ℕ → Type 0
  MarksNexts dead row second mark = (b : ℕ) → b < 256 → (get_or ends row false ≡ true) ⊎ (get_or next (row * 256 + b) 0 ≢ dead) → HasMark second b mark

  -- the byte has a mark that those have too
  abbrev pub Marked : ℕ → ℕ → Nibbles → Nibbles → ℕ → Type 0
  Marked later dead first second a = (mark : ℕ) × HasMark first a mark × MarksNexts dead (get_or next (later * 256 + a) 0) second mark

  pub marked_more : (later dead : ℕ) (first first' second second' : Nibbles) (a : ℕ) → KeepsMarks first first' → KeepsMarks second second' → Marked later dead first second a → Marked later dead first' second' a
  marked_more later dead first first' second second' a k1 k2 m = (m.0, k1 a m.0 m.1, λ b lt h. k2 b m.0 (m.2 b lt h))

-- the bits of a byte that has a mark
has_bit : (n : Nibbles) (b i : ℕ) → HasMark n b i → bit_at (marks_of n b) i ≡ 1
has_bit n b i h = bit_at_and (get_or n.low (b % 16) 0) (get_or n.high (b / 16) 0) i ∙ omega (arith, h.0, h.1)

no_bit : (m i : ℕ) → m ≡ 0 → bit_at m i ≡ 1 → ⊥
no_bit m i z h = let z' : bit_at m i ≡ bit_at 0 i = ap (λ n. bit_at n i) z in omega (arith, z', bit_at-zero i, h)

not_true : (b : Bool) → (b ≡ true → ⊥) → b ≡ false
not_true true h = absurd (h refl)
not_true false h = refl

-- what bytes without marks tell
pub is_filter : (next : List ℕ) (ends : List Bool) (later dead : ℕ) (f : Filter) → IsAsked f.first f.second f.asked → (f.is_empty ≡ true → (a : ℕ) → a < 256 → get_or next (later * 256 + a) 0 ≡ dead) → ((a : ℕ) → a < 256 → get_or next (later * 256 + a) 0 ≢ dead → Marked next ends later dead f.first f.second a) → (f.is_single ≡ true → AreSingle next ends later dead) → IsFilter next ends later dead f
is_filter next ends later dead f asked none marked long = record { asked = asked; empty = none; one = long; single = one; pair = two }
  where
    one : (a : ℕ) → a < 256 → marks_of f.first a ≡ 0 → get_or next (later * 256 + a) 0 ≡ dead
    one a la z = elim (cases_eq (get_or next (later * 256 + a) 0) dead) [
      | inl e ↦ e
      | inr n ↦ (let m = marked a la n in absurd (no_bit (marks_of f.first a) m.0 z (has_bit f.first a m.0 m.1)))
    ]

    both_bits : (a b i : ℕ) → HasMark f.first a i → HasMark f.second b i → pair_marks f a b ≡ 0 → ⊥
    both_bits a b i h k z =
        no_bit (pair_marks f a b) i z
        (bit_at_and (marks_of f.first a) (marks_of f.second b) i ∙ omega (arith, has_bit f.first a i h, has_bit f.second b i k))

    two : (a b : ℕ) → a < 256 → b < 256 → pair_marks f a b ≡ 0
        → (get_or next (later * 256 + a) 0 ≡ dead) ⊎ ((get_or ends (get_or next (later * 256 + a) 0) false ≡ false) × (get_or next (get_or next (later * 256 + a) 0 * 256 + b) 0 ≡ dead))
    two a b la lb z = elim (cases_eq (get_or next (later * 256 + a) 0) dead) [
      | inl e ↦ inl e
      | inr n ↦
          let m = marked a la n in
          let row = get_or next (later * 256 + a) 0 in
          inr (
            not_true (get_or ends row false) (λ e. both_bits a b m.0 m.1 (m.2 b lb (inl e)) z),
            elim (cases_eq (get_or next (row * 256 + b) 0) dead) [ inl e ↦ e | inr d ↦ absurd (both_bits a b m.0 m.1 (m.2 b lb (inr d)) z) ],
          )
    ]

-- what is known of a filter that has the marks of the bytes below n, of which the last one led to the row
pub record IsDraft (next : List ℕ) (ends : List Bool) (later dead : ℕ) (first second : Nibbles) (mark row n : ℕ) : Type 0 where
  pub small : mark < 8
  pub nexts : row ≢ dead → MarksNexts next ends dead row second mark
  pub none : row ≡ dead → (a : ℕ) → a < n → get_or next (later * 256 + a) 0 ≡ dead
  pub done : (a : ℕ) → a < n → get_or next (later * 256 + a) 0 ≢ dead → Marked next ends later dead first second a

module _ (next : List ℕ) (ends : List Bool) (later dead : ℕ) where
  pub draft_is : (first first' second second' : Nibbles) (mark mark' row row' n : ℕ) → first' ≡ first → second' ≡ second → mark' ≡ mark → row' ≡ row
      → IsDraft next ends later dead first second mark row n → IsDraft next ends later dead first' second' mark' row' n
  draft_is first first' second second' mark mark' row row' n e1 e2 e3 e4 d =
      subst (λ x. IsDraft next ends later dead x second' mark' row' n) (sym e1)
      (subst (λ x. IsDraft next ends later dead first x mark' row' n) (sym e2)
      (subst (λ x. IsDraft next ends later dead first second x row' n) (sym e3)
      (subst (λ x. IsDraft next ends later dead first second mark x n) (sym e4) d)))

  -- the byte leads nowhere
  pub draft_dead : (first second : Nibbles) (mark row n : ℕ) → get_or next (later * 256 + n) 0 ≡ dead → IsDraft next ends later dead first second mark row n → IsDraft next ends later dead first second mark row (n + 1)
  draft_dead first second mark row n is d = record {
    small = d.small;
    nexts = d.nexts;
    none = λ e a lt. elim (cases_eq a n) [
      | inl e' ↦ ap (λ x. get_or next (later * 256 + x) 0) e' ∙ is
      | inr o ↦ (let o' : a ≡ n → ⊥ = o in d.none e a (omega (arith, o', lt)))
    ];
    done = λ a lt not. elim (cases_eq a n) [
      | inl e ↦ absurd (not (ap (λ x. get_or next (later * 256 + x) 0) e ∙ is))
      | inr o ↦ (let o' : a ≡ n → ⊥ = o in d.done a (omega (arith, o', lt)) not)
    ];
  }

  -- another row, and a mark for it
  pub draft_row : (first second second' : Nibbles) (mark mark' row row' n : ℕ) → mark' < 8 → row' ≢ dead → KeepsMarks second second' → MarksNexts next ends dead row' second' mark'
      → IsDraft next ends later dead first second mark row n → IsDraft next ends later dead first second' mark' row' n
  draft_row first second second' mark mark' row row' n lt on keeps has d = record {
    small = lt;
    nexts = λ _. has;
    none = λ e. absurd (on e);
    done = λ a below not. marked_more next ends later dead first first second second' a (λ b i h. h) keeps (d.done a below not);
  }

  -- the byte leads to the row, and gets its mark
  pub draft_more : (first first' second : Nibbles) (mark row n : ℕ) → get_or next (later * 256 + n) 0 ≡ row → row ≢ dead → KeepsMarks first first' → HasMark first' n mark
      → IsDraft next ends later dead first second mark row n → IsDraft next ends later dead first' second mark row (n + 1)
  draft_more first first' second mark row n leads not keeps has d = record {
    small = d.small;
    nexts = d.nexts;
    none = λ e. absurd (not e);
    done = λ a lt on. elim (cases_eq a n) [
      | inl e ↦ (
        mark,
        subst (λ x. HasMark first' x mark) (sym e) has,
        subst (λ x. MarksNexts next ends dead x second mark) (sym leads ∙ ap (λ x. get_or next (later * 256 + x) 0) (sym e)) (d.nexts not),
      )
      | inr o ↦ (let o' : a ≡ n → ⊥ = o in marked_more next ends later dead first first' second second a keeps (λ b i h. h) (d.done a (omega (arith, o', lt)) on))
    ];
  }

-- the byte is the only one below n that has marks; without one, none has
abbrev pub IsOnlyBelow : Nibbles → ℕ → Option ℕ → Type 0
IsOnlyBelow marks n None = (x : ℕ) → x < n → marks_of marks x ≢ 0 → ⊥
IsOnlyBelow marks n (Some a) = (x : ℕ) → x < n → marks_of marks x ≢ 0 → x ≡ a

-- where each byte has all marks that first ones have, a first one has them all in common with it
pub has_in_common : (first second : Nibbles) (all : ℕ) → ((x i : ℕ) → x < 256 → bit_at (marks_of first x) i ≡ 1 → bit_at all i ≡ 1) → ((y i : ℕ) → y < 256 → bit_at all i ≡ 1 → bit_at (marks_of second y) i ≡ 1)
    → (x y : ℕ) → x < 256 → y < 256 → bit_and (marks_of first x) (marks_of second y) ≡ marks_of first x
has_in_common first second all has have x y lx ly = same_from_bits _ _ each
  where
    each : (i : ℕ) → bit_at (bit_and (marks_of first x) (marks_of second y)) i ≡ bit_at (marks_of first x) i
    each i = elim (cases_eq (bit_at (marks_of first x) i) 1) [
      | inl one ↦ omega (arith, bit_at_and (marks_of first x) (marks_of second y) i, one, have y i ly (has x i lx one))
      | inr not ↦ (let n : bit_at (marks_of first x) i ≡ 1 → ⊥ = not in omega (arith, bit_at_and (marks_of first x) (marks_of second y) i, n, bit_at-lt (marks_of first x) i))
    ]
