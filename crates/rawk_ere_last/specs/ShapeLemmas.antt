-- Each match of an expression that has a shape is of that shape, so where one must end stands where it begins.
use Rattle.std.proofs.Common.{◌≡◌, ℕ, ◌+◌, Bool, true, false, List, length, Option, Some, None, refl, sym, ◌∙◌, arith, inl, inr, true≢false}
use Rattle.std.specs.Prelude.{◌&&◌, if◌then◌else◌, nat_eq, nat_le}
use Rattle.std.proofs.lemmas.Bool.{eqb-true}
use Rattle.rawk_ere_last.specs.declared.shape.Shape.{Shape}
use Rattle.rawk_ere_tree.specs.Tree.{Tree, Empty, OneOf, Start, End, Join, Either, Group, Repeat}
use Rattle.rawk_ere_tree.specs.Ends.{Ends}
use Rattle.rawk_ere_last.specs.Shapes.{shape_with, both_in, one_in, shape_in, last_of, last_in}

-- the match from i to j is of the shape
pub record IsOf (s : List ℕ) (i j : ℕ) (a : Shape) : Type 0 where
  pub width : i + a.width ≡ j
  pub last : a.is_last ≡ true → j ≡ length s

-- the same, if there is a shape
abbrev pub IsOfSome : List ℕ → ℕ → ℕ → Option Shape → Type 0
IsOfSome s i j None = Unit {0}
IsOfSome s i j (Some a) = IsOf s i j a

of_both : (s : List ℕ) (i m j : ℕ) (a b : Option Shape) → IsOfSome s i m a → IsOfSome s m j b → IsOfSome s i j (both_in a b)
of_both s i m j None b f g = tt
of_both s i m j (Some a) None f g = tt
of_both s i m j (Some a) (Some b) f g =
    elim (nat_le (a.width + b.width) 65536) as (λ t. IsOfSome s i j (if t then Some (shape_with (a.width + b.width) b.is_last) else None)) [
      | true ↦ record { width = omega (arith, f.width, g.width); last = g.last }
      | false ↦ tt
    ]

and_left : (a b : Bool) → a && b ≡ true → a ≡ true
and_left true b h = refl
and_left false b h = h

and_right : (a b : Bool) → a && b ≡ true → b ≡ true
and_right true b h = h
and_right false b h = absurd (true≢false (sym h))

of_first : (s : List ℕ) (i j : ℕ) (a b : Option Shape) → IsOfSome s i j a → IsOfSome s i j (one_in a b)
of_first s i j None b f = tt
of_first s i j (Some a) None f = tt
of_first s i j (Some a) (Some b) f =
    elim (nat_eq a.width b.width) as (λ t. IsOfSome s i j (if t then Some (shape_with a.width (a.is_last && b.is_last)) else None)) [
      | true ↦ record { width = f.width; last = λ h. f.last (and_left a.is_last b.is_last h) }
      | false ↦ tt
    ]

of_second : (s : List ℕ) (i j : ℕ) (a b : Option Shape) → IsOfSome s i j b → IsOfSome s i j (one_in a b)
of_second s i j None b f = tt
of_second s i j (Some a) None f = tt
of_second s i j (Some a) (Some b) f =
    elim (nat_eq a.width b.width) as (λ t. nat_eq a.width b.width ≡ t → IsOfSome s i j (if t then Some (shape_with a.width (a.is_last && b.is_last)) else None)) [
      | true ↦ λ e. record { width = omega (arith, f.width, eqb-true a.width b.width e); last = λ h. f.last (and_right a.is_last b.is_last h) }
      | false ↦ λ e. tt
    ] refl

of_shape : (s : List ℕ) (e : Tree) (i j : ℕ) → Ends true s e i j → IsOfSome s i j (shape_in e)
of_shape s Empty i j h = record { width = omega (arith, h); last = λ f. absurd (true≢false (sym f)) }
of_shape s (OneOf set) i j h = record { width = h.3; last = λ f. absurd (true≢false (sym f)) }
of_shape s Start i j h = record { width = omega (arith, h.1); last = λ f. absurd (true≢false (sym f)) }
of_shape s End i j h = record { width = omega (arith, h.1); last = λ f. sym h.1 ∙ h.0.1 }
of_shape s (Join a b) i j h = of_both s i h.0 j (shape_in a) (shape_in b) (of_shape s a i h.0 h.1) (of_shape s b h.0 j h.2)
of_shape s (Either a b) i j (inl h) = of_first s i j (shape_in a) (shape_in b) (of_shape s a i j h)
of_shape s (Either a b) i j (inr h) = of_second s i j (shape_in a) (shape_in b) (of_shape s b i j h)
of_shape s (Group a) i j h = of_shape s a i j h
of_shape s (Repeat a count) i j h = tt

last_width : (s : List ℕ) (i j n : ℕ) (a : Option Shape) → last_of a ≡ Some n → IsOfSome s i j a → (j ≡ length s) × (i + n ≡ j)
last_width s i j n None is f = cc
last_width s i j n (Some a) is f =
    elim a.is_last as (λ t. a.is_last ≡ t → (if t then Some a.width else None) ≡ Some n → (j ≡ length s) × (i + n ≡ j)) [
      | true ↦ λ e h. (let same : a.width ≡ n = cc in (f.last e, omega (arith, f.width, same)))
      | false ↦ λ e h. cc
    ] refl is

-- each match of an expression that `last_in` gives a number has that number of bytes, and ends at the end of the text
pub ends_last : (s : List ℕ) (e : Tree) (i j n : ℕ) → last_in e ≡ Some n → Ends true s e i j → (j ≡ length s) × (i + n ≡ j)
ends_last s e i j n is h = last_width s i j n (shape_in e) is (of_shape s e i j h)
