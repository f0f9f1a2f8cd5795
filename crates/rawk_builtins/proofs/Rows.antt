-- Worked rows of the functions on texts.
use Rattle.std.specs.Prelude.{◌≡◌, pos, negsuc, [], ◌∷◌, map, None, Some, codes}
use Rattle.std.proofs.Common.{refl}
use Rattle.rawk_builtins.specs.Builtins.{place_of, substring, lower, upper}

index_first : place_of (codes "hello") (codes "l") ≡ 3
index_first = refl

index_whole : place_of (codes "hello") (codes "hello") ≡ 1
index_whole = refl

index_last : place_of (codes "hello") (codes "lo") ≡ 4
index_last = refl

index_nowhere : place_of (codes "hello") (codes "hellox") ≡ 0
index_nowhere = refl

index_empty_part : place_of (codes "hello") [] ≡ 1
index_empty_part = refl

index_empty_both : place_of [] [] ≡ 1
index_empty_both = refl

index_in_empty : place_of [] (codes "a") ≡ 0
index_in_empty = refl

substr_from : substring (codes "hello") (pos 2) None ≡ codes "ello"
substr_from = refl

substr_from_below : substring (codes "hello") (negsuc 4) None ≡ codes "hello"
substr_from_below = refl

substr_from_behind : substring (codes "hello") (pos 6) None ≡ []
substr_from_behind = refl

substr_counted : substring (codes "hello") (pos 2) (Some (pos 3)) ≡ codes "ell"
substr_counted = refl

substr_at_zero : substring (codes "hello") (pos 0) (Some (pos 3)) ≡ codes "he"
substr_at_zero = refl

substr_below_zero : substring (codes "hello") (negsuc 0) (Some (pos 3)) ≡ codes "h"
substr_below_zero = refl

substr_greatest : substring (codes "hello") (pos 2) (Some (pos 9223372036854775807)) ≡ codes "ello"
substr_greatest = refl

substr_least : substring (codes "hello") (negsuc 9223372036854775807) (Some (pos 9223372036854775807)) ≡ []
substr_least = refl

substr_negative_count : substring (codes "hello") (pos 2) (Some (negsuc 0)) ≡ []
substr_negative_count = refl

lower_letters : map lower (codes "@AZ[`az{0") ≡ codes "@az[`az{0"
lower_letters = refl

lower_others : map lower (193 ∷ 228 ∷ 0 ∷ []) ≡ 193 ∷ 228 ∷ 0 ∷ []
lower_others = refl

upper_letters : map upper (codes "@AZ[`az{0") ≡ codes "@AZ[`AZ{0"
upper_letters = refl

upper_others : map upper (193 ∷ 228 ∷ 0 ∷ []) ≡ 193 ∷ 228 ∷ 0 ∷ []
upper_others = refl
