-- The special variables, each by its number: its name, and its value before a program begins.
use Rattle.std.specs.Prelude.{◌≡◌, pos, negsuc, [], ◌∷◌, length, slice_get, Some, codes}
use Rattle.std.proofs.Common.{refl}
use Rattle.rawk_value.specs.declared.value.Value.TheVariants.{Number, String}
use Rattle.rawk_special.specs.declared.special.TheConstants.{COUNT, NR, FNR, FS, OFS, ORS, RS, SUBSEP, CONVFMT, OFMT, RSTART, RLENGTH}
use Rattle.rawk_special.specs.Special.{specials, special_names, first_specials}

count : length specials ≡ COUNT
count = refl

NR-name : slice_get special_names NR ≡ Some (codes "NR")
NR-name = refl

NR-first : slice_get first_specials NR ≡ Some (Number (pos 0))
NR-first = refl

FNR-name : slice_get special_names FNR ≡ Some (codes "FNR")
FNR-name = refl

FNR-first : slice_get first_specials FNR ≡ Some (Number (pos 0))
FNR-first = refl

FS-name : slice_get special_names FS ≡ Some (codes "FS")
FS-name = refl

FS-first : slice_get first_specials FS ≡ Some (String (32 ∷ []))
FS-first = refl

OFS-name : slice_get special_names OFS ≡ Some (codes "OFS")
OFS-name = refl

OFS-first : slice_get first_specials OFS ≡ Some (String (32 ∷ []))
OFS-first = refl

ORS-name : slice_get special_names ORS ≡ Some (codes "ORS")
ORS-name = refl

ORS-first : slice_get first_specials ORS ≡ Some (String (10 ∷ []))
ORS-first = refl

RS-name : slice_get special_names RS ≡ Some (codes "RS")
RS-name = refl

RS-first : slice_get first_specials RS ≡ Some (String (10 ∷ []))
RS-first = refl

SUBSEP-name : slice_get special_names SUBSEP ≡ Some (codes "SUBSEP")
SUBSEP-name = refl

SUBSEP-first : slice_get first_specials SUBSEP ≡ Some (String (28 ∷ []))
SUBSEP-first = refl

CONVFMT-name : slice_get special_names CONVFMT ≡ Some (codes "CONVFMT")
CONVFMT-name = refl

CONVFMT-first : slice_get first_specials CONVFMT ≡ Some (String (codes "%.6g"))
CONVFMT-first = refl

OFMT-name : slice_get special_names OFMT ≡ Some (codes "OFMT")
OFMT-name = refl

OFMT-first : slice_get first_specials OFMT ≡ Some (String (codes "%.6g"))
OFMT-first = refl

RSTART-name : slice_get special_names RSTART ≡ Some (codes "RSTART")
RSTART-name = refl

RSTART-first : slice_get first_specials RSTART ≡ Some (Number (pos 0))
RSTART-first = refl

RLENGTH-name : slice_get special_names RLENGTH ≡ Some (codes "RLENGTH")
RLENGTH-name = refl

RLENGTH-first : slice_get first_specials RLENGTH ≡ Some (Number (negsuc 0))
RLENGTH-first = refl
