-- What leads forward again, over slots of arrays that were added.
use Rattle.std.proofs.Common.{◌≡◌, List, [], ◌∷◌, Option, None, Some, refl, ap}
use Rattle.rawk_value.specs.declared.value.Value.{Value}
use Rattle.rawk_record.specs.Shown.{Shown}
use Rattle.rawk_arrays.specs.Elements.{Elements}
use Rattle.rawk_arrays.specs.Laid.{Laid, GrownArrays, IsLaid}
use Rattle.rawk_arrays.specs.ArraysLaws.{arrays_of-grown, GrownArrays-back, FitsArrays-grown, IsLaid-back}
use Rattle.std.specs.Global.{Box}
use Rattle.rawk_store.specs.declared.rare_changes.FewGroup.{FewGroup}
use Rattle.rawk_store.specs.declared.rare_changes.RareChanges.{RareChanges}
use Rattle.rawk_store.specs.Groups.{Group}
use Rattle.rawk_store.specs.GroupBack.{ArraysFit, FewArraysFit, arrays_in, few_arrays}
use Rattle.rawk_store.specs.Observed.{Observed}
use Rattle.rawk_machine.specs.Last.{Last, last_of}
use Rattle.rawk_machine.specs.declared.last_move.LastMove.{LastMove}
use Rattle.rawk_machine.specs.declared.last_move.LastMove.TheVariants as move
use Rattle.rawk_machine.specs.Last as last
use Rattle.rawk_machine.specs.Standing.{Past}
use Rattle.rawk_machine.specs.Kept.{LastFits, before_of, seen_forth}
use Rattle.rawk_steps.specs.Leading.{AllArraysFit, arrays_forth}

few-grown : (l m : Laid) (f : Option (Box FewGroup)) → GrownArrays l m → FewArraysFit f l → GrownArrays (few_arrays l f) (few_arrays m f)
few-grown l m None g h = g
few-grown l m (Some f) g h = GrownArrays-back l m f.value.arrays g h

few_fits-grown : (l m : Laid) (f : Option (Box FewGroup)) → GrownArrays l m → FewArraysFit f l → FewArraysFit f m
few_fits-grown l m None g h = tt
few_fits-grown l m (Some f) g h = FitsArrays-grown l m f.value.arrays g h

few_laid : (l : Laid) (f : Option (Box FewGroup)) → IsLaid l.index l.slots → IsLaid (few_arrays l f).index (few_arrays l f).slots
few_laid l None h = h
few_laid l (Some f) h = IsLaid-back l f.value.arrays h

in-grown : (l m : Laid) (o : Option RareChanges) → GrownArrays l m → ArraysFit o l → GrownArrays (arrays_in l o) (arrays_in m o)
in-grown l m None g h = g
in-grown l m (Some o) g h = few-grown l m o.few g h

fits-grown : (l m : Laid) (o : Option RareChanges) → GrownArrays l m → ArraysFit o l → ArraysFit o m
fits-grown l m None g h = tt
fits-grown l m (Some o) g h = few_fits-grown l m o.few g h

pub laid_in : (l : Laid) (o : Option RareChanges) → IsLaid l.index l.slots → IsLaid (arrays_in l o).index (arrays_in l o).slots
laid_in l None h = h
laid_in l (Some o) h = few_laid l o.few h

forth-grown : (l m : Laid) (gs : List Group) → GrownArrays l m → AllArraysFit l gs → GrownArrays (arrays_forth l gs) (arrays_forth m gs)
forth-grown l m [] g h = g
forth-grown l m (x ∷ gs) g (f, h) = forth-grown (arrays_in l x.others) (arrays_in m x.others) gs (in-grown l m x.others g f) h

all_fit-grown : (l m : Laid) (gs : List Group) → GrownArrays l m → AllArraysFit l gs → AllArraysFit m gs
all_fit-grown l m [] g h = tt
all_fit-grown l m (x ∷ gs) g (f, h) = (fits-grown l m x.others g f, all_fit-grown (arrays_in l x.others) (arrays_in m x.others) gs (in-grown l m x.others g f) h)

pub laid_forth : (l : Laid) (gs : List Group) → IsLaid l.index l.slots → IsLaid (arrays_forth l gs).index (arrays_forth l gs).slots
laid_forth l [] h = h
laid_forth l (x ∷ gs) h = laid_forth (arrays_in l x.others) gs (laid_in l x.others h)

pub last_fits-grown : (la : Last) (l m : Laid) → GrownArrays l m → LastFits la l → LastFits la m
last_fits-grown last.Nothing l m g h = tt
last_fits-grown last.On l m g h = tt
last_fits-grown (last.Back forth) l m g (f, h) = (fits-grown l m forth.others g f, all_fit-grown (arrays_in l forth.others) (arrays_in m forth.others) forth.sets (in-grown l m forth.others g f) h)

-- a keeper that keeps no step leads nowhere forward
pub never_ahead : (m : LastMove) (l : Laid) → LastFits (last_of m None) l
never_ahead move.Nothing l = tt
never_ahead move.On l = tt
never_ahead move.Back l = tt

-- nor has it seen anything before the last move
pub never_before : (m : LastMove) (globals : List Value) (k l : Laid) (current : Shown) → before_of (last_of m None) globals k current [] ≡ before_of (last_of m None) globals l current []
never_before move.Nothing globals k l current = refl
never_before move.On globals k l current = refl
never_before move.Back globals k l current = refl

-- what was seen before the last move stays what it was
pub before-grown : (la : Last) (globals : List Value) (l m : Laid) (current : Shown) (history : List Past) → GrownArrays l m → IsLaid l.index l.slots → LastFits la l → before_of la globals m current history ≡ before_of la globals l current history
before-grown last.Nothing globals l m current history g laid h = refl
before-grown last.On globals l m current history g laid h = refl
before-grown (last.Back forth) globals l m current history g laid (f, h) =
    let with = λ (arrays : List Elements). let s : Observed = record (seen_forth globals l current forth) { arrays = arrays } in Some s in
    let a = arrays_in l forth.others in
    ap with (arrays_of-grown (arrays_forth a forth.sets) (arrays_forth (arrays_in m forth.others) forth.sets) (forth-grown a (arrays_in m forth.others) forth.sets (in-grown l m forth.others g f) h) (laid_forth a forth.sets (laid_in l forth.others laid)))
