-- What groups lead back to, one after another, and forward again.
use Rattle.std.specs.Prelude.{List, [], ◌∷◌, reverse}
use Rattle.rawk_value.specs.declared.value.Value.{Value}
use Rattle.rawk_record.specs.Shown.{Shown, record_back}
use Rattle.rawk_arrays.specs.Laid.{Laid}
use Rattle.rawk_store.specs.Back.{back}
use Rattle.rawk_store.specs.GroupBack.{ArraysFit, arrays_in, put_back}
use Rattle.rawk_store.specs.Groups.{Group}
use Rattle.rawk_store.specs.Layout.{Layout}
use Rattle.rawk_history.specs.Steps.{Kept}

-- the groups of one point's sets, the newest first
abbrev pub newest_first : Kept → List Group
newest_first item = reverse item.sets

-- with each group put back, the newest first
abbrev pub all_back : Layout → List Group → Layout
all_back l [] = l
all_back l (g ∷ gs) = all_back (put_back l g) gs

-- the point before, as it lies in the parts
abbrev pub back_in : Layout → List Group → Kept → Layout
back_in l here item = put_back (all_back l here) item.step

-- what was seen before the groups were put back, which lead forward now, the oldest first
abbrev pub globals_forth : List Value → List Group → List Value
globals_forth xs [] = xs
globals_forth xs (g ∷ gs) = globals_forth (back xs g.globals) gs

abbrev pub arrays_forth : Laid → List Group → Laid
arrays_forth l [] = l
arrays_forth l (g ∷ gs) = arrays_forth (arrays_in l g.others) gs

abbrev pub record_forth : Shown → List Group → Shown
record_forth s [] = s
record_forth s (g ∷ gs) = record_forth (record_back s g.current) gs

-- each place that the groups lead forward to is one of the arrays
abbrev pub AllArraysFit : Laid → List Group → Type 0
AllArraysFit l [] = Unit {0}
AllArraysFit l (g ∷ gs) = ArraysFit g.others l × AllArraysFit (arrays_in l g.others) gs
