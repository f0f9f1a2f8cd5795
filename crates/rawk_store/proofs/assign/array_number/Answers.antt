-- A local that is not there names no array.
use Rattle.std.proofs.Common.{ap, sym, ◌∙◌}
use Rattle.rawk_words.specs.declared.array.Array.{Array}
use Rattle.rawk_value.specs.declared.value.Value.TheVariants.{Uninitialized}
use Rattle.rawk_frames.specs.declared.frames.Local.TheVariants.{Holds}
use Rattle.rawk_frames.specs.Frame.{locals_now}
use Rattle.rawk_frames.specs.LaidFrames.{frames_of}
use Rattle.rawk_store.specs.State.{array_in, named_by}
use Rattle.rawk_store.proofs.Missing.{value_missing}
use Rattle.rawk_store.proofs.assign.array_number.Goals as goal

pub returns-in-None : goal.returns-in-None
returns-in-None c =
    let frames = frames_of c.args.frames.now.now in
    ap named_by (value_missing (locals_now frames) c.in-Local.number (Holds Uninitialized) c.in-None.ensures) ∙ ap (λ (a : Array). array_in a frames) (sym c.in-Local.is)
