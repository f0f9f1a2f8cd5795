use Rattle.std.proofs.Common.{◌∙◌, Some, ap, length, refl}
use Rattle.std.specs.Prelude.{slice_set}
use Rattle.rawk_value.specs.declared.value.Value.{Value}
use Rattle.rawk_value.specs.declared.value.Value.TheVariants.{String}
use Rattle.rawk_value.specs.Values.{Bytes}
use Rattle.rawk_slots.specs.Journaled.{at_rest}
use Rattle.rawk_cells.proofs.Puts.{grew, on_err, same_set, same_there}
use Rattle.rawk_cells.proofs.cells.grow.Goals as goal

pub returns-in_ok-append-in-String-clause-did : goal.returns-in_ok-append-in-String-clause-did
returns-in_ok-append-in-String-clause-did c =
    grew c.args.slots.now _ c.args.place _ _ c.append.new.self c.args.more.now (c.lend.ensures.value ∙ ap (λ (v : Value). Some v) c.in-String.is) refl c.in_ok-append-in-String.ensures.ok
    (ap length c.as_slice-count.ensures)

pub returns-in_err-append-in-String-clause-err : goal.returns-in_err-append-in-String-clause-err
returns-in_err-append-in-String-clause-err c =
    on_err _ _
    (same_there c.args.slots.now _ c.args.place _ (c.lend.ensures.value ∙ ap (λ (v : Value). Some v) c.in-String.is) c.requires.rest
    (ap (λ (b : Bytes). at_rest (slice_set c.args.slots.now.now c.args.place (String b))) c.in_err-append-in-String.ensures.err))

pub returns-in_default : goal.returns-in_default
returns-in_default c =
    let is = same_set c.args.slots.now.now c.args.place c.lend.result.now c.lend.ensures.value in
    record { did = (is, is); err = tt }
