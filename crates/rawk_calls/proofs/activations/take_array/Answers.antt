use Rattle.std.proofs.Common.{◌≡◌, [], ◌∷◌, List, Option, ap, ℕ}
use Rattle.rawk_code.specs.Actions.{named_in}
use Rattle.rawk_operands.specs.Moving.{moving}
use Rattle.rawk_calls.specs.Activations.{called_in}
use Rattle.rawk_calls.proofs.Calls.{of_these}
use Rattle.rawk_calls.proofs.activations.take_array.Goals as goal

pub returns-clause-did : goal.returns-clause-did
returns-clause-did g c =
    let m = moving c.args.store.now in
    let new = moving c.take_numbered.new.store in
    let numbers : List (Option ℕ) = c.array_number-number.result ∷ [] in
    of_these c.take_numbered.result (λ arrays. numbers ≡ named_in arrays m.frames) (λ arrays. new ≡ called_in c.args.entry.now c.args.function c.args.count arrays m) (c.args.array ∷ []) (ap (λ (o : Option ℕ). o ∷ []) c.array_number-number.ensures) c.take_numbered.ensures.did
