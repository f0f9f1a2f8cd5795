use Rattle.std.proofs.Common.{◌≡◌, ◌∙◌, ap}
use Rattle.std.proofs.lemmas.List.{set-set}
use Rattle.rawk_arrays.specs.Elements.{cleared, no_elements}
use Rattle.rawk_arrays.specs.Laid.{arrays_of}
use Rattle.rawk_store.proofs.Refilled.{on_ok}
use Rattle.rawk_store.proofs.split.clear_larger.Goals as goal

pub returns-then-count-clause-did : goal.returns-then-count-clause-did
returns-then-count-clause-did g c =
    let a = c.args.array in
    let old = arrays_of c.args.arrays.now.now in
    let new = arrays_of c.clear.new.self.now in
    on_ok c.clear.result (new ≡ cleared a old) (cleared a new ≡ cleared a old) (λ e. ap (cleared a) e ∙ set-set old a no_elements no_elements) c.clear.ensures.did
