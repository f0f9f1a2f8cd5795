use Rattle.std.proofs.Common.{◌≡◌, ◌∙◌, ap}
use Rattle.std.proofs.lemmas.Result.{IfOk-weaker}
use Rattle.rawk_arrays.specs.Elements.{map_keys}
use Rattle.rawk_arrays.specs.Heads.{headed_keys}
use Rattle.rawk_arrays.specs.Laid.{elements_of}
use Rattle.rawk_arrays.proofs.Finding.{sorted_keys}
use Rattle.rawk_arrays.proofs.cells.keys.Goals as goal

pub returns : goal.returns
returns c =
    let m = elements_of c.args.array c.args.index.now c.args.cells.now.now in
    let sorted : headed_keys c.sort_unstable.new.self.items ≡ map_keys m = sorted_keys m c.in_ok-found.found.items c.sort_unstable.new.self.items c.in_ok-found.ensures.each c.in_ok-found.ensures.headed c.sort_unstable.ensures.permutation c.sort_unstable.ensures.sorted in
    IfOk-weaker c.copies.result (λ copied. copied.items ≡ headed_keys c.deref.result.now) (λ copied. copied.items ≡ map_keys m) (λ copied same. same ∙ (ap headed_keys c.deref.ensures.value ∙ sorted)) c.copies.ensures
