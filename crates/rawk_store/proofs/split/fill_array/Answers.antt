use Rattle.std.proofs.Common.{◌≡◌, ◌∙◌, List, ap, length, sym}
use Rattle.std.proofs.lemmas.List.{length-map}
use Rattle.std.specs.Prelude.{slice_range}
use Rattle.std.specs.FinMap.{len}
use Rattle.rawk_pieces.specs.Pieces.{texts}
use Rattle.rawk_arrays.specs.Elements.{Elements, array_at, cleared}
use Rattle.rawk_arrays.specs.Laid.{arrays_of}
use Rattle.rawk_store.specs.State.{numbered}
use Rattle.rawk_store.proofs.Refilled.{cleared_numbered, numbered_alone, on_ok}
use Rattle.rawk_store.proofs.split.fill_array.Goals as goal

pub returns-then-count-pieces-clause-did : goal.returns-then-count-pieces-clause-did
returns-then-count-pieces-clause-did g c =
    let a = c.args.array in
    let ts = texts c.args.text.now c.args.pieces.now in
    let mid = arrays_of c.clear_larger.new.arrays.now in
    let put : arrays_of c.put_all.new.arrays.now ≡ numbered a 1 ts mid = c.in_ok-put_all.ensures.did in
    let count : len (array_at a (numbered a 1 ts mid)) ≡ length ts =
    sym (c.count.ensures ∙ ap (λ (xs : List Elements). len (array_at a xs)) put) ∙ (c.if-count-pieces.true ∙ sym (length-map c.args.pieces.now (λ p. slice_range c.args.text.now p.start p.end))) in
    put ∙ (numbered_alone a ts mid count ∙ ap (numbered a 1 ts) c.in_ok-clear_larger.ensures.did)

pub returns-clause-did : goal.returns-clause-did
returns-clause-did g c =
    let a = c.args.array in
    let ts = texts c.args.text.now c.args.pieces.now in
    let old = arrays_of c.args.arrays.now.now in
    let mid = arrays_of c.clear_larger.new.arrays.now in
    let first = arrays_of c.put_all.new.arrays.now in
    let none = arrays_of c.clear.new.self.now in
    let new = arrays_of c.put_pieces.new.arrays.now in
    let same : none ≡ cleared a old = c.in_ok-clear.ensures.did ∙ (ap (cleared a) c.in_ok-put_all.ensures.did ∙ (cleared_numbered a 1 ts mid ∙ c.in_ok-clear_larger.ensures.did)) in
    on_ok c.put_pieces.result (new ≡ numbered a 1 ts none) (new ≡ numbered a 1 ts (cleared a old)) (λ e. e ∙ ap (numbered a 1 ts) same) c.put_pieces.ensures.did
