use Rattle.std.proofs.Common.{◌≡◌, ◌≤◌, ◌<◌, ◌++◌, length, take, arith, ap, sym, ◌∙◌}
use Rattle.std.proofs.lemmas.List.{append-nil, length-take-le}
use Rattle.rawk_devices.specs.Inputs.{size_taken}
use Rattle.rawk_tape.proofs.Kept.{none_taken, put_behind, some_taken}
use Rattle.rawk_tape.proofs.room.read_behind.Goals as goal

pub returns-clause-reads : goal.returns-clause-reads
returns-clause-reads g c =
    let B = c.read.new.buf in
    let s = size_taken c.read.result in
    let low : s ≤ length B = c.read.ensures.in_bounds in
    let n : length (take s B) ≡ s = length-take-le s B low in
    record {
      chunk = take s B;
      grown = put_behind c.args.items.now B _ c.args.end s (omega arith) low;
      bounded = omega (arith, c.read.auto.buf, c.min-size.ensures);
      progress = λ still. let some : 0 < s = some_taken c.read.result (sym c.read.ensures.over ∙ still) in omega arith;
      comes = c.read.ensures.bytes;
      counted = rw n c.read.ensures.handed;
    }

pub returns-clause-none : goal.returns-clause-none
returns-clause-none g c = λ failed.
    let B = c.read.new.buf in
    let s = size_taken c.read.result in
    let low : s ≤ length B = c.read.ensures.in_bounds in
    let first = take c.args.end c.args.items.now in
    put_behind c.args.items.now B _ c.args.end s (omega arith) low ∙ (ap (λ k. first ++ take k B) (none_taken c.read.result (sym c.read.ensures.over ∙ failed)) ∙ append-nil first)
