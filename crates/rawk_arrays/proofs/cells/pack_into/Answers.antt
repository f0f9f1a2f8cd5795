use Rattle.std.proofs.Common.{◌≡◌, ◌<◌, ◌∙◌, arith, length, refl}
use Rattle.rawk_arrays.proofs.Counting.{kept_none}
use Rattle.rawk_arrays.proofs.Packing.{packed_next, packed_all}
use Rattle.rawk_arrays.proofs.cells.pack_into.Goals as goal

pub loop-number-init : goal.loop-number-init
loop-number-init c = rw (c.requires.index, c.requires.cells, c.requires.counts) (record { laid = kept_none.laid; counted = kept_none.counted; so_far = λ b lt. refl })

pub loop-number-preserved : goal.loop-number-preserved
loop-number-preserved c =
    let slots = c.args.cells.now.now in
    let lt : c.loop-number.number < length slots = omega (arith, c.loop-number-test.true, c.len-number-end.ensures) in
    record {
      laid = c.pack_one.ensures.laid;
      counted = c.pack_one.ensures.counted;
      so_far = packed_next c.args.live c.args.index.now slots c.loop-number.number c.loop-number.packed_names c.pack_one.new.packed_names c.loop-number.packed.now c.pack_one.new.packed.now c.requires.from lt c.loop-number.invariant.so_far c.in_ok-pack_one.ensures.did;
    }

pub returns-clause-did : goal.returns-clause-did
returns-clause-did c = λ b lt.
    let slots = c.args.cells.now.now in
    let all : c.loop-number.number ≡ length slots = omega (arith, c.loop-number-test.false, c.len-number-end.ensures, c.loop-number.auto.number-end) in
    c.loop-number.invariant.so_far b lt ∙ packed_all b c.args.index.now slots c.loop-number.number all c.requires.from.array_key
