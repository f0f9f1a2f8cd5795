use Rattle.std.proofs.Common.{arith, length}
use Rattle.std.proofs.lemmas.List.Elements.{All-nil}
use Rattle.rawk_arrays.specs.Heads.{IsHeaded, headed_keys}
use Rattle.rawk_arrays.proofs.Emptying.{walk_on, walk_in, walks_to, falls, not_some}
use Rattle.rawk_arrays.proofs.Finding.{finding_begins, finding_next, found_all}
use Rattle.rawk_arrays.proofs.cells.keys_unsorted.Goals as goal

pub loop-at-init : goal.loop-at-init
loop-at-init c = record {
  walking = walks_to c.args.array c.args.index.now (length c.args.index.now) c.latest-at.result (omega arith) c.latest-at.ensures;
  finding = rw c.in_ok-found.ensures.items (finding_begins c.args.array c.args.index.now c.args.cells.now.now c.latest-at.result c.requires.array_key c.latest-at.ensures);
  headed = rw c.in_ok-found.ensures.items (All-nil IsHeaded);
}

pub loop-at-smaller : goal.loop-at-smaller
loop-at-smaller c =
    let index = c.args.index.now in
    let last = walk_on c.args.array index c.in-Some.number c.loop-at.at c.earlier-at.result c.in-Some.is c.loop-at.invariant.walking c.earlier-at.ensures in
    falls c.args.array index c.in-Some.number c.loop-at.at c.earlier-at.result c.in-Some.is last

pub loop-at-preserved : goal.loop-at-preserved
loop-at-preserved c =
    let index = c.args.index.now in
    let i = c.in-Some.number in
    let inv = c.loop-at.invariant in
    let last = walk_on c.args.array index i c.loop-at.at c.earlier-at.result c.in-Some.is inv.walking c.earlier-at.ensures in
    let within = walk_in c.args.array index i c.loop-at.at c.in-Some.is inv.walking in
    record {
      walking = walks_to c.args.array index i c.earlier-at.result (omega (arith, within)) last;
      finding = finding_next c.args.array i index c.args.cells.now.now c.loop-at.at c.earlier-at.result (headed_keys c.loop-at.found.items) (headed_keys c.push_filled.new.found.items) c.requires.distinct c.in-Some.is inv.walking inv.finding c.in_ok-push_filled.ensures.did last;
      headed = c.in_ok-push_filled.ensures.headed;
    }

pub returns-clause-each : goal.returns-clause-each
returns-clause-each c = found_all c.args.array c.args.index.now c.args.cells.now.now c.loop-at.at (headed_keys c.loop-at.found.items) (not_some c.loop-at.at c.in_default.not-Some) c.requires.array_key c.loop-at.invariant.finding
