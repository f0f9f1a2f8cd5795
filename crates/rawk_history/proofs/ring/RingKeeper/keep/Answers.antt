use Rattle.std.proofs.Common.{◌+◌, ◌≤◌, ◌++◌, List, [], Some, sym, subst, arith, append-nil, length, length-append, take}
use Rattle.rawk_store.specs.Stores.{now_of, start_of}
use Rattle.rawk_history.specs.Steps.{Kept}
use Rattle.rawk_history.specs.Keeping.{KeepsStep}
use Rattle.rawk_history.specs.Parts.{KeepingLast, kept_in}
use Rattle.rawk_history.proofs.Parts.{behind_front, kept_last}
use Rattle.rawk_history.proofs.ring.RingKeeper.keep.Goals as goal

pub returns-then-self-clause-did : goal.returns-then-self-clause-did
returns-then-self-clause-did c =
    let i = c.self.inside in
    let start = start_of c.args.store.now in
    let now = now_of c.args.store.now in
    let here = c.args.sets.now.items in
    let did = c.in_ok-keep_in.ensures.did in
    let old : List Kept = i.newest.kept ++ kept_in i.older.items in
    let new : List Kept = c.keep_in.new.newest.kept ++ kept_in c.keep_in.new.older.items in
    subst (λ (k : KeepingLast). KeepsStep start now k.kept (take (i.count + 1) new) here (Some k.history)) c.self.view_is
    (kept_last start now old new new here i.count (i.count + 1) i.history did (record { rest = []; is = sym (append-nil new) }) (omega (arith, c.self.invariant.within)) (omega (arith, c.self.invariant.within, did.count)) (omega (arith, c.if-self.true)))

pub returns-else-self-clause-did : goal.returns-else-self-clause-did
returns-else-self-clause-did c =
    let i = c.self.inside in
    let start = start_of c.args.store.now in
    let now = now_of c.args.store.now in
    let here = c.args.sets.now.items in
    let did = c.in_ok-keep_in.ensures.did in
    let newest = c.keep_in.new.newest.kept in
    let older = kept_in c.keep_in.new.older.items in
    let left = kept_in c.let_go-self-inside.new.parts.items in
    let old : List Kept = i.newest.kept ++ kept_in i.older.items in
    let went = c.let_go-self-inside.ensures in
    let enough : i.count ≤ length (newest ++ left) = omega (arith, c.self.invariant.within, did.count, length-append newest older, length-append newest left, went.left, c.saturating_add.ensures) in
    subst (λ (k : KeepingLast). KeepsStep start now k.kept (take i.count (newest ++ left)) here (Some k.history)) c.self.view_is
    (kept_last start now old (newest ++ older) (newest ++ left) here i.count i.count i.history did (behind_front newest left older went.front) (omega (arith, c.self.invariant.within)) enough (omega (arith, c.self.invariant.few, c.if-self.false)))
