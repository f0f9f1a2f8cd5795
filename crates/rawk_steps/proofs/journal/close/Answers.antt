use Rattle.std.proofs.Common.{◌≡◌, true}
use Rattle.rawk_history.specs.Keeping.{keeps_any}
use Rattle.rawk_store.specs.Stores.{now_of, start_of}
use Rattle.rawk_steps.proofs.Closings.{closes_by}
use Rattle.rawk_steps.proofs.journal.close.Goals as goal

pub returns-in-Ok-clause-kept : goal.returns-in-Ok-clause-kept
returns-in-Ok-clause-kept g c =
    let limit = g.K.Keeper.limit c.args.keeper.now in
    let any : true ≡ keeps_any limit = cc (c.keeps.ensures.limit, c.if-not-keeps.false) in
    closes_by true (keeps_any limit) (start_of c.args.store.now) (now_of c.args.store.now) (g.K.Keeper.kept c.args.keeper.now) (g.K.Keeper.kept c.keep.new.self) c.args.here.now.items limit any c.in-Ok.ensures.did
