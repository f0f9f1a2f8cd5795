use Rattle.std.proofs.Common.{◌<◌, length, arith}
use Rattle.rawk_ere_pattern.proofs.PartLemmas.{tree-Join-push}
use Rattle.rawk_ere_pattern.proofs.part.join_to.Goals as goal

pub returns : goal.returns
returns c =
    let lt : 0 < length c.args.parts.items = omega (arith, c.args.parts.ok.0) in
    tree-Join-push c.args.parts c.push.new.self c.args.b lt c.in_ok-push.ensures.items
