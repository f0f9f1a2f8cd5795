use Rattle.std.proofs.Common.{◌+◌, ◌≤◌, drop, get_or, length}
use Rattle.std.proofs.Math.ListN.{drop_of_length-le}
use Rattle.std.proofs.lemmas.List.{drop_more}
use Rattle.rawk_ere_pattern.specs.ScanLemmas.{scan_more, scan_end, scan_none}
use Rattle.rawk_ere_pattern.proofs.scan.scan.Goals as goal

pub returns-in-None-clause-refused : goal.returns-in-None-clause-refused
returns-in-None-clause-refused c =
    let p = c.args.pattern.now in
    let at = c.loop-at.at in
    scan_none p (get_or p at 0) (drop at p) (drop (at + 1) p) c.loop-at.tokens.items c.loop-at.invariant.1 (drop_more p at 0 c.loop-at-test.true) c.in-None.ensures.is

pub loop-at-preserved : goal.loop-at-preserved
loop-at-preserved c =
    let p = c.args.pattern.now in (
      c.in-Some.ensures.within.1,
      scan_more p (drop c.loop-at.at p) (drop c.in-Some.next p) c.loop-at.tokens.items c.add_token.new.tokens.items c.in-Some.token c.loop-at.invariant.1 c.in-Some.ensures.is c.in_ok-add_token-in-Some.ensures,
    )

pub returns-clause-is : goal.returns-clause-is
returns-clause-is c =
    let p = c.args.pattern.now in
    let le : length p ≤ c.loop-at.at = c.loop-at-test.false in
    scan_end p (drop c.loop-at.at p) c.loop-at.tokens.items c.loop-at.invariant.1 (drop_of_length-le p le)
