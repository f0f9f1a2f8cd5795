use Rattle.std.proofs.Common.{arith, sym, ap, subst, ◌∙◌}
use Rattle.rawk_pieces.specs.Separators.{IsAhead, IsParted}
use Rattle.rawk_pieces.proofs.Separated.{ahead_is, separator_within, parted-step, parted-last}
use Rattle.rawk_pieces.proofs.matches.cut_matches.Goals as goal

pub ahead_from-requires-clause-low : goal.ahead_from-requires-clause-low
ahead_from-requires-clause-low c =
    let span = separator_within c.args.ere.now c.args.newline c.args.text.now c.loop-cut.ahead.from c.in-Some.cut (ahead_is c.args.ere.now c.args.newline c.args.text.now c.loop-cut.ahead _ c.loop-cut.invariant.next (sym c.in-Some.ensures)) in
    omega (arith, span.0, span.1)

pub ahead_from-requires-clause-high : goal.ahead_from-requires-clause-high
ahead_from-requires-clause-high c =
    let span = separator_within c.args.ere.now c.args.newline c.args.text.now c.loop-cut.ahead.from c.in-Some.cut (ahead_is c.args.ere.now c.args.newline c.args.text.now c.loop-cut.ahead _ c.loop-cut.invariant.next (sym c.in-Some.ensures)) in
    span.2

pub loop-cut-smaller : goal.loop-cut-smaller
loop-cut-smaller c =
    let span = separator_within c.args.ere.now c.args.newline c.args.text.now c.loop-cut.ahead.from c.in-Some.cut (ahead_is c.args.ere.now c.args.newline c.args.text.now c.loop-cut.ahead _ c.loop-cut.invariant.next (sym c.in-Some.ensures)) in
    omega (arith, span.0, span.1, span.2, c.in_ok-ahead-2.ensures.ahead.1)

pub loop-cut-preserved : goal.loop-cut-preserved
loop-cut-preserved c =
    let inv = c.loop-cut.invariant in
    let is = ahead_is c.args.ere.now c.args.newline c.args.text.now c.loop-cut.ahead _ inv.next (sym c.in-Some.ensures) in
    let ere = ap (λ f. f.ere) c.ahead_from.ensures.same ∙ inv.ere in
    record {
      ere = ere;
      text = ap (λ f. f.text) c.ahead_from.ensures.same ∙ inv.text;
      next = subst (λ e. IsAhead e c.args.newline c.args.text.now c.in_ok-ahead-2.ahead) inv.ere c.in_ok-ahead-2.ensures.ahead.0;
      parted = subst (λ n. IsParted c.args.ere.now c.args.newline c.args.text.now c.push.new.self.items n) (sym c.in_ok-ahead-2.ensures.ahead.1)
          (parted-step c.args.ere.now c.args.newline c.args.text.now c.loop-cut.pieces.items c.push.new.self.items c.loop-cut.ahead.from c.in-Some.cut inv.parted is c.in_ok-push.ensures.items);
      some = inv.some;
    }

pub returns-clause-fields : goal.returns-clause-fields
returns-clause-fields c =
    let inv = c.loop-cut.invariant in
    let is = ahead_is c.args.ere.now c.args.newline c.args.text.now c.loop-cut.ahead _ inv.next (sym c.in_default.ensures) in
    (parted-last c.args.ere.now c.args.newline c.args.text.now c.loop-cut.pieces.items c.push-2.new.self.items c.loop-cut.ahead.from inv.parted is inv.some inv.next.inside c.in_ok-push-2.ensures.items).0

pub returns-clause-in_range : goal.returns-clause-in_range
returns-clause-in_range c =
    let inv = c.loop-cut.invariant in
    let is = ahead_is c.args.ere.now c.args.newline c.args.text.now c.loop-cut.ahead _ inv.next (sym c.in_default.ensures) in
    (parted-last c.args.ere.now c.args.newline c.args.text.now c.loop-cut.pieces.items c.push-2.new.self.items c.loop-cut.ahead.from inv.parted is inv.some inv.next.inside c.in_ok-push-2.ensures.items).1
