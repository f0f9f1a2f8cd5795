use Rattle.std.proofs.Common.{◌<◌, ◌≤◌, ◌-◌, ◌∙◌, ap, arith}
use Rattle.rawk_names.specs.Named.{known}
use Rattle.rawk_resolution.specs.Meant.{kind_of}
use Rattle.rawk_resolution.specs.Globals.{kind_past, kind_there}
use Rattle.rawk_resolution.proofs.kinds.kind_at.Goals as goal

pub returns-then-number-saturating_sub : goal.returns-then-number-saturating_sub
returns-then-number-saturating_sub c =
    let h : c.args.number < c.in-Some.signature.end - c.in-Some.signature.first = omega (arith, c.saturating_sub.ensures) in
    kind_there (known c.args.names.now) c.args.function c.in-Some.signature c.args.number c.kind_of.result c.in-Some.ensures h (c.kind_of.ensures ∙ ap kind_of c.is_array.ensures)

pub returns-else-number-saturating_sub : goal.returns-else-number-saturating_sub
returns-else-number-saturating_sub c =
    let h : c.in-Some.signature.end - c.in-Some.signature.first ≤ c.args.number = omega (arith, c.saturating_sub.ensures) in
    kind_past (known c.args.names.now) c.args.function c.in-Some.signature c.args.number c.in-Some.ensures h
