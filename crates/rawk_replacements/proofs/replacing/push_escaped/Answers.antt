use Rattle.std.proofs.Common.{sym}
use Rattle.rawk_replacements.proofs.Letters.{push_escape, push_both}
use Rattle.rawk_replacements.proofs.replacing.push_escaped.Goals as goal

pub returns-then-is_escaped : goal.returns-then-is_escaped
returns-then-is_escaped c = λ found rest. push_escape c.args.out.now.items c.push.new.self.items found rest c.args.byte (sym c.if-is_escaped.ensures) c.in_ok-push.ensures.items

pub returns : goal.returns
returns c = λ found rest. push_both c.args.out.now.items c.push-2.new.self.items c.push-3.new.self.items found rest c.args.byte (sym c.if-is_escaped.ensures) c.in_ok-push-2.ensures.items c.in_ok-push-3.ensures.items
