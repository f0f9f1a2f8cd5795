use Rattle.rawk_replacements.proofs.Letters.{push_found, push_other}
use Rattle.rawk_replacements.proofs.replacing.push_plain.Goals as goal

pub returns-in_ok-extend_from_slice : goal.returns-in_ok-extend_from_slice
returns-in_ok-extend_from_slice c = λ rest. push_found c.args.out.now.items c.extend_from_slice.new.self.items c.args.found.now rest c.args.byte c.if-byte-eq38.true c.in_ok-extend_from_slice.ensures.items

pub returns-in_ok-push : goal.returns-in_ok-push
returns-in_ok-push c = λ rest. push_other c.args.out.now.items c.push.new.self.items c.args.found.now rest c.args.byte c.if-byte-eq38.false c.if-byte-eq92.false c.in_ok-push.ensures.items
