use Rattle.std.proofs.Common.{arith}
use Rattle.std.proofs.lemmas.Slice.{between_to_end}
use Rattle.memchr.specs.Find.{is_byte}
use Rattle.rawk_tape.proofs.Scan.{found_in_rest, none_in_rest}
use Rattle.rawk_tape.proofs.search.find_in.Goals as goal

pub returns-in-Some : goal.returns-in-Some
returns-in-Some c =
    let s = c.args.bytes.now in found_in_rest (is_byte c.args.separator) s _ c.args.from c.in-Some.at (between_to_end s c.args.from _ (omega arith)) c.requires c.in-Some.ensures

pub returns-in-None : goal.returns-in-None
returns-in-None c =
    let s = c.args.bytes.now in none_in_rest (is_byte c.args.separator) s _ c.args.from (between_to_end s c.args.from _ (omega arith)) c.requires c.in-None.ensures
