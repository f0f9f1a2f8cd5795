use Rattle.std.proofs.Common.{List, ℕ, sym, subst}
use Rattle.memchr.specs.Find.{FindsNeedle}
use Rattle.rawk_builtins.proofs.Single.{one_byte}
use Rattle.rawk_builtins.proofs.place.first.Goals as goal

pub returns-in-len1 : goal.returns-in-len1
returns-in-len1 c =
    let e = one_byte c.args.part.now c.in-len1.len_at_least c.in-len1.len_below in
    subst (λ (part : List ℕ). FindsNeedle c.args.text.now part 0 c.first_byte.result) (sym e) c.first_byte.ensures
