use Rattle.std.proofs.Common.{◌≡◌, ◌∷◌, ◌++◌, ◌∙◌, ◌<◌, List, [], refl, ap, sym, subst, arith, drop, length}
use Rattle.rawk_history.specs.Steps.{Kept}
use Rattle.rawk_history.specs.Parts.{AreFilled, kept_in}
use Rattle.rawk_history.proofs.Parts.{lent_last, none, stands_first}
use Rattle.rawk_history.proofs.ring.RingKeeper.newest.Goals as goal

pub returns-then-len-gt0 : goal.returns-then-len-gt0
returns-then-len-gt0 c =
    let i = c.self.inside in
    let some : 0 < i.count = omega (arith, c.if-self-eq0.false) in
    let filled : 0 < length i.newest.kept = omega (arith, c.len.ensures, c.if-len-gt0.true) in
    lent_last i.count (i.newest.kept ++ kept_in i.older.items) i.newest.kept (kept_in i.older.items) c.args.self.now.kept c.newest.result some (sym (ap (λ k. k.kept) c.self.view_is)) refl filled c.newest.ensures

pub returns-in-Some : goal.returns-in-Some
returns-in-Some c =
    let i = c.self.inside in
    let part = c.in-Some.part.now in
    let there : 0 < length i.older.items = omega (arith, c.in-Some.ensures.variant.0 refl, i.older.ok.0) in
    let parts : i.older.items ≡ part ∷ drop 1 i.older.items = stands_first i.older.items part there c.in-Some.ensures.lookup in
    let nothing : i.newest.kept ≡ [] = none i.newest.kept (omega (arith, c.len.ensures, c.if-len-gt0.false)) in
    let all : part.kept ++ kept_in (drop 1 i.older.items) ≡ i.newest.kept ++ kept_in i.older.items = sym (ap (λ (ks : List Kept). ks ++ kept_in i.older.items) nothing ∙ ap kept_in parts) in
    let some : 0 < i.count = omega (arith, c.if-self-eq0.false) in
    lent_last i.count (i.newest.kept ++ kept_in i.older.items) part.kept (kept_in (drop 1 i.older.items)) c.args.self.now.kept c.newest-in-Some.result some (sym (ap (λ k. k.kept) c.self.view_is)) all (subst AreFilled parts c.self.invariant.filled).0 c.newest-in-Some.ensures
