-- The search finds the first place.
use Rattle.std.proofs.Common.{rules, ◌+◌, ◌<◌, ◌^◌, ap, sym, ◌∙◌, arith}
use Rattle.std.specs.Prelude.{pos}
use Rattle.std.proofs.lemmas.Int.{ints}
use Rattle.rawk_builtins.proofs.Places.{place_of-found, place_of-nowhere}
use Rattle.rawk_builtins.proofs.place.index.Goals as goal

pub returns-in-Some : goal.returns-in-Some
returns-in-Some c =
    let found = place_of-found c.args.text.now c.args.part.now c.in-Some.before c.in-Some.ensures in
    let small : c.in-Some.before + 1 < 2 ^ 63 = search rules in
    omega (arith, ints) ∙ ap pos (sym found)

pub returns-in-None : goal.returns-in-None
returns-in-None c = ap pos (sym (place_of-nowhere c.args.text.now c.args.part.now c.in-None.ensures))
