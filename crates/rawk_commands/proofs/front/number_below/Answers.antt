-- A number that has grown too large stays so.
use Rattle.std.proofs.Common.{◌≡◌, suc, sym, ap, ◌∙◌, ◌+◌, ◌-◌, ◌*◌, ◌<◌, ◌≤◌, length, drop, get_or, true, arith}
use Rattle.std.proofs.Math.Seq.{drop-cons}
use Rattle.std.specs.Char.{is_ascii_digit}
use Rattle.rawk_commands.proofs.Numbers.{below_after, too_much}
use Rattle.rawk_commands.proofs.front.number_below.Goals as goal

pub returns-then-next-from : goal.returns-then-next-from
returns-then-next-from c =
    let s = c.args.digits.now in
    let i = c.loop-b.b-index in
    let within : i < length s = omega arith in
    let digit : is_ascii_digit (get_or s i 0) ≡ true = grind (arith, c.is_ascii_digit.ensures) in
    let much : c.args.limit ≤ c.loop-b.number * 10 + (get_or s i 0 - 48) = omega (arith, c.from.ensures, c.from-in-loop-b.ensures) in
    sym (too_much c.args.limit c.loop-b.number (get_or s i 0) (drop (suc i) s) digit much)
    ∙ ap (below_after c.args.limit c.loop-b.number) (sym (drop-cons s i 0 within))
    ∙ c.loop-b.invariant.so_far
