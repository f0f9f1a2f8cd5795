use Rattle.std.proofs.Common.{◌≡◌, ◌-◌, true, length, arith, subst, sym, ◌∙◌, true≢false}
use Rattle.rawk_ere_walks.specs.Ways.{Way}
use Rattle.rawk_ere_last.proofs.find.find_last.Goals as goal

pub returns-then-text-from : goal.returns-then-text-from
returns-then-text-from c = (λ i j low high w. let l = c.requires.last i j w in absurd (omega (arith, l.0, l.1, low, high, c.if-text-from.true)), tt)

pub returns-then-found : goal.returns-then-found
returns-then-found c =
    let begin = length c.args.text.now - c.args.width in
    let w = c.first_stop-found.ensures.way.0 c.if-found.true in
    let end = (c.requires.last begin w.0 w.1).0 in (
      (
        omega (arith, c.if-text-from.false, c.requires.within),
        subst (λ j. Way c.args.code.now c.args.text.now true begin j) end w.1,
        λ i j low v. (let l = c.requires.last i j v in omega (arith, l.0, l.1)),
        λ k v. (let l = c.requires.last begin k v in omega (arith, l.0)),
      ),
      (omega (arith, c.if-text-from.false, c.requires.within), omega arith, omega arith),
    )

pub returns-else-found : goal.returns-else-found
returns-else-found c =
    let begin = length c.args.text.now - c.args.width in (
      λ i j low high w.
          let l = c.requires.last i j w in
          let same : i ≡ begin = omega (arith, l.0, l.1) in
          let found = c.first_stop-found.ensures.way.1 (j, subst (λ k. Way c.args.code.now c.args.text.now true k j) same w) in
          absurd (true≢false (sym found ∙ c.if-found.false)),
      tt,
    )
