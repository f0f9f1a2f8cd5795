use Rattle.std.proofs.Common.{◌≡◌, ◌++◌, [], ◌∷◌, None, Some, length, ap, sym, ◌∙◌}
use Rattle.rawk_ere.specs.Sought.{Sought}
use Rattle.rawk_search.specs.Replacements.{cuts, replaced}
use Rattle.rawk_replacements.specs.Replaced.{made, taken}
use Rattle.rawk_replacements.proofs.Cutting.{made_none, made_first, made_all, by_pattern, sought_of}
use Rattle.rawk_replacements.proofs.replacing.replace.Goals as goal

pub returns-in_default : goal.returns-in_default
returns-in_default c =
    let e = c.ere.result.now in
    let s = c.args.text.now in
    let f = c.new-finder.result in
    by_pattern c.args.extent c.args.pattern.now c.args.by.now s e _ c.ere.ensures
    (made_none c.args.extent c.args.by.now s e (sought_of f s e None c.new-finder.ensures.text c.new-finder.ensures.ere (sym c.in_default.is ∙ c.in_ok-first.ensures.is)))

pub returns-in_ok-count-in-First : goal.returns-in_ok-count-in-First
returns-in_ok-count-in-First c =
    let e = c.ere.result.now in
    let s = c.args.text.now in
    let by = c.args.by.now in
    let f = c.new-finder.result in
    let first = sought_of f s e (Some c.in-Some.first) c.new-finder.ensures.text c.new-finder.ensures.ere (sym c.in-Some.is ∙ c.in_ok-first.ensures.is) in
    by_pattern c.args.extent c.args.pattern.now by s e _ c.ere.ensures
    (made_first by s c.push_first.new.out.items c.in_ok-count-in-First.count e c.in-Some.first first
    (c.in_ok-count-in-First.ensures.items ∙ ap (λ l. l ++ replaced by s 0 (c.in-Some.first ∷ [])) (c.in_ok-reserve.ensures.items ∙ c.clear.ensures.items)) c.in_ok-count-in-First.ensures.count
    ∙ ap (λ x. made by s (taken x (cuts s e))) (sym c.in-First.is))

pub returns-in_ok-count-in-All : goal.returns-in_ok-count-in-All
returns-in_ok-count-in-All c =
    let e = c.ere.result.now in
    let s = c.args.text.now in
    let by = c.args.by.now in
    let f = c.new-finder.result in
    let g = c.next_cut.new.finder in
    let first = sought_of f s e (Some c.in-Some.first) c.new-finder.ensures.text c.new-finder.ensures.ere (sym c.in-Some.is ∙ c.in_ok-first.ensures.is) in
    let same : g.ere ≡ e = ap (λ (x : Sought). x.ere) c.next_cut.ensures.same ∙ c.new-finder.ensures.ere in
    by_pattern c.args.extent c.args.pattern.now by s e _ c.ere.ensures
    (made_all by s c.push_cuts.new.out.items c.in_ok-count-in-All.count e c.in-Some.first first
    (c.in_ok-count-in-All.ensures.items ∙ ap (λ l. l ++ replaced by s 0 (cuts s g.ere)) (c.in_ok-reserve.ensures.items ∙ c.clear.ensures.items) ∙ ap (λ t. replaced by s 0 (cuts s t)) same)
    (c.in_ok-count-in-All.ensures.count ∙ ap (λ t. length (cuts s t)) same)
    ∙ ap (λ x. made by s (taken x (cuts s e))) (sym c.in-All.is))
