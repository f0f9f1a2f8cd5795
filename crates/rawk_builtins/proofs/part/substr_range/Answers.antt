-- The bytes between the two ends are those at the places.
use Rattle.std.proofs.Common.{rules, w64, FitsSigned, ap, sym, ◌∙◌, max}
use Rattle.std.specs.List.{slice_range}
use Rattle.std.proofs.lemmas.Int.{to_z-of_z}
use Rattle.rawk_builtins.specs.Builtins.{substring}
use Rattle.rawk_builtins.proofs.Parts.{substring-from, substring-counted}
use Rattle.rawk_builtins.proofs.part.substr_range.Goals as goal
use Rattle.rawk_builtins.proofs.part.substr_range.Goals.{in-None, in-Some}

pub returns-clause-bytes : goal.returns-clause-bytes
returns-clause-bytes c =
    let text = c.args.text.now in
    let from = c.args.from in
    let start = c.places_before-start.result in
    let fits = c.ranges.from in
    let before = simp to_z-of_z at c.places_before-start.ensures.before in
    elim c.match-count.branch [
      | in-None w ↦
          ap (λ e. slice_range text start e) (c.max.ensures ∙ ap (λ e. max e start) w.end-is)
          ∙ substring-from from text start before
          ∙ ap (substring text from) (sym w.in-None.is)
      | in-Some w ↦
          let count_fits : FitsSigned w64 w.in-Some.count = search rules in
          let ends = simp to_z-of_z at w.places_before_sum-end.ensures.before in
          ap (λ e. slice_range text start e) (c.max.ensures ∙ ap (λ e. max e start) w.end-is)
          ∙ substring-counted from text start before w.in-Some.count w.places_before_sum-end.result ends
          ∙ ap (substring text from) (sym w.in-Some.is)
    ]
