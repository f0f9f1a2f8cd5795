-- Each run of bytes and each item takes the beginning one further.
use Rattle.std.proofs.Common.{◌≡◌, true, ◌∷◌, ◌∙◌, sym, ap, drop}
use Rattle.rawk_format.specs.Format.{formatted, is_percent}
use Rattle.rawk_format.proofs.Formats.{so_far_end, percent_next, percent_fault}
use Rattle.rawk_format.proofs.Grown.{follows_then}
use Rattle.rawk_format.proofs.Plains.{run_next, after_run}
use Rattle.rawk_format.proofs.printf.push_items.Goals as goal

pub returns-in-None-clause-added : goal.returns-in-None-clause-added
returns-in-None-clause-added c =
    sym (so_far_end _ c.push_run.new.out.items c.items.left.now
    (run_next _ c.items.out.items c.push_run.new.out.items c.items.rest.now _ c.items.left.now c.in_ok-len.len c.items.invariant.far c.in_ok-len.ensures.len c.in_ok-len.ensures.added (sym c.in-None.ensures ∙ c.after.ensures)))

pub items-preserved : goal.items-preserved
items-preserved c =
    let far = run_next _ c.items.out.items c.push_run.new.out.items c.items.rest.now c.after.result.now c.items.left.now c.in_ok-len.len c.items.invariant.far c.in_ok-len.ensures.len c.in_ok-len.ensures.added c.after.ensures in
    let from : c.after.result.now ≡ c.in-Some.field-0-0 ∷ c.in-Some.tail.now = c.in-Some.ensures in
    let percent : is_percent c.in-Some.field-0-0 ≡ true = after_run c.items.rest.now c.in-Some.field-0-0 c.in-Some.tail.now (ap (λ k. drop k c.items.rest.now) (sym c.in_ok-len.ensures.len) ∙ sym c.after.ensures ∙ from) in
    record {
      far = percent_next _ c.push_run.new.out.items c.push_percent.new.out.items c.after.result.now c.in-Some.field-0-0 c.in-Some.tail.now c.in-Ok.next.rest.now c.items.left.now c.in-Ok.next.values.now far from percent c.in-Ok.ensures.added c.in-Ok.ensures.shorter;
      kept = follows_then c.items.invariant.kept (follows_then c.push_run.ensures.kept c.push_percent.ensures.kept);
    }

pub returns-in-Err-clause-added : goal.returns-in-Err-clause-added
returns-in-Err-clause-added c = λ other.
    let far = run_next _ c.items.out.items c.push_run.new.out.items c.items.rest.now c.after.result.now c.items.left.now c.in_ok-len.len c.items.invariant.far c.in_ok-len.ensures.len c.in_ok-len.ensures.added c.after.ensures in
    let from : c.after.result.now ≡ c.in-Some.field-0-0 ∷ c.in-Some.tail.now = c.in-Some.ensures in
    let percent : is_percent c.in-Some.field-0-0 ≡ true = after_run c.items.rest.now c.in-Some.field-0-0 c.in-Some.tail.now (ap (λ k. drop k c.items.rest.now) (sym c.in_ok-len.ensures.len) ∙ sym c.after.ensures ∙ from) in
    percent_fault c.args.out.now.items c.push_run.new.out.items c.after.result.now c.in-Some.field-0-0 c.in-Some.tail.now c.items.left.now (formatted c.args.format.now c.args.values.now) c.in-Err.fault far from percent (c.in-Err.ensures.added other)
