use Rattle.std.proofs.Common.{◌≡◌, ◌+◌, ◌-◌, ◌++◌, ◌∷◌, [], List, Option, None, Some, length, replicate, arith, ap, sym, ◌∙◌, append_assoc}
use Rattle.std.proofs.lemmas.Grind.{replicate_next}
use Rattle.rawk_value.specs.declared.value.Value.{Value}
use Rattle.rawk_record.proofs.Drafts.{kept-none, kept-some}
use Rattle.rawk_record.proofs.build.keep_own.Goals as goal

pub returns-in-None-clause-valued : goal.returns-in-None-clause-valued
returns-in-None-clause-valued c = kept-none c.args.count c.args.kept.now.items c.args.own c.in-None.is c.requires

pub loop-preserved : goal.loop-preserved
loop-preserved c =
    let first : List (Option Value) = c.args.kept.now.items in
    let n = c.loop.counter - length first in
    let next : c.loop.counter + 1 - length first ≡ n + 1 = omega (arith, c.loop.invariant.low) in
    record {
      kept =
          c.in_ok-push.ensures.items
          ∙ (ap (λ (x : List (Option Value)). x ++ None ∷ []) c.loop.invariant.kept
          ∙ (append_assoc first (replicate n None) (None ∷ [])
          ∙ ap (λ (x : List (Option Value)). first ++ x) (sym (ap (λ k. replicate k None) next ∙ replicate_next n None))));
      same = c.loop.invariant.same;
      low = omega (arith, c.loop.invariant.low);
    }

pub returns-clause-valued : goal.returns-clause-valued
returns-clause-valued c =
    let first : List (Option Value) = c.args.kept.now.items in
    let inv = c.loop.invariant in
    let all : length first + (c.loop.counter - length first) ≡ c.args.count = omega (arith, inv.low, c.loop-test.false, c.requires, c.loop.auto.counter-end) in
    kept-some c.args.count first c.push-2.new.self.items (c.loop.counter - length first) c.in-Some.value c.args.own c.in-Some.is all
    (c.in_ok-push-2.ensures.items ∙ (ap (λ (v : Value). c.loop.kept.items ++ Some v ∷ []) inv.same ∙ (ap (λ (x : List (Option Value)). x ++ Some c.in-Some.value ∷ []) inv.kept ∙ append_assoc first (replicate (c.loop.counter - length first) None) (Some c.in-Some.value ∷ []))))
