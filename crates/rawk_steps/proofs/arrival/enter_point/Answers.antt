use Rattle.std.proofs.Common.{ap}
use Rattle.rawk_store.specs.declared.registers.Ending.TheVariants.{Limited}
use Rattle.rawk_operands.specs.Moving.{Moving}
use Rattle.rawk_steps.proofs.arrival.enter_point.Goals as goal

-- at the limit of steps
pub returns-then-count-limit-clause-came : goal.returns-then-count-limit-clause-came
returns-then-count-limit-clause-came c = (Limited c.in-Arrive.site, ap (λ (m : Moving). m.registers.ending) c.end_at_limit.ensures.did)
