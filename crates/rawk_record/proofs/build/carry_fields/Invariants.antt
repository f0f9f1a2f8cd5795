use Rattle.std.proofs.Common.{◌≡◌, ◌++◌, drop}
use Rattle.rawk_record.specs.Changed.{resized}
use Rattle.rawk_record.specs.Drafts.{IsAhead, ahead_values, values_of}
use Rattle.rawk_record.proofs.build.carry_fields.Given as goal

abbrev pub invariant-loop-place : goal.invariant-loop-place
invariant-loop-place l = record {
  ahead : IsAhead l.separator l.parts l.earlier.text.items l.ahead;
  fields : ahead_values l.parts l.earlier.text.items l.ahead ≡ values_of l.initial.parts ++ drop l.from (resized l.place (values_of l.earlier));
}
