use Rattle.std.proofs.Common.{◌≡◌, ◌++◌, drop}
use Rattle.rawk_value.specs.declared.value.Value.TheVariants.{Uninitialized}
use Rattle.rawk_record.specs.Changed.{resized}
use Rattle.rawk_record.specs.Drafts.{IsDraft, values_of}
use Rattle.rawk_record.proofs.build.add_fields.Given as goal

abbrev pub invariant-loop-place : goal.invariant-loop-place
invariant-loop-place l = record {
  draft : IsDraft l.separator l.parts;
  fields : values_of l.parts ≡ values_of l.initial.parts ++ drop l.from (resized l.place l.earlier.fields);
  none : l.none ≡ Uninitialized;
}
