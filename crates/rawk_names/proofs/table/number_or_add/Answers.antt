use Rattle.std.proofs.Common.{sym, ◌∙◌, subst, refl}
use Rattle.rawk_keys.specs.ArrayKey.{array_key}
use Rattle.rawk_names.specs.Table.{numbered, AreOnce}
use Rattle.rawk_names.specs.Tables.{once_more}
use Rattle.rawk_names.proofs.table.number_or_add.Goals as goal

pub returns-in-Some-clause-did : goal.returns-in-Some-clause-did
unfolding numbered
returns-in-Some-clause-did c = rw (sym c.find_in.ensures.value ∙ c.in-Some.is) refl

pub returns-in_ok-add-in-None-clause-did : goal.returns-in_ok-add-in-None-clause-did
unfolding numbered
returns-in_ok-add-in-None-clause-did c = rw (sym c.find_in.ensures.value ∙ c.in-None.is, c.in_ok-add-in-None.ensures.did, c.len-place.ensures) refl

pub returns-in_ok-add-in-None-clause-once : goal.returns-in_ok-add-in-None-clause-once
returns-in_ok-add-in-None-clause-once c =
    subst AreOnce (sym c.in_ok-add-in-None.ensures.did) (once_more c.args.keys.now (array_key c.args.group c.args.word.now) c.requires (sym c.find_in.ensures.value ∙ c.in-None.is))
