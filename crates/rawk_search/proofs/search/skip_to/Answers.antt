use Rattle.std.proofs.Common.{◌<◌, length}
use Rattle.std.proofs.lemmas.Result.{IfOk-weaker}
use Rattle.rawk_ere_tree.specs.Open.{IsOpenFrom, MayBegin}
use Rattle.rawk_search.specs.Laws.{IsSkip, skip_of}
use Rattle.rawk_search.proofs.search.skip_to.Goals as goal

pub returns-clause-is : goal.returns-clause-is
returns-clause-is c =
    IfOk-weaker c.open_from.result (IsOpenFrom c.args.text.now c.args.ere.now c.args.from) (IsSkip c.args.text.now c.args.ere.now c.args.from)
    (skip_of c.args.text.now c.args.ere.now c.args.from) c.open_from.ensures

pub returns-clause-first : goal.returns-clause-first
returns-clause-first c =
    IfOk-weaker c.open_from.result (IsOpenFrom c.args.text.now c.args.ere.now c.args.from) (λ f. f < length c.args.text.now → MayBegin c.args.text.now c.args.ere.now f)
    (λ f h. h.here) c.open_from.ensures
