use Rattle.std.proofs.lemmas.Result.{err_from_is_err_and}
use Rattle.rawk_syntax.proofs.Readings.{read_derived, read_exact, read_found, read_orderly, refused_exact, refused_orderly}
use Rattle.rawk_syntax.proofs.parsing.read.Goals as goal

pub settle_items-settled-requires : goal.settle_items-settled-requires
settle_items-settled-requires c = read_derived c.args.text.now c.new-tokens.result c.in_ok-items.items c.as_slice.result.now c.new-tokens.ensures c.in_ok-items.ensures.found c.as_slice.ensures

pub returns-clause-exact : goal.returns-clause-exact
returns-clause-exact c = read_exact c.args.text.now c.new-tokens.result c.in_ok-items.items c.as_slice.result.now c.program.new.tokens c.settle_items-settled.result c.new-tokens.ensures c.in_ok-items.ensures.exact c.as_slice.ensures c.settle_items-settled.ensures.exact

pub returns-clause-found : goal.returns-clause-found
returns-clause-found c = read_found c.args.text.now c.new-tokens.result c.in_ok-items.items c.as_slice.result.now c.settle_items-settled.result c.new-tokens.ensures c.in_ok-items.ensures.found c.as_slice.ensures c.settle_items-settled.ensures.found

pub returns-clause-derived : goal.returns-clause-derived
returns-clause-derived c = λ its orderly.
    read_orderly c.args.text.now c.new-tokens.result c.in_ok-items.items c.as_slice.result.now its c.settle_items-settled.result c.new-tokens.ensures c.in_ok-items.ensures.derived c.as_slice.ensures c.settle_items-settled.ensures.found c.settle_items-settled.ensures.exact orderly

pub returns-in_err-items-clause-exact : goal.returns-in_err-items-clause-exact
returns-in_err-items-clause-exact c =
    let p = err_from_is_err_and c.from_residual.result c.from_residual.ensures.1 in
    refused_exact c.args.text.now c.new-tokens.result c.from_residual.result c.in_err-items.field-0.0 p.0 c.new-tokens.ensures c.in_err-items.ensures.exact p.1 p.2

pub returns-in_err-items-clause-derived : goal.returns-in_err-items-clause-derived
returns-in_err-items-clause-derived c = λ its orderly.
    (let p = err_from_is_err_and c.from_residual.result c.from_residual.ensures.1 in
    refused_orderly c.args.text.now c.new-tokens.result its c.from_residual.result c.in_err-items.field-0.0 p.0 c.new-tokens.ensures c.in_err-items.ensures.derived p.1 p.2 orderly)
