-- A function value that parses expressions to a depth.
use Rattle.std.specs.Prelude.{ℕ, Result}
use Rattle.std.specs.declared.alloc.Global.{Global}
use denote.Ref.{MutBor}
use Rattle.rawk_parsing.specs.declared.tree.Expr.{Expr}
use Rattle.rawk_expression.specs.declared.grammar.Wanted.{Wanted}
use Rattle.rawk_parsing.specs.declared.parse_error.ParseError.{ParseError}
use Rattle.rawk_parsing.specs.Parser.{Input, Parses}
use Rattle.rawk_expression.specs.Expression.{expression}

-- at this depth it may be called, and its answer is that of `expression`
pub record Nests (depth : ℕ) (pre : Global → MutBor Input → ℕ → Wanted → Type 0)
    (post : Global → MutBor Input → ℕ → Wanted → Result Expr ParseError → MutBor Input → Type 0) : Type 0 where
  pub callable : (alloc : Global) (old : MutBor Input) (wanted : Wanted) → pre alloc old depth wanted
  pub reads : (alloc : Global) (old new : MutBor Input) (wanted : Wanted) (r : Result Expr ParseError) → post alloc old depth wanted r new
      → Parses (expression depth wanted old.now) r new.now
