-- A function value that parses statements to a depth.
use Rattle.std.specs.Prelude.{ℕ, Result}
use Rattle.std.specs.declared.alloc.Global.{Global}
use denote.Ref.{MutBor}
use Rattle.rawk_parsing.specs.declared.parse_error.ParseError.{ParseError}
use Rattle.rawk_parsing.specs.Parser.{Input, Parses}
use Rattle.rawk_grammar.specs.declared.context.Context.{Context}
use Rattle.rawk_grammar.specs.declared.tree.Stmt.{Stmt}
use Rattle.rawk_grammar.specs.Statement.{statement}

-- at this depth it may be called, and its answer is that of `statement`
pub record Nests (depth : ℕ) (pre : Global → MutBor Input → ℕ → Context → Type 0)
    (post : Global → MutBor Input → ℕ → Context → Result Stmt ParseError → MutBor Input → Type 0) : Type 0 where
  pub callable : (alloc : Global) (old : MutBor Input) (context : Context) → pre alloc old depth context
  pub reads : (alloc : Global) (old new : MutBor Input) (context : Context) (r : Result Stmt ParseError) → post alloc old depth context r new
      → Parses (statement depth context old.now) r new.now
