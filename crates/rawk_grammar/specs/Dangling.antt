-- Statements that end in an `if` with no `else` (POSIX awk, "Grammar", unterminated statements).
use Rattle.std.specs.Prelude.{Bool, true, false, Option, Some, None}
use Rattle.rawk_grammar.specs.declared.tree.Branch.{Branch, out-Branch}
use Rattle.rawk_grammar.specs.declared.tree.Stmt.{Stmt, fold-Stmt}
use Rattle.rawk_grammar.specs.declared.tree.Stmt.TheOpen.{Stmt-F, Branch-F, Head-F}

-- the same of a chain of branches, by what stands behind its last `else`
abbrev pub dangles_behind : Option Bool → Bool
dangles_behind None = true
dangles_behind (Some b) = b

abbrev pub dangles_by : Stmt-F Bool (Unit {0}) (Unit {0}) → Bool
dangles_by (Stmt-F.If branches last) = dangles_behind last
dangles_by (Stmt-F.While c body) = body
dangles_by (Stmt-F.For head body) = body
dangles_by (Stmt-F.ForIn left x array body) = body
dangles_by _ = false

abbrev pub no_branch : Branch-F Bool (Unit {0}) (Unit {0}) → Unit {0}
no_branch _ = tt

abbrev pub no_head : Head-F Bool (Unit {0}) (Unit {0}) → Unit {0}
no_head _ = tt

-- whether the statement ends in an `if` with no `else`
unfoldable pub dangles : Stmt → Bool
dangles s = fold-Stmt Bool (Unit {0}) (Unit {0}) dangles_by no_branch no_head s

-- whether its body does
unfoldable pub branch_dangles : Branch → Bool
branch_dangles b = dangles (out-Branch b).body
