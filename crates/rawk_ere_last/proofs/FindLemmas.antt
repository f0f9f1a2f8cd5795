-- A way that is found from the start of the text on is one that there is.
use Rattle.std.proofs.Common.{◌≡◌, ℕ, Bool, List, length, Option, Some, None, sym, ◌∙◌, arith, true≢false}
use Rattle.std.specs.Prelude.{◌↔◌, IsTrue}
use Rattle.std.specs.Option.{is_some}
use Rattle.rawk_ere_tree.specs.declared.code.Instruction.{Instruction}
use Rattle.rawk_ere_walks.specs.Ways.{BeginsIn}
use Rattle.rawk_ere_automaton.specs.Search.{IsFound}

pub begins_where_found : (code : List Instruction) (s : List ℕ) (r : Option (ℕ × ℕ)) (b : Bool) → b ≡ is_some r → IsFound code s 0 r → IsTrue b ↔ BeginsIn code s 0 (length s)
begins_where_found code s None b some f = (λ h. absurd (true≢false (sym h ∙ some)), λ w. absurd (f.0 w.0 w.1 (omega arith) w.3 w.4))
begins_where_found code s (Some m) b some f = (λ h. (m.0, m.1, omega arith, omega (arith, f.1.1, f.1.2), f.0.1), λ w. some)
