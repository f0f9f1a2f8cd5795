-- What is sought, and where.
use Rattle.std.specs.Prelude.{ℕ, List, refl}
use Rattle.std.specs.Coded.{Coded, code_by, coded×, coded_ℕ, coded_list}
use Rattle.rawk_ere_tree.specs.Tree.{Tree}
use Rattle.rawk_ere_tree.specs.TreeCode.{tree_code}

-- an expression, and a text in which its matches are sought
pub record Sought : Type 0 where
  pub ere : Tree
  pub text : List ℕ

-- it is stored as the pair of its fields
abbrev pub sought_code : Coded Sought
sought_code = code_by (Tree × List ℕ) (coded× tree_code (coded_list coded_ℕ)) (λ f. (f.ere, f.text)) (λ p. record { ere = p.0; text = p.1 }) (λ _. refl)
