-- Which expression a pattern is.
use Rattle.std.specs.Prelude.{◌≡◌, ℕ, List, []}
use Rattle.rawk_ere_pattern.specs.declared.token.Token.{Token}
use Rattle.rawk_ere_pattern.specs.declared.error.EreError.{EreError}
use Rattle.rawk_ere_pattern.specs.declared.error.EreError.TheVariants as error
use Rattle.rawk_ere_tree.specs.Tree.{Tree, IsWithinLimits}
use Rattle.rawk_ere_pattern.specs.Grammar.{Alternatives, Derives}
use Rattle.rawk_ere_pattern.specs.Pattern.{AreTokens}

-- the bytes are tokens that the grammar derives the expression from
abbrev pub IsPatternOf : List ℕ → Tree → Type 0
IsPatternOf pattern e = (ts : List Token) × AreTokens pattern ts × Derives Alternatives ts e []

-- why a pattern was refused: it is no expression, or its expression is beyond the limits
abbrev pub IsRefused : EreError → List ℕ → Type 0
IsRefused error.Syntax pattern = (e : Tree) → IsPatternOf pattern e → ⊥
IsRefused error.TooLarge pattern = (e : Tree) × IsPatternOf pattern e × (IsWithinLimits e → ⊥)
IsRefused error.Memory pattern = Unit {0}

-- a pattern is one expression at most
abbrev pub IsReadOnce : Type 0
IsReadOnce = (pattern : List ℕ) (a b : Tree) → IsPatternOf pattern a → IsPatternOf pattern b → a ≡ b
