-- Whole texts.
use Rattle.std.specs.Prelude.{◌≡◌, ℕ, zero, suc, List, Result, Ok, Err}
use Rattle.rawk_parsing.specs.declared.parse_error.ParseError.{ParseError}
use Rattle.rawk_parsing.specs.declared.parse_error.ParseError.TheVariants as refused
use Rattle.rawk_grammar.specs.declared.tree.Item.{Item}
use Rattle.rawk_grammar.specs.Programs.{Texts}

-- by the grammar the text has these items, with fewer than `depth` constructs open at once
abbrev pub IsText : ℕ → List Item → List ℕ → Type 0
IsText zero items text = ⊥
IsText (suc d) items text = Texts d items text

-- the answer is these items, or memory was refused
abbrev pub IsItems : List Item → Result (List Item) ParseError → Type 0
IsItems items (Ok found) = found ≡ items
IsItems items (Err e) = e ≡ refused.OutOfMemory
