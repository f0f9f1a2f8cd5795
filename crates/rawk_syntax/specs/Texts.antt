-- Whole texts.
use Rattle.std.specs.Prelude.{◌≡◌, ◌≢◌, ◌⊎◌, ℕ, ◌+◌, ◌-◌, ◌<◌, ◌≤◌, List, length, Result, Ok, Err}
use Rattle.rawk_limits.specs.declared.TheConstants.{OPEN_CONSTRUCTS, PROGRAM_BYTES}
use Rattle.rawk_lexer.specs.Lines.{line_of}
use Rattle.rawk_parsing.specs.declared.refusal.Refusal.{Refusal}
use Rattle.rawk_parsing.specs.declared.refusal.RefusalKind.TheVariants as kinds
use Rattle.rawk_parsing.specs.declared.parse_error.ParseError.{ParseError}
use Rattle.rawk_parsing.specs.declared.parse_error.ParseError.TheVariants as refused
use Rattle.rawk_parsing.specs.Parser.{Outcome}
use Rattle.rawk_grammar.specs.declared.tree.Item.{Item}
use Rattle.rawk_grammar.specs.Items.{program}
use Rattle.rawk_grammar.specs.Texts as grammar
use Rattle.rawk_names.specs.declared.names.NameError.{NameError}
use Rattle.rawk_names.specs.declared.names.NameError.TheVariants as misused
use Rattle.rawk_names.specs.Items as naming
use Rattle.rawk_names.specs.Named.{Known, IsNamed, IsRefused}
use Rattle.rawk_names.specs.Noted.{Noted}
use Rattle.rawk_tree.specs.declared.tree.Program.{Program}
use Rattle.rawk_syntax.specs.Laid.{IsLaid}
use Rattle.rawk_syntax.specs.Patterns.{AllReadable, IsBadPlace}

-- ---- programs

-- by the grammar the text has these items, within the limit of open constructs
abbrev pub IsText : List ℕ → List Item → Type 0
IsText text items = grammar.IsText (OPEN_CONSTRUCTS + 1) items text

-- Each regular expression of the items is one, their names are in order, and the program is theirs by what is known of these.
pub record IsSettled (text : List ℕ) (items : List Item) (p : Program) : Type 0 where
  pub names : Known
  pub named : IsNamed (naming.program items) names
  pub patterns : AllReadable (naming.program items)
  pub laid : IsLaid text names items p

-- The program is that of items that the text has by the grammar, within the limit of open constructs.
pub record IsReading (text : List ℕ) (p : Program) : Type 0 where
  pub items : List Item
  pub derived : IsText text items
  pub settled : IsSettled text items p

-- The same, and the text is within the limit of bytes.
pub record IsProgram (text : List ℕ) (p : Program) : Type 0 where
  pub short : length text ≤ PROGRAM_BYTES
  pub reading : IsReading text p

-- By the grammar the text has these items, within the limit of open constructs, each regular expression of theirs is one, and their names are
-- in order.
pub record IsOrderly (text : List ℕ) (items : List Item) : Type 0 where
  pub derived : IsText text items
  pub names : Known
  pub named : IsNamed (naming.program items) names
  pub patterns : AllReadable (naming.program items)

-- the answer is a program of these items, or memory was refused
abbrev pub IsSettledAs : List ℕ → List Item → Result Program ParseError → Type 0
IsSettledAs text items (Ok p) = IsSettled text items p
IsSettledAs text items (Err e) = e ≡ refused.OutOfMemory

abbrev pub IsRead : List ℕ → List Item → Result Program Refusal → Type 0
IsRead text items (Ok p) = IsSettled text items p
IsRead text items (Err refusal) = refusal.kind ≡ kinds.OutOfMemory

-- ---- refusals

-- what is reported of names
abbrev pub parse_error_of : NameError → ParseError
parse_error_of misused.OutOfMemory = refused.OutOfMemory
parse_error_of (misused.Misused left) = refused.Here kinds.NameMisused left

-- what a program says of its names is refused so: for its first regular expression that is none, or, where each is one, for its names
pub data IsRefusedSo (noted : Noted) (e : ParseError) : Type 0 where
  bad_ere : (left : ℕ) → IsBadPlace noted.patterns noted.uses left → e ≡ refused.Here kinds.BadEre left → IsRefusedSo noted e
  misnamed : (why : NameError) → AllReadable noted → why ≢ misused.OutOfMemory → IsRefused noted why → e ≡ parse_error_of why → IsRefusedSo noted e

-- the regular expressions of the items, or their names, are refused so
abbrev pub IsMisnamed : List Item → ParseError → Type 0
IsMisnamed items e = IsRefusedSo (naming.program items) e

-- what the parser as a function gives is refused so: by itself, or by the regular expressions or the names of its items
abbrev pub IsFlawOf : Outcome (List Item) → ParseError → Type 0
IsFlawOf (Ok r) e = IsMisnamed r.0 e
IsFlawOf (Err f) e = f ≡ e

abbrev pub IsFlawIn : List ℕ → ParseError → Type 0
IsFlawIn text e = IsFlawOf (program (OPEN_CONSTRUCTS + 1) text) e

-- a text that is too long is refused at its first byte past the limit
abbrev pub IsTooLong : List ℕ → ParseError → Type 0
IsTooLong text e = (PROGRAM_BYTES < length text) × (e ≡ refused.Here kinds.TooDeep (length text - PROGRAM_BYTES))

-- why and where a text is refused: for its size, else by the grammar, else for a regular expression, else for a name
abbrev pub IsFlaw : List ℕ → ParseError → Type 0
IsFlaw text e = IsTooLong text e ⊎ ((length text ≤ PROGRAM_BYTES) × IsFlawIn text e)

-- a refusal with its line; want of memory has none
abbrev pub refusal_of : List ℕ → ParseError → Refusal
refusal_of text refused.OutOfMemory = record { kind = kinds.OutOfMemory; line = 0 }
refusal_of text (refused.Here kind left) = record { kind = kind; line = line_of text left }

-- the text is refused, with this kind and line
abbrev pub IsRefusal : List ℕ → Refusal → Type 0
IsRefusal text refusal = (e : ParseError) × IsFlaw text e × (refusal ≡ refusal_of text e)

-- an answer tells a flaw, if there is one: memory may also be refused
abbrev pub Tells : {A : Type 0} → (ParseError → Type 0) → Result A ParseError → Type 0
Tells Flaw (Ok a) = (e : ParseError) → Flaw e → ⊥
Tells Flaw (Err e) = e ≢ refused.OutOfMemory → Flaw e

abbrev pub Answers : List ℕ → Result Program Refusal → Type 0
Answers text (Ok p) = (e : ParseError) → IsFlaw text e → ⊥
Answers text (Err refusal) = refusal.kind ≢ kinds.OutOfMemory → IsRefusal text refusal

-- a text is refused in one way at most
abbrev pub IsRefusedOnce : Type 0
IsRefusedOnce = (text : List ℕ) (a b : Refusal) → IsRefusal text a → IsRefusal text b → a ≡ b
