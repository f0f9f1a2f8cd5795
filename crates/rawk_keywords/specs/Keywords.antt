-- The words that are no names (POSIX awk, "Lexical Conventions").
use Rattle.std.specs.Prelude.{ℕ, if◌then◌else◌, List, [], ◌∷◌, Option, Some, None, codes}
use Rattle.std.specs.Str.{bytes_eq}
use Rattle.rawk_keywords.specs.declared.builtin.Builtin.{Builtin}
use Rattle.rawk_keywords.specs.declared.token.Kind.{Kind}
use Rattle.rawk_keywords.specs.declared.token.Kind.TheVariants as k
use Rattle.rawk_keywords.specs.Builtins.{builtin_named}

-- the kind of a word by a table of words, or a name
abbrev pub lookup : List (List ℕ × Kind) → List ℕ → Kind
lookup [] word = k.Name
lookup (e ∷ es) word = if bytes_eq word e.0 then e.1 else lookup es word

-- the words that are no names, but for those of built-in functions: keywords, and what is left out
abbrev pub words : List (List ℕ × Kind)
words =
    (codes "BEGIN", k.BeginKeyword) ∷ (codes "END", k.EndKeyword) ∷ (codes "function", k.Function) ∷ (codes "if", k.If)
    ∷ (codes "else", k.Else) ∷ (codes "while", k.While) ∷ (codes "for", k.For) ∷ (codes "do", k.Do)
    ∷ (codes "break", k.Break) ∷ (codes "continue", k.Continue) ∷ (codes "next", k.Next) ∷ (codes "exit", k.Exit)
    ∷ (codes "return", k.Return) ∷ (codes "delete", k.Delete) ∷ (codes "in", k.In) ∷ (codes "getline", k.Getline)
    ∷ (codes "print", k.Print) ∷ (codes "printf", k.Printf)
    ∷ (codes "sin", k.LeftOut) ∷ (codes "cos", k.LeftOut) ∷ (codes "atan2", k.LeftOut) ∷ (codes "exp", k.LeftOut)
    ∷ (codes "log", k.LeftOut) ∷ (codes "sqrt", k.LeftOut) ∷ (codes "rand", k.LeftOut) ∷ (codes "srand", k.LeftOut)
    ∷ (codes "system", k.LeftOut) ∷ (codes "close", k.LeftOut) ∷ (codes "fflush", k.LeftOut) ∷ (codes "nextfile", k.LeftOut)
    ∷ (codes "ARGV", k.LeftOut) ∷ (codes "ARGC", k.LeftOut) ∷ (codes "ENVIRON", k.LeftOut) ∷ (codes "FILENAME", k.LeftOut) ∷ []

-- the kind of a word that names this built-in function, or none
abbrev pub kind_of : Option Builtin → List ℕ → Kind
kind_of None word = lookup words word
kind_of (Some function) word = k.Builtin

-- the kind of a word
unfoldable pub keyword : List ℕ → Kind
keyword word = kind_of (builtin_named word) word
