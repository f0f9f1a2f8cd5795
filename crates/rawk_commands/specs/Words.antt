-- The words of a session, and the bytes that they are made of. Bytes are written by their codes: 9 is a tab, 32 a space, 95 `_`.
use Rattle.std.specs.Prelude.{ℕ, ◌==◌, Bool, ◌||◌, if◌then◌else◌, List, [], ◌∷◌, reverse, codes, Option, Some, None}
use Rattle.std.specs.Str.{bytes_eq}
use Rattle.rawk_value.specs.Values.{Bytes}
use Rattle.rawk_commands.specs.declared.command.Way.TheVariants.{Forward, Back}
use Rattle.rawk_commands.specs.declared.command.Goal.TheVariants.{AnyPoint, NoDeeper, Shallower, StopOnly}
use Rattle.rawk_commands.specs.declared.verb.Verb.{Verb}
use Rattle.rawk_commands.specs.declared.verb.Verb.TheVariants.{Break, Watch, Delete, Unwatch, Move, Run, Print, Set, ReverseSet, Backtrace, Quit}

-- the blanks of a line are space and tab
abbrev pub is_blank : ℕ → Bool
is_blank b = b == 32 || b == 9

-- a text without the blanks at its front
abbrev pub without_front : Bytes → Bytes
without_front [] = []
without_front (b ∷ bs) = if is_blank b then without_front bs else b ∷ bs

-- a text without the blanks at its ends
abbrev pub trimmed : Bytes → Bytes
trimmed text = reverse (without_front (reverse (without_front text)))

-- each command with its short form
abbrev pub commands : List (Bytes × Verb)
commands =
    (codes "break", Break) ∷ (codes "b", Break) ∷ (codes "watch", Watch) ∷ (codes "w", Watch)
    ∷ (codes "delete", Delete) ∷ (codes "d", Delete) ∷ (codes "unwatch", Unwatch)
    ∷ (codes "step", Move Forward AnyPoint) ∷ (codes "s", Move Forward AnyPoint)
    ∷ (codes "next", Move Forward NoDeeper) ∷ (codes "n", Move Forward NoDeeper)
    ∷ (codes "continue", Move Forward StopOnly) ∷ (codes "c", Move Forward StopOnly)
    ∷ (codes "finish", Move Forward Shallower)
    ∷ (codes "reverse-step", Move Back AnyPoint) ∷ (codes "rs", Move Back AnyPoint)
    ∷ (codes "reverse-next", Move Back NoDeeper) ∷ (codes "rn", Move Back NoDeeper)
    ∷ (codes "reverse-continue", Move Back StopOnly) ∷ (codes "rc", Move Back StopOnly)
    ∷ (codes "reverse-finish", Move Back Shallower)
    ∷ (codes "run", Run) ∷ (codes "r", Run) ∷ (codes "print", Print) ∷ (codes "p", Print)
    ∷ (codes "set", Set) ∷ (codes "reverse-set", ReverseSet)
    ∷ (codes "backtrace", Backtrace) ∷ (codes "bt", Backtrace) ∷ (codes "quit", Quit) ∷ (codes "q", Quit) ∷ []

-- what a word is by a table
abbrev pub lookup : List (Bytes × Verb) → Bytes → Option Verb
lookup [] word = None
lookup (e ∷ es) word = if bytes_eq word e.0 then Some e.1 else lookup es word

-- what a word asks for, if it is a command
unfoldable pub verb_of : Bytes → Option Verb
verb_of = lookup commands
