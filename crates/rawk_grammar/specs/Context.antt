-- Where jump statements may stand (POSIX awk, "Actions" and "User-Defined Functions").
use Rattle.std.specs.Prelude.{Bool, true, false}
use Rattle.rawk_keywords.specs.declared.token.Kind.{Kind}
use Rattle.rawk_keywords.specs.declared.token.Kind.TheVariants as k
use Rattle.rawk_grammar.specs.declared.context.Owner.{Owner}
use Rattle.rawk_grammar.specs.declared.context.Owner.TheVariants.{BeginOrEnd, Function}
use Rattle.rawk_grammar.specs.declared.context.Context.{Context}

-- outside of loops
abbrev pub of : Owner → Context
of w = record { owner = w; in_loop = false }

-- inside a loop
abbrev pub looped : Context → Context
looped c = record { owner = c.owner; in_loop = true }

-- a BEGIN or END action works on no record
abbrev pub has_record : Owner → Bool
has_record BeginOrEnd = false
has_record _ = true

abbrev pub is_function : Owner → Bool
is_function Function = true
is_function _ = false

-- whether the jump that begins with this token may stand here
abbrev pub allows : Context → Kind → Bool
allows c k.Next = has_record c.owner
allows c k.Break = c.in_loop
allows c k.Continue = c.in_loop
allows c k.Return = is_function c.owner
allows c _ = true
