-- What can be a name (POSIX awk, "Lexical Conventions"). 95 is `_`.
use Rattle.std.specs.Prelude.{ℕ, Bool, true, false, ◌&&◌, ◌||◌, ◌==◌, List, [], ◌∷◌}
use Rattle.std.specs.Char.{is_ascii_alphabetic}
use Rattle.std.specs.List.{list_all}
use Rattle.rawk_keywords.specs.declared.token.Kind.{Kind}
use Rattle.rawk_keywords.specs.declared.token.Kind.TheVariants.{Name, LeftOut}
use Rattle.rawk_keywords.specs.declared.class.Class.TheVariants as class
use Rattle.rawk_keywords.specs.Classes.{is_in}
use Rattle.rawk_keywords.specs.Keywords.{keyword}

-- a letter or `_`
abbrev pub begins_name : ℕ → Bool
begins_name b = is_ascii_alphabetic b || b == 95

-- a letter, a digit or `_`
abbrev pub is_in_name : ℕ → Bool
is_in_name b = is_in class.Word b

-- a text of such bytes
abbrev pub has_name_form : List ℕ → Bool
has_name_form [] = false
has_name_form (b ∷ bs) = begins_name b && list_all is_in_name bs

-- whether the kind of a word is that of a keyword or of a built-in function
abbrev pub is_kept : Kind → Bool
is_kept Name = false
is_kept LeftOut = false
is_kept kind = true

-- a keyword or the name of a built-in function
abbrev pub is_reserved : List ℕ → Bool
is_reserved word = is_kept (keyword word)
