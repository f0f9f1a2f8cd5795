-- Which global names are arrays' (POSIX awk, Variables and Special Variables).
use Rattle.std.specs.Prelude.{ℕ, Bool, true, false, List, Option, None, Some, slice_get}
use Rattle.std.specs.List.{position}
use Rattle.std.specs.Str.{bytes_eq}
use Rattle.rawk_tree.specs.declared.tree.Kind.{Kind}
use Rattle.rawk_tree.specs.declared.tree.Kind.TheVariants as kind

abbrev pub is_array : Option Kind → Bool
is_array None = false
is_array (Some kind.Scalar) = false
is_array (Some kind.Array) = true

abbrev pub kind_at : List Kind → Option ℕ → Option Kind
kind_at kinds None = None
kind_at kinds (Some number) = slice_get kinds number

-- whether a name is that of a global array, by what each of these names is
abbrev pub names_array : List (List ℕ) → List Kind → List ℕ → Bool
names_array names kinds name = is_array (kind_at kinds (position (bytes_eq name) names))
