-- The sites of a program: their lines, and those of the entries of functions.
use Rattle.std.specs.Prelude.{ℕ, List, [], ◌∷◌, Option, None, Some, if◌then◌else◌, slice_index_or}
use Rattle.std.specs.Str.{bytes_eq}
use Rattle.rawk_tree.specs.declared.tree.Function.{Function}

-- the line of a site; what has no site, as the reading of a record, has line 0
abbrev pub line_at : List ℕ → Option ℕ → ℕ
line_at lines None = 0
line_at lines (Some site) = slice_index_or lines site 0

-- the site of the entry of the function with a name
abbrev pub entry_of : List Function → List ℕ → Option ℕ
entry_of [] name = None
entry_of (f ∷ functions) name = if bytes_eq name f.name then Some f.site else entry_of functions name
