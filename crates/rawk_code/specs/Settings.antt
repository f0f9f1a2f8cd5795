-- Which first values a program can take (POSIX awk, Options, -v).
use Rattle.std.specs.Prelude.{Bool, not, ◌&&◌, List, is_none}
use Rattle.std.specs.List.{list_all}
use Rattle.rawk_keywords.specs.Name.{has_name_form, is_reserved}
use Rattle.rawk_special.specs.Special.{is_field_count}
use Rattle.rawk_value.specs.Values.{Bytes}
use Rattle.rawk_tree.specs.declared.tree.Program.{Program}
use Rattle.rawk_tree.specs.Kinds.{names_array}
use Rattle.rawk_tree.specs.Sites.{entry_of}
use Rattle.rawk_code.specs.declared.settings.FirstValue.{FirstValue}

-- a name that can be a scalar's in a program, where it is no function's and no array's, and not NF, which no first value can set
abbrev pub can_assign : Program → Bytes → Bool
can_assign p name = has_name_form name && not (is_reserved name) && not (is_field_count name) && is_none (entry_of p.functions.items name) && not (names_array p.names.items p.kinds.items name)

-- each of them can be assigned
abbrev pub settings_fit : Program → List FirstValue → Bool
settings_fit p settings = list_all (λ value. can_assign p value.name) settings
