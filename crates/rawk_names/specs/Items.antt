-- The names that a program defines, and what each part of it mentions (POSIX awk, "User-Defined Functions", "Variables and Special Variables").
use Rattle.std.specs.Prelude.{ℕ, ◌+◌, if◌then◌else◌, List, [], ◌∷◌, ◌++◌, length, Option, Some, None}
use Rattle.rawk_parsing.specs.declared.tree.Name.{Name}
use Rattle.rawk_grammar.specs.declared.tree.Item.{Item}
use Rattle.rawk_grammar.specs.declared.tree.Item.TheVariants as item
use Rattle.rawk_keys.specs.ArrayKey.{array_key}
use Rattle.rawk_names.specs.declared.usage.What.TheVariants as what
use Rattle.rawk_names.specs.Table.{place_of, numbered}
use Rattle.rawk_names.specs.Noted.{Word, Noted, with_use, noted_all}
use Rattle.rawk_names.specs.Statements.{action_mentions, pattern_mentions, given_mentions}
use Rattle.rawk_special.specs.Special.{field_count_name, special_names, is_special}

-- PART 1: what the program defines

abbrev pub with_variable : ℕ → Word → Noted → Noted
with_variable scope word n = record n { variables = (numbered (array_key scope word) n.variables).1 }

abbrev pub with_globals : List Word → Noted → Noted
with_globals [] n = n
with_globals (w ∷ ws) n = with_globals ws (with_variable 0 w n)

-- the number of fields, and then the other special variables by their numbers
abbrev pub special_words : List Word
special_words = field_count_name ∷ special_names

abbrev pub empty : Noted
empty = record { scope = 0; functions = []; signatures = []; variables = []; patterns = []; uses = [] }

unfoldable pub start : Noted
start = with_globals special_words empty

abbrev pub parameter_at : ℕ → Name → Noted → Option ℕ → Noted
parameter_at scope x n (Some variable) = with_use x.left what.Misuse n
parameter_at scope x n None = with_variable scope x.word n

-- a parameter: neither a special variable nor one that stood in the list before
unfoldable pub parameter_defined : ℕ → Name → Noted → Noted
parameter_defined scope x n = if is_special x.word then with_use x.left what.Misuse n else parameter_at scope x n (place_of (array_key scope x.word) n.variables)

abbrev pub parameters_defined : ℕ → List Name → Noted → Noted
parameters_defined scope [] n = n
parameters_defined scope (x ∷ xs) n = parameters_defined scope xs (parameter_defined scope x n)

abbrev pub begun : Name → Noted → Noted
begun f n = record n { functions = (numbered (array_key 0 f.word) n.functions).1 }

-- the parameters since a place are those of one function
abbrev pub signed : ℕ → Noted → Noted
signed first n = record n { signatures = n.signatures ++ record { first = first; end = length n.variables } ∷ [] }

abbrev pub function_in : List Name → Noted → Noted
function_in parameters n = signed (length n.variables) (parameters_defined (length n.functions) parameters n)

abbrev pub function_at : Name → List Name → Noted → Option ℕ → Noted
function_at f parameters n (Some number) = with_use f.left what.Misuse n
function_at f parameters n None = function_in parameters (begun f n)

-- a function: neither a special variable nor one that was defined before
unfoldable pub function_defined : Name → List Name → Noted → Noted
function_defined f parameters n = if is_special f.word then with_use f.left what.Misuse n else function_at f parameters n (place_of (array_key 0 f.word) n.functions)

abbrev pub defined : Item → Noted → Noted
defined (item.Function left f parameters body) n = function_defined f parameters n
defined _ n = n

abbrev pub all_defined : List Item → Noted → Noted
all_defined [] n = n
all_defined (i ∷ is) n = all_defined is (defined i n)

-- PART 2: what it mentions

abbrev pub checked_at : Name → Noted → Option ℕ → Noted
checked_at x n None = n
checked_at x n (Some function) = with_use x.left what.Misuse n

-- a parameter has not the name of a function
unfoldable pub parameter_checked : Name → Noted → Noted
parameter_checked x n = checked_at x n (place_of (array_key 0 x.word) n.functions)

abbrev pub parameters_checked : List Name → Noted → Noted
parameters_checked [] n = n
parameters_checked (x ∷ xs) n = parameters_checked xs (parameter_checked x n)

abbrev pub scope_of : Option ℕ → ℕ
scope_of None = 0
scope_of (Some function) = function + 1

abbrev pub within : ℕ → Noted → Noted
within scope n = record n { scope = scope }

unfoldable pub inside : Name → Noted → Noted
inside f n = within (scope_of (place_of (array_key 0 f.word) n.functions)) n

abbrev pub item_noted : Item → Noted → Noted
item_noted (item.Begin ss) n = noted_all (action_mentions ss) n
item_noted (item.End ss) n = noted_all (action_mentions ss) n
item_noted (item.Always left ss) n = noted_all (action_mentions ss) n
item_noted (item.Rule pattern action) n = noted_all (given_mentions action) (noted_all (pattern_mentions pattern) n)
item_noted (item.Function left f parameters body) n = within 0 (noted_all (action_mentions body) (parameters_checked parameters (inside f n)))

abbrev pub all_noted : List Item → Noted → Noted
all_noted [] n = n
all_noted (i ∷ is) n = all_noted is (item_noted i n)

-- what a program says of its names
unfoldable pub program : List Item → Noted
program items = all_noted items (all_defined items start)
