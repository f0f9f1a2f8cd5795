-- What a session's names are in a program.
use Rattle.std.specs.Prelude.{ℕ, Bool, List, nat_eq, if◌then◌else◌, position, slice_get, Option, Some, None, is_some, option_map, Result, Ok, Err}
use Rattle.std.specs.Str.{bytes_eq}
use Rattle.rawk_tree.specs.declared.tree.Program.{Program}
use Rattle.rawk_tree.specs.declared.tree.Kind.{Kind}
use Rattle.rawk_tree.specs.Kinds.{is_array, names_array}
use Rattle.rawk_tree.specs.Sites.{entry_of}
use Rattle.rawk_value.specs.declared.value.Value.{Value}
use Rattle.rawk_value.specs.declared.value.Value.TheVariants.{Number, String}
use Rattle.rawk_value.specs.Values.{Bytes}
use Rattle.rawk_store.specs.State.{State, Target, assigned}
use Rattle.rawk_store.specs.declared.target.Target.TheVariants as target
use Rattle.rawk_special.specs.Special.{global_number, is_field_count}
use Rattle.rawk_commands.specs.declared.command.Place.{Place}
use Rattle.rawk_commands.specs.declared.command.Place.TheVariants.{Name, Element, Field}
use Rattle.rawk_commands.specs.declared.command.Spot.{Spot}
use Rattle.rawk_commands.specs.declared.command.Spot.TheVariants.{Line, Function}
use Rattle.rawk_commands.specs.declared.command.Constant.{Constant}
use Rattle.rawk_commands.specs.declared.command.Constant.TheVariants as constant
use Rattle.rawk_commands.specs.declared.command.C.{C}
use Rattle.rawk_commands.specs.declared.command.C.TheVariants.{BadArgument, NoSuchVariable}
use Rattle.rawk_answers.specs.declared.stop.Scalar.{Scalar}
use Rattle.rawk_answers.specs.declared.stop.Scalar.TheVariants as scalar
use Rattle.rawk_answers.specs.declared.stop.Watched.{Watched}
use Rattle.rawk_answers.specs.declared.stop.Watched.TheVariants as watched
use Rattle.rawk_answers.specs.declared.stop.Lvalue.{Lvalue}
use Rattle.rawk_answers.specs.declared.stop.Lvalue.TheVariants as lvalue
use Rattle.rawk_answers.specs.declared.stop.Lvalue.TheVariants.{Local, Shared}
use Rattle.rawk_words.specs.declared.array.Array.{Array}
use Rattle.rawk_words.specs.declared.array.Array.TheVariants as array
use Rattle.rawk_code.specs.Actions.{fault_of}

-- what the name of a scalar is: NF, a special variable, or a global of the program
abbrev pub scalar_named : List Bytes → Bytes → Option Scalar
scalar_named names name = if is_field_count name then Some scalar.FieldCount else option_map scalar.Global (global_number names name)

-- the value, or else why there is none
abbrev pub or_refused : {A : Type 0} → C → Option A → Result A C
or_refused reason None = Err reason
or_refused reason (Some place) = Ok place

-- the place that a name of a program is, or why it is none: the name of an array is no place
abbrev pub named : Program → Bytes → Result Scalar C
named p name = if names_array p.names.items p.kinds.items name then Err BadArgument else or_refused NoSuchVariable (scalar_named p.names.items name)

-- why a name with a subscript is refused, by what the name is without one
abbrev pub subscript_refusal : {A : Type 0} → Result A C → C
subscript_refusal (Ok place) = BadArgument
subscript_refusal (Err reason) = reason

-- the number of the array that a name of a program is, if it is one
abbrev pub array_number : Program → Bytes → Option ℕ
array_number p name = if names_array p.names.items p.kinds.items name then position (bytes_eq name) p.names.items else None

-- a scalar, to be watched
abbrev pub scalar_watched : Result Scalar C → Result Watched C
scalar_watched (Ok place) = Ok (watched.Scalar place)
scalar_watched (Err reason) = Err reason

-- the element at a key of the array of a number, to be watched, or why there is none
abbrev pub element_watched : Option ℕ → Bytes → C → Result Watched C
element_watched (Some array) key reason = Ok (watched.Element array key)
element_watched None key reason = Err reason

-- a place that can be watched, or why it is refused: a name that is none, an array without a subscript, or a subscript on a scalar
abbrev pub place_of : Program → Place → Result Watched C
place_of p (Name name) = scalar_watched (named p name)
place_of p (Element name key) = element_watched (array_number p name) key (subscript_refusal (named p name))
place_of p (Field number) = Ok (watched.Scalar (scalar.Field number))

-- the place that a name is where these are what the locals are: one of them, or else what it is everywhere; one that is an array is no place
abbrev pub local_or : List Kind → Option ℕ → Result Scalar C → Result Lvalue C
local_or kinds (Some number) elsewhere = if is_array (slice_get kinds number) then Err BadArgument else Ok (Local number)
local_or kinds None (Ok place) = Ok (Shared place)
local_or kinds None (Err reason) = Err reason

abbrev pub named_here : List Bytes → List Kind → Program → Bytes → Result Lvalue C
named_here locals kinds p name = local_or kinds (position (bytes_eq name) locals) (named p name)

-- the array that a name of a program is, if it is one
abbrev pub array_named : Program → Bytes → Option Array
array_named p name = option_map array.Global (array_number p name)

-- the array that a name is where these are what the locals are: one of them, or else what it is everywhere
abbrev pub local_array_or : List Kind → Option ℕ → Option Array → Option Array
local_array_or kinds (Some number) elsewhere = if is_array (slice_get kinds number) then Some (array.Local number) else None
local_array_or kinds None elsewhere = elsewhere

abbrev pub array_here : List Bytes → List Kind → Program → Bytes → Option Array
array_here locals kinds p name = local_array_or kinds (position (bytes_eq name) locals) (array_named p name)

-- the element at a key of an array, or why there is none
abbrev pub element_of : Option Array → Bytes → C → Result Lvalue C
element_of (Some a) key reason = Ok (lvalue.Element a key)
element_of None key reason = Err reason

-- an array that can be shown with its elements
abbrev pub listed_of : List Bytes → List Kind → Program → Place → Option Array
listed_of locals kinds p (Name name) = array_here locals kinds p name
listed_of locals kinds p (Element name key) = None
listed_of locals kinds p (Field number) = None

-- a place that can be shown and set where these are the locals, or why it is refused
abbrev pub lvalue_of : List Bytes → List Kind → Program → Place → Result Lvalue C
lvalue_of locals kinds p (Name name) = named_here locals kinds p name
lvalue_of locals kinds p (Element name key) = element_of (array_here locals kinds p name) key (subscript_refusal (named_here locals kinds p name))
lvalue_of locals kinds p (Field number) = Ok (Shared (scalar.Field number))

-- the site of a breakpoint: the first one on a line, or the entry of a function
abbrev pub site_of : Program → Spot → Option ℕ
site_of p (Line line) = position (λ at. nat_eq at line) p.lines.items
site_of p (Function name) = entry_of p.functions.items name

-- what is assigned
abbrev pub shared_target : Scalar → Target
shared_target (scalar.Global number) = target.Global number
shared_target scalar.FieldCount = target.FieldCount
shared_target (scalar.Field number) = target.Field number

abbrev pub target_of : Lvalue → Target
target_of (Local number) = target.Local number
target_of (Shared place) = shared_target place
target_of (lvalue.Element a key) = target.Element a key

abbrev pub constant_value : Constant → Value
constant_value (constant.Number n) = Number n
constant_value (constant.Text text) = String text

-- whether an assignment is refused
abbrev pub is_refused : Target → Value → State → Bool
is_refused t v s = is_some (fault_of (assigned t v s))
