-- The activations of functions, as a session tells of them.
use Rattle.std.specs.Prelude.{ℕ, List, [], ◌∷◌, Option, Some, None, slice_get}
use Rattle.rawk_value.specs.Values.{Bytes}
use Rattle.rawk_tree.specs.declared.tree.Function.{Function}
use Rattle.rawk_tree.specs.declared.tree.Kind.{Kind}
use Rattle.rawk_tree.specs.declared.tree.Program.{Program}
use Rattle.rawk_frames.specs.Frame.{Frame}
use Rattle.rawk_answers.specs.declared.stepper.Call.{Call}

-- a call that goes on: its function, and the site of its calling point
abbrev pub call_of : Frame → Call
call_of f = record { function = f.function; site = f.site }

-- a function's name; what is no function has none
abbrev pub name_of : Option Function → Bytes
name_of None = []
name_of (Some f) = f.name

-- the names of a function's parameters
abbrev pub parameters_of : Option Function → List Bytes
parameters_of None = []
parameters_of (Some f) = f.parameters.items

-- what they are
abbrev pub kinds_of : Option Function → List Kind
kinds_of None = []
kinds_of (Some f) = f.kinds.items

-- a function, by its number
abbrev pub function_at : Program → ℕ → Option Function
function_at p number = slice_get p.functions.items number

-- the names of the locals of the innermost activation; outside of functions there are none
abbrev pub local_names : Program → List Frame → List Bytes
local_names p [] = []
local_names p (f ∷ fs) = parameters_of (function_at p f.function)

-- what they are
abbrev pub local_kinds : Program → List Frame → List Kind
local_kinds p [] = []
local_kinds p (f ∷ fs) = kinds_of (function_at p f.function)
