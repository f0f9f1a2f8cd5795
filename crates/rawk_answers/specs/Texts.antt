-- The texts that the answers of a session are made of. 10 is a newline.
use Rattle.std.specs.Prelude.{ℕ, ◌+◌, ◌-◌, List, [], ◌∷◌, ◌++◌, length, flat_map, nat_eq, if◌then◌else◌, slice_get, slice_index_or, Option, Some, None, codes}
use Rattle.rawk_value.specs.Values.{Bytes, decimal}
use Rattle.rawk_value.specs.declared.value.Value.{Value}
use Rattle.rawk_value.specs.declared.fault.Fault.{Fault}
use Rattle.rawk_value.specs.declared.fault.Fault.TheVariants.{StepLimit}
use Rattle.rawk_value.specs.Faults.{fault_number, fault_text}
use Rattle.rawk_code.specs.Actions.{Ended, Faulted, Limited}
use Rattle.rawk_special.specs.Special.{field_count_name, global_name}
use Rattle.rawk_frames.specs.Frame.{Frame}
use Rattle.rawk_words.specs.declared.array.Array.{Array}
use Rattle.rawk_words.specs.declared.array.Array.TheVariants as array
use Rattle.rawk_store.specs.State.{State, array_in, count_in, element_in, keys_in, local_value}
use Rattle.rawk_tree.specs.declared.tree.Program.{Program}
use Rattle.rawk_tree.specs.Sites.{line_at}
use Rattle.rawk_commands.specs.declared.command.Place.TheVariants as place
use Rattle.rawk_commands.specs.Texts.{shown_element, shown_held, shown_place}
use Rattle.rawk_answers.specs.declared.stop.Scalar.{Scalar}
use Rattle.rawk_answers.specs.declared.stop.Scalar.TheVariants.{Global, FieldCount, Field}
use Rattle.rawk_answers.specs.declared.stop.Watched.{Watched}
use Rattle.rawk_answers.specs.declared.stop.Watched.TheVariants as watched
use Rattle.rawk_answers.specs.declared.stop.Lvalue.{Lvalue}
use Rattle.rawk_answers.specs.declared.stop.Lvalue.TheVariants.{Local, Shared, Element}
use Rattle.rawk_answers.specs.declared.stop.Stop.{Stop}
use Rattle.rawk_answers.specs.declared.stop.Stop.TheVariants.{Break, Watch}
use Rattle.rawk_answers.specs.declared.stop.Entry.{Entry}
use Rattle.rawk_answers.specs.Positions.{Position, Snapshot}
use Rattle.rawk_store.specs.Observed.{seen}
use Rattle.rawk_answers.specs.Watching.{scalar_at}
use Rattle.rawk_answers.specs.Activations.{name_of, function_at, local_names}

-- a scalar, as it is shown
abbrev pub scalar_text : List Bytes → Scalar → Bytes
scalar_text names (Global number) = global_name names number
scalar_text names FieldCount = field_count_name
scalar_text names (Field number) = shown_place (place.Field number)

-- a place that is watched, as it is shown
abbrev pub place_text : List Bytes → Watched → Bytes
place_text names (watched.Scalar place) = scalar_text names place
place_text names (watched.Element array key) = shown_element (slice_index_or names array []) key

-- a breakpoint or a watch, by its kind and number
abbrev pub entry_text : Entry → Bytes
entry_text e = elim e.stop [ Break site ↦ codes "Breakpoint " ++ decimal e.number | Watch place ↦ codes "Watchpoint " ++ decimal e.number ]

-- what is added to it: of a watch, its place
abbrev pub watch_text : List Bytes → Stop → Bytes
watch_text names (Break site) = []
watch_text names (Watch place) = codes ": " ++ place_text names place

-- the line of a breakpoint or a watch that stops
abbrev pub stop_line : List Bytes → Entry → Bytes
stop_line names e = entry_text e ++ watch_text names e.stop ++ 10 ∷ []

-- what is added to a breakpoint or a watch that is made: a breakpoint's line, a watch's place
abbrev pub spot_text : List ℕ → List Bytes → Stop → Bytes
spot_text lines names (Break site) = codes " at line " ++ decimal (line_at lines (Some site))
spot_text lines names (Watch place) = codes ": " ++ place_text names place

abbrev pub made_line : List ℕ → List Bytes → Entry → Bytes
made_line lines names e = entry_text e ++ spot_text lines names e.stop ++ 10 ∷ []

-- the line of the last one that was made
abbrev pub newest_line : List ℕ → List Bytes → Option Entry → Bytes
newest_line lines names None = []
newest_line lines names (Some e) = made_line lines names e

abbrev pub last_of : List Entry → Option Entry
last_of stops = slice_get stops (length stops - 1)

-- the line of a fault, where there is one
abbrev pub at_line : ℕ → Bytes
at_line line = if nat_eq line 0 then [] else codes " at line " ++ decimal line

-- a fault, with its line
abbrev pub fault_place : Fault → ℕ → Bytes
fault_place fault line = codes "fault F" ++ decimal (fault_number fault) ++ at_line line ++ codes ": " ++ fault_text fault

-- where a point is
abbrev pub site_text : List ℕ → Option ℕ → Bytes
site_text lines None = codes "record read"
site_text lines (Some site) = codes "line " ++ decimal (line_at lines (Some site))

-- where a machine is: how the run ended, or where its point is
abbrev pub where_text : List ℕ → Snapshot → Bytes
where_text lines h = elim h.over [
  | None ↦ site_text lines h.site
  | Some ending ↦ elim ending [
    | Ended ↦ codes "ended with status " ++ decimal h.state.status
    | Faulted fault ↦ fault_place fault (line_at lines h.site)
    | Limited site ↦ fault_place StepLimit (line_at lines h.site)
  ]
]

-- the place line
abbrev pub place_line : Position → Snapshot → Bytes
place_line m h = codes "point " ++ decimal m.point ++ codes ", " ++ where_text m.program.lines.items h ++ 10 ∷ []

-- text as whole lines
abbrev pub as_lines : Bytes → Bytes
as_lines text = if nat_eq (slice_index_or text (length text - 1) 10) 10 then text else text ++ 10 ∷ []

-- the newline that text lacks for that
abbrev pub line_end : Bytes → Bytes
line_end text = if nat_eq (slice_index_or text (length text - 1) 10) 10 then [] else 10 ∷ []

-- the name of an array where these are the locals
abbrev pub array_name : List Bytes → List Bytes → Array → Bytes
array_name locals names (array.Global number) = slice_index_or names number []
array_name locals names (array.Local number) = slice_index_or locals number []

-- a place where these are the locals
abbrev pub lvalue_text : List Bytes → List Bytes → Lvalue → Bytes
lvalue_text locals names (Local number) = slice_index_or locals number []
lvalue_text locals names (Shared place) = scalar_text names place
lvalue_text locals names (Element a key) = shown_element (array_name locals names a) key

-- what it holds: an element that is not there holds nothing
abbrev pub held_at : Lvalue → State → Option Value
held_at (Local number) s = Some (local_value number s)
held_at (Shared place) s = Some (scalar_at place (seen s))
held_at (Element a key) s = element_in (array_in a s.frames) key s.arrays

-- a place and what it holds
abbrev pub shown_line : Program → Lvalue → Snapshot → Bytes
shown_line p place h = lvalue_text (local_names p h.state.frames) p.names.items place ++ codes " = " ++ shown_held (held_at place h.state) ++ 10 ∷ []

-- an array: its name, and how many elements it has
abbrev pub array_line : Program → Array → State → Bytes
array_line p a s = array_name (local_names p s.frames) p.names.items a ++ codes ": array, " ++ decimal (count_in (array_in a s.frames) s.arrays) ++ codes " elements\n"

-- a line for each of these keys
abbrev pub element_lines : Program → Array → Snapshot → List Bytes → Bytes
element_lines p a h keys = flat_map (λ key. shown_line p (Element a key) h) keys

-- an array with its elements, in byte order of the keys
abbrev pub array_text : Program → Array → Snapshot → Bytes
array_text p a h = array_line p a h.state ++ element_lines p a h (keys_in (array_in a h.state.frames) h.state.arrays)

-- an activation, by its number and the line where it stands
abbrev pub frame_line : ℕ → Bytes → ℕ → Bytes
frame_line number name line = codes "#" ++ decimal number ++ codes " " ++ name ++ codes " line " ++ decimal line ++ 10 ∷ []

-- the activations from one of this number outward, which stands at this line; each further one stands where it called
abbrev pub frame_lines : Program → ℕ → ℕ → List Frame → Bytes
frame_lines p number line [] = frame_line number (codes "main") line
frame_lines p number line (f ∷ fs) = frame_line number (name_of (function_at p f.function)) line ++ frame_lines p (number + 1) (line_at p.lines.items f.site) fs

-- all activations, the innermost first
abbrev pub backtrace : Program → Snapshot → Bytes
backtrace p h = frame_lines p 0 (line_at p.lines.items h.site) h.state.frames
