-- The line of a command reads as the command.
use Rattle.std.proofs.Common.{◌≡◌, refl, sym, ap, ◌∙◌, ℕ, ◌+◌, ◌<◌, ◌≤◌, ◌^◌, Bool, true, false, cond, [], ◌∷◌, ◌++◌, length, Some, Ok, arith, append_assoc, reverse}
use Rattle.rawk_limits.specs.declared.TheConstants.{LAST_FIELD}
use Rattle.std.specs.Prelude.{pos, negsuc, codes}
use Rattle.std.specs.List.{flat_map, list_all, prefix_len}
use Rattle.std.specs.Option.{option_map}
use Rattle.std.specs.Char.{is_ascii_digit}
use Rattle.std.proofs.lemmas.Bool.Decides.{nat_tests}
use Rattle.std.proofs.Math.Seq.{take-append_seam, drop-append_seam}
use Rattle.std.proofs.lemmas.List.Elements.{recursion_from_All}
use Rattle.std.proofs.lemmas.List.{reverse-append, reverse-reverse}
use Rattle.rawk_value.specs.Values.{Bytes, decimal}
use Rattle.rawk_commands.specs.declared.command.Command.{Command}
use Rattle.rawk_commands.specs.declared.command.Command.TheVariants as command
use Rattle.rawk_commands.specs.declared.command.Constant.{Constant}
use Rattle.rawk_commands.specs.declared.command.Constant.TheVariants.{Number, Text}
use Rattle.rawk_commands.specs.declared.command.Goal.{Goal}
use Rattle.rawk_commands.specs.declared.command.Goal.TheVariants.{AnyPoint, NoDeeper, Shallower, StopOnly}
use Rattle.rawk_commands.specs.declared.command.Place.{Place}
use Rattle.rawk_commands.specs.declared.command.Place.TheVariants.{Name, Element, Field}
use Rattle.rawk_commands.specs.declared.command.Spot.{Spot}
use Rattle.rawk_commands.specs.declared.command.Spot.TheVariants.{Line, Function}
use Rattle.rawk_commands.specs.declared.command.Way.{Way}
use Rattle.rawk_commands.specs.declared.command.Way.TheVariants.{Forward, Back}
use Rattle.rawk_commands.specs.declared.verb.Verb.{Verb}
use Rattle.rawk_commands.specs.declared.verb.Verb.TheVariants as verb
use Rattle.rawk_commands.specs.Reading.{reading, asked_on, asked_by, or_bad_argument, command_of, spot_of, count_of, place_front, constant_of, setting, keyed, field_front}
use Rattle.rawk_commands.specs.Texts.{IsPlace, shown_byte, shown_element, shown_place, shown_text}
use Rattle.rawk_commands.specs.Lines.{line_of, word_of, written_constant, written_spot, IsCommand, IsConstant, IsSpot}
use Rattle.rawk_keywords.specs.Name.{begins_name, has_name_form, is_in_name}
use Rattle.rawk_commands.specs.Words.{verb_of, trimmed, without_front, is_blank}
use Rattle.rawk_commands.proofs.Shown.{constant_shown}
use Rattle.rawk_commands.proofs.ShownNumbers.{and_first, and_second, prefix_all, Writes, writes, number_written}
use Rattle.rawk_commands.proofs.ShownPlaces.{letter_is_word, place_named, text_shown, number_shown, place_shown}

-- words alone
move_read : (way : Way) (goal : Goal) → reading (word_of way goal) ≡ Ok (Some (command.Move way goal))
unfolding reading verb_of
move_read Forward AnyPoint = refl
move_read Forward NoDeeper = refl
move_read Forward Shallower = refl
move_read Forward StopOnly = refl
move_read Back AnyPoint = refl
move_read Back NoDeeper = refl
move_read Back Shallower = refl
move_read Back StopOnly = refl

run_read : reading (codes "run") ≡ Ok (Some command.Run)
unfolding reading verb_of
run_read = refl

reverse_set_read : reading (codes "reverse-set") ≡ Ok (Some command.ReverseSet)
unfolding reading verb_of
reverse_set_read = refl

backtrace_read : reading (codes "backtrace") ≡ Ok (Some command.Backtrace)
unfolding reading verb_of
backtrace_read = refl

quit_read : reading (codes "quit") ≡ Ok (Some command.Quit)
unfolding reading verb_of
quit_read = refl

-- ---- texts that neither begin nor end with a blank

-- a text that begins with a byte that is no blank
record Begins (text : Bytes) : Type 0 where
  pub first : ℕ
  pub rest : Bytes
  pub solid : is_blank first ≡ false
  pub joined : text ≡ first ∷ rest

-- a text that ends with one
record Ends (text : Bytes) : Type 0 where
  pub front : Bytes
  pub last : ℕ
  pub solid : is_blank last ≡ false
  pub joined : text ≡ front ++ last ∷ []

begun : (text : Bytes) → Begins text → without_front text ≡ text
begun text h = ap without_front h.joined ∙ rw h.solid refl ∙ sym h.joined

kept : (word text : Bytes) → ((more : Bytes) → without_front (word ++ more) ≡ word ++ more) → Ends text → trimmed (word ++ text) ≡ word ++ text
kept word text w h =
    let e : reverse (word ++ text) ≡ h.last ∷ (reverse h.front ++ reverse word) =
    reverse-append word text ∙ ap (λ s. s ++ reverse word) (ap reverse h.joined ∙ reverse-append h.front (h.last ∷ [])) in
    let k : without_front (h.last ∷ (reverse h.front ++ reverse word)) ≡ h.last ∷ (reverse h.front ++ reverse word) = rw h.solid refl in
    ap (λ s. reverse (without_front (reverse s))) (w text)
    ∙ ap (λ s. reverse (without_front s)) e
    ∙ ap reverse (k ∙ sym e)
    ∙ reverse-reverse (word ++ text)

ends_behind : (word text : Bytes) → Ends text → Ends (word ++ text)
ends_behind word text h =
    record { front = word ++ h.front; last = h.last; solid = h.solid; joined = ap (λ s. word ++ s) h.joined ∙ sym (append_assoc word h.front (h.last ∷ [])) }

-- bytes of a kind that is no blank
ends_all : (p : ℕ → Bool) → ((b : ℕ) → p b ≡ true → is_blank b ≡ false) → (b : ℕ) (bs : Bytes) → list_all p (b ∷ bs) ≡ true → Ends (b ∷ bs)
ends_all p solid b [] h = record { front = []; last = b; solid = solid b (and_first (p b) true h); joined = refl }
ends_all p solid b (c ∷ bs) h =
    ends_behind (b ∷ []) (c ∷ bs) (ends_all p solid c bs (and_second (p b) (list_all p (c ∷ bs)) h))

word_solid : (b : ℕ) → is_in_name b ≡ true → is_blank b ≡ false
word_solid b h = grind (arith, nat_tests)

digit_solid : (b : ℕ) → is_ascii_digit b ≡ true → is_blank b ≡ false
digit_solid b h = grind (arith, nat_tests)

-- ---- names and numbers

name_begins : (name : Bytes) → has_name_form name ≡ true → Begins name
name_begins [] h = cc
name_begins (b ∷ bs) h =
    let letter = and_first (begins_name b) (list_all is_in_name bs) h in
    record { first = b; rest = bs; solid = word_solid b (letter_is_word b letter); joined = refl }

name_ends : (name : Bytes) → has_name_form name ≡ true → Ends name
name_ends [] h = cc
name_ends (b ∷ bs) h =
    let letter = and_first (begins_name b) (list_all is_in_name bs) h in
    let others = and_second (begins_name b) (list_all is_in_name bs) h in
    let all : list_all is_in_name (b ∷ bs) ≡ true = rw (letter_is_word b letter, others) refl in
    ends_all is_in_name word_solid b bs all

digits_begin : (n : ℕ) (ds : Bytes) → Writes n ds → Begins ds
digits_begin n [] w = let z = w.some in absurd (omega arith)
digits_begin n (d ∷ ds) w =
    record { first = d; rest = ds; solid = digit_solid d (and_first (is_ascii_digit d) (list_all is_ascii_digit ds) w.digits); joined = refl }

digits_end : (n : ℕ) (ds : Bytes) → Writes n ds → Ends ds
digits_end n [] w = let z = w.some in absurd (omega arith)
digits_end n (d ∷ ds) w = ends_all is_ascii_digit digit_solid d ds w.digits

-- ---- arguments

chosen : {A : Type 0} (b : Bool) (x y : A) → b ≡ true → cond b x y ≡ x
chosen true x y h = refl
chosen false x y h = cc

line_read : (line : ℕ) (ds : Bytes) → Writes line ds → line < 2 ^ 63 → spot_of ds ≡ Some (Line line)
line_read line [] w h = let z = w.some in absurd (omega arith)
line_read line (d ∷ ds) w h =
    chosen (is_ascii_digit d) _ _ (and_first (is_ascii_digit d) (list_all is_ascii_digit ds) w.digits) ∙ ap (option_map Line) (number_written (2 ^ 63) line (d ∷ ds) w h)

letter_no_digit : (b : ℕ) → begins_name b ≡ true → is_ascii_digit b ≡ false
letter_no_digit b h = grind (arith, nat_tests)

function_read : (name : Bytes) → has_name_form name ≡ true → spot_of name ≡ Some (Function name)
function_read [] h = cc
function_read (b ∷ bs) h = rw (letter_no_digit b (and_first (begins_name b) (list_all is_in_name bs) h), h) refl

spot_read : (spot : Spot) → IsSpot spot → spot_of (written_spot spot) ≡ Some spot
spot_read (Line line) h = line_read line (decimal line) (writes line (omega arith)) h
spot_read (Function name) h = function_read name h

spot_begins : (spot : Spot) → IsSpot spot → Begins (written_spot spot)
spot_begins (Line line) h = digits_begin line (decimal line) (writes line (omega arith))
spot_begins (Function name) h = name_begins name h

spot_ends : (spot : Spot) → IsSpot spot → Ends (written_spot spot)
spot_ends (Line line) h = digits_end line (decimal line) (writes line (omega arith))
spot_ends (Function name) h = name_ends name h

count_read : (n : ℕ) → n < 2 ^ 63 → count_of (decimal n) ≡ Some n
count_read n h = number_written (2 ^ 63) n (decimal n) (writes n (omega arith)) h

begins_before : (text after : Bytes) → Begins text → Begins (text ++ after)
begins_before text after h = record { first = h.first; rest = h.rest ++ after; solid = h.solid; joined = ap (λ s. s ++ after) h.joined }

place_begins : (place : Place) → IsPlace place → Begins (shown_place place)
place_begins (Name name) h = name_begins name h
place_begins (Element name key) h =
    let bracket = begins_before name (91 ∷ []) (name_begins name h.0) in
    begins_before (name ++ 91 ∷ [] ++ shown_text key) (93 ∷ []) (begins_before (name ++ 91 ∷ []) (shown_text key) bracket)
place_begins (Field number) h = record { first = 36; rest = decimal number; solid = refl; joined = refl }

place_ends : (place : Place) → IsPlace place → Ends (shown_place place)
place_ends (Name name) h = name_ends name h
place_ends (Element name key) h = record { front = name ++ 91 ∷ [] ++ shown_text key; last = 93; solid = refl; joined = refl }
place_ends (Field number) h = ends_behind (36 ∷ []) (decimal number) (digits_end number (decimal number) (writes number (omega arith)))

constant_begins : (constant : Constant) → IsConstant constant → Begins (written_constant constant)
constant_begins (Number (pos n)) h = digits_begin n (decimal n) (writes n (omega (arith, h.sfits)))
constant_begins (Number (negsuc n)) h = record { first = 45; rest = decimal (n + 1); solid = refl; joined = refl }
constant_begins (Text text) h = record { first = 34; rest = flat_map shown_byte text ++ 34 ∷ []; solid = refl; joined = refl }

constant_ends : (constant : Constant) → IsConstant constant → Ends (written_constant constant)
constant_ends (Number (pos n)) h = digits_end n (decimal n) (writes n (omega (arith, h.sfits)))
constant_ends (Number (negsuc n)) h =
    ends_behind (45 ∷ []) (decimal (n + 1)) (digits_end (n + 1) (decimal (n + 1)) (writes (n + 1) (omega (arith, h.sfits))))
constant_ends (Text text) h = record { front = 34 ∷ flat_map shown_byte text; last = 34; solid = refl; joined = refl }

constant_read : (constant : Constant) → IsConstant constant → constant_of (written_constant constant) ≡ Some constant
constant_read (Number n) h = number_shown n h
constant_read (Text text) h = text_shown text h

-- ---- commands

-- a place behind which a blank comes
place_before : (place : Place) (after : Bytes) → IsPlace place → place_front (shown_place place ++ 32 ∷ after) ≡ Some (place, 32 ∷ after)
place_before (Name name) after h = place_named name (32 ∷ after) h refl
place_before (Element name key) after h =
    let bytes = recursion_from_All (λ b. b < 256) key h.1 in
    let rest = 93 ∷ 32 ∷ after in
    let joined : shown_element name key ++ 32 ∷ after ≡ name ++ (91 ∷ (shown_text key ++ rest)) =
    append_assoc (name ++ 91 ∷ [] ++ shown_text key) (93 ∷ []) (32 ∷ after)
    ∙ append_assoc (name ++ 91 ∷ []) (shown_text key) rest
    ∙ append_assoc name (91 ∷ []) (shown_text key ++ rest) in
    ap place_front joined
    ∙ place_named name (91 ∷ (shown_text key ++ rest)) h.0 refl
    ∙ ap (keyed name) (constant_shown key rest bytes)
place_before (Field number) after h = field_before number (decimal number) after (writes number (omega arith)) h
  where
    field_before : (n : ℕ) (ds rest : Bytes) → Writes n ds → n ≤ LAST_FIELD → field_front (ds ++ 32 ∷ rest) ≡ Some (Field n, 32 ∷ rest)
    field_before n ds rest w le =
        let size : prefix_len is_ascii_digit (ds ++ 32 ∷ rest) ≡ length ds = prefix_all is_ascii_digit ds (32 ∷ rest) w.digits refl in
        rw (size, take-append_seam ds (32 ∷ rest), drop-append_seam ds (32 ∷ rest), number_written (LAST_FIELD + 1) n ds w (omega arith)) refl

-- a word, a blank and an argument
argument_read : (word : Verb) (start text : Bytes) → ((more : Bytes) → without_front (start ++ more) ≡ start ++ more)
    → ((more : Bytes) → asked_on (start ++ more) ≡ asked_by (Some word) (without_front more))
    → Begins text → Ends text → reading (start ++ text) ≡ asked_by (Some word) text
unfolding reading
argument_read word start text w a b e = ap asked_on (kept start text w e) ∙ a text ∙ ap (asked_by (Some word)) (begun text b)

set_written : (place : Place) (constant : Constant) → IsPlace place → IsConstant constant
    → command_of verb.Set (shown_place place ++ (codes " = " ++ written_constant constant)) ≡ Some (command.Set place constant)
set_written place constant p c =
    ap setting (place_before place (61 ∷ 32 ∷ written_constant constant) p)
    ∙ ap (λ text. option_map (command.Set place) (constant_of text)) (begun (written_constant constant) (constant_begins constant c))
    ∙ ap (option_map (command.Set place)) (constant_read constant c)

-- the line of a command reads as the command
pub reading-line_of : (asked : Command) → IsCommand asked → reading (line_of asked) ≡ Ok (Some asked)
unfolding verb_of
reading-line_of (command.Break spot) h =
    argument_read verb.Break (codes "break ") (written_spot spot) (λ more. refl) (λ more. refl) (spot_begins spot h) (spot_ends spot h)
    ∙ ap (λ s. or_bad_argument (option_map command.Break s)) (spot_read spot h)
reading-line_of (command.Watch place) h =
    argument_read verb.Watch (codes "watch ") (shown_place place) (λ more. refl) (λ more. refl) (place_begins place h) (place_ends place h)
    ∙ ap (λ p. or_bad_argument (option_map command.Watch p)) (place_shown place h)
reading-line_of (command.Delete n) h =
    let w = writes n (omega arith) in
    argument_read verb.Delete (codes "delete ") (decimal n) (λ more. refl) (λ more. refl) (digits_begin n (decimal n) w) (digits_end n (decimal n) w)
    ∙ ap (λ m. or_bad_argument (option_map command.Delete m)) (count_read n h)
reading-line_of (command.Unwatch n) h =
    let w = writes n (omega arith) in
    argument_read verb.Unwatch (codes "unwatch ") (decimal n) (λ more. refl) (λ more. refl) (digits_begin n (decimal n) w) (digits_end n (decimal n) w)
    ∙ ap (λ m. or_bad_argument (option_map command.Unwatch m)) (count_read n h)
reading-line_of (command.Move way goal) h = move_read way goal
reading-line_of command.Run h = run_read
reading-line_of (command.Print place) h =
    argument_read verb.Print (codes "print ") (shown_place place) (λ more. refl) (λ more. refl) (place_begins place h) (place_ends place h)
    ∙ ap (λ p. or_bad_argument (option_map command.Print p)) (place_shown place h)
reading-line_of (command.Set place constant) h =
    let rest = codes " = " ++ written_constant constant in
    argument_read verb.Set (codes "set ") (shown_place place ++ rest) (λ more. refl) (λ more. refl) (begins_before (shown_place place) rest (place_begins place h.0))
    (ends_behind (shown_place place) rest (ends_behind (codes " = ") (written_constant constant) (constant_ends constant h.1)))
    ∙ ap or_bad_argument (set_written place constant h.0 h.1)
reading-line_of command.ReverseSet h = reverse_set_read
reading-line_of command.Backtrace h = backtrace_read
reading-line_of command.Quit h = quit_read
