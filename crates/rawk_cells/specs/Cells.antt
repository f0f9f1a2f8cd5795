-- Globals, one of whose texts may have been added to in place.
use Rattle.std.specs.Prelude.{◌≡◌, ◌<◌, ◌≤◌, ◌++◌, ℕ, List, [], IfSome, length, slice_index_or, slice_set, take, Option, None, Some}
use Rattle.std.specs.Global.{Box}
use Rattle.rawk_value.specs.declared.value.Value.{Value}
use Rattle.rawk_value.specs.declared.value.Value.TheVariants.{Uninitialized, Number, String, Input}
use Rattle.rawk_value.specs.Values.{Bytes, text_of}
use Rattle.rawk_slots.specs.declared.saved.Saved.{Saved}
use Rattle.rawk_slots.specs.Back.{HasAdded}
use Rattle.rawk_slots.specs.Journaled.{Journaled}
use Rattle.rawk_cells.specs.declared.cells.Appended.{Appended}
use Rattle.rawk_cells.specs.declared.cells.Grown.{Grown}

-- the values of the globals, by their numbers
abbrev pub Globals : Type 0
Globals = List Value

-- at most the first n bytes of a text; another value stays
abbrev pub shortened : ℕ → Value → Value
shortened n Uninitialized = Uninitialized
shortened n (Number x) = Number x
shortened n (String text) = String (take n text)
shortened n (Input text) = Input text

-- how many bytes a text has that can grow in place
abbrev pub own_length : Value → ℕ
own_length Uninitialized = 0
own_length (Number x) = 0
own_length (String text) = length text
own_length (Input text) = 0

-- the values with at most the first `count` bytes of the text at a place
abbrev pub cut_at : ℕ → ℕ → List Value → List Value
cut_at place count xs = slice_set xs place (shortened count (slice_index_or xs place Uninitialized))

-- the values before the text at a place grew
abbrev pub before_growth : Option Grown → List Value → List Value
before_growth None xs = xs
before_growth (Some g) xs = cut_at g.place g.count xs

-- a text grew at a place, and the step has changed nothing else
pub record GrewAlone (g : Grown) (slots : Journaled (List Value)) : Type 0 where
  pub within : g.place < length slots.now
  pub rest : slots.start ≡ slots.now
  pub count : g.count ≤ own_length (slice_index_or slots.now g.place Uninitialized)

-- the step has changed nothing now, and each text that can grow in place is as long as one was there
pub record OnSameTexts (old : List Value) (slots : Journaled (List Value)) : Type 0 where
  pub size : length slots.now ≡ length old
  pub rest : slots.start ≡ slots.now
  pub lengths : (place : ℕ) → own_length (slice_index_or slots.now place Uninitialized) ≡ own_length (slice_index_or old place Uninitialized)

abbrev pub HasGrown : Option Grown → Journaled (List Value) → Type 0
HasGrown None slots = Unit {0}
HasGrown (Some g) slots = GrewAlone g slots

-- the values with these bytes behind the text at a place
abbrev pub longer_at : ℕ → Bytes → List Value → List Value
longer_at place more xs = slice_set xs place (String (text_of (slice_index_or xs place Uninitialized) ++ more))

-- a text grew, which had `count` bytes; where there was none, nothing has changed
abbrev pub Grew : ℕ → Bytes → List Value → Journaled (List Value) → Option ℕ → Type 0
Grew place more xs slots None = (slots.start ≡ xs) × (slots.now ≡ xs)
Grew place more xs slots (Some count) = (slots.start ≡ longer_at place more xs) × (slots.now ≡ longer_at place more xs) × (own_length (slice_index_or xs place Uninitialized) ≡ count)
    × (slice_index_or xs place Uninitialized ≡ String (text_of (slice_index_or xs place Uninitialized)))

-- the text at the place has `a.count` bytes, and these behind them
pub record IsAppended (a : Appended) (xs : List Value) : Type 0 where
  pub within : a.place < length xs
  pub front : Bytes
  pub size : length front ≡ a.count
  pub is : slice_index_or xs a.place Uninitialized ≡ String (front ++ a.more)

-- a text with bytes behind it; another value stays
abbrev pub lengthened : Bytes → Value → Value
lengthened more Uninitialized = Uninitialized
lengthened more (Number x) = Number x
lengthened more (String text) = String (text ++ more)
lengthened more (Input text) = Input text

-- the values with bytes behind the text at a place
abbrev pub added_at : ℕ → Bytes → List Value → List Value
added_at place more xs = slice_set xs place (lengthened more (slice_index_or xs place Uninitialized))

-- it is the text that grew there, and as long as that was
pub record IsOf (g : Grown) (a : Appended) (xs : List Value) : Type 0 where
  pub place : a.place ≡ g.place
  pub count : a.count ≡ g.count
  pub is : IsAppended a xs

-- the values before bytes came behind a text, if any did
abbrev pub without : Option (Box Appended) → List Value → List Value
without None xs = xs
without (Some a) xs = cut_at a.value.place a.value.count xs

-- the values with these bytes behind that text again
abbrev pub with_again : Option (Box Appended) → List Value → List Value
with_again None xs = xs
with_again (Some a) xs = added_at a.value.place a.value.more xs

abbrev pub FitsAppended : Option (Box Appended) → List Value → Type 0
FitsAppended None xs = Unit {0}
FitsAppended (Some a) xs = IsAppended a.value xs

-- a list behind which stands what a step changed, beside what came behind a text: what is now leads so back to the start. Where a text grew, nothing else was changed.
pub record HasEnded (appended : Option (Box Appended)) (items start : List Value) (list longer : List (Saved Value)) : Type 0 where
  pub added : HasAdded (without appended items) start list longer
  pub fits : FitsAppended appended items
  pub alone : IfSome appended (λ a. added.entries ≡ [])
