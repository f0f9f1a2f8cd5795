-- Series and notes stay what they are where keys are added.
use Rattle.std.proofs.Common.{◌≡◌, ℕ, zero, suc, ◌+◌, ◌-◌, List, [], ◌∷◌, ◌++◌, length, refl, Some, OnErr, OnOk, Result, Ok, Err, arith, slice_get}
use Rattle.std.proofs.lemmas.Option.{slice_get_within}
use Rattle.rawk_keys.specs.declared.series.Series.{Series}
use Rattle.rawk_keys.specs.ArrayKey.{ArrayKey}
use Rattle.rawk_keys.specs.declared.notes.Note.{Note}
use Rattle.rawk_keys.specs.Series.{AreSeries}
use Rattle.rawk_keys.specs.Notes.{AreNoted}

entry_more : (keys more : List ArrayKey) (i : ℕ) (key : ArrayKey) → slice_get keys i ≡ Some key → slice_get (keys ++ more) i ≡ Some key
entry_more [] more i key e = absurd (omega (arith, slice_get_within [] i key e))
entry_more (x ∷ keys) more zero key e = e
entry_more (x ∷ keys) more (suc i) key e = entry_more keys more i key e

series_more : (series : List Series) (keys more : List ArrayKey) → AreSeries series keys → AreSeries series (keys ++ more)
series_more series keys more h = record { at = λ array own is i lt. entry_more keys more (own.first + i) _ (h.at array own is i lt) }

-- the entry that was added last
pub entry_last : (keys : List ArrayKey) (entry : ArrayKey) (i : ℕ) → i ≡ length keys → slice_get (keys ++ entry ∷ []) i ≡ Some entry
entry_last [] entry i e = rw e refl
entry_last (x ∷ keys) entry zero e = absurd (omega (arith, e))
entry_last (x ∷ keys) entry (suc i) e = entry_last keys entry i (omega (arith, e))

notes_more : (notes : List Note) (keys more : List ArrayKey) → AreNoted notes keys → AreNoted notes (keys ++ more)
notes_more notes keys more h = record { at = λ place own e some. entry_more keys more (own.above - 1) _ (h.at place own e some) }

-- where one was added, and where none was
pub series_added : {A E : Type 0} (r : Result A E) (series : List Series) (keys new more : List ArrayKey) → OnOk r (new ≡ keys ++ more) → OnErr r (new ≡ keys) → AreSeries series keys → AreSeries series new
series_added (Ok u) series keys new more did err h = rw did (series_more series keys more h)
series_added (Err x) series keys new more did err h = rw err h

pub notes_added : {A E : Type 0} (r : Result A E) (notes : List Note) (keys new more : List ArrayKey) → OnOk r (new ≡ keys ++ more) → OnErr r (new ≡ keys) → AreNoted notes keys → AreNoted notes new
notes_added (Ok u) notes keys new more did err h = rw did (notes_more notes keys more h)
notes_added (Err x) notes keys new more did err h = rw err h
