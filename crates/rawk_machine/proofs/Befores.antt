-- What was seen before the last move.
use Rattle.std.proofs.Common.{◌≡◌, ℕ, List, [], ◌∷◌, length, Option, None, Some, refl, sym, ap, ◌∙◌}
use Rattle.std.proofs.lemmas.Option.{same_Some}
use Rattle.rawk_value.specs.declared.value.Value.{Value}
use Rattle.rawk_store.specs.Groups.{Group}
use Rattle.rawk_history.specs.Steps.{Kept}
use Rattle.rawk_store.specs.Back.{back}
use Rattle.rawk_store.specs.BackLaws.{length-back}
use Rattle.rawk_store.specs.Layout.{Layout}
use Rattle.std.specs.Global.{Box}
use Rattle.rawk_store.specs.declared.rare_changes.FewGroup.{FewGroup}
use Rattle.rawk_store.specs.declared.rare_changes.RareChanges.{RareChanges}
use Rattle.rawk_store.specs.GroupBack.{arrays_in, few_arrays, globals_in, globals_on}
use Rattle.rawk_store.specs.GrownLaws.{length-globals_in, length-globals_on}
use Rattle.rawk_arrays.specs.Laid.{Laid, IsLaid, arrays_of}
use Rattle.rawk_code.specs.Actions.{SetAt}
use Rattle.rawk_machine.specs.Last.{Last, last_of}
use Rattle.rawk_machine.specs.declared.last_move.LastMove.TheVariants as move
use Rattle.rawk_history.specs.Steps.{Forth}
use Rattle.rawk_machine.specs.Last as last
use Rattle.rawk_store.specs.Observed.{Observed}
use Rattle.rawk_machine.proofs.Forths.{laid_in, laid_forth}
use Rattle.rawk_machine.specs.Kept.{pasts, before_of}
use Rattle.rawk_steps.specs.Leading.{arrays_forth, back_in, globals_forth}

length_forth : (xs : List Value) (gs : List Group) → length (globals_forth xs gs) ≡ length xs
length_forth xs [] = refl
length_forth xs (g ∷ gs) = length_forth (back xs g.globals) gs ∙ length-back xs g.globals

pub length_before : (la : Last) (l : Layout) (sets : List SetAt) (point : ℕ) (here : List Group) (items : List Kept) (s : Observed) → (la ≡ last.On → here ≡ []) → before_of la l.globals l.arrays l.current (pasts l sets point here items) ≡ Some s → length s.globals ≡ length l.globals
length_before last.Nothing l sets point here items s clean h = absurd (cc h)
length_before last.On l sets point here [] s clean h = absurd (cc h)
length_before last.On l sets point here (item ∷ items) s clean h =
    ap (λ (x : Observed). length x.globals) (sym (same_Some _ _ h)) ∙ ap (λ (gs : List Group). length (back_in l gs item).globals) (clean refl) ∙ (length-back (globals_in l.globals item.step.others) item.step.globals ∙ length-globals_in l.globals item.step.others)
length_before (last.Back forth) l sets point here items s clean h = ap (λ (x : Observed). length x.globals) (sym (same_Some _ _ h)) ∙ (length_forth (globals_on l.globals forth.globals forth.others) forth.sets ∙ length-globals_on l.globals forth.globals forth.others)

-- what was seen of arrays before the last move: the keys are those of now, and as many slots
pub record LaidBefore (l : Laid) (s : Observed) : Type 0 where
  pub laid : Laid
  pub index : laid.index ≡ l.index
  pub size : length laid.slots ≡ length l.slots
  pub sound : IsLaid laid.index laid.slots
  pub is : s.arrays ≡ arrays_of laid

few_index : (l : Laid) (f : Option (Box FewGroup)) → (few_arrays l f).index ≡ l.index
few_index l None = refl
few_index l (Some f) = refl

few_size : (l : Laid) (f : Option (Box FewGroup)) → length (few_arrays l f).slots ≡ length l.slots
few_size l None = refl
few_size l (Some f) = length-back l.slots f.value.arrays.slots.entries.items

pub index_in : (l : Laid) (o : Option RareChanges) → (arrays_in l o).index ≡ l.index
index_in l None = refl
index_in l (Some o) = few_index l o.few

pub size_in : (l : Laid) (o : Option RareChanges) → length (arrays_in l o).slots ≡ length l.slots
size_in l None = refl
size_in l (Some o) = few_size l o.few

pub index_forth : (l : Laid) (gs : List Group) → (arrays_forth l gs).index ≡ l.index
index_forth l [] = refl
index_forth l (g ∷ gs) = index_forth (arrays_in l g.others) gs ∙ index_in l g.others

pub size_forth : (l : Laid) (gs : List Group) → length (arrays_forth l gs).slots ≡ length l.slots
size_forth l [] = refl
size_forth l (g ∷ gs) = size_forth (arrays_in l g.others) gs ∙ size_in l g.others

before_in : (l : Laid) (o : Option RareChanges) (s : Observed) → IsLaid l.index l.slots → s.arrays ≡ arrays_of (arrays_in l o) → LaidBefore l s
before_in l o s laid e = record { laid = arrays_in l o; index = index_in l o; size = size_in l o; sound = laid_in l o laid; is = e }

pub laid_before : (la : Last) (l : Layout) (sets : List SetAt) (point : ℕ) (here : List Group) (items : List Kept) (s : Observed) → (la ≡ last.On → here ≡ []) → IsLaid l.arrays.index l.arrays.slots → before_of la l.globals l.arrays l.current (pasts l sets point here items) ≡ Some s →
    LaidBefore l.arrays s
laid_before last.Nothing l sets point here items s clean laid h = absurd (cc h)
laid_before last.On l sets point here [] s clean laid h = absurd (cc h)
laid_before last.On l sets point here (item ∷ items) s clean laid h =
    before_in l.arrays item.step.others s laid (ap (λ (x : Observed). x.arrays) (sym (same_Some _ _ h)) ∙ ap (λ (gs : List Group). arrays_of (back_in l gs item).arrays) (clean refl))
laid_before (last.Back forth) l sets point here items s clean laid h =
    let a = arrays_in l.arrays forth.others in
    record {
      laid = arrays_forth a forth.sets;
      index = index_forth a forth.sets ∙ index_in l.arrays forth.others;
      size = size_forth a forth.sets ∙ size_in l.arrays forth.others;
      sound = laid_forth a forth.sets (laid_in l.arrays forth.others laid);
      is = ap (λ (x : Observed). x.arrays) (sym (same_Some _ _ h));
    }

-- a step back is no step on
pub back_not_on : (o : Option Forth) → last_of move.Back o ≡ last.On → ⊥
back_not_on None h = absurd (cc h)
back_not_on (Some f) h = absurd (cc h)
