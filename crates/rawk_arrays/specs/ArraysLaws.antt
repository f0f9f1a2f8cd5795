-- Keys and empty slots that were added change no array, and putting back works over them.
use Rattle.std.specs.Prelude.{◌≡◌, List, [], ◌∷◌, ◌++◌, length, slice_set, Option, None, refl}
use Rattle.std.proofs.Common.{inl, inr, sym, ap, ◌∙◌, arith, append_assoc, get_or-set_other, get_or-set_same}
use Rattle.std.proofs.lemmas.Bool.{cases_eq}
use Rattle.std.proofs.lemmas.List.{append-nil, length-set}
use Rattle.rawk_value.specs.declared.value.Value.{Value}
use Rattle.rawk_keys.specs.ArrayKey.{ArrayKey}
use Rattle.rawk_slots.specs.declared.saved.Saved.{Saved}
use Rattle.rawk_slots.specs.Back.{back, AreBelow}
use Rattle.rawk_slots.specs.BackLaws.{AreBelow-more, length-back}
use Rattle.rawk_arrays.specs.declared.arrays.ArraysGroup.{ArraysGroup}
use Rattle.rawk_arrays.specs.Laid.{Laid, GrownArrays, IsLaid, IsSameArrays, IsSpread, arrays_of, slot}
use Rattle.rawk_arrays.specs.ArraysBack.{FitsArrays, arrays_back}
use Rattle.rawk_arrays.specs.ListLaws.{spread_arrays}

pub arrays_of-grown : (l m : Laid) → GrownArrays l m → IsLaid l.index l.slots → arrays_of m ≡ arrays_of l
arrays_of-grown l m g h = spread_arrays l m g.live h.array_key g.index g.slots

pub GrownArrays-refl : (l : Laid) → GrownArrays l l
GrownArrays-refl l = record {
  index = record { more = []; is = sym (append-nil l.index) };
  slots = record { longer = omega arith; same = λ i. refl };
  live = refl;
}

pub GrownArrays-trans : (l m n : Laid) → GrownArrays l m → GrownArrays m n → GrownArrays l n
GrownArrays-trans l m n a b = record {
  index = record { more = a.index.more ++ b.index.more; is = b.index.is ∙ (ap (λ (xs : List ArrayKey). xs ++ b.index.more) a.index.is ∙ append_assoc l.index a.index.more b.index.more) };
  slots = record { longer = omega (arith, a.slots.longer, b.slots.longer); same = λ i. b.slots.same i ∙ a.slots.same i };
  live = b.live ∙ a.live;
}

pub back_spread : (xs ys : List (Option Value)) (es : List (Saved (Option Value))) → IsSpread xs ys → AreBelow (length xs) es → IsSpread (back xs es) (back ys es)
back_spread xs ys [] s h = s
back_spread xs ys (e ∷ es) s h =
    let rest : IsSpread (back xs es) (back ys es) = back_spread xs ys es s h.1 in
    record {
      longer = omega (arith, rest.longer, length-set (back xs es) e.place e.old, length-set (back ys es) e.place e.old);
      same = λ i. elim (cases_eq i e.place) [
        | inl q ↦
            ap (slot (slice_set (back ys es) e.place e.old)) q
            ∙ (get_or-set_same (back ys es) e.place e.old None (omega (arith, h.0, s.longer, length-back ys es))
            ∙ sym (ap (slot (slice_set (back xs es) e.place e.old)) q ∙ get_or-set_same (back xs es) e.place e.old None (omega (arith, h.0, length-back xs es))))
        | inr d ↦ get_or-set_other (back ys es) e.place i e.old None d ∙ (rest.same i ∙ sym (get_or-set_other (back xs es) e.place i e.old None d))
      ];
    }

-- putting back, over more index and slots
pub GrownArrays-back : (l m : Laid) (group : ArraysGroup) → GrownArrays l m → FitsArrays group l → GrownArrays (arrays_back l group) (arrays_back m group)
GrownArrays-back l m group g h = record { index = g.index; slots = back_spread l.slots m.slots group.slots.entries.items g.slots h; live = refl }

pub FitsArrays-grown : (l m : Laid) (group : ArraysGroup) → GrownArrays l m → FitsArrays group l → FitsArrays group m
FitsArrays-grown l m group g h = AreBelow-more (length l.slots) (length m.slots) group.slots.entries.items g.slots.longer h

pub IsLaid-back : (l : Laid) (group : ArraysGroup) → IsLaid l.index l.slots → IsLaid (arrays_back l group).index (arrays_back l group).slots
IsLaid-back l group h = record { distinct = h.distinct; array_key = omega (arith, h.array_key, length-back l.slots group.slots.entries.items) }

pub IsSameArrays-refl : (l : Laid) → IsSameArrays l l
IsSameArrays-refl l = record { grown = GrownArrays-refl l; same = refl }

pub IsSameArrays-trans : (l m n : Laid) → IsSameArrays l m → IsSameArrays m n → IsSameArrays l n
IsSameArrays-trans l m n a b = record { grown = GrownArrays-trans l m n a.grown b.grown; same = b.same ∙ a.same }

-- arrays that lie as the type keeps them, and have grown, are the same arrays
pub IsSameArrays-grown : (l m : Laid) → GrownArrays l m → IsLaid l.index l.slots → IsSameArrays l m
IsSameArrays-grown l m g h = record { grown = g; same = arrays_of-grown l m g h }

-- putting back, over more index and slots
pub IsSameArrays-back : (l m : Laid) (group : ArraysGroup) → GrownArrays l m → FitsArrays group l → IsLaid l.index l.slots → IsSameArrays (arrays_back l group) (arrays_back m group)
IsSameArrays-back l m group g h laid = IsSameArrays-grown (arrays_back l group) (arrays_back m group) (GrownArrays-back l m group g h) (IsLaid-back l group laid)

-- a group that leads from arrays back to others leads there over more index and slots too
pub arrays_lead_back-grown : (l m earlier : Laid) (group : ArraysGroup) → FitsArrays group l → IsLaid l.index l.slots → IsSameArrays earlier (arrays_back l group) → IsSameArrays l m → FitsArrays group m × IsSameArrays earlier (arrays_back m group)
arrays_lead_back-grown l m earlier group h laid e g =
    (FitsArrays-grown l m group g.grown h, IsSameArrays-trans earlier (arrays_back l group) (arrays_back m group) e (IsSameArrays-back l m group g.grown h laid))
