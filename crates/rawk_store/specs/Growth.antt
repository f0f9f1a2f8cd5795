-- Slots that were added and that no program sees change no state, and putting back works over them.
use Rattle.std.specs.Prelude.{◌≡◌, Bool, List, length, take, refl, Option, None, Some}
use Rattle.std.specs.Bool.{OnTrue}
use Rattle.std.specs.Global.{Box}
use Rattle.std.proofs.Common.{sym, ap, ◌∙◌, subst}
use Rattle.rawk_slots.specs.Saving.{OnTrue-any, OnTrue-map, OnTrue-both}
use Rattle.rawk_value.specs.Values.{Bytes}
use Rattle.rawk_value.specs.declared.value.Value.{Value}
use Rattle.rawk_slots.specs.Back.{back, AreBelow}
use Rattle.rawk_cells.specs.Cells.{FitsAppended}
use Rattle.rawk_slots.specs.Stacked.{Stacked, GrownStack}
use Rattle.rawk_slots.specs.StackLaws.{live_values-grown, GrownStack-refl, GrownStack-trans, GrownStack-in, FitsStackIf-over, IsLive-stack_in}
use Rattle.rawk_arrays.specs.Elements.{Elements}
use Rattle.rawk_arrays.specs.Laid.{Laid, GrownArrays, IsLaid, arrays_of}
use Rattle.rawk_arrays.specs.ArraysLaws.{arrays_of-grown, GrownArrays-refl, GrownArrays-trans, GrownArrays-back, FitsArrays-grown, IsLaid-back}
use Rattle.rawk_frames.specs.Frame.{Frame}
use Rattle.rawk_frames.specs.LaidFrames.{LaidFrames, GrownFrames, frames_of}
use Rattle.rawk_frames.specs.LaidKeys.{AreKeysLive, GrownKeys}
use Rattle.rawk_frames.specs.FramesLaws.{frames_of-grown, keys_of-grown, GrownFrames-refl, GrownFrames-trans, GrownFrames-back, GrownKeys-refl, GrownKeys-trans, GrownKeys-back, FitsFrames-grown, FitsKeys-grown, AreFramesLive-back, AreKeysLive-back}
use Rattle.rawk_record.specs.Shown.{Shown, record_back}
use Rattle.rawk_store.specs.declared.registers.Registers.{Registers}
use Rattle.rawk_store.specs.declared.rare_changes.FewGroup.{FewGroup}
use Rattle.rawk_store.specs.declared.rare_changes.RareChanges.{RareChanges}
use Rattle.rawk_store.specs.declared.rare_changes.RareGroup.{RareGroup}
use Rattle.rawk_store.specs.Groups.{Group}
use Rattle.rawk_store.specs.State.{State}
use Rattle.rawk_store.specs.Layout.{Layout, Grown, IsSound, keys, operands, state}
use Rattle.rawk_store.specs.GroupBack.{FewFit, FitsIn, FitsRareChanges, RareFit, few_arrays, few_keys, rare_keys, arrays_in, keys_in, globals_in, others_put, put_back, ranges_in}

pub Grown-refl : (l : Layout) → Grown l l
Grown-refl l = record {
  globals = refl;
  arrays = GrownArrays-refl l.arrays;
  frames = GrownFrames-refl l.frames;
  keys = GrownKeys-refl l.keys;
  ranges = refl;
  operands = GrownStack-refl l.operands;
  current = refl;
  output = refl;
  registers = refl;
}

pub Grown-same : (l m : Layout) → l ≡ m → Grown l m
Grown-same l m e = subst (λ (x : Layout). Grown l x) e (Grown-refl l)

pub Grown-then_same : (l m n : Layout) → Grown l m → n ≡ m → Grown l n
Grown-then_same l m n a e = subst (λ (x : Layout). Grown l x) (sym e) a

pub Grown-trans : (l m n : Layout) → Grown l m → Grown m n → Grown l n
Grown-trans l m n a b = record {
  globals = b.globals ∙ a.globals;
  arrays = GrownArrays-trans l.arrays m.arrays n.arrays a.arrays b.arrays;
  frames = GrownFrames-trans l.frames m.frames n.frames a.frames b.frames;
  keys = GrownKeys-trans l.keys m.keys n.keys a.keys b.keys;
  ranges = b.ranges ∙ a.ranges;
  operands = GrownStack-trans l.operands m.operands n.operands a.operands b.operands;
  current = b.current ∙ a.current;
  output = b.output ∙ a.output;
  registers = b.registers ∙ a.registers;
}

-- the operand stack alone has grown
pub Grown-stack : (l : Layout) (s : Stacked Value) → GrownStack l.operands s → Grown l (record l { operands = s })
Grown-stack l s g = record {
  globals = refl;
  arrays = GrownArrays-refl l.arrays;
  frames = GrownFrames-refl l.frames;
  keys = GrownKeys-refl l.keys;
  ranges = refl;
  operands = g;
  current = refl;
  output = refl;
  registers = refl;
}

-- the activations alone have grown
pub Grown-frames : (l : Layout) (f : LaidFrames) → GrownFrames l.frames f → Grown l (record l { frames = f })
Grown-frames l f g = record {
  globals = refl;
  arrays = GrownArrays-refl l.arrays;
  frames = g;
  keys = GrownKeys-refl l.keys;
  ranges = refl;
  operands = GrownStack-refl l.operands;
  current = refl;
  output = refl;
  registers = refl;
}

-- the arrays alone have grown
pub Grown-arrays : (l : Layout) (a : Laid) → GrownArrays l.arrays a → Grown l (record l { arrays = a })
Grown-arrays l a g = record {
  globals = refl;
  arrays = g;
  frames = GrownFrames-refl l.frames;
  keys = GrownKeys-refl l.keys;
  ranges = refl;
  operands = GrownStack-refl l.operands;
  current = refl;
  output = refl;
  registers = refl;
}

-- the same, where old values are saved
pub saved-refl : (b : Bool) (l : Layout) → OnTrue b (Grown l l)
saved-refl b l = OnTrue-any b (Grown l l) (Grown-refl l)

pub saved-same : (b : Bool) (l m : Layout) → OnTrue b (m ≡ l) → OnTrue b (Grown l m)
saved-same b l m h = OnTrue-map b (m ≡ l) (Grown l m) (λ e. Grown-same l m (sym e)) h

pub saved-stays : (b : Bool) (l m : Layout) → m ≡ l → OnTrue b (Grown l m)
saved-stays b l m e = OnTrue-any b (Grown l m) (Grown-same l m (sym e))

pub saved-then_same : (b : Bool) (l m n : Layout) → OnTrue b (Grown l m) → n ≡ m → OnTrue b (Grown l n)
saved-then_same b l m n h e = OnTrue-map b (Grown l m) (Grown l n) (λ g. Grown-then_same l m n g e) h

pub saved-after : (b : Bool) (l m n : Layout) → m ≡ l → OnTrue b (Grown m n) → OnTrue b (Grown l n)
saved-after b l m n e h = OnTrue-map b (Grown m n) (Grown l n) (λ g. Grown-trans l m n (Grown-same l m (sym e)) g) h

pub saved-trans : (b : Bool) (l m n : Layout) → OnTrue b (Grown l m) → OnTrue b (Grown m n) → OnTrue b (Grown l n)
saved-trans b l m n h k = OnTrue-both b (Grown l m) (Grown m n) (Grown l n) (λ g i. Grown-trans l m n g i) h k

pub saved-behind : (b : Bool) (l m n : Layout) → Grown l m → OnTrue b (Grown m n) → OnTrue b (Grown l n)
saved-behind b l m n g h = OnTrue-map b (Grown m n) (Grown l n) (λ i. Grown-trans l m n g i) h

pub saved-frames : (b : Bool) (l : Layout) (f : LaidFrames) → OnTrue b (GrownFrames l.frames f) → OnTrue b (Grown l (record l { frames = f }))
saved-frames b l f h = OnTrue-map b (GrownFrames l.frames f) (Grown l (record l { frames = f })) (λ g. Grown-frames l f g) h

pub ruleset grows = (Grown-refl, Grown-same, Grown-trans, Grown-then_same, Grown-stack, Grown-frames, Grown-arrays)

pub operands-grown : (l m : Layout) → Grown l m → IsSound l → operands m ≡ operands l
operands-grown l m g h = live_values-grown l.operands m.operands g.operands h.operands

pub keys-grown : (l m : Layout) → Grown l m → IsSound l → keys m ≡ keys l
keys-grown l m g h = keys_of-grown l.keys m.keys g.keys h.keys

-- the state of these parts
abbrev made_of : List Value → List Elements → List Frame → List Bool → Shown → Bytes → Registers → State
made_of globals arrays frames ranges current output registers = record {
  globals = globals;
  arrays = arrays;
  frames = frames;
  ranges = ranges;
  whole = current.text;
  fields = current.fields;
  consumed = registers.consumed;
  output = output;
  status = registers.status;
  here = registers.here;
  site = registers.site;
}

pub state-grown : (l m : Layout) → Grown l m → IsSound l → state m ≡ state l
state-grown l m g h =
    ap (λ (x : List Value). made_of x (arrays_of m.arrays) (frames_of m.frames) m.ranges m.current m.output m.registers) g.globals
    ∙ ap (λ (x : List Elements). made_of l.globals x (frames_of m.frames) m.ranges m.current m.output m.registers) (arrays_of-grown l.arrays m.arrays g.arrays h.arrays)
    ∙ ap (λ (x : List Frame). made_of l.globals (arrays_of l.arrays) x m.ranges m.current m.output m.registers) (frames_of-grown l.frames m.frames g.frames h.frames.frames h.frames.locals)
    ∙ ap (λ (x : List Bool). made_of l.globals (arrays_of l.arrays) (frames_of l.frames) x m.current m.output m.registers) g.ranges
    ∙ ap (λ (x : Shown). made_of l.globals (arrays_of l.arrays) (frames_of l.frames) l.ranges x m.output m.registers) g.current
    ∙ ap (λ (x : Bytes). made_of l.globals (arrays_of l.arrays) (frames_of l.frames) l.ranges l.current x m.registers) g.output
    ∙ ap (λ (x : Registers). made_of l.globals (arrays_of l.arrays) (frames_of l.frames) l.ranges l.current l.output x) g.registers

few_arrays-grown : (l m : Layout) (f : Option (Box FewGroup)) → Grown l m → FewFit f l → GrownArrays (few_arrays l.arrays f) (few_arrays m.arrays f)
few_arrays-grown l m None g h = g.arrays
few_arrays-grown l m (Some f) g h = GrownArrays-back l.arrays m.arrays f.value.arrays g.arrays h.0

arrays_in-grown : (l m : Layout) (o : Option RareChanges) → Grown l m → FitsRareChanges o l → GrownArrays (arrays_in l.arrays o) (arrays_in m.arrays o)
arrays_in-grown l m None g h = g.arrays
arrays_in-grown l m (Some o) g h = few_arrays-grown l m o.few g h.few

rare_keys-grown : (l m : Layout) (r : Option (Box RareGroup)) → Grown l m → RareFit r l → GrownKeys (rare_keys l.keys r) (rare_keys m.keys r)
rare_keys-grown l m None g h = g.keys
rare_keys-grown l m (Some r) g h = GrownKeys-back l.keys m.keys r.value.keys g.keys h.0

few_keys-grown : (l m : Layout) (f : Option (Box FewGroup)) → Grown l m → FewFit f l → GrownKeys (few_keys l.keys f) (few_keys m.keys f)
few_keys-grown l m None g h = g.keys
few_keys-grown l m (Some f) g h = rare_keys-grown l m f.value.rare g h.1

keys_in-grown : (l m : Layout) (o : Option RareChanges) → Grown l m → FitsRareChanges o l → GrownKeys (keys_in l.keys o) (keys_in m.keys o)
keys_in-grown l m None g h = g.keys
keys_in-grown l m (Some o) g h = few_keys-grown l m o.few g h.few

-- putting back, over more slots
pub Grown-put_back : (l m : Layout) (group : Group) → Grown l m → FitsIn group l → Grown (put_back l group) (put_back m group)
Grown-put_back l m group g h = record {
  globals = ap (λ (xs : List Value). back (globals_in xs group.others) group.globals) g.globals;
  arrays = arrays_in-grown l m group.others g h.others;
  frames = GrownFrames-back l.frames m.frames group.frames g.frames h.frames;
  keys = keys_in-grown l m group.others g h.others;
  ranges = ap (λ (xs : List Bool). ranges_in xs group.others) g.ranges;
  operands = GrownStack-in l.operands m.operands group.operands g.operands h.operands;
  current = ap (λ (x : Shown). record_back x group.current) g.current;
  output = ap (λ (xs : Bytes). take group.output xs) g.output;
  registers = refl;
}

RareFit-grown : (l m : Layout) (r : Option (Box RareGroup)) → Grown l m → RareFit r l → RareFit r m
RareFit-grown l m None g h = tt
RareFit-grown l m (Some r) g h = (FitsKeys-grown l.keys m.keys r.value.keys g.keys h.0, subst (λ (xs : List Bool). AreBelow (length xs) r.value.ranges.entries.items) (sym g.ranges) h.1)

FewFit-grown : (l m : Layout) (f : Option (Box FewGroup)) → Grown l m → FewFit f l → FewFit f m
FewFit-grown l m None g h = tt
FewFit-grown l m (Some f) g h = (FitsArrays-grown l.arrays m.arrays f.value.arrays g.arrays h.0, RareFit-grown l m f.value.rare g h.1)

FitsRareChanges-grown : (l m : Layout) (o : Option RareChanges) → Grown l m → FitsRareChanges o l → FitsRareChanges o m
FitsRareChanges-grown l m None g h = tt
FitsRareChanges-grown l m (Some o) g h = record {
  grown = subst (λ (xs : List Value). FitsAppended o.grown xs) (sym g.globals) h.grown;
  few = FewFit-grown l m o.few g h.few;
}

pub FitsIn-grown : (l m : Layout) (group : Group) → Grown l m → FitsIn group l → FitsIn group m
FitsIn-grown l m group g h = record {
  globals = subst (λ (xs : List Value). AreBelow (length (globals_in xs group.others)) group.globals) (sym g.globals) h.globals;
  frames = FitsFrames-grown l.frames m.frames group.frames g.frames h.frames;
  operands = FitsStackIf-over l.operands m.operands group.operands g.operands h.operands;
  others = FitsRareChanges-grown l m group.others g h.others;
  output = rw g.output h.output;
}

rare_live : (l : Layout) (r : Option (Box RareGroup)) → RareFit r l → AreKeysLive l.keys → AreKeysLive (rare_keys l.keys r)
rare_live l None h s = s
rare_live l (Some r) h s = AreKeysLive-back l.keys r.value.keys h.0

few_laid : (l : Layout) (f : Option (Box FewGroup)) → FewFit f l → IsLaid l.arrays.index l.arrays.slots → IsLaid (few_arrays l.arrays f).index (few_arrays l.arrays f).slots
few_laid l None h s = s
few_laid l (Some f) h s = IsLaid-back l.arrays f.value.arrays s

few_live : (l : Layout) (f : Option (Box FewGroup)) → FewFit f l → AreKeysLive l.keys → AreKeysLive (few_keys l.keys f)
few_live l None h s = s
few_live l (Some f) h s = rare_live l f.value.rare h.1 s

IsSound-others : (l : Layout) (o : Option RareChanges) → FitsRareChanges o l → IsSound l → IsSound (others_put l o)
IsSound-others l None h s = record { arrays = s.arrays; frames = s.frames; nested = s.nested; keys = s.keys; operands = s.operands }
IsSound-others l (Some o) h s = record {
  arrays = few_laid l o.few h.few s.arrays;
  frames = s.frames;
  nested = s.nested;
  keys = few_live l o.few h.few s.keys;
  operands = s.operands;
}

pub IsSound-put_back : (l : Layout) (group : Group) → FitsIn group l → IsSound l → IsSound (put_back l group)
IsSound-put_back l group h s =
    let o = IsSound-others l group.others h.others s in
    record { arrays = o.arrays; frames = AreFramesLive-back l.frames group.frames h.frames; nested = h.frames.nested; keys = o.keys; operands = IsLive-stack_in l.operands group.operands h.operands }
