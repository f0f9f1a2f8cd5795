-- Slots that were added beyond the live ones change no activation and no key, and putting back works over them.
use Rattle.std.specs.Prelude.{◌≡◌, List, map, refl}
use Rattle.std.proofs.Common.{ap, ◌∙◌}
use Rattle.std.specs.Global.{Vec}
use Rattle.rawk_value.specs.Values.{Bytes}
use Rattle.rawk_slots.specs.Stacked.{IsLive, live_slots, live_values}
use Rattle.rawk_slots.specs.StackLaws.{live_slots-grown, live_values-grown, FitsStack-over, FitsStackIf-over, GrownStack-back, GrownStack-in, GrownStack-refl, GrownStack-trans, IsLive-stack_back, IsLive-stack_in}
use Rattle.rawk_frames.specs.declared.frames.Local.{Local}
use Rattle.rawk_frames.specs.declared.frames.Activation.{Activation}
use Rattle.rawk_frames.specs.declared.frames.FramesGroup.{FramesGroup}
use Rattle.rawk_frames.specs.declared.keys_left.KeysLeftGroup.{KeysLeftGroup}
use Rattle.rawk_frames.specs.LaidFrames.{LaidFrames, AreFramesLive, AreNested, GrownFrames, IsSameFrames, frames_from, frames_of, returns_of}
use Rattle.rawk_frames.specs.FramesBack.{FitsFrames, frames_back}
use Rattle.rawk_frames.specs.LaidKeys.{LaidKeys, AreKeysLive, GrownKeys, IsSameKeys, keys_of, left_lists}
use Rattle.rawk_frames.specs.KeysBack.{FitsKeys, keys_back}

-- ---- activations

pub frames_of-grown : (l m : LaidFrames) → GrownFrames l m → IsLive l.frames → IsLive l.locals → frames_of m ≡ frames_of l
frames_of-grown l m g h k =
    ap (λ (xs : List Activation). frames_from xs (live_slots m.locals)) (live_values-grown l.frames m.frames g.frames h)
    ∙ ap (λ (xs : List Local). frames_from (live_values l.frames) xs) (live_slots-grown l.locals m.locals g.locals k)

pub returns_of-grown : (l m : LaidFrames) → GrownFrames l m → IsLive l.frames → returns_of m ≡ returns_of l
returns_of-grown l m g h = ap (λ (xs : List Activation). map (λ a. a.return_to) xs) (live_values-grown l.frames m.frames g.frames h)

pub AreNested-grown : (l m : LaidFrames) → GrownFrames l m → AreFramesLive l → AreNested l → AreNested m
AreNested-grown l m g h nested = rw (live_values-grown l.frames m.frames g.frames h.frames, live_slots-grown l.locals m.locals g.locals h.locals) nested

pub GrownFrames-refl : (l : LaidFrames) → GrownFrames l l
GrownFrames-refl l = record { frames = GrownStack-refl l.frames; locals = GrownStack-refl l.locals }

pub GrownFrames-trans : (l m n : LaidFrames) → GrownFrames l m → GrownFrames m n → GrownFrames l n
GrownFrames-trans l m n a b = record { frames = GrownStack-trans l.frames m.frames n.frames a.frames b.frames; locals = GrownStack-trans l.locals m.locals n.locals a.locals b.locals }

-- what is put back is live
pub AreFramesLive-back : (l : LaidFrames) (group : FramesGroup) → FitsFrames group l → AreFramesLive (frames_back l group)
AreFramesLive-back l group h = record { frames = IsLive-stack_in l.frames group.frames h.frames; locals = IsLive-stack_in l.locals group.locals h.locals }

-- putting back, over more slots
pub GrownFrames-back : (l m : LaidFrames) (group : FramesGroup) → GrownFrames l m → FitsFrames group l → GrownFrames (frames_back l group) (frames_back m group)
GrownFrames-back l m group g h = record {
  frames = GrownStack-in l.frames m.frames group.frames g.frames h.frames;
  locals = GrownStack-in l.locals m.locals group.locals g.locals h.locals;
}

pub FitsFrames-grown : (l m : LaidFrames) (group : FramesGroup) → GrownFrames l m → FitsFrames group l → FitsFrames group m
FitsFrames-grown l m group g h = record {
  frames = FitsStackIf-over l.frames m.frames group.frames g.frames h.frames;
  locals = FitsStackIf-over l.locals m.locals group.locals g.locals h.locals;
  nested = AreNested-grown (frames_back l group) (frames_back m group) (GrownFrames-back l m group g h) (AreFramesLive-back l group h) h.nested;
}

pub IsSameFrames-refl : (l : LaidFrames) → IsSameFrames l l
IsSameFrames-refl l = record { grown = GrownFrames-refl l; same = refl; returns = refl }

pub IsSameFrames-trans : (l m n : LaidFrames) → IsSameFrames l m → IsSameFrames m n → IsSameFrames l n
IsSameFrames-trans l m n a b = record { grown = GrownFrames-trans l m n a.grown b.grown; same = b.same ∙ a.same; returns = b.returns ∙ a.returns }

-- live activations that have grown are the same activations
pub IsSameFrames-grown : (l m : LaidFrames) → GrownFrames l m → AreFramesLive l → IsSameFrames l m
IsSameFrames-grown l m g h = record { grown = g; same = frames_of-grown l m g h.frames h.locals; returns = returns_of-grown l m g h.frames }

-- putting back, over more slots
pub IsSameFrames-back : (l m : LaidFrames) (group : FramesGroup) → GrownFrames l m → FitsFrames group l → IsSameFrames (frames_back l group) (frames_back m group)
IsSameFrames-back l m group g h = IsSameFrames-grown (frames_back l group) (frames_back m group) (GrownFrames-back l m group g h) (AreFramesLive-back l group h)

-- a group that leads from activations back to others leads there over more slots too
pub frames_lead_back-grown : (l m earlier : LaidFrames) (group : FramesGroup) → FitsFrames group l → IsSameFrames earlier (frames_back l group) → IsSameFrames l m → FitsFrames group m × IsSameFrames earlier (frames_back m group)
frames_lead_back-grown l m earlier group h e g =
    (FitsFrames-grown l m group g.grown h, IsSameFrames-trans earlier (frames_back l group) (frames_back m group) e (IsSameFrames-back l m group g.grown h))

-- ---- keys

pub keys_of-grown : (l m : LaidKeys) → GrownKeys l m → AreKeysLive l → keys_of m ≡ keys_of l
keys_of-grown l m g h =
    ap (λ xs. left_lists xs (live_values m.lists)) (live_values-grown l.visited m.visited g.visited h.visited)
    ∙ ap (λ (xs : List (Vec Bytes)). left_lists (live_values l.visited) xs) (live_values-grown l.lists m.lists g.lists h.lists)

pub GrownKeys-refl : (l : LaidKeys) → GrownKeys l l
GrownKeys-refl l = record { lists = GrownStack-refl l.lists; visited = GrownStack-refl l.visited }

pub GrownKeys-trans : (l m n : LaidKeys) → GrownKeys l m → GrownKeys m n → GrownKeys l n
GrownKeys-trans l m n a b = record { lists = GrownStack-trans l.lists m.lists n.lists a.lists b.lists; visited = GrownStack-trans l.visited m.visited n.visited a.visited b.visited }

-- what is put back is live
pub AreKeysLive-back : (l : LaidKeys) (group : KeysLeftGroup) → FitsKeys group l → AreKeysLive (keys_back l group)
AreKeysLive-back l group h = record { lists = IsLive-stack_back l.lists group.lists h.lists; visited = IsLive-stack_back l.visited group.visited h.visited }

-- putting back, over more slots
pub GrownKeys-back : (l m : LaidKeys) (group : KeysLeftGroup) → GrownKeys l m → FitsKeys group l → GrownKeys (keys_back l group) (keys_back m group)
GrownKeys-back l m group g h = record {
  lists = GrownStack-back l.lists m.lists group.lists g.lists h.lists;
  visited = GrownStack-back l.visited m.visited group.visited g.visited h.visited;
}

pub FitsKeys-grown : (l m : LaidKeys) (group : KeysLeftGroup) → GrownKeys l m → FitsKeys group l → FitsKeys group m
FitsKeys-grown l m group g h = record {
  lists = FitsStack-over l.lists m.lists group.lists g.lists h.lists;
  visited = FitsStack-over l.visited m.visited group.visited g.visited h.visited;
}

pub IsSameKeys-refl : (l : LaidKeys) → IsSameKeys l l
IsSameKeys-refl l = record { grown = GrownKeys-refl l; same = refl }

pub IsSameKeys-trans : (l m n : LaidKeys) → IsSameKeys l m → IsSameKeys m n → IsSameKeys l n
IsSameKeys-trans l m n a b = record { grown = GrownKeys-trans l m n a.grown b.grown; same = b.same ∙ a.same }

-- live lists that have grown have the same keys
pub IsSameKeys-grown : (l m : LaidKeys) → GrownKeys l m → AreKeysLive l → IsSameKeys l m
IsSameKeys-grown l m g h = record { grown = g; same = keys_of-grown l m g h }

-- putting back, over more slots
pub IsSameKeys-back : (l m : LaidKeys) (group : KeysLeftGroup) → GrownKeys l m → FitsKeys group l → IsSameKeys (keys_back l group) (keys_back m group)
IsSameKeys-back l m group g h = IsSameKeys-grown (keys_back l group) (keys_back m group) (GrownKeys-back l m group g h) (AreKeysLive-back l group h)

-- a group that leads from keys back to others leads there over more slots too
pub keys_lead_back-grown : (l m earlier : LaidKeys) (group : KeysLeftGroup) → FitsKeys group l → IsSameKeys earlier (keys_back l group) → IsSameKeys l m → FitsKeys group m × IsSameKeys earlier (keys_back m group)
keys_lead_back-grown l m earlier group h e g =
    (FitsKeys-grown l m group g.grown h, IsSameKeys-trans earlier (keys_back l group) (keys_back m group) e (IsSameKeys-back l m group g.grown h))
