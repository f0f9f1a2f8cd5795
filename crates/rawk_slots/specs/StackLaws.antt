-- Slots that were added beyond the live values of a stack change nothing, and putting back works over them.
use Rattle.std.specs.Prelude.{◌≡◌, List, [], ◌++◌, length, refl, reverse, Option, None, Some}
use Rattle.std.proofs.Common.{sym, ap, ◌∙◌, arith, append_assoc}
use Rattle.std.proofs.lemmas.List.{append-nil, length-append, reverse-reverse, take-append-le}
use Rattle.rawk_slots.specs.StackGroups.{StackGroup}
use Rattle.rawk_slots.specs.BackLaws.{back_grow, AreBelow-more, length-back}
use Rattle.rawk_slots.specs.Stacked.{Stacked, GrownStack, IsLive, IsSameStack, live_slots, live_values, with_slots}
use Rattle.rawk_slots.specs.StackBack.{FitsStack, FitsStackIf, stack_back, stack_in}

-- a grown stack has the same live values
pub live_values-grown : {T : Type 0} (s t : Stacked T) → GrownStack s t → IsLive s → live_values t ≡ live_values s
live_values-grown {T} s t g h = ap (λ (x : Stacked T). live_values x) g.is ∙ ap (λ (xs : List T). reverse xs) (take-append-le s.live s.slots g.more h)

pub live_slots-grown : {T : Type 0} (s t : Stacked T) → GrownStack s t → IsLive s → live_slots t ≡ live_slots s
live_slots-grown {T} s t g h = sym (reverse-reverse (live_slots t)) ∙ (ap (λ (xs : List T). reverse xs) (live_values-grown s t g h) ∙ reverse-reverse (live_slots s))

pub IsLive-grown : {T : Type 0} (s t : Stacked T) → GrownStack s t → IsLive s → IsLive t
IsLive-grown s t g h = rw g.is (omega (arith, h, length-append s.slots g.more))

pub GrownStack-refl : {T : Type 0} (s : Stacked T) → GrownStack s s
GrownStack-refl {T} s = record { more = []; is = ap (λ (xs : List T). record s { slots = xs }) (sym (append-nil s.slots)) }

pub GrownStack-trans : {T : Type 0} (s t u : Stacked T) → GrownStack s t → GrownStack t u → GrownStack s u
GrownStack-trans {T} s t u a b = record {
  more = a.more ++ b.more;
  is = b.is ∙ (ap (λ (x : Stacked T). with_slots x b.more) a.is ∙ ap (λ (xs : List T). record s { slots = xs }) (append_assoc s.slots a.more b.more));
}

pub stack_back-grown : {T : Type 0} (s : Stacked T) (group : StackGroup T) (more : List T) → FitsStack group s → stack_back (with_slots s more) group ≡ with_slots (stack_back s group) more
stack_back-grown {T} s group more h = ap (λ (xs : List T). record { slots = xs; live = group.live }) (back_grow s.slots group.entries more h.places)

pub FitsStack-grown : {T : Type 0} (s : Stacked T) (group : StackGroup T) (more : List T) → FitsStack group s → FitsStack group (with_slots s more)
FitsStack-grown s group more h =
    let size = length-append s.slots more in
    record {
      places = AreBelow-more (length s.slots) (length (s.slots ++ more)) group.entries (omega arith) h.places;
      live = omega (arith, h.live);
    }

-- putting back, over more slots
pub GrownStack-back : {T : Type 0} (s t : Stacked T) (group : StackGroup T) → GrownStack s t → FitsStack group s → GrownStack (stack_back s group) (stack_back t group)
GrownStack-back {T} s t group g h = record { more = g.more; is = ap (λ (x : Stacked T). stack_back x group) g.is ∙ stack_back-grown s group g.more h }

-- a group of a stack is one of a grown stack too
pub FitsStack-over : {T : Type 0} (s t : Stacked T) (group : StackGroup T) → GrownStack s t → FitsStack group s → FitsStack group t
FitsStack-over s t group g h = rw g.is (FitsStack-grown s group g.more h)

pub IsLive-stack_back : {T : Type 0} (s : Stacked T) (group : StackGroup T) → FitsStack group s → IsLive (stack_back s group)
IsLive-stack_back s group h = omega (arith, length-back s.slots group.entries, h.live)

pub IsSameStack-refl : {T : Type 0} (s : Stacked T) → IsSameStack s s
IsSameStack-refl s = record { grown = GrownStack-refl s; same = refl }

pub IsSameStack-trans : {T : Type 0} (s t u : Stacked T) → IsSameStack s t → IsSameStack t u → IsSameStack s u
IsSameStack-trans s t u a b = record { grown = GrownStack-trans s t u a.grown b.grown; same = b.same ∙ a.same }

-- a live stack that has grown is the same stack
pub IsSameStack-grown : {T : Type 0} (s t : Stacked T) → GrownStack s t → IsLive s → IsSameStack s t
IsSameStack-grown s t g h = record { grown = g; same = live_values-grown s t g h }

-- putting back, over more slots
pub IsSameStack-back : {T : Type 0} (s t : Stacked T) (group : StackGroup T) → GrownStack s t → FitsStack group s → IsSameStack (stack_back s group) (stack_back t group)
IsSameStack-back s t group g h = IsSameStack-grown (stack_back s group) (stack_back t group) (GrownStack-back s t group g h) (IsLive-stack_back s group h)

-- a group that leads from a stack back to another leads there over more slots too
pub leads_back-grown : {T : Type 0} (s t earlier : Stacked T) (group : StackGroup T) → FitsStack group s → IsSameStack earlier (stack_back s group) → IsSameStack s t → FitsStack group t × IsSameStack earlier (stack_back t group)
leads_back-grown s t earlier group h e g =
    (FitsStack-over s t group g.grown h, IsSameStack-trans earlier (stack_back s group) (stack_back t group) e (IsSameStack-back s t group g.grown h))

-- the same of what a step changed, if it changed anything
pub FitsStackIf-over : {T : Type 0} (s t : Stacked T) (o : Option (StackGroup T)) → GrownStack s t → FitsStackIf o s → FitsStackIf o t
FitsStackIf-over s t None g h = IsLive-grown s t g h
FitsStackIf-over s t (Some group) g h = FitsStack-over s t group g h

pub IsLive-stack_in : {T : Type 0} (s : Stacked T) (o : Option (StackGroup T)) → FitsStackIf o s → IsLive (stack_in s o)
IsLive-stack_in s None h = h
IsLive-stack_in s (Some group) h = IsLive-stack_back s group h

pub GrownStack-in : {T : Type 0} (s t : Stacked T) (o : Option (StackGroup T)) → GrownStack s t → FitsStackIf o s → GrownStack (stack_in s o) (stack_in t o)
GrownStack-in s t None g h = g
GrownStack-in s t (Some group) g h = GrownStack-back s t group g h
