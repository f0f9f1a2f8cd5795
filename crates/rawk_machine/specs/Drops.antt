-- Bytes that a machine has dropped are gone, and nothing else has changed.
use Rattle.std.proofs.Common.{◌≡◌, ℕ, ◌+◌, ◌-◌, ◌≤◌, [], ◌++◌, length, take, drop, refl, sym, ap, ◌∙◌, arith, append_assoc}
use Rattle.std.proofs.lemmas.List.{append-nil, length-append, take-append-drop, length-take-le}
use Rattle.rawk_value.specs.Values.{Bytes}
use Rattle.rawk_devices.specs.Inputs.{Input, before}
use Rattle.rawk_store.specs.State.{State}
use Rattle.rawk_machine.specs.Standing.{Standing, MayCome, IsAt, dropped, whole, ground_of, moment_of}
use Rattle.rawk_machine.specs.Reached.{stands_as}

whole_dropped : (gone handed bytes : Bytes) (s : State) (n : ℕ) → n ≤ length bytes → n ≤ s.consumed → whole gone handed s ≡ whole (gone ++ take n bytes) handed (record s { consumed = s.consumed - n })
whole_dropped gone handed bytes s n h k =
    let e : length gone + s.consumed ≡ length (gone ++ take n bytes) + (s.consumed - n) = omega (arith, length-append gone (take n bytes), length-take-le n bytes h) in
    ap (λ (c : ℕ). record (whole gone handed s) { consumed = c }) e

-- bytes that were dropped are gone
pub at_dropped : {S : Type 0} (machine : Standing S) (n : ℕ) (input : Input) (gone handed : Bytes) → n ≤ length machine.tape.bytes → n ≤ machine.state.consumed → IsAt machine input gone handed → IsAt (dropped n machine) input (gone ++ take n machine.tape.bytes) handed
at_dropped machine n input gone handed h k at =
    stands_as (ground_of machine input) machine.sets machine.point (moment_of machine) gone handed (gone ++ take n machine.tape.bytes) handed (record machine.state { consumed = machine.state.consumed - n })
    (sym (whole_dropped gone handed machine.tape.bytes machine.state n h k)) at

pub at_kept : {S : Type 0} (machine : Standing S) (n : ℕ) (input : Input) (gone handed : Bytes) → n ≤ length machine.tape.bytes → n ≤ machine.state.consumed → IsAt (dropped n machine) input (gone ++ take n machine.tape.bytes) handed → IsAt machine input gone handed
at_kept machine n input gone handed h k at =
    stands_as (ground_of machine input) machine.sets machine.point (moment_of (dropped n machine)) (gone ++ take n machine.tape.bytes) handed gone handed machine.state
    (whole_dropped gone handed machine.tape.bytes machine.state n h k) at

-- output that was given is handed
pub at_given : {S : Type 0} (machine : Standing S) (input : Input) (gone handed : Bytes) → IsAt machine input gone handed → IsAt (record machine { state = record machine.state { output = [] } }) input gone (handed ++ machine.state.output)
at_given machine input gone handed at =
    stands_as (ground_of machine input) machine.sets machine.point (moment_of machine) gone handed gone (handed ++ machine.state.output) (record machine.state { output = [] })
    (ap (λ (o : Bytes). record (whole gone handed machine.state) { output = o }) (append-nil (handed ++ machine.state.output))) at

-- these bytes, in two parts
before_parts : (gone bytes : Bytes) (n : ℕ) (rest : Input) → before (gone ++ take n bytes) (before (drop n bytes) rest) ≡ before gone (before bytes rest)
before_parts gone bytes n rest =
    ap (λ (b : Bytes). (record { bytes = b; fails = rest.fails }))
    (append_assoc gone (take n bytes) (drop n bytes ++ rest.bytes) ∙ ap (λ (b : Bytes). gone ++ b) (sym (append_assoc (take n bytes) (drop n bytes) rest.bytes) ∙ ap (λ (b : Bytes). b ++ rest.bytes) (take-append-drop n bytes)))

pub come_kept : {S : Type 0} (may_give : S → Input → Type 0) (machine : Standing S) (n : ℕ) (gone : Bytes) (input : Input) → MayCome may_give (dropped n machine) (gone ++ take n machine.tape.bytes) input → MayCome may_give machine gone input
come_kept may_give machine n gone input m =
    let rest = m.may.rest in
    record {
      kept = before machine.tape.bytes rest;
      may = record { rest = rest; comes = m.may.comes; whole = refl };
      whole = m.whole ∙ ap (before (gone ++ take n machine.tape.bytes)) m.may.whole ∙ before_parts gone machine.tape.bytes n rest;
    }

pub come_dropped : {S : Type 0} (may_give : S → Input → Type 0) (machine : Standing S) (n : ℕ) (gone : Bytes) (input : Input) → MayCome may_give machine gone input → MayCome may_give (dropped n machine) (gone ++ take n machine.tape.bytes) input
come_dropped may_give machine n gone input m =
    let rest = m.may.rest in
    let bytes = drop n machine.tape.bytes in
    record {
      kept = before bytes rest;
      may = record { rest = rest; comes = m.may.comes; whole = refl };
      whole = m.whole ∙ ap (before gone) m.may.whole ∙ sym (before_parts gone machine.tape.bytes n rest);
    }
