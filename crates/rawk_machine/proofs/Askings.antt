-- What a machine has read, its code's run asked for.
use Rattle.std.proofs.Common.{◌≡◌, ℕ, ◌+◌, ◌-◌, ◌≤◌, inl, inr, List, [], ◌∷◌, ◌++◌, length, Option, None, refl, sym, ap, ◌∙◌, subst, arith}
use Rattle.std.proofs.lemmas.List.{length-append}
use Rattle.rawk_value.specs.Values.{Bytes}
use Rattle.rawk_devices.specs.Inputs.{Input, CountsUp, before}
use Rattle.rawk_tape.specs.Tapes.{TapeState, MayBe}
use Rattle.rawk_devices.specs.declared.source.Ending.{Ending as End}
use Rattle.rawk_store.specs.declared.registers.Ending.{Ending}
use Rattle.rawk_store.specs.Layout.{Layout, state, operands, keys}
use Rattle.rawk_store.specs.State.{State}
use Rattle.rawk_frames.specs.LaidFrames.{returns_of}
use Rattle.rawk_code.specs.Listing.{Listing}
use Rattle.rawk_code.specs.Actions.{Point, Given, SetAt}
use Rattle.rawk_code.specs.Trace.{FirstValue}
use Rattle.rawk_code.specs.Correct.{first, after}
use Rattle.rawk_reading.specs.Drawing.{Draws}
use Rattle.rawk_travel.specs.Asking.{Asks, asked_behind}
use Rattle.rawk_operands.specs.Moving.{Moving, moving_of, going}
use Rattle.rawk_reading.specs.Reading.{run_in}
use Rattle.rawk_machine.specs.Standing.{Ground, StandsAt, run_at, config_at, whole}
use Rattle.rawk_machine.specs.Reached.{stands_reached}
use Rattle.rawk_machine.specs.Kept.{moment_in}
use Rattle.rawk_steps.specs.Arrival.{site_for}
use Rattle.rawk_machine.specs.Asked.{HasAsked, asked_wider}

-- what a step has asked for, from where its instructions begin
asked_on : {S : Type 0} (may_give : S → Input → Type 0) (code : Listing) (settings : List FirstValue) (held : Bytes) (next : TapeState S) (l : Moving) (given : Given) (count m n : ℕ) (points : List Point) (gone handed : Bytes) (kept : Input) →
    after code settings given count ≡ going l l.registers.place (run_in l points gone handed) → length points ≡ n → m ≤ n → Asks may_give code held next l → given.input ≡ before gone kept → MayBe may_give next kept →
    HasAsked code settings given m (gone ++ held) → HasAsked code settings given n (gone ++ next.bytes)
asked_on may_give code settings held next l given count m n points gone handed kept reached number low asks is may asked =
    let here = going l l.registers.place (run_in l points gone handed) in
    elim (asks given points gone handed kept is may) [
      | inl same ↦ subst (λ (b : Bytes). HasAsked code settings given n (gone ++ b)) (sym same) (asked_wider code settings given m n (gone ++ held) low asked)
      | inr more ↦ inr (asked_behind code given (length points) n (first code settings) here (gone ++ next.bytes) (omega (arith, number)) (count, reached) more)
    ]

-- a step from a point
pub asked_step : {S : Type 0} (may_give : S → Input → Type 0) (code : Listing) (settings : List FirstValue) (limit : ℕ) (sets : List SetAt) (point : ℕ) (held : Bytes) (next : TapeState S) (l : Layout) (input : Input) (gone handed : Bytes) →
    l.registers.ending ≡ None → Asks may_give code held next (moving_of l) → (kept : Input) → input ≡ before gone kept → MayBe may_give next kept →
    StandsAt (record { code = code; settings = settings; steps = limit; input = input }) sets point (moment_in l) gone handed →
    HasAsked code settings (record { input = input; sets = sets; steps = limit }) point (gone ++ held) → HasAsked code settings (record { input = input; sets = sets; steps = limit }) (point + 1) (gone ++ next.bytes)
asked_step may_give code settings limit sets point held next l input gone handed none asks kept is may at asked =
    let ground : Ground = record { code = code; settings = settings; steps = limit; input = input } in
    let given : Given = record { input = input; sets = sets; steps = limit } in
    let s : State = whole gone handed (state l) in
    let last : Point = record { site = l.registers.site; state = s } in
    let r = stands_reached ground sets point (moment_in l) gone handed at in
    let reached : after code settings given r.count ≡ going (moving_of l) l.registers.place (run_in (moving_of l) (at.earlier ++ (last ∷ [])) gone handed) =
    r.reached ∙ ap (λ (x : Option Ending). config_at x l.registers.place (operands l) (keys l) (returns_of l.frames) l.registers.phase (run_at x (site_for x l.registers.site) at.earlier s)) none in
    let number : length (at.earlier ++ (last ∷ [])) ≡ point + 1 = length-append at.earlier (last ∷ []) ∙ ap (λ (k : ℕ). k + 1) at.number in
    asked_on may_give code settings held next (moving_of l) given r.count point (point + 1) (at.earlier ++ (last ∷ [])) gone handed kept reached number (omega arith) asks is may asked

-- the first step
pub asked_first : {S : Type 0} (may_give : S → Input → Type 0) (code : Listing) (settings : List FirstValue) (limit : ℕ) (next : TapeState S) (l : Layout) (input : Input) →
    first code settings ≡ going (moving_of l) l.registers.place (run_in (moving_of l) [] [] []) → Asks may_give code [] next (moving_of l) → (kept : Input) → input ≡ before [] kept → MayBe may_give next kept →
    HasAsked code settings (record { input = input; sets = []; steps = limit }) 0 next.bytes
asked_first may_give code settings limit next l input starts asks kept is may =
    asked_on may_give code settings [] next (moving_of l) (record { input = input; sets = []; steps = limit }) 0 0 0 [] [] [] kept starts refl (omega arith) asks is may (inl refl)

-- how many bytes were read at first
pub counted_first : {S : Type 0} (over : S → Option End) (handed : S → ℕ) (old new : TapeState S) → old.bytes ≡ [] → Draws over handed old new → CountsUp (handed old.source) (handed new.source) (length new.bytes)
counted_first over handed old new none draws =
    let zero : length new.bytes - length old.bytes ≡ length new.bytes = omega (arith, ap length none) in
    subst (CountsUp (handed old.source) (handed new.source)) zero draws.counted
