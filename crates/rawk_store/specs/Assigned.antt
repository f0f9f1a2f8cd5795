-- What an assignment changes, and what it neither looks at nor changes.
use Rattle.std.specs.Prelude.{◌≡◌, ℕ, zero, suc, Option, None, Some, Result, Ok, Err}
use Rattle.std.proofs.Common.{refl, sym, ap, ◌∙◌}
use Rattle.rawk_value.specs.declared.value.Value.{Value}
use Rattle.rawk_value.specs.declared.fault.Fault.{Fault}
use Rattle.rawk_value.specs.Values.{Bytes, next_ok, number_of, text_of}
use Rattle.rawk_frames.specs.LaidFrames.{returns_of}
use Rattle.rawk_pieces.specs.Fields.{fields_of}
use Rattle.rawk_store.specs.declared.target.Target.TheVariants as place
use Rattle.rawk_store.specs.State.{State, Target, FS, assigned, field_number, global_text, is_paragraph}
use Rattle.rawk_store.specs.Layout.{Layout, state}

-- the state is the one after the assignment, and what stands beside the state is as before
pub record IsAssigned (target : Target) (value : Value) (old new : Layout) : Type 0 where
  pub state : assigned target value (state old) ≡ Ok (state new)
  pub returns : returns_of new.frames ≡ returns_of old.frames
  pub keys : new.keys ≡ old.keys
  pub operands : new.operands ≡ old.operands
  pub registers : new.registers ≡ old.registers

-- the place was assigned, or that is a fault and changes nothing
abbrev pub HasAssigned : Target → Value → Option Fault → Layout → Layout → Type 0
HasAssigned target value None old new = IsAssigned target value old new
HasAssigned target value (Some fault) old new = (assigned target value (state old) ≡ Err fault) × (new ≡ old)

-- the same state with other consumed bytes, another output, and another point with its site
abbrev pub beside : ℕ → Bytes → ℕ → Option ℕ → State → State
beside consumed output here site s = record s { consumed = consumed; output = output; here = here; site = site }

-- a result that goes on with each of two functions alike
next_alike : {A B : Type 0} (r : Result A Fault) (f : A → B) (g : B → B) → next_ok r (λ a. Ok (g (f a))) ≡ next_ok (next_ok r (λ a. Ok (f a))) (λ b. Ok (g b))
next_alike (Ok a) f g = refl
next_alike (Err fault) f g = refl

twice_alike : {A B C : Type 0} (r : Result A Fault) (h : A → Result B Fault) (f : B → C) (g : C → C) → next_ok r (λ a. next_ok (h a) (λ b. Ok (g (f b)))) ≡ next_ok (next_ok r (λ a. next_ok (h a) (λ b. Ok (f b)))) (λ c. Ok (g c))
twice_alike (Ok a) h f g = next_alike (h a) f g
twice_alike (Err fault) h f g = refl

-- an assignment neither looks at them nor changes them
pub assigned_beside : (t : Target) (v : Value) (consumed : ℕ) (output : Bytes) (here : ℕ) (site : Option ℕ) (s : State) →
    assigned t v (beside consumed output here site s) ≡ next_ok (assigned t v s) (λ u. Ok (beside consumed output here site u))
assigned_beside (place.Global x) v consumed output here site s = refl
assigned_beside (place.Local i) v consumed output here site s = refl
assigned_beside place.FieldCount v consumed output here site s = twice_alike (number_of v) field_number _ (beside consumed output here site)
assigned_beside (place.Field zero) v consumed output here site s = next_alike (fields_of (text_of v) (global_text FS s) (is_paragraph s)) _ (beside consumed output here site)
assigned_beside (place.Field (suc n)) v consumed output here site s = refl
assigned_beside (place.Element a key) v consumed output here site s = refl

-- the output stays
pub same_output : (t : Target) (v : Value) (s u : State) → assigned t v s ≡ Ok u → u.output ≡ s.output
same_output t v s u is =
    let again : next_ok (assigned t v s) (λ w. Ok (beside s.consumed s.output s.here s.site w)) ≡ Ok u = sym (assigned_beside t v s.consumed s.output s.here s.site s) ∙ is in
    let there : next_ok (Ok u) (λ (w : State). Ok (beside s.consumed s.output s.here s.site w)) ≡ Ok u = ap (λ (r : Result State Fault). next_ok r (λ w. Ok (beside s.consumed s.output s.here s.site w))) (sym is) ∙ again in
    ap (λ (r : Result State Fault). elim r as (λ _. Bytes) [ Ok w ↦ w.output | Err fault ↦ s.output ]) (sym there)
