-- A machine and its program go on being a stage.
use Rattle.std.proofs.Common.{◌≡◌, ℕ, ◌+◌, ◌-◌, ◌≤◌, Bool, true, false, List, [], ◌∷◌, ◌++◌, length, Option, None, Some, Result, Ok, Err, IfOk, OnErr, refl, sym, ap, ◌∙◌, subst, arith, rules, IsTrue, if◌then◌else◌}
use Rattle.std.specs.Prelude.{nat_lt, nat_le, nat_eq, ◌||◌, slice_get, slice_index_or, unwrap_or, is_some}
use Rattle.rawk_value.specs.declared.value.Value.{Value}
use Rattle.rawk_value.specs.declared.value.Value.TheVariants.{Uninitialized}
use Rattle.std.specs.List.{list_any}
use Rattle.std.proofs.lemmas.Bool.{eq-eqb, lt-ltb}
use Rattle.std.proofs.lemmas.Option.{slice_get_past, slice_get_within, unwrap_or-slice_get}
use Rattle.rawk_tree.specs.declared.tree.Program.{Program}
use Rattle.rawk_devices.specs.Inputs.{Input, before}
use Rattle.rawk_history.specs.Keeping.{keeps_any}
use Rattle.rawk_code.specs.Actions.{SetAt, Ending, sets_at}
use Rattle.rawk_code.specs.Trace.{Trace, trace, number, site_at_end}
use Rattle.rawk_code.specs.Correct.{CodeOf}
use Rattle.rawk_machine.specs.Standing.{Standing, Earlier, Past, MayCome, Stood, LastMade, given_of, IsSet, gone_back, taken_back}
use Rattle.rawk_machine.specs.Kept.{AllBelow, Few}
use Rattle.rawk_machine.specs.InTrace.{exactly_by}
use Rattle.rawk_answers.specs.Positions.{Snapshot, Stands, at, held_or, upto, raised, has_set_at, trace_under}
use Rattle.rawk_value.specs.declared.fault.Fault.{Fault}
use Rattle.rawk_store.specs.State.{Target}
use Rattle.rawk_devices.specs.declared.source.Ending.{Ending as End}
use Rattle.rawk_reading.specs.Drawing as drawing
use Rattle.rawk_answers.specs.Works.{Draws}
use Rattle.rawk.specs.Staged.{IsStage, held_of, position_of, work_of}

pub stage_kept : {S : Type 0} (may_give : S → Input → Type 0) (p : Program) (old new : Standing S) → IsStage may_give p old → new.code ≡ old.code → new.limit ≡ old.limit → ((input : Input) → MayCome may_give new [] input → MayCome may_give old [] input) →
    ((input : Input) → MayCome may_give new [] input → Stood old input → Stood new input) → IsStage may_give p new
stage_kept may_give p old new is code limit may stood = record {
  compiled = subst (CodeOf p) (sym code) is.compiled;
  keeps = subst (λ (l : Option ℕ). keeps_any l ≡ true) (sym limit) is.keeps;
  stood = λ input m. stood input m (is.stood input (may input m));
}

pub back_code : {S : Type 0} (ps : List Past) (m : Standing S) → (gone_back ps m).code ≡ m.code
back_code [] m = refl
back_code (p ∷ ps) m = refl

pub back_limit : {S : Type 0} (ps : List Past) (m : Standing S) → (gone_back ps m).limit ≡ m.limit
back_limit [] m = refl
back_limit (p ∷ ps) m = refl

pub unset_code : {S : Type 0} (es : List Earlier) (m : Standing S) → (taken_back es m).code ≡ m.code
unset_code [] m = refl
unset_code (e ∷ es) m = refl

pub unset_limit : {S : Type 0} (es : List Earlier) (m : Standing S) → (taken_back es m).limit ≡ m.limit
unset_limit [] m = refl
unset_limit (e ∷ es) m = refl

pub back_work : {S : Type 0} (ps : List Past) (m : Standing S) → work_of (gone_back ps m) ≡ work_of m
back_work [] m = refl
back_work (p ∷ ps) m = refl

pub unset_work : {S : Type 0} (es : List Earlier) (m : Standing S) → work_of (taken_back es m) ≡ work_of m
unset_work [] m = refl
unset_work (e ∷ es) m = refl

-- a set does nothing else
pub set_work : {S E : Type 0} (result : Result (Option Fault) E) (target : Target) (value : Value) (old new : Standing S) → IfOk result (λ fault. IsSet fault target value old new) → OnErr result (new ≡ old)
    → work_of new ≡ work_of old
set_work (Ok None) target value old new made same = ap work_of made.1
set_work (Ok (Some fault)) target value old new made same = ap work_of made
set_work (Err refused) target value old new made same = ap work_of same

-- what an advance draws
pub draws_is : {S : Type 0} (over : S → Option End) (handed : S → ℕ) (old new : Standing S) → drawing.Draws over handed old.tape new.tape → old.executed ≤ new.executed → Draws over handed (work_of old) (work_of new)
draws_is over handed old new d ran = record { ran = ran; longer = d.longer; counted = d.counted; closed = d.closed }

-- what may still come behind what was read
pub comes_behind : {S : Type 0} (may_give : S → Input → Type 0) (m : Standing S) (rest : Input) → may_give m.tape.source rest → MayCome may_give m [] (before m.tape.bytes rest)
comes_behind may_give m rest come = record { kept = before m.tape.bytes rest; may = record { rest = rest; comes = come; whole = refl }; whole = refl }

pub raised_few : (limit : Option ℕ) (point n : ℕ) → Few limit n → raised limit point (point - n) ≡ point - n
raised_few None point n h = refl
raised_few (Some k) point n h = omega (arith, h)

le_true : (m n : ℕ) → m ≤ n → nat_le m n ≡ true
le_true m n h = search rules

pub upto_all : (k : ℕ) (sets : List SetAt) → AllBelow (k + 1) sets → upto k sets ≡ sets
upto_all k [] h = refl
upto_all k (x ∷ xs) h = ap (λ (b : Bool). if b then x ∷ upto k xs else upto k xs) (le_true x.point k (omega (arith, h.0))) ∙ ap (λ (ys : List SetAt). x ∷ ys) (upto_all k xs h.1)

-- a machine that stands in a trace holds what is there
pub stands_by : {S : Type 0} (t : Trace) (m : Standing S) (o : Option Ending) → m.ending ≡ o → exactly_by o t m → (m.point ≤ number t) × (held_of m ≡ at t m.point)
stands_by t m None is h =
    let within = slice_get_within t.run.points m.point _ h in (
      omega (arith, within),
      ap (λ (e : Option Ending). let x : Snapshot = record { over = e; site = m.site; state = m.state } in x) is ∙ sym (ap (held_or t) h),
    )
stands_by t m (Some e) is h =
    let past = slice_get_past t.run.points m.point (omega (arith, h.number)) in
    let held = λ (o : Option Ending) (site : Option ℕ). let x : Snapshot = record { over = o; site = site; state = m.state } in x in (
      omega (arith, h.number),
      ap (λ (o : Option Ending). held o m.site) (is ∙ ap (λ (x : Ending). Some x) (sym h.ending))
          ∙ ap (held (Some t.ending)) (sym h.site)
          ∙ ap (λ s. let x : Snapshot = record { over = Some t.ending; site = site_at_end t.ending t.run; state = s } in x) (sym h.state)
          ∙ sym (ap (held_or t) past),
    )

none_any : (k : ℕ) (sets : List SetAt) → sets_at sets k ≡ [] → list_any (λ e. nat_eq e.point k) sets ≡ false
none_any k [] h = refl
none_any k (x ∷ xs) h = by (nat_eq x.point k) h (none_any k xs)
  where
    by : (b : Bool) → (if b then x ∷ sets_at xs k else sets_at xs k) ≡ [] → (sets_at xs k ≡ [] → list_any (λ e. nat_eq e.point k) xs ≡ false) → (b || list_any (λ e. nat_eq e.point k) xs) ≡ false
    by true h rest = absurd (cc h)
    by false h rest = rest h

last_any : (k : ℕ) (xs : List SetAt) (e : SetAt) → e.point ≡ k → list_any (λ e. nat_eq e.point k) (xs ++ e ∷ []) ≡ true
last_any k [] e is = ap (λ (b : Bool). b || false) (eq-eqb e.point k is)
last_any k (x ∷ xs) e is = by (nat_eq x.point k) (last_any k xs e is)
  where
    by : (b : Bool) → list_any (λ e. nat_eq e.point k) (xs ++ e ∷ []) ≡ true → (b || list_any (λ e. nat_eq e.point k) (xs ++ e ∷ [])) ≡ true
    by true h = refl
    by false h = h

pub has_by : (k : ℕ) (sets : List SetAt) (es : List Earlier) → LastMade k sets es → nat_lt 0 (length es) ≡ has_set_at k sets
has_by k sets [] h = sym (none_any k sets h)
has_by k sets (e ∷ es) (last, is, of) = lt-ltb 0 (length (e ∷ es)) (omega arith) ∙ sym (ap (has_set_at k) is ∙ last_any k e.sets last of)

pub some_of : {A : Type 0} (o : Option A) → IsTrue (is_some o) → (x : A) × (o ≡ Some x)
some_of None h = absurd (cc h)
some_of (Some x) h = (x, refl)

-- a value that is there or not, by a place
pub or_at : (xs : List Value) (i : ℕ) (o : Option Value) → o ≡ slice_get xs i → unwrap_or o Uninitialized ≡ slice_index_or xs i Uninitialized
or_at xs i o h = ap (λ (x : Option Value). unwrap_or x Uninitialized) h ∙ unwrap_or-slice_get xs i Uninitialized

pub stands_in : {S : Type 0} (p : Program) (m : Standing S) (input : Input) → exactly_by m.ending (trace p m.settings (given_of m input)) m → Stands input (position_of p m) (held_of m)
unfolding trace_under
stands_in p m input h = let r = stands_by (trace p m.settings (given_of m input)) m m.ending refl h in record { within = r.0; holds = r.1 }
