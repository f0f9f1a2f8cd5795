-- Replacements of matches do what their definition says.
use Rattle.std.proofs.Common.{◌≡◌, ℕ, ◌+◌, pos, List, ◌∷◌, drop, Option, None, Some, Result, Ok, Err, refl, sym, ap, ◌∙◌, subst}
use Rattle.std.specs.Option.{option_map}
use Rattle.rawk_words.specs.declared.operator.Extent.{Extent}
use Rattle.rawk_value.specs.declared.fault.Fault.{Fault}
use Rattle.rawk_value.specs.declared.value.Value.{Value}
use Rattle.rawk_value.specs.declared.value.Value.TheVariants.{Number, String}
use Rattle.rawk_value.specs.Values.{Bytes, next_ok, number_of, text_of}
use Rattle.rawk_ere_tree.specs.Tree.{Tree}
use Rattle.rawk_search.specs.Expressions.{ere_of}
use Rattle.rawk_search.specs.Replacements.{cuts}
use Rattle.rawk_replacements.specs.Replaced.{Replaced, made, taken}
use Rattle.rawk_operators.specs.Operators.{both_make, found_or, one_makes, replaced_in}
use Rattle.rawk_store.specs.declared.target.Target.TheVariants as target
use Rattle.rawk_store.specs.State.{Target, field_number}
use Rattle.rawk_code.specs.declared.code.Operand.{Operand}
use Rattle.rawk_code.specs.declared.code.Destination.{Destination}
use Rattle.rawk_code.specs.declared.code.Op.TheVariants as does
use Rattle.rawk_code.specs.declared.code.Instr.TheVariants as instr
use Rattle.rawk_code.specs.Actions.{Point, Run, Outcome, Goes, need, bind, and_then, give, assign, read, put_replaced, replace_in}
use Rattle.rawk_code.specs.Term.{Term}
use Rattle.rawk_code.specs.Term as term
use Rattle.rawk_code.specs.Machine.{joiner_of, unary_of, Going, top, below, target_of, past, op_does, goes_on}
use Rattle.rawk_operate.specs.declared.transfer.Transfer.{Transfer}
use Rattle.rawk_operate.specs.declared.transfer.Transfer.TheVariants as transfer
use Rattle.rawk_store.specs.declared.registers.Ending.TheVariants as ending
use Rattle.rawk_operands.specs.Borrowed.{shown_value}
use Rattle.rawk_operands.specs.Moving.{Moving, full, term_in, operand_in, target_value, touched, with_operands}
use Rattle.rawk_operate.specs.Done.{Done, phases_left}
use Rattle.rawk_texts.specs.Replacing.{below_newest, replaced_at}
use Rattle.rawk_operands.specs.OperandLaws.{operand_full}
use Rattle.rawk_operate.specs.DoneLaws.{give_after, le_same}
use Rattle.rawk_operate.specs.AssignLaws.{Assigns, assign_read, read_full, done_fault}
use Rattle.rawk_operate.specs.Quiets.{Quiet, quiet_by, quiet_next, quiet_operand, quiet_found}

-- what is computed does not look at the operands
pub term_below : (t : Term) (m : Moving) → term_in t (below_newest m) ≡ term_in t m
term_below (term.Given from) m = refl
term_below (term.At t) m = ap (λ (r : Result Value Fault). next_ok (next_ok (next_ok r number_of) field_number) (λ n. Ok (shown_value n m.current))) (term_below t m)
term_below (term.One k t) m = ap (λ (r : Result Value Fault). next_ok r (one_makes (unary_of k))) (term_below t m)
term_below (term.Both c a b) m =
    ap (λ (r : Result Value Fault). next_ok r (λ v. next_ok (term_in b (below_newest m)) (both_make (joiner_of c) v))) (term_below a m)
    ∙ ap (λ (r : Result Value Fault). next_ok (term_in a m) (λ v. next_ok r (both_make (joiner_of c) v))) (term_below b m)

-- the expression is read before the place, and its fault changes nothing
module _ (t : Target) (v : Value) (run behind : Run) (reads : read t run ≡ Goes v behind) where
  by_expression : (text : Bytes) (o : Option Tree) (g : Value → Tree → Option Replaced) →
      and_then (need (found_or (option_map (λ e. text) o)) run) (λ _. bind (read t) (λ w. bind (need (found_or (option_map (g w) o))) (put_replaced t))) ≡ and_then (need (found_or (option_map (g v) o)) run) (λ r _. put_replaced t r behind)
  by_expression text None g = refl
  by_expression text (Some e) g = ap (λ (out : Outcome Value). and_then out (λ w. bind (need (Ok (g w e))) (put_replaced t))) reads

  replaces : (extent : Extent) (expression by : Value) → replace_in extent expression by t run ≡ and_then (need (replaced_in extent expression by v) run) (λ r _. put_replaced t r behind)
  replaces extent expression by = by_expression (text_of expression) (ere_of (text_of expression)) (λ w e. made (text_of by) (text_of w) (taken extent (cuts (text_of w) e)))

  -- of an expression that is known, or a fault
  replaces_by : (extent : Extent) (by : Value) (r : Result Value Fault) (x : Result (Option Replaced) Fault) → next_ok r (λ e. replaced_in extent e by v) ≡ x → bind (need r) (λ e. replace_in extent e by t) run ≡ and_then (need x run) (λ r _. put_replaced t r behind)
  replaces_by extent by (Ok e) x is = replaces extent e by ∙ ap (λ (y : Result (Option Replaced) Fault). and_then (need y run) (λ r _. put_replaced t r behind)) is
  replaces_by extent by (Err f) x is = ap (λ (y : Result (Option Replaced) Fault). and_then (need y run) (λ r _. put_replaced t r behind)) is

-- the parts in which an instruction finds its replacement as the newest operand
abbrev pub past_place : Destination → Moving → Moving
past_place x m = with_operands (past x m.operands) m

abbrev pub place_in : Destination → Moving → Target
place_in x m = target_of x m.operands

-- the operands that are left
abbrev pub left_below : Operand → Destination → Moving → List Value
left_below from x m = below from (drop 1 (past x m.operands))

value_past : (t : Target) (ops : List Value) (m : Moving) → target_value t (with_operands ops m) ≡ target_value t m
value_past (target.Global n) ops m = refl
value_past (target.Local n) ops m = refl
value_past target.FieldCount ops m = refl
value_past (target.Field n) ops m = refl
value_past (target.Element a key) ops m = refl

replace_is : (extent : Extent) (from : Operand) (x : Destination) (m : Moving) (r : Result (Option Replaced) Fault) → replaced_at extent from (place_in x m) (past_place x m) ≡ r → (points : List Point) (consumed : ℕ) (handed : Bytes) →
    let run : Run = record { points = points; state = full m consumed handed } in
    let behind : Run = record { points = points; state = full (touched (place_in x m) m) consumed handed } in
    op_does (does.Replace extent from x) m.operands run ≡ and_then (and_then (need r run) (λ y _. put_replaced (place_in x m) y behind)) (λ v. give (v ∷ left_below from x m))
replace_is extent from x m r is points consumed handed =
    let run : Run = record { points = points; state = full m consumed handed } in
    let behind : Run = record { points = points; state = full (touched (place_in x m) m) consumed handed } in
    let by = top (past x m.operands) in
    let t = place_in x m in
    ap (λ (y : Result Value Fault). and_then (bind (need y) (λ e. replace_in extent e by t) run) (λ v. give (v ∷ left_below from x m))) (operand_full from (below_newest (past_place x m)) consumed handed)
    ∙ ap (λ (out : Outcome Value). and_then out (λ v. give (v ∷ left_below from x m))) (replaces_by t (target_value t m) run behind (read_full t m points consumed handed) extent by (operand_in from (below_newest (past_place x m))) r
    (ap (λ (v : Value). next_ok (operand_in from (below_newest (past_place x m))) (λ e. replaced_in extent e by v)) (sym (value_past t (past x m.operands) m)) ∙ is))

-- a fault
quiet_replaced : (extent : Extent) (from : Operand) (t : Target) (m : Moving) → Quiet (replaced_at extent from t m)
quiet_replaced extent from t m = quiet_next (operand_in from (below_newest m)) _ (quiet_operand from (below_newest m)) (λ e. quiet_found (option_map (λ tree. made (text_of (top m.operands)) (text_of (target_value t m)) (taken extent (cuts (text_of (target_value t m)) tree))) (ere_of (text_of e))))

pub replace_faults : (extent : Extent) (from : Operand) (x : Destination) (ops : List Value) (m : Moving) (f : Fault) → replaced_at extent from (place_in x m) (past_place x m) ≡ Err f → Done (instr.Do (does.Replace extent from x)) m (transfer.Over (ending.Faulted f)) (with_operands ops m)
replace_faults extent from x ops m f is =
    done_fault (does.Replace extent from x) ops m.arrays m f
    (λ points consumed handed. replace_is extent from x m (Err f) is points consumed handed)
    (quiet_by (replaced_at extent from (place_in x m) (past_place x m)) f (quiet_replaced extent from (place_in x m) (past_place x m)) is)

-- nothing matches
pub done_unreplaced : (extent : Extent) (from : Operand) (x : Destination) (m : Moving) → replaced_at extent from (place_in x m) (past_place x m) ≡ Ok None → Done (instr.Do (does.Replace extent from x)) m transfer.Next (with_operands (Number (pos 0) ∷ left_below from x m) (touched (place_in x m) m))
done_unreplaced extent from x m is = record {
  acts = λ given fin pc points consumed handed.
      ap (λ (out : Outcome (List Value)). goes_on out (λ left. Going (pc + 1) left m.keys m.returns m.registers.phase)) (replace_is extent from x m (Ok None) is points consumed handed);
  leads = λ code again entries pc d. d;
  calm = tt;
  registers = refl;
  returns = refl;
  later = le_same (phases_left m.registers.phase);
}

-- what is made of the text is assigned
pub replace_assigns : (extent : Extent) (from : Operand) (x : Destination) (m : Moving) (r : Replaced) → replaced_at extent from (place_in x m) (past_place x m) ≡ Ok (Some r) → Assigns (does.Replace extent from x) (place_in x m) (String r.text) (Number (pos r.count) ∷ left_below from x m) m
replace_assigns extent from x m r is points consumed handed =
    let run : Run = record { points = points; state = full m consumed handed } in
    replace_is extent from x m (Ok (Some r)) is points consumed handed
    ∙ ap (λ (out : Outcome Value). and_then (and_then out (λ _. give (Number (pos r.count)))) (λ v. give (v ∷ left_below from x m))) (assign_read (place_in x m) (String r.text) m points consumed handed)
    ∙ give_after (assign (place_in x m) (String r.text) run) (Number (pos r.count)) (λ (v : Value). v ∷ left_below from x m)

-- ---- what the calls promise, taken on

pub replaced_known : (extent : Extent) (from : Operand) (x : Destination) (m mid : Moving) (place : Target) (answer r : Result (Option Replaced) Fault) → place ≡ place_in x m → mid ≡ past_place x m → answer ≡ replaced_at extent from place mid → answer ≡ r → replaced_at extent from (place_in x m) (past_place x m) ≡ r
replaced_known extent from x m mid place answer r same parts answered so =
    ap (λ (t : Target). replaced_at extent from t (past_place x m)) (sym same) ∙ ap (replaced_at extent from place) (sym parts) ∙ sym answered ∙ so

pub replace_refused : (extent : Extent) (from : Operand) (x : Destination) (m mid : Moving) (f : Fault) (w : Transfer) → mid ≡ past_place x m → replaced_at extent from (place_in x m) (past_place x m) ≡ Err f → w ≡ transfer.Over (ending.Faulted f) → Done (instr.Do (does.Replace extent from x)) m w mid
replace_refused extent from x m mid f w parts is e =
    subst (λ (y : Moving). Done (instr.Do (does.Replace extent from x)) m w y) (sym parts)
    (subst (λ (u : Transfer). Done (instr.Do (does.Replace extent from x)) m u (past_place x m)) (sym e) (replace_faults extent from x (past x m.operands) m f is))

-- the parts without all that the instruction takes
pub left_parts : (from : Operand) (x : Destination) (m mid bare : Moving) → mid ≡ past_place x m → bare ≡ with_operands (below from (drop 1 mid.operands)) mid → bare ≡ with_operands (left_below from x m) m
left_parts from x m mid bare parts e = e ∙ ap (λ (y : Moving). with_operands (below from (drop 1 y.operands)) y) parts

-- the same behind the reading of the place
pub left_read : (from : Operand) (x : Destination) (m mid read bare : Moving) (place : Target) → place ≡ place_in x m → mid ≡ past_place x m → read ≡ touched place mid → bare ≡ with_operands (below from (drop 1 read.operands)) read →
    bare ≡ with_operands (left_below from x m) (touched (place_in x m) m)
left_read from x m mid read bare place same parts reads e =
    e ∙ ap (λ (y : Moving). with_operands (below from (drop 1 y.operands)) y) (reads ∙ ap (touched place) parts ∙ ap (λ (p : Target). touched p (past_place x m)) same)

pub replace_misses : (extent : Extent) (from : Operand) (x : Destination) (m bare n : Moving) → bare ≡ with_operands (left_below from x m) (touched (place_in x m) m) → n ≡ with_operands (Number (pos 0) ∷ bare.operands) bare → replaced_at extent from (place_in x m) (past_place x m) ≡ Ok None → Done (instr.Do (does.Replace extent from x)) m transfer.Next n
replace_misses extent from x m bare n left e is =
    subst (λ (y : Moving). Done (instr.Do (does.Replace extent from x)) m transfer.Next y) (sym (e ∙ ap (λ (y : Moving). with_operands (Number (pos 0) ∷ y.operands) y) left)) (done_unreplaced extent from x m is)
