-- Arrays that take the parts of a text: the instruction does what its definition says.
use Rattle.std.proofs.Common.{◌≡◌, ◌+◌, Bool, false, List, ◌∷◌, length, drop, Option, None, Some, Result, Ok, Err, refl, ap, ◌∙◌}
use Rattle.std.specs.Prelude.{ℕ, pos}
use Rattle.rawk_words.specs.declared.array.Array.{Array}
use Rattle.rawk_value.specs.declared.fault.Fault.{Fault}
use Rattle.rawk_value.specs.declared.value.Value.{Value}
use Rattle.rawk_value.specs.declared.value.Value.TheVariants.{Number}
use Rattle.rawk_value.specs.Values.{Bytes, next_ok, text_of}
use Rattle.rawk_tree.specs.declared.tree.Separation.{Separation}
use Rattle.rawk_tree.specs.declared.tree.Separation.TheVariants as separation
use Rattle.rawk_ere_tree.specs.Tree.{Tree}
use Rattle.rawk_search.specs.Expressions.{ere_of}
use Rattle.rawk_pieces.specs.Fields.{dynamic_parts}
use Rattle.rawk_operators.specs.Operators.{separated}
use Rattle.rawk_arrays.specs.Elements.{Elements}
use Rattle.rawk_store.specs.declared.registers.Ending.TheVariants as ending
use Rattle.rawk_store.specs.State.{array_in, fill_elements}
use Rattle.rawk_code.specs.declared.code.Operand.{Operand}
use Rattle.rawk_code.specs.declared.code.Simple.{Simple}
use Rattle.rawk_code.specs.declared.code.Op.TheVariants as does
use Rattle.rawk_code.specs.declared.code.Instr.TheVariants as instr
use Rattle.rawk_code.specs.Actions.{Point, Run, Outcome, need, look, bind, and_then, give, put_parts, split_in}
use Rattle.rawk_code.specs.Machine.{Going, below, taking, goes_on, simple_value}
use Rattle.rawk_operate.specs.declared.transfer.Transfer.{Transfer}
use Rattle.rawk_operate.specs.declared.transfer.Transfer.TheVariants as transfer
use Rattle.rawk_operands.specs.Moving.{Moving, full, operand_in, left_in, simple_in, with_arrays, with_operands}
use Rattle.rawk_operands.specs.OperandLaws.{simple_full}
use Rattle.rawk_operate.specs.Done.{Done, phases_left}
use Rattle.rawk_operate.specs.DoneLaws.{by_parts, le_same, need_then}
use Rattle.rawk_operate.specs.AssignLaws.{EndsBy, ends_here, taking_is}
use Rattle.rawk_operate.specs.Quiets.{Quiet, quiet_fields, quiet_made}

-- how a text is separated has no fault of reading, of writing or of memory
quiet_parts : (e : Option Tree) (newline : Bool) (s : Bytes) → Quiet (dynamic_parts e newline s)
quiet_parts None newline s = tt
quiet_parts (Some e) newline s = tt

quiet_separated : (how : Separation) (v w : Value) → Quiet (separated how v w)
quiet_separated separation.Fields v w = quiet_fields (text_of v) (text_of w) false
quiet_separated separation.Matches v w = quiet_parts (ere_of (text_of w)) false (text_of v)

-- the parts of the text below the last operand, or a fault
abbrev pub parts_in : Separation → Operand → Moving → Result (List Bytes) Fault
parts_in how from m = next_ok (operand_in from m) (separated how (left_in from m))

split_is : (how : Separation) (a : Array) (from : Operand) (m : Moving) (r : Result (List Bytes) Fault) → parts_in how from m ≡ r → (points : List Point) (consumed : ℕ) (handed : Bytes) →
    let run : Run = record { points = points; state = full m consumed handed } in
    taking from m.operands (split_in how a (left_in from m)) run ≡ bind (need r) (put_parts a) run
split_is how a from m r is points consumed handed =
    let run : Run = record { points = points; state = full m consumed handed } in
    taking_is from m (operand_in from m) (split_in how a (left_in from m)) refl points consumed handed
    ∙ need_then (operand_in from m) (separated how (left_in from m)) (put_parts a) run
    ∙ ap (λ (y : Result (List Bytes) Fault). bind (need y) (put_parts a) run) is

split_ends : (how : Separation) (a : Array) (from : Operand) (m : Moving) (f : Fault) → parts_in how from m ≡ Err f → EndsBy (does.Split how a from) f m
split_ends how a from m f is points consumed handed = ap (λ (out : Outcome Value). and_then out (λ w. give (w ∷ drop 1 (below from m.operands)))) (split_is how a from m (Err f) is points consumed handed)

pub split_faults : (how : Separation) (a : Array) (from : Operand) (m : Moving) (f : Fault) (w : Transfer) → parts_in how from m ≡ Err f → w ≡ transfer.Over (ending.Faulted f) → Done (instr.Do (does.Split how a from)) m w m
split_faults how a from m f w is e = ends_here (does.Split how a from) m f w (split_ends how a from m f is) (quiet_made from m (separated how (left_in from m)) (quiet_separated how (left_in from m)) f is) e

done_split : (how : Separation) (a : Array) (from : Operand) (m : Moving) (parts : List Bytes) → parts_in how from m ≡ Ok parts →
    Done (instr.Do (does.Split how a from)) m transfer.Next (with_operands (Number (pos (length parts)) ∷ drop 1 (below from m.operands)) (with_arrays (fill_elements (array_in a m.frames) parts m.arrays) m))
done_split how a from m parts is = record {
  acts = λ given fin pc points consumed handed.
      ap (λ (out : Outcome Value). goes_on (and_then out (λ w. give (w ∷ drop 1 (below from m.operands)))) (λ left. Going (pc + 1) left m.keys m.returns m.registers.phase)) (split_is how a from m (Ok parts) is points consumed handed);
  leads = λ code again entries pc d. d;
  calm = tt;
  registers = refl;
  returns = refl;
  later = le_same (phases_left m.registers.phase);
}

pub split_makes : (how : Separation) (a : Array) (from : Operand) (m mid n : Moving) (parts : List Bytes) (count : Value) (filled : List Elements) → parts_in how from m ≡ Ok parts → count ≡ Number (pos (length parts)) → filled ≡ fill_elements (array_in a m.frames) parts m.arrays →
    mid ≡ with_operands (below from m.operands) (with_arrays filled m) → n ≡ with_operands (count ∷ drop 1 mid.operands) mid → Done (instr.Do (does.Split how a from)) m transfer.Next n
split_makes how a from m mid n parts count filled is ec ef em en =
    by_parts (instr.Do (does.Split how a from)) m n (with_operands (Number (pos (length parts)) ∷ drop 1 (below from m.operands)) (with_arrays (fill_elements (array_in a m.frames) parts m.arrays) m)) transfer.Next
    (en
    ∙ ap (λ (y : Moving). with_operands (count ∷ drop 1 y.operands) y) em
    ∙ ap (λ (v : Value). with_operands (v ∷ drop 1 (below from m.operands)) (with_arrays filled m)) ec
    ∙ ap (λ (es : List Elements). with_operands (Number (pos (length parts)) ∷ drop 1 (below from m.operands)) (with_arrays es m)) ef)
    (done_split how a from m parts is)

-- the same of two that have their value at once
abbrev pub parts_at_once : Separation → Simple → Simple → Moving → Result (List Bytes) Fault
parts_at_once how text by m = separated how (simple_in text m) (simple_in by m)

split_of_is : (how : Separation) (a : Array) (text by : Simple) (m : Moving) (r : Result (List Bytes) Fault) → parts_at_once how text by m ≡ r → (points : List Point) (consumed : ℕ) (handed : Bytes) →
    let run : Run = record { points = points; state = full m consumed handed } in
    bind (look (simple_value text)) (λ v. bind (look (simple_value by)) (split_in how a v)) run ≡ bind (need r) (put_parts a) run
split_of_is how a text by m r is points consumed handed =
    let run : Run = record { points = points; state = full m consumed handed } in
    ap (λ (v : Value). split_in how a v (simple_value by run.state) run) (simple_full text m consumed handed)
    ∙ ap (λ (w : Value). split_in how a (simple_in text m) w run) (simple_full by m consumed handed)
    ∙ ap (λ (y : Result (List Bytes) Fault). bind (need y) (put_parts a) run) is

done_split_of : (how : Separation) (a : Array) (text by : Simple) (m : Moving) (parts : List Bytes) → parts_at_once how text by m ≡ Ok parts →
    Done (instr.Do (does.SplitOf how a text by)) m transfer.Next (with_operands (Number (pos (length parts)) ∷ m.operands) (with_arrays (fill_elements (array_in a m.frames) parts m.arrays) m))
done_split_of how a text by m parts is = record {
  acts = λ given fin pc points consumed handed.
      ap (λ (out : Outcome Value). goes_on (and_then out (λ w. give (w ∷ m.operands))) (λ left. Going (pc + 1) left m.keys m.returns m.registers.phase)) (split_of_is how a text by m (Ok parts) is points consumed handed);
  leads = λ code again entries pc d. d;
  calm = tt;
  registers = refl;
  returns = refl;
  later = le_same (phases_left m.registers.phase);
}

pub split_of_makes : (how : Separation) (a : Array) (text by : Simple) (m n : Moving) (parts : List Bytes) (count : Value) (filled : List Elements) → parts_at_once how text by m ≡ Ok parts → count ≡ Number (pos (length parts)) → filled ≡ fill_elements (array_in a m.frames) parts m.arrays →
    n ≡ with_operands (count ∷ m.operands) (with_arrays filled m) → Done (instr.Do (does.SplitOf how a text by)) m transfer.Next n
split_of_makes how a text by m n parts count filled is ec ef en =
    by_parts (instr.Do (does.SplitOf how a text by)) m n (with_operands (Number (pos (length parts)) ∷ m.operands) (with_arrays (fill_elements (array_in a m.frames) parts m.arrays) m)) transfer.Next
    (en
    ∙ ap (λ (v : Value). with_operands (v ∷ m.operands) (with_arrays filled m)) ec
    ∙ ap (λ (es : List Elements). with_operands (Number (pos (length parts)) ∷ m.operands) (with_arrays es m)) ef)
    (done_split_of how a text by m parts is)
