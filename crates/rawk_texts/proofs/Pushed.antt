-- Texts that functions make of texts that lie there become the newest operand.
use Rattle.std.proofs.Common.{◌≡◌, ℤ, List, ◌∷◌, ◌++◌, drop, Option, None, Some, Result, Ok, sym, ap, ◌∙◌, subst}
use Rattle.rawk_value.specs.declared.value.Value.{Value}
use Rattle.rawk_value.specs.declared.value.Value.TheVariants.{Number, String}
use Rattle.rawk_value.specs.declared.fault.Fault.{Fault}
use Rattle.rawk_value.specs.Values.{Bytes, next_ok, number_of, text_of}
use Rattle.rawk_builtins.specs.Builtins.{substring}
use Rattle.rawk_tree.specs.declared.tree.Joiner.TheVariants as joiner
use Rattle.rawk_operators.specs.Operators.{both_make, part_of}
use Rattle.rawk_store.specs.State.{field_number}
use Rattle.rawk_code.specs.Term.{Term}
use Rattle.rawk_code.specs.Term as term
use Rattle.rawk_code.specs.Machine.{top}
use Rattle.rawk_code.specs.declared.code.Operand.TheVariants.{Computed}
use Rattle.rawk_code.specs.declared.code.Simple.{Simple}
use Rattle.rawk_code.specs.declared.code.Op.{Op}
use Rattle.rawk_code.specs.declared.code.Op.TheVariants as does
use Rattle.rawk_code.specs.declared.code.Instr.TheVariants as instr
use Rattle.rawk_operate.specs.declared.transfer.Transfer.TheVariants as transfer
use Rattle.rawk_operate.specs.Done.{Done}
use Rattle.rawk_operate.specs.ActLaws.{combined_in, done_combine, done_joint, done_part}
use Rattle.rawk_operands.specs.Borrowed.{shown_value}
use Rattle.rawk_operands.specs.Moving.{Moving, joint_in, part_in, simple_in, term_in, with_operands}

-- an operation that adds a value to the operands, where these are told
added : (o : Op) (m : Moving) (ops : List Value) (v w : Value) → Done (instr.Do o) m transfer.Next (with_operands (v ∷ m.operands) m) → w ≡ v → ops ≡ w ∷ m.operands → Done (instr.Do o) m transfer.Next (with_operands ops m)
added o m ops v w done same e = subst (λ (left : List Value). Done (instr.Do o) m transfer.Next (with_operands left m)) (sym (e ∙ ap (λ (x : Value). x ∷ m.operands) same)) done

-- the part of a text
abbrev cut : Bytes → ℤ → Option ℤ → Value
cut text at size = String (substring text at size)

pub part_pushed : (from : Simple) (place count : Term) (m : Moving) (ops : List Value) (text part : Bytes) (at size own_at own_size : ℤ) →
    term_in place m ≡ Ok (Number at) → term_in count m ≡ Ok (Number size) → own_at ≡ at → own_size ≡ size → text_of (simple_in from m) ≡ text → part ≡ substring text own_at (Some own_size) → ops ≡ String part ∷ m.operands →
    Done (instr.Do (does.SubstrOf from place count)) m transfer.Next (with_operands ops m)
part_pushed from place count m ops text part at size own_at own_size p q same_at same_size lies is e =
    let own = text_of (simple_in from m) in
    let made : part_in from place count m ≡ Ok (cut own at (Some size)) =
    ap (λ (r : Result Value Fault). next_ok r (λ x. next_ok (term_in count m) (part_of (simple_in from m) x))) p ∙ ap (λ (r : Result Value Fault). next_ok r (part_of (simple_in from m) (Number at))) q in
    let same : String part ≡ cut own at (Some size) =
    ap (λ (b : Bytes). String b) is ∙ ap (λ (t : Bytes). cut t own_at (Some own_size)) (sym lies) ∙ ap (λ (x : ℤ). cut own x (Some own_size)) same_at ∙ ap (λ (y : ℤ). cut own at (Some y)) same_size in
    added (does.SubstrOf from place count) m ops (cut own at (Some size)) (String part) (done_part from place count m (cut own at (Some size)) made) same e

-- the part from a place on
pub rest_pushed : (from : Simple) (place : Term) (m : Moving) (ops : List Value) (text part : Bytes) (at own_at : ℤ) →
    term_in place m ≡ Ok (Number at) → own_at ≡ at → text_of (simple_in from m) ≡ text → part ≡ substring text own_at None → ops ≡ String part ∷ m.operands →
    Done (instr.Do (does.JoinOf from joiner.Substr place)) m transfer.Next (with_operands ops m)
rest_pushed from place m ops text part at own_at p same_at lies is e =
    let own = text_of (simple_in from m) in
    let made : joint_in from joiner.Substr place m ≡ Ok (cut own at None) = ap (λ (r : Result Value Fault). next_ok r (both_make joiner.Substr (simple_in from m))) p in
    let same : String part ≡ cut own at None = ap (λ (b : Bytes). String b) is ∙ ap (λ (t : Bytes). cut t own_at None) (sym lies) ∙ ap (λ (x : ℤ). cut own x None) same_at in
    added (does.JoinOf from joiner.Substr place) m ops (cut own at None) (String part) (done_joint from joiner.Substr place m (cut own at None) made) same e

-- the newest operand takes its text with that of a field behind it
pub field_joined : (number : Term) (m n : Moving) (at own_at : ℤ) (v : Value) (more : Bytes) → term_in number m ≡ Ok (Number at) → own_at ≡ at → next_ok (field_number own_at) (λ k. Ok (shown_value k m.current)) ≡ Ok v → text_of v ≡ more
    → n ≡ with_operands (String (text_of (top m.operands) ++ more) ∷ drop 1 m.operands) m → Done (instr.Do (does.Combine joiner.Concat (Computed (term.At number)))) m transfer.Next n
field_joined number m n at own_at v more p same found is e =
    let field = λ (z : ℤ). next_ok (field_number z) (λ k. Ok (shown_value k m.current)) in
    let there : term_in (term.At number) m ≡ Ok v = ap (λ (r : Result Value Fault). next_ok (next_ok (next_ok r number_of) field_number) (λ k. Ok (shown_value k m.current))) p ∙ (ap field (sym same) ∙ found) in
    let made : combined_in joiner.Concat (Computed (term.At number)) m ≡ Ok (String (text_of (top m.operands) ++ text_of v)) = ap (λ (r : Result Value Fault). next_ok r (both_make joiner.Concat (top m.operands))) there in
    subst (λ (x : Moving). Done (instr.Do (does.Combine joiner.Concat (Computed (term.At number)))) m transfer.Next x) (sym (e ∙ ap (λ (t : Bytes). with_operands (String (text_of (top m.operands) ++ t) ∷ drop 1 m.operands) m) (sym is)))
    (done_combine joiner.Concat (Computed (term.At number)) m (String (text_of (top m.operands) ++ text_of v)) made)

-- two texts side by side
pub both_pushed : (from : Simple) (behind : Term) (m : Moving) (ops : List Value) (left right both : Bytes) (v : Value) →
    left ≡ text_of (simple_in from m) → term_in behind m ≡ Ok v → text_of v ≡ right → both ≡ left ++ right → ops ≡ String both ∷ m.operands → Done (instr.Do (does.JoinOf from joiner.Concat behind)) m transfer.Next (with_operands ops m)
both_pushed from behind m ops left right both v lies p found is e =
    let own = text_of (simple_in from m) in
    let made : joint_in from joiner.Concat behind m ≡ Ok (String (own ++ text_of v)) = ap (λ (r : Result Value Fault). next_ok r (both_make joiner.Concat (simple_in from m))) p in
    let same : String both ≡ String (own ++ text_of v) = ap (λ (b : Bytes). String b) is ∙ ap (λ (t : Bytes). String (t ++ right)) lies ∙ ap (λ (t : Bytes). String (own ++ t)) (sym found) in
    added (does.JoinOf from joiner.Concat behind) m ops (String (own ++ text_of v)) (String both) (done_joint from joiner.Concat behind m (String (own ++ text_of v)) made) same e
