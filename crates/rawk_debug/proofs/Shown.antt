-- What answers show of the output, and their text behind it.
use Rattle.std.proofs.Common.{◌≡◌, ◌-◌, Bool, true, false, [], ◌∷◌, ◌++◌, length, drop, nat_eq, if◌then◌else◌, refl, sym, ◌∙◌, ap, append-nil, append_assoc}
use Rattle.std.specs.Prelude.{slice_index_or}
use Rattle.std.proofs.Math.Seq.{drop-append_seam}
use Rattle.rawk_value.specs.Values.{Bytes}
use Rattle.rawk_debug.specs.declared.answer.Answer.{Answer}
use Rattle.rawk_debug.specs.declared.answer.Answer.TheVariants.{Advanced, Halted, Returned, Stayed, Shown, Listed, TakenBack, Made, BreakDeleted, WatchDeleted, BacktraceShown, Quits}
use Rattle.rawk_answers.specs.Positions.{Snapshot}
use Rattle.rawk_store.specs.Observed.{Observed}
use Rattle.rawk_debug.specs.Moves.{Stand}
use Rattle.rawk_answers.specs.Texts.{as_lines, line_end}
use Rattle.rawk_debug.specs.Answers.{behind_shown, shown_of, text_of}

ended : (text : Bytes) (whole : Bool) → (if whole then text else text ++ 10 ∷ []) ≡ text ++ (if whole then [] else 10 ∷ [])
ended text true = sym (append-nil text)
ended text false = refl

-- whole lines are the text, and the newline that it lacks
lines_are : (text : Bytes) → as_lines text ≡ text ++ line_end text
lines_are text = ended text (nat_eq (slice_index_or text (length text - 1) 10) 10)

begun : (text more : Bytes) → as_lines text ++ more ≡ text ++ (line_end text ++ more)
begun text more = ap (λ (b : Bytes). b ++ more) (lines_are text) ∙ append_assoc text (line_end text) more

-- what stands behind the text
behind_lines : (text more : Bytes) → drop (length text) (as_lines text ++ more) ≡ line_end text ++ more
behind_lines text more = ap (λ (b : Bytes). drop (length text) b) (begun text more) ∙ drop-append_seam text (line_end text ++ more)

rejoined : (text more last : Bytes) → text ++ drop (length text) (as_lines text ++ more ++ last) ≡ as_lines text ++ more ++ last
rejoined text more last =
    let e = append_assoc (as_lines text) more last in
    ap (λ (b : Bytes). text ++ drop (length text) b) e ∙ (ap (λ (b : Bytes). text ++ b) (behind_lines text (more ++ last)) ∙ (sym (begun text (more ++ last)) ∙ sym e))

-- an answer is what it shows, and its text behind that
pub whole_answer : (s : Stand) (h : Snapshot) (came : Observed) (answer : Answer) → shown_of answer h.state.output ++ behind_shown s h came answer ≡ text_of s h came answer
whole_answer s h came (Advanced from) = rejoined (drop from h.state.output) _ _
whole_answer s h came (Halted from) = rejoined (drop from h.state.output) _ _
whole_answer s h came (Returned found) = refl
whole_answer s h came Stayed = refl
whole_answer s h came (Shown place) = refl
whole_answer s h came (Listed a) = refl
whole_answer s h came TakenBack = refl
whole_answer s h came Made = refl
whole_answer s h came (BreakDeleted n) = refl
whole_answer s h came (WatchDeleted n) = refl
whole_answer s h came BacktraceShown = refl
whole_answer s h came Quits = refl
