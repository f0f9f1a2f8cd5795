-- One line more of the activations.
use Rattle.std.proofs.Common.{◌≡◌, ℕ, ◌+◌, zero, suc, List, [], ◌∷◌, ◌++◌, Some, drop, sym, ap, ◌∙◌, append_assoc, add-one}
use Rattle.std.specs.Prelude.{slice_get, option_map}
use Rattle.rawk_value.specs.Values.{Bytes}
use Rattle.rawk_tree.specs.declared.tree.Program.{Program}
use Rattle.rawk_tree.specs.Sites.{line_at}
use Rattle.rawk_frames.specs.Frame.{Frame}
use Rattle.rawk_answers.specs.declared.stepper.Call.{Call}
use Rattle.rawk_answers.specs.Activations.{call_of, name_of, function_at}
use Rattle.rawk_answers.specs.Texts.{frame_line, frame_lines}

-- the line of a call, and those of the activations outward of it
abbrev pub from_call : Program → ℕ → ℕ → List Frame → Call → Bytes
from_call p n line fs call = frame_line n (name_of (function_at p call.function)) line ++ frame_lines p (n + 1) (line_at p.lines.items call.site) fs

outward : (p : Program) (frames : List Frame) (i n line : ℕ) (call : Call) → Some call ≡ option_map call_of (slice_get frames i) → frame_lines p n line (drop i frames) ≡ from_call p n line (drop (suc i) frames) call
outward p [] i n line call h = absurd (cc)
outward p (f ∷ fs) zero n line call h = let same : call_of f ≡ call = cc in ap (from_call p n line fs) same
outward p (f ∷ fs) (suc i) n line call h = outward p fs i n line call h

-- what was written with a call's line, and the lines that are left, are still all that is to be written
pub one_more : (p : Program) (frames : List Frame) (i line next : ℕ) (call : Call) (name out more all : Bytes) → Some call ≡ option_map call_of (slice_get frames i)
    → name ≡ name_of (function_at p call.function) → next ≡ line_at p.lines.items call.site → more ≡ out ++ frame_line i name line
    → out ++ frame_lines p i line (drop i frames) ≡ all → more ++ frame_lines p (i + 1) next (drop (i + 1) frames) ≡ all
one_more p frames i line next call name out more all here named on made so_far =
    let rest : Bytes = frame_lines p (i + 1) (line_at p.lines.items call.site) (drop (suc i) frames) in
    let own : Bytes = frame_line i (name_of (function_at p call.function)) line in
    (λ k. made k ++ frame_lines p (i + 1) (on k) (drop (add-one i k) frames))
    ∙ ap (λ n. (out ++ frame_line i n line) ++ rest) named
    ∙ append_assoc out own rest
    ∙ ap (λ t. out ++ t) (sym (outward p frames i i line call here))
    ∙ so_far
