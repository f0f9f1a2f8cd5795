use Rattle.std.proofs.Common.{◌≡◌, ◌≤◌, ◌++◌, ◌+◌, ℕ, [], length, take, drop, arith, ap, sym, subst, ◌∙◌}
use Rattle.std.proofs.lemmas.List.{take-append-le, take_all}
use Rattle.rawk_value.specs.Values.{Bytes}
use Rattle.rawk_devices.specs.Inputs.{size_taken}
use Rattle.rawk_tape.specs.Tapes.{ReadsOn}
use Rattle.rawk_tape.proofs.lines.Lines.read_anew.Goals as goal

pub returns-clause-reads : goal.returns-clause-reads
returns-clause-reads g c =
    let B : Bytes = c.read_behind-read.new.items in
    let more : Bytes = drop (length B) c.self.inside.items.items in
    let n : c.self.inside.items.len ≤ length B = omega (arith, c.read_behind-read.ensures.len, c.deref_mut.ensures.len) in
    let m : length B ≤ c.self.inside.items.len = omega (arith, c.read_behind-read.ensures.len, c.deref_mut.ensures.len) in
    let whole : take c.self.inside.items.len (B ++ more) ≡ B = take-append-le c.self.inside.items.len B more n ∙ take_all c.self.inside.items.len B m in
    let size : 0 + size_taken c.read_behind-read.result ≡ c.size_of_read-self-inside.result = omega (arith, c.size_of_read-self-inside.ensures) in
    subst (λ (b : Bytes). ReadsOn g.C.Source.may_give g.C.Source.over g.C.Source.handed c.args.source.now [] c.read_behind-read.new.source b)
    (ap (λ (k : ℕ). take k B) size ∙ ap (λ (x : Bytes). take c.size_of_read-self-inside.result x) (sym whole))
    c.read_behind-read.ensures.reads
