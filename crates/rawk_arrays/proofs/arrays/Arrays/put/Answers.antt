use Rattle.std.proofs.Common.{◌≡◌, ◌∙◌, ap, refl, OnErr, Result, Ok, Err}
use Rattle.rawk_arrays.specs.Elements.{with_put, array_at, put}
use Rattle.rawk_arrays.specs.Laid.{Laid, arrays_of}
use Rattle.rawk_arrays.specs.ListLaws.{put_arrays, no_put, spread_arrays}
use Rattle.rawk_arrays.proofs.arrays.Arrays.put.Goals as goal

on_err : {A B : Type 0} (r : Result A B) (P : Type 0) → P → OnErr r P
on_err (Ok x) P p = tt
on_err (Err e) P p = p

pub returns-in_err-put-clause-err : goal.returns-in_err-put-clause-err
returns-in_err-put-clause-err g c =
    let s = c.self.inside in
    let l : Laid = record { index = s.index; slots = s.cells.now; live = s.live } in
    let m : Laid = record { index = c.put.new.index; slots = c.put.new.cells.now; live = s.live } in
    on_err c.from_residual.result (arrays_of m ≡ arrays_of c.args.self.now.now)
    (spread_arrays l m refl c.self.invariant.laid.array_key c.put.ensures.more c.in_err-put.ensures.err ∙ ap (λ w. arrays_of w.now) c.self.view_is)

pub returns-in_ok-put-clause-did : goal.returns-in_ok-put-clause-did
returns-in_ok-put-clause-did g c =
    let s = c.self.inside in
    let l : Laid = record { index = s.index; slots = s.cells.now; live = s.live } in
    let m : Laid = record { index = c.put.new.index; slots = c.put.new.cells.now; live = s.live } in
    put_arrays l m c.args.array c.args.key.now c.args.value refl c.if-array-self.true c.in_ok-put.ensures.did ∙ ap (λ w. with_put c.args.array c.args.key.now c.args.value (arrays_of w.now)) c.self.view_is

pub returns-else-array-self-clause-did : goal.returns-else-array-self-clause-did
returns-else-array-self-clause-did g c =
    let s = c.self.inside in
    let l : Laid = record { index = s.index; slots = s.cells.now; live = s.live } in
    rw (← ap (λ w. arrays_of w.now) c.self.view_is) (no_put l c.args.array (put (array_at c.args.array (arrays_of l)) c.args.key.now c.args.value) c.if-array-self.false)
