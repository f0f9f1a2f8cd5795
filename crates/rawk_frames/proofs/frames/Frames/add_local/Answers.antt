use Rattle.std.proofs.Common.{◌≡◌, ◌++◌, ◌∷◌, [], ◌∙◌, ap, arith, length, length-append, List}
use Rattle.rawk_slots.specs.Stacked.{live_slots, live_values}
use Rattle.rawk_frames.specs.declared.frames.Local.{Local}
use Rattle.rawk_frames.specs.Frame.{with_more}
use Rattle.rawk_frames.specs.LaidFrames.{frames_from, frames_of}
use Rattle.rawk_frames.proofs.Nested.{slots_pushed, frames_kept, more_locals}
use Rattle.rawk_frames.proofs.frames.Frames.add_local.Goals as goal

pub invariant_of-self-2 : goal.invariant_of-self-2
invariant_of-self-2 g c =
    let s = c.self.inside in
    let more : live_slots c.push.new.self.now ≡ live_slots s.locals.now ++ c.args.local ∷ [] = slots_pushed s.locals.now c.push.new.self.now c.args.local c.in_ok-push.ensures.did in
    frames_kept s.base s.frames s.locals c.push.new.self c.self.invariant (omega (arith, ap length more, length-append (live_slots s.locals.now) (c.args.local ∷ [])))

pub returns-clause-did : goal.returns-clause-did
returns-clause-did g c =
    let s = c.self.inside in
    let more : live_slots c.push.new.self.now ≡ live_slots s.locals.now ++ c.args.local ∷ [] = slots_pushed s.locals.now c.push.new.self.now c.args.local c.in_ok-push.ensures.did in
    ap (λ (ls : List Local). frames_from (live_values s.frames.now) ls) more
    ∙ (more_locals (live_values s.frames.now) (live_slots s.locals.now) c.args.local c.self.invariant.now ∙ ap (λ w. with_more c.args.local (frames_of w.now)) c.self.view_is)
