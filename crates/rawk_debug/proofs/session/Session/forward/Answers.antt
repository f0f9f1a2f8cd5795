use Rattle.std.proofs.Common.{refl, sym, ◌∙◌}
use Rattle.rawk_debug.specs.Sessions.{stand}
use Rattle.rawk_answers.specs.Works.{draws_on}
use Rattle.rawk_debug.proofs.Searches.{halts_on, none_is}
use Rattle.rawk_debug.proofs.session.Session.forward.Goals as goal

pub search-preserved : goal.search-preserved
search-preserved g c =
    let old = stand g.M.Stepper.position c.args.self.now in
    let mid = stand g.M.Stepper.position c.search.self in
    let moved = c.in_ok-advance.ensures in
    let open_still = sym c.is_over.ensures ∙ c.if-is_over.false in
    record {
      so_far = λ input may.
          let was = moved.narrows input may in
          let start = c.known.ensures.stands input (c.search.invariant.narrows input was) in
          halts_on input c.args.goal old mid _ _ _ _ _ _ _ start (c.search.invariant.so_far input was) (c.search.invariant.stands input was)
          (record { machine = moved.moved; stops = refl; made = refl; came = moved.before }) (c.known-in-search.ensures.stands input may)
          (record { depth_is = c.search.invariant.depth; asked_is = c.is_sought.ensures }) c.if-is_sought.false open_still;
      narrows = λ input may. c.search.invariant.narrows input (moved.narrows input may);
      draws = λ old h. draws_on g.M.Device.Source.over g.M.Device.Source.handed old (g.M.Stepper.work c.search.self.machine) (g.M.Stepper.work c.advance.new.self) (c.search.invariant.draws old h) moved.draws;
      stands = c.known-in-search.ensures.stands;
      open_still = none_is _ open_still;
      depth = c.search.invariant.depth;
    }
