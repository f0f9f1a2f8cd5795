use Rattle.std.proofs.Common.{refl, true, false, ◌∙◌}
use Rattle.rawk_debug.specs.Sessions.{stand}
use Rattle.rawk_debug.proofs.Searches.{returns_found, found_is, backs_on}
use Rattle.rawk_debug.proofs.session.Session.back.Goals as goal

pub returns-then-is_sought-clause-returns : goal.returns-then-is_sought-clause-returns
returns-then-is_sought-clause-returns g c input may =
    let old = stand g.M.Stepper.position c.args.self.now in
    let mid = stand g.M.Stepper.position c.search.self in
    let start = c.known.ensures.stands input (c.search.invariant.narrows input may) in
    returns_found c.sets_below.ensures input c.args.goal old mid _ _ _ _ _ start (c.search.invariant.so_far input may) (c.known-in-search.ensures.stands input may)
    (record { depth_is = c.search.invariant.depth; asked_is = c.is_sought.ensures }) c.if-is_sought.true

pub returns-then-is_sought-clause-found : goal.returns-then-is_sought-clause-found
returns-then-is_sought-clause-found g c input may =
    let old = stand g.M.Stepper.position c.args.self.now in
    let mid = stand g.M.Stepper.position c.search.self in
    let start = c.known.ensures.stands input (c.search.invariant.narrows input may) in
    found_is c.sets_below.ensures input c.args.goal old mid _ _ _ _ _ start (c.search.invariant.so_far input may) (c.known-in-search.ensures.stands input may)
    (record { depth_is = c.search.invariant.depth; asked_is = c.is_sought.ensures }) true c.if-is_sought.true

pub returns-then-not-retreat-2-clause-found : goal.returns-then-not-retreat-2-clause-found
returns-then-not-retreat-2-clause-found g c input may =
    let old = stand g.M.Stepper.position c.args.self.now in
    let mid = stand g.M.Stepper.position c.search.self in
    let stays = c.if-not-retreat-2.ensures in
    let was = stays.narrows input may in
    let start = c.known.ensures.stands input (c.search.invariant.narrows input was) in
    rw (stays.same refl)
    (found_is c.sets_below.ensures input c.args.goal old mid _ _ _ _ _ start (c.search.invariant.so_far input was) (c.known-in-search.ensures.stands input was)
    (record { depth_is = c.search.invariant.depth; asked_is = c.is_sought.ensures }) false c.if-is_sought.false)

pub search-preserved : goal.search-preserved
search-preserved g c =
    let old = stand g.M.Stepper.position c.args.self.now in
    let mid = stand g.M.Stepper.position c.search.self in
    let moved = c.if-not-retreat-2.ensures in
    record {
      so_far = λ input may.
          let was = moved.narrows input may in
          let start = c.known.ensures.stands input (c.search.invariant.narrows input was) in
          backs_on c.sets_below.ensures input c.args.goal old mid _ _ _ _ _ start (c.search.invariant.so_far input was) (c.known-in-search.ensures.stands input was)
          (record { depth_is = c.search.invariant.depth; asked_is = c.is_sought.ensures }) _ _ c.if-is_sought.false (moved.kept refl) (moved.moved refl) refl refl (moved.before refl);
      narrows = λ input may. c.search.invariant.narrows input (moved.narrows input may);
      reads_nothing = λ input may. moved.reads_nothing input (c.search.invariant.reads_nothing input may);
      idle = moved.idle ∙ c.search.invariant.idle;
      fresh = moved.fresh refl;
      depth = c.search.invariant.depth;
    }
