use Rattle.rawk_slots.proofs.laws.there_and_back.Goals as goal

pub undo-requires : goal.undo-requires
undo-requires g c = (c.args.part.now, c.in_ok-undo.ensures.back c.apply.new.self (g.met.P.Reversible.grown_same c.apply.new.self))
