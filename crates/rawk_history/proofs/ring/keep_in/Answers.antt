use Rattle.std.proofs.Common.{◌≡◌, ◌∷◌, ◌∙◌, List, [], None, ap, subst}
use Rattle.std.proofs.lemmas.Result.{on_ok_weaker}
use Rattle.rawk_store.specs.Stores.{now_of, start_of}
use Rattle.rawk_history.specs.Keeping.{Keeping, KeepsStep}
use Rattle.rawk_history.specs.Parts.{kept_in}
use Rattle.rawk_history.proofs.Parts.{kept_behind}
use Rattle.rawk_history.proofs.ring.keep_in.Goals as goal

pub returns-then-len-room-clause-did : goal.returns-then-len-room-clause-did
returns-then-len-room-clause-did c = on_ok_weaker c.keep.result (kept_behind (start_of c.args.store.now) (now_of c.args.store.now) c.args.newest.now.kept c.keep.new.self.kept (kept_in c.args.older.now.items) c.args.sets.now.items) c.keep.ensures.did

pub returns-clause-did : goal.returns-clause-did
returns-clause-did c =
    let start = start_of c.args.store.now in
    let now = now_of c.args.store.now in
    let here = c.args.sets.now.items in
    let parts : List Keeping = c.args.newest.now ∷ c.args.older.now.items in
    let first : KeepsStep start now [] c.keep-2.new.self.kept here None = subst (λ (k : Keeping). KeepsStep start now k.kept c.keep-2.new.self.kept here None) c.new-part.ensures c.in_ok-keep.ensures.did in
    let newest : c.replace.new.dest ≡ c.keep-2.new.self = c.replace.ensures.after in
    let older : c.push_front_reserved.new.self.items ≡ parts = c.push_front_reserved.ensures.items ∙ (ap (λ (k : Keeping). k ∷ c.reserve.new.self.items) c.replace.ensures.value ∙ ap (λ (ks : List Keeping). c.args.newest.now ∷ ks) c.reserve.ensures.items) in
    rw (newest, older) (kept_behind start now [] c.keep-2.new.self.kept (kept_in parts) here first)
