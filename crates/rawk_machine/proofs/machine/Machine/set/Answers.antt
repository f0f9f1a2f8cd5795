use Rattle.std.proofs.Common.{◌≡◌, List, [], ◌∷◌, ◌++◌, length, reverse, Option, refl, sym, ap, ◌∙◌, subst, arith}
use Rattle.std.proofs.lemmas.List.{reverse-append}
use Rattle.std.specs.Prelude.{IfNone}
use Rattle.rawk_value.specs.declared.fault.Fault.{Fault}
use Rattle.rawk_store.specs.Groups.{Group}
use Rattle.rawk_store.specs.Layout.{IsSound}
use Rattle.rawk_store.specs.declared.registers.Registers.{Registers}
use Rattle.rawk_store.specs.Saving.{saved_in}
use Rattle.rawk_store.specs.GroupBack.{put_back}
use Rattle.rawk_store.specs.Stores.{now_of}
use Rattle.rawk_code.specs.Actions.{SetAt}
use Rattle.rawk_machine.specs.Last.{Nothing, last_of}
use Rattle.rawk_machine.specs.Standing.{Standing, Stood, set_made}
use Rattle.rawk_machine.specs.Kept.{IsPlaced, Chain}
use Rattle.rawk_machine.specs.Stood.{standing_of, IsBelow}
use Rattle.rawk_steps.specs.Written.{StandsBehind, WrittenOr}
use Rattle.rawk_steps.specs.Arrival.{ends_quietly}
use Rattle.rawk_machine.proofs.Forths.{last_fits-grown}
use Rattle.rawk_machine.proofs.Chains.{chain_set, chain-grown, placed-grown}
use Rattle.rawk_machine.proofs.Leads.{set_is, stands_grown}
use Rattle.rawk_machine.proofs.Stands.{stood_set}
use Rattle.rawk_machine.proofs.machine.Machine.set.Goals as goal

pub invariant_of-self-2 : goal.invariant_of-self-2
invariant_of-self-2 g c =
    let i = c.self.inside in
    let v = c.self.invariant in
    let l = now_of i.store in
    let n = now_of c.write_copy.new.store in
    let here = reverse i.here.items in
    let size = length i.tape.bytes in
    let kept = g.K.Keeper.kept i.keeper in
    let w = c.in-Ok.ensures in
    let none = c.in-None.is in
    let did = subst (λ (o : Option Fault). WrittenOr o c.args.target c.args.value l n) none w.did in
    let back = subst (λ (o : Option Fault). StandsBehind o i.here.items c.write_copy.new.here.items l n) none w.back in
    let x = back.0 in
    let e : SetAt = record { point = i.point; target = c.args.target; value = c.args.value } in
    let going = ap (λ (m : Standing g.row.R.Denot). m.ending) c.self.view_is ∙ c.requires in
    let placed : IsPlaced l i.point size = record { goes = going; here = (v.below going).0; consumed = omega (arith, v.consumed, c.consumed-consumed.ensures.in_range, c.consumed-consumed.ensures.value) } in
    let last : reverse c.write_copy.new.here.items ≡ x ∷ here = ap (λ (gs : List Group). reverse gs) back.1 ∙ reverse-append i.here.items (x ∷ []) in
    let m = put_back n x in
    let chain : Chain n i.point size (i.sets.items ++ e ∷ []) (x ∷ here) kept =
    chain_set m n i.point size i.sets.items e x here kept (placed-grown l m i.point size back.2 placed) refl back.3 refl (chain-grown l m i.point size i.sets.items here kept back.2 v.chain) in
    let pushed : c.push.new.self.items ≡ i.sets.items ++ e ∷ [] = c.in_ok-push.ensures.items ∙ ap (λ (xs : List SetAt). xs ++ e ∷ []) c.write_copy.ensures.sets in
    let chain2 = subst (λ (xs : List SetAt). Chain n i.point size xs (x ∷ here) kept) (sym pushed) chain in
    record {
      rest = c.write_copy.ensures.rest;
      sound = subst (λ (o : Option Fault). IfNone o (IsSound n)) none w.sound;
      consumed = v.consumed ∙ sym (ap (λ (r : Registers). r.consumed) did.registers);
      below = subst (λ (r : Registers). IsBelow r i.point i.steps) (sym did.registers) v.below;
      within = v.within;
      quiet = subst (λ (r : Registers). ends_quietly r.ending) (sym did.registers) v.quiet;
      failed = λ y. v.failed (sym (ap (λ (r : Registers). r.ending) did.registers) ∙ y);
      chain = subst (λ (gs : List Group). Chain n i.point size c.push.new.self.items gs kept) (sym last) chain2;
      few = v.few;
      clean = λ is. absurd (cc is);
      ahead = tt;
      room = λ y ys h. (v.below going).1;
    }

pub returns-clause-made : goal.returns-clause-made
returns-clause-made g c =
    let i = c.self.inside in
    let v = c.self.invariant in
    let l = now_of i.store in
    let n = now_of c.write_copy.new.store in
    let here = reverse i.here.items in
    let size = length i.tape.bytes in
    let kept = g.K.Keeper.kept i.keeper in
    let limit = g.K.Keeper.limit i.keeper in
    let w = c.in-Ok.ensures in
    let none = c.in-None.is in
    let did = subst (λ (o : Option Fault). WrittenOr o c.args.target c.args.value l n) none w.did in
    let back = subst (λ (o : Option Fault). StandsBehind o i.here.items c.write_copy.new.here.items l n) none w.back in
    let x = back.0 in
    let target = c.args.target in
    let value = c.args.value in
    let e : SetAt = record { point = i.point; target = target; value = value } in
    let last : reverse c.write_copy.new.here.items ≡ x ∷ here = ap (λ (gs : List Group). reverse gs) back.1 ∙ reverse-append i.here.items (x ∷ []) in
    let pushed : c.push.new.self.items ≡ i.sets.items ++ e ∷ [] = c.in_ok-push.ensures.items ∙ ap (λ (xs : List SetAt). xs ++ e ∷ []) c.write_copy.ensures.sets in
    let standing = λ (xs : List SetAt) (gs : List Group). standing_of i.code i.settings i.steps xs i.point i.tape n i.executed gs kept limit Nothing in (
      saved_in x,
      ap (λ (xs : List SetAt). standing xs (reverse c.write_copy.new.here.items)) pushed
          ∙ ap (standing (i.sets.items ++ e ∷ [])) last
          ∙ set_is i.code i.settings i.steps i.sets.items i.point size i.tape l n i.executed x here kept limit (last_of i.last (g.K.Keeper.forth i.keeper)) target value did back.2 v.sound v.chain
          ∙ ap (set_made (saved_in x) target value) c.self.view_is,
    )

pub returns-clause-stood : goal.returns-clause-stood
returns-clause-stood g c = λ input stood.
    let old = c.args.self.now in
    let made = (returns-clause-made g c).1 in
    let saved = (returns-clause-made g c).0 in
    subst (λ (m : Standing g.row.R.Denot). Stood m input) (sym made ∙ refl) (stood_set saved old input c.args.target c.args.value c.requires stood)

pub returns-in-Err-clause-made : goal.returns-in-Err-clause-made
returns-in-Err-clause-made g c = tt

-- where memory was refused the parts are the same but for slots that no program sees
pub returns-in-Err-clause-err : goal.returns-in-Err-clause-err
returns-in-Err-clause-err g c =
    let i = c.self.inside in
    let v = c.self.invariant in
    let e = c.in-Err.ensures in
    let l = now_of i.store in
    let n = now_of c.write_copy.new.store in
    let size = length i.tape.bytes in
    let kept = g.K.Keeper.kept i.keeper in
    let limit = g.K.Keeper.limit i.keeper in
    let last = last_of i.last (g.K.Keeper.forth i.keeper) in
    let standing = λ (xs : List SetAt) (gs : List Group). standing_of i.code i.settings i.steps xs i.point i.tape n i.executed (reverse gs) kept limit last in
    ap (λ (xs : List SetAt). standing xs c.write_copy.new.here.items) c.write_copy.ensures.sets
    ∙ ap (standing i.sets.items) e.stays
    ∙ stands_grown i.code i.settings i.steps i.sets.items i.point size i.tape l n i.executed (reverse i.here.items) kept limit last e.err v.sound v.ahead v.chain
    ∙ c.self.view_is

pub returns-in-Err-clause-stood : goal.returns-in-Err-clause-stood
returns-in-Err-clause-stood g c = λ input stood. subst (λ (m : Standing g.row.R.Denot). Stood m input) (sym (returns-in-Err-clause-err g c)) stood

pub invariant_of-self : goal.invariant_of-self
invariant_of-self g c =
    let i = c.self.inside in
    let v = c.self.invariant in
    let e = c.in-Err.ensures in
    let l = now_of i.store in
    let n = now_of c.write_copy.new.store in
    let here = reverse i.here.items in
    let size = length i.tape.bytes in
    let kept = g.K.Keeper.kept i.keeper in
    let same : n.registers ≡ l.registers = e.err.registers in
    let grew : Chain n i.point size i.sets.items here kept = chain-grown l n i.point size i.sets.items here kept e.err v.chain in
    let stays : reverse c.write_copy.new.here.items ≡ here = ap (λ (gs : List Group). reverse gs) e.stays in
    let sets = c.write_copy.ensures.sets in
    record {
      rest = c.write_copy.ensures.rest;
      sound = e.kept v.sound;
      consumed = v.consumed ∙ sym (ap (λ (r : Registers). r.consumed) same);
      below = subst (λ (r : Registers). IsBelow r i.point i.steps) (sym same) v.below;
      within = v.within;
      quiet = subst (λ (r : Registers). ends_quietly r.ending) (sym same) v.quiet;
      failed = λ y. v.failed (sym (ap (λ (r : Registers). r.ending) same) ∙ y);
      chain = subst (λ (xs : List SetAt). Chain n i.point size xs (reverse c.write_copy.new.here.items) kept) (sym sets) (subst (λ (gs : List Group). Chain n i.point size i.sets.items gs kept) (sym stays) grew);
      few = v.few;
      clean = λ is. stays ∙ v.clean is;
      ahead = last_fits-grown (last_of i.last (g.K.Keeper.forth i.keeper)) l.arrays n.arrays e.err.arrays v.ahead;
      room = λ y ys is. v.room y ys (sym stays ∙ is);
    }
