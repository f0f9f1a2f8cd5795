-- Ways there and back.
use Rattle.std.proofs.Common.{◌≡◌, ℕ, ◌+◌, ◌<◌, ◌≤◌, true, false, Option, Some, None, List, [], ◌∷◌, ◌++◌, refl, sym, ◌∙◌, ap, arith, inl, inr}
use Rattle.std.proofs.lemmas.Bool.Decides.{leb_tells}
use Rattle.rawk_devices.specs.Inputs.{Input}
use Rattle.rawk_code.specs.Actions.{SetAt}
use Rattle.rawk_commands.specs.declared.command.Goal.TheVariants.{AnyPoint}
use Rattle.rawk_answers.specs.Positions.{Position, IsPosition, here, upto, raised, back_at, IsTakenBack}
use Rattle.rawk_debug.specs.Moves.{Stand, Goes, Returns}
use Rattle.rawk_debug.specs.Laws.{KeepsAStep, IsBack, StepLaw, SetLaw}

-- each point is looked for
any_point : true ≡ false → (m n : ℕ) → m ≡ n
any_point h m n = absurd (cc)

-- one step on is the next point
one_on : (input : Input) (old mid : Stand) → Goes input AnyPoint old mid → mid.machine.point ≡ old.machine.point + 1
one_on input old mid g = elim (leb_tells mid.machine.point (old.machine.point + 1)) [
  | inl t ↦ (let le = t.1 in let above = g.next.above in omega arith)
  | inr t ↦ any_point (g.next.first (old.machine.point + 1) (omega arith) t.1) _ _
]

-- one step back is the point before
one_back : (input : Input) (mid new : Stand) → Returns input AnyPoint mid new → mid.machine.oldest < mid.machine.point → new.machine.point + 1 ≡ mid.machine.point
one_back input mid new r room =
    let below = r.last.below room in
    elim (leb_tells mid.machine.point (new.machine.point + 1)) [
      | inl t ↦ (let le = t.1 in omega arith)
      | inr t ↦ any_point (r.last.first (new.machine.point + 1) (omega arith) t.1) _ _
    ]

-- the point that a step leaves is kept
below_raised : (history : Option ℕ) (k f : ℕ) → KeepsAStep history → f ≤ k → raised history (k + 1) f < k + 1
below_raised None k f keeps h = omega arith
below_raised (Some n) k f keeps h = omega arith

module _ (input : Input) (old mid new : Stand) (position : IsPosition old.machine) (keeps : KeepsAStep old.machine.history) (g : Goes input AnyPoint old mid) (r : Returns input AnyPoint mid new) where
  room : mid.machine.oldest < mid.machine.point
  room =
      let up = one_on input old mid g in
      let e : mid.machine.oldest ≡ raised old.machine.history (old.machine.point + 1) old.machine.oldest =
      ap (λ (s : Stand). s.machine.oldest) g.same ∙ ap (λ j. raised old.machine.history j old.machine.oldest) up in
      let b = below_raised old.machine.history old.machine.point old.machine.oldest keeps position.kept in
      omega arith

  point_is : new.machine.point ≡ old.machine.point
  point_is = let up = one_on input old mid g in let down = one_back input mid new r room in omega arith

  machine_is : (o : ℕ) × (new.machine ≡ record old.machine { oldest = o })
  machine_is =
      let o : ℕ = raised old.machine.history mid.machine.point old.machine.oldest in (
        o,
        ap (λ (s : Stand). s.machine) r.same ∙ ap (λ (s : Stand). back_at new.machine.point s.machine) g.same
            ∙ ap (λ j. record old.machine { point = j; sets = upto j old.machine.sets; oldest = o }) point_is ∙ ap (λ (e : List SetAt). record old.machine { sets = e; oldest = o }) position.past,
      )

  pub is_back : IsBack input old new
  is_back = record {
    point = point_is;
    sets = ap (λ (m : Position). m.sets) machine_is.1;
    state = ap (here input) machine_is.1;
    stops = ap (λ (s : Stand). s.stops) r.same ∙ ap (λ (s : Stand). s.stops) g.same;
    made = ap (λ (s : Stand). s.made) r.same ∙ ap (λ (s : Stand). s.made) g.same;
  }

pub step_and_back : StepLaw
step_and_back input old mid new from answer came last position keeps there back = is_back input old mid new position keeps there.1.1 back.1.1

-- a list with one more element is not empty
never_empty : {A : Type 0} (a : List A) (x : A) → [] ≡ a ++ x ∷ [] → ⊥
never_empty [] x h = cc
never_empty (b ∷ a) x h = cc

-- two lists with one more element each
front_same : {A : Type 0} (a b : List A) (x y : A) → a ++ x ∷ [] ≡ b ++ y ∷ [] → a ≡ b
front_same [] [] x y h = refl
front_same {A} [] (c ∷ b) x y h = let none : List A = [] in let e : none ≡ b ++ y ∷ [] = cc in absurd (never_empty b y e)
front_same {A} (c ∷ a) [] x y h = let none : List A = [] in let e : none ≡ a ++ x ∷ [] = cc in absurd (never_empty a x e)
front_same (c ∷ a) (d ∷ b) x y h =
    let same : c ≡ d = cc in
    let rest : a ++ x ∷ [] ≡ b ++ y ∷ [] = cc in
    let e = front_same a b x y rest in
    λ i. same i ∷ e i

-- what was set is taken back
set_undone : (old mid new : Stand) (x : SetAt) → mid ≡ record old { machine = record old.machine { sets = old.machine.sets ++ x ∷ [] } } → IsTakenBack mid.machine new.machine
    → new ≡ record mid { machine = new.machine } → new ≡ old
set_undone old mid new x set taken same =
    let s : new.machine.sets ≡ old.machine.sets =
    front_same new.machine.sets old.machine.sets taken.last x (sym taken.sets ∙ ap (λ (s : Stand). s.machine.sets) set) in
    let m : new.machine ≡ old.machine =
    taken.same ∙ ap (λ (s : Stand). record s.machine { sets = new.machine.sets }) set ∙ ap (λ (e : List SetAt). record old.machine { sets = e }) s in
    same ∙ ap (λ (s : Stand). record s { machine = new.machine }) set ∙ ap (λ (p : Position). record old { machine = p }) m

pub set_and_back : SetLaw
set_and_back input place constant old mid new shown answer came last there back = set_undone old mid new _ there.1.3 back.1.1 back.1.2
