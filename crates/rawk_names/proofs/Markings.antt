-- What a mark changes.
use Rattle.std.proofs.Common.{◌≡◌, ◌<◌, ◌+◌, ◌⊎◌, inl, inr, ℕ, List, [], ◌∷◌, ◌++◌, length, get_or, set, refl, sym, ap, subst, ◌∙◌, arith, Bool, true, false, length-append, length-set, sum_by}
use Rattle.std.specs.Prelude.{nat_lt, ◌≢◌, ◌==◌}
use Rattle.std.proofs.lemmas.Bool.Decides.{nat_tests}
use Rattle.std.proofs.lemmas.Bool.{ltb-true, ltb-false, false≢true}
use Rattle.std.proofs.lemmas.List.{get_or_append_left, get_or-set_other, get_or-set_same}
use Rattle.std.proofs.Math.Seq.{get_or-append_seam}
use Rattle.std.proofs.lemmas.List.Sums.{sum_by-set}
use Rattle.rawk_names.specs.Marking.{is_marked, IsPending, flags_after, pending_after, Keeps, open_of, Progress}

pub pending-push : (pending : List ℕ) (v w : ℕ) → IsPending pending w → IsPending (pending ++ v ∷ []) w
pending-push pending v w h = (h.0, omega (arith, h.1, length-append pending (v ∷ [])), get_or_append_left pending (v ∷ []) 0 h.0 h.1 ∙ h.2)

pub pending-last : (pending : List ℕ) (v : ℕ) → IsPending (pending ++ v ∷ []) v
pending-last pending v = (length pending, omega (arith, length-append pending (v ∷ [])), get_or-append_seam pending v [] 0)

pub pending-pop : (pending : List ℕ) (v w : ℕ) → IsPending (pending ++ v ∷ []) w → (w ≡ v) ⊎ IsPending pending w
pending-pop pending v w h = at (nat_lt h.0 (length pending)) refl
  where
    at : (t : Bool) → nat_lt h.0 (length pending) ≡ t → (w ≡ v) ⊎ IsPending pending w
    at true e = let k : h.0 < length pending = ltb-true _ _ e in inr (h.0, k, sym (get_or_append_left pending (v ∷ []) 0 h.0 k) ∙ h.2)
    at false e =
        let k : h.0 ≡ length pending = omega (arith, h.1, ltb-false _ _ e, length-append pending (v ∷ [])) in
        inl (sym h.2 ∙ (ap (λ (i : ℕ). get_or (pending ++ v ∷ []) i 0) k ∙ get_or-append_seam pending v [] 0))

set_weight : (flags : List Bool) (v : ℕ) → v < length flags → is_marked flags v ≡ false → sum_by open_of (set flags v true) + 1 ≡ sum_by open_of flags
set_weight flags v h e =
    let s : sum_by open_of (set flags v true) + open_of (get_or flags v false) ≡ sum_by open_of flags + 0 = sum_by-set open_of flags v true false h in
    let t : sum_by open_of (set flags v true) + 1 ≡ sum_by open_of flags + 0 = sym (ap (λ (b : Bool). sum_by open_of (set flags v true) + open_of b) e) ∙ s in
    omega (arith, t)

set_only : (flags : List Bool) (v w : ℕ) → is_marked (set flags v true) w ≡ true → (is_marked flags w ≡ true) ⊎ (w ≡ v)
set_only flags v w h = at (w == v) refl
  where
    at : (t : Bool) → (w == v) ≡ t → (is_marked flags w ≡ true) ⊎ (w ≡ v)
    at true e = inr (search (arith, nat_tests, e))
    at false e = let differs : w ≢ v = λ same. false≢true (sym e ∙ search (arith, nat_tests, same)) in inl (sym (get_or-set_other flags v w true false differs) ∙ h)

set_keeps : (flags : List Bool) (v : ℕ) → v < length flags → Keeps flags (set flags v true)
set_keeps flags v h w m = at (w == v) refl
  where
    at : (t : Bool) → (w == v) ≡ t → is_marked (set flags v true) w ≡ true
    at true e = let same : w ≡ v = search (arith, nat_tests, e) in ap (λ (k : ℕ). is_marked (set flags v true) k) same ∙ get_or-set_same flags v true false h
    at false e = let differs : w ≢ v = λ same. false≢true (sym e ∙ search (arith, nat_tests, same)) in get_or-set_other flags v w true false differs ∙ m

pub nothing_new : (Leads : ℕ → Type 0) (flags : List Bool) (pending : List ℕ) → Progress Leads flags pending flags pending
nothing_new Leads flags pending = record { size = refl; kept = λ v h. h; only = λ w h. inl h; fresh = λ w h. inl h; waits = λ w h. h; weight = refl }

-- one mark
pub one_marked : (Leads : ℕ → Type 0) (flags flags' : List Bool) (pending pending' : List ℕ) (v : ℕ) → v < length flags → Leads v → flags' ≡ flags_after v flags → pending' ≡ pending_after v flags pending
    → Progress Leads flags pending flags' pending' × (is_marked flags' v ≡ true)
unfolding flags_after pending_after
one_marked Leads flags flags' pending pending' v h leads f p = at (is_marked flags v) refl
  where
    at : (t : Bool) → is_marked flags v ≡ t → Progress Leads flags pending flags' pending' × (is_marked flags' v ≡ true)
    at true e =
        let f' : flags' ≡ flags = rw e at f in
        let p' : pending' ≡ pending = rw e at p in
        rw (f', p') (nothing_new Leads flags pending, e)
    at false e =
        let f' : flags' ≡ set flags v true = rw e at f in
        let p' : pending' ≡ pending ++ v ∷ [] = rw e at p in
        rw (f', p') (
          record {
            size = length-set flags v true;
            kept = set_keeps flags v h;
            only = λ w m. elim (set_only flags v w m) [ inl a ↦ inl a | inr same ↦ inr (subst Leads (sym same) leads, subst (IsPending (pending ++ v ∷ [])) (sym same) (pending-last pending v)) ];
            fresh = λ w m. elim (pending-pop pending v w m) [ inl same ↦ inr (subst Leads (sym same) leads) | inr a ↦ inl a ];
            waits = pending-push pending v;
            weight = omega (arith, set_weight flags v h e, length-append pending (v ∷ []));
          },
          get_or-set_same flags v true false h,
        )

-- one after another
pub more_progress : (Leads : ℕ → Type 0) (f g k : List Bool) (p q r : List ℕ) → Progress Leads f p g q → Progress Leads g q k r → Progress Leads f p k r
more_progress Leads f g k p q r a b = record {
  size = b.size ∙ a.size;
  kept = λ v h. b.kept v (a.kept v h);
  only = λ w h. elim (b.only w h) [ inl m ↦ elim (a.only w m) [ inl n ↦ inl n | inr n ↦ inr (n.0, b.waits w n.1) ] | inr n ↦ inr n ];
  fresh = λ w h. elim (b.fresh w h) [ inl m ↦ a.fresh w m | inr l ↦ inr l ];
  waits = λ w h. b.waits w (a.waits w h);
  weight = b.weight ∙ a.weight;
}
