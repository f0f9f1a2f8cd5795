-- A walk by the table is a walk of state sets.
use Rattle.std.proofs.Common.{◌≡◌, ℕ, zero, suc, ◌+◌, ◌-◌, ◌*◌, ◌/◌, ◌%◌, ◌<◌, ◌≤◌, ◌⊎◌, inl, inr, Bool, true, false, List, [], length, get_or, Option, Some, None, refl, sym, ap, ◌∙◌, subst, arith, true≢false}
use Rattle.std.specs.Prelude.{◌↔◌, IsTrue, Contains, slice_index}
use Rattle.std.proofs.lemmas.Option.{slice_get_within}
use Rattle.std.proofs.lemmas.Bool.{cases_Bool, cases_eq, cases_lt}
use Rattle.std.proofs.lemmas.List.Elements.{Contains-append_cases}
use Rattle.rawk_ere_tree.specs.declared.code.Instruction.{Instruction}
use Rattle.rawk_ere_tree.specs.Ends.{IsLast}
use Rattle.rawk_ere_tree.specs.Code.{Hops, Step, Path, wide_code}
use Rattle.rawk_ere_tree.specs.StateSets.{Adds}
use Rattle.rawk_ere_walks.specs.Sets.{Closes, AreReached, IsFarthestBefore, IsFarthest}
use Rattle.rawk_ere_walks.specs.Ways.{EndsFrom, MayStart}
use Rattle.rawk_ere_automaton.specs.Search.{Widens, BeginsNone, NoneMay, Knows}
use Rattle.rawk_ere_begins.specs.Filters.{IsPassedOver, Tells, AllLeadTo, IsNextMarked, IsUnmarked, pair_marks}
use Rattle.rawk_ere_begins.specs.declared.block.Block.{Block}
use Rattle.rawk_ere_automaton.specs.declared.table.Table.{Table}
use Rattle.rawk_ere_automaton.specs.Table.{members, Begins, LeadsBy, EndsLast, AreFilled, AreStarts, IsTable}
use Rattle.rawk_ere_tree.specs.SetLemmas.{Contains-none}
use Rattle.rawk_ere_walks.specs.WalkLemmas.{hops_where, closes_where, path_of_hops, path_more, path_last, path_join, path_up, path_passes, wants_none, step_up, reached_first, reached_more, none_before, noted_is, farthest_stop, farthest_end}

not_true : IsTrue false → ⊥
not_true h = true≢false (sym h)

module _ (code : List Instruction) (s : List ℕ) where
  -- a step in the open text is one in the closed text
  open_step : (q i r j : ℕ) → Step code false s q i r j → Step code true s q i r j
  open_step q i r j st = (
    st.0,
    st.1,
    elim st.2 [
      | inl h ↦ inl (hops_where (i ≡ 0) (i ≡ 0) (IsLast false s i) (IsLast true s i) (λ f. f) (λ l. absurd (not_true l.0)) q st.0 r h.0, h.1)
      | inr h ↦ inr h
    ],
  )

  open_path : (n q i f j : ℕ) → Path code false s n q i f j → Path code true s n q i f j
  open_path zero q i f j p = p
  open_path (suc n) q i f j p = (p.0, p.1, open_step q i p.0 p.1 p.2, open_path n p.0 p.1 f j p.3)

  -- a way that ends before the end of the text does not see that it is closed
  close_step : (q i r j : ℕ) → i < length s → Step code true s q i r j → Step code false s q i r j
  close_step q i r j lt st = (
    st.0,
    st.1,
    elim st.2 [
      | inl h ↦ inl (hops_where (i ≡ 0) (i ≡ 0) (IsLast true s i) (IsLast false s i) (λ f. f) (λ l. absurd (omega (arith, l.1))) q st.0 r h.0, h.1)
      | inr h ↦ inr h
    ],
  )

  close_path : (n q i f j : ℕ) → j < length s → Path code true s n q i f j → Path code false s n q i f j
  close_path zero q i f j lt p = p
  close_path (suc n) q i f j lt p =
      let up = path_up code true s n p.0 p.1 f j p.3 in
      let step = step_up code true s q i p.0 p.1 p.2 in
      (p.0, p.1, close_step q i p.0 p.1 (omega (arith, step.0)) p.2, close_path n p.0 p.1 f j lt p.3)

  -- before the end of the text
  pub reached_within : (i at : ℕ) (states : List ℕ) → at < length s → AreReached code false s i at states → AreReached code true s i at states
  reached_within i at states lt r = record {
    sound = λ q h. let p = r.sound q h in (p.0, open_path p.0 0 i q at p.1);
    all = λ q n le p. r.all q n le (close_path n 0 i q at lt p);
  }

  last_all : (i at : ℕ) (set copy new : List ℕ) → i ≤ at → at ≡ length s → AreReached code false s i at set → Adds (length code + 1) [] copy (Contains set)
      → Closes (length code + 1) code (at ≡ 0) (IsLast true s at) copy new → (q n : ℕ) → q ≤ length code → Path code true s n 0 i q at → Contains new q
  last_all i at set copy new lt e r a c q zero le p = c.keeps q (a.has q (r.all q zero le p) (omega arith))
  last_all i at set copy new lt e r a c q (suc n) le p =
      let t = path_last code true s n 0 i q at p in
      let lr = slice_get_within code t.0 t.3.0 t.3.1 in
      elim t.3.2 [
        | inl h ↦
            let at_r = subst (λ x. Path code true s n 0 i t.0 x) h.1 t.2 in
            let has_r = last_all i at set copy new lt e r a c t.0 n (omega (arith, lr)) at_r in
            c.closed t.0 q has_r (t.3.0, t.3.1, subst (λ x. Hops (x ≡ 0) (IsLast true s x) t.0 t.3.0 q) h.1 h.0) (omega arith)
        | inr h ↦
            let before = close_path n 0 i t.0 t.1 (omega (arith, h.4)) t.2 in
            let there = path_more code false s n 0 i t.0 t.1 q at before (t.3.0, t.3.1, inr h) in
            c.keeps q (a.has q (r.all q (suc n) le there) (omega arith))
      ]

  -- at the end of the text
  pub reached_last : (i at : ℕ) (set copy new : List ℕ) → i ≤ at → at ≡ length s → AreReached code false s i at set → Adds (length code + 1) [] copy (Contains set)
      → Closes (length code + 1) code (at ≡ 0) (IsLast true s at) copy new → AreReached code true s i at new
  reached_last i at set copy new lt e r a c = record {
    sound = λ q h.
        let o = c.only q h in
        let in_set = elim (Contains-append_cases [] a.more o.0 (subst (λ l. Contains l o.0) a.is o.1)) as (λ _. Contains set o.0) [
          | inl u ↦ absurd (Contains-none o.0 u)
          | inr v ↦ a.only o.0 v
        ] in
        let before = r.sound o.0 in_set in
        path_join code true s before.0 o.2.0 0 i o.0 at q at (open_path before.0 0 i o.0 at before.1) (path_of_hops code true s o.2.0 o.0 q at o.2.1);
    all = last_all i at set copy new lt e r a c;
  }

  open_last : (i : ℕ) → IsTrue false ↔ IsLast false s i
  open_last i = (λ h. absurd (not_true h), λ h. h.0)

  -- the first row
  pub begins_reached : (First : Type 0) (i : ℕ) (set : List ℕ) → First ↔ (i ≡ 0) → Begins code First set → AreReached code false s i i set
  begins_reached First i set f b =
      reached_first code false s (length code + 1) i [] b.one set refl refl b.adds (closes_where (length code + 1) code First (i ≡ 0) (IsTrue false) (IsLast false s i) b.one set f (open_last i) b.closes)

  -- the next row
  pub leads_reached : (i at b : ℕ) (old new : List ℕ) → i ≤ at → at < length s → b ≡ get_or s at 0 → AreReached code false s i at old → LeadsBy code b old new → AreReached code false s i (at + 1) new
  leads_reached i at b old new le lt e r l =
      reached_more code false s (length code + 1) i at b old l.mid new refl le lt e r l.reads
      (closes_where (length code + 1) code (IsTrue false) (at + 1 ≡ 0) (IsTrue false) (IsLast false s (at + 1)) l.mid new
      (λ h. absurd (not_true h), λ h. absurd (omega (arith, h))) (open_last (at + 1)) l.closes)

  pub ends_reached : (i at : ℕ) (set : List ℕ) (ends : Bool) (l : EndsLast code set ends) → i ≤ at → 0 < at → at ≡ length s → AreReached code false s i at set → AreReached code true s i at l.new
  ends_reached i at set ends l le pos e r =
      reached_last i at set l.copy l.new le e r l.copies
      (closes_where (length code + 1) code (IsTrue false) (at ≡ 0) (IsTrue true) (IsLast true s at) l.copy l.new
      (λ h. absurd (not_true h), λ h. absurd (omega (arith, h))) (λ h. (h, e), λ h. h.0) l.closes)

  -- what a walk by the table keeps
  pub record Running (sets : List (ℕ × List ℕ)) (i at row : ℕ) (longest : Option ℕ) : Type 0 where
    pub within : row < length sets
    pub reached : AreReached code false s i at (members sets row)
    pub before : IsFarthestBefore code true s i at longest

  pub running_end : (sets : List (ℕ × List ℕ)) (i at row : ℕ) (longest result : Option ℕ) (ends : Bool) → EndsLast code (members sets row) ends → i ≤ at → 0 < at → at ≡ length s → Running sets i at row longest
      → (IsTrue ends × (result ≡ Some at)) ⊎ ((IsTrue ends → ⊥) × (result ≡ longest)) → IsFarthest code true s i result
  running_end sets i at row longest result ends l le pos e r c =
      let reached = ends_reached i at (members sets row) ends l le pos e r.reached in
      let noted = noted_is code true s i at l.new longest result reached (elim c [ inl h ↦ inl (l.is.0 h.0, h.1) | inr h ↦ inr (λ x. h.0 (l.is.1 x), h.1) ]) r.before in
      farthest_end code true s i (at + 1) result (omega arith) (omega arith) noted

  pub running_start : (sets : List (ℕ × List ℕ)) (start later i row : ℕ) → AreStarts code sets start later → ((i ≡ 0) × (row ≡ start)) ⊎ ((i ≡ 0 → ⊥) × (row ≡ later)) → Running sets i i row None
  running_start sets start later i row a (inl h) = record {
    within = omega (arith, a.start_within, h.1);
    reached = subst (λ x. AreReached code false s i i (members sets x)) (sym h.1) (begins_reached (IsTrue true) i (members sets start) (λ _. h.0, λ _. refl) a.start_begins);
    before = none_before code true s i;
  }
  running_start sets start later i row a (inr h) = record {
    within = omega (arith, a.later_within, h.1);
    reached = subst (λ x. AreReached code false s i i (members sets x)) (sym h.1) (begins_reached (IsTrue false) i (members sets later) (λ x. absurd (not_true x), λ x. absurd (h.0 x)) a.later_begins);
    before = none_before code true s i;
  }

  running_stop : (sets : List (ℕ × List ℕ)) (i at row : ℕ) (longest : Option ℕ) → i ≤ at → at < length s → length (members sets row) ≡ 0 → Running sets i at row longest → IsFarthest code true s i longest
  running_stop sets i at row longest le lt z r = farthest_stop code true s i at (members sets row) longest le z (reached_within i at (members sets row) lt r.reached) r.before

  running_next : (sets : List (ℕ × List ℕ)) (next : List ℕ) (i at row b row' : ℕ) (longest result : Option ℕ) (ends : Bool) → AreFilled code sets next → length next ≡ 256 * length sets
      → i ≤ at → at < length s → b ≡ get_or s at 0 → b < 256 → row' ≡ get_or next (row * 256 + b) 0 → IsTrue ends ↔ Contains (members sets row) (length code)
      → (IsTrue ends × (result ≡ Some at)) ⊎ ((IsTrue ends → ⊥) × (result ≡ longest)) → Running sets i at row longest → Running sets i (at + 1) row' result
  running_next sets next i at row b row' longest result ends f all le lt eb lb e is c r =
      let k = row * 256 + b in
      let lk : k < length next = omega (arith, r.within, all) in
      let d : k / 256 ≡ row = omega arith in
      let m : k % 256 ≡ b = omega arith in
      let there = subst (λ x. LeadsBy code b (members sets row) (members sets x)) (sym e) (subst (λ x. LeadsBy code x (members sets row) (members sets (slice_index next k))) m (subst (λ x. LeadsBy code (k % 256) (members sets x) (members sets (slice_index next k))) d (f.leads k lk))) in
      let here = elim c as (λ _. (Contains (members sets row) (length code) × (result ≡ Some at)) ⊎ ((Contains (members sets row) (length code) → ⊥) × (result ≡ longest))) [
        | inl h ↦ inl (is.0 h.0, h.1)
        | inr h ↦ inr (λ x. h.0 (is.1 x), h.1)
      ] in
      record {
        within = omega (arith, f.target k lk, e);
        reached = leads_reached i at b (members sets row) (members sets row') le lt eb r.reached there;
        before = noted_is code true s i at (members sets row) longest result (reached_within i at (members sets row) lt r.reached) here r.before;
      }

  -- the row that a byte leads to
  pub row_next : (sets : List (ℕ × List ℕ)) (next : List ℕ) (i at row b row' : ℕ) → AreFilled code sets next → length next ≡ 256 * length sets → i ≤ at → at < length s → b ≡ get_or s at 0 → b < 256 → row' ≡ get_or next (row * 256 + b) 0
      → row < length sets → AreReached code false s i at (members sets row) → (row' < length sets) × AreReached code false s i (at + 1) (members sets row')
  row_next sets next i at row b row' f all le lt eb lb e within r =
      let k = row * 256 + b in
      let lk : k < length next = omega (arith, within, all) in
      let d : k / 256 ≡ row = omega arith in
      let m : k % 256 ≡ b = omega arith in
      let there = subst (λ x. LeadsBy code b (members sets row) (members sets x)) (sym e) (subst (λ x. LeadsBy code x (members sets row) (members sets (slice_index next k))) m (subst (λ x. LeadsBy code (k % 256) (members sets x) (members sets (slice_index next k))) d (f.leads k lk))) in
      (omega (arith, f.target k lk, e), leads_reached i at b (members sets row) (members sets row') le lt eb r there)

  -- what a walk by the table keeps in a text that may go on
  pub record OpenRunning (sets : List (ℕ × List ℕ)) (i at row : ℕ) (longest : Option ℕ) : Type 0 where
    pub within : row < length sets
    pub reached : AreReached code false s i at (members sets row)
    pub before : IsFarthestBefore code false s i at longest

  pub open_running_start : (sets : List (ℕ × List ℕ)) (start later i row : ℕ) → AreStarts code sets start later → ((i ≡ 0) × (row ≡ start)) ⊎ ((i ≡ 0 → ⊥) × (row ≡ later)) → OpenRunning sets i i row None
  open_running_start sets start later i row a h = let r = running_start sets start later i row a h in record { within = r.within; reached = r.reached; before = none_before code false s i }

  open_noted : (i at : ℕ) (set : List ℕ) (longest result : Option ℕ) (ends : Bool) → IsTrue ends ↔ Contains set (length code) → (IsTrue ends × (result ≡ Some at)) ⊎ ((IsTrue ends → ⊥) × (result ≡ longest))
      → AreReached code false s i at set → IsFarthestBefore code false s i at longest → IsFarthestBefore code false s i (at + 1) result
  open_noted i at set longest result ends is c r f =
      noted_is code false s i at set longest result r (elim c as (λ _. (Contains set (length code) × (result ≡ Some at)) ⊎ ((Contains set (length code) → ⊥) × (result ≡ longest))) [ inl h ↦ inl (is.0 h.0, h.1) | inr h ↦ inr (λ x. h.0 (is.1 x), h.1) ]) f

  pub open_running_next : (sets : List (ℕ × List ℕ)) (next : List ℕ) (i at row b row' : ℕ) (longest result : Option ℕ) (ends : Bool) → AreFilled code sets next → length next ≡ 256 * length sets
      → i ≤ at → at < length s → b ≡ get_or s at 0 → b < 256 → row' ≡ get_or next (row * 256 + b) 0 → IsTrue ends ↔ Contains (members sets row) (length code)
      → (IsTrue ends × (result ≡ Some at)) ⊎ ((IsTrue ends → ⊥) × (result ≡ longest)) → OpenRunning sets i at row longest → OpenRunning sets i (at + 1) row' result
  open_running_next sets next i at row b row' longest result ends f all le lt eb lb e is c r =
      let n = row_next sets next i at row b row' f all le lt eb lb e r.within r.reached in
      record { within = n.0; reached = n.1; before = open_noted i at (members sets row) longest result ends is c r.reached r.before }

  pub open_running_end : (sets : List (ℕ × List ℕ)) (i at row : ℕ) (longest result : Option ℕ) (ends : Bool) → i ≤ length s → at ≡ length s → IsTrue ends ↔ Contains (members sets row) (length code)
      → (IsTrue ends × (result ≡ Some at)) ⊎ ((IsTrue ends → ⊥) × (result ≡ longest)) → OpenRunning sets i at row longest → IsFarthest code false s i result
  open_running_end sets i at row longest result ends le e is c r =
      farthest_end code false s i (at + 1) result le (omega (arith, e)) (open_noted i at (members sets row) longest result ends is c r.reached r.before)

  -- where a walk by the table begins at the row `later`
  abbrev pub IsLater : Table → ℕ → Type 0
  IsLater t at = (0 < at) ⊎ (t.start ≡ t.later)

  pub later_on : (t : Table) (from at : ℕ) → from ≤ at → IsLater t from → IsLater t at
  later_on t from at le (inl pos) = inl (omega (arith, pos, le))
  later_on t from at le (inr e) = inr e

  running_later : (t : Table) (is : IsTable code t) (at : ℕ) → IsLater t at → Running is.sets at at t.later None
  running_later t is at (inl pos) = running_start is.sets t.start t.later at t.later is.starts (inr (λ z. omega (arith, z, pos), refl))
  running_later t is at (inr e) = elim (cases_eq at 0) [
    | inl begun ↦ running_start is.sets t.start t.later at t.later is.starts (inl (begun, sym e))
    | inr on ↦ running_start is.sets t.start t.later at t.later is.starts (inr (on, refl))
  ]

  -- no way that reads a byte begins at a place from which nothing is left
  none_left : (t : Table) (is : IsTable code t) (i at : ℕ) → i < at → at ≤ length s → (t.dead < length is.sets) × AreReached code false s i at (members is.sets t.dead) → ((j : ℕ) → i < j → j < at → (n : ℕ) × Path code false s n 0 i (length code) j → ⊥) → MayStart code s i → ⊥
  none_left t is i at lt le r before m =
      let z = is.none r.0 in
      elim m as (λ _. ⊥) [
        | inl w ↦ not_true ((wants_none code false s i at (members is.sets t.dead) (omega (arith, lt)) le z r.1).1 w)
        | inr h ↦ elim (cases_lt h.0 at) as (λ _. ⊥) [
          | inl early ↦ before h.0 h.1 early h.2
          | inr past ↦
              let p = path_passes code false s h.2.0 0 i (length code) h.0 at (omega arith) h.2.1 (omega (arith, lt)) past in
              let x = r.1.all p.0 p.1 p.2 p.3 in omega (arith, x.1, z)
        ]
      ]

  -- no way that reads a byte may begin with the byte at the place
  pub may_not : (t : Table) (is : IsTable code t) (at b : ℕ) → IsLater t at → at < length s → b ≡ get_or s at 0 → b < 256 → get_or t.next.items (t.later * 256 + b) 0 ≡ t.dead → MayStart code s at → ⊥
  may_not t is at b pos lt eb lb nd m =
      let r0 = running_later t is at pos in
      let r1 = row_next is.sets t.next.items at at t.later b t.dead is.filled is.all (omega arith) lt eb lb (sym nd) r0.within r0.reached in
      none_left t is at (at + 1) (omega arith) (omega (arith, lt)) r1 (λ j low high w. omega (arith, low, high)) m

  -- nor with that and the next one
  may_not_pair : (t : Table) (is : IsTable code t) (at a b : ℕ) → IsLater t at → at + 1 < length s → a ≡ get_or s at 0 → a < 256 → b ≡ get_or s (at + 1) 0 → b < 256
      → get_or t.ends.items (get_or t.next.items (t.later * 256 + a) 0) false ≡ false → get_or t.next.items (get_or t.next.items (t.later * 256 + a) 0 * 256 + b) 0 ≡ t.dead → MayStart code s at → ⊥
  may_not_pair t is at a b pos lt ea la eb lb ne nd m =
      let row = get_or t.next.items (t.later * 256 + a) 0 in
      let r0 = running_later t is at pos in
      let r1 = row_next is.sets t.next.items at at t.later a row is.filled is.all (omega arith) (omega (arith, lt)) ea la refl r0.within r0.reached in
      let r2 = row_next is.sets t.next.items at (at + 1) row b t.dead is.filled is.all (omega arith) lt eb lb (sym nd) r1.0 r1.1 in
      let e : at + 1 + 1 ≡ at + 2 = omega arith in
      none_left t is at (at + 2) (omega arith) (omega (arith, lt)) (subst (λ k. (t.dead < length is.sets) × AreReached code false s at k (members is.sets t.dead)) e r2)
      (λ j low high w.
      let here : j ≡ at + 1 = omega (arith, low, high) in
      let end = r1.1.all (length code) w.0 (omega arith) (subst (λ x. Path code false s w.0 0 at (length code) x) here w.1) in
      true≢false (sym ((is.ends_are row r1.0).1 end) ∙ ne))
      m

  -- nor where each byte leads to the row without states
  pub none_may_dead : (t : Table) (is : IsTable code t) (from first upto : ℕ) → IsLater t from → upto ≤ length s → ((k : ℕ) → get_or s k 0 < 256) → ((k : ℕ) → first ≤ k → k < upto → get_or t.next.items (t.later * 256 + get_or s k 0) 0 ≡ t.dead)
      → NoneMay code s from first → NoneMay code s from upto
  none_may_dead t is from first upto pos end fits dead n = λ i low lt m. elim (cases_lt i first) [
    | inl before ↦ n i low before m
    | inr ge ↦ may_not t is i (get_or s i 0) (later_on t from i low pos) (omega (arith, lt, end)) refl (fits i) (dead i ge lt) m
  ]

  -- nor at a place that is passed over
  may_not_here : (t : Table) (is : IsTable code t) (at : ℕ) → IsLater t at → at < length s → ((k : ℕ) → get_or s k 0 < 256) → IsPassedOver t.begins s at → MayStart code s at → ⊥
  may_not_here t is at pos lt fits (inl e) m = may_not t is at (get_or s at 0) pos lt refl (fits at) (is.begin_with.empty e (get_or s at 0) (fits at)) m
  may_not_here t is at pos lt fits (inr (inl z)) m = may_not t is at (get_or s at 0) pos lt refl (fits at) (is.begin_with.single (get_or s at 0) (fits at) z) m
  may_not_here t is at pos lt fits (inr (inr z)) m = elim (is.begin_with.pair (get_or s at 0) (get_or s (at + 1) 0) (fits at) (fits (at + 1)) z.1) [
    | inl d ↦ may_not t is at (get_or s at 0) pos lt refl (fits at) d m
    | inr d ↦ may_not_pair t is at (get_or s at 0) (get_or s (at + 1) 0) pos z.0 refl (fits at) refl (fits (at + 1)) d.0 d.1 m
  ]

  pub none_may_seek : (t : Table) (is : IsTable code t) (from upto : ℕ) → IsLater t from → upto ≤ length s → ((k : ℕ) → get_or s k 0 < 256) → ((k : ℕ) → from ≤ k → k < upto → IsPassedOver t.begins s k) → NoneMay code s from upto
  none_may_seek t is from upto pos le fits h = λ i low lt m. may_not_here t is i (later_on t from i low pos) (omega (arith, lt, le)) fits (h i low lt) m

  -- an end at the row is one of a way
  running_way : (sets : List (ℕ × List ℕ)) (i at row : ℕ) (longest : Option ℕ) → at < length s → Contains (members sets row) (length code) → Running sets i at row longest → (n : ℕ) × Path code true s n 0 i (length code) at
  running_way sets i at row longest lt h r = (reached_within i at (members sets row) lt r.reached).sound (length code) h

  pub running_way_last : (sets : List (ℕ × List ℕ)) (i at row : ℕ) (longest : Option ℕ) (ends : Bool) (l : EndsLast code (members sets row) ends) → i ≤ at → 0 < at → at ≡ length s → IsTrue ends → Running sets i at row longest
      → (n : ℕ) × Path code true s n 0 i (length code) at
  running_way_last sets i at row longest ends l le pos e h r = (ends_reached i at (members sets row) ends l le pos e r.reached).sound (length code) (l.is.0 h)

  -- where nothing is left, nothing ends
  none_last : (set : List ℕ) (ends : Bool) → length set ≡ 0 → EndsLast code set ends → IsTrue ends → ⊥
  none_last set ends z l h =
      let o = l.closes.only (length code) (l.is.0 h) in
      elim (Contains-append_cases [] l.copies.more o.0 (subst (λ l. Contains l o.0) l.copies.is o.1)) as (λ _. ⊥) [
        | inl u ↦ Contains-none o.0 u
        | inr v ↦ (let x = l.copies.only o.0 v in omega (arith, x.1))
      ]

  -- where nothing is left, the longest way so far is the longest of all
  pub farthest_dead : (t : Table) (is : IsTable code t) (i at : ℕ) (longest : Option ℕ) → i < at → at ≤ length s → Running is.sets i at t.dead longest → IsFarthest code true s i longest
  farthest_dead t is i at longest lt le r =
      let z = is.none r.within in
      elim (cases_lt at (length s)) [
        | inl more ↦ running_stop is.sets i at t.dead longest (omega (arith, lt)) more z r
        | inr last ↦
            running_end is.sets i at t.dead longest longest (get_or t.last_ends.items t.dead false) (is.last t.dead r.within) (omega (arith, lt)) (omega (arith, lt)) (omega (arith, last, le)) r
            (inr (none_last (members is.sets t.dead) (get_or t.last_ends.items t.dead false) z (is.last t.dead r.within), refl))
      ]

  -- an end at the end of the text as well
  ends_also_last : (t : Table) (is : IsTable code t) (row : ℕ) → row < length is.sets → get_or t.ends.items row false ≡ true → IsTrue (get_or t.last_ends.items row false)
  ends_also_last t is row lt e =
      let l = is.last row lt in
      let here = (is.ends_are row lt).0 e in
      l.is.1 (l.closes.keeps (length code) (l.copies.has (length code) here (omega arith)))

  -- a byte leads on from a row
  running_step : (t : Table) (is : IsTable code t) (i at row b row' : ℕ) (longest result : Option ℕ) → i ≤ at → at < length s → b ≡ get_or s at 0 → b < 256 → row' ≡ get_or t.next.items (row * 256 + b) 0
      → (IsTrue (get_or t.ends.items row false) × (result ≡ Some at)) ⊎ ((IsTrue (get_or t.ends.items row false) → ⊥) × (result ≡ longest)) → Running is.sets i at row longest → Running is.sets i (at + 1) row' result
  running_step t is i at row b row' longest result le lt eb lb e c r =
      running_next is.sets t.next.items i at row b row' longest result (get_or t.ends.items row false) is.filled is.all le lt eb lb e (is.ends_are row r.within) c r

  -- the same from a row where no way ends
  pub running_on : (t : Table) (is : IsTable code t) (i at row b row' : ℕ) (longest : Option ℕ) → i ≤ at → at < length s → b ≡ get_or s at 0 → b < 256 → row' ≡ get_or t.next.items (row * 256 + b) 0
      → get_or t.ends.items row false ≡ false → Running is.sets i at row longest → Running is.sets i (at + 1) row' longest
  running_on t is i at row b row' longest le lt eb lb e ne r = running_step t is i at row b row' longest longest le lt eb lb e (inr (λ x. true≢false (sym x ∙ ne), refl)) r

  -- what a walk keeps that looks at the marks of a row where a byte leads to another one
  pub record Lagging (sets : List (ℕ × List ℕ)) (ends : List Bool) (i at row : ℕ) (longest : Option ℕ) : Type 0 where
    pub real : Option ℕ
    pub runs : Running sets i at row real
    pub agrees : (IsTrue (get_or ends row false) → ⊥) → real ≡ longest

  pub lagging_from : (sets : List (ℕ × List ℕ)) (ends : List Bool) (i at row : ℕ) (longest : Option ℕ) → Running sets i at row longest → Lagging sets ends i at row longest
  lagging_from sets ends i at row longest r = record { real = longest; runs = r; agrees = λ _. refl }

  pub lagging_stay : (t : Table) (is : IsTable code t) (i at row b : ℕ) (longest : Option ℕ) → i ≤ at → at < length s → b ≡ get_or s at 0 → b < 256 → row ≡ get_or t.next.items (row * 256 + b) 0
      → Lagging is.sets t.ends.items i at row longest → Lagging is.sets t.ends.items i (at + 1) row longest
  lagging_stay t is i at row b longest le lt eb lb e l = elim (cases_Bool (get_or t.ends.items row false)) [
    | inl end ↦ record { real = Some at; runs = running_step t is i at row b row l.real (Some at) le lt eb lb e (inl (end, refl)) l.runs; agrees = λ no. absurd (no end) }
    | inr ne ↦ record { real = l.real; runs = running_on t is i at row b row l.real le lt eb lb e ne l.runs; agrees = l.agrees }
  ]

  pub lagging_leave : (t : Table) (is : IsTable code t) (i at row b row' : ℕ) (longest result : Option ℕ) (ends : Bool) → i ≤ at → at < length s → b ≡ get_or s at 0 → b < 256 → row' ≡ get_or t.next.items (row * 256 + b) 0 → get_or t.ends.items row false ≡ ends
      → (IsTrue ends × (result ≡ Some at)) ⊎ ((IsTrue ends → ⊥) × (result ≡ longest)) → Lagging is.sets t.ends.items i at row longest → Running is.sets i (at + 1) row' result
  lagging_leave t is i at row b row' longest result ends le lt eb lb e ee c l =
      running_step t is i at row b row' l.real result le lt eb lb e (elim c [ inl h ↦ inl (ee ∙ h.0, h.1) | inr h ↦ let no : IsTrue (get_or t.ends.items row false) → ⊥ = λ x. h.0 (sym ee ∙ x) in inr (no, h.1 ∙ sym (l.agrees no)) ]) l.runs

  pub lagging_end : (t : Table) (is : IsTable code t) (i at row : ℕ) (longest result : Option ℕ) (ends : Bool) → i ≤ at → 0 < at → at ≡ length s → get_or t.last_ends.items row false ≡ ends
      → (IsTrue ends × (result ≡ Some at)) ⊎ ((IsTrue ends → ⊥) × (result ≡ longest)) → Lagging is.sets t.ends.items i at row longest → IsFarthest code true s i result
  lagging_end t is i at row longest result ends le pos e ee c l =
      running_end is.sets i at row l.real result ends (subst (EndsLast code (members is.sets row)) ee (is.last row l.runs.within)) le pos e l.runs
      (elim c [ inl h ↦ inl h | inr h ↦ inr (h.0, h.1 ∙ sym (l.agrees (λ x. h.0 (sym ee ∙ ends_also_last t is row l.runs.within x)))) ])

  -- the same over bytes of which each leads to the row
  pub lagging_stays : (t : Table) (is : IsTable code t) (i row : ℕ) (longest : Option ℕ) → AllLeadTo t.next.items row row → ((k : ℕ) → get_or s k 0 < 256) → (n at : ℕ) → i ≤ at → at + n ≤ length s
      → Lagging is.sets t.ends.items i at row longest → Lagging is.sets t.ends.items i (at + n) row longest
  lagging_stays t is i row longest stays fits zero at le within l = subst (λ (k : ℕ). Lagging is.sets t.ends.items i k row longest) (omega arith) l
  lagging_stays t is i row longest stays fits (suc n) at le within l =
      let b = get_or s at 0 in
      subst (λ (k : ℕ). Lagging is.sets t.ends.items i k row longest) (omega arith)
      (lagging_stays t is i row longest stays fits n (at + 1) (omega (arith, le)) (omega (arith, within)) (lagging_stay t is i at row b longest le (omega (arith, within)) refl (fits at) (sym (stays b (fits at))) l))

  -- an end at a row is one of a way, also at the end of the text
  pub running_mark : (t : Table) (is : IsTable code t) (i at row : ℕ) (longest : Option ℕ) → i ≤ at → at ≤ length s → 0 < length s → get_or t.ends.items row false ≡ true → Running is.sets i at row longest → (n : ℕ) × Path code true s n 0 i (length code) at
  running_mark t is i at row longest le within some end r = elim (cases_lt at (length s)) [
    | inl more ↦ running_way is.sets i at row longest more ((is.ends_are row r.within).0 end) r
    | inr last ↦ running_way_last is.sets i at row longest (get_or t.last_ends.items row false) (is.last row r.within) le (omega (arith, last, some)) (omega (arith, last, within)) (ends_also_last t is row r.within end) r
  ]

  -- the next row is the same one, or one where no way ends
  pub unmarked_next : (t : Table) (row to row' : ℕ) → get_or t.ends.items row false ≡ false → ((row' ≡ to) × (get_or t.ends.items to false ≡ false)) ⊎ ((row' ≡ row) × (to ≡ row)) → (row' ≡ to) × (get_or t.ends.items row' false ≡ false)
  unmarked_next t row to row' ne (inl h) = (h.0, ap (λ x. get_or t.ends.items x false) h.0 ∙ h.1)
  unmarked_next t row to row' ne (inr h) = (h.0 ∙ sym h.1, ap (λ x. get_or t.ends.items x false) h.0 ∙ ne)

  -- a way of one byte is the longest, where no byte leads on from its end
  pub single_farthest : (t : Table) (is : IsTable code t) (at b to : ℕ) → IsLater t at → at < length s → b ≡ get_or s at 0 → b < 256 → ((k : ℕ) → get_or s k 0 < 256) → to ≡ get_or t.next.items (t.later * 256 + b) 0
      → get_or t.ends.items t.later false ≡ false → get_or t.ends.items to false ≡ true → AllLeadTo t.next.items t.dead to → IsFarthest code true s at (Some (at + 1))
  single_farthest t is at b to pos lt eb lb fits e ne ends last =
      let r0 = running_later t is at pos in
      let r1 = running_on t is at at t.later b to None (omega arith) lt eb lb e ne r0 in
      elim (cases_lt (at + 1) (length s)) [
        | inr end ↦
            running_end is.sets at (at + 1) to None (Some (at + 1)) (get_or t.last_ends.items to false) (is.last to r1.within) (omega arith) (omega arith) (omega (arith, end, lt)) r1
            (inl (ends_also_last t is to r1.within ends, refl))
        | inl more ↦
            let r2 = running_step t is at (at + 1) to (get_or s (at + 1) 0) t.dead None (Some (at + 1)) (omega arith) more refl (fits (at + 1)) (sym (last (get_or s (at + 1) 0) (fits (at + 1)))) (inl (ends, refl)) r1 in
            farthest_dead t is at (at + 1 + 1) (Some (at + 1)) (omega arith) (omega (arith, more)) r2
      ]

  -- no way begins with the byte at the place
  pub begins_not : (t : Table) (is : IsTable code t) (at b : ℕ) → IsLater t at → at < length s → b ≡ get_or s at 0 → b < 256 → get_or t.ends.items t.later false ≡ false → get_or t.next.items (t.later * 256 + b) 0 ≡ t.dead
      → (j : ℕ) → (n : ℕ) × Path code true s n 0 at (length code) j → ⊥
  begins_not t is at b pos lt eb lb ne nd j w =
      let r0 = running_later t is at pos in
      let r1 = running_on t is at at t.later b t.dead None (omega arith) lt eb lb (sym nd) ne r0 in
      farthest_dead t is at (at + 1) None (omega arith) (omega (arith, lt)) r1 j w.0 w.1

  -- the longest way of those that are one byte long
  pub single_is : (t : Table) (is : IsTable code t) (at to : ℕ) → 0 < at → at < length s → ((k : ℕ) → get_or s k 0 < 256) → t.begins.is_single ≡ true → to ≡ get_or t.next.items (t.later * 256 + get_or s at 0) 0
      → ((to ≡ t.dead) → IsFarthest code true s at None) × ((to ≡ t.dead → ⊥) → IsFarthest code true s at (Some (at + 1)))
  single_is t is at to pos lt fits single e =
      let one = is.begin_with.one single in
      let b = get_or s at 0 in (
        λ d. λ j n p. begins_not t is at b (inl pos) lt refl (fits at) one.begin (sym e ∙ d) j (n, p),
        λ nd. elim (one.each b (fits at)) as (λ _. IsFarthest code true s at (Some (at + 1))) [
          | inl d ↦ absurd (nd (e ∙ d))
          | inr h ↦ single_farthest t is at b to (inl pos) lt refl (fits at) fits e one.begin (ap (λ x. get_or t.ends.items x false) e ∙ h.0) (subst (AllLeadTo t.next.items t.dead) (sym e) h.1)
        ],
      )

  -- nor with that and the next one
  begins_not_pair : (t : Table) (is : IsTable code t) (at a b : ℕ) → IsLater t at → at + 1 < length s → a ≡ get_or s at 0 → a < 256 → b ≡ get_or s (at + 1) 0 → b < 256 → get_or t.ends.items t.later false ≡ false
      → get_or t.ends.items (get_or t.next.items (t.later * 256 + a) 0) false ≡ false → get_or t.next.items (get_or t.next.items (t.later * 256 + a) 0 * 256 + b) 0 ≡ t.dead
      → (j : ℕ) → (n : ℕ) × Path code true s n 0 at (length code) j → ⊥
  begins_not_pair t is at a b pos lt ea la eb lb ne ne' nd j w =
      let row = get_or t.next.items (t.later * 256 + a) 0 in
      let r0 = running_later t is at pos in
      let r1 = running_on t is at at t.later a row None (omega arith) (omega (arith, lt)) ea la refl ne r0 in
      let r2 = running_on t is at (at + 1) row b t.dead None (omega arith) lt eb lb (sym nd) ne' r1 in
      farthest_dead t is at (at + 1 + 1) None (omega arith) (omega (arith, lt)) r2 j w.0 w.1

  -- nor at a place that is passed over
  begins_not_here : (t : Table) (is : IsTable code t) (at : ℕ) → IsLater t at → at < length s → ((k : ℕ) → get_or s k 0 < 256) → get_or t.ends.items t.later false ≡ false → IsPassedOver t.begins s at
      → (j : ℕ) → (n : ℕ) × Path code true s n 0 at (length code) j → ⊥
  begins_not_here t is at pos lt fits ne (inl e) j w = begins_not t is at (get_or s at 0) pos lt refl (fits at) ne (is.begin_with.empty e (get_or s at 0) (fits at)) j w
  begins_not_here t is at pos lt fits ne (inr (inl z)) j w = begins_not t is at (get_or s at 0) pos lt refl (fits at) ne (is.begin_with.single (get_or s at 0) (fits at) z) j w
  begins_not_here t is at pos lt fits ne (inr (inr z)) j w = elim (is.begin_with.pair (get_or s at 0) (get_or s (at + 1) 0) (fits at) (fits (at + 1)) z.1) [
    | inl d ↦ begins_not t is at (get_or s at 0) pos lt refl (fits at) ne d j w
    | inr d ↦ begins_not_pair t is at (get_or s at 0) (get_or s (at + 1) 0) pos z.0 refl (fits at) refl (fits (at + 1)) ne d.0 d.1 j w
  ]

  pub begins_none_seek : (t : Table) (is : IsTable code t) (from upto : ℕ) → IsLater t from → upto ≤ length s → ((k : ℕ) → get_or s k 0 < 256) → get_or t.ends.items t.later false ≡ false → ((k : ℕ) → from ≤ k → k < upto → IsPassedOver t.begins s k) → BeginsNone code s from upto
  begins_none_seek t is from upto pos le fits ne h = λ i j low lt w. begins_not_here t is i (later_on t from i low pos) (omega (arith, lt, le)) fits ne (h i low lt) j w

  -- what the filter tells of 32 places
  pub knows_told : (t : Table) (is : IsTable code t) (b : Block) → ((k : ℕ) → get_or s k 0 < 256) → get_or t.ends.items t.later false ≡ false → Tells t.begins s b → Knows code s b
  knows_told t is b fits ne told = record {
    within = λ k h. let o = told.only k h in (o.0, omega (arith, o.0, told.long));
    none = λ i j pos low high end zero w.
        let here : b.start + (i - b.start) ≡ i = omega (arith, low) in
        let none = elim (cases_eq (pair_marks t.begins (get_or s (b.start + (i - b.start)) 0) (get_or s (b.start + (i - b.start) + 1) 0)) 0) as (λ _. pair_marks t.begins (get_or s (b.start + (i - b.start)) 0) (get_or s (b.start + (i - b.start) + 1) 0) ≡ 0) [
          | inl e ↦ e
          | inr n ↦ absurd (omega (arith, zero, told.set (i - b.start) (omega (arith, low, high)) n))
        ] in
        begins_not_here t is i (inl pos) end fits ne (inr (inr (omega (arith, high, told.long), subst (λ x. pair_marks t.begins (get_or s x 0) (get_or s (x + 1) 0) ≡ 0) here none))) j w;
  }

  pub knows_still : (t : Table) (is : IsTable code t) (old new : Block) → ((k : ℕ) → get_or s k 0 < 256) → get_or t.ends.items t.later false ≡ false → (new ≡ old) ⊎ Tells t.begins s new → Knows code s old → Knows code s new
  knows_still t is old new fits ne (inl e) h = subst (Knows code s) (sym e) h
  knows_still t is old new fits ne (inr told) h = knows_told t is new fits ne told

  -- the next place that a block tells of
  pub begins_none_next : (b : Block) (from at : ℕ) → 0 < from → Knows code s b → IsNextMarked b from at → BeginsNone code s from at
  begins_none_next b from at pos h n =
      let there = h.within (at - b.start) n.here in
      let start = n.start in
      let low = n.low in
      λ i j from_i i_at w. h.none i j (omega (arith, pos, from_i)) (omega (arith, start, from_i)) (omega (arith, there, start, low, i_at)) (omega (arith, there, start, low, i_at)) (n.before i from_i i_at) w

  -- the places that a block tells of where no bit is set
  pub begins_none_unmarked : (b : Block) (from at : ℕ) → 0 < from → at ≤ length s → Knows code s b → ((k : ℕ) → from ≤ k → k < at → IsUnmarked b k) → BeginsNone code s from at
  begins_none_unmarked b from at pos le h n = λ i j from_i i_at w. let u = n i from_i i_at in h.none i j (omega (arith, pos, from_i)) u.0 u.1 (omega (arith, i_at, le)) u.2 w

  -- nor where each byte leads to the row without states
  pub begins_none_dead : (t : Table) (is : IsTable code t) (from first upto : ℕ) → IsLater t from → upto ≤ length s → ((k : ℕ) → get_or s k 0 < 256) → get_or t.ends.items t.later false ≡ false
      → ((k : ℕ) → first ≤ k → k < upto → get_or t.next.items (t.later * 256 + get_or s k 0) 0 ≡ t.dead) → BeginsNone code s from first → BeginsNone code s from upto
  begins_none_dead t is from first upto pos end fits ne dead n = λ i j low lt w. elim (cases_lt i first) [
    | inl before ↦ n i j low before w
    | inr ge ↦ begins_not t is i (get_or s i 0) (later_on t from i low pos) (omega (arith, lt, end)) refl (fits i) ne (dead i ge lt) j w
  ]

-- ways of the wide code
module _ (code : List Instruction) (s : List ℕ) (w : Widens code s) where
  pub wide_found : (p j : ℕ) → p ≤ length s → (n : ℕ) × Path (wide_code code) true s n 0 p (length (wide_code code)) j → EndsFrom code s p (length s) (Some j)
  wide_found p j le h = w.narrow p j h.0 le h.1

  pub wide_none : (p : ℕ) → IsFarthest (wide_code code) true s p None → EndsFrom code s p (length s) None
  wide_none p f = λ b. let h = w.wide p b.0 b.1 b.2 b.3 b.4 in f b.1 h.0 h.1
