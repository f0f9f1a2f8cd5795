-- The walk from byte to byte keeps the states that are reached.
use Rattle.std.proofs.Common.{◌≡◌, ℕ, zero, suc, ◌+◌, ◌<◌, ◌≤◌, ◌⊎◌, inl, inr, min, Bool, false, true≢false, List, [], length, get_or, Option, Some, None, refl, sym, ap, ◌∙◌, subst, arith, length-append, true}
use Rattle.std.specs.Prelude.{◌↔◌, IsTrue, Contains, slice_get}
use Rattle.std.proofs.Math.ListN.{get_or-append}
use Rattle.std.proofs.lemmas.Bool.{cases_eq, cases_lt}
use Rattle.std.proofs.lemmas.List.{get_or_default, append-nil}
use Rattle.std.proofs.lemmas.List.Elements.{Contains-get_or, Contains-append_left, Contains-append_cases}
use Rattle.std.proofs.lemmas.Option.{slice_get_within, get_or_from_slice_get, slice_get-get_or}
use Rattle.rawk_ere_tree.specs.declared.code.Instruction.{Instruction}
use Rattle.rawk_ere_tree.specs.declared.code.Instruction.TheVariants.{Bytes, Start, End, Split, Go, Back, Fork}
use Rattle.rawk_ere_tree.specs.Ends.{IsLast}
use Rattle.rawk_ere_tree.specs.Code.{Hops, Takes, Step, Path}
use Rattle.rawk_ere_tree.specs.StateSets.{Adds}
use Rattle.rawk_ere_walks.specs.Sets.{HopsFrom, HopsBy, TakesFrom, Closes, AdvancesBy, AreReached, IsFarthestBefore, IsFarthest, AsksAt, AsksIn, WantsFrom, HasReached}
use Rattle.rawk_ere_walks.specs.Ways.{EndsFrom, MayBy}
use Rattle.rawk_ere_tree.specs.SetLemmas.{Contains-none}

pub get_or_of : (s : List ℕ) (k b : ℕ) → slice_get s k ≡ Some b → get_or s k 0 ≡ b
get_or_of s k b h = get_or_from_slice_get s k b 0 h

pub slice_get_is : (s : List ℕ) (k b : ℕ) → k < length s → b ≡ get_or s k 0 → slice_get s k ≡ Some b
slice_get_is s k b lt e = slice_get-get_or s k 0 lt ∙ ap Some (sym e)

-- the same conditions in other words
pub hops_where : (F F' L L' : Type 0) → (F → F') → (L → L') → (q : ℕ) (x : Instruction) (r : ℕ) → Hops F L q x r → Hops F' L' q x r
hops_where F F' L L' f l q (Bytes set) r h = h
hops_where F F' L L' f l q Start r h = (f h.0, h.1)
hops_where F F' L L' f l q End r h = (l h.0, h.1)
hops_where F F' L L' f l q (Split d) r h = h
hops_where F F' L L' f l q (Go d) r h = h
hops_where F F' L L' f l q (Back d) r h = h
hops_where F F' L L' f l q (Fork d) r h = h

hops_by_where : (code : List Instruction) (F F' L L' : Type 0) → (F → F') → (L → L') → (n q r : ℕ) → HopsBy code F L n q r → HopsBy code F' L' n q r
hops_by_where code F F' L L' f l zero q r h = h
hops_by_where code F F' L L' f l (suc n) q r h =
    (h.0, (h.1.0, h.1.1, hops_where F F' L L' f l q h.1.0 h.0 h.1.2), hops_by_where code F F' L L' f l n h.0 r h.2)

pub closes_where : (room : ℕ) (code : List Instruction) (F F' L L' : Type 0) (old new : List ℕ) → F ↔ F' → L ↔ L' → Closes room code F L old new → Closes room code F' L' old new
closes_where room code F F' L L' old new f l c = record {
  keeps = c.keeps;
  closed = λ q r h hs lr. c.closed q r h (hs.0, hs.1, hops_where F' F L' L f.1 l.1 q hs.0 r hs.2) lr;
  only = λ r h. let o = c.only r h in (o.0, o.1, (o.2.0, hops_by_where code F F' L L' f.0 l.0 o.2.0 o.0 r o.2.1));
}

module _ (code : List Instruction) (First Last : Type 0) where
  hops_more : (n q r m : ℕ) → HopsBy code First Last n q r → HopsFrom code First Last r m → HopsBy code First Last (suc n) q m
  hops_more zero q r m p h = (m, subst (λ x. HopsFrom code First Last x m) (sym p) h, refl)
  hops_more (suc n) q r m p h = (p.0, p.1, hops_more n p.0 r m p.2 h)

  -- the closing, once the hops of the first `done` are added
  pub record Closing (room : ℕ) (old now : List ℕ) (done : ℕ) : Type 0 where
    pub within : done ≤ length now
    pub keeps : (q : ℕ) → Contains old q → Contains now q
    pub closed : (k r : ℕ) → k < done → HopsFrom code First Last (get_or now k 0) r → r < room → Contains now r
    pub only : (r : ℕ) → Contains now r → (q : ℕ) × Contains old q × ((n : ℕ) × HopsBy code First Last n q r)

  pub closing_start : (room : ℕ) (old : List ℕ) → Closing room old old 0
  closing_start room old = record {
    within = omega arith;
    keeps = λ q h. h;
    closed = λ k r lt. absurd (omega arith);
    only = λ r h. (r, h, (0, refl));
  }

  pub closing_more : (room : ℕ) (old now new : List ℕ) (done q : ℕ) → Closing room old now done → done < length now → q ≡ get_or now done 0 → Adds room now new (HopsFrom code First Last q) → Closing room old new (done + 1)
  closing_more room old now new done q c lt e a =
      let same = λ (k : ℕ) (h : k < length now). ap (λ l. get_or l k 0) a.is ∙ get_or-append now a.more 0 k h in
      let kept = λ (r : ℕ) (h : Contains now r). subst (λ l. Contains l r) (sym a.is) (Contains-append_left now a.more r h) in
      let len : length new ≡ length now + length a.more = ap length a.is ∙ length-append now a.more in
      let has_q : Contains now q = subst (λ x. Contains now x) (sym e) (Contains-get_or now done 0 lt) in
      record {
        within = omega arith;
        keeps = λ x h. kept x (c.keeps x h);
        closed = λ k r h hs lr. elim (cases_eq k done) [
          | inl is ↦
              let at_q : get_or new k 0 ≡ q = ap (λ x. get_or new x 0) is ∙ same done lt ∙ sym e in
              a.has r (subst (λ x. HopsFrom code First Last x r) at_q hs) lr
          | inr ne ↦
              let ne' : k ≡ done → ⊥ = ne in
              let before : k < done = omega (arith, ne') in
              kept r (c.closed k r before (subst (λ x. HopsFrom code First Last x r) (same k (omega (arith, c.within))) hs) lr)
        ];
        only = λ r h. elim (Contains-append_cases now a.more r (subst (λ l. Contains l r) a.is h)) [
          | inl u ↦ c.only r u
          | inr v ↦
              let o = c.only q has_q in
              let hs = a.only r v in
              (o.0, o.1, (suc o.2.0, hops_more o.2.0 o.0 q r o.2.1 hs))
        ];
      }

  pub closing_end : (room : ℕ) (old now : List ℕ) (done : ℕ) → Closing room old now done → length now ≤ done → Closes room code First Last old now
  closing_end room old now done c le = record {
    keeps = c.keeps;
    closed = λ q r h hs lr.
        let e : get_or now h.0 0 ≡ q = get_or_default now h.0 0 q h.1 ∙ h.2 in
        c.closed h.0 r (omega (arith, h.1)) (subst (λ x. HopsFrom code First Last x r) (sym e) hs) lr;
    only = c.only;
  }

module _ (code : List Instruction) where
  -- the reading of a byte, once the first `index` have read it
  pub record Reading (room b : ℕ) (old now : List ℕ) (index : ℕ) : Type 0 where
    pub has : (k : ℕ) → k < index → TakesFrom code (get_or old k 0) b → get_or old k 0 + 1 < room → Contains now (get_or old k 0 + 1)
    pub only : (r : ℕ) → Contains now r → (q : ℕ) × Contains old q × TakesFrom code q b × (r ≡ q + 1)

  pub reading_start : (room b : ℕ) (old : List ℕ) → Reading room b old [] 0
  reading_start room b old = record { has = λ k lt. absurd (omega arith); only = λ r h. absurd (Contains-none r h) }

  pub reading_more : (room b : ℕ) (old now new : List ℕ) (index q : ℕ) → Reading room b old now index → index < length old → q ≡ get_or old index 0 → Adds room now new (λ r. TakesFrom code q b × (r ≡ q + 1)) → Reading room b old new (index + 1)
  reading_more room b old now new index q c lt e a =
      let has_q : Contains old q = subst (λ x. Contains old x) (sym e) (Contains-get_or old index 0 lt) in
      record {
        has = λ k h rd lr. elim (cases_eq k index) [
          | inl is ↦
              let at_q : get_or old k 0 ≡ q = ap (λ x. get_or old x 0) is ∙ sym e in
              a.has (get_or old k 0 + 1) (subst (λ x. TakesFrom code x b) at_q rd, ap (λ x. x + 1) at_q) lr
          | inr ne ↦
              let ne' : k ≡ index → ⊥ = ne in
              subst (λ l. Contains l (get_or old k 0 + 1)) (sym a.is) (Contains-append_left now a.more _ (c.has k (omega (arith, ne')) rd lr))
        ];
        only = λ r h. elim (Contains-append_cases now a.more r (subst (λ l. Contains l r) a.is h)) [
          | inl u ↦ c.only r u
          | inr v ↦ let o = a.only r v in (q, has_q, o.0, o.1)
        ];
      }

  pub reading_end : (room b : ℕ) (old now : List ℕ) (index : ℕ) → Reading room b old now index → length old ≤ index → AdvancesBy room code b old now
  reading_end room b old now index c le = record {
    has = λ q h rd lr.
        let e : get_or old h.0 0 ≡ q = get_or_default old h.0 0 q h.1 ∙ h.2 in
        subst (λ x. Contains now (x + 1)) e (c.has h.0 (omega (arith, h.1)) (subst (λ x. TakesFrom code x b) (sym e) rd) (omega (arith, e)));
    only = c.only;
  }

module _ (code : List Instruction) (closed : Bool) (s : List ℕ) where
  pub path_of_hops : (n q r i : ℕ) → HopsBy code (i ≡ 0) (IsLast closed s i) n q r → Path code closed s n q i r i
  path_of_hops zero q r i h = (h, refl)
  path_of_hops (suc n) q r i h = (h.0, i, (h.1.0, h.1.1, inl (h.1.2, refl)), path_of_hops n h.0 r i h.2)

  pub path_more : (n q i r j r' j' : ℕ) → Path code closed s n q i r j → Step code closed s r j r' j' → Path code closed s (suc n) q i r' j'
  path_more zero q i r j r' j' p st =
      (r', j', subst (λ x. Step code closed s x i r' j') (sym p.0) (subst (λ y. Step code closed s r y r' j') (sym p.1) st), (refl, refl))
  path_more (suc n) q i r j r' j' p st = (p.0, p.1, p.2, path_more n p.0 p.1 r j r' j' p.3 st)

  pub path_last : (n q i f j : ℕ) → Path code closed s (suc n) q i f j → (r : ℕ) × (k : ℕ) × Path code closed s n q i r k × Step code closed s r k f j
  path_last zero q i f j p = (q, i, (refl, refl), subst (λ x. Step code closed s q i x j) p.3.0 (subst (λ y. Step code closed s q i p.0 y) p.3.1 p.2))
  path_last (suc n) q i f j p = let t = path_last n p.0 p.1 f j p.3 in (t.0, t.1, (p.0, p.1, p.2, t.2), t.3)

  pub path_join : (m n q i r j f k : ℕ) → Path code closed s m q i r j → Path code closed s n r j f k → (l : ℕ) × Path code closed s l q i f k
  path_join zero n q i r j f k p t =
      (n, subst (λ x. Path code closed s n x i f k) (sym p.0) (subst (λ y. Path code closed s n r y f k) (sym p.1) t))
  path_join (suc m) n q i r j f k p t = let l = path_join m n p.0 p.1 r j f k p.3 t in (suc l.0, (p.0, p.1, p.2, l.1))

  pub step_up : (q i r j : ℕ) → Step code closed s q i r j → (i ≤ j) × (j ≤ i + 1)
  step_up q i r j st = elim st.2 [ inl h ↦ (omega (arith, h.1), omega (arith, h.1)) | inr h ↦ (omega (arith, h.4), omega (arith, h.4)) ]

  pub path_up : (n q i f j : ℕ) → Path code closed s n q i f j → i ≤ j
  path_up zero q i f j p = omega (arith, p.1)
  path_up (suc n) q i f j p = omega (arith, (step_up q i p.0 p.1 p.2).0, path_up n p.0 p.1 f j p.3)

  pub path_within : (n q i f j : ℕ) → i ≤ length s → Path code closed s n q i f j → j ≤ length s
  path_within zero q i f j le p = omega (arith, p.1)
  path_within (suc n) q i f j le p =
      let mid : p.1 ≤ length s = elim p.2.2 [ inl h ↦ omega (arith, h.1) | inr h ↦ omega (arith, h.4, slice_get_within s i h.0 h.1) ] in
      path_within n p.0 p.1 f j mid p.3

  -- a way to a later place is somewhere at each place between
  pub path_passes : (n q i f j at : ℕ) → f ≤ length code → Path code closed s n q i f j → i ≤ at → at ≤ j → (r : ℕ) × (m : ℕ) × (r ≤ length code) × Path code closed s m q i r at
  path_passes zero q i f j at lf p le ge = (q, 0, omega (arith, p.0), (refl, omega (arith, p.1)))
  path_passes (suc n) q i f j at lf p le ge = elim (cases_eq i at) [
    | inl e ↦ (q, 0, omega (arith, slice_get_within code q p.2.0 p.2.1), (refl, e))
    | inr ne ↦
        let le' : i < at = (let ne' : i ≡ at → ⊥ = ne in omega (arith, ne')) in
        let up = step_up q i p.0 p.1 p.2 in
        let t = path_passes n p.0 p.1 f j at lf p.3 (omega (arith, up.1)) ge in
        (t.0, suc t.1, t.2, (p.0, p.1, p.2, t.3))
  ]

  -- all that is reached at `at` is in a closed set that has what is reached by a byte or at the start
  pub reached_all : (room i at : ℕ) (old new : List ℕ) → room ≡ length code + 1 → Closes room code (at ≡ 0) (IsLast closed s at) old new
      → (i ≡ at → Contains old 0)
      → ((r k n : ℕ) → k + 1 ≡ at → Path code closed s n 0 i r k → TakesFrom code r (get_or s k 0) → r + 1 < room → Contains old (r + 1))
      → (q n : ℕ) → q ≤ length code → Path code closed s n 0 i q at → Contains new q
  reached_all room i at old new e c st rd q zero le p = subst (λ x. Contains new x) p.0 (c.keeps 0 (st p.1))
  reached_all room i at old new e c st rd q (suc n) le p =
      let t = path_last n 0 i q at p in
      let lr = slice_get_within code t.0 t.3.0 t.3.1 in
      elim t.3.2 [
        | inl h ↦
            let at_r = subst (λ x. Path code closed s n 0 i t.0 x) h.1 t.2 in
            let has_r = reached_all room i at old new e c st rd t.0 n (omega (arith, lr)) at_r in
            c.closed t.0 q has_r (t.3.0, t.3.1, subst (λ x. Hops (x ≡ 0) (IsLast closed s x) t.0 t.3.0 q) h.1 h.0) (omega arith)
        | inr h ↦
            let byte : get_or s t.1 0 ≡ h.0 = get_or_of s t.1 h.0 h.1 in
            let has : Contains old (t.0 + 1) = rd t.0 t.1 n h.4 t.2 (t.3.0, t.3.1, subst (λ x. Takes t.3.0 x) (sym byte) h.2) (omega (arith, h.3)) in
            subst (λ x. Contains new x) (sym h.3) (c.keeps (t.0 + 1) has)
      ]

  pub reached_start : (room i : ℕ) (old new : List ℕ) → room ≡ length code + 1 → ((q : ℕ) → Contains old q → q ≡ 0) → Contains old 0 → Closes room code (i ≡ 0) (IsLast closed s i) old new → AreReached code closed s i i new
  reached_start room i old new e only has c = record {
    sound = λ q h. let o = c.only q h in (o.2.0, subst (λ x. Path code closed s o.2.0 x i q i) (only o.0 o.1) (path_of_hops o.2.0 o.0 q i o.2.1));
    all = λ q n le p. reached_all room i i old new e c (λ _. has) (λ r k m ek pk. absurd (omega (arith, path_up m 0 i r k pk))) q n le p;
  }

  pub reached_more : (room i at b : ℕ) (from mid new : List ℕ) → room ≡ length code + 1 → i ≤ at → at < length s → b ≡ get_or s at 0 → AreReached code closed s i at from → AdvancesBy room code b from mid → Closes room code (at + 1 ≡ 0) (IsLast closed s (at + 1)) mid new → AreReached code closed s i (at + 1) new
  reached_more room i at b from mid new e le lt eb r a c = record {
    sound = λ q h.
        let o = c.only q h in
        let m = a.only o.0 o.1 in
        let before = r.sound m.0 m.1 in
        let byte : slice_get s at ≡ Some b = slice_get_is s at b lt eb in
        let there = path_more before.0 0 i m.0 at o.0 (at + 1) before.1 (m.2.0, m.2.1, inr (b, byte, m.2.2, m.3, refl)) in
        path_join (suc before.0) o.2.0 0 i o.0 (at + 1) q (at + 1) there (path_of_hops o.2.0 o.0 q (at + 1) o.2.1);
    all = λ q n lq p. reached_all room i (at + 1) mid new e c (λ x. absurd (omega arith))
        (λ x k m ek pk rd lr.
        let is : k ≡ at = omega arith in
        let lx = slice_get_within code x rd.0 rd.1 in
        a.has x (r.all x m (omega (arith, lx)) (subst (λ y. Path code closed s m 0 i x y) is pk)) (subst (λ y. TakesFrom code x y) (ap (λ y. get_or s y 0) is ∙ sym eb) rd) lr)
        q n lq p;
  }

  pub reached_first : (room i : ℕ) (none one new : List ℕ) → room ≡ length code + 1 → none ≡ [] → Adds room none one (λ r. r ≡ 0) → Closes room code (i ≡ 0) (IsLast closed s i) one new → AreReached code closed s i i new
  reached_first room i none one new e z a c =
      let only = λ (q : ℕ) (h : Contains one q). elim (Contains-append_cases none a.more q (subst (λ l. Contains l q) a.is h)) as (λ _. q ≡ 0) [
        | inl u ↦ absurd (Contains-none q (subst (λ l. Contains l q) z u))
        | inr v ↦ a.only q v
      ] in
      reached_start room i one new e only (a.has 0 refl (omega arith)) c

  -- what the walk keeps
  pub record Walking (i at : ℕ) (now next : ℕ × List ℕ) (longest : Option ℕ) : Type 0 where
    pub now_room : now.0 ≡ length code + 1
    pub next_room : next.0 ≡ length code + 1
    pub reached : AreReached code closed s i at now.1
    pub before : IsFarthestBefore code closed s i at longest

  pub none_before : (i : ℕ) → IsFarthestBefore code closed s i i None
  none_before i = λ j n lt p. omega (arith, path_up n 0 i (length code) j p)

  missed : (i at : ℕ) (states : List ℕ) (longest : Option ℕ) → AreReached code closed s i at states → (Contains states (length code) → ⊥) → IsFarthestBefore code closed s i at longest → IsFarthestBefore code closed s i (at + 1) longest
  missed i at states None r not f = λ j n lt p. elim (cases_eq j at) [
    | inl e ↦ not (r.all (length code) n (omega arith) (subst (λ x. Path code closed s n 0 i (length code) x) e p))
    | inr ne ↦ let ne' : j ≡ at → ⊥ = ne in f j n (omega (arith, ne')) p
  ]
  missed i at states (Some l) r not f = (
    f.0,
    λ j n lt p. elim (cases_eq j at) [
      | inl e ↦ absurd (not (r.all (length code) n (omega arith) (subst (λ x. Path code closed s n 0 i (length code) x) e p)))
      | inr ne ↦ let ne' : j ≡ at → ⊥ = ne in f.1 j n (omega (arith, ne')) p
    ],
  )

  pub noted_is : (i at : ℕ) (states : List ℕ) (longest result : Option ℕ) → AreReached code closed s i at states → (Contains states (length code) × (result ≡ Some at)) ⊎ ((Contains states (length code) → ⊥) × (result ≡ longest)) → IsFarthestBefore code closed s i at longest → IsFarthestBefore code closed s i (at + 1) result
  noted_is i at states longest result r (inl h) f =
      subst (λ x. IsFarthestBefore code closed s i (at + 1) x) (sym h.1) (r.sound (length code) h.0, λ j n lt p. omega arith)
  noted_is i at states longest result r (inr h) f =
      subst (λ x. IsFarthestBefore code closed s i (at + 1) x) (sym h.1) (missed i at states longest r h.0 f)

  pub farthest_stop : (i at : ℕ) (states : List ℕ) (longest : Option ℕ) → i ≤ at → length states ≡ 0 → AreReached code closed s i at states → IsFarthestBefore code closed s i at longest → IsFarthest code closed s i longest
  farthest_stop i at states None le z r f = λ j n p. elim (cases_lt j at) [
    | inl lt ↦ f j n lt p
    | inr ge ↦ let t = path_passes n 0 i (length code) j at (omega arith) p le ge in let h = r.all t.0 t.1 t.2 t.3 in omega (arith, h.1)
  ]
  farthest_stop i at states (Some l) le z r f = (
    f.0,
    λ j n p. elim (cases_lt j at) [
      | inl lt ↦ f.1 j n lt p
      | inr ge ↦ let t = path_passes n 0 i (length code) j at (omega arith) p le ge in let h = r.all t.0 t.1 t.2 t.3 in absurd (omega (arith, h.1))
    ],
  )

  pub farthest_end : (i at : ℕ) (longest : Option ℕ) → i ≤ length s → length s < at → IsFarthestBefore code closed s i at longest → IsFarthest code closed s i longest
  farthest_end i at None le lt f = λ j n p. f j n (omega (arith, path_within n 0 i (length code) j le p)) p
  farthest_end i at (Some l) le lt f = (f.0, λ j n p. f.1 j n (omega (arith, path_within n 0 i (length code) j le p)) p)

  -- no way that asks is left
  pub wants_none : (i at : ℕ) (states : List ℕ) → i ≤ at → at ≤ length s → length states ≡ 0 → AreReached code closed s i at states → IsTrue false ↔ WantsFrom code closed s i
  wants_none i at states le lt z r = (
    λ h. absurd (true≢false (sym h)),
    λ w.
        let within = slice_get_within code w.0 w.3.0 w.3.1 in
        let t = path_passes w.1 0 i w.0 (length s) at (omega (arith, within)) w.2 le lt in
        let h = r.all t.0 t.1 t.2 t.3 in absurd (omega (arith, h.1)),
  )

  -- the states at the end of the text tell whether a way asks
  pub wants_in : (i : ℕ) (states : List ℕ) (asks : Bool) → AreReached code closed s i (length s) states → IsTrue asks ↔ AsksIn code states → IsTrue asks ↔ WantsFrom code closed s i
  wants_in i states asks r e = (
    λ h. let a = e.0 h in let p = r.sound a.0 a.1 in (a.0, p.0, p.1, a.2),
    λ w. let within = slice_get_within code w.0 w.3.0 w.3.1 in e.1 (w.0, r.all w.0 w.1 (omega (arith, within)) w.2, w.3),
  )

-- none of the states asks
pub asks_none : (code : List Instruction) (states : List ℕ) (index : ℕ) → length states ≤ index → ((k : ℕ) → k < index → AsksAt code (get_or states k 0) → ⊥) → IsTrue false ↔ AsksIn code states
asks_none code states index le n = (
  λ h. absurd (true≢false (sym h)),
  λ a.
      let e : get_or states a.1.0 0 ≡ a.0 = get_or_default states a.1.0 0 a.0 a.1.1 ∙ a.1.2 in
      absurd (n a.1.0 (omega (arith, a.1.1)) (subst (λ q. AsksAt code q) (sym e) a.2)),
)

module _ (code : List Instruction) (closed : Bool) (s : List ℕ) where
  pub all_start : (i upto : ℕ) (states : List ℕ) → i ≤ upto → AreReached code closed s i i states → HasReached code closed s i upto i states
  all_start i upto states up r = record {
    sound = λ q h. let p = r.sound q h in (i, p.0, omega arith, up, p.1);
    all = λ k q n le kup upat lq p. let e : k ≡ i = omega arith in r.all q n lq (subst (λ x. Path code closed s n 0 x q i) e p);
  }

  pub all_more : (room room' from upto at b : ℕ) (Begin : Type 0) (old mid one new : List ℕ) → room ≡ length code + 1 → room' ≡ room → at < length s → from ≤ at → b ≡ get_or s at 0 → Begin ↔ (at < upto) → HasReached code closed s from upto at old
      → AdvancesBy room code b old mid → Adds room mid one (λ r. Begin × (r ≡ 0)) → Closes room' code (at + 1 ≡ 0) (IsLast closed s (at + 1)) one new → HasReached code closed s from upto (at + 1) new
  all_more room room' from upto at b Begin old mid one new e er lt begun eb bg h a d c = record {
    sound = λ q hq.
        let o = c.only q hq in
        let hops = path_of_hops code closed s o.2.0 o.0 q (at + 1) o.2.1 in
        elim (Contains-append_cases mid d.more o.0 (subst (λ l. Contains l o.0) d.is o.1)) as (λ _. (i : ℕ) × (n : ℕ) × (from ≤ i) × (i ≤ upto) × Path code closed s n 0 i q (at + 1)) [
          | inl u ↦
              let m = a.only o.0 u in
              let before = h.sound m.0 m.1 in
              let byte : slice_get s at ≡ Some b = slice_get_is s at b lt eb in
              let there = path_more code closed s before.1 0 before.0 m.0 at o.0 (at + 1) before.4 (m.2.0, m.2.1, inr (b, byte, m.2.2, m.3, refl)) in
              let whole = path_join code closed s (suc before.1) o.2.0 0 before.0 o.0 (at + 1) q (at + 1) there hops in
              (before.0, whole.0, before.2, before.3, whole.1)
          | inr v ↦
              let z = d.only o.0 v in
              let up : at < upto = bg.0 z.0 in
              (at + 1, o.2.0, omega arith, omega arith, subst (λ x. Path code closed s o.2.0 x (at + 1) q (at + 1)) z.1 hops)
        ];
    all = λ i q n le up upat lq p.
        reached_all code closed s room' i (at + 1) one new (er ∙ e) c (λ is. (let lu : at < upto = omega arith in d.has 0 (bg.1 lu, refl) (omega arith)))
        (λ r k m ek pk rd lr.
        let is : k ≡ at = omega arith in
        let lx = slice_get_within code r rd.0 rd.1 in
        let begin_up = path_up code closed s m 0 i r k pk in
        let has_r = h.all i r m le up (omega (arith, begin_up, is)) (omega (arith, lx)) (subst (λ y. Path code closed s m 0 i r y) is pk) in
        let byte = subst (λ y. TakesFrom code r y) (ap (λ y. get_or s y 0) is ∙ sym eb) rd in
        subst (λ l. Contains l (r + 1)) (sym d.is) (Contains-append_left mid d.more (r + 1) (a.has r has_r byte (omega arith))))
        q n lq p;
  }

  -- of the ways that have begun before
  pub reached_begun : (from upto at : ℕ) (states : List ℕ) → HasReached code closed s from upto at states → HasReached code closed s from (min upto at) at states
  reached_begun from upto at states h = record {
    sound = λ q hq. let p = h.sound q hq in (p.0, p.1, p.2, omega (arith, p.3, path_up code closed s p.1 0 p.0 q at p.4), p.4);
    all = λ i q n le up upat lq p. h.all i q n le (omega (arith, up)) upat lq p;
  }

  none_added : (room : ℕ) (mid : List ℕ) → Adds room mid mid (λ r. ⊥ × (r ≡ 0))
  none_added room mid = record { more = []; is = sym (append-nil mid); only = λ r h. absurd (Contains-none r h); has = λ r h. absurd h.0 }

  pub begun_more : (room room' from upto at b : ℕ) (old mid new : List ℕ) → room ≡ length code + 1 → room' ≡ room → at < length s → from ≤ at → b ≡ get_or s at 0 → HasReached code closed s from upto at old
      → AdvancesBy room code b old mid → Closes room' code (at + 1 ≡ 0) (IsLast closed s (at + 1)) mid new → HasReached code closed s from (min upto at) (at + 1) new
  begun_more room room' from upto at b old mid new e er lt begun eb h a c =
      all_more room room' from (min upto at) at b ⊥ old mid mid new e er lt begun eb (λ x. absurd x, λ x. omega (arith, x)) (reached_begun from upto at old h) a (none_added room mid) c

  -- and of one that begins at the place
  pub begin_more : (room room' from upto at : ℕ) (Begin : Type 0) (old one new : List ℕ) → room ≡ length code + 1 → room' ≡ room → from ≤ at → Begin ↔ (at < upto) → HasReached code closed s from (min upto at) (at + 1) old
      → Adds room old one (λ r. Begin × (r ≡ 0)) → Closes room' code (at + 1 ≡ 0) (IsLast closed s (at + 1)) one new → HasReached code closed s from upto (at + 1) new
  begin_more room room' from upto at Begin old one new e er begun bg h d c = record {
    sound = λ q hq.
        let o = c.only q hq in
        let hops = path_of_hops code closed s o.2.0 o.0 q (at + 1) o.2.1 in
        elim (Contains-append_cases old d.more o.0 (subst (λ l. Contains l o.0) d.is o.1)) as (λ _. (i : ℕ) × (n : ℕ) × (from ≤ i) × (i ≤ upto) × Path code closed s n 0 i q (at + 1)) [
          | inl u ↦
              let p = h.sound o.0 u in
              let whole = path_join code closed s p.1 o.2.0 0 p.0 o.0 (at + 1) q (at + 1) p.4 hops in
              (p.0, whole.0, p.2, omega (arith, p.3), whole.1)
          | inr v ↦
              let z = d.only o.0 v in
              let up : at < upto = bg.0 z.0 in
              (at + 1, o.2.0, omega (arith, begun), omega (arith, up), subst (λ x. Path code closed s o.2.0 x (at + 1) q (at + 1)) z.1 hops)
        ];
    all = λ i q n le up upat lq p. elim (cases_eq i (at + 1)) [
      | inl is ↦
          let has0 : Contains one 0 = (let lu : at < upto = omega (arith, is, up) in d.has 0 (bg.1 lu, refl) (omega (arith, e))) in
          reached_all code closed s room' i (at + 1) one new (er ∙ e) c (λ _. has0) (λ r k m ek pk rd lr. absurd (omega (arith, ek, is, path_up code closed s m 0 i r k pk))) q n lq p
      | inr other ↦
          let o : i ≡ at + 1 → ⊥ = other in
          c.keeps q (subst (λ l. Contains l q) (sym d.is) (Contains-append_left old d.more q (h.all i q n le (omega (arith, o, upat, up)) upat lq p)))
    ];
  }

module _ (code : List Instruction) (s : List ℕ) where
  -- no way begun from here on, up to there, has ended before the place
  abbrev pub NoneEnded : ℕ → ℕ → ℕ → Type 0
  NoneEnded from upto at = (i j n : ℕ) → from ≤ i → i ≤ upto → j < at → Path code true s n 0 i (length code) j → ⊥

  pub none_ended : (from upto : ℕ) → NoneEnded from upto from
  none_ended from upto = λ i j n le up lt p. omega (arith, path_up code true s n 0 i (length code) j p)

  pub none_ended_more : (from upto at : ℕ) (states : List ℕ) → HasReached code true s from upto at states → (Contains states (length code) → ⊥) → NoneEnded from upto at → NoneEnded from upto (at + 1)
  none_ended_more from upto at states h not f = λ i j n le up lt p. elim (cases_eq j at) [
    | inl e ↦ (let pu = path_up code true s n 0 i (length code) j p in not (h.all i (length code) n le up (omega (arith, pu, e)) (omega arith) (subst (λ x. Path code true s n 0 i (length code) x) e p)))
    | inr ne ↦ (let ne' : j ≡ at → ⊥ = ne in f i j n le up (omega (arith, ne')) p)
  ]

  pub no_way : (from upto at : ℕ) → length s < at → upto ≤ length s → NoneEnded from upto at → EndsFrom code s from upto None
  no_way from upto at lt end f = λ w. f w.0 w.1 w.4.0 w.2 w.3 (omega (arith, path_within code true s w.4.0 0 w.0 (length code) w.1 (omega (arith, w.3)) w.4.1)) w.4.1

  -- no way is left
  pub no_way_left : (from upto at : ℕ) (states : List ℕ) → upto ≤ at → length states ≡ 0 → HasReached code true s from upto at states → NoneEnded from upto at → EndsFrom code s from upto None
  no_way_left from upto at states past z h f = λ w. elim (cases_lt w.1 at) [
    | inl lt ↦ f w.0 w.1 w.4.0 w.2 w.3 lt w.4.1
    | inr ge ↦
        let begun : w.0 ≤ at = omega (arith, w.3) in
        let t = path_passes code true s w.4.0 0 w.0 (length code) w.1 at (omega arith) w.4.1 begun ge in
        let x = h.all w.0 t.0 t.1 w.2 w.3 begun t.2 t.3 in
        omega (arith, x.1)
  ]

  -- one has ended
  pub way_found : (from upto at : ℕ) (states : List ℕ) → HasReached code true s from upto at states → Contains states (length code) → EndsFrom code s from upto (Some at)
  way_found from upto at states h c = let p = h.sound (length code) c in (p.0, p.2, p.3, (p.1, p.4))

  -- no way that reads a byte, begun from here on, up to there, has ended by the place
  abbrev pub NoneRead : ℕ → ℕ → ℕ → Type 0
  NoneRead from upto at = (i j n : ℕ) → from ≤ i → i ≤ upto → i < j → j ≤ at → Path code false s n 0 i (length code) j → ⊥

  pub none_read : (from upto : ℕ) → NoneRead from upto from
  none_read from upto = λ i j n le up lt la p. omega (arith, le, lt, la)

  pub none_read_more : (from upto at : ℕ) (states : List ℕ) → HasReached code false s from (min upto at) (at + 1) states → (Contains states (length code) → ⊥) → NoneRead from upto at → NoneRead from upto (at + 1)
  none_read_more from upto at states h not f = λ i j n le up lt la p. elim (cases_eq j (at + 1)) [
    | inl e ↦ not (h.all i (length code) n le (omega (arith, e, lt, up)) (omega (arith, e, lt)) (omega arith) (subst (λ x. Path code false s n 0 i (length code) x) e p))
    | inr ne ↦ (let ne' : j ≡ at + 1 → ⊥ = ne in f i j n le up lt (omega (arith, ne', la)) p)
  ]

  -- one that has ended
  pub may_found : (from upto at : ℕ) (states : List ℕ) (by : ℕ) → by ≡ min upto at → from ≤ upto → from ≤ at → HasReached code false s from (min upto at) (at + 1) states → Contains states (length code) → MayBy code s from upto (Some by)
  may_found from upto at states by e lu la h c =
      let p = h.sound (length code) c in
      (omega (arith, e, lu, la), omega (arith, e), (p.0, p.2, omega (arith, e, p.3), inr (at + 1, omega (arith, p.3), (p.1, p.4))))

  -- no way is left
  pub may_stop : (from upto at : ℕ) (states : List ℕ) → upto < at → at ≤ length s → length states ≡ 0 → HasReached code false s from upto at states → NoneRead from upto at → MayBy code s from upto None
  may_stop from upto at states past le z h f = λ m. elim m.3 as (λ _. ⊥) [
    | inl w ↦
        let within = slice_get_within code w.0 w.3.0 w.3.1 in
        let t = path_passes code false s w.1 0 m.0 w.0 (length s) at (omega (arith, within)) w.2 (omega (arith, m.2, past)) le in
        let x = h.all m.0 t.0 t.1 m.1 m.2 (omega (arith, m.2, past)) t.2 t.3 in omega (arith, x.1, z)
    | inr r ↦ elim (cases_lt at r.0) as (λ _. ⊥) [
      | inl after ↦
          let t = path_passes code false s r.2.0 0 m.0 (length code) r.0 at (omega arith) r.2.1 (omega (arith, m.2, past)) (omega (arith, after)) in
          let x = h.all m.0 t.0 t.1 m.1 m.2 (omega (arith, m.2, past)) t.2 t.3 in omega (arith, x.1, z)
      | inr upto' ↦ f m.0 r.0 r.2.0 m.1 m.2 r.1 upto' r.2.1
    ]
  ]

  -- what the states at the end of the text tell
  pub may_end : (from upto : ℕ) (states : List ℕ) (asks : Bool) → from ≤ upto → upto < length s → IsTrue asks ↔ AsksIn code states → IsTrue asks → HasReached code false s from upto (length s) states → MayBy code s from upto (Some upto)
  may_end from upto states asks le lt e a h =
      let x = e.0 a in
      let p = h.sound x.0 x.1 in
      (le, omega arith, (p.0, p.2, p.3, inl (x.0, p.1, p.4, x.2)))

  pub may_end_none : (from upto : ℕ) (states : List ℕ) (asks : Bool) → upto < length s → IsTrue asks ↔ AsksIn code states → (IsTrue asks → ⊥) → HasReached code false s from upto (length s) states → NoneRead from upto (length s) → MayBy code s from upto None
  may_end_none from upto states asks lt e na h f = λ m. elim m.3 as (λ _. ⊥) [
    | inl w ↦
        let within = slice_get_within code w.0 w.3.0 w.3.1 in
        na (e.1 (w.0, h.all m.0 w.0 w.1 m.1 m.2 (omega (arith, m.2, lt)) (omega (arith, within)) w.2, w.3))
    | inr r ↦ f m.0 r.0 r.2.0 m.1 m.2 r.1 (path_within code false s r.2.0 0 m.0 (length code) r.0 (omega (arith, m.2, lt)) r.2.1) r.2.1
  ]
