-- Sets of states.
use Rattle.std.proofs.Common.{◌≡◌, ◌≢◌, ℕ, ◌+◌, ◌<◌, ◌≤◌, ◌⊎◌, inl, inr, Bool, true, false, cond, List, [], ◌∷◌, ◌++◌, length, get_or, set, refl, sym, ap, ◌∙◌, subst, arith, append_assoc, length-append, length-set, get_or-set_same, get_or-set_other, true≢false, suc}
use Rattle.std.specs.Prelude.{count_by, Contains}
use Rattle.std.proofs.lemmas.Bool.{cases_eq, cases_lt}
use Rattle.std.proofs.lemmas.List.{get_or_past, get_or_default, append-nil}
use Rattle.std.proofs.lemmas.List.Sums.{sum_by-set, count_by-le-length}
use Rattle.std.proofs.lemmas.List.Elements.{Contains-push, Contains-push_cases, Contains-append_left, Contains-append_cases, Contains-get_or}
use Rattle.rawk_ere_tree.specs.StateSets.{AreMarks, Adds}

abbrev one : Bool → ℕ
one b = cond b 1 0

-- a mark that is set counts once more
pub counts_more : (marks : List Bool) (q : ℕ) → q < length marks → get_or marks q false ≡ false → count_by (λ b. b) (set marks q true) ≡ count_by (λ b. b) marks + 1
counts_more marks q lt e =
    let h = sum_by-set one marks q true false lt in
    let z : one (get_or marks q false) ≡ 0 = ap one e in
    omega (arith, h, z)

-- there is room for a state that is not marked
pub has_room : (members : List ℕ) (marks : List Bool) (q : ℕ) → AreMarks members marks → q < length marks → get_or marks q false ≡ false → length members < length marks
has_room members marks q m lt e =
    omega (arith, m.counted, counts_more marks q lt e, count_by-le-length (λ b. b) (set marks q true), length-set marks q true)

pub marks_more : (members : List ℕ) (marks : List Bool) (q : ℕ) → AreMarks members marks → q < length marks → get_or marks q false ≡ false → AreMarks (members ++ q ∷ []) (set marks q true)
marks_more members marks q m lt e = record {
  marked = λ x h. elim (Contains-push_cases members q x h) [
    | inl old ↦ let other : x ≢ q = λ w. true≢false (sym (m.marked x old) ∙ ap (λ y. get_or marks y false) w ∙ e) in get_or-set_other marks q x true false other ∙ m.marked x old
    | inr same ↦ subst (λ y. get_or (set marks q true) y false ≡ true) same (get_or-set_same marks q true false lt)
  ];
  listed = λ x h. elim (cases_eq x q) [
    | inl same ↦ subst (λ y. Contains (members ++ q ∷ []) y) (sym same) (Contains-push members q)
    | inr other ↦ Contains-append_left members (q ∷ []) x (m.listed x (sym (get_or-set_other marks q x true false other) ∙ h))
  ];
  counted = omega (arith, m.counted, counts_more marks q lt e, length-append members (q ∷ []));
}

Contains-one : (q r : ℕ) → Contains (q ∷ []) r → r ≡ q
Contains-one q r h = elim (Contains-push_cases [] q r h) [ inl x ↦ absurd (omega (arith, x.1)) | inr x ↦ sym x ]

pub adds_one : (room : ℕ) (members : List ℕ) (q : ℕ) → Adds room members (members ++ q ∷ []) (λ r. r ≡ q)
adds_one room members q = record {
  more = q ∷ [];
  is = refl;
  only = λ r h. Contains-one q r h;
  has = λ r e lt. subst (λ y. Contains (members ++ q ∷ []) y) (sym e) (Contains-push members q);
}

pub Contains-none : (r : ℕ) → Contains [] r → ⊥
Contains-none r h = omega (arith, h.1)

-- nothing is to be added
pub adds_none : (room : ℕ) (members : List ℕ) (P : ℕ → Type 0) → ((r : ℕ) → P r → r < room → Contains members r) → Adds room members members P
adds_none room members P f = record { more = []; is = sym (append-nil members); only = λ r h. absurd (Contains-none r h); has = f }

pub adds_marked : (room : ℕ) (members : List ℕ) (marks : List Bool) (q : ℕ) → AreMarks members marks → get_or marks q false ≡ true → Adds room members members (λ r. r ≡ q)
adds_marked room members marks q m h = adds_none room members _ (λ r e lt. subst (λ y. Contains members y) (sym e) (m.listed q h))

pub adds_past : (room : ℕ) (members : List ℕ) (q : ℕ) → room ≤ q → Adds room members members (λ r. r ≡ q)
adds_past room members q le = adds_none room members _ (λ r e lt. absurd (omega arith))

pub not_past : (members : List ℕ) (marks : List Bool) (q : ℕ) → AreMarks members marks → length marks ≤ q → Contains members q → ⊥
not_past members marks q m le h = true≢false (sym (m.marked q h) ∙ get_or_past marks q false le)

pub adds_both : (room room' : ℕ) (a b c : List ℕ) (P Q : ℕ → Type 0) → room' ≡ room → Adds room a b P → Adds room' b c Q → Adds room a c (λ r. P r ⊎ Q r)
adds_both room room' a b c P Q e x y = record {
  more = x.more ++ y.more;
  is = y.is ∙ ap (λ l. l ++ y.more) x.is ∙ append_assoc a x.more y.more;
  only = λ r h. elim (Contains-append_cases x.more y.more r h) [ inl u ↦ inl (x.only r u) | inr v ↦ inr (y.only r v) ];
  has = λ r h lt. elim h [
    | inl p ↦ subst (λ l. Contains l r) (sym y.is) (Contains-append_left b y.more r (x.has r p lt))
    | inr q ↦ y.has r q (omega arith)
  ];
}

pub adds_where : (room : ℕ) (a b : List ℕ) (P Q : ℕ → Type 0) → ((r : ℕ) → P r → Q r) → ((r : ℕ) → Q r → P r) → Adds room a b P → Adds room a b Q
adds_where room a b P Q f g x = record { more = x.more; is = x.is; only = λ r h. f r (x.only r h); has = λ r h lt. x.has r (g r h) lt }

-- the member at the index too
pub adds_next : (room room' : ℕ) (a b c other : List ℕ) (index q : ℕ) → room' ≡ room → q ≡ get_or other index 0 → Adds room a b (λ r. (k : ℕ) × (k < index) × (get_or other k 0 ≡ r)) → Adds room' b c (λ r. r ≡ q) → Adds room a c (λ r. (k : ℕ) × (k < index + 1) × (get_or other k 0 ≡ r))
adds_next room room' a b c other index q z e x y =
    adds_where room a c _ _
    (λ r h. elim h [ inl u ↦ (u.0, omega (arith, u.1), u.2) | inr v ↦ (index, omega arith, sym e ∙ sym v) ])
    (λ r h. elim (cases_eq h.0 index) [
      | inl is ↦ inr (sym h.2 ∙ ap (λ k. get_or other k 0) is ∙ sym e)
      | inr ne ↦ (let ne' : h.0 ≡ index → ⊥ = ne in inl (h.0, omega (arith, ne', h.1), h.2))
    ])
    (adds_both room room' a b c (λ r. (k : ℕ) × (k < index) × (get_or other k 0 ≡ r)) (λ r. r ≡ q) z x y)

pub adds_all : (room : ℕ) (a b other : List ℕ) (index : ℕ) → length other ≤ index → index ≤ length other → Adds room a b (λ r. (k : ℕ) × (k < index) × (get_or other k 0 ≡ r)) → Adds room a b (Contains other)
adds_all room a b other index le ge x =
    adds_where room a b _ _
    (λ r h. (let lt : h.0 < length other = omega (arith, h.1) in (h.0, lt, sym (get_or_default other h.0 0 r lt) ∙ h.2)))
    (λ r h. (h.0, omega (arith, h.1), get_or_default other h.0 0 r h.1 ∙ h.2))
    x

-- the marks tell the members
pub same_members : (a b : List ℕ) (marks marks' : List Bool) → AreMarks a marks → AreMarks b marks' → marks ≡ marks' → (q : ℕ) → Contains a q → Contains b q
same_members a b marks marks' m m' e q h = m'.listed q (ap (λ l. get_or l q false) (sym e) ∙ m.marked q h)

count_none : (marks : List Bool) → ((q : ℕ) → get_or marks q false ≡ true → ⊥) → count_by (λ b. b) marks ≡ 0
count_none [] h = refl
count_none (true ∷ marks) h = absurd (h 0 refl)
count_none (false ∷ marks) h = omega (arith, count_none marks (λ q. h (suc q)))

pub no_marks : (members : List ℕ) (old marks : List Bool) → AreMarks members old → ((q : ℕ) → get_or marks q false ≡ true → (get_or old q false ≡ true) × (Contains members q → ⊥)) → AreMarks [] marks
no_marks members old marks m h = record {
  marked = λ q c. absurd (Contains-none q c);
  listed = λ q is. absurd ((h q is).1 (m.listed q (h q is).0));
  counted = sym (count_none marks (λ q is. (h q is).1 (m.listed q (h q is).0)));
}

pub member_within : (members : List ℕ) (marks : List Bool) (k : ℕ) → AreMarks members marks → k < length members → get_or members k 0 < length marks
member_within members marks k m lt = elim (cases_lt (get_or members k 0) (length marks)) [
  | inl h ↦ h
  | inr past ↦ absurd (not_past members marks (get_or members k 0) m past (Contains-get_or members k 0 lt))
]
