-- A way through a tree's instructions asks what follows the text where the tree needs to know it.
use Rattle.std.proofs.Common.{◌≡◌, ℕ, zero, suc, ◌+◌, ◌-◌, ◌<◌, ◌≤◌, ◌⊎◌, inl, inr, false, List, [], ◌∷◌, ◌++◌, length, Some, refl, sym, ◌∙◌, subst, arith, length-append}
use Rattle.std.specs.Prelude.{slice_get, ◌↔◌}
use Rattle.std.proofs.lemmas.Option.{slice_get_within}
use Rattle.std.proofs.lemmas.Bool.{cases_lt}
use Rattle.rawk_ere_tree.specs.declared.node.Count.{Count}
use Rattle.rawk_ere_tree.specs.declared.node.Count.TheVariants.{Star, Plus, Maybe, AtLeast, Between}
use Rattle.rawk_ere_tree.specs.Tree.{Tree}
use Rattle.rawk_ere_tree.specs.Tree as tree
use Rattle.rawk_ere_tree.specs.declared.code.Instruction.{Instruction}
use Rattle.rawk_ere_tree.specs.declared.code.Instruction.TheVariants.{Bytes, Start, End, Split, Go, Back, Fork}
use Rattle.rawk_ere_tree.specs.Ends.{Allows, Times, IsLast, Ends}
use Rattle.rawk_ere_tree.specs.Open.{AllowsMore, Needs}
use Rattle.rawk_ere_tree.specs.Code.{star_code, plus_code, maybe_code, times_code, maybes_code, count_code, either_code, code_of, Hops, Path}
use Rattle.rawk_ere_walks.specs.Sets.{Asks, AsksAt, WantsFrom}
use Rattle.rawk_ere.proofs.Paths.{HasAt, has_front, has_back, has_all, Leads, Does, known_step, hop, Completes, completes, split_times, join_times, times_go, After, ends_in}

module _ (code : List Instruction) (s : List ℕ) where
  -- a way from here reaches an asking state at the end of the text
  abbrev pub Wants : ℕ → ℕ → Type 0
  Wants q i = (f : ℕ) × AsksAt code f × Leads code false s q i f (length s)

  wants_from : (q q' i : ℕ) → q ≡ q' → Wants q i → Wants q' i
  wants_from q q' i e w = subst (λ r. Wants r i) e w

  wants_hop : (q i r : ℕ) (x : Instruction) → slice_get code q ≡ Some x → Hops (i ≡ 0) (IsLast false s i) q x r → Wants r i → Wants q i
  wants_hop q i r x h hs w = (w.0, w.1, hop code false s q i r w.0 (length s) x h hs w.2)

  -- through a part
  wants_past : (a : List Instruction) (R : ℕ → ℕ → Type 0) → Completes code false s a R → (pc i k : ℕ) → HasAt code pc a → R i k → Wants (pc + length a) k → Wants pc i
  wants_past a R ca pc i k h r w = (w.0, w.1, ca.by pc i k w.0 (length s) h r w.2)

  -- a part's code asks wherever N holds
  pub record Reaches (part : List Instruction) (N : ℕ → Type 0) : Type 0 where
    pub by : (pc i : ℕ) → HasAt code pc part → N i → Wants pc i

  -- after k matches of the part
  abbrev NeedsAfter : (ℕ → ℕ → Type 0) → (ℕ → Type 0) → ℕ → ℕ → Type 0
  NeedsAfter R N k i = (middle : ℕ) × Times R k i middle × N middle

  reach_here : (N : ℕ → Type 0) (i middle : ℕ) → i ≡ middle → N middle → N i
  reach_here N i middle e n = subst N (sym e) n

  reach_star : (a : List Instruction) (R : ℕ → ℕ → Type 0) (N : ℕ → Type 0) → Completes code false s a R → Reaches a N → (k pc i : ℕ) → HasAt code pc (star_code a) → NeedsAfter R N k i → Wants pc i
  reach_star a R N ca ra zero pc i h x =
      wants_hop pc i (pc + 1) (Split (length a + 2)) h.0 (inl refl) (ra.by (pc + 1) i (has_front code (pc + 1) a _ h.1) (reach_here N i x.0 x.1 x.2))
  reach_star a R N ca ra (suc k) pc i h x =
      let hb = has_back code (pc + 1) a (Back (length a + 1) ∷ []) h.1 in
      let e : pc ≡ pc + 1 + length a - (length a + 1) = omega arith in
      let again = reach_star a R N ca ra k pc x.1.0 h (x.0, x.1.2, x.2) in
      wants_hop pc i (pc + 1) (Split (length a + 2)) h.0 (inl refl)
      (wants_past a R ca (pc + 1) i x.1.0 (has_front code (pc + 1) a _ h.1) x.1.1 (wants_hop (pc + 1 + length a) x.1.0 pc (Back (length a + 1)) hb.0 e again))

  reach_plus : (a : List Instruction) (R : ℕ → ℕ → Type 0) (N : ℕ → Type 0) → Completes code false s a R → Reaches a N → (k pc i : ℕ) → HasAt code pc (plus_code a) → NeedsAfter R N k i → Wants pc i
  reach_plus a R N ca ra zero pc i h x = ra.by pc i (has_front code pc a _ h) (reach_here N i x.0 x.1 x.2)
  reach_plus a R N ca ra (suc k) pc i h x =
      let hb = has_back code pc a (Fork (length a) ∷ []) h in
      let e : pc ≡ pc + length a - length a = omega arith in
      let again = reach_plus a R N ca ra k pc x.1.0 h (x.0, x.1.2, x.2) in
      wants_past a R ca pc i x.1.0 (has_front code pc a _ h) x.1.1 (wants_hop (pc + length a) x.1.0 pc (Fork (length a)) hb.0 (inr e) again)

  reach_maybe : (a : List Instruction) (N : ℕ → Type 0) → Reaches a N → (pc i : ℕ) → HasAt code pc (maybe_code a) → N i → Wants pc i
  reach_maybe a N ra pc i h n = wants_hop pc i (pc + 1) (Split (length a + 1)) h.0 (inl refl) (ra.by (pc + 1) i h.1 n)

  reach_times : (a : List Instruction) (R : ℕ → ℕ → Type 0) (N : ℕ → Type 0) → Completes code false s a R → Reaches a N → (m k pc i : ℕ) → k < m → HasAt code pc (times_code m a) → NeedsAfter R N k i → Wants pc i
  reach_times a R N ca ra zero k pc i lt h x = absurd (omega arith)
  reach_times a R N ca ra (suc m) zero pc i lt h x = ra.by pc i (has_front code pc a (times_code m a) h) (reach_here N i x.0 x.1 x.2)
  reach_times a R N ca ra (suc m) (suc k) pc i lt h x =
      wants_past a R ca pc i x.1.0 (has_front code pc a (times_code m a) h) x.1.1
      (reach_times a R N ca ra m k (pc + length a) x.1.0 (omega arith) (has_back code pc a (times_code m a) h) (x.0, x.1.2, x.2))

  reach_maybes : (a : List Instruction) (R : ℕ → ℕ → Type 0) (N : ℕ → Type 0) → Completes code false s a R → Reaches a N → (m k pc i : ℕ) → k < m → HasAt code pc (maybes_code m a) → NeedsAfter R N k i → Wants pc i
  reach_maybes a R N ca ra zero k pc i lt h x = absurd (omega arith)
  reach_maybes a R N ca ra (suc m) zero pc i lt h x = reach_maybe a N ra pc i (has_front code pc (maybe_code a) (maybes_code m a) h) (reach_here N i x.0 x.1 x.2)
  reach_maybes a R N ca ra (suc m) (suc k) pc i lt h x =
      let first = has_front code pc (maybe_code a) (maybes_code m a) h in
      let e : pc + length (maybe_code a) ≡ pc + 1 + length a = omega arith in
      let rest = reach_maybes a R N ca ra m k (pc + length (maybe_code a)) x.1.0 (omega arith) (has_back code pc (maybe_code a) (maybes_code m a) h) (x.0, x.1.2, x.2) in
      wants_hop pc i (pc + 1) (Split (length a + 1)) first.0 (inl refl) (wants_past a R ca (pc + 1) i x.1.0 first.1 x.1.1 (wants_from _ _ x.1.0 e rest))

  -- after the first m matches
  reach_later : (a b : List Instruction) (R : ℕ → ℕ → Type 0) (N : ℕ → Type 0) → Completes code false s a R → (m k pc i : ℕ) → m ≤ k → HasAt code pc (times_code m a ++ b)
      → ((pc i : ℕ) → HasAt code pc b → NeedsAfter R N (k - m) i → Wants pc i) → NeedsAfter R N k i → Wants pc i
  reach_later a b R N ca m k pc i le h rest x =
      let e : k ≡ m + (k - m) = omega arith in
      let t = split_times code false s R m (k - m) i x.0 (subst (λ n. Times R n i x.0) e x.1) in
      wants_past (times_code m a) (λ i j. Times R m i j) (times_go code false s a R ca m) pc i t.0 (has_front code pc (times_code m a) b h) t.1
      (rest (pc + length (times_code m a)) t.0 (has_back code pc (times_code m a) b h) (x.0, t.2, x.2))

  abbrev CountNeeds : Count → (ℕ → ℕ → Type 0) → (ℕ → Type 0) → ℕ → Type 0
  CountNeeds count R N i = (k : ℕ) × (middle : ℕ) × AllowsMore count k × Times R k i middle × N middle

  reach_count : (a : List Instruction) (R : ℕ → ℕ → Type 0) (N : ℕ → Type 0) → Completes code false s a R → Reaches a N → (count : Count) → Reaches (count_code count a) (CountNeeds count R N)
  reach_count a R N ca ra Star = record { by = λ pc i h x. reach_star a R N ca ra x.0 pc i h (x.1, x.3, x.4) }
  reach_count a R N ca ra Plus = record { by = λ pc i h x. reach_plus a R N ca ra x.0 pc i h (x.1, x.3, x.4) }
  reach_count a R N ca ra Maybe = record {
    by = λ pc i h x.
        let z : x.0 ≡ 0 = omega (arith, x.2) in
        let t = subst (λ n. Times R n i x.1) z x.3 in
        reach_maybe a N ra pc i h (reach_here N i x.1 t x.4);
  }
  reach_count a R N ca ra (AtLeast zero) = record { by = λ pc i h x. reach_star a R N ca ra x.0 pc i h (x.1, x.3, x.4) }
  reach_count a R N ca ra (AtLeast (suc m)) = record {
    by = λ pc i h x. elim (cases_lt x.0 m) [
      | inl lt ↦ reach_times a R N ca ra m x.0 pc i lt (has_front code pc (times_code m a) (plus_code a) h) (x.1, x.3, x.4)
      | inr ge ↦ reach_later a (plus_code a) R N ca m x.0 pc i ge h (λ pc i h y. reach_plus a R N ca ra (x.0 - m) pc i h y) (x.1, x.3, x.4)
    ];
  }
  reach_count a R N ca ra (Between m more) = record {
    by = λ pc i h x. elim (cases_lt x.0 m) [
      | inl lt ↦ reach_times a R N ca ra m x.0 pc i lt (has_front code pc (times_code m a) (maybes_code more a) h) (x.1, x.3, x.4)
      | inr ge ↦ (let few : x.0 - m < more = omega (arith, x.2) in
          reach_later a (maybes_code more a) R N ca m x.0 pc i ge h (λ pc i h y. reach_maybes a R N ca ra more (x.0 - m) pc i few h y) (x.1, x.3, x.4))
    ];
  }

  asks_here : (x : Instruction) → Asks x → (pc i : ℕ) → slice_get code pc ≡ Some x → i ≡ length s → Wants pc i
  asks_here x a pc i h e = (pc, (x, h, a), (0, (refl, e)))

  -- where the tree needs to know what follows, its code asks
  pub reaches : (e : Tree) → Reaches (code_of e) (λ i. Needs s e i)
  reaches tree.Empty = record { by = λ pc i h n. absurd n }
  reaches (tree.OneOf set) = record { by = λ pc i h n. asks_here (Bytes set) tt pc i h.0 n }
  reaches tree.Start = record { by = λ pc i h n. absurd n }
  reaches tree.End = record { by = λ pc i h n. asks_here End tt pc i h.0 n }
  reaches (tree.Join a b) = record {
    by = λ pc i h n. elim n [
      | inl x ↦ (reaches a).by pc i (has_front code pc (code_of a) (code_of b) h) x
      | inr y ↦ wants_past (code_of a) (λ i j. Ends false s a i j) (completes code false s a) pc i y.0 (has_front code pc (code_of a) (code_of b) h) y.1
          ((reaches b).by (pc + length (code_of a)) y.0 (has_back code pc (code_of a) (code_of b) h) y.2)
    ];
  }
  reaches (tree.Either a b) = record {
    by = λ pc i h n.
        let ha = has_front code (pc + 1) (code_of a) (Go (length (code_of b) + 1) ∷ code_of b) h.1 in
        let hg = has_back code (pc + 1) (code_of a) (Go (length (code_of b) + 1) ∷ code_of b) h.1 in
        let e : pc + 1 + length (code_of a) + 1 ≡ pc + (length (code_of a) + 2) = omega arith in
        elim n [
          | inl x ↦ wants_hop pc i (pc + 1) (Split (length (code_of a) + 2)) h.0 (inl refl) ((reaches a).by (pc + 1) i ha x)
          | inr y ↦ wants_hop pc i (pc + (length (code_of a) + 2)) (Split (length (code_of a) + 2)) h.0 (inr refl) (wants_from _ _ i e ((reaches b).by (pc + 1 + length (code_of a) + 1) i hg.1 y))
        ];
  }
  reaches (tree.Group a) = reaches a
  reaches (tree.Repeat a count) = reach_count (code_of a) (λ i j. Ends false s a i j) (λ i. Needs s a i) (completes code false s a) (reaches a) count

  -- a way that asks goes on from an instruction that does not
  goes_on : (n q i f : ℕ) (x : Instruction) → slice_get code q ≡ Some x → (Asks x → ⊥) → AsksAt code f → Path code false s n q i f (length s)
      → (m : ℕ) × (r : ℕ) × (k : ℕ) × (suc m ≡ n) × Does code false s q i x r k × Path code false s m r k f (length s)
  goes_on zero q i f x h no_ask a p =
      let there : slice_get code f ≡ Some x = subst (λ y. slice_get code y ≡ Some x) p.0 h in
      let same : a.0 ≡ x = cc in
      absurd (no_ask (subst Asks same a.2))
  goes_on (suc m) q i f x h no_ask a p = (m, p.0, p.1, refl, known_step code false s q i p.0 p.1 x h p.2, p.3)

  -- a way through a part's code that asks does so in the part, by N, or after it
  pub record Shows (part : List Instruction) (R : ℕ → ℕ → Type 0) (N : ℕ → Type 0) : Type 0 where
    pub by : (n pc i f : ℕ) → HasAt code pc part → AsksAt code f → Path code false s n pc i f (length s) → N i ⊎ After code false s n R i (pc + length part) f (length s)

  show_empty : (N : ℕ → Type 0) → Shows [] (λ i j. i ≡ j) N
  show_empty N = record { by = λ n pc i f h a p. let e : pc ≡ pc + 0 = omega arith in inr (i, n, omega arith, refl, ends_in code false s n pc (pc + 0) i f (length s) e p) }

  show_byte : (set : List ℕ) (n pc i f : ℕ) → HasAt code pc (Bytes set ∷ []) → AsksAt code f → Path code false s n pc i f (length s) → (i ≡ length s) ⊎ After code false s n (λ i j. Ends false s (tree.OneOf set) i j) i (pc + 1) f (length s)
  show_byte set zero pc i f h a p = inl p.1
  show_byte set (suc m) pc i f h a p =
      let d = known_step code false s pc i p.0 p.1 (Bytes set) h.0 p.2 in
      elim d [ inl x ↦ absurd x.0 | inr x ↦ inr (p.1, m, omega arith, (x.0, x.1, x.2, x.4), ends_in code false s m p.0 (pc + 1) p.1 f (length s) x.3 p.3) ]

  show_bytes : (set : List ℕ) → Shows (code_of (tree.OneOf set)) (λ i j. Ends false s (tree.OneOf set) i j) (λ i. i ≡ length s)
  show_bytes set = record { by = λ n pc i f h a p. show_byte set n pc i f h a p }

  show_start : Shows (Start ∷ []) (λ i j. (i ≡ 0) × (i ≡ j)) (λ _. ⊥)
  show_start = record {
    by = λ n pc i f h a p.
        let g = goes_on n pc i f Start h.0 (λ x. x) a p in
        elim g.4 [ inl x ↦ inr (g.2, g.0, omega (arith, g.3), (x.0.0, x.1), ends_in code false s g.0 g.1 (pc + 1) g.2 f (length s) x.0.1 g.5) | inr x ↦ absurd x.2 ];
  }

  show_end_of : (n pc i f : ℕ) → HasAt code pc (End ∷ []) → AsksAt code f → Path code false s n pc i f (length s) → (i ≡ length s) ⊎ After code false s n (λ i j. IsLast false s i × (i ≡ j)) i (pc + 1) f (length s)
  show_end_of zero pc i f h a p = inl p.1
  show_end_of (suc m) pc i f h a p =
      let d = known_step code false s pc i p.0 p.1 End h.0 p.2 in
      elim d [ inl x ↦ inr (p.1, m, omega arith, (x.0.0, x.1), ends_in code false s m p.0 (pc + 1) p.1 f (length s) x.0.1 p.3) | inr x ↦ absurd x.2 ]

  show_join : (a b : List Instruction) (R Q : ℕ → ℕ → Type 0) (N M : ℕ → Type 0) → Shows a R N → Shows b Q M → Shows (a ++ b) (λ i j. (middle : ℕ) × R i middle × Q middle j) (λ i. N i ⊎ ((middle : ℕ) × R i middle × M middle))
  show_join a b R Q N M sa sb = record {
    by = λ n pc i f h asks p.
        let e : pc + length a + length b ≡ pc + length (a ++ b) = omega (arith, length-append a b) in
        elim (sa.by n pc i f (has_front code pc a b h) asks p) [
          | inl x ↦ inl (inl x)
          | inr x ↦ elim (sb.by x.1 (pc + length a) x.0 f (has_back code pc a b h) asks x.4) [
            | inl y ↦ inl (inr (x.0, x.3, y))
            | inr y ↦ inr (y.0, y.1, omega (arith, x.2, y.2), (x.0, x.3, y.3), ends_in code false s _ _ _ _ f (length s) e y.4)
          ]
        ];
  }

  show_either : (a b : List Instruction) (R Q : ℕ → ℕ → Type 0) (N M : ℕ → Type 0) → Shows a R N → Shows b Q M → Shows (either_code a b) (λ i j. R i j ⊎ Q i j) (λ i. N i ⊎ M i)
  show_either a b R Q N M sa sb = record {
    by = λ n pc i f h asks p.
        let ha = has_front code (pc + 1) a (Go (length b + 1) ∷ b) h.1 in
        let hg = has_back code (pc + 1) a (Go (length b + 1) ∷ b) h.1 in
        let len = length-append a (Go (length b + 1) ∷ b) in
        let e1 : pc + 1 + length a + (length b + 1) ≡ pc + length (either_code a b) = omega arith in
        let e2 : pc + 1 + length a + 1 + length b ≡ pc + length (either_code a b) = omega arith in
        let e3 : pc + (length a + 2) ≡ pc + 1 + length a + 1 = omega arith in
        let g = goes_on n pc i f (Split (length a + 2)) h.0 (λ x. x) asks p in
        elim g.4 [
          | inr x ↦ absurd x.2
          | inl x ↦ elim x.0 [
            | inl t ↦ elim (sa.by g.0 (pc + 1) g.2 f ha asks (ends_in code false s _ _ _ _ f (length s) t g.5)) [
              | inl y ↦ inl (inl (subst N (sym x.1) y))
              | inr y ↦
                  let z = goes_on y.1 (pc + 1 + length a) y.0 f (Go (length b + 1)) hg.0 (λ w. w) asks y.4 in
                  elim z.4 [
                    | inr w ↦ absurd w.2
                    | inl w ↦ inr (z.2, z.0, omega (arith, g.3, y.2, z.3), inl (subst (λ v. R v z.2) (sym x.1) (subst (λ v. R g.2 v) w.1 y.3)), ends_in code false s _ _ _ _ f (length s) (w.0 ∙ e1) z.5)
                  ]
            ]
            | inr t ↦ elim (sb.by g.0 (pc + 1 + length a + 1) g.2 f hg.1 asks (ends_in code false s _ _ _ _ f (length s) (t ∙ e3) g.5)) [
              | inl y ↦ inl (inr (subst M (sym x.1) y))
              | inr y ↦ inr (y.0, y.1, omega (arith, g.3, y.2), inr (subst (λ v. Q v y.0) (sym x.1) y.3), ends_in code false s _ _ _ _ f (length s) e2 y.4)
            ]
          ]
        ];
  }

  -- k matches of the part, and then N
  abbrev SomeNeed : (ℕ → Type 0) → (ℕ → ℕ → Type 0) → (ℕ → Type 0) → ℕ → Type 0
  SomeNeed Few R N i = (k : ℕ) × (middle : ℕ) × Few k × Times R k i middle × N middle

  show_maybe : (a : List Instruction) (R : ℕ → ℕ → Type 0) (N : ℕ → Type 0) → Shows a R N → Shows (maybe_code a) (λ i j. (n : ℕ) × (n ≤ 1) × Times R n i j) (SomeNeed (λ k. k < 1) R N)
  show_maybe a R N sa = record {
    by = λ n pc i f h asks p.
        let e1 : pc + 1 + length a ≡ pc + length (maybe_code a) = omega arith in
        let e2 : pc + (length a + 1) ≡ pc + length (maybe_code a) = omega arith in
        let g = goes_on n pc i f (Split (length a + 1)) h.0 (λ x. x) asks p in
        elim g.4 [
          | inr x ↦ absurd x.2
          | inl x ↦ elim x.0 [
            | inl t ↦ elim (sa.by g.0 (pc + 1) g.2 f h.1 asks (ends_in code false s _ _ _ _ f (length s) t g.5)) [
              | inl y ↦ inl (0, i, omega arith, refl, subst N (sym x.1) y)
              | inr y ↦ inr (y.0, y.1, omega (arith, g.3, y.2), (1, omega arith, (y.0, subst (λ v. R v y.0) (sym x.1) y.3, refl)), ends_in code false s _ _ _ _ f (length s) e1 y.4)
            ]
            | inr t ↦ inr (g.2, g.0, omega (arith, g.3), (0, omega arith, x.1), ends_in code false s _ _ _ _ f (length s) (t ∙ e2) g.5)
          ]
        ];
  }

  show_star : (a : List Instruction) (R : ℕ → ℕ → Type 0) (N : ℕ → Type 0) → Shows a R N → (bound n pc i f : ℕ) → n ≤ bound → HasAt code pc (star_code a) → AsksAt code f → Path code false s n pc i f (length s)
      → SomeNeed (λ _. Unit {0}) R N i ⊎ After code false s n (λ x y. (k : ℕ) × Times R k x y) i (pc + length (star_code a)) f (length s)
  show_star a R N sa zero n pc i f lb h asks p =
      let g = goes_on n pc i f (Split (length a + 2)) h.0 (λ x. x) asks p in
      absurd (omega (arith, g.3))
  show_star a R N sa (suc bound) n pc i f lb h asks p =
      let len = length-append a (Back (length a + 1) ∷ []) in
      let hb = has_back code (pc + 1) a (Back (length a + 1) ∷ []) h.1 in
      let e : pc + (length a + 2) ≡ pc + length (star_code a) = omega arith in
      let eb : pc + 1 + length a - (length a + 1) ≡ pc = omega arith in
      let g = goes_on n pc i f (Split (length a + 2)) h.0 (λ x. x) asks p in
      elim g.4 [
        | inr x ↦ absurd x.2
        | inl x ↦ elim x.0 [
          | inl t ↦ elim (sa.by g.0 (pc + 1) g.2 f (has_front code (pc + 1) a _ h.1) asks (ends_in code false s _ _ _ _ f (length s) t g.5)) [
            | inl y ↦ inl (0, i, tt, refl, subst N (sym x.1) y)
            | inr y ↦
                let z = goes_on y.1 (pc + 1 + length a) y.0 f (Back (length a + 1)) hb.0 (λ w. w) asks y.4 in
                elim z.4 [
                  | inr w ↦ absurd w.2
                  | inl w ↦ elim (show_star a R N sa bound z.0 pc z.2 f (omega (arith, g.3, y.2, z.3)) h asks (ends_in code false s _ _ _ _ f (length s) (w.0 ∙ eb) z.5)) [
                    | inl again ↦ inl (suc again.0, again.1, tt, (y.0, subst (λ v. R v y.0) (sym x.1) y.3, subst (λ v. Times R again.0 v again.1) (sym w.1) again.3), again.4)
                    | inr again ↦ inr (again.0, again.1, omega (arith, g.3, y.2, z.3, again.2), (suc again.3.0, (y.0, subst (λ v. R v y.0) (sym x.1) y.3, subst (λ v. Times R again.3.0 v again.0) (sym w.1) again.3.1)), again.4)
                  ]
                ]
          ]
          | inr t ↦ inr (g.2, g.0, omega (arith, g.3), (0, x.1), ends_in code false s _ _ _ _ f (length s) (t ∙ e) g.5)
        ]
      ]

  show_plus : (a : List Instruction) (R : ℕ → ℕ → Type 0) (N : ℕ → Type 0) → Shows a R N → (bound n pc i f : ℕ) → n ≤ bound → HasAt code pc (plus_code a) → AsksAt code f → Path code false s n pc i f (length s)
      → SomeNeed (λ _. Unit {0}) R N i ⊎ After code false s n (λ x y. (k : ℕ) × Times R (suc k) x y) i (pc + length (plus_code a)) f (length s)
  show_plus a R N sa zero n pc i f lb h asks p =
      let hb = has_back code pc a (Fork (length a) ∷ []) h in
      elim (sa.by n pc i f (has_front code pc a _ h) asks p) [
        | inl y ↦ inl (0, i, tt, refl, y)
        | inr y ↦ (let z = goes_on y.1 (pc + length a) y.0 f (Fork (length a)) hb.0 (λ w. w) asks y.4 in absurd (omega (arith, y.2, z.3)))
      ]
  show_plus a R N sa (suc bound) n pc i f lb h asks p =
      let len = length-append a (Fork (length a) ∷ []) in
      let hb = has_back code pc a (Fork (length a) ∷ []) h in
      let e : pc + length a + 1 ≡ pc + length (plus_code a) = omega arith in
      let eb : pc + length a - length a ≡ pc = omega arith in
      elim (sa.by n pc i f (has_front code pc a _ h) asks p) [
        | inl y ↦ inl (0, i, tt, refl, y)
        | inr y ↦
            let z = goes_on y.1 (pc + length a) y.0 f (Fork (length a)) hb.0 (λ w. w) asks y.4 in
            elim z.4 [
              | inr w ↦ absurd w.2
              | inl w ↦ elim w.0 [
                | inl t ↦ inr (z.2, z.0, omega (arith, y.2, z.3), (0, (y.0, y.3, w.1)), ends_in code false s _ _ _ _ f (length s) (t ∙ e) z.5)
                | inr t ↦ elim (show_plus a R N sa bound z.0 pc z.2 f (omega (arith, y.2, z.3)) h asks (ends_in code false s _ _ _ _ f (length s) (t ∙ eb) z.5)) [
                  | inl again ↦ inl (suc again.0, again.1, tt, (y.0, y.3, subst (λ v. Times R again.0 v again.1) (sym w.1) again.3), again.4)
                  | inr again ↦ inr (again.0, again.1, omega (arith, y.2, z.3, again.2), (suc again.3.0, (y.0, y.3, subst (λ v. Times R (suc again.3.0) v again.0) (sym w.1) again.3.1)), again.4)
                ]
              ]
            ]
      ]

  show_times : (a : List Instruction) (R : ℕ → ℕ → Type 0) (N : ℕ → Type 0) → Shows a R N → (m : ℕ) → Shows (times_code m a) (λ i j. Times R m i j) (SomeNeed (λ k. k < m) R N)
  show_times a R N sa zero = show_empty (SomeNeed (λ k. k < 0) R N)
  show_times a R N sa (suc m) = record {
    by = λ n pc i f h asks p.
        elim ((show_join a (times_code m a) R (λ i j. Times R m i j) N (SomeNeed (λ k. k < m) R N) sa (show_times a R N sa m)).by n pc i f h asks p) [
          | inl x ↦ inl (elim x as (λ _. SomeNeed (λ k. k < suc m) R N i) [ inl y ↦ (0, i, omega arith, refl, y) | inr y ↦ (suc y.2.0, y.2.1, omega (arith, y.2.2), (y.0, y.1, y.2.3), y.2.4) ])
          | inr x ↦ inr x
        ];
  }

  show_maybes : (a : List Instruction) (R : ℕ → ℕ → Type 0) (N : ℕ → Type 0) → Shows a R N → (m : ℕ) → Shows (maybes_code m a) (λ i j. (k : ℕ) × (k ≤ m) × Times R k i j) (SomeNeed (λ k. k < m) R N)
  show_maybes a R N sa zero = record {
    by = λ n pc i f h asks p.
        let e : pc ≡ pc + 0 = omega arith in inr (i, n, omega arith, (0, omega arith, refl), ends_in code false s n pc (pc + 0) i f (length s) e p);
  }
  show_maybes a R N sa (suc m) = record {
    by = λ n pc i f h asks p.
        elim ((show_join (maybe_code a) (maybes_code m a) _ _ (SomeNeed (λ k. k < 1) R N) (SomeNeed (λ k. k < m) R N) (show_maybe a R N sa) (show_maybes a R N sa m)).by n pc i f h asks p) [
          | inl x ↦ inl (elim x as (λ _. SomeNeed (λ k. k < suc m) R N i) [
            | inl y ↦ (y.0, y.1, omega (arith, y.2), y.3, y.4)
            | inr y ↦ (y.1.0 + y.2.0, y.2.1, omega (arith, y.1.1, y.2.2), join_times code false s R y.1.0 y.2.0 i y.2.1 y.0 y.1.2 y.2.3, y.2.4)
          ])
          | inr x ↦ inr (x.0, x.1, x.2, (x.3.1.0 + x.3.2.0, omega (arith, x.3.1.1, x.3.2.1), join_times code false s R x.3.1.0 x.3.2.0 i x.0 x.3.0 x.3.1.2 x.3.2.2), x.4)
        ];
  }

  show_count : (a : List Instruction) (R : ℕ → ℕ → Type 0) (N : ℕ → Type 0) → Shows a R N → (count : Count) → Shows (count_code count a) (λ i j. (k : ℕ) × Allows count k × Times R k i j) (CountNeeds count R N)
  show_count a R N sa Star = record { by = λ n pc i f h asks p. elim (show_star a R N sa n n pc i f (omega arith) h asks p) [ inl x ↦ inl x | inr x ↦ inr (x.0, x.1, x.2, (x.3.0, tt, x.3.1), x.4) ] }
  show_count a R N sa Plus = record { by = λ n pc i f h asks p. elim (show_plus a R N sa n n pc i f (omega arith) h asks p) [ inl x ↦ inl x | inr x ↦ inr (x.0, x.1, x.2, (suc x.3.0, omega arith, x.3.1), x.4) ] }
  show_count a R N sa Maybe = show_maybe a R N sa
  show_count a R N sa (AtLeast zero) = record { by = λ n pc i f h asks p. elim (show_star a R N sa n n pc i f (omega arith) h asks p) [ inl x ↦ inl x | inr x ↦ inr (x.0, x.1, x.2, (x.3.0, omega arith, x.3.1), x.4) ] }
  show_count a R N sa (AtLeast (suc m)) = record {
    by = λ n pc i f h asks p.
        let ps : Shows (plus_code a) (λ x y. (k : ℕ) × Times R (suc k) x y) (SomeNeed (λ _. Unit {0}) R N) = record { by = λ n pc i f h asks p. show_plus a R N sa n n pc i f (omega arith) h asks p } in
        elim ((show_join (times_code m a) (plus_code a) _ _ (SomeNeed (λ k. k < m) R N) (SomeNeed (λ _. Unit {0}) R N) (show_times a R N sa m) ps).by n pc i f h asks p) [
          | inl x ↦ inl (elim x as (λ _. CountNeeds (AtLeast (suc m)) R N i) [
            | inl y ↦ (y.0, y.1, tt, y.3, y.4)
            | inr y ↦ (m + y.2.0, y.2.1, tt, join_times code false s R m y.2.0 i y.2.1 y.0 y.1 y.2.3, y.2.4)
          ])
          | inr x ↦ inr (x.0, x.1, x.2, (m + suc x.3.2.0, omega arith, join_times code false s R m (suc x.3.2.0) i x.0 x.3.0 x.3.1 x.3.2.1), x.4)
        ];
  }
  show_count a R N sa (Between m more) = record {
    by = λ n pc i f h asks p.
        elim ((show_join (times_code m a) (maybes_code more a) _ _ (SomeNeed (λ k. k < m) R N) (SomeNeed (λ k. k < more) R N) (show_times a R N sa m) (show_maybes a R N sa more)).by n pc i f h asks p) [
          | inl x ↦ inl (elim x as (λ _. CountNeeds (Between m more) R N i) [
            | inl y ↦ (y.0, y.1, omega (arith, y.2), y.3, y.4)
            | inr y ↦ (m + y.2.0, y.2.1, omega (arith, y.2.2), join_times code false s R m y.2.0 i y.2.1 y.0 y.1 y.2.3, y.2.4)
          ])
          | inr x ↦ inr (x.0, x.1, x.2, (m + x.3.2.0, (omega arith, omega (arith, x.3.2.1)), join_times code false s R m x.3.2.0 i x.0 x.3.0 x.3.1 x.3.2.2), x.4)
        ];
  }

  -- where the tree's code asks, the tree needs to know what follows
  pub shows : (e : Tree) → Shows (code_of e) (λ i j. Ends false s e i j) (λ i. Needs s e i)
  shows tree.Empty = show_empty (λ _. ⊥)
  shows (tree.OneOf set) = show_bytes set
  shows tree.Start = show_start
  shows tree.End = record { by = λ n pc i f h asks p. show_end_of n pc i f h asks p }
  shows (tree.Join a b) = show_join (code_of a) (code_of b) (λ i j. Ends false s a i j) (λ i j. Ends false s b i j) (λ i. Needs s a i) (λ i. Needs s b i) (shows a) (shows b)
  shows (tree.Either a b) = show_either (code_of a) (code_of b) (λ i j. Ends false s a i j) (λ i j. Ends false s b i j) (λ i. Needs s a i) (λ i. Needs s b i) (shows a) (shows b)
  shows (tree.Group a) = shows a
  shows (tree.Repeat a count) = show_count (code_of a) (λ i j. Ends false s a i j) (λ i. Needs s a i) (shows a) count

-- no state at or after the end asks
past_end : (code : List Instruction) (s : List ℕ) (n q i f : ℕ) → length code ≤ q → AsksAt code f → Path code false s n q i f (length s) → ⊥
past_end code s zero q i f le a p = omega (arith, p.0, slice_get_within code f a.0 a.1)
past_end code s (suc n) q i f le a p = omega (arith, slice_get_within code q p.2.0 p.2.1)

-- the whole code asks exactly where the tree needs to know
pub wants_is : (code : List Instruction) (s : List ℕ) (e : Tree) (i : ℕ) → code ≡ code_of e → WantsFrom code false s i ↔ Needs s e i
wants_is code s e i is =
    let c = code_of e in
    subst (λ k. WantsFrom k false s i ↔ Needs s e i) (sym is) (
      λ w. elim ((shows c s e).by w.1 0 i w.0 (has_all c []) w.3 w.2) [ inl n ↦ n | inr x ↦ absurd (past_end c s x.1 (0 + length c) x.0 w.0 (omega arith) w.3 x.4) ],
      λ n. let w = (reaches c s e).by 0 i (has_all c []) n in (w.0, w.2.0, w.2.1, w.1),
    )
