-- A path through a tree's instructions is a match of the tree, and the other way round.
use Rattle.std.proofs.Common.{◌≡◌, ℕ, zero, suc, ◌+◌, ◌-◌, ◌<◌, ◌≤◌, ◌⊎◌, inl, inr, Bool, List, [], ◌∷◌, ◌++◌, length, Some, refl, sym, ap, ◌∙◌, subst, arith, append_assoc, length-append}
use Rattle.std.specs.Prelude.{slice_get}
use Rattle.std.proofs.Math.Seq.{get_or-append_seam}
use Rattle.std.proofs.lemmas.Option.{slice_get-get_or}
use Rattle.rawk_ere_tree.specs.declared.node.Count.{Count}
use Rattle.rawk_ere_tree.specs.declared.node.Count.TheVariants.{Star, Plus, Maybe, AtLeast, Between}
use Rattle.rawk_ere_tree.specs.Tree.{Tree}
use Rattle.rawk_ere_tree.specs.Tree as tree
use Rattle.rawk_ere_tree.specs.declared.code.Instruction.{Instruction}
use Rattle.rawk_ere_tree.specs.declared.code.Instruction.TheVariants.{Bytes, Start, End, Split, Go, Back, Fork}
use Rattle.rawk_ere_tree.specs.ByteSets.{IsIn}
use Rattle.rawk_ere_tree.specs.Ends.{Allows, Times, IsLast, Ends}
use Rattle.rawk_ere_tree.specs.Code.{star_code, plus_code, maybe_code, times_code, maybes_code, count_code, either_code, code_of, Hops, Takes, Step, Path}

-- the instructions stand in the code at this place
abbrev pub HasAt : List Instruction → ℕ → List Instruction → Type 0
HasAt code pc [] = Unit {0}
HasAt code pc (i ∷ is) = (slice_get code pc ≡ Some i) × HasAt code (pc + 1) is

pub has_front : (code : List Instruction) (pc : ℕ) (a b : List Instruction) → HasAt code pc (a ++ b) → HasAt code pc a
has_front code pc [] b h = tt
has_front code pc (i ∷ a) b h = (h.0, has_front code (pc + 1) a b h.1)

pub has_back : (code : List Instruction) (pc : ℕ) (a b : List Instruction) → HasAt code pc (a ++ b) → HasAt code (pc + length a) b
has_back code pc [] b h = let e : pc ≡ pc + 0 = omega arith in subst (λ n. HasAt code n b) e h
has_back code pc (i ∷ a) b h =
    let e : pc + 1 + length a ≡ pc + length (i ∷ a) = omega arith in
    subst (λ n. HasAt code n b) e (has_back code (pc + 1) a b h.1)

pub has_all : (is pre : List Instruction) → HasAt (pre ++ is) (length pre) is
has_all [] pre = tt
has_all (i ∷ is) pre =
    let within : length pre < length (pre ++ i ∷ is) = omega (arith, length-append pre (i ∷ is)) in
    let here = slice_get-get_or (pre ++ i ∷ is) (length pre) i within ∙ ap Some (get_or-append_seam pre i is i) in
    let n : length (pre ++ i ∷ []) ≡ length pre + 1 = omega (arith, length-append pre (i ∷ [])) in
    let rest = has_all is (pre ++ i ∷ []) in
    let rest' = subst (λ l. HasAt l (length (pre ++ i ∷ [])) is) (append_assoc pre (i ∷ []) is) rest in
    (here, subst (λ m. HasAt (pre ++ i ∷ is) m is) n rest')

module _ (code : List Instruction) (closed : Bool) (s : List ℕ) where
  -- some number of steps
  abbrev pub Leads : ℕ → ℕ → ℕ → ℕ → Type 0
  Leads q i f j = (n : ℕ) × Path code closed s n q i f j

  -- what one step from a known instruction does
  abbrev pub Does : ℕ → ℕ → Instruction → ℕ → ℕ → Type 0
  Does q i instr r j = (Hops (i ≡ 0) (IsLast closed s i) q instr r × (i ≡ j)) ⊎ ((b : ℕ) × (slice_get s i ≡ Some b) × Takes instr b × (r ≡ q + 1) × (i + 1 ≡ j))

  pub known_step : (q i r j : ℕ) (x : Instruction) → slice_get code q ≡ Some x → Step code closed s q i r j → Does q i x r j
  known_step q i r j x h st = let e : st.0 ≡ x = cc in subst (λ y. Does q i y r j) e st.2

  pub hop : (q i r f j : ℕ) (x : Instruction) → slice_get code q ≡ Some x → Hops (i ≡ 0) (IsLast closed s i) q x r → Leads r i f j → Leads q i f j
  hop q i r f j x h hs l = (suc l.0, (r, i, (x, h, inl (hs, refl)), l.1))

  pub from : (q q' i f j : ℕ) → q ≡ q' → Leads q i f j → Leads q' i f j
  from q q' i f j e l = subst (λ r. Leads r i f j) e l

  -- a part's code leads wherever R does
  pub record Completes (part : List Instruction) (R : ℕ → ℕ → Type 0) : Type 0 where
    pub by : (pc i k f j : ℕ) → HasAt code pc part → R i k → Leads (pc + length part) k f j → Leads pc i f j

  -- a way through a part's code is by R, and the rest is no longer
  pub record Sounds (part : List Instruction) (R : ℕ → ℕ → Type 0) : Type 0 where
    pub by : (n pc i f j : ℕ) → HasAt code pc part → pc + length part ≤ f → Path code closed s n pc i f j → (k : ℕ) × (m : ℕ) × (m ≤ n) × R i k × Path code closed s m (pc + length part) k f j

  empty_completes : Completes [] (λ i j. i ≡ j)
  empty_completes = record { by = λ pc i k f j h e l. subst (λ x. Leads pc x f j) (sym e) (let z : pc + 0 ≡ pc = omega arith in from (pc + 0) pc k f j z l) }

  join_completes : (a b : List Instruction) (R Q : ℕ → ℕ → Type 0) → Completes a R → Completes b Q → Completes (a ++ b) (λ i j. (middle : ℕ) × R i middle × Q middle j)
  join_completes a b R Q ca cb = record {
    by = λ pc i k f j h r l.
        let e : pc + length (a ++ b) ≡ pc + length a + length b = omega (arith, length-append a b) in
        ca.by pc i r.0 f j (has_front code pc a b h) r.1 (cb.by (pc + length a) r.0 k f j (has_back code pc a b h) r.2 (from _ _ k f j e l));
  }

  either_completes : (a b : List Instruction) (R Q : ℕ → ℕ → Type 0) → Completes a R → Completes b Q → Completes (either_code a b) (λ i j. R i j ⊎ Q i j)
  either_completes a b R Q ca cb = record {
    by = λ pc i k f j h r l.
        let ha = has_front code (pc + 1) a (Go (length b + 1) ∷ b) h.1 in
        let hg = has_back code (pc + 1) a (Go (length b + 1) ∷ b) h.1 in
        let len = length-append a (Go (length b + 1) ∷ b) in
        let e1 : pc + length (either_code a b) ≡ pc + 1 + length a + (length b + 1) = omega arith in
        let e2 : pc + length (either_code a b) ≡ pc + 1 + length a + 1 + length b = omega arith in
        let e3 : pc + 1 + length a + 1 ≡ pc + (length a + 2) = omega arith in
        elim r [
          | inl x ↦ hop pc i (pc + 1) f j (Split (length a + 2)) h.0 (inl refl) (ca.by (pc + 1) i k f j ha x (hop (pc + 1 + length a) k _ f j (Go (length b + 1)) hg.0 refl (from _ _ k f j e1 l)))
          | inr y ↦ hop pc i (pc + (length a + 2)) f j (Split (length a + 2)) h.0 (inr refl) (from _ _ i f j e3 (cb.by (pc + 1 + length a + 1) i k f j hg.1 y (from _ _ k f j e2 l)))
        ];
  }

  pub maybe_go : (a : List Instruction) (R : ℕ → ℕ → Type 0) → Completes a R → (pc i k f j : ℕ) → HasAt code pc (maybe_code a) → (n : ℕ) → n ≤ 1 → Times R n i k → Leads (pc + length (maybe_code a)) k f j → Leads pc i f j
  maybe_go a R ca pc i k f j h zero le t l =
      let e : pc + length (maybe_code a) ≡ pc + (length a + 1) = omega arith in
      subst (λ x. Leads pc x f j) (sym t) (hop pc k _ f j (Split (length a + 1)) h.0 (inr refl) (from _ _ k f j e l))
  maybe_go a R ca pc i k f j h (suc zero) le t l =
      let l' = subst (λ x. Leads (pc + length (maybe_code a)) x f j) (sym t.2) l in
      let e : pc + length (maybe_code a) ≡ pc + 1 + length a = omega arith in
      hop pc i (pc + 1) f j (Split (length a + 1)) h.0 (inl refl) (ca.by (pc + 1) i t.0 f j h.1 t.1 (from _ _ t.0 f j e l'))
  maybe_go a R ca pc i k f j h (suc (suc n)) le t l = absurd (omega arith)

  maybe_completes : (a : List Instruction) (R : ℕ → ℕ → Type 0) → Completes a R → Completes (maybe_code a) (λ i j. (n : ℕ) × (n ≤ 1) × Times R n i j)
  maybe_completes a R ca = record { by = λ pc i k f j h r l. maybe_go a R ca pc i k f j h r.0 r.1 r.2 l }

  star_go : (a : List Instruction) (R : ℕ → ℕ → Type 0) → Completes a R → (pc i k f j : ℕ) → HasAt code pc (star_code a) → (n : ℕ) → Times R n i k → Leads (pc + length (star_code a)) k f j → Leads pc i f j
  star_go a R ca pc i k f j h zero t l =
      let e : pc + length (star_code a) ≡ pc + (length a + 2) = omega (arith, length-append a (Back (length a + 1) ∷ [])) in
      subst (λ x. Leads pc x f j) (sym t) (hop pc k _ f j (Split (length a + 2)) h.0 (inr refl) (from _ _ k f j e l))
  star_go a R ca pc i k f j h (suc n) t l =
      let again = star_go a R ca pc t.0 k f j h n t.2 l in
      let hb = has_back code (pc + 1) a (Back (length a + 1) ∷ []) h.1 in
      let e : pc ≡ pc + 1 + length a - (length a + 1) = omega arith in
      hop pc i (pc + 1) f j (Split (length a + 2)) h.0 (inl refl) (ca.by (pc + 1) i t.0 f j (has_front code (pc + 1) a _ h.1) t.1 (hop (pc + 1 + length a) t.0 pc f j (Back (length a + 1)) hb.0 e again))

  plus_go : (a : List Instruction) (R : ℕ → ℕ → Type 0) → Completes a R → (pc i k f j : ℕ) → HasAt code pc (plus_code a) → (n : ℕ) → Times R (suc n) i k → Leads (pc + length (plus_code a)) k f j → Leads pc i f j
  plus_go a R ca pc i k f j h zero t l =
      let l' = subst (λ x. Leads (pc + length (plus_code a)) x f j) (sym t.2) l in
      let hb = has_back code pc a (Fork (length a) ∷ []) h in
      let e : pc + length (plus_code a) ≡ pc + length a + 1 = omega (arith, length-append a (Fork (length a) ∷ [])) in
      ca.by pc i t.0 f j (has_front code pc a _ h) t.1 (hop (pc + length a) t.0 (pc + length a + 1) f j (Fork (length a)) hb.0 (inl refl) (from _ _ t.0 f j e l'))
  plus_go a R ca pc i k f j h (suc n) t l =
      let again = plus_go a R ca pc t.0 k f j h n t.2 l in
      let hb = has_back code pc a (Fork (length a) ∷ []) h in
      let e : pc ≡ pc + length a - length a = omega arith in
      ca.by pc i t.0 f j (has_front code pc a _ h) t.1 (hop (pc + length a) t.0 pc f j (Fork (length a)) hb.0 (inr e) again)

  pub times_go : (a : List Instruction) (R : ℕ → ℕ → Type 0) → Completes a R → (n : ℕ) → Completes (times_code n a) (λ i j. Times R n i j)
  times_go a R ca zero = empty_completes
  times_go a R ca (suc n) = join_completes a (times_code n a) R (λ i j. Times R n i j) ca (times_go a R ca n)

  maybes_go : (a : List Instruction) (R : ℕ → ℕ → Type 0) → Completes a R → (n : ℕ) → (pc i k f j : ℕ) → HasAt code pc (maybes_code n a) → (m : ℕ) → m ≤ n → Times R m i k → Leads (pc + length (maybes_code n a)) k f j → Leads pc i f j
  maybes_go a R ca zero pc i k f j h zero le t l = empty_completes.by pc i k f j h t l
  maybes_go a R ca zero pc i k f j h (suc m) le t l = absurd (omega arith)
  maybes_go a R ca (suc n) pc i k f j h zero le t l =
      let e : pc + length (maybe_code a ++ maybes_code n a) ≡ pc + length (maybe_code a) + length (maybes_code n a) = omega (arith, length-append (maybe_code a) (maybes_code n a)) in
      maybe_go a R ca pc i i f j (has_front code pc (maybe_code a) (maybes_code n a) h) 0 (omega arith) refl (maybes_go a R ca n (pc + length (maybe_code a)) i k f j (has_back code pc (maybe_code a) (maybes_code n a) h) 0 (omega arith) t (from _ _ k f j e l))
  maybes_go a R ca (suc n) pc i k f j h (suc m) le t l =
      let e : pc + length (maybe_code a ++ maybes_code n a) ≡ pc + length (maybe_code a) + length (maybes_code n a) = omega (arith, length-append (maybe_code a) (maybes_code n a)) in
      maybe_go a R ca pc i t.0 f j (has_front code pc (maybe_code a) (maybes_code n a) h) 1 (omega arith) (t.0, t.1, refl) (maybes_go a R ca n (pc + length (maybe_code a)) t.0 k f j (has_back code pc (maybe_code a) (maybes_code n a) h) m (omega arith) t.2 (from _ _ k f j e l))

  -- m matches and then n more
  pub split_times : (R : ℕ → ℕ → Type 0) (m n i j : ℕ) → Times R (m + n) i j → (k : ℕ) × Times R m i k × Times R n k j
  split_times R zero n i j t = (i, refl, let z : 0 + n ≡ n = omega arith in subst (λ x. Times R x i j) z t)
  split_times R (suc m) n i j t =
      let z : suc m + n ≡ suc (m + n) = omega arith in
      let u = subst (λ x. Times R x i j) z t in
      let r = split_times R m n u.0 j u.2 in
      (r.0, (u.0, u.1, r.1), r.2)

  count_completes : (a : List Instruction) (R : ℕ → ℕ → Type 0) → Completes a R → (count : Count) → Completes (count_code count a) (λ i j. (k : ℕ) × Allows count k × Times R k i j)
  count_completes a R ca Star = record { by = λ pc i k f j h r l. star_go a R ca pc i k f j h r.0 r.2 l }
  count_completes a R ca Plus = record {
    by = λ pc i k f j h r l.
        let e : r.0 ≡ suc (r.0 - 1) = omega (arith, r.1) in
        plus_go a R ca pc i k f j h (r.0 - 1) (subst (λ n. Times R n i k) e r.2) l;
  }
  count_completes a R ca Maybe = maybe_completes a R ca
  count_completes a R ca (AtLeast zero) = record { by = λ pc i k f j h r l. star_go a R ca pc i k f j h r.0 r.2 l }
  count_completes a R ca (AtLeast (suc m)) = record {
    by = λ pc i k f j h r l.
        let e : r.0 ≡ m + suc (r.0 - suc m) = omega (arith, r.1) in
        let t = split_times R m (suc (r.0 - suc m)) i k (subst (λ n. Times R n i k) e r.2) in
        let p : Completes (plus_code a) (λ x y. Times R (suc (r.0 - suc m)) x y) = record { by = λ pc i k f j h q l. plus_go a R ca pc i k f j h (r.0 - suc m) q l } in
        (join_completes (times_code m a) (plus_code a) _ _ (times_go a R ca m) p).by pc i k f j h t l;
  }
  count_completes a R ca (Between m more) = record {
    by = λ pc i k f j h r l.
        let e : r.0 ≡ m + (r.0 - m) = omega (arith, r.1) in
        let t = split_times R m (r.0 - m) i k (subst (λ n. Times R n i k) e r.2) in
        let le : r.0 - m ≤ more = omega (arith, r.1) in
        let p : Completes (maybes_code more a) (λ x y. Times R (r.0 - m) x y) = record { by = λ pc i k f j h q l. maybes_go a R ca more pc i k f j h (r.0 - m) le q l } in
        (join_completes (times_code m a) (maybes_code more a) _ _ (times_go a R ca m) p).by pc i k f j h t l;
  }

  -- wherever the tree matches, its code leads
  pub completes : (e : Tree) → Completes (code_of e) (λ i j. Ends closed s e i j)
  completes tree.Empty = empty_completes
  completes (tree.OneOf set) = record { by = λ pc i k f j h r l. (suc l.0, (pc + 1, k, (Bytes set, h.0, inr (r.0, r.1, r.2, refl, r.3)), l.1)) }
  completes tree.Start = record { by = λ pc i k f j h r l. subst (λ x. Leads pc x f j) (sym r.1) (hop pc k (pc + 1) f j Start h.0 (sym r.1 ∙ r.0, refl) l) }
  completes tree.End = record { by = λ pc i k f j h r l. subst (λ x. Leads pc x f j) (sym r.1) (hop pc k (pc + 1) f j End h.0 (subst (λ x. IsLast closed s x) r.1 r.0, refl) l) }
  completes (tree.Join a b) = join_completes (code_of a) (code_of b) (λ i j. Ends closed s a i j) (λ i j. Ends closed s b i j) (completes a) (completes b)
  completes (tree.Either a b) = either_completes (code_of a) (code_of b) (λ i j. Ends closed s a i j) (λ i j. Ends closed s b i j) (completes a) (completes b)
  completes (tree.Group a) = completes a
  completes (tree.Repeat a count) = count_completes (code_of a) (λ i j. Ends closed s a i j) (completes a) count

  -- the rest of a way that has passed a part's code by R
  abbrev pub After : ℕ → (ℕ → ℕ → Type 0) → ℕ → ℕ → ℕ → ℕ → Type 0
  After n R i to f j = (k : ℕ) × (m : ℕ) × (m ≤ n) × R i k × Path code closed s m to k f j

  pub ends_in : (m q q' i f j : ℕ) → q ≡ q' → Path code closed s m q i f j → Path code closed s m q' i f j
  ends_in m q q' i f j e p = subst (λ r. Path code closed s m r i f j) e p

  -- a way from a known instruction before the end goes by a step of that instruction
  goes : (n q i f j : ℕ) (x : Instruction) → slice_get code q ≡ Some x → q < f → Path code closed s n q i f j → (m : ℕ) × (r : ℕ) × (k : ℕ) × (suc m ≡ n) × Does q i x r k × Path code closed s m r k f j
  goes zero q i f j x h lt p = absurd (omega (arith, p.0))
  goes (suc m) q i f j x h lt p = (m, p.0, p.1, refl, known_step q i p.0 p.1 x h p.2, p.3)

  empty_sounds : Sounds [] (λ i j. i ≡ j)
  empty_sounds = record { by = λ n pc i f j h le p. let e : pc ≡ pc + 0 = omega arith in (i, n, omega arith, refl, ends_in n pc (pc + 0) i f j e p) }

  bytes_sounds : (set : List ℕ) → Sounds (Bytes set ∷ []) (λ i j. (b : ℕ) × (slice_get s i ≡ Some b) × IsIn b set × (i + 1 ≡ j))
  bytes_sounds set = record {
    by = λ n pc i f j h le p.
        let g = goes n pc i f j (Bytes set) h.0 (omega arith) p in
        elim g.4 [ inl x ↦ absurd x.0 | inr x ↦ (g.2, g.0, omega (arith, g.3), (x.0, x.1, x.2, x.4), ends_in g.0 g.1 (pc + 1) g.2 f j x.3 g.5) ];
  }

  start_sounds : Sounds (Start ∷ []) (λ i j. (i ≡ 0) × (i ≡ j))
  start_sounds = record {
    by = λ n pc i f j h le p.
        let g = goes n pc i f j Start h.0 (omega arith) p in
        elim g.4 [ inl x ↦ (g.2, g.0, omega (arith, g.3), (x.0.0, x.1), ends_in g.0 g.1 (pc + 1) g.2 f j x.0.1 g.5) | inr x ↦ absurd x.2 ];
  }

  end_sounds : Sounds (End ∷ []) (λ i j. IsLast closed s i × (i ≡ j))
  end_sounds = record {
    by = λ n pc i f j h le p.
        let g = goes n pc i f j End h.0 (omega arith) p in
        elim g.4 [ inl x ↦ (g.2, g.0, omega (arith, g.3), (x.0.0, x.1), ends_in g.0 g.1 (pc + 1) g.2 f j x.0.1 g.5) | inr x ↦ absurd x.2 ];
  }

  join_sounds : (a b : List Instruction) (R Q : ℕ → ℕ → Type 0) → Sounds a R → Sounds b Q → Sounds (a ++ b) (λ i j. (middle : ℕ) × R i middle × Q middle j)
  join_sounds a b R Q sa sb = record {
    by = λ n pc i f j h le p.
        let e : pc + length a + length b ≡ pc + length (a ++ b) = omega (arith, length-append a b) in
        let x = sa.by n pc i f j (has_front code pc a b h) (omega arith) p in
        let y = sb.by x.1 (pc + length a) x.0 f j (has_back code pc a b h) (omega arith) x.4 in
        (y.0, y.1, omega (arith, x.2, y.2), (x.0, x.3, y.3), ends_in _ _ _ _ f j e y.4);
  }

  either_sounds : (a b : List Instruction) (R Q : ℕ → ℕ → Type 0) → Sounds a R → Sounds b Q → Sounds (either_code a b) (λ i j. R i j ⊎ Q i j)
  either_sounds a b R Q sa sb = record {
    by = λ n pc i f j h le p.
        let ha = has_front code (pc + 1) a (Go (length b + 1) ∷ b) h.1 in
        let hg = has_back code (pc + 1) a (Go (length b + 1) ∷ b) h.1 in
        let len = length-append a (Go (length b + 1) ∷ b) in
        let e1 : pc + 1 + length a + (length b + 1) ≡ pc + length (either_code a b) = omega arith in
        let e2 : pc + 1 + length a + 1 + length b ≡ pc + length (either_code a b) = omega arith in
        let e3 : pc + (length a + 2) ≡ pc + 1 + length a + 1 = omega arith in
        let g = goes n pc i f j (Split (length a + 2)) h.0 (omega arith) p in
        elim g.4 [
          | inr x ↦ absurd x.2
          | inl x ↦
              elim x.0 [
                | inl t ↦
                    let ya = sa.by g.0 (pc + 1) g.2 f j ha (omega arith) (ends_in _ _ _ _ f j t g.5) in
                    let z = goes ya.1 (pc + 1 + length a) ya.0 f j (Go (length b + 1)) hg.0 (omega arith) ya.4 in
                    elim z.4 [
                      | inr w ↦ absurd w.2
                      | inl w ↦ (z.2, z.0, omega (arith, g.3, ya.2, z.3), inl (let at : (g.2 ≡ i) × (ya.0 ≡ z.2) = (sym x.1, w.1) in subst (λ v. R v z.2) at.0 (subst (λ v. R g.2 v) at.1 ya.3)), ends_in _ _ _ _ f j (w.0 ∙ e1) z.5)
                    ]
                | inr t ↦
                    let yb = sb.by g.0 (pc + 1 + length a + 1) g.2 f j hg.1 (omega arith) (ends_in _ _ _ _ f j (t ∙ e3) g.5) in
                    (yb.0, yb.1, omega (arith, g.3, yb.2), inr (subst (λ v. Q v yb.0) (sym x.1) yb.3), ends_in _ _ _ _ f j e2 yb.4)
              ]
        ];
  }

  maybe_sounds : (a : List Instruction) (R : ℕ → ℕ → Type 0) → Sounds a R → Sounds (maybe_code a) (λ i j. (n : ℕ) × (n ≤ 1) × Times R n i j)
  maybe_sounds a R sa = record {
    by = λ n pc i f j h le p.
        let e1 : pc + 1 + length a ≡ pc + length (maybe_code a) = omega arith in
        let e2 : pc + (length a + 1) ≡ pc + length (maybe_code a) = omega arith in
        let g = goes n pc i f j (Split (length a + 1)) h.0 (omega arith) p in
        elim g.4 [
          | inr x ↦ absurd x.2
          | inl x ↦
              elim x.0 [
                | inl t ↦
                    let y = sa.by g.0 (pc + 1) g.2 f j h.1 (omega arith) (ends_in _ _ _ _ f j t g.5) in
                    (y.0, y.1, omega (arith, g.3, y.2), (1, omega arith, (y.0, subst (λ v. R v y.0) (sym x.1) y.3, refl)), ends_in _ _ _ _ f j e1 y.4)
                | inr t ↦ (g.2, g.0, omega (arith, g.3), (0, omega arith, x.1), ends_in _ _ _ _ f j (t ∙ e2) g.5)
              ]
        ];
  }

  -- by how many times the way goes round
  star_s : (a : List Instruction) (R : ℕ → ℕ → Type 0) → Sounds a R → (bound n pc i f j : ℕ) → n ≤ bound → HasAt code pc (star_code a) → pc + length (star_code a) ≤ f → Path code closed s n pc i f j → After n (λ x y. (k : ℕ) × Times R k x y) i (pc + length (star_code a)) f j
  star_s a R sa zero n pc i f j lb h le p =
      let len = length-append a (Back (length a + 1) ∷ []) in
      let g = goes n pc i f j (Split (length a + 2)) h.0 (omega arith) p in
      absurd (omega (arith, g.3))
  star_s a R sa (suc bound) n pc i f j lb h le p =
      let len = length-append a (Back (length a + 1) ∷ []) in
      let hb = has_back code (pc + 1) a (Back (length a + 1) ∷ []) h.1 in
      let e : pc + (length a + 2) ≡ pc + length (star_code a) = omega arith in
      let eb : pc + 1 + length a - (length a + 1) ≡ pc = omega arith in
      let g = goes n pc i f j (Split (length a + 2)) h.0 (omega arith) p in
      elim g.4 [
        | inr x ↦ absurd x.2
        | inl x ↦
            elim x.0 [
              | inl t ↦
                  let y = sa.by g.0 (pc + 1) g.2 f j (has_front code (pc + 1) a _ h.1) (omega arith) (ends_in _ _ _ _ f j t g.5) in
                  let z = goes y.1 (pc + 1 + length a) y.0 f j (Back (length a + 1)) hb.0 (omega arith) y.4 in
                  elim z.4 [
                    | inr w ↦ absurd w.2
                    | inl w ↦
                        let again = star_s a R sa bound z.0 pc z.2 f j (omega (arith, g.3, y.2, z.3)) h le (ends_in _ _ _ _ f j (w.0 ∙ eb) z.5) in
                        (again.0, again.1, omega (arith, g.3, y.2, z.3, again.2), (suc again.3.0, (y.0, subst (λ v. R v y.0) (sym x.1) y.3, subst (λ v. Times R again.3.0 v again.0) (sym w.1) again.3.1)), again.4)
                  ]
              | inr t ↦ (g.2, g.0, omega (arith, g.3), (0, x.1), ends_in _ _ _ _ f j (t ∙ e) g.5)
            ]
      ]

  plus_s : (a : List Instruction) (R : ℕ → ℕ → Type 0) → Sounds a R → (bound n pc i f j : ℕ) → n ≤ bound → HasAt code pc (plus_code a) → pc + length (plus_code a) ≤ f → Path code closed s n pc i f j → After n (λ x y. (k : ℕ) × Times R (suc k) x y) i (pc + length (plus_code a)) f j
  plus_s a R sa zero n pc i f j lb h le p =
      let len = length-append a (Fork (length a) ∷ []) in
      let hb = has_back code pc a (Fork (length a) ∷ []) h in
      let y = sa.by n pc i f j (has_front code pc a _ h) (omega arith) p in
      let z = goes y.1 (pc + length a) y.0 f j (Fork (length a)) hb.0 (omega arith) y.4 in
      absurd (omega (arith, y.2, z.3))
  plus_s a R sa (suc bound) n pc i f j lb h le p =
      let len = length-append a (Fork (length a) ∷ []) in
      let hb = has_back code pc a (Fork (length a) ∷ []) h in
      let e : pc + length a + 1 ≡ pc + length (plus_code a) = omega arith in
      let eb : pc + length a - length a ≡ pc = omega arith in
      let y = sa.by n pc i f j (has_front code pc a _ h) (omega arith) p in
      let z = goes y.1 (pc + length a) y.0 f j (Fork (length a)) hb.0 (omega arith) y.4 in
      elim z.4 [
        | inr w ↦ absurd w.2
        | inl w ↦
            elim w.0 [
              | inl t ↦ (z.2, z.0, omega (arith, y.2, z.3), (0, (y.0, y.3, w.1)), ends_in _ _ _ _ f j (t ∙ e) z.5)
              | inr t ↦
                  let again = plus_s a R sa bound z.0 pc z.2 f j (omega (arith, y.2, z.3)) h le (ends_in _ _ _ _ f j (t ∙ eb) z.5) in
                  (again.0, again.1, omega (arith, y.2, z.3, again.2), (suc again.3.0, (y.0, y.3, subst (λ v. Times R (suc again.3.0) v again.0) (sym w.1) again.3.1)), again.4)
            ]
      ]

  times_s : (a : List Instruction) (R : ℕ → ℕ → Type 0) → Sounds a R → (n : ℕ) → Sounds (times_code n a) (λ i j. Times R n i j)
  times_s a R sa zero = empty_sounds
  times_s a R sa (suc n) = join_sounds a (times_code n a) R (λ i j. Times R n i j) sa (times_s a R sa n)

  pub join_times : (R : ℕ → ℕ → Type 0) (m n i j k : ℕ) → Times R m i k → Times R n k j → Times R (m + n) i j
  join_times R zero n i j k t u = let z : n ≡ 0 + n = omega arith in subst (λ x. Times R x i j) z (subst (λ v. Times R n v j) (sym t) u)
  join_times R (suc m) n i j k t u = let z : suc (m + n) ≡ suc m + n = omega arith in subst (λ x. Times R x i j) z (t.0, t.1, join_times R m n t.0 j k t.2 u)

  maybes_s : (a : List Instruction) (R : ℕ → ℕ → Type 0) → Sounds a R → (n : ℕ) → Sounds (maybes_code n a) (λ i j. (k : ℕ) × (k ≤ n) × Times R k i j)
  maybes_s a R sa zero = record { by = λ n pc i f j h le p. let x = empty_sounds.by n pc i f j h le p in (x.0, x.1, x.2, (0, omega arith, x.3), x.4) }
  maybes_s a R sa (suc n) = record {
    by = λ c pc i f j h le p.
        let x = (join_sounds (maybe_code a) (maybes_code n a) _ _ (maybe_sounds a R sa) (maybes_s a R sa n)).by c pc i f j h le p in
        (x.0, x.1, x.2, (x.3.1.0 + x.3.2.0, omega (arith, x.3.1.1, x.3.2.1), join_times R x.3.1.0 x.3.2.0 i x.0 x.3.0 x.3.1.2 x.3.2.2), x.4);
  }

  count_sounds : (a : List Instruction) (R : ℕ → ℕ → Type 0) → Sounds a R → (count : Count) → Sounds (count_code count a) (λ i j. (k : ℕ) × Allows count k × Times R k i j)
  count_sounds a R sa Star = record { by = λ n pc i f j h le p. let x = star_s a R sa n n pc i f j (omega arith) h le p in (x.0, x.1, x.2, (x.3.0, tt, x.3.1), x.4) }
  count_sounds a R sa Plus = record { by = λ n pc i f j h le p. let x = plus_s a R sa n n pc i f j (omega arith) h le p in (x.0, x.1, x.2, (suc x.3.0, omega arith, x.3.1), x.4) }
  count_sounds a R sa Maybe = maybe_sounds a R sa
  count_sounds a R sa (AtLeast zero) = record { by = λ n pc i f j h le p. let x = star_s a R sa n n pc i f j (omega arith) h le p in (x.0, x.1, x.2, (x.3.0, omega arith, x.3.1), x.4) }
  count_sounds a R sa (AtLeast (suc m)) = record {
    by = λ n pc i f j h le p.
        let ps : Sounds (plus_code a) (λ x y. (k : ℕ) × Times R (suc k) x y) = record { by = λ n pc i f j h le p. plus_s a R sa n n pc i f j (omega arith) h le p } in
        let x = (join_sounds (times_code m a) (plus_code a) _ _ (times_s a R sa m) ps).by n pc i f j h le p in
        (x.0, x.1, x.2, (m + suc x.3.2.0, omega arith, join_times R m (suc x.3.2.0) i x.0 x.3.0 x.3.1 x.3.2.1), x.4);
  }
  count_sounds a R sa (Between m more) = record {
    by = λ n pc i f j h le p.
        let x = (join_sounds (times_code m a) (maybes_code more a) _ _ (times_s a R sa m) (maybes_s a R sa more)).by n pc i f j h le p in
        (x.0, x.1, x.2, (m + x.3.2.0, (omega arith, omega (arith, x.3.2.1)), join_times R m x.3.2.0 i x.0 x.3.0 x.3.1 x.3.2.2), x.4);
  }

  -- every way through the tree's code is a match of the tree
  pub sounds : (e : Tree) → Sounds (code_of e) (λ i j. Ends closed s e i j)
  sounds tree.Empty = empty_sounds
  sounds (tree.OneOf set) = bytes_sounds set
  sounds tree.Start = start_sounds
  sounds tree.End = end_sounds
  sounds (tree.Join a b) = join_sounds (code_of a) (code_of b) (λ i j. Ends closed s a i j) (λ i j. Ends closed s b i j) (sounds a) (sounds b)
  sounds (tree.Either a b) = either_sounds (code_of a) (code_of b) (λ i j. Ends closed s a i j) (λ i j. Ends closed s b i j) (sounds a) (sounds b)
  sounds (tree.Group a) = sounds a
  sounds (tree.Repeat a count) = count_sounds (code_of a) (λ i j. Ends closed s a i j) (sounds a) count
