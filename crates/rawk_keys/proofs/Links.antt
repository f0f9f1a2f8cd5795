-- Chains of items with a label.
use Rattle.std.proofs.Common.{◌≡◌, ℕ, suc, zero, ◌+◌, ◌-◌, ◌<◌, ◌≤◌, List, [], ◌∷◌, ◌++◌, inl, inr, length, get_or, set, take, map, refl, sym, ap, ◌∙◌, arith, slice_index, get_or-set_other, get_or-set_same, None}
use Rattle.std.proofs.lemmas.Bool.{cases_eq, cases_lt}
use Rattle.std.proofs.lemmas.List.{get_or_append_left, length-set, map-set, set-get_or, get_or_past, get_or-map, length-map, length-append, map-append, get_or_push, get_or-take}
use Rattle.rawk_keys.specs.Nearest.{IsNearest}
use Rattle.rawk_keys.specs.Linked.{IsPast, IsLinked, chain_of, labels, earliers}
use Rattle.rawk_keys.specs.declared.chains.Link.{Link}

-- a later item of another chain changes nothing
past_more : (count : ℕ) (xs : List ℕ) (n label at : ℕ) → IsPast count xs n label at → (chain_of count (slice_index xs n) ≡ chain_of count label → ⊥) → IsPast count xs (n + 1) label at
past_more count xs n label at h ne = record {
  within = omega (arith, h.within);
  none = λ j le lt. elim (cases_eq j n) [
    | inl s ↦ λ e. ne (ap (chain_of count) (ap (slice_index xs) (sym s) ∙ e))
    | inr d ↦ h.none j le (omega arith)
  ];
  here = h.here;
}

-- the item itself is its chain's newest
past_here : (count : ℕ) (xs : List ℕ) (n label : ℕ) → chain_of count (slice_index xs n) ≡ chain_of count label → IsPast count xs (n + 1) label (n + 1)
past_here count xs n label e = record {
  within = omega arith;
  none = λ j le lt. absurd (omega arith);
  here = λ p. (let k : n + 1 - 1 ≡ n = omega arith in ap (λ i. chain_of count (slice_index xs i)) k) ∙ e;
}

pub linked_more : (count : ℕ) (xs nexts heads : List ℕ) (n b h : ℕ) → n < length nexts → b < count → b ≡ chain_of count (slice_index xs n) → h ≡ slice_index heads b → IsLinked count xs nexts heads n →
    IsLinked count xs (set nexts n h) (set heads b (n + 1)) (n + 1)
linked_more count xs nexts heads n b h lt below is at old = record {
  size = length-set heads b (n + 1) ∙ old.size;
  head_past = λ label. elim (cases_eq (chain_of count label) b) [
    | inl s ↦
        let here : slice_index (set heads b (n + 1)) (chain_of count label) ≡ n + 1 = ap (slice_index (set heads b (n + 1))) s ∙ get_or-set_same heads b (n + 1) 0 (omega (arith, old.size)) in
        rw here (past_here count xs n label (sym is ∙ sym s))
    | inr d ↦
        let other : slice_index (set heads b (n + 1)) (chain_of count label) ≡ slice_index heads (chain_of count label) = get_or-set_other heads b (chain_of count label) (n + 1) 0 d in
        rw other (past_more count xs n label (slice_index heads (chain_of count label)) (old.head_past label) (λ e. d (sym e ∙ sym is)))
  ];
  link_past = λ i label p e. elim (cases_eq i n) [
    | inl s ↦
        let here : slice_index (set nexts n h) i ≡ slice_index heads (chain_of count label) =
        ap (slice_index (set nexts n h)) s ∙ (get_or-set_same nexts n h 0 lt ∙ (at ∙ ap (slice_index heads) (is ∙ (ap (λ k. chain_of count (slice_index xs k)) (sym s) ∙ e)))) in
        rw (here, s) (old.head_past label)
    | inr d ↦
        let other : slice_index (set nexts n h) i ≡ slice_index nexts i = get_or-set_other nexts n i h 0 d in
        rw other (old.link_past i label (omega arith) e)
  ];
}

past_append : (count : ℕ) (xs ys : List ℕ) (n label at : ℕ) → n ≤ length xs → IsPast count xs n label at → IsPast count (xs ++ ys) n label at
past_append count xs ys n label at le h = record {
  within = h.within;
  none = λ j p q e. h.none j p q (sym (get_or_append_left xs ys 0 j (omega arith)) ∙ e);
  here = λ p. ap (chain_of count) (get_or_append_left xs ys 0 (at - 1) (omega (arith, h.within))) ∙ h.here p;
}

pub linked_append : (count : ℕ) (xs nexts heads ys zs : List ℕ) (n : ℕ) → n ≤ length xs → n ≤ length nexts → IsLinked count xs nexts heads n → IsLinked count (xs ++ ys) (nexts ++ zs) heads n
linked_append count xs nexts heads ys zs n le le2 h = record {
  size = h.size;
  head_past = λ label. past_append count xs ys n label (slice_index heads (chain_of count label)) le (h.head_past label);
  link_past = λ i label p e.
      let same : slice_index (nexts ++ zs) i ≡ slice_index nexts i = get_or_append_left nexts zs 0 i (omega arith) in
      rw same (past_append count xs ys i label (slice_index nexts i) (omega arith) (h.link_past i label p (ap (chain_of count) (sym (get_or_append_left xs ys 0 i (omega arith))) ∙ e)));
}

-- one turn of the walk: the item has another label
pub past_next : (count : ℕ) (xs nexts heads : List ℕ) (m n label at : ℕ) → IsLinked count xs nexts heads m → 0 < at → at ≤ m → (slice_index xs (at - 1) ≡ label → ⊥) → IsPast count xs n label at → IsPast count xs n label (slice_index nexts (at - 1))
past_next count xs nexts heads m n label at h pos le ne p =
    let q : IsPast count xs (at - 1) label (slice_index nexts (at - 1)) = h.link_past (at - 1) label (omega arith) (p.here pos) in
    record {
      within = omega (arith, q.within, p.within);
      none = λ j lej lt. elim (cases_lt j (at - 1)) [
        | inl less ↦ q.none j lej less
        | inr more ↦ elim (cases_eq j (at - 1)) [
          | inl s ↦ λ e. ne (ap (slice_index xs) (sym s) ∙ e)
          | inr d ↦ p.none j (omega arith) lt
        ]
      ];
      here = q.here;
    }

-- the walk stays within the links
pub next_within : (count : ℕ) (xs nexts heads : List ℕ) (m at : ℕ) → IsLinked count xs nexts heads m → 0 < at → at ≤ m → slice_index nexts (at - 1) ≤ at - 1
next_within count xs nexts heads m at h pos le =
    let q : IsPast count xs (at - 1) (slice_index xs (at - 1)) (slice_index nexts (at - 1)) = h.link_past (at - 1) (slice_index xs (at - 1)) (omega arith) refl in
    q.within

pub none_here : (count : ℕ) (xs : List ℕ) (n label at : ℕ) → at ≡ 0 → IsPast count xs n label at → IsNearest xs n label None
none_here count xs n label at z p = λ j lt. p.none j (omega arith) lt

pub label_at : (links : List Link) (i : ℕ) (d : Link) → i < length links → slice_index (labels links) i ≡ (get_or links i d).label
label_at links i d h = get_or-map (λ (l : Link). l.label) links i d 0 h

pub earlier_at : (links : List Link) (i : ℕ) (d : Link) → i < length links → slice_index (earliers links) i ≡ (get_or links i d).earlier
earlier_at links i d h = get_or-map (λ (l : Link). l.earlier) links i d 0 h

pub link_within : (count : ℕ) (links : List Link) (heads : List ℕ) (at : ℕ) (d : Link) → IsLinked count (labels links) (earliers links) heads (length links) → 0 < at → at ≤ length links → (get_or links (at - 1) d).earlier ≤ at - 1
link_within count links heads at d h pos le =
    let e : slice_index (earliers links) (at - 1) ≡ (get_or links (at - 1) d).earlier = earlier_at links (at - 1) d (omega arith) in
    rw e at (next_within count (labels links) (earliers links) heads (length links) at h pos le)

pub link_next : (count : ℕ) (links : List Link) (heads : List ℕ) (n label at : ℕ) (d : Link) → IsLinked count (labels links) (earliers links) heads (length links) → 0 < at → at ≤ length links → ((get_or links (at - 1) d).label ≡ label → ⊥) →
    IsPast count (labels links) n label at → IsPast count (labels links) n label (get_or links (at - 1) d).earlier
link_next count links heads n label at d h pos le ne p =
    let e : slice_index (earliers links) (at - 1) ≡ (get_or links (at - 1) d).earlier = earlier_at links (at - 1) d (omega arith) in
    rw e at (past_next count (labels links) (earliers links) heads (length links) n label at h pos le (λ q. ne (sym (label_at links (at - 1) d (omega arith)) ∙ q)) p)

pub empty_heads : (xs nexts heads : List ℕ) (n label : ℕ) → length heads ≡ 0 → IsLinked (length heads) xs nexts heads n → IsNearest xs n label None
empty_heads xs nexts heads n label z h =
    let p : IsPast (length heads) xs n label (slice_index heads (chain_of (length heads) label)) = h.head_past label in
    none_here (length heads) xs n label (slice_index heads (chain_of (length heads) label)) (get_or_past heads (chain_of (length heads) label) 0 (omega arith)) p

-- a link in its chain's place
pub relinked : (count : ℕ) (links : List Link) (heads : List ℕ) (i b : ℕ) (e : Link) → i < length links → b < count → b ≡ chain_of count (slice_index (labels links) i) → e.label ≡ slice_index (labels links) i → e.earlier ≡ slice_index heads b →
    IsLinked count (labels links) (earliers links) heads i → IsLinked count (labels (set links i e)) (earliers (set links i e)) (set heads b (i + 1)) (i + 1)
relinked count links heads i b e lt below is same at h =
    let ls : labels (set links i e) ≡ labels links = map-set (λ (l : Link). l.label) links i e ∙ (ap (set (labels links) i) same ∙ set-get_or (labels links) i 0) in
    let es : earliers (set links i e) ≡ set (earliers links) i e.earlier = map-set (λ (l : Link). l.earlier) links i e in
    rw (ls, es) (linked_more count (labels links) (earliers links) heads i b e.earlier (omega (arith, length-map links (λ (l : Link). l.earlier))) below is at h)

pub labels_same : (links : List Link) (i : ℕ) (e : Link) → e.label ≡ slice_index (labels links) i → labels (set links i e) ≡ labels links
labels_same links i e same = map-set (λ (l : Link). l.label) links i e ∙ (ap (set (labels links) i) same ∙ set-get_or (labels links) i 0)

-- a new link at the head of its chain
pub pushed : (count : ℕ) (links : List Link) (heads : List ℕ) (b : ℕ) (e : Link) → b < count → b ≡ chain_of count e.label → e.earlier ≡ slice_index heads b →
    IsLinked count (labels links) (earliers links) heads (length links) → IsLinked count (labels (links ++ e ∷ [])) (earliers (links ++ e ∷ [])) (set heads b (length links + 1)) (length links + 1)
pushed count links heads b e below is at h =
    let n : ℕ = length links in
    let ls : labels (links ++ e ∷ []) ≡ labels links ++ e.label ∷ [] = map-append (λ (l : Link). l.label) links (e ∷ []) in
    let es : earliers (links ++ e ∷ []) ≡ earliers links ++ e.earlier ∷ [] = map-append (λ (l : Link). l.earlier) links (e ∷ []) in
    let many : length (labels links) ≡ n = length-map links (λ (l : Link). l.label) in
    let many2 : length (earliers links) ≡ n = length-map links (λ (l : Link). l.earlier) in
    let here : slice_index (labels links ++ e.label ∷ []) n ≡ e.label = get_or_push (labels links) e.label 0 n many in
    let there : slice_index (earliers links ++ e.earlier ∷ []) n ≡ e.earlier = get_or_push (earliers links) e.earlier 0 n many2 in
    let same : set (earliers links ++ e.earlier ∷ []) n e.earlier ≡ earliers links ++ e.earlier ∷ [] = ap (set (earliers links ++ e.earlier ∷ []) n) (sym there) ∙ set-get_or (earliers links ++ e.earlier ∷ []) n 0 in
    rw (ls, es, ← same)
    (linked_more count (labels links ++ e.label ∷ []) (earliers links ++ e.earlier ∷ []) heads n b e.earlier (omega (arith, many2, length-append (earliers links) (e.earlier ∷ []))) below (is ∙ ap (chain_of count) (sym here)) at
    (linked_append count (labels links) (earliers links) heads (e.label ∷ []) (e.earlier ∷ []) n (omega (arith, many)) (omega (arith, many2)) h))

-- the links that follow an item's own
pub own_past : (count : ℕ) (links : List Link) (heads : List ℕ) (i : ℕ) (d : Link) → IsLinked count (labels links) (earliers links) heads (length links) → i < length links → IsPast count (labels links) i (slice_index (labels links) i) (get_or links i d).earlier
own_past count links heads i d h lt =
    let e : slice_index (earliers links) i ≡ (get_or links i d).earlier = earlier_at links i d lt in
    rw e at (h.link_past i (slice_index (labels links) i) lt refl)

-- ---- the newest item goes

map_take : {A B : Type 0} (f : A → B) (n : ℕ) (xs : List A) → map f (take n xs) ≡ take n (map f xs)
map_take f zero xs = refl
map_take f (suc n) [] = refl
map_take {B = B} f (suc n) (x ∷ xs) = ap (λ (ys : List B). f x ∷ ys) (map_take f n xs)

past_take : (count : ℕ) (xs : List ℕ) (n label at : ℕ) → IsPast count xs n label at → IsPast count (take n xs) n label at
past_take count xs n label at h = record {
  within = h.within;
  none = λ j p q e. h.none j p q (sym (get_or-take n xs j 0 q) ∙ e);
  here = λ p. ap (chain_of count) (get_or-take n xs (at - 1) 0 (omega (arith, h.within))) ∙ h.here p;
}

past_shorter : (count : ℕ) (xs : List ℕ) (k n label at : ℕ) → k ≤ n → IsPast count xs k label at → IsPast count (take n xs) k label at
past_shorter count xs k n label at le h = record {
  within = h.within;
  none = λ j p q e. h.none j p q (sym (get_or-take n xs j 0 (omega arith)) ∙ e);
  here = λ p. ap (chain_of count) (get_or-take n xs (at - 1) 0 (omega (arith, h.within))) ∙ h.here p;
}

past_less : (count : ℕ) (xs : List ℕ) (n label at : ℕ) → IsPast count xs (n + 1) label at → (chain_of count (slice_index xs n) ≡ chain_of count label → ⊥) → IsPast count xs n label at
past_less count xs n label at h ne = record {
  within = elim (cases_eq at (n + 1)) [
    | inl s ↦ absurd (ne ((let k : n ≡ at - 1 = omega arith in ap (λ i. chain_of count (slice_index xs i)) k) ∙ h.here (omega arith)))
    | inr d ↦ omega (arith, h.within)
  ];
  none = λ j p q. h.none j p (omega arith);
  here = h.here;
}

pub linked_less : (count : ℕ) (xs nexts heads : List ℕ) (n b h : ℕ) → b < count → b ≡ chain_of count (slice_index xs n) → h ≡ slice_index nexts n → IsLinked count xs nexts heads (n + 1) →
    IsLinked count (take n xs) (take n nexts) (set heads b h) n
linked_less count xs nexts heads n b h below is at old = record {
  size = length-set heads b h ∙ old.size;
  head_past = λ label. elim (cases_eq (chain_of count label) b) [
    | inl s ↦
        let here : slice_index (set heads b h) (chain_of count label) ≡ slice_index nexts n = ap (slice_index (set heads b h)) s ∙ (get_or-set_same heads b h 0 (omega (arith, old.size)) ∙ at) in
        rw here (past_take count xs n label (slice_index nexts n) (old.link_past n label (omega arith) (sym is ∙ sym s)))
    | inr d ↦
        let other : slice_index (set heads b h) (chain_of count label) ≡ slice_index heads (chain_of count label) = get_or-set_other heads b (chain_of count label) h 0 d in
        rw other (past_take count xs n label (slice_index heads (chain_of count label)) (past_less count xs n label (slice_index heads (chain_of count label)) (old.head_past label) (λ e. d (sym e ∙ sym is))))
  ];
  link_past = λ i label p e.
      let same : slice_index (take n nexts) i ≡ slice_index nexts i = get_or-take n nexts i 0 p in
      rw same (past_shorter count xs i n label (slice_index nexts i) (omega arith) (old.link_past i label (omega arith) (ap (chain_of count) (sym (get_or-take n xs i 0 p)) ∙ e)));
}

pub dropped : (count : ℕ) (links : List Link) (heads : List ℕ) (n b : ℕ) (d : Link) → length links ≡ n + 1 → b < count → b ≡ chain_of count (get_or links n d).label → IsLinked count (labels links) (earliers links) heads (length links) →
    IsLinked count (labels (take n links)) (earliers (take n links)) (set heads b (get_or links n d).earlier) n
dropped count links heads n b d size below is h =
    let ls : labels (take n links) ≡ take n (labels links) = map_take (λ (l : Link). l.label) n links in
    let es : earliers (take n links) ≡ take n (earliers links) = map_take (λ (l : Link). l.earlier) n links in
    rw (ls, es)
    (linked_less count (labels links) (earliers links) heads n b (get_or links n d).earlier below (is ∙ ap (chain_of count) (sym (label_at links n d (omega arith)))) (sym (earlier_at links n d (omega arith)))
    (rw size at h))

-- where there are links, there are chains
pub some_heads : (xs nexts heads : List ℕ) (n : ℕ) → 0 < n → IsLinked (length heads) xs nexts heads n → length heads ≡ 0 → ⊥
some_heads xs nexts heads n pos h z = empty_heads xs nexts heads n (slice_index xs 0) z h 0 pos refl
