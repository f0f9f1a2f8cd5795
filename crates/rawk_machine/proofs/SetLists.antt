-- Sets, in the order of their points.
use Rattle.std.proofs.Common.{◌≡◌, ℕ, suc, ◌+◌, ◌-◌, ◌<◌, Bool, true, false, List, [], ◌∷◌, ◌++◌, length, take, refl, sym, ap, ◌∙◌, subst, arith, append_assoc, if◌then◌else◌}
use Rattle.std.specs.Prelude.{nat_lt, nat_eq}
use Rattle.std.proofs.lemmas.Bool.{lt-ltb, le-ltb, eq-eqb, ne_eqb}
use Rattle.std.proofs.lemmas.List.{append-nil, length-append}
use Rattle.std.proofs.Math.Seq.{take-append_seam}
use Rattle.rawk_code.specs.Actions.{SetAt, sets_at}
use Rattle.rawk_machine.specs.Kept.{below, but_last, AllBelow, AllOf, EndsWith}

-- an element that is kept or not, before the same
kept_or : (b : Bool) (x : SetAt) (xs ys zs : List SetAt) → xs ≡ ys ++ zs → (if b then x ∷ xs else xs) ≡ (if b then x ∷ ys else ys) ++ zs
kept_or true x xs ys zs e = ap (λ (ws : List SetAt). x ∷ ws) e
kept_or false x xs ys zs e = e

pub below_append : (k : ℕ) (xs ys : List SetAt) → below k (xs ++ ys) ≡ below k xs ++ below k ys
below_append k [] ys = refl
below_append k (x ∷ xs) ys = kept_or (nat_lt x.point k) x (below k (xs ++ ys)) (below k xs) (below k ys) (below_append k xs ys)

pub below_all : (k : ℕ) (xs : List SetAt) → AllBelow k xs → below k xs ≡ xs
below_all k [] h = refl
below_all k (x ∷ xs) (h, hs) =
    ap (λ (b : Bool). if b then x ∷ below k xs else below k xs) (lt-ltb x.point k h) ∙ ap (λ (zs : List SetAt). x ∷ zs) (below_all k xs hs)

pub below_none : (k : ℕ) (xs : List SetAt) → AllOf k xs → below k xs ≡ []
below_none k [] h = refl
below_none k (x ∷ xs) (h, hs) =
    ap (λ (b : Bool). if b then x ∷ below k xs else below k xs) (le-ltb x.point k (omega (arith, h))) ∙ below_none k xs hs

all_below_append : (k : ℕ) (xs ys : List SetAt) → AllBelow k xs → AllBelow k ys → AllBelow k (xs ++ ys)
all_below_append k [] ys p q = q
all_below_append k (x ∷ xs) ys p q = (p.0, all_below_append k xs ys p.1 q)

all_below_more : (k : ℕ) (xs : List SetAt) → AllBelow k xs → AllBelow (k + 1) xs
all_below_more k [] p = tt
all_below_more k (x ∷ xs) p = (omega (arith, p.0), all_below_more k xs p.1)

all_of_below : (k : ℕ) (xs : List SetAt) → AllOf k xs → AllBelow (k + 1) xs
all_of_below k [] p = tt
all_of_below k (x ∷ xs) p = (omega (arith, p.0), all_of_below k xs p.1)

all_of_push : (k : ℕ) (xs : List SetAt) (e : SetAt) → AllOf k xs → e.point ≡ k → AllOf k (xs ++ e ∷ [])
all_of_push k [] e p q = (q, tt)
all_of_push k (x ∷ xs) e p q = (p.0, all_of_push k xs e p.1 q)

-- no set is later than the point
pub ends_below : (k n : ℕ) (sets : List SetAt) → EndsWith k n sets → AllBelow (k + 1) sets
ends_below k n sets h = subst (AllBelow (k + 1)) (sym h.is) (all_below_append (k + 1) h.earlier h.own (all_below_more k h.earlier h.before) (all_of_below k h.own h.now))

-- with no set yet at the next point
pub ends_next : (k n : ℕ) (sets : List SetAt) → EndsWith k n sets → EndsWith (k + 1) 0 sets
ends_next k n sets h = record { earlier = sets; own = []; is = sym (append-nil sets); before = ends_below k n sets h; now = tt; count_is = refl }

pub below_next : (k n : ℕ) (sets : List SetAt) → EndsWith k n sets → below (k + 1) sets ≡ sets
below_next k n sets h = below_all (k + 1) sets (ends_below k n sets h)

-- without those of the point, the sets are those of the points before
pub own_dropped : (k n : ℕ) (sets : List SetAt) → EndsWith k n sets → take (length sets - n) sets ≡ below k sets
own_dropped k n sets h =
    let all : length sets ≡ length h.earlier + length h.own = ap length h.is ∙ length-append h.earlier h.own in
    let own : length h.own ≡ n = h.count_is in
    let count : length sets - n ≡ length h.earlier = omega (arith, all, own) in
    ap (λ m. take m sets) count
    ∙ ap (take (length h.earlier)) h.is
    ∙ take-append_seam h.earlier h.own
    ∙ sym (ap (below k) h.is ∙ below_append k h.earlier h.own ∙ ap (λ (xs : List SetAt). xs ++ below k h.own) (below_all k h.earlier h.before) ∙ ap (λ (xs : List SetAt). h.earlier ++ xs) (below_none k h.own h.now) ∙ append-nil h.earlier)

-- one more set at the point
pub ends_push : (k n : ℕ) (sets : List SetAt) (e : SetAt) → EndsWith k n sets → e.point ≡ k → EndsWith k (suc n) (sets ++ e ∷ [])
ends_push k n sets e h q = record {
  earlier = h.earlier;
  own = h.own ++ e ∷ [];
  is = ap (λ (xs : List SetAt). xs ++ e ∷ []) h.is ∙ append_assoc h.earlier h.own (e ∷ []);
  before = h.before;
  now = all_of_push k h.own e h.now q;
  count_is = let l = length-append h.own (e ∷ []) in omega (arith, h.count_is);
}

pub below_push : (k : ℕ) (sets : List SetAt) (e : SetAt) → e.point ≡ k → below k (sets ++ e ∷ []) ≡ below k sets
below_push k sets e q = below_append k sets (e ∷ []) ∙ ap (λ (xs : List SetAt). below k sets ++ xs) (below_none k (e ∷ []) (q, tt)) ∙ append-nil (below k sets)

-- a list that is not empty has a last element
pub record LastOf (own : List SetAt) (k : ℕ) : Type 0 where
  pub front : List SetAt
  pub last : SetAt
  pub is : own ≡ front ++ last ∷ []
  pub now : AllOf k front
  pub of : last.point ≡ k

pub last_of : (k : ℕ) (x : SetAt) (xs : List SetAt) → AllOf k (x ∷ xs) → LastOf (x ∷ xs) k
last_of k x [] p = record { front = []; last = x; is = refl; now = tt; of = p.0 }
last_of k x (y ∷ ys) p =
    let r = last_of k y ys p.1 in
    record { front = x ∷ r.front; last = r.last; is = ap (λ (zs : List SetAt). x ∷ zs) r.is; now = (p.0, r.now); of = r.of }

-- the last set of a point
pub record LastSet (k n : ℕ) (sets : List SetAt) : Type 0 where
  pub last : SetAt
  pub is : sets ≡ but_last sets ++ last ∷ []
  pub of : last.point ≡ k
  pub rest : EndsWith k n (but_last sets)

pub take_front : (xs : List SetAt) (e : SetAt) → take (length (xs ++ e ∷ []) - 1) (xs ++ e ∷ []) ≡ xs
take_front xs e =
    let n : length (xs ++ e ∷ []) - 1 ≡ length xs = let l = length-append xs (e ∷ []) in omega arith in
    ap (λ k. take k (xs ++ e ∷ [])) n ∙ front xs
  where
    front : (xs : List SetAt) → take (length xs) (xs ++ e ∷ []) ≡ xs
    front [] = refl
    front (x ∷ xs) = ap (λ (zs : List SetAt). x ∷ zs) (front xs)

last_set_of : (k n : ℕ) (sets earlier own : List SetAt) → sets ≡ earlier ++ own → AllBelow k earlier → AllOf k own → length own ≡ suc n → LastSet k n sets
last_set_of k n sets earlier [] is before now count = absurd (omega (arith, count))
last_set_of k n sets earlier (x ∷ xs) is before now count =
    let r = last_of k x xs now in
    let whole : sets ≡ (earlier ++ r.front) ++ r.last ∷ [] = is ∙ ap (λ (zs : List SetAt). earlier ++ zs) r.is ∙ sym (append_assoc earlier r.front (r.last ∷ [])) in
    let less : but_last sets ≡ earlier ++ r.front = ap but_last whole ∙ take_front (earlier ++ r.front) r.last in
    record {
      last = r.last;
      is = whole ∙ ap (λ (zs : List SetAt). zs ++ r.last ∷ []) (sym less);
      of = r.of;
      rest = record {
        earlier = earlier;
        own = r.front;
        is = less;
        before = before;
        now = r.now;
        count_is = let l = length-append r.front (r.last ∷ []) in let m = ap length r.is in omega (arith, count);
      };
    }

pub last_set : (k n : ℕ) (sets : List SetAt) → EndsWith k (suc n) sets → LastSet k n sets
last_set k n sets h = last_set_of k n sets h.earlier h.own h.is h.before h.now h.count_is

pub below_but_last : (k n : ℕ) (sets : List SetAt) → EndsWith k (suc n) sets → below k (but_last sets) ≡ below k sets
below_but_last k n sets h = let r = last_set k n sets h in sym (below_push k (but_last sets) r.last r.of) ∙ ap (below k) (sym r.is)

-- no set stands at a later point
pub none_at : (k : ℕ) (sets : List SetAt) → AllBelow k sets → sets_at sets k ≡ []
none_at k [] h = refl
none_at k (x ∷ xs) (h, hs) =
    ap (λ (b : Bool). if b then x ∷ sets_at xs k else sets_at xs k) (ne_eqb x.point k (λ e. omega (arith, e, h))) ∙ none_at k xs hs

-- a set of another point changes nothing
set_elsewhere : (j : ℕ) (sets : List SetAt) (e : SetAt) → (e.point ≡ j → ⊥) → sets_at (sets ++ e ∷ []) j ≡ sets_at sets j
set_elsewhere j [] e ne = ap (λ (b : Bool). if b then e ∷ [] else []) (ne_eqb e.point j ne)
set_elsewhere j (x ∷ xs) e ne = ap (λ (zs : List SetAt). if nat_eq x.point j then x ∷ zs else zs) (set_elsewhere j xs e ne)

-- below a point, a set of that point changes nothing
pub same_below : (k j : ℕ) (sets : List SetAt) (e : SetAt) → e.point ≡ k → j < k → sets_at (sets ++ e ∷ []) j ≡ sets_at sets j
same_below k j sets e q h = set_elsewhere j sets e (λ p. omega (arith, p, q, h))

-- at the point it is the last one
pub last_at : (k : ℕ) (sets : List SetAt) (e : SetAt) → e.point ≡ k → sets_at (sets ++ e ∷ []) k ≡ sets_at sets k ++ e ∷ []
last_at k [] e q = ap (λ (b : Bool). if b then e ∷ [] else []) (eq-eqb e.point k q)
last_at k (x ∷ xs) e q = kept_or (nat_eq x.point k) x (sets_at (xs ++ e ∷ []) k) (sets_at xs k) (e ∷ []) (last_at k xs e q)
