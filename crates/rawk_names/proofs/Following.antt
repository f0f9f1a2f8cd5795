-- The links that were followed, and the arrays that they lead to.
use Rattle.std.proofs.Common.{◌≡◌, ◌<◌, ◌≤◌, ◌+◌, ◌⊎◌, inl, inr, ℕ, List, [], ◌∷◌, ◌++◌, length, take, get_or, slice_index, refl, sym, ap, subst, ◌∙◌, arith, Bool, true, false, Option, Some, None, slice_get, length-append, append-nil, append_assoc, replicate}
use Rattle.std.specs.Prelude.{nat_lt, ◌≢◌}
use Rattle.std.proofs.lemmas.Bool.{ltb-true, ltb-false, false≢true}
use Rattle.std.proofs.lemmas.Grind.{common_steps}
use Rattle.std.proofs.lemmas.List.{take_more, get_or_append_left}
use Rattle.std.proofs.Math.Seq.{get_or-append_seam}
use Rattle.std.proofs.lemmas.Option.{slice_get_within, slice_get-get_or}
use Rattle.rawk_keys.specs.Nearest.{IsNearest}
use Rattle.rawk_names.specs.declared.usage.Manner.TheVariants.{Scalar, Array, Either, Argument}
use Rattle.rawk_names.specs.declared.usage.What.{What}
use Rattle.rawk_names.specs.declared.usage.What.TheVariants.{Named, Value, Pattern, Misuse}
use Rattle.rawk_names.specs.declared.usage.Usage.{Usage}
use Rattle.rawk_names.specs.Arrays.{Stands, IsArray, used, given, taken}
use Rattle.rawk_names.specs.Marking.{IsBelow, AreBelow, IsLink, HasLink, AreLinks, is_marked, IsPending, IsClosed, IsMarking, AreUsedMarked, Keeps, Progress, Followed, froms_of, tos_of, used_flags, used_pending, flags_after, pending_after}
use Rattle.rawk_names.proofs.Markings.{pending-pop, pending-push, pending-last, one_marked, nothing_new, more_progress}

-- ---- one use more

pub slice_get-push : (xs : List Usage) (x : Usage) (k : ℕ) (u : Usage) → slice_get (xs ++ x ∷ []) k ≡ Some u → (slice_get xs k ≡ Some u) ⊎ (u ≡ x)
slice_get-push xs x k u h = at (nat_lt k (length xs)) refl
  where
    at : (t : Bool) → nat_lt k (length xs) ≡ t → (slice_get xs k ≡ Some u) ⊎ (u ≡ x)
    at true e =
        let i : k < length xs = ltb-true _ _ e in
        inl (slice_get-get_or xs k x i ∙ (ap Some (sym (get_or_append_left xs (x ∷ []) x k i)) ∙ (sym (slice_get-get_or (xs ++ x ∷ []) k x (slice_get_within (xs ++ x ∷ []) k u h)) ∙ h)))
    at false e =
        let within : k < length (xs ++ x ∷ []) = slice_get_within (xs ++ x ∷ []) k u h in
        let last : k ≡ length xs = omega (arith, within, ltb-false _ _ e, length-append xs (x ∷ [])) in
        let there : Some u ≡ Some x = sym h ∙ (slice_get-get_or (xs ++ x ∷ []) k x within ∙ ap Some (ap (λ (i : ℕ). get_or (xs ++ x ∷ []) i x) last ∙ get_or-append_seam xs x [] x)) in
        inr cc

pub next_use : (xs : List Usage) (i : ℕ) (x : Usage) → i < length xs → x ≡ get_or xs i x → take (i + 1) xs ≡ take i xs ++ x ∷ []
next_use xs i x h held = take_more xs i x h ∙ ap (λ (y : Usage). take i xs ++ y ∷ []) (sym held)

pub stands-push : (xs : List Usage) (x : Usage) (w : What) → Stands (xs ++ x ∷ []) w → Stands xs w ⊎ (x.what ≡ w)
stands-push xs x w h = elim (slice_get-push xs x h.0 h.1 h.2) [ inl a ↦ inl (h.0, h.1, a, h.3) | inr same ↦ inr (ap (λ (u : Usage). u.what) (sym same) ∙ h.3) ]

pub stands-first : (xs : List Usage) (x : Usage) (w : What) → Stands xs w → Stands (xs ++ x ∷ []) w
stands-first xs x w h =
    let i : h.0 < length xs = slice_get_within xs h.0 h.1 h.2 in
    (h.0, h.1, slice_get-get_or (xs ++ x ∷ []) h.0 x (omega (arith, i, length-append xs (x ∷ []))) ∙ (ap Some (get_or_append_left xs (x ∷ []) x h.0 i) ∙ (sym (slice_get-get_or xs h.0 x i) ∙ h.2)), h.3)

pub stands-last : (xs : List Usage) (x : Usage) (w : What) → x.what ≡ w → Stands (xs ++ x ∷ []) w
stands-last xs x w is = (length xs, x, slice_get-get_or (xs ++ x ∷ []) (length xs) x (omega (arith, length-append xs (x ∷ []))) ∙ ap Some (get_or-append_seam xs x [] x), is)

-- ---- numbers above all variables

below_grows : (w : What) (m n : ℕ) → IsBelow w m → m ≤ n → IsBelow w n
below_grows (Named (Argument p) v) m n h le = (omega (arith, h.0, le), omega (arith, h.1, le))
below_grows (Named Scalar v) m n h le = omega (arith, h, le)
below_grows (Named Array v) m n h le = omega (arith, h, le)
below_grows (Named Either v) m n h le = omega (arith, h, le)
below_grows (Value p) m n h le = tt
below_grows (Pattern k) m n h le = tt
below_grows Misuse m n h le = tt

pub below_more : (xs : List Usage) (i : ℕ) (x : Usage) (m n k : ℕ) → i < length xs → x ≡ get_or xs i x → AreBelow (take i xs) m → IsBelow x.what n → m ≤ k → n ≤ k → AreBelow (take (i + 1) xs) k
below_more xs i x m n k h held before here a b = subst (λ (us : List Usage). AreBelow us k) (sym (next_use xs i x h held)) all
  where
    all : AreBelow (take i xs ++ x ∷ []) k
    all j u g = elim (slice_get-push (take i xs) x j u g) [ inl e ↦ below_grows u.what m k (before j u e) a | inr same ↦ subst (λ (y : Usage). IsBelow y.what k) (sym same) (below_grows x.what n k here b) ]

-- ---- the links of one use more

link_kept : (froms tos : List ℕ) (c d a b : ℕ) → length froms ≡ length tos → HasLink froms tos a b → HasLink (froms ++ c ∷ []) (tos ++ d ∷ []) a b
link_kept froms tos c d a b same h =
    (h.0, omega (arith, h.1, length-append tos (d ∷ [])), get_or_append_left froms (c ∷ []) 0 h.0 (omega (arith, h.1, same)) ∙ h.2, get_or_append_left tos (d ∷ []) 0 h.0 h.1 ∙ h.3)

link_new : (froms tos : List ℕ) (c d : ℕ) → length froms ≡ length tos → HasLink (froms ++ c ∷ []) (tos ++ d ∷ []) c d
link_new froms tos c d same =
    (length tos, omega (arith, length-append tos (d ∷ [])), ap (λ (i : ℕ). get_or (froms ++ c ∷ []) i 0) (sym same) ∙ get_or-append_seam froms c [] 0, get_or-append_seam tos d [] 0)

-- what holds of each link, and of the next
link_each : (P : ℕ → ℕ → Type 0) (froms tos : List ℕ) (c d : ℕ) → length froms ≡ length tos → ((e : ℕ) → e < length tos → P (slice_index froms e) (slice_index tos e)) → P c d
    → (e : ℕ) → e < length (tos ++ d ∷ []) → P (slice_index (froms ++ c ∷ []) e) (slice_index (tos ++ d ∷ []) e)
link_each P froms tos c d same before here e h = at (nat_lt e (length tos)) refl
  where
    at : (t : Bool) → nat_lt e (length tos) ≡ t → P (slice_index (froms ++ c ∷ []) e) (slice_index (tos ++ d ∷ []) e)
    at true q =
        let i : e < length tos = ltb-true _ _ q in
        let f : slice_index (froms ++ c ∷ []) e ≡ slice_index froms e = get_or_append_left froms (c ∷ []) 0 e (omega (arith, i, same)) in
        let g : slice_index (tos ++ d ∷ []) e ≡ slice_index tos e = get_or_append_left tos (d ∷ []) 0 e i in
        rw (f, g) (before e i)
    at false q =
        let last : e ≡ length tos = omega (arith, h, ltb-false _ _ q, length-append tos (d ∷ [])) in
        let f : slice_index (froms ++ c ∷ []) e ≡ c = ap (λ (i : ℕ). get_or (froms ++ c ∷ []) i 0) (last ∙ sym same) ∙ get_or-append_seam froms c [] 0 in
        let g : slice_index (tos ++ d ∷ []) e ≡ d = ap (λ (i : ℕ). get_or (tos ++ d ∷ []) i 0) last ∙ get_or-append_seam tos d [] 0 in
        rw (f, g) here

links_first : (xs : List Usage) (x : Usage) (a b : ℕ) → IsLink xs a b → IsLink (xs ++ x ∷ []) a b
links_first xs x a b (inl h) = inl (stands-first xs x _ h)
links_first xs x a b (inr h) = inr (stands-first xs x _ h)

-- a use that passes no name
pub links_stay : (xs : List Usage) (i : ℕ) (x : Usage) (froms tos : List ℕ) → i < length xs → x ≡ get_or xs i x → ((v p : ℕ) → x.what ≢ Named (Argument p) v) → AreLinks (take i xs) froms tos → AreLinks (take (i + 1) xs) froms tos
links_stay xs i x froms tos h held none links = subst (λ (us : List Usage). AreLinks us froms tos) (sym (next_use xs i x h held)) (record {
  size = links.size;
  sound = λ e g. links_first (take i xs) x _ _ (links.sound e g);
  there = λ v p s. elim (stands-push (take i xs) x _ s) [ inl a ↦ links.there v p a | inr is ↦ absurd (none v p is) ];
  back = λ v p s. elim (stands-push (take i xs) x _ s) [ inl a ↦ links.back v p a | inr is ↦ absurd (none v p is) ];
})

named_same : (v p w q : ℕ) → Named (Argument p) v ≡ Named (Argument q) w → (v ≡ w) × (p ≡ q)
named_same v p w q h = (cc, cc)

-- a use that passes one
pub links_more : (xs : List Usage) (i : ℕ) (x : Usage) (froms tos froms' tos' : List ℕ) (v p : ℕ) → i < length xs → x ≡ get_or xs i x → x.what ≡ Named (Argument p) v
    → froms' ≡ (froms ++ v ∷ []) ++ p ∷ [] → tos' ≡ (tos ++ p ∷ []) ++ v ∷ [] → AreLinks (take i xs) froms tos → AreLinks (take (i + 1) xs) froms' tos'
links_more xs i x froms tos froms' tos' v p h held is f t links =
    subst (λ (us : List Usage). AreLinks us froms' tos') (sym (next_use xs i x h held)) (rw (f, t) (record {
      size = omega (arith, links.size, length-append froms (v ∷ []), length-append tos (p ∷ []), length-append (froms ++ v ∷ []) (p ∷ []), length-append (tos ++ p ∷ []) (v ∷ []));
      sound = link_each P (froms ++ v ∷ []) (tos ++ p ∷ []) p v same (link_each P froms tos v p links.size (λ e g. links_first us x _ _ (links.sound e g)) (inl here)) (inr here);
      there = λ w q s. elim (stands-push us x _ s) [
        | inl a ↦ link_kept (froms ++ v ∷ []) (tos ++ p ∷ []) p v w q same (link_kept froms tos v p w q links.size (links.there w q a))
        | inr e ↦ let n = named_same v p w q (sym is ∙ e) in
            subst (λ (k : ℕ). HasLink ((froms ++ v ∷ []) ++ p ∷ []) ((tos ++ p ∷ []) ++ v ∷ []) k q) n.0 (subst (λ (k : ℕ). HasLink ((froms ++ v ∷ []) ++ p ∷ []) ((tos ++ p ∷ []) ++ v ∷ []) v k) n.1
            (link_kept (froms ++ v ∷ []) (tos ++ p ∷ []) p v v p same (link_new froms tos v p links.size)))
      ];
      back = λ w q s. elim (stands-push us x _ s) [
        | inl a ↦ link_kept (froms ++ v ∷ []) (tos ++ p ∷ []) p v q w same (link_kept froms tos v p q w links.size (links.back w q a))
        | inr e ↦ let n = named_same v p w q (sym is ∙ e) in
            subst (λ (k : ℕ). HasLink ((froms ++ v ∷ []) ++ p ∷ []) ((tos ++ p ∷ []) ++ v ∷ []) q k) n.0 (subst (λ (k : ℕ). HasLink ((froms ++ v ∷ []) ++ p ∷ []) ((tos ++ p ∷ []) ++ v ∷ []) k v) n.1
            (link_new (froms ++ v ∷ []) (tos ++ p ∷ []) p v same))
      ];
    }))
  where
    us : List Usage
    us = take i xs

    P : ℕ → ℕ → Type 0
    P a b = IsLink (us ++ x ∷ []) a b

    here : Stands (us ++ x ∷ []) (Named (Argument p) v)
    here = stands-last us x _ is

    same : length (froms ++ v ∷ []) ≡ length (tos ++ p ∷ [])
    same = omega (arith, links.size, length-append froms (v ∷ []), length-append tos (p ∷ []))

-- ---- the links of one variable

abbrev pub ahead : Option ℕ → ℕ
ahead None = 0
ahead (Some e) = e + 1

abbrev pub AreDoneFrom : List ℕ → List ℕ → List Bool → ℕ → ℕ → Type 0
AreDoneFrom froms tos flags v n = (e : ℕ) → n ≤ e → e < length tos → slice_index froms e ≡ v → is_marked flags (slice_index tos e) ≡ true

-- the links from some place on were followed, and the nearest one before it is at hand
abbrev pub IsDone : List ℕ → List ℕ → List Bool → ℕ → Option ℕ → Type 0
IsDone froms tos flags v at = (n : ℕ) × (n ≤ length froms) × IsNearest froms n v at × AreDoneFrom froms tos flags v n

-- the links of one use more, whatever it is
pub links_next : (xs : List Usage) (i : ℕ) (x : Usage) (froms tos froms' tos' : List ℕ) → i < length xs → x ≡ get_or xs i x
    → froms' ≡ froms ++ froms_of x.what → tos' ≡ tos ++ tos_of x.what → AreLinks (take i xs) froms tos → AreLinks (take (i + 1) xs) froms' tos'
links_next xs i x froms tos froms' tos' h held f t links = at x.what refl
  where
    stay : ((v p : ℕ) → x.what ≢ Named (Argument p) v) → froms' ≡ froms ++ [] → tos' ≡ tos ++ [] → AreLinks (take (i + 1) xs) froms' tos'
    stay none f' t' = rw (f' ∙ append-nil froms, t' ∙ append-nil tos) (links_stay xs i x froms tos h held none links)

    at : (w : What) → x.what ≡ w → AreLinks (take (i + 1) xs) froms' tos'
    at (Named (Argument p) v) e =
        let f' : froms' ≡ froms ++ v ∷ p ∷ [] = rw e at f in
        let t' : tos' ≡ tos ++ p ∷ v ∷ [] = rw e at t in
        links_more xs i x froms tos froms' tos' v p h held e (f' ∙ sym (append_assoc froms (v ∷ []) (p ∷ []))) (t' ∙ sym (append_assoc tos (p ∷ []) (v ∷ []))) links
    at (Named Scalar v) e = let f' : froms' ≡ froms ++ [] = rw e at f in let t' : tos' ≡ tos ++ [] = rw e at t in stay (λ w p g. let no : Named Scalar v ≡ Named (Argument p) w = sym e ∙ g in absurd cc) f' t'
    at (Named Array v) e = let f' : froms' ≡ froms ++ [] = rw e at f in let t' : tos' ≡ tos ++ [] = rw e at t in stay (λ w p g. let no : Named Array v ≡ Named (Argument p) w = sym e ∙ g in absurd cc) f' t'
    at (Named Either v) e = let f' : froms' ≡ froms ++ [] = rw e at f in let t' : tos' ≡ tos ++ [] = rw e at t in stay (λ w p g. let no : Named Either v ≡ Named (Argument p) w = sym e ∙ g in absurd cc) f' t'
    at (Value q) e = let f' : froms' ≡ froms ++ [] = rw e at f in let t' : tos' ≡ tos ++ [] = rw e at t in stay (λ w p g. let no : Value q ≡ Named (Argument p) w = sym e ∙ g in absurd cc) f' t'
    at (Pattern k) e = let f' : froms' ≡ froms ++ [] = rw e at f in let t' : tos' ≡ tos ++ [] = rw e at t in stay (λ w p g. let no : Pattern k ≡ Named (Argument p) w = sym e ∙ g in absurd cc) f' t'
    at Misuse e = let f' : froms' ≡ froms ++ [] = rw e at f in let t' : tos' ≡ tos ++ [] = rw e at t in stay (λ w p g. let no : Misuse ≡ Named (Argument p) w = sym e ∙ g in absurd cc) f' t'

-- ---- what is used as an array

-- a mark of an array keeps the marking
marking_more : (uses : List Usage) (froms tos : List ℕ) (f g : List Bool) (p q : List ℕ) → Progress (IsArray uses) f p g q → IsMarking uses froms tos f p → IsMarking uses froms tos g q
marking_more uses froms tos f g p q more before = record {
  sound = λ v m. elim (more.only v m) [ inl a ↦ before.sound v a | inr a ↦ a.0 ];
  closed = λ v m. elim (more.only v m) [
    | inl a ↦ elim (before.closed v a) [ inl w ↦ inl (more.waits v w) | inr c ↦ inr (λ e h is. more.kept _ (c e h is)) ]
    | inr a ↦ inl a.1
  ];
  waiting = λ v w. elim (more.fresh v w) [ inl a ↦ before.waiting v a | inr a ↦ a ];
}

pub use_progress : (uses : List Usage) (w : What) (f g : List Bool) (p q : List ℕ) → IsBelow w (length f) → ((v : ℕ) → w ≡ Named Array v → IsArray uses v) → g ≡ used_flags w f → q ≡ used_pending w f p
    → Progress (IsArray uses) f p g q × ((v : ℕ) → w ≡ Named Array v → is_marked g v ≡ true)
use_progress uses (Named Array v) f g p q below array a b =
    let one = one_marked (IsArray uses) f g p q v below (array v refl) a b in
    (one.0, λ u e. let same : v ≡ u = cc in subst (λ (k : ℕ). is_marked g k ≡ true) same one.1)
use_progress uses (Named Scalar v) f g p q below array a b = rw (a, b) (nothing_new (IsArray uses) f p, λ u e. absurd cc)
use_progress uses (Named Either v) f g p q below array a b = rw (a, b) (nothing_new (IsArray uses) f p, λ u e. absurd cc)
use_progress uses (Named (Argument r) v) f g p q below array a b = rw (a, b) (nothing_new (IsArray uses) f p, λ u e. absurd cc)
use_progress uses (Value r) f g p q below array a b = rw (a, b) (nothing_new (IsArray uses) f p, λ u e. absurd cc)
use_progress uses (Pattern k) f g p q below array a b = rw (a, b) (nothing_new (IsArray uses) f p, λ u e. absurd cc)
use_progress uses Misuse f g p q below array a b = rw (a, b) (nothing_new (IsArray uses) f p, λ u e. absurd cc)

pub record Marked (uses : List Usage) (i : ℕ) (f : List Bool) (p : List ℕ) : Type 0 where
  pub marking : (froms tos : List ℕ) → IsMarking uses froms tos f p
  pub used : AreUsedMarked (take i uses) f
  pub below : AreBelow uses (length f)

pub marked_more : (uses : List Usage) (i : ℕ) (x : Usage) (f g : List Bool) (p q : List ℕ) → i < length uses → x ≡ get_or uses i x → g ≡ used_flags x.what f → q ≡ used_pending x.what f p → Marked uses i f p → Marked uses (i + 1) g q
marked_more uses i x f g p q h held a b before =
    let here : slice_get uses i ≡ Some x = slice_get-get_or uses i x h ∙ ap Some (sym held) in
    let more = use_progress uses x.what f g p q (before.below i x here) (λ v e. used (i, x, here, e)) a b in
    record {
      marking = λ froms tos. marking_more uses froms tos f g p q more.0 (before.marking froms tos);
      used = λ v s. elim (stands-push (take i uses) x (Named Array v) (subst (λ (us : List Usage). Stands us (Named Array v)) (next_use uses i x h held) s)) [ inl e ↦ more.0.kept v (before.used v e) | inr e ↦ more.1 v e ];
      below = subst (AreBelow uses) (sym more.0.size) before.below;
    }

pub none_marked : (uses : List Usage) (f : List Bool) (p : List ℕ) (n : ℕ) → f ≡ replicate n false → p ≡ [] → AreBelow uses n → Marked uses 0 f p
none_marked uses f p n a b below = rw (a, b) (record {
  marking = λ froms tos. record { sound = λ v m. absurd (false≢true (sym (blank v) ∙ m)); closed = λ v m. absurd (false≢true (sym (blank v) ∙ m)); waiting = λ v w. absurd (omega (arith, w.1)) };
  used = λ v s. absurd (let h : s.0 < 0 = slice_get_within [] s.0 s.1 s.2 in omega (arith, h));
  below = subst (AreBelow uses) (let n' : n ≡ length (replicate n false) = grind (arith, common_steps) in n') below;
})
  where
    blank : (v : ℕ) → is_marked (replicate n false) v ≡ false
    blank v = grind (arith, common_steps)

-- ---- the links of one variable, from the newest on

pub done_more : (froms tos : List ℕ) (f g : List Bool) (v e : ℕ) (next : Option ℕ) → Keeps f g → is_marked g (slice_index tos e) ≡ true → IsDone froms tos f v (Some e) → IsNearest froms e (slice_index froms e) next → IsDone froms tos g v next
done_more froms tos f g v e next kept here before after =
    (e, omega (arith, before.1, before.2.0), subst (λ (k : ℕ). IsNearest froms e k next) before.2.1 after, links)
  where
    links : AreDoneFrom froms tos g v e
    links k a b is = at (nat_lt k before.0) refl (nat_lt e k) refl
      where
        at : (s : Bool) → nat_lt k before.0 ≡ s → (t : Bool) → nat_lt e k ≡ t → is_marked g (slice_index tos k) ≡ true
        at false p t q = kept _ (before.3 k (ltb-false _ _ p) b is)
        at true p true q = absurd (before.2.2 k (ltb-true _ _ q) (ltb-true _ _ p) is)
        at true p false q = let same : e ≡ k = omega (arith, a, ltb-false _ _ q) in subst (λ (i : ℕ). is_marked g (slice_index tos i) ≡ true) same here

-- one link, followed
pub followed_link : (froms tos : List ℕ) (v e t : ℕ) (f g k : List Bool) (p q r : List ℕ) (at next : Option ℕ) → length froms ≡ length tos → ((i : ℕ) → i < length tos → slice_index tos i < length f) → at ≡ Some e → t ≡ slice_index tos e
    → k ≡ flags_after t g → r ≡ pending_after t g q → Progress (HasLink froms tos v) f p g q → IsDone froms tos g v at → IsNearest froms e (slice_index froms e) next
    → Progress (HasLink froms tos v) f p k r × IsDone froms tos k v next
followed_link froms tos v e t f g k p q r at next same below is there a b progress done after =
    let here : IsDone froms tos g v (Some e) = subst (IsDone froms tos g v) is done in
    let i : e < length tos = omega (arith, here.1, here.2.0, same) in
    let room : t < length g = omega (arith, below e i, there, progress.size) in
    let one = one_marked (HasLink froms tos v) g k q r t room (e, i, here.2.1, sym there) a b in
    (more_progress (HasLink froms tos v) f g k p q r progress one.0, done_more froms tos g k v e next one.0.kept (subst (λ (n : ℕ). is_marked k n ≡ true) there one.1) here after)

-- ---- all links

pub links_below : (uses : List Usage) (froms tos : List ℕ) (n : ℕ) → AreLinks uses froms tos → AreBelow uses n → (e : ℕ) → e < length tos → slice_index tos e < n
links_below uses froms tos n links below e h = elim (links.sound e h) [ inl s ↦ (at s).1 | inr s ↦ (at s).0 ]
  where
    at : {w : What} → Stands uses w → IsBelow w n
    at {w} s = subst (λ (u : What). IsBelow u n) s.3 (below s.0 s.1 s.2)

-- one variable's links, followed
pub marking_followed : (uses : List Usage) (froms tos : List ℕ) (v : ℕ) (f g : List Bool) (p q old : List ℕ) → AreLinks uses froms tos → old ≡ p ++ v ∷ [] → IsMarking uses froms tos f old → Followed froms tos v f p g q → IsMarking uses froms tos g q
marking_followed uses froms tos v f g p q old links popped before followed = record { sound = sound; closed = closed; waiting = waiting }
  where
    first : IsArray uses v
    first = before.waiting v (subst (λ (ps : List ℕ). IsPending ps v) (sym popped) (pending-last p v))

    array : (w : ℕ) → HasLink froms tos v w → IsArray uses w
    array w l = elim (links.sound l.0 l.1) [
      | inl s ↦ subst (IsArray uses) l.3 (given s (subst (IsArray uses) (sym l.2) first))
      | inr s ↦ subst (IsArray uses) l.3 (taken s (subst (IsArray uses) (sym l.2) first))
    ]

    sound : (w : ℕ) → is_marked g w ≡ true → IsArray uses w
    sound w m = elim (followed.progress.only w m) [ inl a ↦ before.sound w a | inr a ↦ array w a.0 ]

    waiting : (w : ℕ) → IsPending q w → IsArray uses w
    waiting w h = elim (followed.progress.fresh w h) [ inl a ↦ before.waiting w (subst (λ (ps : List ℕ). IsPending ps w) (sym popped) (pending-push p v w a)) | inr a ↦ array w a ]

    still : (w : ℕ) → IsPending old w → IsPending q w ⊎ IsClosed froms tos g w
    still w h = elim (pending-pop p v w (subst (λ (ps : List ℕ). IsPending ps w) popped h)) [
      | inl same ↦ inr (subst (IsClosed froms tos g) (sym same) followed.closed)
      | inr a ↦ inl (followed.progress.waits w a)
    ]

    closed : (w : ℕ) → is_marked g w ≡ true → IsPending q w ⊎ IsClosed froms tos g w
    closed w m = elim (followed.progress.only w m) [
      | inl a ↦ elim (before.closed w a) [ inl h ↦ still w h | inr c ↦ inr (λ e h is. followed.progress.kept _ (c e h is)) ]
      | inr a ↦ inl a.1
    ]

along : (uses : List Usage) (froms tos : List ℕ) (flags : List Bool) → IsMarking uses froms tos flags [] → (a b : ℕ) → HasLink froms tos a b → is_marked flags a ≡ true → is_marked flags b ≡ true
along uses froms tos flags marking a b l m = elim (marking.closed a m) [
  | inl w ↦ absurd (let none : w.0 < 0 = w.1 in omega (arith, none))
  | inr c ↦ subst (λ (k : ℕ). is_marked flags k ≡ true) l.3 (c l.0 l.1 l.2)
]

-- all arrays are marked at the end
pub all_marked : (uses : List Usage) (froms tos : List ℕ) (flags : List Bool) → AreLinks uses froms tos → IsMarking uses froms tos flags [] → AreUsedMarked uses flags → (v : ℕ) → IsArray uses v → is_marked flags v ≡ true
all_marked uses froms tos flags links marking seen v (used s) = seen v s
all_marked uses froms tos flags links marking seen p (given {v} s a) = along uses froms tos flags marking v p (links.there v p s) (all_marked uses froms tos flags links marking seen v a)
all_marked uses froms tos flags links marking seen v (taken {p} s a) = along uses froms tos flags marking p v (links.back v p s) (all_marked uses froms tos flags links marking seen p a)

-- the default of a place that is there does not matter
pub read : (xs : List Usage) (i : ℕ) (d : Usage) → i < length xs → get_or xs i d ≡ get_or xs i (get_or xs i d)
read xs i d h = let same : Some (get_or xs i d) ≡ Some (get_or xs i (get_or xs i d)) = sym (slice_get-get_or xs i d h) ∙ slice_get-get_or xs i (get_or xs i d) h in cc

abbrev pub nobody : Usage
nobody = record { left = 0; what = Named Scalar 0 }
