-- The paragraph of a text, from what is known of its places.
use Rattle.std.proofs.Common.{◌≡◌, ◌≢◌, ◌≤◌, ◌<◌, ◌+◌, ◌-◌, ℕ, zero, suc, Bool, true, false, ◌&&◌, ◌||◌, List, [], ◌∷◌, Option, None, Result, Ok, Err, length, take, drop, get_or, slice_range, nat_eq, arith, ◌∙◌, ap, refl, if◌then◌else◌}
use Rattle.std.specs.List.{prefix_len}
use Rattle.std.proofs.lemmas.List.{length-drop, get_or-drop, drop-drop}
use Rattle.std.proofs.lemmas.List.Sums.{prefix_len_is}
use Rattle.std.proofs.lemmas.Bool.{eq-eqb, eqb-true}
use Rattle.rawk_value.specs.declared.fault.Fault.{Fault}
use Rattle.rawk_value.specs.declared.fault.Fault.TheVariants.{ReadFailed}
use Rattle.rawk_tape.specs.Records.{Found, found, is_newline, ends_here, to_break, next_paragraph}
use Rattle.rawk_tape.specs.Paragraphs.{IsParagraph}
use Rattle.rawk_tape.specs.declared.found.Found.{Found as Place}
use Rattle.rawk_tape.proofs.OneByte.{not_true}

or_true : (b : Bool) → (b || true) ≡ true
or_true true = refl
or_true false = refl

and_left : (a b : Bool) → (a && b) ≡ true → a ≡ true
and_left true b e = refl
and_left false b e = cc

and_right : (a b : Bool) → (a && b) ≡ true → b ≡ true
and_right true b e = e
and_right false b e = cc

or_second : (a b : Bool) → a ≡ false → (a || b) ≡ true → b ≡ true
or_second true b f e = cc
or_second false b f e = e

-- a newline that a newline or the end follows
break_here : (x : ℕ) (xs : List ℕ) → x ≡ 10 → (0 < length xs → get_or xs 0 0 ≡ 10) → (is_newline x && ends_here xs) ≡ true
break_here x [] e h = rw e refl
break_here x (y ∷ ys) e h =
    let some : 0 < length (y ∷ ys) = omega arith in
    let f : y ≡ 10 = h some in
    rw (e, f) (or_true _)

-- a newline that another byte follows
other_follows : (xs : List ℕ) → 0 < length xs → get_or xs 0 0 ≢ 10 → ends_here xs ≡ true → ⊥
other_follows [] some other e = absurd (omega arith)
other_follows (y ∷ ys) some other e =
    let n : nat_eq (length (y ∷ ys)) 0 ≡ false = not_true _ (λ z. let same : length (y ∷ ys) ≡ 0 = eqb-true _ _ z in absurd (omega arith)) in
    other (eqb-true y 10 (or_second _ _ n e))

no_break_here : (x : ℕ) (xs : List ℕ) → (x ≡ 10 → (0 < length xs) × (get_or xs 0 0 ≢ 10)) → (is_newline x && ends_here xs) ≡ false
no_break_here x xs h =
    not_true _ (λ e. let k : (0 < length xs) × (get_or xs 0 0 ≢ 10) = h (eqb-true x 10 (and_left _ _ e)) in other_follows xs k.0 k.1 (and_right (is_newline x) _ e))

-- the place of the first break, by its places
to_break_is : (text : List ℕ) (n : ℕ) → n ≤ length text → ((k : ℕ) → k < n → get_or text k 0 ≡ 10 → (k + 1 < length text) × (get_or text (k + 1) 0 ≢ 10)) → (n < length text → get_or text n 0 ≡ 10) → (n + 1 < length text → get_or text (n + 1) 0 ≡ 10) → to_break text ≡ n
to_break_is [] n low inside here behind = omega arith
to_break_is (x ∷ xs) zero low inside here behind =
    let t : (is_newline x && ends_here xs) ≡ true = break_here x xs (here (omega arith)) (λ some. let l : 0 + 1 < length (x ∷ xs) = omega arith in behind l) in
    rw t refl
to_break_is (x ∷ xs) (suc n) low inside here behind =
    let f : (is_newline x && ends_here xs) ≡ false = no_break_here x xs (λ e. let k : (0 + 1 < length (x ∷ xs)) × (get_or xs 0 0 ≢ 10) = inside 0 (omega arith) e in (omega (arith, k.0), k.1)) in
    let r : to_break xs ≡ n = to_break_is xs n (omega arith)
    (λ k l e. let a : (suc k + 1 < length (x ∷ xs)) × (get_or (x ∷ xs) (suc k + 1) 0 ≢ 10) = inside (suc k) (omega arith) e in let z : suc k + 1 ≡ suc (k + 1) = omega arith in (omega (arith, a.0), rw z at a.1))
    (λ l. here (omega arith))
    (λ l. let b : get_or (x ∷ xs) (suc n + 1) 0 ≡ 10 = behind (omega arith) in let z : suc n + 1 ≡ suc (n + 1) = omega arith in rw z at b) in
    rw (f, r) (omega arith)

-- the record, by the sizes of its parts
abbrev of_parts : Bool → List ℕ → ℕ → ℕ → ℕ → ℕ → Result (Option Found) Fault
of_parts fails rest count first size more =
    if fails && nat_eq (first + size + more) (length rest) then Err ReadFailed
    else if nat_eq first (length rest) then Ok None
    else found (take size (drop first rest)) (count + (first + size + more))

parts_found : (fails : Bool) (rest : List ℕ) (count first size more : ℕ) → (fails ≡ true → first + size + more ≢ length rest) → first ≢ length rest → of_parts fails rest count first size more ≡ found (take size (drop first rest)) (count + (first + size + more))
parts_found true rest count first size more free some =
    let a : nat_eq (first + size + more) (length rest) ≡ false = not_true _ (λ e. free refl (eqb-true _ _ e)) in
    let b : nat_eq first (length rest) ≡ false = not_true _ (λ e. some (eqb-true _ _ e)) in
    rw (a, b) refl
parts_found false rest count first size more free some =
    let b : nat_eq first (length rest) ≡ false = not_true _ (λ e. some (eqb-true _ _ e)) in
    rw b refl

module _ (all : List ℕ) (start : ℕ) (place : Place) (h : IsParagraph all start place) where
  first_is : prefix_len is_newline (drop start all) ≡ place.start - start
  first_is =
      let s = h.scanned in
      let len : place.start - start ≤ length (drop start all) = omega (arith, length-drop start all, s.low, s.text, s.after, s.high) in
      prefix_len_is is_newline (drop start all) (place.start - start) 0 len
      (λ k l. rw get_or-drop (eq-eqb _ _ (s.before (start + k) (omega arith) (omega (arith, s.low)))))
      (λ l. let e : start + (place.start - start) ≡ place.start = omega (arith, s.low) in rw (get_or-drop, e) (not_true _ (λ t. h.begins (omega (arith, length-drop start all)) (eqb-true _ _ t))))

  from_start : drop (place.start - start) (drop start all) ≡ drop place.start all
  from_start = let e : start + (place.start - start) ≡ place.start = omega (arith, h.scanned.low) in drop-drop (place.start - start) start all ∙ ap (λ k. drop k all) e

  size_is : to_break (drop (place.start - start) (drop start all)) ≡ place.end - place.start
  size_is =
      let s = h.scanned in
      let len : place.end - place.start ≤ length (drop place.start all) = omega (arith, length-drop place.start all, s.text, s.after, s.high) in
      let e : place.start + (place.end - place.start) ≡ place.end = omega (arith, s.text) in
      let e' : place.start + (place.end - place.start + 1) ≡ place.end + 1 = omega (arith, s.text) in
      ap to_break from_start ∙ to_break_is (drop place.start all) (place.end - place.start) len
      (λ k l same. let a = s.inside (place.start + k) (omega arith) (omega arith) (rw get_or-drop at same) in let z : place.start + (k + 1) ≡ place.start + k + 1 = omega arith in (omega (arith, a.0, length-drop place.start all), rw (get_or-drop, z) a.1))
      (λ l. rw (get_or-drop, e) (h.ends.here (omega (arith, length-drop place.start all))))
      (λ l. rw (get_or-drop, e') (h.ends.behind (omega (arith, length-drop place.start all))))

  behind_is : prefix_len is_newline (drop (place.start - start + (place.end - place.start)) (drop start all)) ≡ place.count - place.end
  behind_is =
      let s = h.scanned in
      let e : start + (place.start - start + (place.end - place.start)) ≡ place.end = omega (arith, s.low, s.text) in
      let from_end : drop (place.start - start + (place.end - place.start)) (drop start all) ≡ drop place.end all = drop-drop (place.start - start + (place.end - place.start)) start all ∙ ap (λ k. drop k all) e in
      let len : place.count - place.end ≤ length (drop place.end all) = omega (arith, length-drop place.end all, s.after, s.high) in
      ap (prefix_len is_newline) from_end ∙ prefix_len_is is_newline (drop place.end all) (place.count - place.end) 0 len
      (λ k l. rw get_or-drop (eq-eqb _ _ (s.behind (place.end + k) (omega arith) (omega arith))))
      (λ l. let e : place.end + (place.count - place.end) ≡ place.count = omega (arith, s.after) in rw (get_or-drop, e) (not_true _ (λ t. h.stops (omega (arith, length-drop place.end all)) (eqb-true _ _ t))))

  parts_are : (fails : Bool) → next_paragraph fails (drop start all) start ≡ of_parts fails (drop start all) start (place.start - start) (place.end - place.start) (place.count - place.end)
  parts_are fails =
      ap (λ f. of_parts fails (drop start all) start f (to_break (drop f (drop start all))) (prefix_len is_newline (drop (f + to_break (drop f (drop start all))) (drop start all)))) first_is
      ∙ (ap (λ n. of_parts fails (drop start all) start (place.start - start) n (prefix_len is_newline (drop (place.start - start + n) (drop start all)))) size_is
      ∙ ap (of_parts fails (drop start all) start (place.start - start) (place.end - place.start)) behind_is)

  -- a paragraph that is there, and settled if the input fails behind the text
  pub found_is : (fails : Bool) → (fails ≡ true → place.count < length all) → place.start < length all → next_paragraph fails (drop start all) start ≡ found (slice_range all place.start place.end) place.count
  found_is fails settled some =
      let s = h.scanned in
      let n : start + (place.start - start + (place.end - place.start) + (place.count - place.end)) ≡ place.count = omega (arith, s.low, s.text, s.after) in
      parts_are fails
      ∙ (parts_found fails (drop start all) start _ _ _ (λ t e. let l : place.count < length all = settled t in absurd (omega (arith, length-drop start all, s.low, s.text, s.after, e))) (λ e. absurd (omega (arith, length-drop start all, s.low, e)))
      ∙ (ap (λ (x : List ℕ). found (take (place.end - place.start) x) (start + (place.start - start + (place.end - place.start) + (place.count - place.end)))) from_start
      ∙ ap (found (slice_range all place.start place.end)) n))

  -- no paragraph is there
  pub none_is : place.start ≡ length all → next_paragraph false (drop start all) start ≡ Ok None
  none_is none =
      let b : nat_eq (place.start - start) (length (drop start all)) ≡ true = eq-eqb _ _ (omega (arith, length-drop start all, h.scanned.low)) in
      parts_are false ∙ rw b refl

  -- the input fails where the paragraph is not settled
  pub fails_is : place.count ≡ length all → next_paragraph true (drop start all) start ≡ Err ReadFailed
  fails_is whole =
      let s = h.scanned in
      let b : nat_eq (place.start - start + (place.end - place.start) + (place.count - place.end)) (length (drop start all)) ≡ true = eq-eqb _ _ (omega (arith, length-drop start all, s.low, s.text, s.after)) in
      parts_are true ∙ rw b refl

  -- a record has bytes
  pub has_text : place.start < length all → place.start < place.end
  has_text some = omega (arith, h.scanned.text, λ (e : place.end ≡ place.start). h.begins some (rw e at (h.ends.here (omega arith))))
