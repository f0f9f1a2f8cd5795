-- The regular expression that a Cursor shows is the one that the text begins with.
use Rattle.std.proofs.Common.{◌≡◌, ◌≢◌, ℕ, zero, suc, ◌+◌, ◌≤◌, Bool, true, false, ◌&&◌, cond, ◌==◌, ◌⊎◌, inl, inr, List, [], ◌∷◌, ◌++◌, length, take, drop, Option, Some, None, refl, sym, ap, subst, ◌∙◌, arith}
use Rattle.std.specs.Prelude.{slice_index}
use Rattle.std.proofs.lemmas.List.{take-append-drop}
use Rattle.std.proofs.Math.Seq.{take-append_seam, drop-append_seam}
use Rattle.rawk_lexer.specs.declared.ere.Behind.{Behind}
use Rattle.rawk_lexer.specs.declared.ere.Behind.TheVariants as behind
use Rattle.rawk_lexer.specs.Ere.{is_outside, after_item, after_first, after, closing}
use Rattle.rawk_keywords.specs.declared.token.Kind.TheVariants as k
use Rattle.rawk_lexer.specs.EreToken.{Where, Outside, First, Items, Class, Goes, ends, byte, escaped, bracket, negated, literal, items, closes, item, escaped_item, open_item, class, class_ends, class_byte, IsEre, between}
use Rattle.rawk_lexer.proofs.Gaps.{skip_clears, gap_skips}
use Rattle.rawk_lexer.specs.Lex.{single, double, two_or_one, symbol, token, kind, skip, ere_end, ere_at, ere_len, ere_spelling, past_ere}
use Rattle.rawk_lexer.proofs.Lexemes.{is_same, is_other, other_test, take_one, drop_one}
use Rattle.rawk_lexer.specs.Shown.{ShowsEre}
use Rattle.rawk_lexer.specs.Token.{Gap}

-- what the function stands behind, at each of the four places
abbrev stand : Where → Behind
stand Outside = behind.Outside
stand First = behind.Caret
stand Items = behind.Item
stand Class = behind.Class

-- ---- what goes on to a slash is found

-- one byte that is no newline
step : (s : Behind) (at b : ℕ) (z : List ℕ) → b ≢ 10 → (b == 47 && is_outside s) ≡ false → closing s at (b ∷ z) ≡ closing (after s b) (at + 1) z
step s at b z h g = rw (other_test b 10 h, g) refl

-- a `[` that begins no class is an item
open_same : (at b : ℕ) (z : List ℕ) → b ≢ 58 → closing behind.ItemBracket at (b ∷ z) ≡ closing behind.Item at (b ∷ z)
open_same at b z h = rw (other_test b 58 h) refl

bracket_same : (at b : ℕ) (z : List ℕ) → b ≢ 94 → closing behind.Bracket at (b ∷ z) ≡ closing behind.Caret at (b ∷ z)
bracket_same at b z h = rw (other_test b 94 h) refl

first_same : (at b : ℕ) (z : List ℕ) → b ≢ 93 → closing behind.Caret at (b ∷ z) ≡ closing behind.Item at (b ∷ z)
first_same at b z h = rw (other_test b 93 h) refl

colon_same : (at b : ℕ) (z : List ℕ) → b ≢ 93 → closing behind.ClassColon at (b ∷ z) ≡ closing behind.Class at (b ∷ z)
colon_same at b z h = rw (other_test b 93 h) refl

and_false : (b : Bool) → (b && false) ≡ false
and_false true = refl
and_false false = refl

inner : (s : Behind) (at b : ℕ) (z : List ℕ) → b ≢ 10 → is_outside s ≡ false → closing s at (b ∷ z) ≡ closing (after s b) (at + 1) z
inner s at b z h g = step s at b z h (ap (λ x. b == 47 && x) g ∙ and_false (b == 47))

item_behind : (b : ℕ) → b ≢ 91 → b ≢ 92 → b ≢ 93 → after_item b ≡ behind.Item
item_behind b o s c = rw (other_test b 93 c, other_test b 92 s, other_test b 91 o) refl

outside_behind : (b : ℕ) → b ≢ 91 → b ≢ 92 → after behind.Outside b ≡ behind.Outside
outside_behind b o s = rw (other_test b 91 o, other_test b 92 s) refl

class_behind : (b : ℕ) → b ≢ 58 → after behind.Class b ≡ behind.Class
class_behind b c = rw (other_test b 58 c) refl

-- a colon that does not end a class
colon_goes : (at : ℕ) (z r : List ℕ) → slice_index z 0 ≢ 93 → Goes Class z → closing behind.ClassColon at (z ++ r) ≡ closing behind.Class at (z ++ r)
colon_goes at z r h (class_ends {z = y} g) = refl
colon_goes at z r h (class_byte {b = b} {z = y} n c g) = colon_same at b (y ++ r) h

goes_found : (p : Where) (z r : List ℕ) (at : ℕ) → Goes p z → closing (stand p) at (z ++ r) ≡ Some (at + length z)
goes_found p z r at ends = refl
goes_found p z r at (byte {b = b} {z = y} n s o e g) =
    let q : (b == 47 && true) ≡ false = ap (λ x. x && true) (other_test b 47 s) in
    let m : at + 1 + length y ≡ at + length (b ∷ y) = omega arith in
    step behind.Outside at b (y ++ r) n q ∙ ap (λ x. closing x (at + 1) (y ++ r)) (outside_behind b o e) ∙ goes_found Outside y r (at + 1) g ∙ ap Some m
goes_found p z r at (escaped {b = b} {z = y} n g) =
    let m : at + 1 + 1 + length y ≡ at + length (92 ∷ b ∷ y) = omega arith in
    inner behind.Escape (at + 1) b (y ++ r) n refl ∙ goes_found Outside y r (at + 1 + 1) g ∙ ap Some m
goes_found p z r at (bracket {b = b} {z = y} n g) =
    let m : at + 1 + length (b ∷ y) ≡ at + length (91 ∷ b ∷ y) = omega arith in
    bracket_same (at + 1) b (y ++ r) n ∙ goes_found First (b ∷ y) r (at + 1) g ∙ ap Some m
goes_found p z r at (negated {z = y} g) =
    let m : at + 1 + 1 + length y ≡ at + length (91 ∷ 94 ∷ y) = omega arith in
    goes_found First y r (at + 1 + 1) g ∙ ap Some m
goes_found p z r at (literal {z = y} g) =
    let m : at + 1 + length y ≡ at + length (93 ∷ y) = omega arith in
    goes_found Items y r (at + 1) g ∙ ap Some m
goes_found p z r at (items {b = b} {z = y} n g) = first_same at b (y ++ r) n ∙ goes_found Items (b ∷ y) r at g
goes_found p z r at (closes {z = y} g) =
    let m : at + 1 + length y ≡ at + length (93 ∷ y) = omega arith in
    goes_found Outside y r (at + 1) g ∙ ap Some m
goes_found p z r at (item {b = b} {z = y} n o s c g) =
    let m : at + 1 + length y ≡ at + length (b ∷ y) = omega arith in
    inner behind.Item at b (y ++ r) n refl ∙ ap (λ x. closing x (at + 1) (y ++ r)) (item_behind b o s c) ∙ goes_found Items y r (at + 1) g ∙ ap Some m
goes_found p z r at (escaped_item {b = b} {z = y} n g) =
    let m : at + 1 + 1 + length y ≡ at + length (92 ∷ b ∷ y) = omega arith in
    inner behind.ItemEscape (at + 1) b (y ++ r) n refl ∙ goes_found Items y r (at + 1 + 1) g ∙ ap Some m
goes_found p z r at (open_item {b = b} {z = y} n g) =
    let m : at + 1 + length (b ∷ y) ≡ at + length (91 ∷ b ∷ y) = omega arith in
    open_same (at + 1) b (y ++ r) n ∙ goes_found Items (b ∷ y) r (at + 1) g ∙ ap Some m
goes_found p z r at (class {z = y} g) =
    let m : at + 1 + 1 + length y ≡ at + length (91 ∷ 58 ∷ y) = omega arith in
    goes_found Class y r (at + 1 + 1) g ∙ ap Some m
goes_found p z r at (class_ends {z = y} g) =
    let m : at + 1 + 1 + length y ≡ at + length (58 ∷ 93 ∷ y) = omega arith in
    goes_found Items y r (at + 1 + 1) g ∙ ap Some m
goes_found p z r at (class_byte {b = b} {z = y} n (inl c) g) =
    let m : at + 1 + length y ≡ at + length (b ∷ y) = omega arith in
    inner behind.Class at b (y ++ r) n refl ∙ ap (λ x. closing x (at + 1) (y ++ r)) (class_behind b c) ∙ goes_found Class y r (at + 1) g ∙ ap Some m
goes_found p z r at (class_byte {b = b} {z = y} n (inr c) g) =
    let m : at + 1 + length y ≡ at + length (b ∷ y) = omega arith in
    inner behind.Class at b (y ++ r) n refl ∙ go (b == 58) (colon_goes (at + 1) y r c g) ∙ goes_found Class y r (at + 1) g ∙ ap Some m
  where
    go : (s : Bool) → closing behind.ClassColon (at + 1) (y ++ r) ≡ closing behind.Class (at + 1) (y ++ r) → closing (cond s behind.ClassColon behind.Class) (at + 1) (y ++ r) ≡ closing behind.Class (at + 1) (y ++ r)
    go true e = e
    go false e = refl

-- ---- what is found goes on to a slash

abbrev Found : Where → ℕ → ℕ → List ℕ → Type 0
Found p at end z = (n : ℕ) × (end ≡ at + n) × (n ≤ length z) × Goes p (take n z)

abbrev Finds : List ℕ → Type 0
Finds z = (p : Where) (at end : ℕ) → closing (stand p) at z ≡ Some end → Found p at end z

grow : (p q : Where) (at end b : ℕ) (z : List ℕ) → Found p (at + 1) end z → ((w : List ℕ) → Goes p w → Goes q (b ∷ w)) → Found q at end (b ∷ z)
grow p q at end b z f h =
    let e = f.1 in
    let n = f.2 in
    (1 + f.0, omega (arith, e), omega (arith, n), rw (take_one f.0 b z) (h (take f.0 z) f.3))

grow_two : (p q : Where) (at end b c : ℕ) (z : List ℕ) → Found p (at + 1 + 1) end z → ((w : List ℕ) → Goes p w → Goes q (b ∷ c ∷ w)) → Found q at end (b ∷ c ∷ z)
grow_two p q at end b c z f h =
    let e = f.1 in
    let n = f.2 in
    (1 + (1 + f.0), omega (arith, e), omega (arith, n), rw (take_one (1 + f.0) b (c ∷ z), take_one f.0 c z) (h (take f.0 z) f.3))

goes_some : (p : Where) → Goes p [] → ⊥
goes_some p g = let e = goes_found p [] [] 0 g in cc

-- what goes on with a byte that is seen
seen : (p q : Where) (c : ℕ) (z : List ℕ) (n : ℕ) → ((w : List ℕ) → Goes p (c ∷ w) → Goes q (c ∷ w)) → Goes p (take n (c ∷ z)) → Goes q (take n (c ∷ z))
seen p q c z zero h g = absurd (goes_some p g)
seen p q c z (suc n) h g = h (take n z) g

seen_behind : (p q : Where) (b c : ℕ) (z : List ℕ) (n : ℕ) → ((w : List ℕ) → Goes p (c ∷ w) → Goes q (b ∷ c ∷ w)) → Goes p (take n (c ∷ z)) → Goes q (b ∷ take n (c ∷ z))
seen_behind p q b c z zero h g = absurd (goes_some p g)
seen_behind p q b c z (suc n) h g = h (take n z) g

grow_seen : (p q : Where) (at end b c : ℕ) (z : List ℕ) → Found p (at + 1) end (c ∷ z) → ((w : List ℕ) → Goes p (c ∷ w) → Goes q (b ∷ c ∷ w)) → Found q at end (b ∷ c ∷ z)
grow_seen p q at end b c z f h =
    let e = f.1 in
    let n = f.2 in
    (1 + f.0, omega (arith, e), omega (arith, n), rw (take_one f.0 b (c ∷ z)) (seen_behind p q b c z f.0 h f.3))

no_newline : (s : Behind) (at end b : ℕ) (z : List ℕ) → closing s at (b ∷ z) ≡ Some end → b ≢ 10
no_newline s at end b z h q = let e : closing s at (b ∷ z) ≡ None = ap (λ x. closing s at (x ∷ z)) q in cc

goes_on : (s : Behind) (at end b : ℕ) (z : List ℕ) → is_outside s ≡ false → closing s at (b ∷ z) ≡ Some end → closing (after s b) (at + 1) z ≡ Some end
goes_on s at end b z o h = sym (inner s at b z (no_newline s at end b z h) o) ∙ h

items_at : (at end b c : ℕ) (z : List ℕ) → Finds (c ∷ z) → Finds z → closing behind.Item at (b ∷ c ∷ z) ≡ Some end → Found Items at end (b ∷ c ∷ z)
items_at at end b c z r t h = go (b == 93) (b == 92) (b == 91) (c == 58) refl refl refl refl (goes_on behind.Item at end b (c ∷ z) refl h)
  where
    go : (u v w x : Bool) → (b == 93) ≡ u → (b == 92) ≡ v → (b == 91) ≡ w → (c == 58) ≡ x → closing (cond u behind.Outside (cond v behind.ItemEscape (cond w behind.ItemBracket behind.Item))) (at + 1) (c ∷ z) ≡ Some end → Found Items at end (b ∷ c ∷ z)
    go true v w x d e f g i = grow Outside Items at end b (c ∷ z) (r Outside (at + 1) end i) (λ y m. rw (is_same b 93 d) (closes m))
    go false true w x d e f g i =
        let n = no_newline behind.ItemEscape (at + 1) end c z i in
        let j = goes_on behind.ItemEscape (at + 1) end c z refl i in
        grow_two Items Items at end b c z (t Items (at + 1 + 1) end j) (λ y m. rw (is_same b 92 e) (escaped_item n m))
    go false false true true d e f g i =
        let j : closing (cond (c == 58) behind.Class (after_item c)) (at + 1 + 1) z ≡ Some end = goes_on behind.ItemBracket (at + 1) end c z refl i in
        let l : closing behind.Class (at + 1 + 1) z ≡ Some end = ap (λ q. closing (cond q behind.Class (after_item c)) (at + 1 + 1) z) (sym g) ∙ j in
        grow_two Class Items at end b c z (t Class (at + 1 + 1) end l) (λ y m. rw (is_same b 91 f, is_same c 58 g) (class m))
    go false false true false d e f g i =
        let j = sym (open_same (at + 1) c z (is_other c 58 g)) ∙ i in
        grow_seen Items Items at end b c z (r Items (at + 1) end j) (λ y m. rw (is_same b 91 f) (open_item (is_other c 58 g) m))
    go false false false x d e f g i = grow Items Items at end b (c ∷ z) (r Items (at + 1) end i) (λ y m. item (no_newline behind.Item at end b (c ∷ z) h) (is_other b 91 f) (is_other b 92 e) (is_other b 93 d) m)

first_at : (at end b c : ℕ) (z : List ℕ) → Finds (c ∷ z) → Finds z → closing behind.Caret at (b ∷ c ∷ z) ≡ Some end → Found First at end (b ∷ c ∷ z)
first_at at end b c z r t h = go (b == 93) refl
  where
    go : (u : Bool) → (b == 93) ≡ u → Found First at end (b ∷ c ∷ z)
    go true d =
        let i : closing (after_first b) (at + 1) (c ∷ z) ≡ Some end = goes_on behind.Caret at end b (c ∷ z) refl h in
        let j : closing behind.Item (at + 1) (c ∷ z) ≡ Some end = ap (λ q. closing (cond q behind.Item (after_item b)) (at + 1) (c ∷ z)) (sym d) ∙ i in
        grow Items First at end b (c ∷ z) (r Items (at + 1) end j) (λ y m. rw (is_same b 93 d) (literal m))
    go false d =
        let f = items_at at end b c z r t (sym (first_same at b (c ∷ z) (is_other b 93 d)) ∙ h) in
        (f.0, f.1, f.2, seen Items First b (c ∷ z) f.0 (λ y m. items (is_other b 93 d) m) f.3)

class_at : (at end b c : ℕ) (z : List ℕ) → Finds (c ∷ z) → Finds z → closing behind.Class at (b ∷ c ∷ z) ≡ Some end → Found Class at end (b ∷ c ∷ z)
class_at at end b c z r t h = go (b == 58) (c == 93) refl refl (goes_on behind.Class at end b (c ∷ z) refl h)
  where
    n : b ≢ 10
    n = no_newline behind.Class at end b (c ∷ z) h

    go : (u v : Bool) → (b == 58) ≡ u → (c == 93) ≡ v → closing (cond u behind.ClassColon behind.Class) (at + 1) (c ∷ z) ≡ Some end → Found Class at end (b ∷ c ∷ z)
    go true true d e i =
        let j : closing (cond (c == 93) behind.Item (cond (c == 58) behind.ClassColon behind.Class)) (at + 1 + 1) z ≡ Some end = goes_on behind.ClassColon (at + 1) end c z refl i in
        let l : closing behind.Item (at + 1 + 1) z ≡ Some end = ap (λ q. closing (cond q behind.Item (cond (c == 58) behind.ClassColon behind.Class)) (at + 1 + 1) z) (sym e) ∙ j in
        grow_two Items Class at end b c z (t Items (at + 1 + 1) end l) (λ y m. rw (is_same b 58 d, is_same c 93 e) (class_ends m))
    go true false d e i =
        let j = sym (colon_same (at + 1) c z (is_other c 93 e)) ∙ i in
        grow_seen Class Class at end b c z (r Class (at + 1) end j) (λ y m. class_byte n (inr (is_other c 93 e)) m)
    go false v d e i = grow Class Class at end b (c ∷ z) (r Class (at + 1) end i) (λ y m. class_byte n (inl (is_other b 58 d)) m)

outside_at : (at end b c : ℕ) (z : List ℕ) → Finds (c ∷ z) → Finds z → closing behind.Outside at (b ∷ c ∷ z) ≡ Some end → Found Outside at end (b ∷ c ∷ z)
outside_at at end b c z r t h = go (b == 10) (b == 47) (b == 91) (b == 92) (c == 94) refl refl refl refl refl h
  where
    go : (s u v w x : Bool) → (b == 10) ≡ s → (b == 47) ≡ u → (b == 91) ≡ v → (b == 92) ≡ w → (c == 94) ≡ x → cond s None (cond (u && true) (Some (at + 1)) (closing (cond v behind.Bracket (cond w behind.Escape behind.Outside)) (at + 1) (c ∷ z))) ≡ Some end → Found Outside at end (b ∷ c ∷ z)
    go true u v w x a d e f g i = cc
    go false true v w x a d e f g i = (1, cc, omega arith, rw (is_same b 47 d) ends)
    go false false true w true a d e f g i =
        let j : closing (cond (c == 94) behind.Caret (after_first c)) (at + 1 + 1) z ≡ Some end = goes_on behind.Bracket (at + 1) end c z refl i in
        let l : closing behind.Caret (at + 1 + 1) z ≡ Some end = ap (λ q. closing (cond q behind.Caret (after_first c)) (at + 1 + 1) z) (sym g) ∙ j in
        grow_two First Outside at end b c z (t First (at + 1 + 1) end l) (λ y m. rw (is_same b 91 e, is_same c 94 g) (negated m))
    go false false true w false a d e f g i =
        let j = sym (bracket_same (at + 1) c z (is_other c 94 g)) ∙ i in
        grow_seen First Outside at end b c z (r First (at + 1) end j) (λ y m. rw (is_same b 91 e) (bracket (is_other c 94 g) m))
    go false false false true x a d e f g i =
        let n = no_newline behind.Escape (at + 1) end c z i in
        let j = goes_on behind.Escape (at + 1) end c z refl i in
        grow_two Outside Outside at end b c z (t Outside (at + 1 + 1) end j) (λ y m. rw (is_same b 92 f) (escaped n m))
    go false false false false x a d e f g i = grow Outside Outside at end b (c ∷ z) (r Outside (at + 1) end i) (λ y m. byte (is_other b 10 a) (is_other b 47 d) (is_other b 91 e) (is_other b 92 f) m)

-- a last byte ends only as a slash outside
last_ends : (s : Behind) (at end b : ℕ) → is_outside s ≡ false → closing s at (b ∷ []) ≡ Some end → ⊥
last_ends s at end b o h = let e = goes_on s at end b [] o h in cc

last_outside : (at end b : ℕ) → closing behind.Outside at (b ∷ []) ≡ Some end → Found Outside at end (b ∷ [])
last_outside at end b h = go (b == 10) (b == 47) refl h
  where
    go : (s u : Bool) → (b == 47) ≡ u → cond s None (cond (u && true) (Some (at + 1)) None) ≡ Some end → Found Outside at end (b ∷ [])
    go true u d i = cc
    go false true d i = (1, cc, omega arith, rw (is_same b 47 d) ends)
    go false false d i = cc

found_goes : (z : List ℕ) → Finds z
found_goes [] p at end h = cc
found_goes (b ∷ []) Outside at end h = last_outside at end b h
found_goes (b ∷ []) First at end h = absurd (last_ends behind.Caret at end b refl h)
found_goes (b ∷ []) Items at end h = absurd (last_ends behind.Item at end b refl h)
found_goes (b ∷ []) Class at end h = absurd (last_ends behind.Class at end b refl h)
found_goes (b ∷ c ∷ z) Outside at end h = outside_at at end b c z (found_goes (c ∷ z)) (found_goes z) h
found_goes (b ∷ c ∷ z) First at end h = first_at at end b c z (found_goes (c ∷ z)) (found_goes z) h
found_goes (b ∷ c ∷ z) Items at end h = items_at at end b c z (found_goes (c ∷ z)) (found_goes z) h
found_goes (b ∷ c ∷ z) Class at end h = class_at at end b c z (found_goes (c ∷ z)) (found_goes z) h

-- ---- both ways

shown_at : (s i : List ℕ) → Gap i s → ere_at s ≢ 0 → IsEre (take (ere_at s) s) i (drop (ere_at s) s)
shown_at [] i g h = absurd (h refl)
shown_at (b ∷ z) i g h = go (b == 47) (closing behind.Outside 1 z) refl refl h
  where
    go : (u : Bool) (o : Option ℕ) → (b == 47) ≡ u → closing behind.Outside 1 z ≡ o → cond u (ere_end o) 0 ≢ 0 → IsEre (take (ere_at (b ∷ z)) (b ∷ z)) i (drop (ere_at (b ∷ z)) (b ∷ z))
    go false o d e h = absurd (h refl)
    go true None d e h = absurd (h refl)
    go true (Some end) d e h =
        let f = found_goes z Outside 1 end e in
        let n : ℕ = f.0 in
        let len : ere_at (b ∷ z) ≡ 1 + n = ap (λ x. cond x (ere_end (closing behind.Outside 1 z)) 0) d ∙ ap ere_end e ∙ f.1 in
        let front : take (1 + n) (b ∷ z) ≡ 47 ∷ take n z = take_one n b z ∙ ap (λ x. x ∷ take n z) (is_same b 47 d) in
        let rest : drop (1 + n) (b ∷ z) ≡ drop n z = drop_one n b z in
        let whole : b ∷ z ≡ 47 ∷ take n z ++ drop n z = ap (λ x. x ∷ z) (is_same b 47 d) ∙ ap (λ x. 47 ∷ x) (sym (take-append-drop n z)) in
        let P : List ℕ → Type 0 = Gap i in
        rw (len, front, rest) (between (subst P whole g) f.3)

-- what a Cursor shows as a regular expression is one
pub shown_is_ere : (i : List ℕ) → ere_len i ≢ 0 → IsEre (ere_spelling i) i (past_ere i)
unfolding ere_len ere_spelling past_ere
shown_is_ere i h = shown_at (skip i) i (skip_clears i).0 h

-- and where one begins, the Cursor shows it
pub ere_is_shown : (w i j : List ℕ) → IsEre w i j → ShowsEre w i j
unfolding ere_len ere_spelling past_ere
ere_is_shown w i j (between {z = z} g m) =
    let s : skip i ≡ 47 ∷ z ++ j = gap_skips i (47 ∷ z ++ j) g refl in
    let len : ere_at (skip i) ≡ 1 + length z = ap ere_at s ∙ ap ere_end (goes_found Outside z j 1 m) in
    let front : take (1 + length z) (47 ∷ z ++ j) ≡ 47 ∷ z = take_one (length z) 47 (z ++ j) ∙ ap (λ x. 47 ∷ x) (take-append_seam z j) in
    let rest : drop (1 + length z) (47 ∷ z ++ j) ≡ j = drop_one (length z) 47 (z ++ j) ∙ drop-append_seam z j in (
      (λ q. let x : 1 + length z ≡ 0 = sym len ∙ q in absurd (omega (arith, x))),
      sym (ap (λ n. take n (skip i)) len ∙ ap (take (1 + length z)) s ∙ front),
      sym (ap (λ n. drop n (skip i)) len ∙ ap (drop (1 + length z)) s ∙ rest),
    )

slash_kind : (z : List ℕ) → ((token (47 ∷ z)).0 ≡ k.Slash) ⊎ ((token (47 ∷ z)).0 ≡ k.SlashAssign)
unfolding token symbol single double
slash_kind z = go (slice_index z 0 == 61)
  where
    go : (s : Bool) → ((two_or_one 47 (cond s (Some k.SlashAssign) None)).0 ≡ k.Slash) ⊎ ((two_or_one 47 (cond s (Some k.SlashAssign) None)).0 ≡ k.SlashAssign)
    go true = inr refl
    go false = inl refl

slash_kind_at : (s : List ℕ) → ere_at s ≢ 0 → ((token s).0 ≡ k.Slash) ⊎ ((token s).0 ≡ k.SlashAssign)
slash_kind_at [] h = absurd (h refl)
slash_kind_at (b ∷ z) h = go (b == 47) refl h
  where
    go : (u : Bool) → (b == 47) ≡ u → cond u (ere_end (closing behind.Outside 1 z)) 0 ≢ 0 → ((token (b ∷ z)).0 ≡ k.Slash) ⊎ ((token (b ∷ z)).0 ≡ k.SlashAssign)
    go true d h = rw (is_same b 47 d) (slash_kind z)
    go false d h = absurd (h refl)

-- the token where a regular expression begins is a slash, or a slash with `=`
pub ere_begins_with_slash : (i : List ℕ) → ere_len i ≢ 0 → (kind i ≡ k.Slash) ⊎ (kind i ≡ k.SlashAssign)
unfolding ere_len kind
ere_begins_with_slash i h = slash_kind_at (skip i) h
