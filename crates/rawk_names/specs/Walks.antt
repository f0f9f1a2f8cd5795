-- Mentions one after another.
use Rattle.std.proofs.Common.{◌≡◌, List, [], ◌∷◌, ◌++◌, ◌<◌, ◌+◌, ℕ, suc, length, map, take, get_or, refl, sym, ◌∙◌, ap}
use Rattle.std.proofs.Common.{append_assoc, append-nil, arith}
use Rattle.std.proofs.lemmas.Grind.{common_steps}
use Rattle.std.proofs.lemmas.List.{take_more, map-append}
use Rattle.rawk_keywords.specs.declared.builtin.Builtin.{Builtin}
use Rattle.rawk_parsing.specs.declared.tree.Name.{Name}
use Rattle.rawk_parsing.specs.declared.tree.Expr.{Expr}
use Rattle.rawk_names.specs.declared.usage.Manner.TheVariants.{Array}
use Rattle.rawk_names.specs.Mentions.{Mention, AsArray, all, every, builtin_arguments, builtin_at, call_arguments, call_at, seen, mentions}
use Rattle.rawk_names.specs.Noted.{Noted, named, noted, noted_all}
use Rattle.rawk_names.specs.SeenLaws.{mentions-Number, mentions-Text, mentions-Ere, mentions-Of, mentions-Group, mentions-Before, mentions-After, mentions-Power, mentions-Signed, mentions-Chain, mentions-In, mentions-ListIn, mentions-Logic, mentions-Choice, mentions-Assign, mentions-Builtin, mentions-Call, mentions-Getline, mentions-GetlineTo, place_mentions-Name, place_mentions-Element, place_mentions-Field, place_name-Name, place_name-Element, place_name-Field, name-Of}

pub noted_all-append : (ms ns : List Mention) (n : Noted) → noted_all (ms ++ ns) n ≡ noted_all ns (noted_all ms n)
noted_all-append [] ns n = refl
noted_all-append (m ∷ ms) ns n = noted_all-append ms ns (noted m n)

pub ruleset walking = (noted_all-append, mentions-Number, mentions-Text, mentions-Ere, mentions-Of, mentions-Group, mentions-Before, mentions-After, mentions-Power, mentions-Signed, mentions-Chain, mentions-In, mentions-ListIn, mentions-Logic, mentions-Choice, mentions-Assign, mentions-Builtin, mentions-Call, mentions-Getline, mentions-GetlineTo, place_mentions-Name, place_mentions-Element, place_mentions-Field)

pub ruleset naming = (place_name-Name, place_name-Element, place_name-Field, name-Of)

-- one item more of a list
pub one_more : {X : Type 0} (g : List X → List Mention) (ms : List Mention) (xs : List X) (i : ℕ) (x : X) (old mid new : Noted) → i < length xs → x ≡ get_or xs i x → g (take i xs ++ x ∷ []) ≡ g (take i xs) ++ ms
    → mid ≡ noted_all (g (take i xs)) old → new ≡ noted_all ms mid → new ≡ noted_all (g (take (i + 1) xs)) old
one_more {X} g ms xs i x old mid new h held splits done more =
    let t : take (i + 1) xs ≡ take i xs ++ x ∷ [] = take_more xs i x h ∙ ap (λ (y : X). take i xs ++ y ∷ []) (sym held) in
    more ∙ (ap (noted_all ms) done ∙ (sym (noted_all-append (g (take i xs)) ms old) ∙ ap (λ (ns : List Mention). noted_all ns old) (sym splits ∙ ap g (sym t))))

pub all-push : (es : List Expr) (e : Expr) → all (map seen (es ++ e ∷ [])) ≡ all (map seen es) ++ mentions e
all-push [] e = append-nil (mentions e)
all-push (x ∷ es) e = ap (λ (ms : List Mention). mentions x ++ ms) (all-push es e) ∙ sym (append_assoc (mentions x) (all (map seen es)) (mentions e))

pub every-push : {X : Type 0} (f : X → List Mention) (xs : List X) (x : X) → every (map f (xs ++ x ∷ [])) ≡ every (map f xs) ++ f x
every-push f [] x = append-nil (f x)
every-push f (y ∷ xs) x = ap (λ (ms : List Mention). f y ++ ms) (every-push f xs x) ∙ sym (append_assoc (f y) (every (map f xs)) (f x))

pub builtin-push : (f : Builtin) (i : ℕ) (es : List Expr) (e : Expr) → builtin_arguments f i (map seen (es ++ e ∷ [])) ≡ builtin_arguments f i (map seen es) ++ builtin_at f (i + length es) (seen e).mentions (seen e).name
builtin-push f i [] e =
    let n : i ≡ i + 0 = omega arith in
    append-nil (builtin_at f i (seen e).mentions (seen e).name) ∙ ap (λ (k : ℕ). builtin_at f k (seen e).mentions (seen e).name) n
builtin-push f i (x ∷ es) e =
    let n : i + 1 + length es ≡ i + suc (length es) = omega arith in
    ap (λ (ms : List Mention). builtin_at f i (seen x).mentions (seen x).name ++ ms) (builtin-push f (i + 1) es e)
    ∙ (sym (append_assoc (builtin_at f i (seen x).mentions (seen x).name) (builtin_arguments f (i + 1) (map seen es)) (builtin_at f (i + 1 + length es) (seen e).mentions (seen e).name)) ∙ ap (λ (n : ℕ). (builtin_at f i (seen x).mentions (seen x).name ++ builtin_arguments f (i + 1) (map seen es)) ++ builtin_at f n (seen e).mentions (seen e).name) n)

pub call-push : (f : Name) (i : ℕ) (es : List Expr) (e : Expr) → call_arguments f i (map seen (es ++ e ∷ [])) ≡ call_arguments f i (map seen es) ++ call_at f (i + length es) (seen e).mentions (seen e).name
call-push f i [] e =
    let n : i ≡ i + 0 = omega arith in
    append-nil (call_at f i (seen e).mentions (seen e).name) ∙ ap (λ (k : ℕ). call_at f k (seen e).mentions (seen e).name) n
call-push f i (x ∷ es) e =
    let n : i + 1 + length es ≡ i + suc (length es) = omega arith in
    ap (λ (ms : List Mention). call_at f i (seen x).mentions (seen x).name ++ ms) (call-push f (i + 1) es e)
    ∙ (sym (append_assoc (call_at f i (seen x).mentions (seen x).name) (call_arguments f (i + 1) (map seen es)) (call_at f (i + 1 + length es) (seen e).mentions (seen e).name)) ∙ ap (λ (n : ℕ). (call_at f i (seen x).mentions (seen x).name ++ call_arguments f (i + 1) (map seen es)) ++ call_at f n (seen e).mentions (seen e).name) n)

-- the first arguments, and the next
pub builtin-more : (f : Builtin) (xs : List Expr) (i : ℕ) (x : Expr) (old mid new : Noted) → i < length xs → x ≡ get_or xs i x
    → mid ≡ noted_all (builtin_arguments f 0 (map seen (take i xs))) old → new ≡ noted_all (builtin_at f i (seen x).mentions (seen x).name) mid → new ≡ noted_all (builtin_arguments f 0 (map seen (take (i + 1) xs))) old
builtin-more f xs i x old mid new h held done more =
    let n : 0 + length (take i xs) ≡ i = grind (arith, common_steps, h) in
    one_more (λ (es : List Expr). builtin_arguments f 0 (map seen es)) _ xs i x old mid new h held
    (builtin-push f 0 (take i xs) x ∙ ap (λ (k : ℕ). builtin_arguments f 0 (map seen (take i xs)) ++ builtin_at f k (seen x).mentions (seen x).name) n) done more

pub call-more : (f : Name) (xs : List Expr) (i : ℕ) (x : Expr) (old mid new : Noted) → i < length xs → x ≡ get_or xs i x
    → mid ≡ noted_all (call_arguments f 0 (map seen (take i xs))) old → new ≡ noted_all (call_at f i (seen x).mentions (seen x).name) mid → new ≡ noted_all (call_arguments f 0 (map seen (take (i + 1) xs))) old
call-more f xs i x old mid new h held done more =
    let n : 0 + length (take i xs) ≡ i = grind (arith, common_steps, h) in
    one_more (λ (es : List Expr). call_arguments f 0 (map seen es)) _ xs i x old mid new h held
    (call-push f 0 (take i xs) x ∙ ap (λ (k : ℕ). call_arguments f 0 (map seen (take i xs)) ++ call_at f k (seen x).mentions (seen x).name) n) done more

pub arrays-more : (xs : List Name) (i : ℕ) (x : Name) (old mid new : Noted) → i < length xs → x ≡ get_or xs i x → mid ≡ noted_all (map AsArray (take i xs)) old → new ≡ named Array x mid → new ≡ noted_all (map AsArray (take (i + 1) xs)) old
arrays-more xs i x old mid new h held done more = one_more (map AsArray) (AsArray x ∷ []) xs i x old mid new h held (map-append AsArray (take i xs) (x ∷ [])) done more
