-- What each kind of expression mentions.
use Rattle.std.proofs.Common.{◌≡◌, ℕ, ℤ, List, [], ◌∷◌, ◌++◌, length, map, Some, None, refl, sym, ap, ◌∙◌}
use Rattle.std.proofs.lemmas.List.{length-map}
use Rattle.rawk_keywords.specs.declared.builtin.Builtin.{Builtin}
use Rattle.rawk_parsing.specs.declared.tree.Name.{Name}
use Rattle.rawk_parsing.specs.declared.tree.Change.{Change}
use Rattle.rawk_words.specs.declared.operator.Sign.{Sign}
use Rattle.rawk_words.specs.declared.operator.Logic.{Logic}
use Rattle.rawk_parsing.specs.declared.tree.Assignment.{Assignment}
use Rattle.rawk_parsing.specs.declared.tree.Expr.{Expr, fold-roll-Expr, map-Expr, roll-Expr, out-Expr}
use Rattle.rawk_parsing.specs.declared.tree.Expr.TheOpen.{Expr-F, Place-F}
use Rattle.rawk_parsing.specs.declared.tree.Expr.TheFolds.{fold-roll-Place, fold-roll-Link, fold_out-Expr}
use Rattle.rawk_parsing.specs.declared.tree.Expr.TheViews.{roll-out-Expr}
use Rattle.rawk_parsing.specs.declared.tree.Expr.TheVariants as expr
use Rattle.rawk_parsing.specs.declared.tree.Link.{Link}
use Rattle.rawk_parsing.specs.declared.tree.Place.{Place}
use Rattle.rawk_parsing.specs.declared.tree.Place.TheVariants as spot
use Rattle.rawk_names.specs.Mentions.{Mention, AsScalar, AsArray, Called, Pattern, Seen, only, all, every, builtin_arguments, call_arguments, expr_step, place_step, link_step, seen, place_seen, link_mentions, mentions, place_mentions}

pub seen-Number : (k : ℤ) → seen (expr.Number k) ≡ only ([])
unfolding seen place_seen link_mentions
seen-Number k = ap seen (sym (expr.rolls-Number k)) ∙ fold-roll-Expr Seen Seen (List Mention) expr_step place_step link_step (Expr-F.Number k)

pub mentions-Number : (k : ℤ) → mentions (expr.Number k) ≡ []
mentions-Number k = ap (λ (s : Seen). s.mentions) (seen-Number k)

pub seen-Text : (w : List ℕ) → seen (expr.Text w) ≡ only ([])
unfolding seen place_seen link_mentions
seen-Text w = ap seen (sym (expr.rolls-Text w)) ∙ fold-roll-Expr Seen Seen (List Mention) expr_step place_step link_step (Expr-F.Text w)

pub mentions-Text : (w : List ℕ) → mentions (expr.Text w) ≡ []
mentions-Text w = ap (λ (s : Seen). s.mentions) (seen-Text w)

pub seen-Ere : (left : ℕ) (w : List ℕ) → seen (expr.Ere left w) ≡ only (Pattern left w ∷ [])
unfolding seen place_seen link_mentions
seen-Ere left w = ap seen (sym (expr.rolls-Ere left w)) ∙ fold-roll-Expr Seen Seen (List Mention) expr_step place_step link_step (Expr-F.Ere left w)

pub mentions-Ere : (left : ℕ) (w : List ℕ) → mentions (expr.Ere left w) ≡ Pattern left w ∷ []
mentions-Ere left w = ap (λ (s : Seen). s.mentions) (seen-Ere left w)

pub seen-Group : (e : Expr) → seen (expr.Group e) ≡ only (mentions e)
unfolding seen place_seen link_mentions
seen-Group e = ap seen (sym (expr.rolls-Group e)) ∙ fold-roll-Expr Seen Seen (List Mention) expr_step place_step link_step (Expr-F.Group e)

pub mentions-Group : (e : Expr) → mentions (expr.Group e) ≡ mentions e
mentions-Group e = ap (λ (s : Seen). s.mentions) (seen-Group e)

pub seen-Before : (c : Change) (p : Place) → seen (expr.Before c p) ≡ only (place_mentions p)
unfolding seen place_seen link_mentions
seen-Before c p = ap seen (sym (expr.rolls-Before c p)) ∙ fold-roll-Expr Seen Seen (List Mention) expr_step place_step link_step (Expr-F.Before c p)

pub mentions-Before : (c : Change) (p : Place) → mentions (expr.Before c p) ≡ place_mentions p
mentions-Before c p = ap (λ (s : Seen). s.mentions) (seen-Before c p)

pub seen-After : (c : Change) (p : Place) → seen (expr.After c p) ≡ only (place_mentions p)
unfolding seen place_seen link_mentions
seen-After c p = ap seen (sym (expr.rolls-After c p)) ∙ fold-roll-Expr Seen Seen (List Mention) expr_step place_step link_step (Expr-F.After c p)

pub mentions-After : (c : Change) (p : Place) → mentions (expr.After c p) ≡ place_mentions p
mentions-After c p = ap (λ (s : Seen). s.mentions) (seen-After c p)

pub seen-Power : (a b : Expr) → seen (expr.Power a b) ≡ only (mentions a ++ mentions b)
unfolding seen place_seen link_mentions
seen-Power a b = ap seen (sym (expr.rolls-Power a b)) ∙ fold-roll-Expr Seen Seen (List Mention) expr_step place_step link_step (Expr-F.Power a b)

pub mentions-Power : (a b : Expr) → mentions (expr.Power a b) ≡ mentions a ++ mentions b
mentions-Power a b = ap (λ (s : Seen). s.mentions) (seen-Power a b)

pub seen-Signed : (s : Sign) (e : Expr) → seen (expr.Signed s e) ≡ only (mentions e)
unfolding seen place_seen link_mentions
seen-Signed s e = ap seen (sym (expr.rolls-Signed s e)) ∙ fold-roll-Expr Seen Seen (List Mention) expr_step place_step link_step (Expr-F.Signed s e)

pub mentions-Signed : (s : Sign) (e : Expr) → mentions (expr.Signed s e) ≡ mentions e
mentions-Signed s e = ap (λ (s : Seen). s.mentions) (seen-Signed s e)

pub seen-Chain : (e : Expr) (links : List Link) → seen (expr.Chain e links) ≡ only (mentions e ++ every (map link_mentions links))
unfolding seen place_seen link_mentions
seen-Chain e links = ap seen (sym (expr.rolls-Chain e links)) ∙ fold-roll-Expr Seen Seen (List Mention) expr_step place_step link_step (Expr-F.Chain e links)

pub mentions-Chain : (e : Expr) (links : List Link) → mentions (expr.Chain e links) ≡ mentions e ++ every (map link_mentions links)
mentions-Chain e links = ap (λ (s : Seen). s.mentions) (seen-Chain e links)

pub seen-In : (e : Expr) (arrays : List Name) → seen (expr.In e arrays) ≡ only (mentions e ++ map AsArray arrays)
unfolding seen place_seen link_mentions
seen-In e arrays = ap seen (sym (expr.rolls-In e arrays)) ∙ fold-roll-Expr Seen Seen (List Mention) expr_step place_step link_step (Expr-F.In e arrays)

pub mentions-In : (e : Expr) (arrays : List Name) → mentions (expr.In e arrays) ≡ mentions e ++ map AsArray arrays
mentions-In e arrays = ap (λ (s : Seen). s.mentions) (seen-In e arrays)

pub seen-ListIn : (es : List Expr) (array : Name) → seen (expr.ListIn es array) ≡ only (all (map seen es) ++ AsArray array ∷ [])
unfolding seen place_seen link_mentions
seen-ListIn es array = ap seen (sym (expr.rolls-ListIn es array)) ∙ fold-roll-Expr Seen Seen (List Mention) expr_step place_step link_step (Expr-F.ListIn es array)

pub mentions-ListIn : (es : List Expr) (array : Name) → mentions (expr.ListIn es array) ≡ all (map seen es) ++ AsArray array ∷ []
mentions-ListIn es array = ap (λ (s : Seen). s.mentions) (seen-ListIn es array)

pub seen-Logic : (o : Logic) (es : List Expr) → seen (expr.Logic o es) ≡ only (all (map seen es))
unfolding seen place_seen link_mentions
seen-Logic o es = ap seen (sym (expr.rolls-Logic o es)) ∙ fold-roll-Expr Seen Seen (List Mention) expr_step place_step link_step (Expr-F.Logic o es)

pub mentions-Logic : (o : Logic) (es : List Expr) → mentions (expr.Logic o es) ≡ all (map seen es)
mentions-Logic o es = ap (λ (s : Seen). s.mentions) (seen-Logic o es)

pub seen-Choice : (a b c : Expr) → seen (expr.Choice a b c) ≡ only (mentions a ++ (mentions b ++ mentions c))
unfolding seen place_seen link_mentions
seen-Choice a b c = ap seen (sym (expr.rolls-Choice a b c)) ∙ fold-roll-Expr Seen Seen (List Mention) expr_step place_step link_step (Expr-F.Choice a b c)

pub mentions-Choice : (a b c : Expr) → mentions (expr.Choice a b c) ≡ mentions a ++ (mentions b ++ mentions c)
mentions-Choice a b c = ap (λ (s : Seen). s.mentions) (seen-Choice a b c)

pub seen-Assign : (o : Assignment) (p : Place) (e : Expr) → seen (expr.Assign o p e) ≡ only (place_mentions p ++ mentions e)
unfolding seen place_seen link_mentions
seen-Assign o p e = ap seen (sym (expr.rolls-Assign o p e)) ∙ fold-roll-Expr Seen Seen (List Mention) expr_step place_step link_step (Expr-F.Assign o p e)

pub mentions-Assign : (o : Assignment) (p : Place) (e : Expr) → mentions (expr.Assign o p e) ≡ place_mentions p ++ mentions e
mentions-Assign o p e = ap (λ (s : Seen). s.mentions) (seen-Assign o p e)

pub seen-Builtin : (f : Builtin) (es : List Expr) → seen (expr.Builtin f es) ≡ only (builtin_arguments f 0 (map seen es))
unfolding seen place_seen link_mentions
seen-Builtin f es = ap seen (sym (expr.rolls-Builtin f es)) ∙ fold-roll-Expr Seen Seen (List Mention) expr_step place_step link_step (Expr-F.Builtin f es)

pub mentions-Builtin : (f : Builtin) (es : List Expr) → mentions (expr.Builtin f es) ≡ builtin_arguments f 0 (map seen es)
mentions-Builtin f es = ap (λ (s : Seen). s.mentions) (seen-Builtin f es)

pub seen-Call : (f : Name) (es : List Expr) → seen (expr.Call f es) ≡ only (Called f (length es) ∷ call_arguments f 0 (map seen es))
unfolding seen place_seen link_mentions
seen-Call f es = ap seen (sym (expr.rolls-Call f es)) ∙ fold-roll-Expr Seen Seen (List Mention) expr_step place_step link_step (Expr-F.Call f es)
    ∙ ap (λ (n : ℕ). only (Called f n ∷ call_arguments f 0 (map seen es))) (length-map es seen)

pub mentions-Call : (f : Name) (es : List Expr) → mentions (expr.Call f es) ≡ Called f (length es) ∷ call_arguments f 0 (map seen es)
mentions-Call f es = ap (λ (s : Seen). s.mentions) (seen-Call f es)

pub seen-Getline : seen expr.Getline ≡ only ([])
unfolding seen place_seen link_mentions
seen-Getline = ap seen (sym (expr.rolls-Getline)) ∙ fold-roll-Expr Seen Seen (List Mention) expr_step place_step link_step Expr-F.Getline

pub mentions-Getline : mentions expr.Getline ≡ []
mentions-Getline = ap (λ (s : Seen). s.mentions) (seen-Getline)

pub seen-GetlineTo : (p : Place) → seen (expr.GetlineTo p) ≡ only (place_mentions p)
unfolding seen place_seen link_mentions
seen-GetlineTo p = ap seen (sym (expr.rolls-GetlineTo p)) ∙ fold-roll-Expr Seen Seen (List Mention) expr_step place_step link_step (Expr-F.GetlineTo p)

pub mentions-GetlineTo : (p : Place) → mentions (expr.GetlineTo p) ≡ place_mentions p
mentions-GetlineTo p = ap (λ (s : Seen). s.mentions) (seen-GetlineTo p)

pub seen-Of : (p : Place) → seen (expr.Of p) ≡ place_seen p
unfolding seen place_seen link_mentions
seen-Of p = ap seen (sym (expr.rolls-Of p)) ∙ fold-roll-Expr Seen Seen (List Mention) expr_step place_step link_step (Expr-F.Of p)

pub mentions-Of : (p : Place) → mentions (expr.Of p) ≡ place_mentions p
mentions-Of p = ap (λ (s : Seen). s.mentions) (seen-Of p)

pub place_seen-Name : (x : Name) → place_seen (spot.Name x) ≡ record { mentions = AsScalar x ∷ []; name = Some x }
unfolding seen place_seen link_mentions
place_seen-Name x = ap place_seen (sym (spot.rolls-Name x)) ∙ fold-roll-Place Seen Seen (List Mention) expr_step place_step link_step (Place-F.Name x)

pub place_seen-Element : (x : Name) (es : List Expr) → place_seen (spot.Element x es) ≡ only (AsArray x ∷ all (map seen es))
unfolding seen place_seen link_mentions
place_seen-Element x es = ap place_seen (sym (spot.rolls-Element x es)) ∙ fold-roll-Place Seen Seen (List Mention) expr_step place_step link_step (Place-F.Element x es)

pub place_seen-Field : (e : Expr) → place_seen (spot.Field e) ≡ only (mentions e)
unfolding seen place_seen link_mentions
place_seen-Field e = ap place_seen (sym (spot.rolls-Field e)) ∙ fold-roll-Place Seen Seen (List Mention) expr_step place_step link_step (Place-F.Field e)

pub link_mentions-is : (l : Link) → link_mentions l ≡ mentions l.operand
unfolding seen place_seen link_mentions
link_mentions-is l = fold-roll-Link Seen Seen (List Mention) expr_step place_step link_step (record { operator = l.operator; operand = l.operand })

pub place_mentions-Name : (x : Name) → place_mentions (spot.Name x) ≡ AsScalar x ∷ []
place_mentions-Name x = ap (λ (s : Seen). s.mentions) (place_seen-Name x)

pub place_mentions-Element : (x : Name) (es : List Expr) → place_mentions (spot.Element x es) ≡ AsArray x ∷ all (map seen es)
place_mentions-Element x es = ap (λ (s : Seen). s.mentions) (place_seen-Element x es)

pub place_mentions-Field : (e : Expr) → place_mentions (spot.Field e) ≡ mentions e
place_mentions-Field e = ap (λ (s : Seen). s.mentions) (place_seen-Field e)

pub place_name-Name : (x : Name) → (place_seen (spot.Name x)).name ≡ Some x
place_name-Name x = ap (λ (s : Seen). s.name) (place_seen-Name x)

pub place_name-Element : (x : Name) (es : List Expr) → (place_seen (spot.Element x es)).name ≡ None
place_name-Element x es = ap (λ (s : Seen). s.name) (place_seen-Element x es)

pub place_name-Field : (e : Expr) → (place_seen (spot.Field e)).name ≡ None
place_name-Field e = ap (λ (s : Seen). s.name) (place_seen-Field e)

pub name-Of : (p : Place) → (seen (expr.Of p)).name ≡ (place_seen p).name
name-Of p = ap (λ (s : Seen). s.name) (seen-Of p)

unseen : (d : Expr-F Expr Place Link) → ((p : Place) → roll-Expr d ≡ expr.Of p → ⊥) → (expr_step (map-Expr Expr Place Link Seen Seen (List Mention) seen place_seen link_mentions d)).name ≡ None
unseen (Expr-F.Of p) h = absurd (h p (expr.rolls-Of p))
unseen _ h = refl

-- only a place is a name alone
pub nameless : (e : Expr) → ((p : Place) → e ≡ expr.Of p → ⊥) → (seen e).name ≡ None
unfolding seen place_seen link_mentions
nameless e h = ap (λ (s : Seen). s.name) (fold_out-Expr Seen Seen (List Mention) expr_step place_step link_step e) ∙ unseen (out-Expr e) (λ p g. h p (sym (roll-out-Expr e) ∙ g))
