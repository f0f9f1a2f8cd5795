-- The reading gives the tree of the grammar, and only that.
use Rattle.std.proofs.Common.{◌≡◌, ℕ, ◌+◌, ◌-◌, ◌<◌, ◌≤◌, max, Bool, if◌then◌else◌, true, false, Option, Some, None, List, [], ◌∷◌, length, refl, sym, ap, ◌∙◌, subst, arith}
use Rattle.std.proofs.Math.Dec.{eqb-suc-zero}
use Rattle.rawk_ere_pattern.specs.declared.error.EreError.{EreError}
use Rattle.rawk_ere_pattern.specs.declared.error.EreError.TheVariants as error
use Rattle.rawk_ere_tree.specs.declared.node.Count.{Count}
use Rattle.rawk_ere_pattern.specs.declared.token.Token.{Token}
use Rattle.rawk_ere_pattern.specs.declared.token.Token.TheVariants as token
use Rattle.rawk_ere_pattern.specs.declared.read.Frame.{Frame}
use Rattle.rawk_ere_tree.specs.Tree.{Tree, Empty, OneOf, Start, End, Join, Either, Group, Repeat, nesting_of}
use Rattle.rawk_ere_pattern.specs.Grammar.{Construct, Alternatives, Branch, Sequence, Piece, Atom, Derives, one_branch, more_branches, no_piece, some_pieces, one_piece, more_pieces, start, end, repeatable, set, group, repeated}
use Rattle.rawk_ere_pattern.specs.Reading.{attached, pieces_with, branch_of, fresh, whole_of, with_atom, with_anchor, with_bar, step, run, is_formed, nesting_in, depth_of, IsStepRefused, IsTreeRefused}

abbrev frame : Option Tree → Option Tree → Option Tree → Frame
frame a p c = record { alternatives = a; pieces = p; current = c }

-- what the reading makes of a construct
abbrev Read : Construct → List Token → Tree → List Token → Type 0
Read Alternatives ts e rest = (outer : List Frame) → (f : Frame) × (run outer fresh ts ≡ run outer f rest) × (whole_of f ≡ e)
Read Branch ts e rest = (outer : List Frame) (a : Option Tree) → (p c : Option Tree) × (run outer (frame a None None) ts ≡ run outer (frame a p c) rest) × (branch_of (pieces_with p c) ≡ e)
Read Sequence ts e rest = (outer : List Frame) (a : Option Tree) → (p c : Option Tree) × (run outer (frame a None None) ts ≡ run outer (frame a p c) rest) × (pieces_with p c ≡ Some e)
Read Piece ts e rest = (outer : List Frame) (a p c : Option Tree) → (p' c' : Option Tree) × (run outer (frame a p c) ts ≡ run outer (frame a p' c') rest) × (pieces_with p' c' ≡ Some (attached Join (pieces_with p c) e))
Read Atom ts e rest = (outer : List Frame) (a p c : Option Tree) → run outer (frame a p c) ts ≡ run outer (frame a (pieces_with p c) (Some e)) rest

reads : {k : Construct} {ts rest : List Token} {e : Tree} → Derives k ts e rest → Read k ts e rest
reads (one_branch d) = λ outer. let r = reads d outer None in (frame None r.0 r.1, r.2, r.3)
reads (more_branches {mid = mid} {rest = rest} {a = a} {b = b} d x) = λ outer.
    let l = reads d outer in
    let r = reads x outer (Some a) in
    (frame (Some a) r.0 r.1, l.1 ∙ ap (λ t. run outer (frame (Some t) None None) mid) l.2 ∙ r.2, ap (λ t. Either a t) r.3)
reads no_piece = λ outer a. (None, None, refl, refl)
reads (some_pieces d) = λ outer a. let r = reads d outer a in (r.0, r.1, r.2, ap branch_of r.3)
reads (one_piece d) = λ outer a. let r = reads d outer a None None in (r.0, r.1, r.2, r.3)
reads (more_pieces {b = b} d x) = λ outer a.
    let l = reads d outer a in
    let r = reads x outer a l.0 l.1 in
    (r.0, r.1, l.2 ∙ r.2, r.3 ∙ ap (λ o. Some (attached Join o b)) l.3)
reads start = λ outer a p c. (Some (attached Join (pieces_with p c) Start), None, refl, refl)
reads end = λ outer a p c. (Some (attached Join (pieces_with p c) End), None, refl, refl)
reads (repeatable {a = e} d) = λ outer a p c. (pieces_with p c, Some e, reads d outer a p c, refl)
reads set = λ outer a p c. refl
reads (group {rest = rest} d) = λ outer a p c.
    let r = reads d (frame a p c ∷ outer) in
    r.1 ∙ ap (λ t. run outer (with_atom (frame a p c) (Group t)) rest) r.2
reads (repeated d) = λ outer a p c. reads d outer a p c

-- what the grammar derives is read
pub read_all : {ts : List Token} {e : Tree} → Derives Alternatives ts e [] → run [] fresh ts ≡ Some e
read_all d = let r = reads d [] in r.1 ∙ ap Some r.2

-- the tokens from the start up to here are those of the frame
abbrev Branches : List Token → Option Tree → List Token → Type 0
Branches from None here = from ≡ here
Branches from (Some a) here = Derives Alternatives from a (token.Bar ∷ here)

abbrev Pieces : List Token → Option Tree → List Token → Type 0
Pieces from None here = from ≡ here
Pieces from (Some a) here = Derives Sequence from a here

abbrev Last : List Token → Option Tree → List Token → Type 0
Last from None here = from ≡ here
Last from (Some a) here = Derives Atom from a here

record FrameAt (from : List Token) (f : Frame) (here : List Token) : Type 0 where
  pub one : List Token
  pub two : List Token
  pub branches : Branches from f.alternatives one
  pub pieces : Pieces one f.pieces two
  pub last : Last two f.current here

pieces_here : (from mid here : List Token) (p c : Option Tree) → Pieces from p mid → Last mid c here → Pieces from (pieces_with p c) here
pieces_here from mid here p None h l = subst (λ x. Pieces from p x) l h
pieces_here from mid here None (Some a) h l = one_piece (repeatable (subst (λ x. Derives Atom x a here) (sym h) l))
pieces_here from mid here (Some b) (Some a) h l = more_pieces h (repeatable l)

branch_here : (from here : List Token) (p : Option Tree) → Pieces from p here → Derives Branch from (branch_of p) here
branch_here from here None h = subst (λ x. Derives Branch from Empty x) h no_piece
branch_here from here (Some a) h = some_pieces h

whole_here : (from mid here : List Token) (a : Option Tree) (b : Tree) → Branches from a mid → Derives Branch mid b here → Derives Alternatives from (attached Either a b) here
whole_here from mid here None b h d = one_branch (subst (λ x. Derives Branch x b here) (sym h) d)
whole_here from mid here (Some a) b h d = more_branches h d

all_here : (from : List Token) (f : Frame) (here : List Token) → FrameAt from f here → Derives Alternatives from (whole_of f) here
all_here from f here x =
    whole_here from x.one here f.alternatives (branch_of (pieces_with f.pieces f.current)) x.branches
    (branch_here x.one here (pieces_with f.pieces f.current) (pieces_here x.one x.two here f.pieces f.current x.pieces x.last))

atom_here : (from : List Token) (f : Frame) (mid here : List Token) (e : Tree) → FrameAt from f mid → Derives Atom mid e here → FrameAt from (with_atom f e) here
atom_here from f mid here e x d = record {
  one = x.one;
  two = mid;
  branches = x.branches;
  pieces = pieces_here x.one x.two mid f.pieces f.current x.pieces x.last;
  last = d;
}

piece_after : (from mid here : List Token) (p : Option Tree) (e : Tree) → Pieces from p mid → Derives Piece mid e here → Derives Sequence from (attached Join p e) here
piece_after from mid here None e h d = one_piece (subst (λ x. Derives Piece x e here) (sym h) d)
piece_after from mid here (Some a) e h d = more_pieces h d

anchor_here : (from : List Token) (f : Frame) (mid here : List Token) (e : Tree) → FrameAt from f mid → Derives Piece mid e here → FrameAt from (with_anchor f e) here
anchor_here from f mid here e x d = record {
  one = x.one;
  two = here;
  branches = x.branches;
  pieces = piece_after x.one mid here (pieces_with f.pieces f.current) e (pieces_here x.one x.two mid f.pieces f.current x.pieces x.last) d;
  last = refl;
}

bar_here : (from : List Token) (f : Frame) (here : List Token) → FrameAt from f (token.Bar ∷ here) → FrameAt from (with_bar f) here
bar_here from f here x = record { one = here; two = here; branches = all_here from f (token.Bar ∷ here) x; pieces = refl; last = refl }

count_here : (from : List Token) (f : Frame) (here : List Token) (e : Tree) (c : Count) → FrameAt from (frame f.alternatives f.pieces (Some e)) (token.Times c ∷ here) → FrameAt from (frame f.alternatives f.pieces (Some (Repeat e c))) here
count_here from f here e c x = record { one = x.one; two = x.two; branches = x.branches; pieces = x.pieces; last = repeated x.last }

fresh_here : (here : List Token) → FrameAt here fresh here
fresh_here here = record { one = here; two = here; branches = refl; pieces = refl; last = refl }

-- the tokens from the start up to here are those of the frames, the innermost first
abbrev Framed : List Token → List Frame → Frame → List Token → Type 0
Framed all [] f here = FrameAt all f here
Framed all (g ∷ outer) f here = (from : List Token) × Framed all outer g (token.Open ∷ from) × FrameAt from f here

reframed : (all : List Token) (outer : List Frame) (f g : Frame) (mid here : List Token) → ((from : List Token) → FrameAt from f mid → FrameAt from g here) → Framed all outer f mid → Framed all outer g here
reframed all [] f g mid here m x = m all x
reframed all (h ∷ outer) f g mid here m x = (x.0, x.1, m x.0 x.2)

-- what is read is derived by the grammar
derived : (ts : List Token) (outer : List Frame) (f : Frame) (all : List Token) (e : Tree) → Framed all outer f ts → run outer f ts ≡ Some e → Derives Alternatives all e []
derived [] [] f all e x is = let same : whole_of f ≡ e = cc in subst (λ t. Derives Alternatives all t []) same (all_here all f [] x)
derived [] (g ∷ outer) f all e x is = cc
derived (token.OneOf w ∷ ts) outer f all e x is = derived ts outer (with_atom f (OneOf w)) all e (reframed all outer f (with_atom f (OneOf w)) _ ts (λ from y. atom_here from f _ ts (OneOf w) y set) x) is
derived (token.Start ∷ ts) outer f all e x is = derived ts outer (with_anchor f Start) all e (reframed all outer f (with_anchor f Start) _ ts (λ from y. anchor_here from f _ ts Start y start) x) is
derived (token.End ∷ ts) outer f all e x is = derived ts outer (with_anchor f End) all e (reframed all outer f (with_anchor f End) _ ts (λ from y. anchor_here from f _ ts End y end) x) is
derived (token.Bar ∷ ts) outer f all e x is = derived ts outer (with_bar f) all e (reframed all outer f (with_bar f) _ ts (λ from y. bar_here from f ts y) x) is
derived (token.Open ∷ ts) outer f all e x is = derived ts (f ∷ outer) fresh all e (ts, x, fresh_here ts) is
derived (token.Close ∷ ts) [] f all e x is = cc
derived (token.Close ∷ ts) (g ∷ outer) f all e x is =
    derived ts outer (with_atom g (Group (whole_of f))) all e
    (reframed all outer g (with_atom g (Group (whole_of f))) _ ts (λ from y. atom_here from g _ ts (Group (whole_of f)) y (group (all_here x.0 f (token.Close ∷ ts) x.2))) x.1) is
derived (token.Times c ∷ ts) outer f all e x is =
    elim f.current as (λ o. Framed all outer (frame f.alternatives f.pieces o) (token.Times c ∷ ts) → run outer (frame f.alternatives f.pieces o) (token.Times c ∷ ts) ≡ Some e → Derives Alternatives all e []) [
      | None ↦ λ y r. cc
      | Some a ↦ λ y r. derived ts outer (frame f.alternatives f.pieces (Some (Repeat a c))) all e
          (reframed all outer (frame f.alternatives f.pieces (Some a)) (frame f.alternatives f.pieces (Some (Repeat a c))) _ ts (λ from z. count_here from (frame f.alternatives f.pieces (Some a)) ts a c z) y) r
    ] x is

pub derived_all : (ts : List Token) (e : Tree) → run [] fresh ts ≡ Some e → Derives Alternatives ts e []
derived_all ts e is = derived ts [] fresh ts e (fresh_here ts) is

-- whether there is a last piece that may be repeated
abbrev may_repeat : Option Tree → Bool
may_repeat None = false
may_repeat (Some a) = true

abbrev is_some : Option Tree → Bool
is_some None = false
is_some (Some a) = true

formed_is : (ts : List Token) (outer : List Frame) (f : Frame) → is_some (run outer f ts) ≡ is_formed ts (length outer) (may_repeat f.current)
formed_is [] [] f = refl
formed_is [] (g ∷ outer) f = sym (eqb-suc-zero (length outer))
formed_is (token.OneOf w ∷ ts) outer f = formed_is ts outer (with_atom f (OneOf w))
formed_is (token.Start ∷ ts) outer f = formed_is ts outer (with_anchor f Start)
formed_is (token.End ∷ ts) outer f = formed_is ts outer (with_anchor f End)
formed_is (token.Bar ∷ ts) outer f = formed_is ts outer (with_bar f)
formed_is (token.Open ∷ ts) outer f = let n : length (f ∷ outer) ≡ length outer + 1 = omega arith in formed_is ts (f ∷ outer) fresh ∙ ap (λ d. is_formed ts d false) n
formed_is (token.Close ∷ ts) [] f = refl
formed_is (token.Close ∷ ts) (g ∷ outer) f =
    let n : length outer ≡ length (g ∷ outer) - 1 = omega arith in
    formed_is ts outer (with_atom g (Group (whole_of f))) ∙ ap (λ d. is_formed ts d true) n
    ∙ sym (ap (λ b. if b then false else is_formed ts (length (g ∷ outer) - 1) true) (eqb-suc-zero (length outer)))
formed_is (token.Times c ∷ ts) outer f =
    elim f.current as (λ o. is_some (run outer (frame f.alternatives f.pieces o) (token.Times c ∷ ts)) ≡ is_formed (token.Times c ∷ ts) (length outer) (may_repeat o)) [
      | None ↦ refl
      | Some a ↦ formed_is ts outer (frame f.alternatives f.pieces (Some (Repeat a c)))
    ]

some_of : (o : Option Tree) → is_some o ≡ true → (e : Tree) × (o ≡ Some e)
some_of None h = cc
some_of (Some e) h = (e, refl)

-- well-formed tokens have a tree
pub tree_of_formed : (ts : List Token) → is_formed ts 0 false ≡ true → (e : Tree) × (run [] fresh ts ≡ Some e)
tree_of_formed ts h = some_of (run [] fresh ts) (formed_is ts [] fresh ∙ h)

-- others have none
pub none_of_unformed : (ts : List Token) (e : Tree) → is_formed ts 0 false ≡ false → run [] fresh ts ≡ Some e → ⊥
none_of_unformed ts e h is = let r = formed_is ts [] fresh ∙ h in let s = ap is_some is in cc

-- what is nested stays nested
attached_deep : (a : Option Tree) (b : Tree) → (nesting_of (attached Join a b) ≡ max (nesting_in a) (nesting_of b)) × (nesting_of (attached Either a b) ≡ max (nesting_in a) (nesting_of b))
attached_deep None b = (omega arith, omega arith)
attached_deep (Some a) b = (refl, refl)

pieces_deep : (p c : Option Tree) → nesting_in (pieces_with p c) ≡ max (nesting_in p) (nesting_in c)
pieces_deep p None = omega arith
pieces_deep p (Some a) = (attached_deep p a).0

branch_deep : (p : Option Tree) → nesting_of (branch_of p) ≡ nesting_in p
branch_deep None = refl
branch_deep (Some a) = refl

whole_deep : (f : Frame) → nesting_of (whole_of f) ≡ depth_of f
whole_deep f = omega (arith, (attached_deep f.alternatives (branch_of (pieces_with f.pieces f.current))).1, branch_deep (pieces_with f.pieces f.current), pieces_deep f.pieces f.current)

atom_deep : (f : Frame) (e : Tree) → depth_of (with_atom f e) ≡ max (depth_of f) (nesting_of e)
atom_deep f e = omega (arith, pieces_deep f.pieces f.current)

anchor_deep : (f : Frame) (e : Tree) → nesting_of e ≡ 0 → depth_of (with_anchor f e) ≡ depth_of f
anchor_deep f e z = omega (arith, (attached_deep (pieces_with f.pieces f.current) e).0, pieces_deep f.pieces f.current)

-- the deepest of the groups that are open
abbrev deepest : List Frame → ℕ
deepest [] = 0
deepest (g ∷ outer) = max (depth_of g) (deepest outer)

deep_stays : (ts : List Token) (outer : List Frame) (f : Frame) (e : Tree) → run outer f ts ≡ Some e → max (deepest outer) (depth_of f) ≤ nesting_of e
deep_stays [] [] f e is = let same : whole_of f ≡ e = cc in omega (arith, whole_deep f, ap nesting_of same)
deep_stays [] (g ∷ outer) f e is = cc
deep_stays (token.OneOf w ∷ ts) outer f e is = omega (arith, deep_stays ts outer (with_atom f (OneOf w)) e is, atom_deep f (OneOf w))
deep_stays (token.Start ∷ ts) outer f e is = omega (arith, deep_stays ts outer (with_anchor f Start) e is, anchor_deep f Start refl)
deep_stays (token.End ∷ ts) outer f e is = omega (arith, deep_stays ts outer (with_anchor f End) e is, anchor_deep f End refl)
deep_stays (token.Bar ∷ ts) outer f e is = omega (arith, deep_stays ts outer (with_bar f) e is, whole_deep f)
deep_stays (token.Open ∷ ts) outer f e is = omega (arith, deep_stays ts (f ∷ outer) fresh e is)
deep_stays (token.Close ∷ ts) [] f e is = cc
deep_stays (token.Close ∷ ts) (g ∷ outer) f e is =
    omega (arith, deep_stays ts outer (with_atom g (Group (whole_of f))) e is, atom_deep g (Group (whole_of f)), whole_deep f)
deep_stays (token.Times c ∷ ts) outer f e is =
    elim f.current as (λ o. run outer (frame f.alternatives f.pieces o) (token.Times c ∷ ts) ≡ Some e → max (deepest outer) (depth_of (frame f.alternatives f.pieces o)) ≤ nesting_of e) [
      | None ↦ λ r. cc
      | Some a ↦ λ r. omega (arith, deep_stays ts outer (frame f.alternatives f.pieces (Some (Repeat a c))) e r)
    ] is

-- a tree of which a token makes too deep a part is too deep
pub deep_all : (outer : List Frame) (f : Frame) (t : Token) (ts : List Token) (e : Tree) → ((s : List Frame × Frame) → step outer f t ≡ Some s → 200 < depth_of s.1) → run outer f (t ∷ ts) ≡ Some e → 200 < nesting_of e
deep_all outer f t ts e deep is =
    let P : Option (List Frame × Frame) → Type 0 = λ o. ((s : List Frame × Frame) → o ≡ Some s → 200 < depth_of s.1) → elim o as (λ _. Option Tree) [ None ↦ None | Some s ↦ run s.0 s.1 ts ] ≡ Some e → 200 < nesting_of e in
    elim (step outer f t) as P [
      | None ↦ λ d r. cc
      | Some s ↦ λ d r. (let lt : 200 < depth_of s.1 = d s refl in omega (arith, lt, deep_stays ts s.0 s.1 e r))
    ] deep is

-- where a step is refused, so is the tree
pub refused_from : (x : EreError) (outer : List Frame) (f : Frame) (t : Token) (ts rest all : List Token) → rest ≡ t ∷ ts → run outer f rest ≡ run [] fresh all → IsStepRefused x (step outer f t) → IsTreeRefused x (run [] fresh all)
refused_from error.Memory outer f t ts rest all r e h = tt
refused_from error.Syntax outer f t ts rest all r e h =
    sym e ∙ ap (λ l. run outer f l) r ∙ ap (λ o. elim o as (λ _. Option Tree) [ None ↦ None | Some s ↦ run s.0 s.1 ts ]) h
refused_from error.TooLarge outer f t ts rest all r e h = λ tree is. deep_all outer f t ts tree h (sym (ap (λ l. run outer f l) r) ∙ e ∙ is)
