-- How the settled tree of an expression comes from the parser's.
use Rattle.std.specs.Prelude.{◌≡◌, ℕ, ℤ, pos, List, [], ◌∷◌, ◌++◌, Option, None, Some}
use Rattle.std.specs.Global.{Box, Vec}
use Rattle.rawk_keywords.specs.declared.builtin.Builtin.{Builtin}
use Rattle.rawk_keywords.specs.declared.builtin.Builtin.TheVariants as fun
use Rattle.rawk_value.specs.declared.operator.Arithmetic.{Arithmetic}
use Rattle.rawk_value.specs.declared.operator.Arithmetic.TheVariants.{Pow}
use Rattle.rawk_parsing.specs.declared.tree.Assignment.TheVariants as setting
use Rattle.rawk_parsing.specs.declared.tree.Operator.{Operator}
use Rattle.rawk_words.specs.declared.array.Array.{Array}
use Rattle.rawk_words.specs.declared.operator.Extent.{Extent}
use Rattle.rawk_words.specs.declared.operator.Extent.TheVariants as extent
use Rattle.rawk_words.specs.declared.operator.Sign.{Sign}
use Rattle.rawk_words.specs.declared.operator.Logic.{Logic}
use Rattle.rawk_parsing.specs.declared.tree.Change.{Change}
use Rattle.rawk_parsing.specs.declared.tree.Name as word
use Rattle.rawk_parsing.specs.declared.tree.Expr as parsed
use Rattle.rawk_parsing.specs.declared.tree.Expr.TheVariants as from
use Rattle.rawk_parsing.specs.declared.tree.Link as join
use Rattle.rawk_parsing.specs.declared.tree.Place as spot
use Rattle.rawk_parsing.specs.declared.tree.Place.TheVariants as from_place
use Rattle.rawk_expression.specs.Expression.{link}
use Rattle.rawk_tree.specs.declared.tree.Expr.{Expr}
use Rattle.rawk_tree.specs.declared.tree.Expr.TheVariants as tree
use Rattle.rawk_tree.specs.declared.tree.Joiner.{Joiner}
use Rattle.rawk_tree.specs.declared.tree.Joiner.TheVariants as joiner
use Rattle.rawk_tree.specs.declared.tree.Unary.TheVariants as unary
use Rattle.rawk_tree.specs.declared.tree.Link.{Link}
use Rattle.rawk_tree.specs.declared.tree.Link.TheVariants as tree_link
use Rattle.rawk_tree.specs.declared.tree.Place.{Place}
use Rattle.rawk_tree.specs.declared.tree.Place.TheVariants as tree_place
use Rattle.rawk_tree.specs.declared.tree.Scalar.{Scalar}
use Rattle.rawk_tree.specs.declared.tree.Kind.{Kind}
use Rattle.rawk_tree.specs.declared.tree.Kind.TheVariants as kind
use Rattle.rawk_tree.specs.declared.tree.Separation.{Separation}
use Rattle.rawk_tree.specs.declared.tree.Separation.TheVariants as separation
use Rattle.rawk_resolution.specs.Calls.{Applies}
pub use Rattle.rawk_resolution.specs.Nodes.{joiner_of, scalar_place, IsRecordPlace, IsRecord, IsMatchOf, operator_of, neutral}
use Rattle.rawk_special.specs.declared.special.TheConstants.{FS}
use Rattle.rawk_resolution.specs.Meant.{Sense}

-- a part of the parser's tree, and what it is settled as
pub data Pair : Type 0 where
  AnExpr : parsed.Expr → Expr → Pair
  APlace : spot.Place → Place → Pair
  -- a text that is sought in others
  ASought : parsed.Expr → Expr → Pair
  SomeLinks : List join.Link → List Link → Pair
  SomeTests : Logic → List parsed.Expr → List Link → Pair
  SomeExprs : List parsed.Expr → List Expr → Pair
  -- the arguments of parameters of these kinds: the values of scalars, and the arrays
  SomeArguments : List Kind → List parsed.Expr → List Expr → List Array → Pair
  -- what separates the parts of a text, or nothing, and how it separates
  ASeparator : List parsed.Expr → Separation → Expr → Pair

-- the right operand of a joiner, and what it is settled as: behind `~` and `!~` it is sought
abbrev pub right_of : Joiner → parsed.Expr → Expr → Pair
right_of joiner.Matches e s = ASought e s
right_of joiner.NotMatches e s = ASought e s
right_of j e s = AnExpr e s

-- which matches a function replaces, if it does
abbrev pub extent_of : Builtin → Option Extent
extent_of fun.Sub = Some extent.First
extent_of fun.Gsub = Some extent.All
extent_of _ = None

-- whether the array of a name has the element of one subscript (POSIX awk, "Expressions in awk")
pub record IsMember (means : Sense) (n : word.Name) (subscript : Expr) (e : Expr) : Type 0 where
  pub array : Array
  pub subscripts : Vec Expr
  pub named : means.array n.word ≡ Some array
  pub one : subscripts.items ≡ subscript ∷ []
  pub is : e ≡ tree.Has array subscripts

-- `in` from left to right: a value, whether the first array has it as a subscript, whether the second has that answer, and so on
pub data IsIn (means : Sense) (subscript : Expr) : List word.Name → Expr → Type 0 where
  itself : IsIn means subscript [] subscript
  in_next : {ns : List word.Name} {n : word.Name} {s t : Expr} → IsIn means subscript ns s → IsMember means n s t → IsIn means subscript (ns ++ n ∷ []) t

-- By what names stand for, the one is settled as the other; parentheses are gone.
pub data Settles (means : Sense) : Pair → Type 0 where
  number : {n : ℤ} → Settles means (AnExpr (from.Number n) (tree.Number n))
  text : {w : List ℕ} → Settles means (AnExpr (from.Text w) (tree.Text w))
  getline : Settles means (AnExpr from.Getline tree.Getline)
  getline_to : {p : spot.Place} {q : Place} → Settles means (APlace p q) → Settles means (AnExpr (from.GetlineTo p) (tree.GetlineTo q))
  -- a regular expression by itself
  matched : {left : ℕ} {w : List ℕ} {s : Expr} → IsMatchOf w s → Settles means (AnExpr (from.Ere left w) s)
  -- what is sought: a regular expression stands for its text, and anything else for its value
  sought : {left : ℕ} {w : List ℕ} → Settles means (ASought (from.Ere left w) (tree.Text w))
  made : {e : parsed.Expr} {s : Expr} → ((left : ℕ) (w : List ℕ) → e ≡ from.Ere left w → ⊥) → Settles means (AnExpr e s) → Settles means (ASought e s)
  read : {p : spot.Place} {q : Place} → Settles means (APlace p q) → Settles means (AnExpr (from.Of p) (tree.Read q))
  group : {e : parsed.Expr} {s : Expr} → Settles means (AnExpr e s) → Settles means (AnExpr (from.Group e) s)
  signed : {sign : Sign} {e : parsed.Expr} (s : Box Expr) → Settles means (AnExpr e s.value) → Settles means (AnExpr (from.Signed sign e) (tree.Unary (unary.Sign sign) s))
  -- a power is a chain of one link
  power : {e f : parsed.Expr} {t : Expr} (s : Box Expr) (ys : Vec Link)
      → Settles means (AnExpr e s.value) → Settles means (AnExpr f t) → ys.items ≡ tree_link.Combine (joiner.Arithmetic Pow) t ∷ [] → Settles means (AnExpr (from.Power e f) (tree.Chain s ys))
  chain : {e : parsed.Expr} {xs : List join.Link} (s : Box Expr) (ys : Vec Link)
      → Settles means (AnExpr e s.value) → Settles means (SomeLinks xs ys.items) → Settles means (AnExpr (from.Chain e xs) (tree.Chain s ys))
  -- tests are a chain behind a constant that decides nothing
  logical : {l : Logic} {es : List parsed.Expr} (s : Box Expr) (ys : Vec Link)
      → s.value ≡ tree.Number (neutral l) → Settles means (SomeTests l es ys.items) → Settles means (AnExpr (from.Logic l es) (tree.Chain s ys))
  choice : {e f g : parsed.Expr} (s t u : Box Expr)
      → Settles means (AnExpr e s.value) → Settles means (AnExpr f t.value) → Settles means (AnExpr g u.value) → Settles means (AnExpr (from.Choice e f g) (tree.Choice s t u))
  -- `++` and `--` before a place are an assignment with 1
  before : {c : Change} {p : spot.Place} {q : Place} (one : Box Expr)
      → Settles means (APlace p q) → one.value ≡ tree.Number (pos 1) → Settles means (AnExpr (from.Before c p) (tree.Update (operator_of c) q one))
  after : {c : Change} {p : spot.Place} {q : Place} → Settles means (APlace p q) → Settles means (AnExpr (from.After c p) (tree.After (operator_of c) q))
  assign : {p : spot.Place} {q : Place} {e : parsed.Expr} (s : Box Expr)
      → Settles means (APlace p q) → Settles means (AnExpr e s.value) → Settles means (AnExpr (from.Assign setting.Plain p e) (tree.Assign q s))
  update : {operator : Arithmetic} {p : spot.Place} {q : Place} {e : parsed.Expr} (s : Box Expr)
      → Settles means (APlace p q) → Settles means (AnExpr e s.value) → Settles means (AnExpr (from.Assign (setting.Update operator) p e) (tree.Update operator q s))
  -- whether an array has an element, of one subscript and of several
  member : {e : parsed.Expr} {ns : List word.Name} {s t : Expr} → Settles means (AnExpr e s) → IsIn means s ns t → Settles means (AnExpr (from.In e ns) t)
  list_member : {n : word.Name} {es : List parsed.Expr} {a : Array} (ss : Vec Expr)
      → means.array n.word ≡ Some a → Settles means (SomeExprs es ss.items) → Settles means (AnExpr (from.ListIn es n) (tree.Has a ss))
  call : {n : word.Name} {es : List parsed.Expr} {f : ℕ} (ss : Vec Expr) (rs : Vec Array)
      → means.function n.word ≡ Some f → Settles means (SomeArguments (means.kinds f) es ss.items rs.items) → Settles means (AnExpr (from.Call n es) (tree.Call f ss rs))
  builtin : {f : Builtin} {es : List parsed.Expr} {ss : List Expr} {s : Expr} → Settles means (SomeExprs es ss) → Applies f ss s → Settles means (AnExpr (from.Builtin f es) s)
  -- `length` of the name of an array alone counts its elements (POSIX awk, "String Functions")
  counted : {a : Array} (n : word.Name) → means.array n.word ≡ Some a → Settles means (AnExpr (from.Builtin fun.Length (from.Of (from_place.Name n) ∷ [])) (tree.Count a))
  -- the first argument of `sub` and `gsub` is sought, and the third is a place that is changed; a missing one is the record
  replaced : {f : Builtin} {extent : Extent} {e g : parsed.Expr} {p : spot.Place} {q : Place} (s t : Box Expr)
      → extent_of f ≡ Some extent → Settles means (ASought e s.value) → Settles means (AnExpr g t.value) → Settles means (APlace p q) → Settles means (AnExpr (from.Builtin f (e ∷ g ∷ from.Of p ∷ [])) (tree.Replace extent s t q))
  replaced_record : {f : Builtin} {extent : Extent} {e g : parsed.Expr} {q : Place} (s t : Box Expr)
      → extent_of f ≡ Some extent → Settles means (ASought e s.value) → Settles means (AnExpr g t.value) → IsRecordPlace q → Settles means (AnExpr (from.Builtin f (e ∷ g ∷ [])) (tree.Replace extent s t q))
  -- the second argument of `match` is sought in the first
  found : {e f : parsed.Expr} (s t : Box Expr)
      → Settles means (AnExpr e s.value) → Settles means (ASought f t.value) → Settles means (AnExpr (from.Builtin fun.Match (e ∷ f ∷ [])) (tree.Match s t))
  -- the second argument of `split` is the name of an array alone (POSIX awk, "String Functions")
  split : {e : parsed.Expr} {es : List parsed.Expr} {a : Array} {how : Separation} (n : word.Name) (s t : Box Expr)
      → Settles means (AnExpr e s.value) → means.array n.word ≡ Some a → Settles means (ASeparator es how t.value) → Settles means (AnExpr (from.Builtin fun.Split (e ∷ from.Of (from_place.Name n) ∷ es)) (tree.Split how s a t))
  name : {n : word.Name} {v : Scalar} → means.scalar n.word ≡ Some v → Settles means (APlace (from_place.Name n) (scalar_place v))
  field : {e : parsed.Expr} (s : Box Expr) → Settles means (AnExpr e s.value) → Settles means (APlace (from_place.Field e) (tree_place.Field s))
  -- an element has its subscripts in the order of the text (POSIX awk, "Expressions in awk")
  element : {n : word.Name} {es : List parsed.Expr} {a : Array} (ss : Vec Expr)
      → means.array n.word ≡ Some a → Settles means (SomeExprs es ss.items) → Settles means (APlace (from_place.Element n es) (tree_place.Element a ss))
  no_links : Settles means (SomeLinks [] [])
  a_link : {xs : List join.Link} {ys : List Link} (operator : Operator) (e : parsed.Expr) (s : Expr)
      → Settles means (SomeLinks xs ys) → Settles means (right_of (joiner_of operator) e s) → Settles means (SomeLinks (xs ++ link operator e ∷ []) (ys ++ tree_link.Combine (joiner_of operator) s ∷ []))
  no_tests : {l : Logic} → Settles means (SomeTests l [] [])
  a_test : {l : Logic} {es : List parsed.Expr} {ys : List Link} {e : parsed.Expr} {s : Expr}
      → Settles means (SomeTests l es ys) → Settles means (AnExpr e s) → Settles means (SomeTests l (es ++ e ∷ []) (ys ++ tree_link.Decide l s ∷ []))
  no_exprs : Settles means (SomeExprs [] [])
  an_expr : {es : List parsed.Expr} {ss : List Expr} {e : parsed.Expr} {s : Expr}
      → Settles means (SomeExprs es ss) → Settles means (AnExpr e s) → Settles means (SomeExprs (es ++ e ∷ []) (ss ++ s ∷ []))
  -- the last parameters may have no argument; that of an array is the name of one alone (POSIX awk, "User-Defined Functions")
  no_arguments : {ks : List Kind} → Settles means (SomeArguments ks [] [] [])
  a_value : {ks : List Kind} {es : List parsed.Expr} {ss : List Expr} {rs : List Array} {e : parsed.Expr} {s : Expr}
      → Settles means (AnExpr e s) → Settles means (SomeArguments ks es ss rs) → Settles means (SomeArguments (kind.Scalar ∷ ks) (e ∷ es) (s ∷ ss) rs)
  an_array : {ks : List Kind} {es : List parsed.Expr} {ss : List Expr} {rs : List Array} {a : Array} (n : word.Name)
      → means.array n.word ≡ Some a → Settles means (SomeArguments ks es ss rs) → Settles means (SomeArguments (kind.Array ∷ ks) (from.Of (from_place.Name n) ∷ es) ss (a ∷ rs))
  -- a missing separator is FS, a regular expression separates by its matches, and anything else as its value in FS does (POSIX awk, "String Functions")
  by_fields : Settles means (ASeparator [] separation.Fields (tree.Read (tree_place.Global FS)))
  by_matches : {left : ℕ} {w : List ℕ} → Settles means (ASeparator (from.Ere left w ∷ []) separation.Matches (tree.Text w))
  by_value : {e : parsed.Expr} {s : Expr} → ((left : ℕ) (w : List ℕ) → e ≡ from.Ere left w → ⊥) → Settles means (AnExpr e s) → Settles means (ASeparator (e ∷ []) separation.Fields s)

-- what is printed: a missing list is the record, `$0`
pub data Prints (means : Sense) : List parsed.Expr → List Expr → Type 0 where
  record_alone : {s : Expr} → IsRecord s → Prints means [] (s ∷ [])
  all : {e : parsed.Expr} {es : List parsed.Expr} {ss : List Expr} → Settles means (SomeExprs (e ∷ es) ss) → Prints means (e ∷ es) ss
