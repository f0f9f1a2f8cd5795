-- A pattern is at most one expression.
use Rattle.std.proofs.Common.{◌≡◌, ℕ, ◌<◌, min, false, true, Some, None, List, [], sym, ◌∙◌, subst, arith, ap, Option}
use Rattle.rawk_ere_pattern.specs.declared.token.Token.{Token}
use Rattle.rawk_ere_pattern.specs.declared.error.EreError.{EreError}
use Rattle.rawk_ere_pattern.specs.declared.error.EreError.TheVariants as error
use Rattle.rawk_ere_tree.specs.Tree.{Tree, size_of}
use Rattle.rawk_ere_pattern.specs.Pattern.{AreTokens}
use Rattle.rawk_ere_pattern.specs.Reading.{run, fresh, is_formed, IsTreeRefused}
use Rattle.rawk_ere_pattern.specs.PatternOf.{IsPatternOf, IsRefused}
use Rattle.rawk_ere_pattern.specs.ScanLemmas.{tokens_same}
use Rattle.rawk_ere_pattern.specs.ReadingLemmas.{read_all, derived_all, tree_of_formed, none_of_unformed}

-- the tokens that were found are those of each reading
pub run_of : (pattern : List ℕ) (ts : List Token) (e : Tree) → AreTokens pattern ts → IsPatternOf pattern e → run [] fresh ts ≡ Some e
run_of pattern ts e a r = subst (λ l. run [] fresh l ≡ Some e) (tokens_same pattern r.0 ts r.1 a) (read_all r.2)

pub unformed : (pattern : List ℕ) (ts : List Token) → AreTokens pattern ts → is_formed ts 0 false ≡ false → IsRefused error.Syntax pattern
unformed pattern ts a f = λ e r. none_of_unformed ts e f (run_of pattern ts e a r)

pub no_tree : (x : EreError) (pattern : List ℕ) (ts : List Token) → AreTokens pattern ts → is_formed ts 0 false ≡ true → IsTreeRefused x (run [] fresh ts) → IsRefused x pattern
no_tree error.Memory pattern ts a f h = tt
no_tree error.Syntax pattern ts a f h = λ e r. (let no_run : None ≡ Some e = sym h ∙ run_of pattern ts e a r in cc)
no_tree error.TooLarge pattern ts a f h =
    let t = tree_of_formed ts f in
    (t.0, (ts, a, derived_all ts t.0 t.1), λ w. omega (arith, w.1, h t.0 t.1))

pub is_read : (pattern : List ℕ) (ts : List Token) (e : Tree) → AreTokens pattern ts → run [] fresh ts ≡ Some e → IsPatternOf pattern e
is_read pattern ts e a r = (ts, a, derived_all ts e r)

pub too_large : (pattern : List ℕ) (ts : List Token) (e : Tree) (size : ℕ) → AreTokens pattern ts → run [] fresh ts ≡ Some e → size ≡ min (size_of e) 65537 → 65536 < size → IsRefused error.TooLarge pattern
too_large pattern ts e size a r s lt = (e, is_read pattern ts e a r, λ w. omega (arith, w.0))

abbrev tree_in : Tree → Option Tree → Tree
tree_in d None = d
tree_in d (Some e) = e

pub read_once : (pattern : List ℕ) (a b : Tree) → IsPatternOf pattern a → IsPatternOf pattern b → a ≡ b
read_once pattern a b x y = ap (tree_in a) (sym (read_all x.2) ∙ run_of pattern x.0 b x.1 y)
