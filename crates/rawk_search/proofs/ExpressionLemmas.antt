-- A pattern is the expression that is computed.
use Rattle.std.proofs.Common.{◌≡◌, ℕ, ◌+◌, Bool, true, false, ◌&&◌, List, length, Option, Some, None, refl, sym, ap, ◌∙◌, subst, arith, leb-true, le-leb}
use Rattle.std.specs.Prelude.{if◌then◌else◌, nat_le}
use Rattle.std.proofs.lemmas.Bool.{and_parts, and_from}
use Rattle.rawk_ere_tree.specs.Tree.{Tree, size_of, nesting_of, IsWithinLimits}
use Rattle.rawk_ere_pattern.specs.declared.token.Token.{Token}
use Rattle.rawk_ere_pattern.specs.declared.error.EreError.TheVariants as error
use Rattle.rawk_ere_pattern.specs.PatternOf.{IsPatternOf, IsRefused}
use Rattle.rawk_search.specs.Expressions.{tokens, read, limited, ere_of}
use Rattle.rawk_search.proofs.TokenLemmas.{tokens_all, are_tokens}
use Rattle.rawk_ere_pattern.specs.ReadingLemmas.{read_all, derived_all}

-- the tree, within the limits or not
abbrev tree_of : List ℕ → Option Tree
tree_of pattern = read (tokens (length pattern + 1) pattern)

reads_all : (pattern : List ℕ) (e : Tree) → IsPatternOf pattern e → tree_of pattern ≡ Some e
reads_all pattern e h = ap read (tokens_all h.0 pattern (length pattern + 1) (omega arith) h.1) ∙ read_all h.2

reads_by : (pattern : List ℕ) (e : Tree) (o : Option (List Token)) → tokens (length pattern + 1) pattern ≡ o → read o ≡ Some e → IsPatternOf pattern e
reads_by pattern e None is h = cc
reads_by pattern e (Some ts) is h = (ts, are_tokens (length pattern + 1) pattern ts is, derived_all ts e h)

reads_if : (pattern : List ℕ) (e : Tree) → tree_of pattern ≡ Some e → IsPatternOf pattern e
reads_if pattern e h = reads_by pattern e (tokens (length pattern + 1) pattern) refl h

limited_some : (e : Tree) → IsWithinLimits e → limited (Some e) ≡ Some e
limited_some e w = ap (λ b. if b then Some e else None) (and_from (nat_le (size_of e) 65536) (nat_le (nesting_of e) 200) (le-leb (size_of e) 65536 w.0) (le-leb (nesting_of e) 200 w.1))

limited_by : (e : Tree) (b : Bool) → (nat_le (size_of e) 65536 && nat_le (nesting_of e) 200) ≡ b → (IsWithinLimits e → ⊥) → (if b then Some e else None) ≡ None
limited_by e true is n = let p = and_parts (nat_le (size_of e) 65536) (nat_le (nesting_of e) 200) is in absurd (n (leb-true (size_of e) 65536 p.0, leb-true (nesting_of e) 200 p.1))
limited_by e false is n = refl

limited_none : (e : Tree) → (IsWithinLimits e → ⊥) → limited (Some e) ≡ None
limited_none e n = limited_by e (nat_le (size_of e) 65536 && nat_le (nesting_of e) 200) refl n

none_by : (o : Option Tree) → ((e : Tree) → o ≡ Some e → ⊥) → o ≡ None
none_by None n = refl
none_by (Some e) n = absurd (n e refl)

pub read_is : (pattern : List ℕ) (e : Tree) → IsPatternOf pattern e → IsWithinLimits e → Some e ≡ ere_of pattern
unfolding ere_of
read_is pattern e h w = sym (ap limited (reads_all pattern e h) ∙ limited_some e w)

pub refused_syntax : (pattern : List ℕ) → IsRefused error.Syntax pattern → None ≡ ere_of pattern
unfolding ere_of
refused_syntax pattern h = sym (ap limited (none_by (tree_of pattern) (λ e is. h e (reads_if pattern e is))))

pub refused_size : (pattern : List ℕ) → IsRefused error.TooLarge pattern → None ≡ ere_of pattern
unfolding ere_of
refused_size pattern h = sym (ap limited (reads_all pattern h.0 h.1) ∙ limited_none h.0 h.2)

limited_is : (o : Option Tree) (e : Tree) → limited o ≡ Some e → (o ≡ Some e) × IsWithinLimits e
limited_is None e h = cc
limited_is (Some a) e h = kept_is a e (nat_le (size_of a) 65536 && nat_le (nesting_of a) 200) refl h
  where
    kept_is : (a e : Tree) (b : Bool) → (nat_le (size_of a) 65536 && nat_le (nesting_of a) 200) ≡ b → (if b then Some a else None) ≡ Some e → (Some a ≡ Some e) × IsWithinLimits e
    kept_is a e true is h =
        let p = and_parts (nat_le (size_of a) 65536) (nat_le (nesting_of a) 200) is in
        let same : a ≡ e = cc in
        (h, subst IsWithinLimits same (leb-true (size_of a) 65536 p.0, leb-true (nesting_of a) 200 p.1))
    kept_is a e false is h = cc

pub is_read : (pattern : List ℕ) (e : Tree) → Some e ≡ ere_of pattern → IsPatternOf pattern e × IsWithinLimits e
unfolding ere_of
is_read pattern e h = let r = limited_is (tree_of pattern) e (sym h) in (reads_if pattern e r.0, r.1)
