-- Calls of built-in functions, over plain variables.
use Rattle.std.proofs.Common.{◌≡◌, List, [], ◌∷◌, Some, sym, subst, pos}
use Rattle.std.specs.Global.{Box, Vec}
use Rattle.rawk_keywords.specs.declared.builtin.Builtin.{Builtin}
use Rattle.rawk_keywords.specs.declared.builtin.Builtin.TheVariants as fun
use Rattle.rawk_tree.specs.declared.tree.Expr.{Expr}
use Rattle.rawk_tree.specs.declared.tree.Expr.TheVariants as tree
use Rattle.rawk_tree.specs.declared.tree.Joiner.{Joiner}
use Rattle.rawk_tree.specs.declared.tree.Unary.{Unary}
use Rattle.rawk_tree.specs.declared.tree.Link.{Link}
use Rattle.rawk_tree.specs.declared.tree.Link.TheVariants as tree_link
use Rattle.rawk_tree.specs.declared.tree.Place.TheVariants as tree_place
use Rattle.rawk_resolution.specs.Calls as spec
use Rattle.rawk_resolution.specs.Calls.{Applies, bare_of, unary_of, binary_of}

pub bare_applies : (f : Builtin) (u : Unary) (s t : Box Expr) → Some u ≡ bare_of f → s.value ≡ tree.Read (tree_place.Field t) → t.value ≡ tree.Number (pos 0) → Applies f [] (tree.Unary u s)
bare_applies f u s t found whole number = spec.of_none u s t (sym found) whole number

pub one_applies : (f : Builtin) (u : Unary) (e : Expr) (s : Box Expr) → Some u ≡ unary_of f → s.value ≡ e → Applies f (e ∷ []) (tree.Unary u s)
one_applies f u e s found held = subst (λ (x : Expr). Applies f (x ∷ []) (tree.Unary u s)) held (spec.of_one u s (sym found))

pub two_applies : (f : Builtin) (j : Joiner) (e g : Expr) (s : Box Expr) (u : Expr) (links : Vec Link)
    → Some j ≡ binary_of f → s.value ≡ e → u ≡ g → links.items ≡ tree_link.Combine j u ∷ [] → Applies f (e ∷ g ∷ []) (tree.Chain s links)
two_applies f j e g s u links found held same one = rw (sym held, sym same) (spec.of_two j s u links (sym found) one)

pub part_applies : (e g h : Expr) (s t u : Box Expr) → s.value ≡ e → t.value ≡ g → u.value ≡ h → Applies fun.Substr (e ∷ g ∷ h ∷ []) (tree.Substr s t u)
part_applies e g h s t u one two three = rw (sym one, sym two, sym three) (spec.substr s t u)

pub format_applies : (es : List Expr) (e : Expr) (s : Box Expr) (ss : Vec Expr) → es ≡ e ∷ ss.items → s.value ≡ e → Applies fun.Sprintf es (tree.Sprintf s ss)
format_applies es e s ss is held = rw (is, sym held) (spec.sprintf s ss)
