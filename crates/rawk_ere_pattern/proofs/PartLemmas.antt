-- Nodes that are put together, and their measures.
use Rattle.std.proofs.Common.{◌≡◌, ◌+◌, ◌<◌, List, [], ◌∷◌, ◌++◌, length, map, Vec, Global, refl, sym, ap, ◌∙◌, arith}
use Rattle.std.proofs.lemmas.List.{map-append}
use Rattle.rawk_ere_tree.specs.declared.node.Node.{Node}
use Rattle.rawk_ere_tree.specs.declared.node.Node.TheVariants as node
use Rattle.rawk_ere_tree.specs.Tree.{Tree, Join, Either}
use Rattle.rawk_ere_tree.specs.Node.{tree_of, join_all, either_all, joined, alternated}
use Rattle.rawk_ere_tree.specs.Rows.{tree-Join, tree-Either}

join_all_last : (a : Tree) (xs : List Tree) (b : Tree) → join_all a (xs ++ b ∷ []) ≡ Join (join_all a xs) b
join_all_last a [] b = refl
join_all_last a (x ∷ xs) b = join_all_last (Join a x) xs b

either_all_last : (a : Tree) (xs : List Tree) (b : Tree) → either_all a (xs ++ b ∷ []) ≡ Either (either_all a xs) b
either_all_last a [] b = refl
either_all_last a (x ∷ xs) b = either_all_last (Either a x) xs b

joined_last : (xs : List Tree) (b : Tree) → 0 < length xs → joined (xs ++ b ∷ []) ≡ Join (joined xs) b
joined_last [] b lt = absurd (omega arith)
joined_last (a ∷ xs) b lt = join_all_last a xs b

alternated_last : (xs : List Tree) (b : Tree) → 0 < length xs → alternated (xs ++ b ∷ []) ≡ Either (alternated xs) b
alternated_last [] b lt = absurd (omega arith)
alternated_last (a ∷ xs) b lt = either_all_last a xs b

filled : (xs : List Node) → 0 < length xs → 0 < length (map tree_of xs)
filled [] lt = absurd (omega arith)
filled (x ∷ xs) lt = omega arith

-- a row with one more part at its end
pub tree-Join-push : (old new : Vec Node Global) (b : Node) → 0 < length old.items → new.items ≡ old.items ++ b ∷ [] → tree_of (node.Join new) ≡ Join (tree_of (node.Join old)) (tree_of b)
tree-Join-push old new b lt e =
    tree-Join new ∙ ap (λ l. joined (map tree_of l)) e ∙ ap joined (map-append tree_of old.items (b ∷ [])) ∙ joined_last (map tree_of old.items) (tree_of b) (filled old.items lt)
    ∙ ap (λ t. Join t (tree_of b)) (sym (tree-Join old))

pub tree-Either-push : (old new : Vec Node Global) (b : Node) → 0 < length old.items → new.items ≡ old.items ++ b ∷ [] → tree_of (node.Either new) ≡ Either (tree_of (node.Either old)) (tree_of b)
tree-Either-push old new b lt e =
    tree-Either new ∙ ap (λ l. alternated (map tree_of l)) e ∙ ap alternated (map-append tree_of old.items (b ∷ [])) ∙ alternated_last (map tree_of old.items) (tree_of b) (filled old.items lt)
    ∙ ap (λ t. Either t (tree_of b)) (sym (tree-Either old))

-- a row of two parts
pub tree-Join-pair : (parts : Vec Node Global) (a b : Node) → parts.items ≡ a ∷ b ∷ [] → tree_of (node.Join parts) ≡ Join (tree_of a) (tree_of b)
tree-Join-pair parts a b e = tree-Join parts ∙ ap (λ l. joined (map tree_of l)) e

pub tree-Either-pair : (parts : Vec Node Global) (a b : Node) → parts.items ≡ a ∷ b ∷ [] → tree_of (node.Either parts) ≡ Either (tree_of a) (tree_of b)
tree-Either-pair parts a b e = tree-Either parts ∙ ap (λ l. alternated (map tree_of l)) e
