-- A tree as a list of marks, so that a proof can tell trees apart: each part's marks, and after them the mark of what joins them.
use Rattle.std.specs.Prelude.{◌≡◌, ℕ, zero, suc, List, [], ◌∷◌, ◌++◌, refl}
use Rattle.std.proofs.Common.{sym, ◌∙◌, ap, append_assoc}
use Rattle.std.proofs.lemmas.List.{append-nil}
use Rattle.std.specs.Coded.{Coded, code_by, coded×, coded_ℕ, coded_list}
use Rattle.rawk_ere_tree.specs.declared.node.Count.{Count}
use Rattle.rawk_ere_tree.specs.declared.node.Count.TheVariants.{Star, Plus, Maybe, AtLeast, Between}
use Rattle.rawk_ere_tree.specs.Tree.{Tree, Empty, OneOf, Start, End, Join, Either, Group, Repeat}

abbrev marks_of_count : Count → List ℕ
marks_of_count Star = 0 ∷ []
marks_of_count Plus = 1 ∷ []
marks_of_count Maybe = 2 ∷ []
marks_of_count (AtLeast m) = 3 ∷ m ∷ []
marks_of_count (Between m more) = 4 ∷ m ∷ more ∷ []

abbrev count_of_marks : List ℕ → Count
count_of_marks (zero ∷ _) = Star
count_of_marks (suc zero ∷ _) = Plus
count_of_marks (suc (suc zero) ∷ _) = Maybe
count_of_marks (suc (suc (suc zero)) ∷ m ∷ _) = AtLeast m
count_of_marks (suc (suc (suc (suc _))) ∷ m ∷ more ∷ _) = Between m more
count_of_marks _ = Star

count_back : (c : Count) → count_of_marks (marks_of_count c) ≡ c
count_back Star = refl
count_back Plus = refl
count_back Maybe = refl
count_back (AtLeast m) = refl
count_back (Between m more) = refl

abbrev marks_of : Tree → List (ℕ × List ℕ)
marks_of Empty = (0, []) ∷ []
marks_of Start = (1, []) ∷ []
marks_of End = (2, []) ∷ []
marks_of (OneOf set) = (3, set) ∷ []
marks_of (Join a b) = marks_of a ++ (marks_of b ++ (4, []) ∷ [])
marks_of (Either a b) = marks_of a ++ (marks_of b ++ (5, []) ∷ [])
marks_of (Group a) = marks_of a ++ (6, []) ∷ []
marks_of (Repeat a count) = marks_of a ++ (7, marks_of_count count) ∷ []

-- the trees read so far, the last one first, with one more mark
abbrev marked : ℕ → List ℕ → List Tree → List Tree
marked zero _ trees = Empty ∷ trees
marked (suc zero) _ trees = Start ∷ trees
marked (suc (suc zero)) _ trees = End ∷ trees
marked (suc (suc (suc zero))) set trees = OneOf set ∷ trees
marked (suc (suc (suc (suc zero)))) _ (b ∷ a ∷ trees) = Join a b ∷ trees
marked (suc (suc (suc (suc (suc zero))))) _ (b ∷ a ∷ trees) = Either a b ∷ trees
marked (suc (suc (suc (suc (suc (suc zero)))))) _ (a ∷ trees) = Group a ∷ trees
marked (suc (suc (suc (suc (suc (suc (suc _))))))) count (a ∷ trees) = Repeat a (count_of_marks count) ∷ trees
marked _ _ trees = trees

abbrev first_of : List Tree → Tree
first_of [] = Empty
first_of (a ∷ _) = a

abbrev tree_from : List (ℕ × List ℕ) → List Tree → Tree
tree_from [] trees = first_of trees
tree_from (m ∷ rest) trees = tree_from rest (marked m.0 m.1 trees)

both : (a b : Tree) (ma mb : List (ℕ × List ℕ)) (k : ℕ) (rest : List (ℕ × List ℕ)) (trees : List Tree)
    → ((r : List (ℕ × List ℕ)) (ts : List Tree) → tree_from (ma ++ r) ts ≡ tree_from r (a ∷ ts))
    → ((r : List (ℕ × List ℕ)) (ts : List Tree) → tree_from (mb ++ r) ts ≡ tree_from r (b ∷ ts))
    → tree_from ((ma ++ (mb ++ (k, []) ∷ [])) ++ rest) trees ≡ tree_from rest (marked k [] (b ∷ a ∷ trees))
both a b ma mb k rest trees ha hb =
    ap (λ l. tree_from l trees) (append_assoc ma (mb ++ (k, []) ∷ []) rest ∙ ap (λ l. ma ++ l) (append_assoc mb ((k, []) ∷ []) rest))
    ∙ ha (mb ++ (k, []) ∷ rest) trees ∙ hb ((k, []) ∷ rest) (a ∷ trees)

tree_back : (e : Tree) (rest : List (ℕ × List ℕ)) (trees : List Tree) → tree_from (marks_of e ++ rest) trees ≡ tree_from rest (e ∷ trees)
tree_back Empty rest trees = refl
tree_back Start rest trees = refl
tree_back End rest trees = refl
tree_back (OneOf set) rest trees = refl
tree_back (Join a b) rest trees = both a b (marks_of a) (marks_of b) 4 rest trees (tree_back a) (tree_back b)
tree_back (Either a b) rest trees = both a b (marks_of a) (marks_of b) 5 rest trees (tree_back a) (tree_back b)
tree_back (Group a) rest trees = ap (λ l. tree_from l trees) (append_assoc (marks_of a) ((6, []) ∷ []) rest) ∙ tree_back a ((6, []) ∷ rest) trees
tree_back (Repeat a count) rest trees =
    ap (λ l. tree_from l trees) (append_assoc (marks_of a) ((7, marks_of_count count) ∷ []) rest) ∙ tree_back a ((7, marks_of_count count) ∷ rest) trees
    ∙ ap (λ c. tree_from rest (Repeat a c ∷ trees)) (count_back count)

pub tree_again : (e : Tree) → tree_from (marks_of e) [] ≡ e
tree_again e = ap (λ l. tree_from l []) (sym (append-nil (marks_of e))) ∙ tree_back e [] []

abbrev pub tree_code : Coded Tree
tree_code = code_by (List (ℕ × List ℕ)) (coded_list (coded× coded_ℕ (coded_list coded_ℕ))) marks_of (λ l. tree_from l []) tree_again
