-- Parts of a program, one after another.
use Rattle.std.proofs.Common.{◌≡◌, ◌<◌, ◌+◌, ℕ, List, [], ◌∷◌, ◌++◌, length, take, get_or, refl, sym, ap, ◌∙◌}
use Rattle.std.proofs.lemmas.List.{take_more}
use Rattle.rawk_parsing.specs.declared.tree.Name.{Name}
use Rattle.rawk_grammar.specs.declared.tree.Item.{Item}
use Rattle.rawk_names.specs.Noted.{Noted}
use Rattle.rawk_names.specs.Items.{parameter_defined, parameters_defined, defined, all_defined, parameter_checked, parameters_checked, item_noted, all_noted}

-- one item more
pub part_more : {X : Type 0} (every : List X → Noted → Noted) (one : X → Noted → Noted) → ((xs : List X) (x : X) (n : Noted) → every (xs ++ x ∷ []) n ≡ one x (every xs n)) → (xs : List X) (i : ℕ) (x : X) (old mid new : Noted)
    → i < length xs → x ≡ get_or xs i x → mid ≡ every (take i xs) old → new ≡ one x mid → new ≡ every (take (i + 1) xs) old
part_more {X} every one push xs i x old mid new h held done more =
    let t : take (i + 1) xs ≡ take i xs ++ x ∷ [] = take_more xs i x h ∙ ap (λ (y : X). take i xs ++ y ∷ []) (sym held) in
    more ∙ (ap (one x) done ∙ (sym (push (take i xs) x old) ∙ ap (λ (ys : List X). every ys old) (sym t)))

pub parameters_defined-push : (scope : ℕ) (xs : List Name) (x : Name) (n : Noted) → parameters_defined scope (xs ++ x ∷ []) n ≡ parameter_defined scope x (parameters_defined scope xs n)
parameters_defined-push scope [] x n = refl
parameters_defined-push scope (y ∷ xs) x n = parameters_defined-push scope xs x (parameter_defined scope y n)

pub parameters_checked-push : (xs : List Name) (x : Name) (n : Noted) → parameters_checked (xs ++ x ∷ []) n ≡ parameter_checked x (parameters_checked xs n)
parameters_checked-push [] x n = refl
parameters_checked-push (y ∷ xs) x n = parameters_checked-push xs x (parameter_checked y n)

pub all_defined-push : (xs : List Item) (x : Item) (n : Noted) → all_defined (xs ++ x ∷ []) n ≡ defined x (all_defined xs n)
all_defined-push [] x n = refl
all_defined-push (y ∷ xs) x n = all_defined-push xs x (defined y n)

pub all_noted-push : (xs : List Item) (x : Item) (n : Noted) → all_noted (xs ++ x ∷ []) n ≡ item_noted x (all_noted xs n)
all_noted-push [] x n = refl
all_noted-push (y ∷ xs) x n = all_noted-push xs x (item_noted y n)
