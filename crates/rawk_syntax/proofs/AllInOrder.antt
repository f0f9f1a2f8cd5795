-- Items that the grammar gives, with names in order, are in order.
use Rattle.std.proofs.Common.{◌≡◌, ℕ, ◌+◌, zero, suc, true, List, Some, refl, sym, ap, subst, ◌∙◌, arith}
use Rattle.rawk_keys.specs.ArrayKey.{array_key}
use Rattle.rawk_lexer.specs.Lex.{left}
use Rattle.rawk_parsing.specs.declared.tree.Name.{Name}
use Rattle.rawk_parsing.specs.Parser.{Input, name_at}
use Rattle.rawk_grammar.specs.declared.tree.Item.{Item}
use Rattle.rawk_grammar.specs.declared.tree.Item.TheVariants as item
use Rattle.rawk_grammar.specs.declared.tree.Pattern.{Pattern}
use Rattle.rawk_grammar.specs.Programs.{Patterns, Parts, Texts}
use Rattle.rawk_grammar.specs.Programs as rule
use Rattle.rawk_grammar.specs.Texts as grammar
use Rattle.rawk_names.specs.Arrays.{IsMisuse}
use Rattle.rawk_names.specs.Table.{place_of}
use Rattle.rawk_names.specs.Mentions.{Mention, mentions}
use Rattle.rawk_names.specs.Noted.{Noted, noted_all}
use Rattle.rawk_names.specs.Statements.{action_mentions, pattern_mentions}
use Rattle.rawk_names.specs.Items.{parameters_checked, within, scope_of, inside, all_defined, start, item_noted, all_noted}
use Rattle.rawk_names.specs.Items as naming
use Rattle.rawk_names.specs.Named.{Known, IsNamed}
use Rattle.rawk_resolution.specs.Meant.{Sense, sense}
use Rattle.rawk_resolution.specs.InOrder.{each, in_order, stmt_in_order, pattern_in_order, item_in_order, items_in_order, functions_behind}
use Rattle.rawk_resolution.specs.Orders.{both}
use Rattle.rawk_syntax.proofs.Meets.{AllMeet}
use Rattle.rawk_syntax.proofs.FineExprs.{fine}
use Rattle.rawk_syntax.proofs.FineStatements.{Holds, both_parts, states_fine}
use Rattle.rawk_syntax.proofs.Noting.{Later, later_self, later_on, later_within, later_item, later_items, grows_all, grows_parameters}
use Rattle.rawk_syntax.proofs.NamesInOrder.{AreOwn, all_meet}
use Rattle.rawk_syntax.proofs.Defining.{IsNumbered, AreNumbered, own, known_later, are_numbered}

pattern_fine : (m : Sense) {d : ℕ} {p : Pattern} {i j : Input} → Patterns d p i j → Holds m (pattern_mentions p) (pattern_in_order m p)
pattern_fine m (rule.when g) = (fine m g).fit
pattern_fine m (rule.range {e = e} {f = f} g s nl h) = both_parts m (mentions e) (mentions f) (in_order m e) (in_order m f) (fine m g).fit (fine m h).fit

module _ (m : Noted) (names : Known) (named : IsNamed m names) (own_uses : AreOwn m.uses) where
  -- statements in a scope
  met_in : (scope : ℕ) (ms : List Mention) (n : Noted) → n.scope ≡ scope → Later (noted_all ms n) m → AllMeet (sense names scope) ms
  met_in scope ms n at l = subst (λ (s : ℕ). AllMeet (sense names s) ms) at (all_meet ms n m names named own_uses l)

  -- a function's scope is one more than its number
  scope_is : (n : Noted) (f : Name) (functions : ℕ) → m.functions ≡ n.functions → place_of (array_key 0 f.word) m.functions ≡ Some functions → (inside f n).scope ≡ suc functions
  unfolding inside
  scope_is n f functions same number =
      let next : functions + 1 ≡ suc functions = omega arith in
      ap scope_of (ap (place_of (array_key 0 f.word)) (sym same) ∙ number) ∙ next

  part_fine : {d : ℕ} {x : Item} {i j : Input} → Parts d x i j → (n : Noted) (functions : ℕ) → n.scope ≡ 0 → Later (item_noted x n) m → IsNumbered m.functions functions x → item_in_order (sense names) functions x ≡ true
  part_fine (rule.begin {ss = ss} s g) n functions out l number = states_fine (sense names 0) g (met_in 0 (action_mentions ss) n out l)
  part_fine (rule.ending {ss = ss} s g) n functions out l number = states_fine (sense names 0) g (met_in 0 (action_mentions ss) n out l)
  part_fine (rule.always {ss = ss} g) n functions out l number = states_fine (sense names 0) g (met_in 0 (action_mentions ss) n out l)
  part_fine (rule.rule {p = p} {ss = ss} g h) n functions out l number =
      let first = noted_all (pattern_mentions p) n in
      let step = grows_all (pattern_mentions p) n in
      both (pattern_in_order (sense names 0) p) (each (stmt_in_order (sense names 0)) ss)
      (pattern_fine (sense names 0) g (met_in 0 (pattern_mentions p) n out (later_on first (noted_all (action_mentions ss) first) m (grows_all (action_mentions ss) first).1 l)))
      (states_fine (sense names 0) h (met_in 0 (action_mentions ss) first (step.0 ∙ out) l))
  part_fine (rule.bare_rule {p = p} g ends) n functions out l number = both (pattern_in_order (sense names 0) p) true (pattern_fine (sense names 0) g (met_in 0 (pattern_mentions p) n out l)) refl
  part_fine (rule.function {ns = ps} {ss = ss} {i = i} {j = j} s t ns nl g) n functions out l number =
      let all = later_item (item.Function (left i) (name_at j) ps ss) n out in
      let checked = parameters_checked ps (inside (name_at j) n) in
      let done = noted_all (action_mentions ss) checked in
      let known = later_on n (within 0 done) m all.1 l in
      let scope = (grows_parameters ps (inside (name_at j) n)).0 ∙ scope_is n (name_at j) functions known.functions number in
      states_fine (sense names (suc functions)) g (met_in (suc functions) (action_mentions ss) checked scope (later_on done (within 0 done) m (later_within 0 done) l))

  texts_fine : {d : ℕ} {items : List Item} {i : Input} → Texts d items i → (n : Noted) (functions : ℕ) → n.scope ≡ 0 → Later (all_noted items n) m → AreNumbered m.functions functions items → items_in_order (sense names) functions items ≡ true
  texts_fine (rule.finish s e) n functions out l numbers = refl
  texts_fine (rule.part {x = x} {xs = xs} s g h) n functions out l numbers =
      let here = later_item x n out in
      both (item_in_order (sense names) functions x) (items_in_order (sense names) (functions_behind x functions) xs)
      (part_fine g n functions out (later_on (item_noted x n) (all_noted xs (item_noted x n)) m (later_items xs (item_noted x n) here.0) l) numbers.0)
      (texts_fine h (item_noted x n) (functions_behind x functions) here.0 l numbers.1)

program_later : (items : List Item) → Later (all_noted items (all_defined items start)) (naming.program items)
unfolding naming.program
program_later items = later_self (naming.program items)

pub all_in_order : (depth : ℕ) (text : List ℕ) (items : List Item) (names : Known) → grammar.IsText depth items text → IsNamed (naming.program items) names → items_in_order (sense names) 0 items ≡ true
all_in_order zero text items names derived named = absurd derived
all_in_order (suc depth) text items names derived named =
    texts_fine (naming.program items) names named (own items) derived (all_defined items start) 0 (known_later items).0 (program_later items)
    (are_numbered items (λ s. named.proper s.0 s.1 s.2 (subst (IsMisuse (naming.program items).uses) (sym s.3) tt)))
