-- The code of subscripts follows them: the key that they are, whether an array has it, and the element there.
use Rattle.std.proofs.Common.{◌≡◌, ℕ, ◌+◌, List, [], ◌∷◌, ◌++◌, length, map, take, drop, refl, sym, ap, ◌∙◌, subst, arith, length-append, Some}
use Rattle.std.proofs.Math.Seq.{take-append_seam, drop-append_seam}
use Rattle.rawk_words.specs.declared.array.Array.{Array}
use Rattle.rawk_tree.specs.declared.tree.Expr.{Expr, Row_of-Expr, end_of-Expr, more_of-Expr, items-the_row-Expr}
use Rattle.rawk_value.specs.declared.value.Value.{Value}
use Rattle.rawk_value.specs.declared.value.Value.TheVariants.{String}
use Rattle.rawk_value.specs.Values.{text_of}
use Rattle.rawk_store.specs.declared.target.Target.TheVariants as target
use Rattle.rawk_store.specs.State.{element_count}
use Rattle.rawk_code.specs.declared.code.Destination.TheVariants as destination
use Rattle.rawk_code.specs.declared.code.Instr.{Instr}
use Rattle.rawk_code.specs.declared.code.Op.TheVariants as does
use Rattle.rawk_code.specs.declared.code.Instr.TheVariants as instr
use Rattle.rawk_code.specs.Actions.{Run, Outcome, Goes, Breaks, Action, and_then, bind, give, Given, read, join_key, has_key, count_elements}
use Rattle.rawk_code.specs.Meaning.{values, eval, evals, Scene}
use Rattle.rawk_code.specs.Machine.{Places, Config, Going, target_of, past, pushing, goes_on, act}
use Rattle.rawk_code.specs.Steps.{goes_after, key_keeps, has_keeps, read_keeps}
use Rattle.rawk_emission.specs.Expressions.{key_code, key_operand, unless_ready, joined}
use Rattle.rawk_compiler.proofs.Follows.{has_front, has_back, then_assoc, leads_here, one_step, Follows, follows_then, keeps_plain, instr_runs}
use Rattle.rawk_compiler.proofs.Expressions.{Seen, seen, Good, AllGood, all_length, values_run, values_length, taking_good, Aims, gives_one}

-- subscripts as one action: the only one is the key, and several are joined
abbrev pub key_action : List (Action Value) → Action Value
key_action [] = bind (values [] []) join_key
key_action (m ∷ []) = m
key_action (m ∷ n ∷ ms) = bind (values (m ∷ n ∷ ms) []) join_key

-- what looks at the text of a key alone does the same with both
one_key : {A : Type 0} (o : Outcome Value) (f : Value → Action A) → ((v : Value) (run : Run) → f (String (text_of v)) run ≡ f v run) → and_then (and_then (and_then o (λ v. give (v ∷ []))) join_key) f ≡ and_then o f
one_key (Goes v run) f same = same v run
one_key (Breaks why run) f same = refl

pub key_same : {A : Type 0} (ms : List (Action Value)) (f : Value → Action A) → ((v : Value) (run : Run) → f (String (text_of v)) run ≡ f v run) → (run : Run) → bind (bind (values ms []) join_key) f run ≡ bind (key_action ms) f run
key_same [] f same run = refl
key_same (m ∷ []) f same run = one_key (m run) f same
key_same (m ∷ n ∷ ms) f same run = refl

pub key_seen : (w : Scene) {m : _} (row : Row_of-Expr m) → Seen (key_action (evals w row)) (key_operand (items-the_row-Expr _ row))
key_seen w end_of-Expr = tt
key_seen w (more_of-Expr e end_of-Expr) = seen w e
key_seen w (more_of-Expr e (more_of-Expr f rest)) = tt

pub listed_seen : (w : Scene) (es : List Expr) → Seen (key_action (map (eval w) es)) (key_operand es)
listed_seen w [] = tt
listed_seen w (e ∷ []) = seen w e
listed_seen w (e ∷ f ∷ es) = tt

module _ (given : Given) (code : List Instr) (fin : Places) where
  -- how many elements an array has
  pub count_good : (depth : ℕ) (a : Array) → Good given code fin depth (count_elements a) (instr.Do (does.Count a) ∷ [])
  count_good depth a =
      record {
        by = λ l pc to ops k run has at late time.
            let there : pc + 1 ≡ to = sym at in
            (late, one_step given code fin pc ops l.keys l.returns l.phase run (instr.Do (does.Count a)) _ has.0 (ap (λ n. Going n (element_count a run.state ∷ ops) l.keys l.returns l.phase run) there));
      }

  -- several subscripts, and behind them the instruction that joins them
  joined_good : (depth : ℕ) (ms : List (Action Value)) (cs : List (List Instr)) → AllGood given code fin depth ms cs → Good given code fin depth (bind (values ms []) join_key) (joined cs ++ instr.Do (does.Key (length cs)) ∷ [])
  joined_good depth ms cs all =
      record {
        by = λ l pc to ops k run has at late time.
            let c = joined cs in
            let i = instr.Do (does.Key (length cs)) in
            let p = pc + length c in
            let there : p + 1 ≡ to = omega (arith, at, length-append c (i ∷ [])) in
            let next : Value → Run → Config = λ v. Going to (v ∷ ops) l.keys l.returns l.phase in
            follows_then given code fin l _ k (λ vs. Going p (vs ++ ops) l.keys l.returns l.phase) next (values ms [] run) join_key (values_run given code fin depth ms cs all l pc p [] ops k run (has_front code pc c _ has) refl late time)
            (λ vs run1 e late1.
            let long : length cs ≡ length vs = omega (arith, values_length given code fin ms [] run vs run1 e, all_length given code fin depth ms cs all) in
            let ends : List Value → List Value → Config = λ ws us. goes_on (pushing us (join_key ws) run1) (λ left. Going (p + 1) left l.keys l.returns l.phase) in
            let acted : act given fin (Some i) p (vs ++ ops) l.keys l.returns l.phase run1 ≡ goes_on (join_key vs run1) next =
            ap (λ j. ends (take j (vs ++ ops)) (drop j (vs ++ ops))) long
            ∙ ap (λ ws. ends ws (drop (length vs) (vs ++ ops))) (take-append_seam vs ops)
            ∙ ap (λ us. ends vs us) (drop-append_seam vs ops)
            ∙ goes_after (join_key vs run1) (λ v. v ∷ ops) (λ left. Going (p + 1) left l.keys l.returns l.phase)
            ∙ ap (λ n. goes_on (join_key vs run1) (λ v. Going n (v ∷ ops) l.keys l.returns l.phase)) there in
            instr_runs given code fin l p (vs ++ ops) k run1 i next (join_key vs run1) (has_back code pc c _ has).0 acted (keeps_plain given code fin k run1 (join_key vs run1) late1 (key_keeps vs run1)));
      }

  pub key_good : (depth : ℕ) (ms : List (Action Value)) (cs : List (List Instr)) → AllGood given code fin depth ms cs → Good given code fin depth (key_action ms) (key_code cs)
  key_good depth [] [] all = joined_good depth [] [] all
  key_good depth [] (c ∷ cs) all = absurd all
  key_good depth (m ∷ []) [] all = absurd all
  key_good depth (m ∷ []) (c ∷ []) all = all.0
  key_good depth (m ∷ []) (c ∷ d ∷ cs) all = absurd all.1
  key_good depth (m ∷ n ∷ ms) [] all = absurd all
  key_good depth (m ∷ n ∷ ms) (c ∷ []) all = absurd all.1
  key_good depth (m ∷ n ∷ ms) (c ∷ d ∷ cs) all = joined_good depth (m ∷ n ∷ ms) (c ∷ d ∷ cs) all

  good_same : (depth : ℕ) (m n : Action Value) (c : List Instr) → ((run : Run) → m run ≡ n run) → Good given code fin depth n c → Good given code fin depth m c
  good_same depth m n c same g =
      record {
        by = λ l pc to ops k run has at late time.
            subst (Follows given code fin l (Going pc ops l.keys l.returns l.phase run) k (λ v. Going to (v ∷ ops) l.keys l.returns l.phase)) (sym (same run)) (g.by l pc to ops k run has at late time);
      }

  -- whether an array has an element
  pub has_good : (depth : ℕ) (a : Array) (w : Scene) {m : _} (row : Row_of-Expr m) (cs : List (List Instr)) → AllGood given code fin depth (evals w row) cs → Good given code fin depth (bind (bind (values (evals w row) []) join_key) (has_key a)) (unless_ready (key_operand (items-the_row-Expr _ row)) (key_code cs) ++ instr.Do (does.Has a (key_operand (items-the_row-Expr _ row))) ∷ [])
  has_good depth a w row cs all =
      let ms = evals w row in
      good_same depth (bind (bind (values ms []) join_key) (has_key a)) (bind (key_action ms) (has_key a)) _ (key_same ms (has_key a) (λ v run. refl))
      (taking_good given code fin depth (does.Has a) (has_key a) (λ from ops. refl) (has_keeps a) (key_action ms) (key_operand (items-the_row-Expr _ row)) (key_code cs) (key_good depth ms cs all) (key_seen w row))

  -- the value of an element
  pub element_good : (depth : ℕ) (a : Array) (w : Scene) {m : _} (row : Row_of-Expr m) (cs : List (List Instr)) → AllGood given code fin depth (evals w row) cs → Good given code fin depth (bind (bind (bind (values (evals w row) []) join_key) (λ k. give (target.Element a (text_of k)))) read) (unless_ready (key_operand (items-the_row-Expr _ row)) (key_code cs) ++ instr.Do (does.ElementAt a (key_operand (items-the_row-Expr _ row))) ∷ [])
  element_good depth a w row cs all =
      let ms = evals w row in
      let at : Value → Action Value = λ k. read (target.Element a (text_of k)) in
      good_same depth (bind (bind (bind (values ms []) join_key) (λ k. give (target.Element a (text_of k)))) read) (bind (key_action ms) at) _
      (λ run. then_assoc (bind (values ms []) join_key run) (λ k. give (target.Element a (text_of k))) read ∙ key_same ms at (λ v run. refl) run)
      (taking_good given code fin depth (does.ElementAt a) at (λ from ops. refl) (λ k run. read_keeps (target.Element a (text_of k)) run) (key_action ms) (key_operand (items-the_row-Expr _ row)) (key_code cs) (key_good depth ms cs all) (key_seen w row))

  -- an element that is assigned, whose key is an operand
  pub element_aims : (depth : ℕ) (a : Array) (ms : List (Action Value)) (cs : List (List Instr)) → AllGood given code fin depth ms cs → Aims given code fin depth (bind (bind (values ms []) join_key) (λ k. give (target.Element a (text_of k)))) (destination.ElementBelow a) (key_code cs)
  element_aims depth a ms cs all =
      record {
        operands = bind (key_action ms) (λ k. give (k ∷ []));
        is = λ run. key_same ms (λ k. give (target.Element a (text_of k))) (λ v run. refl) run ∙ sym (then_assoc (key_action ms run) (λ k. give (k ∷ [])) (λ us. give (target_of (destination.ElementBelow a) us)));
        by = λ l pc to ops k run has at late time.
            follows_then given code fin l _ k (λ v. Going to (v ∷ ops) l.keys l.returns l.phase) (λ us. Going to (us ++ ops) l.keys l.returns l.phase) (key_action ms run) (λ v. give (v ∷ [])) ((key_good depth ms cs all).by l pc to ops k run has at late time)
            (λ v run1 e late1. (late1, leads_here given code fin _));
        found = λ us run now e ops. let u = gives_one given code fin (key_action ms run) (λ v. v) us now e in subst (λ vs. target_of (destination.ElementBelow a) vs ≡ target_of (destination.ElementBelow a) (vs ++ ops)) u.1 refl;
        rest = λ us run now e ops. let u = gives_one given code fin (key_action ms run) (λ v. v) us now e in subst (λ vs. past (destination.ElementBelow a) (vs ++ ops) ≡ ops) u.1 refl;
      }
