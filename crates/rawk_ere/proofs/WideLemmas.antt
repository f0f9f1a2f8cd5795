-- The wide code is that of the tree, after any bytes.
use Rattle.std.proofs.Common.{◌≡◌, ℕ, zero, suc, ◌+◌, ◌-◌, ◌/◌, ◌%◌, ◌<◌, ◌≤◌, true, List, length, get_or, refl, sym, ap, subst, arith, ◌∙◌}
use Rattle.std.specs.Prelude.{slice_index}
use Rattle.std.specs.Int.{bit_at}
use Rattle.std.proofs.lemmas.Nat.Bits.{bit_at_ones}
use Rattle.std.proofs.lemmas.Option.{slice_get_within, slice_get-get_or}
use Rattle.rawk_ere_tree.specs.declared.code.Instruction.{Instruction}
use Rattle.rawk_ere_tree.specs.declared.node.Count.TheVariants.{Star}
use Rattle.rawk_ere_tree.specs.ByteSets.{IsIn}
use Rattle.rawk_ere_tree.specs.Tree.{Tree, OneOf, Join, Repeat}
use Rattle.rawk_ere_tree.specs.Ends.{Times, Ends}
use Rattle.rawk_ere_tree.specs.Code.{code_of, all_bytes}
use Rattle.rawk_ere_automaton.specs.Search.{Widens}
use Rattle.rawk_ere.proofs.EreLemmas.{match_from_path, path_from_match}

words : (k : ℕ) → k < 4 → slice_index all_bytes k ≡ 18446744073709551615
words zero lt = refl
words (suc zero) lt = refl
words (suc (suc zero)) lt = refl
words (suc (suc (suc zero))) lt = refl
words (suc (suc (suc (suc k)))) lt = absurd (omega (arith, lt))

each_byte : (b : ℕ) → b < 256 → IsIn b all_bytes
each_byte b lt =
    let quarter : b / 64 < 4 = omega arith in
    let small : b % 64 < 64 = omega arith in
    ap (λ w. bit_at w (b % 64)) (words (b / 64) quarter) ∙ bit_at_ones 64 (b % 64) small

module _ (s : List ℕ) where
  abbrev any : ℕ → ℕ → Type 0
  any i j = Ends true s (OneOf all_bytes) i j

  bytes_up : (k p m : ℕ) → p ≤ length s → Times any k p m → (p ≤ m) × (m ≤ length s)
  bytes_up zero p m le t = (omega (arith, t), omega (arith, t))
  bytes_up (suc k) p m le t =
      let within = slice_get_within s p t.1.0 t.1.1 in
      let next = t.1.3 in
      let more = bytes_up k t.0 m (omega (arith, next)) t.2 in
      (omega (arith, next, more.0), more.1)

  bytes_to : ((k : ℕ) → get_or s k 0 < 256) → (k p i : ℕ) → p + k ≡ i → i ≤ length s → Times any k p i
  bytes_to fits zero p i e le = omega (arith, e)
  bytes_to fits (suc k) p i e le =
      let lt : p < length s = omega arith in
      let byte : any p (p + 1) = (get_or s p 0, slice_get-get_or s p 0 lt, each_byte (get_or s p 0) (fits p), refl) in
      (p + 1, byte, bytes_to fits k (p + 1) i (omega arith) le)

  abbrev wide_tree : Tree → Tree
  wide_tree e = Join (Repeat (OneOf all_bytes) Star) e

  wide_of : (e : Tree) → ((k : ℕ) → get_or s k 0 < 256) → Widens (code_of e) s
  wide_of e fits = record {
    narrow = λ p j n le path.
        let m = match_from_path true s (wide_tree e) p j n path in
        let up = bytes_up m.1.0 p m.0 le m.1.2 in
        (m.0, up.0, up.1, path_from_match true s e m.0 j m.2);
    wide = λ p i j le end w.
        let bytes = bytes_to fits (i - p) p i (omega arith) end in
        path_from_match true s (wide_tree e) p j (i, (i - p, tt, bytes), match_from_path true s e i j w.0 w.1);
  }

  pub widened : (code : List Instruction) (e : Tree) → code ≡ code_of e → ((k : ℕ) → get_or s k 0 < 256) → Widens code s
  widened code e is fits = subst (λ c. Widens c s) (sym is) (wide_of e fits)
