use Rattle.std.proofs.Common.{◌≡◌, ℕ, ◌<◌, List, length, get_or, set, bit_or, inl, inr, ap, ◌∙◌, subst, arith, w8}
use Rattle.std.specs.Int.{bit_at}
use Rattle.std.proofs.lemmas.Bool.{cases_eq}
use Rattle.std.proofs.lemmas.List.{get_or-set_same, get_or-set_other}
use Rattle.std.proofs.lemmas.Nat.Bits.{bit_at_or, bit_at-lt, bit_at_set_same}
use Rattle.rawk_ere_begins.proofs.nibbles.add.Goals as goal

kept : (table : List ℕ) (index x k i : ℕ) → index < length table → bit_at (get_or table k 0) i ≡ 1 → bit_at (get_or (set table index (bit_or (get_or table index 0) x)) k 0) i ≡ 1
kept table index x k i lt h = elim (cases_eq k index) [
  | inl e ↦
      let at = ap (λ j. get_or (set table index (bit_or (get_or table index 0) x)) j 0) e ∙ get_or-set_same table index (bit_or (get_or table index 0) x) 0 lt in
      let h' : bit_at (get_or table index 0) i ≡ 1 = subst (λ j. bit_at (get_or table j 0) i ≡ 1) e h in
      ap (λ n. bit_at n i) at ∙ omega (arith, bit_at_or (get_or table index 0) x i, bit_at-lt x i, h')
  | inr n ↦ ap (λ m. bit_at m i) (get_or-set_other table index k (bit_or (get_or table index 0) x) 0 n) ∙ h
]

pub returns-clause-keeps : goal.returns-clause-keeps
returns-clause-keeps c k i h = kept c.args.table.now c.args.index _ k i (omega (arith, c.told-table, c.requires.index)) h

pub returns-clause-has : goal.returns-clause-has
returns-clause-has c =
    ap (λ n. bit_at n c.args.mark) (get_or-set_same c.args.table.now c.args.index _ 0 (omega (arith, c.told-table, c.requires.index)))
    ∙ bit_at_set_same w8 (get_or c.args.table.now c.args.index 0) c.args.mark (omega (arith, c.requires.mark))
