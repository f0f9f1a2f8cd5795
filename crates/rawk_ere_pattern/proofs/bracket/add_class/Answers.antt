use Rattle.std.proofs.Common.{[], ◌∷◌, sym, subst}
use Rattle.rawk_ere_tree.specs.ByteSets.{HasAlso, IsInRanges}
use Rattle.rawk_ere_pattern.specs.Pattern.{ranges_of}
use Rattle.rawk_ere_pattern.specs.ByteSetLemmas.{also_range, also_ranges}
use Rattle.rawk_ere_pattern.proofs.bracket.add_class.Goals as goal

pub returns-in-Alnum : goal.returns-in-Alnum
returns-in-Alnum c =
    subst (λ k. HasAlso c.args.set.now c.add_range-in-Alnum-2.new.set (λ b. IsInRanges b (ranges_of k))) (sym c.in-Alnum.is)
    (also_ranges c.args.set.now c.add_range.new.set c.add_range-in-Alnum-2.new.set 48 57 ((65, 90) ∷ (97, 122) ∷ []) c.add_range.ensures
    (also_ranges c.add_range.new.set c.add_range-in-Alnum.new.set c.add_range-in-Alnum-2.new.set 65 90 ((97, 122) ∷ []) c.add_range-in-Alnum.ensures
    (also_range c.add_range-in-Alnum.new.set c.add_range-in-Alnum-2.new.set 97 122 c.add_range-in-Alnum-2.ensures)))

pub returns-in-Xdigit : goal.returns-in-Xdigit
returns-in-Xdigit c =
    subst (λ k. HasAlso c.args.set.now c.add_range-in-Xdigit-3.new.set (λ b. IsInRanges b (ranges_of k))) (sym c.in-Xdigit.is)
    (also_ranges c.args.set.now c.add_range-in-Xdigit.new.set c.add_range-in-Xdigit-3.new.set 48 57 ((65, 70) ∷ (97, 102) ∷ []) c.add_range-in-Xdigit.ensures
    (also_ranges c.add_range-in-Xdigit.new.set c.add_range-in-Xdigit-2.new.set c.add_range-in-Xdigit-3.new.set 65 70 ((97, 102) ∷ []) c.add_range-in-Xdigit-2.ensures
    (also_range c.add_range-in-Xdigit-2.new.set c.add_range-in-Xdigit-3.new.set 97 102 c.add_range-in-Xdigit-3.ensures)))

pub returns-in-Punct : goal.returns-in-Punct
returns-in-Punct c =
    subst (λ k. HasAlso c.args.set.now c.add_range-in-Punct-4.new.set (λ b. IsInRanges b (ranges_of k))) (sym c.in-Punct.is)
    (also_ranges c.args.set.now c.add_range-in-Punct.new.set c.add_range-in-Punct-4.new.set 33 47 ((58, 64) ∷ (91, 96) ∷ (123, 126) ∷ []) c.add_range-in-Punct.ensures
    (also_ranges c.add_range-in-Punct.new.set c.add_range-in-Punct-2.new.set c.add_range-in-Punct-4.new.set 58 64 ((91, 96) ∷ (123, 126) ∷ []) c.add_range-in-Punct-2.ensures
    (also_ranges c.add_range-in-Punct-2.new.set c.add_range-in-Punct-3.new.set c.add_range-in-Punct-4.new.set 91 96 ((123, 126) ∷ []) c.add_range-in-Punct-3.ensures
    (also_range c.add_range-in-Punct-3.new.set c.add_range-in-Punct-4.new.set 123 126 c.add_range-in-Punct-4.ensures))))
