use Rattle.std.proofs.Common.{ap, length, List, ℕ, refl}
use Rattle.rawk_pieces.proofs.Masks.{get_padding}
use Rattle.rawk_pieces.proofs.class.padded.Goals as goal

pub returns-clause-rest : goal.returns-clause-rest
returns-clause-rest c = λ k low high. get_padding c.copy_from_slice.new.self _ c.args.byte (length c.args.text.now) k refl (ap (λ (xs : List ℕ). length xs) c.copy_from_slice.ensures.after) low high
