use Rattle.std.proofs.Common.{◌≡◌, ◌≤◌, ◌<◌, ◌-◌, ◌∙◌, [], arith, ap, sym, subst, length, take, map, slice_index_or, refl}
use Rattle.rawk_value.specs.declared.value.Value.TheVariants.{Input}
use Rattle.rawk_pieces.specs.Pieces.{IsInRange}
use Rattle.rawk_record.specs.Shown.{Shown}
use Rattle.rawk_record.specs.ShortPieces.{wide}
use Rattle.rawk_pieces.specs.declared.pieces.Piece.{Piece}
use Rattle.rawk_record.specs.declared.short.ShortPiece.{ShortPiece}
use Rattle.rawk_record.proofs.Shorts.{get_wide, length-wide}
use Rattle.rawk_record.proofs.Values.{field_placed, get_beyond, get_there}
use Rattle.rawk_record.proofs.short.Short.field.Goals as goal

pub returns-then-self-number : goal.returns-then-self-number
returns-then-self-number c =
    let i = c.self.inside in
    let high : length (map wide (take i.count i.pieces)) ≤ c.args.number - 1 = omega (arith, length-wide i.pieces i.count c.self.invariant.1, c.if-self-number.true) in
    get_beyond (take i.size i.text) (map wide (take i.count i.pieces)) [] c.args.self.now.fields (c.args.number - 1) (ap (λ (x : Shown). x.fields) c.self.view_is) high

pub part_of-requires : goal.part_of-requires
part_of-requires c =
    let i = c.self.inside in
    let at = c.args.number - 1 in
    let s : ShortPiece = slice_index_or i.pieces at (record { start = 0; end = 0 }) in
    let low : at < i.count = omega (arith, c.requires, c.if-self-number.false) in
    let p : Piece = wide s in
    let here : slice_index_or (map wide (take i.count i.pieces)) at p ≡ wide s = get_wide i.pieces i.count c.self.invariant.1 at (record { start = 0; end = 0 }) p low in
    subst (IsInRange (take i.size i.text)) here (c.self.invariant.2 at p (omega (arith, length-wide i.pieces i.count c.self.invariant.1)))

pub returns : goal.returns
returns c =
    let i = c.self.inside in
    let at = c.args.number - 1 in
    let s : ShortPiece = slice_index_or i.pieces at (record { start = 0; end = 0 }) in
    let low : at < i.count = omega (arith, c.requires, c.if-self-number.false) in
    let there : at < length (map wide (take i.count i.pieces)) = omega (arith, length-wide i.pieces i.count c.self.invariant.1) in
    let here : wide s ≡ slice_index_or (map wide (take i.count i.pieces)) at (wide s) = sym (get_wide i.pieces i.count c.self.invariant.1 at (record { start = 0; end = 0 }) (wide s) low) in
    get_there (take i.size i.text) (map wide (take i.count i.pieces)) [] c.args.self.now.fields at (Input c.part_of.result.now) (ap (λ (x : Shown). x.fields) c.self.view_is) there
    (λ d. field_placed (take i.size i.text) (take i.size i.text) (map wide (take i.count i.pieces)) [] at d (wide s) there refl here refl ∙ ap Input (sym c.part_of.ensures))
