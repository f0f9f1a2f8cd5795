use Rattle.std.proofs.Common.{◌≡◌, ◌∙◌, false, true}
use Rattle.rawk_resolution.proofs.arrays.array_named.Goals as goal

pub unreachable-requires : goal.unreachable-requires
unreachable-requires c = let no : false ≡ true = c.in-None.ensures.there ∙ c.requires in cc
