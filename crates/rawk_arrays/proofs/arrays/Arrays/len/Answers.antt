use Rattle.std.proofs.Common.{◌∙◌, ap, sym, length}
use Rattle.rawk_arrays.specs.Laid.{arrays_of}
use Rattle.rawk_arrays.specs.ListLaws.{length_arrays}
use Rattle.rawk_arrays.proofs.arrays.Arrays.len.Goals as goal

pub returns : goal.returns
returns c = let s = c.self.inside in sym (length_arrays (record { index = s.index; slots = s.cells.now; live = s.live })) ∙ ap (λ w. length (arrays_of w.now)) c.self.view_is
