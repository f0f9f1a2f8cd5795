use Rattle.std.proofs.Common.{◌≡◌, take}
use Rattle.rawk_names.specs.Noted.{shown}
use Rattle.rawk_names.specs.Items.{all_noted}
use Rattle.rawk_names.proofs.register.Register.note_items.Given as goal

abbrev pub invariant-loop-item : goal.invariant-loop-item
invariant-loop-item l = shown l.self ≡ all_noted (take l.item-index l.items) (shown l.fn.self)
