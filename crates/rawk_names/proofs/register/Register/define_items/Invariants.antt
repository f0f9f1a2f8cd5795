use Rattle.std.proofs.Common.{◌≡◌, take}
use Rattle.rawk_names.specs.Noted.{shown}
use Rattle.rawk_names.specs.Items.{all_defined}
use Rattle.rawk_names.proofs.register.Register.define_items.Given as goal

abbrev pub invariant-loop-item : goal.invariant-loop-item
invariant-loop-item l = shown l.self ≡ all_defined (take l.item-index l.items) (shown l.fn.self)
