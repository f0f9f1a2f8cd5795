use Rattle.rawk_names.specs.Noted.{shown}
use Rattle.rawk_names.specs.Items.{all_noted, item_noted}
use Rattle.rawk_names.proofs.Parts.{part_more, all_noted-push}
use Rattle.rawk_names.proofs.register.Register.note_items.Goals as goal

pub loop-item-preserved : goal.loop-item-preserved
loop-item-preserved c =
    part_more all_noted item_noted all_noted-push c.args.items.now c.loop-item.item-index c.item-item.result (shown c.args.self.now) (shown c.loop-item.self) (shown c.note_item.new.self)
    c.loop-item-test.true c.item-item.is c.loop-item.invariant c.in_ok-note_item.ensures
