use Rattle.rawk_names.specs.Noted.{shown}
use Rattle.rawk_names.specs.Items.{all_defined, defined}
use Rattle.rawk_names.proofs.Parts.{part_more, all_defined-push}
use Rattle.rawk_names.proofs.register.Register.define_items.Goals as goal

pub loop-item-preserved : goal.loop-item-preserved
loop-item-preserved c =
    part_more all_defined defined all_defined-push c.args.items.now c.loop-item.item-index c.item-item.result (shown c.args.self.now) (shown c.loop-item.self) (shown c.define_item.new.self)
    c.loop-item-test.true c.item-item.is c.loop-item.invariant c.in_ok-define_item.ensures
