use Rattle.std.proofs.Common.{◌≡◌, Bool, List, sym, ap, ◌∙◌, subst}
use Rattle.rawk_arrays.specs.Laid.{arrays_of}
use Rattle.rawk_value.specs.declared.value.Value.{Value}
use Rattle.rawk_store.specs.declared.registers.Registers.{Registers}
use Rattle.rawk_store.specs.Layout.{Layout, IsSound}
use Rattle.rawk_store.specs.Stores.{empty_layout}
use Rattle.rawk_machine.specs.Stood.{first_layout}
use Rattle.rawk_machine.proofs.machine.first_store.Goals as goal

pub returns-in-Ok : goal.returns-in-Ok
returns-in-Ok c =
    let globals = c.fill_first.new.globals.now in
    let arrays = c.fill_first.new.arrays.now in
    let first : Layout = first_layout c.args.code.now c.args.settings.now arrays in
    let ranges = c.fill_first.new.ranges.now in
    let same : c.forget.new.self.arrays.now ≡ arrays = ap (λ (l : Layout). l.arrays) c.forget.ensures.now in
    record {
      now = c.forget.ensures.now
          ∙ ap (λ (l : Layout). record l { globals = globals; arrays = arrays; ranges = ranges }) c.new-store.ensures.now
          ∙ ap (λ (r : Registers). record (empty_layout r) { globals = globals; arrays = arrays; ranges = ranges }) c.first_registers.ensures
          ∙ ap (λ (bs : List Bool). record first { globals = globals; ranges = bs }) c.in-Ok.ensures.ranges
          ∙ ap (λ (xs : List Value). record first { globals = xs }) c.in-Ok.ensures.globals
          ∙ ap (first_layout c.args.code.now c.args.settings.now) (sym same);
      arrays = ap arrays_of same ∙ c.in-Ok.ensures.arrays;
      rest = c.forget.ensures.rest ∙ sym c.forget.ensures.now;
      sound = subst IsSound (sym c.forget.ensures.now) c.forget.ensures.sound;
    }
