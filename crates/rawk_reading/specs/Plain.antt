-- What the reading of a record leaves alone.
use Rattle.std.specs.Prelude.{◌≡◌}
use Rattle.rawk_store.specs.declared.store.Store.{Store}

-- no array, activation, key that is left, range or operand is changed
pub record IsPlainMove (old new : Store) : Type 0 where
  pub arrays : new.arrays ≡ old.arrays
  pub frames : new.frames ≡ old.frames
  pub keys : new.keys ≡ old.keys
  pub ranges : new.ranges ≡ old.ranges
  pub operands : new.operands ≡ old.operands
