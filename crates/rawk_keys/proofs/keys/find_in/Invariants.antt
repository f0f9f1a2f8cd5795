use Rattle.rawk_keys.specs.ArrayKey.{array_key}
use Rattle.rawk_keys.specs.KeysLaid.{keys_of}
use Rattle.rawk_keys.specs.Found.{IsSearching, left}
use Rattle.rawk_keys.proofs.keys.find_in.Given as goal

abbrev pub invariant-loop-at : goal.invariant-loop-at
invariant-loop-at l = IsSearching l.basis (keys_of l.text l.by_array l.spans) l.by_hash (array_key l.array l.key) l.at

abbrev pub decreases-loop-at : goal.decreases-loop-at
decreases-loop-at l = left l.at
