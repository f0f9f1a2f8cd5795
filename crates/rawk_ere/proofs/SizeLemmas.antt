-- The code is at most twice as long as the tree is large.
use Rattle.std.proofs.Common.{◌≡◌, ℕ, zero, suc, ◌+◌, ◌*◌, ◌≤◌, List, [], ◌∷◌, length, arith, length-append}
use Rattle.std.proofs.Math.Nat.{mul-le-mul_left}
use Rattle.rawk_ere_tree.specs.declared.node.Count.{Count}
use Rattle.rawk_ere_tree.specs.declared.node.Count.TheVariants.{Star, Plus, Maybe, AtLeast, Between}
use Rattle.rawk_ere_tree.specs.Tree.{Tree, repeated_size, size_of}
use Rattle.rawk_ere_tree.specs.Tree as tree
use Rattle.rawk_ere_tree.specs.declared.code.Instruction.{Instruction}
use Rattle.rawk_ere_tree.specs.declared.code.Instruction.TheVariants.{Go, Back, Fork}
use Rattle.rawk_ere_tree.specs.Code.{plus_code, maybe_code, times_code, maybes_code, count_code, code_of}

length-times : (m : ℕ) (part : List Instruction) → length (times_code m part) ≡ m * length part
length-times zero part = omega arith
length-times (suc m) part = omega (arith, length-append part (times_code m part), length-times m part)

length-maybes : (m : ℕ) (part : List Instruction) → length (maybes_code m part) ≡ m * (length part + 1)
length-maybes zero part = omega arith
length-maybes (suc m) part = omega (arith, length-append (maybe_code part) (maybes_code m part), length-maybes m part)

count_short : (count : Count) (part : List Instruction) (n : ℕ) → length part ≤ 2 * n → length (count_code count part) ≤ 2 * repeated_size count n
count_short Star part n h = omega (arith, length-append part (Back (length part + 1) ∷ []))
count_short Plus part n h = omega (arith, length-append part (Fork (length part) ∷ []))
count_short Maybe part n h = omega arith
count_short (AtLeast zero) part n h = omega (arith, length-append part (Back (length part + 1) ∷ []))
count_short (AtLeast (suc m)) part n h =
    omega (arith, length-append (times_code m part) (plus_code part), length-append part (Fork (length part) ∷ []), length-times m part, mul-le-mul_left m h)
count_short (Between m more) part n h =
    omega (arith, length-append (times_code m part) (maybes_code more part), length-times m part, length-maybes more part, mul-le-mul_left m h, mul-le-mul_left more h)

pub code_short : (e : Tree) → length (code_of e) ≤ 2 * size_of e
code_short tree.Empty = omega arith
code_short (tree.OneOf set) = omega arith
code_short tree.Start = omega arith
code_short tree.End = omega arith
code_short (tree.Join a b) = omega (arith, length-append (code_of a) (code_of b), code_short a, code_short b)
code_short (tree.Either a b) = omega (arith, length-append (code_of a) (Go (length (code_of b) + 1) ∷ code_of b), code_short a, code_short b)
code_short (tree.Group a) = code_short a
code_short (tree.Repeat a count) = count_short count (code_of a) (size_of a) (code_short a)
