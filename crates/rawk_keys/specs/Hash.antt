-- The number by which a key is found.
use Rattle.std.specs.Prelude.{ℕ, ◌*◌, ◌%◌, ◌^◌, bit_xor}
use Rattle.std.specs.List.{fold}
use Rattle.rawk_keys.specs.ArrayKey.{Bytes}

-- one more byte, by the function of Fowler, Noll and Vo (FNV-1) over 64 bits
abbrev pub mixed : ℕ → ℕ → ℕ
mixed hash byte = bit_xor (hash * 1099511628211 % 2 ^ 64) byte

-- of an array's key, from a basis on: first its array, then its bytes; of that the low 32 bits
abbrev pub hash_of : ℕ → ℕ → Bytes → ℕ
hash_of basis array key = fold mixed (mixed basis array) key % 2 ^ 32
