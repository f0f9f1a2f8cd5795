-- Ways through a code, found from a place on.
use Rattle.std.specs.Prelude.{◌≡◌, ◌↔◌, IsTrue, ℕ, ◌+◌, ◌-◌, ◌<◌, ◌≤◌, ◌⊎◌, true, false, List, length, Option, Some, None}
use Rattle.std.specs.Int.{bit_at}
use Rattle.rawk_ere_begins.specs.declared.block.Block.{Block}
use Rattle.rawk_ere_tree.specs.declared.code.Instruction.{Instruction}
use Rattle.rawk_ere_tree.specs.Code.{Path, wide_code}
use Rattle.rawk_ere_walks.specs.Sets.{IsFarthest, WantsFrom}
use Rattle.rawk_ere_walks.specs.Ways.{Way, MayStart}
use Rattle.rawk_ere_automaton.specs.declared.progress.Progress.{Progress}
use Rattle.rawk_ere_automaton.specs.declared.progress.Progress.TheVariants.{Found, Nothing, Paused}
use Rattle.rawk_ere_automaton.specs.declared.progress.Opening.{Opening}
use Rattle.rawk_ere_automaton.specs.declared.progress.Opening.TheVariants.{At, After}

-- the place, if there is one, lies between these
abbrev pub IsBetween : ℕ → ℕ → Option ℕ → Type 0
IsBetween low high None = Unit {0}
IsBetween low high (Some j) = (low ≤ j) × (j ≤ high)

-- the begin and the end, if there are any, lie between these
abbrev pub AreBetween : ℕ → ℕ → Option (ℕ × ℕ) → Type 0
AreBetween low high None = Unit {0}
AreBetween low high (Some m) = (low ≤ m.0) × (m.0 ≤ m.1) × (m.1 ≤ high)

-- the place, if there is one, lies after the other
abbrev pub IsAhead : ℕ → Option ℕ → Type 0
IsAhead here o = (j : ℕ) × (o ≡ Some j) × (here < j)

module _ (code : List Instruction) (s : List ℕ) where
  -- the ways of the wide code are those of the code that begin at the place or later
  pub record Widens : Type 0 where
    pub narrow : (p j n : ℕ) → p ≤ length s → Path (wide_code code) true s n 0 p (length (wide_code code)) j → (i : ℕ) × (p ≤ i) × (i ≤ length s) × Way code s true i j
    pub wide : (p i j : ℕ) → p ≤ i → i ≤ length s → Way code s true i j → (n : ℕ) × Path (wide_code code) true s n 0 p (length (wide_code code)) j

  -- no way begins from here on before there
  abbrev pub BeginsNone : ℕ → ℕ → Type 0
  BeginsNone from upto = (i j : ℕ) → from ≤ i → i < upto → Way code s true i j → ⊥

  -- what a block tells of 32 places: no way begins at one behind the start of the text whose bit is not set; its bits that are set are those of places in the text
  pub record Knows (b : Block) : Type 0 where
    pub within : (k : ℕ) → bit_at b.marked k ≡ 1 → (k < 32) × (b.start + k < length s)
    pub none : (i j : ℕ) → 0 < i → b.start ≤ i → i < b.start + 32 → i < length s → bit_at b.marked (i - b.start) ≡ 0 → Way code s true i j → ⊥

  -- the first place from `from` on where a way begins
  pub record IsFirstBegin (from begin : ℕ) : Type 0 where
    pub low : from ≤ begin
    pub here : (j : ℕ) × Way code s true begin j
    pub before : (i j : ℕ) → from ≤ i → i < begin → Way code s true i j → ⊥

  -- the begin and the end of the first way from p on, and the longest there
  abbrev pub IsFirst : ℕ → Option (ℕ × ℕ) → Type 0
  IsFirst p None = (i j : ℕ) → p ≤ i → i ≤ length s → Way code s true i j → ⊥
  IsFirst p (Some m) = (p ≤ m.0) × Way code s true m.0 m.1 × ((i j : ℕ) → p ≤ i → Way code s true i j → m.0 ≤ i) × ((k : ℕ) → Way code s true m.0 k → k ≤ m.1)

  -- the same, with both within the text
  abbrev pub IsFound : ℕ → Option (ℕ × ℕ) → Type 0
  IsFound p r = IsFirst p r × AreBetween p (length s) r

  -- the same as IsFirst, of ways that read a byte, if no way from a place up to there asks what follows the text
  abbrev pub IsFirstOpen : ℕ → Option (ℕ × ℕ) → Type 0
  IsFirstOpen p None = (i j : ℕ) → p ≤ i → i < j → Way code s false i j → (k : ℕ) × (p ≤ k) × (k ≤ i) × WantsFrom code false s k
  IsFirstOpen p (Some m) =
      (p ≤ m.0) × (m.0 < m.1) × (m.0 ≤ length s) × Way code s false m.0 m.1 × ((i j : ℕ) → p ≤ i → i < j → Way code s false i j → m.0 ≤ i) × ((k : ℕ) → Way code s false m.0 k → k ≤ m.1)
      × ((k : ℕ) → p ≤ k → k ≤ m.0 → WantsFrom code false s k → ⊥)

  -- no such place is from here on before there
  abbrev pub NoneMay : ℕ → ℕ → Type 0
  NoneMay from upto = (i : ℕ) → from ≤ i → i < upto → MayStart code s i → ⊥

  -- the first such place from p on, or the end of the text
  pub record IsOpenStart (p f : ℕ) : Type 0 where
    pub within : (p ≤ f) × (f ≤ length s)
    pub before : (i : ℕ) → p ≤ i → i < f → MayStart code s i → ⊥
    pub here : f < length s → MayStart code s f

  -- how a search from place to place went
  abbrev pub IsProgress : ℕ → Progress → Type 0
  IsProgress from (Found i j) = IsFound from (Some (i, j))
  IsProgress from Nothing = BeginsNone from (length s)
  IsProgress from (Paused at) = (from ≤ at) × (at ≤ length s) × BeginsNone from at

  -- how a search for the first place went where a way that reads a byte may begin
  abbrev pub IsOpening : ℕ → Opening → Type 0
  IsOpening from (At begin longest asks) =
      (from ≤ begin) × (begin < length s) × NoneMay from begin × IsFarthest code false s begin longest × (IsTrue asks ↔ WantsFrom code false s begin) × (IsTrue asks ⊎ IsAhead begin longest)
  IsOpening from (After at) = (from ≤ at) × (at ≤ length s) × NoneMay from at

  -- the same of a search that has come to its end
  abbrev pub IsOpened : ℕ → Opening → Type 0
  IsOpened from o = IsOpening from o × ((at : ℕ) → o ≡ After at → at ≡ length s)
