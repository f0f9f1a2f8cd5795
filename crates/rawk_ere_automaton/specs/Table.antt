-- The table of state sets.
use Rattle.std.specs.Prelude.{◌≡◌, ℕ, ◌+◌, ◌*◌, ◌/◌, ◌%◌, ◌<◌, ◌↔◌, Bool, true, false, IsTrue, List, [], ◌++◌, length, slice_index, slice_index_or, Contains, ◌-◌}
use Rattle.rawk_ere_tree.specs.declared.code.Instruction.{Instruction}
use Rattle.rawk_ere_automaton.specs.declared.table.Table.{Table}
use Rattle.rawk_ere_begins.specs.Filters.{AllLeadTo, IsFilter}
use Rattle.rawk_ere_tree.specs.StateSets.{Adds}
use Rattle.rawk_ere_walks.specs.Sets.{Closes, AdvancesBy, TakesFrom, AsksIn}

-- the states of a row
abbrev pub members : List (ℕ × List ℕ) → ℕ → List ℕ
members sets row = (slice_index_or sets row (0, [])).1

-- the set has the first state, and where it leads without reading
pub record Begins (code : List Instruction) (First : Type 0) (new : List ℕ) : Type 0 where
  pub one : List ℕ
  pub adds : Adds (length code + 1) [] one (λ r. r ≡ 0)
  pub closes : Closes (length code + 1) code First (IsTrue false) one new

-- the byte leads from the old set to the new one, between two bytes of the text
pub record LeadsBy (code : List Instruction) (b : ℕ) (old new : List ℕ) : Type 0 where
  pub mid : List ℕ
  pub reads : AdvancesBy (length code + 1) code b old mid
  pub closes : Closes (length code + 1) code (IsTrue false) (IsTrue false) mid new

-- whether the set leads to the end of the code at the end of the text
pub record EndsLast (code : List Instruction) (set : List ℕ) (ends : Bool) : Type 0 where
  pub copy : List ℕ
  pub new : List ℕ
  pub copies : Adds (length code + 1) [] copy (Contains set)
  pub closes : Closes (length code + 1) code (IsTrue false) (IsTrue true) copy new
  pub is : IsTrue ends ↔ Contains new (length code)

-- the entries lead from rows to rows, 256 for each row
pub record AreFilled (code : List Instruction) (sets : List (ℕ × List ℕ)) (next : List ℕ) : Type 0 where
  pub source : (k : ℕ) → k < length next → k / 256 < length sets
  pub target : (k : ℕ) → k < length next → slice_index next k < length sets
  pub leads : (k : ℕ) → k < length next → LeadsBy code (k % 256) (members sets (k / 256)) (members sets (slice_index next k))

-- the rows where a walk begins
pub record AreStarts (code : List Instruction) (sets : List (ℕ × List ℕ)) (start later : ℕ) : Type 0 where
  pub start_within : start < length sets
  pub later_within : later < length sets
  pub start_begins : Begins code (IsTrue true) (members sets start)
  pub later_begins : Begins code (IsTrue false) (members sets later)

-- the table is that of some sets of states: where each byte leads, and where a way through the code ends
pub record IsTable (code : List Instruction) (t : Table) : Type 0 where
  pub sets : List (ℕ × List ℕ)
  pub filled : AreFilled code sets t.next.items
  pub all : length t.next.items ≡ 256 * length sets
  pub starts : AreStarts code sets t.start t.later
  pub ends_all : length t.ends.items ≡ length sets
  pub ends_are : (r : ℕ) → r < length sets → IsTrue (slice_index_or t.ends.items r false) ↔ Contains (members sets r) (length code)
  pub last_all : length t.last_ends.items ≡ length sets
  pub last : (r : ℕ) → r < length sets → EndsLast code (members sets r) (slice_index_or t.last_ends.items r false)
  pub wants_all : length t.wants.items ≡ length sets
  pub wants_are : (r : ℕ) → r < length sets → IsTrue (slice_index_or t.wants.items r false) ↔ AsksIn code (members sets r)
  pub stays_all : length t.stays.items ≡ length sets
  pub stays_are : (r : ℕ) → r < length sets → IsTrue (slice_index_or t.stays.items r false) ↔ AllLeadTo t.next.items r r
  pub none : t.dead < length sets → length (members sets t.dead) ≡ 0
  pub begin_with : IsFilter t.next.items t.ends.items t.later t.dead t.begins

-- the set is, up to order, a row of the new sets, which begin with the old ones
pub record IsPlaced (old new : List (ℕ × List ℕ)) (set : List ℕ) (row : ℕ) : Type 0 where
  pub more : List (ℕ × List ℕ)
  pub is : new ≡ old ++ more
  pub within : row < length new
  pub same : (q : ℕ) → Contains set q ↔ Contains (members new row) q

-- the new list begins with the old one
abbrev pub Extends : List (ℕ × List ℕ) → List (ℕ × List ℕ) → Type 0
Extends old new = (more : List (ℕ × List ℕ)) × (new ≡ old ++ more)

-- each state reads both bytes or none
abbrev pub AreAlike : List Instruction → ℕ → ℕ → Type 0
AreAlike code a b = (q : ℕ) → TakesFrom code q a ↔ TakesFrom code q b

-- the bytes that are marked are like the ones before them
abbrev pub AreMarkedAlike : List Instruction → List Bool → Type 0
AreMarkedAlike code marks = (b : ℕ) → slice_index_or marks b false ≡ true → (0 < b) × AreAlike code (b - 1) b

-- the byte leads from the row to the one at the index, in the new sets, which begin with the old ones
pub record IsTarget (code : List Instruction) (old new : List (ℕ × List ℕ)) (row b index : ℕ) : Type 0 where
  pub more : List (ℕ × List ℕ)
  pub is : new ≡ old ++ more
  pub within : index < length new
  pub leads : LeadsBy code b (members old row) (members new index)
