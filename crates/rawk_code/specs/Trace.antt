-- What a whole program does: BEGIN actions, the records, END actions (POSIX awk, Overall Program Structure).
use Rattle.std.specs.Prelude.{ℕ, zero, suc, ◌||◌, nat_lt, if◌then◌else◌, Bool, true, false, List, [], ◌∷◌, ◌++◌, length, map, replicate, Option, None, Some, slice_set}
use Rattle.rawk_tree.specs.declared.tree.Guard.{Guard}
use Rattle.rawk_tree.specs.declared.tree.Guard.TheVariants.{When, Between}
use Rattle.rawk_tree.specs.declared.tree.Rule.{Rule}
use Rattle.rawk_tree.specs.declared.tree.Program.{Program}
use Rattle.rawk_value.specs.declared.value.Value.{Value}
use Rattle.rawk_value.specs.declared.value.Value.TheVariants.{Uninitialized, Input}
use Rattle.rawk_value.specs.declared.fault.Fault.TheVariants.{NextOutside}
use Rattle.rawk_value.specs.Values.{Bytes}
use Rattle.rawk_arrays.specs.Elements.{no_elements}
use Rattle.rawk_special.specs.Special.{first_specials, global_number}
pub use Rattle.rawk_tree.specs.Sites.{line_at}
use Rattle.rawk_code.specs.declared.settings.FirstValue as settings
use Rattle.rawk_code.specs.Actions.{Run, Ending, Ended, Faulted, Limited, Stops, Exits, Nexts, Returns, Leaves, Repeats, Outcome, Goes, Breaks, Action, Effect, bind, do_first, break_off, look, change, Given, outside, is_on, switched, reach, read_record}
use Rattle.rawk_code.specs.Meaning.{Scene, eval, exec, either, choose, in_order, nothing, after_point, call_at}

-- where the second test of a range holds the range goes off, and the work is done in any case
abbrev pub last_test : ℕ → Action Value → Effect → Effect
last_test range last work = do_first (bind last (either (change (switched range false)) nothing)) work

-- where the first test of a range holds the range goes on
abbrev pub first_test : ℕ → Action Value → Action Value → Effect → Effect
first_test range first last work = bind first (either (do_first (change (switched range true)) (last_test range last work)) nothing)

-- a main rule on the record of now
abbrev pub guarded : Scene → Guard → Effect → Effect
guarded w (When e) work = bind (eval w e) (either work nothing)
guarded w (Between range first last) work = bind (look (is_on range)) (choose (last_test range (eval w last) work) (first_test range (eval w first) (eval w last) work))

abbrev pub rule_of : Scene → Rule → Effect
rule_of w rule = after_point w rule.site (guarded w rule.guard (exec w rule.action))

-- the work on a record, which `next` ends, also from a function
abbrev pub until_next : Outcome (Unit {0}) → Outcome (Unit {0})
until_next (Goes _ run) = Goes tt run
until_next (Breaks Nexts run) = Goes tt (outside run)
until_next (Breaks (Stops ending) run) = Breaks (Stops ending) run
until_next (Breaks Exits run) = Breaks Exits run
until_next (Breaks (Returns v) run) = Breaks (Returns v) run
until_next (Breaks Leaves run) = Breaks Leaves run
until_next (Breaks Repeats run) = Breaks Repeats run

abbrev pub on_record : Scene → List Rule → Effect
on_record w rules run = until_next (in_order (map (rule_of w) rules) run)

-- record after record, each with the point of its reading, until the end of the input
abbrev pub each_record : Scene → List Rule → ℕ → Effect
each_record w rules zero = break_off (Stops (Limited None))
each_record w rules (suc turns) =
    do_first (reach w.given None) (bind (read_record w.given.input) (choose (do_first (on_record w rules) (each_record w rules turns)) nothing))

-- records are read where there is a main rule or an END action
abbrev pub reads : Program → Bool
reads p = nat_lt 0 (length p.rules.items) || nat_lt 0 (length p.end.items)

abbrev pub main : Program → Scene → Effect
main p w = if reads p then each_record w p.rules.items w.turns else nothing

-- a whole run: its points, its ending and the state there
pub record Trace : Type 0 where
  pub ending : Ending
  pub run : Run

-- the end of the END actions; `exit` ends them and removes the activations
abbrev pub last_of : Outcome (Unit {0}) → Trace
last_of (Breaks (Stops ending) run) = record { ending = ending; run = run }
last_of (Breaks Nexts run) = record { ending = Faulted NextOutside; run = run }
last_of (Goes _ run) = record { ending = Ended; run = run }
last_of (Breaks why run) = record { ending = Ended; run = outside run }

-- the END actions follow, also after an exit; `next` where no main rule runs is a fault
abbrev pub then_end : Outcome (Unit {0}) → Effect → Trace
then_end (Breaks (Stops ending) run) end = record { ending = ending; run = run }
then_end (Breaks Nexts run) end = record { ending = Faulted NextOutside; run = run }
then_end (Goes _ run) end = last_of (end run)
then_end (Breaks why run) end = last_of (end (outside run))

-- a first value from outside the program: the name of a global, and its text
abbrev pub FirstValue : Type 0
FirstValue = settings.FirstValue

-- the globals with one of them set; a name that is not among theirs is passed over
abbrev pub with_first : List Bytes → FirstValue → List Value → List Value
with_first names first globals =
    elim (global_number names first.name) as (λ _. List Value) [ None ↦ globals | Some x ↦ slice_set globals x (Input first.text) ]

-- with each of them set, in their order
abbrev pub settled : List Bytes → List FirstValue → List Value → List Value
settled names [] globals = globals
settled names (e ∷ es) globals = settled names es (with_first names e globals)

-- the run before the first point
abbrev pub start : List Bytes → ℕ → List FirstValue → Run
start names ranges settings = record {
  points = [];
  state = record {
    globals = settled names settings (first_specials ++ replicate (length names) Uninitialized);
    arrays = replicate (length names) no_elements;
    frames = [];
    ranges = replicate ranges false;
    whole = [];
    fields = [];
    consumed = 0;
    output = [];
    status = 0;
    here = 0;
    site = None;
  };
}

abbrev pub scene : Program → Given → Scene
scene p given = record { given = given; turns = suc given.steps; call = call_at given p.functions.items (suc given.steps) }

-- the trace of a program with its first values
abbrev pub trace : Program → List FirstValue → Given → Trace
trace p settings given =
    let w = scene p given in
    then_end (do_first (in_order (map (exec w) p.begin.items)) (main p w) (start p.names.items p.ranges settings)) (in_order (map (exec w) p.end.items))

-- the site where execution stands: that of the point `here`
abbrev pub site_now : Run → Option ℕ
site_now run = run.state.site

-- a trace's site: of a fault, or of the point that the limit kept from being reached
abbrev pub site_at_end : Ending → Run → Option ℕ
site_at_end Ended run = None
site_at_end (Faulted fault) run = site_now run
site_at_end (Limited site) run = site

-- a trace's line, or 0
abbrev pub line_of : Program → Trace → ℕ
line_of p t = line_at p.lines.items (site_at_end t.ending t.run)

abbrev pub out : Trace → Bytes
out t = t.run.state.output

-- the number of the ending
abbrev pub number : Trace → ℕ
number t = length t.run.points

abbrev pub status : Trace → ℕ
status t = elim t.ending as (λ _. ℕ) [ Ended ↦ t.run.state.status | Faulted fault ↦ 2 | Limited site ↦ 2 ]
