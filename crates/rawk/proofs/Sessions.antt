-- What is reported of a whole session, from what its parts do.
use Rattle.std.proofs.Common.{◌≡◌, ℕ, ◌+◌, ◌-◌, inl, List, [], length, Option, Some, refl, sym, ap, subst, ◌∙◌, arith}
use Rattle.rawk_value.specs.Values.{Bytes}
use Rattle.rawk_devices.specs.Inputs.{Input, CountsUp, before}
use Rattle.rawk_devices.specs.declared.source.Ending.{Ending}
use Rattle.rawk_devices.specs.declared.source.Ending.TheVariants.{Failed}
use Rattle.rawk_tree.specs.declared.tree.Program.{Program}
use Rattle.rawk_code.specs.Actions.{SetAt}
use Rattle.rawk_code.specs.Trace.{FirstValue}
use Rattle.rawk_machine.specs.Standing.{Standing, Past}
use Rattle.rawk_answers.specs.Positions.{Position, Snapshot, Stands}
use Rattle.rawk_answers.specs.Works.{Draws, Work, read_failed}
use Rattle.rawk_debug.specs.Moves.{Stand}
use Rattle.rawk_debug.specs.Sessions.{stand, machine_of}
use Rattle.rawk_debug.specs.declared.session.Session.{Session}
use Rattle.rawk.specs.Staged.{position_of}
use Rattle.rawk.specs.declared.dialog.Over.{Over}
use Rattle.rawk.specs.declared.report.Report.{Report}
use Rattle.rawk.specs.Preparing as preparing
use Rattle.rawk.specs.Preparing.{IsRefused}
use Rattle.rawk.specs.Reads.{ReadsOf}
use Rattle.rawk.specs.Dialogs.{IsHeld, Speaks}
use Rattle.rawk.specs.Debugs.{Debugs, text_refused, settings_refused, never_stood, held, first_position, stand_at}

-- where a new machine stands
pub position_first : {S : Type 0} (p : Program) (m : Standing S) (settings : List FirstValue) (steps : ℕ) (limit : Option ℕ) → m.settings ≡ settings → m.steps ≡ steps → m.limit ≡ limit → m.point ≡ 0 → m.sets ≡ [] → m.history ≡ []
    → position_of p m ≡ first_position p settings steps limit
position_first p m settings steps limit a b c d e f =
    let at = λ (x : List FirstValue) (n : ℕ) (l : Option ℕ) (k : ℕ) (xs : List SetAt) (ps : List Past).
    let s : Position = record { program = p; settings = x; steps = n; history = l; point = k; sets = xs; oldest = k - length ps } in s in
    ap (λ x. at x m.steps m.limit m.point m.sets m.history) a
    ∙ ap (λ n. at settings n m.limit m.point m.sets m.history) b
    ∙ ap (λ l. at settings steps l m.point m.sets m.history) c
    ∙ ap (λ k. at settings steps limit k m.sets m.history) d
    ∙ ap (λ xs. at settings steps limit 0 xs m.history) e
    ∙ ap (λ ps. at settings steps limit 0 [] ps) f

-- what is known of a machine
pub record Knows {M S : Type 0} (position : M → Position) (may_be : M → Input → Type 0) (held : M → Snapshot) (work : M → Work S) (may_give : S → Input → Type 0) (over : S → Option Ending) (m : M) : Type 0 where
  pub comes : (rest : Input) → may_give (work m).source rest → may_be m (before (work m).read rest)
  pub read_failed : (held m).over ≡ Some read_failed → over (work m).source ≡ Some Failed
  pub stands : (input : Input) → may_be m input → Stands input (position m) (held m)

-- what was read of a source, where more was drawn of it
counted_on : {S : Type 0} (over : S → Option Ending) (handed : S → ℕ) (old new : Work S) (first : ℕ) → Draws over handed old new → CountsUp first (handed old.source) (length old.read) → CountsUp first (handed new.source) (length new.read)
counted_on over handed old new first draws count = λ small.
    let f : handed old.source ≡ first + length old.read = count (omega (arith, small, draws.longer)) in
    let s : handed new.source ≡ handed old.source + (length new.read - length old.read) = draws.counted (omega (arith, small, f, draws.longer)) in
    omega (arith, f, s, draws.longer)

-- a dialog was held on a machine
pub held_on : {M S V : Type 0} (is_read : Type 0) (position : M → Position) (may_be : M → Input → Type 0) (state : M → Snapshot) (work : M → Work S) (may_give : S → Input → Type 0) (over : S → Option Ending) (handed : S → ℕ) (asks : Bytes → Input → Type 0) (may_hold : V → Bytes → Type 0) (machine seen : M) (old new : Session M) (sink now : V) (end : Over) (left : S)
    → stand position old ≡ stand_at (position machine) → machine_of old ≡ machine → ((s : S) → (rest : Input) × may_give s rest)
    → Speaks is_read may_be asks may_hold (stand position old) (stand position new) (machine_of new) sink now end
    → ((input : Input) → may_be (machine_of new) input → may_be (machine_of old) input) → Draws over handed (work (machine_of old)) (work (machine_of new))
    → seen ≡ machine_of new → Knows position may_be state work may_give over seen → left ≡ (work seen).source
    → (source : S) → ReadsOf may_give handed (may_be machine) (work machine) source → IsHeld is_read may_give over handed asks may_hold source left (stand_at (position machine)) sink now end
held_on {M} {S} is_read position may_be state work may_give over handed asks may_hold machine seen old new sink now end left stands begins some speaks narrows draws same known is source reads =
    let m : M = machine_of new in
    let w : Work S = work m in
    let knows : Knows position may_be state work may_give over m = subst (λ (x : M). Knows position may_be state work may_give over x) same known in
    let begun : ReadsOf may_give handed (may_be (machine_of old)) (work (machine_of old)) source = subst (λ (x : M). ReadsOf may_give handed (may_be x) (work x) source) (sym begins) reads in
    let held : IsHeld is_read may_give over handed asks may_hold source w.source (stand position old) sink now end = record {
      last = stand position new;
      drawn = w.read;
      read = speaks.read;
      drew = record {
        some = some w.source;
        given = λ comes may. begun.given (before w.read comes) (narrows (before w.read comes) (knows.comes comes may));
        counted = counted_on over handed (work (machine_of old)) w (handed source) draws begun.counted;
        failed = λ comes may failed. knows.read_failed (ap (λ (s : Snapshot). s.over) (knows.stands (before w.read comes) (knows.comes comes may)).holds ∙ failed);
      };
      gives = speaks.gives;
      taken = λ held holds.
          let took = speaks.taken held holds in (took.0, took.1, λ comes asked may asks. took.2 (before w.read comes) asked (knows.comes comes may) asks);
    } in
    let at : left ≡ w.source = is ∙ ap (λ (x : M). (work x).source) same in
    subst (λ (s : Stand). IsHeld is_read may_give over handed asks may_hold source left s sink now end) stands
    (subst (λ (s : S). IsHeld is_read may_give over handed asks may_hold source s (stand position old) sink now end) (sym at) held)

-- no session was held
pub reported_refused : {S V : Type 0} (is_read : Type 0) (may_give : S → Input → Type 0) (over : S → Option Ending) (handed : S → ℕ) (asks : Bytes → Input → Type 0) (unread : Type 0) (may_hold : V → Bytes → Type 0) (text : Bytes) (settings : List FirstValue) (source : S) (steps : ℕ) (history : Option ℕ) (sink : V) (report : Report)
    → unread → IsRefused text settings report → Debugs is_read may_give over handed asks unread may_hold text settings source source steps history sink sink report
reported_refused is_read may_give over handed asks unread may_hold text settings source steps history sink _ none (preparing.text_refused refusal complete) = text_refused refusal complete refl refl none
reported_refused is_read may_give over handed asks unread may_hold text settings source steps history sink _ none (preparing.settings_refused p found fits) = settings_refused p found fits refl refl none
reported_refused is_read may_give over handed asks unread may_hold text settings source steps history sink _ none (preparing.not_compiled p found fits) = never_stood p found fits (inl refl) refl none

-- of commands in memory none is read
pub reported_unread : {S V : Type 0} (is_read : Type 0) (may_give : S → Input → Type 0) (over : S → Option Ending) (handed : S → ℕ) (asks : Bytes → Input → Type 0) (unread : Type 0) (may_hold : V → Bytes → Type 0) (text : Bytes) (settings : List FirstValue) (source left : S) (steps : ℕ) (history : Option ℕ) (sink now : V) (report : Report)
    → Debugs is_read may_give over handed asks unread may_hold text settings source left steps history sink now report → Debugs is_read may_give over handed asks (Unit {0}) may_hold text settings source left steps history sink now report
reported_unread is_read may_give over handed asks unread may_hold text settings source left steps history sink now _ (text_refused refusal complete left_is written none) = text_refused refusal complete left_is written tt
reported_unread is_read may_give over handed asks unread may_hold text settings source left steps history sink now _ (settings_refused p is fit left_is written none) = settings_refused p is fit left_is written tt
reported_unread is_read may_give over handed asks unread may_hold text settings source left steps history sink now _ (never_stood p is fit unheld written none) = never_stood p is fit unheld written tt
reported_unread is_read may_give over handed asks unread may_hold text settings source left steps history sink now _ (held p end is fit h) = held p end is fit h
