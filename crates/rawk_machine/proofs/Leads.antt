-- A machine that goes back, takes a set back, or makes one, as contracts see it.
use Rattle.std.proofs.Common.{◌≡◌, ℕ, ◌-◌, List, [], ◌∷◌, ◌++◌, Option, None, Some, refl, ap, ◌∙◌}
use Rattle.rawk_value.specs.declared.value.Value.{Value}
use Rattle.rawk_tape.specs.Tapes.{TapeState}
use Rattle.rawk_record.specs.Shown.{Shown, record_back}
use Rattle.rawk_store.specs.Groups.{Group}
use Rattle.rawk_history.specs.Steps.{Forth, Kept}
use Rattle.rawk_frames.specs.LaidFrames.{returns_of}
use Rattle.rawk_frames.specs.LaidKeys.{LaidKeys, keys_of}
use Rattle.rawk_store.specs.declared.registers.Registers.{Registers}
use Rattle.rawk_store.specs.Stacked.{Stacked, live_values}
use Rattle.rawk_store.specs.State.{State, Target, assigned}
use Rattle.rawk_store.specs.Observed.{Observed}
use Rattle.rawk_arrays.specs.Laid.{Laid, arrays_of}
use Rattle.rawk_store.specs.Layout.{Layout, Grown, IsSound, state}
use Rattle.rawk_store.specs.Saving.{saved_in}
use Rattle.rawk_store.specs.GroupBack.{arrays_in, globals_on, put_back}
use Rattle.rawk_code.specs.Listing.{Listing}
use Rattle.rawk_code.specs.Actions.{SetAt, or_same}
use Rattle.rawk_code.specs.Trace.{FirstValue}
use Rattle.rawk_machine.specs.Last.{Last}
use Rattle.rawk_machine.specs.Last as last
use Rattle.rawk_machine.specs.Standing.{Standing, Moment, Earlier, Past, gone_back, taken_back, set_made}
use Rattle.rawk_machine.specs.Kept.{moment_in, but_last, below, before_of, unsets, pasts, Chain, LastFits}
use Rattle.rawk_steps.specs.Leading.{newest_first, back_in, arrays_forth, globals_forth, record_forth}
use Rattle.rawk_steps.specs.Arrival.{site_for}
use Rattle.rawk_steps.specs.Written.{IsWritten}
use Rattle.rawk_machine.specs.Stood.{standing_of}
use Rattle.rawk_machine.proofs.Forths.{before-grown}
use Rattle.rawk_machine.proofs.Chains.{fit_here, moment-grown, unsets-grown, pasts-grown, pasts_unset, pasts_set, unsets_set}

pub gone_is : {S : Type 0} (code : Listing) (settings : List FirstValue) (steps : ℕ) (sets : List SetAt) (point : ℕ) (tape : TapeState S) (l : Layout) (executed : ℕ) (here : List Group) (item : Kept) (newer : Forth) (items : List Kept) (limit : Option ℕ) (before : Last) →
    globals_forth (globals_on (back_in l here item).globals newer.globals newer.others) newer.sets ≡ l.globals → arrays_forth (arrays_in (back_in l here item).arrays newer.others) newer.sets ≡ l.arrays → record_forth (record_back (back_in l here item).current newer.current) newer.sets ≡ l.current →
    standing_of code settings steps (below point sets) (point - 1) (record tape { consumed = (back_in l here item).registers.consumed }) (back_in l here item) executed (newest_first item) items limit (last.Back newer)
    ≡ gone_back (pasts l sets point here (item ∷ items)) (standing_of code settings steps sets point tape l executed here (item ∷ items) limit before)
gone_is {S} code settings steps sets point tape l executed here item newer items limit before globals arrays current =
    let m = back_in l here item in
    let old : Standing S = standing_of code settings steps sets point tape l executed here (item ∷ items) limit before in
    let with = λ (s : Observed). record (gone_back (pasts l sets point here (item ∷ items)) old) { before = Some s } in
    let whole = λ (xs : List Value) (a : Laid) (c : Shown). let s : Observed = record { globals = xs; arrays = arrays_of a; whole = c.text; fields = c.fields } in with s in
    ap (λ (xs : List Value). whole xs (arrays_forth (arrays_in m.arrays newer.others) newer.sets) (record_forth (record_back m.current newer.current) newer.sets)) globals
    ∙ ap (λ (a : Laid). whole l.globals a (record_forth (record_back m.current newer.current) newer.sets)) arrays
    ∙ ap (whole l.globals l.arrays) current

pub taken_is : {S : Type 0} (code : Listing) (settings : List FirstValue) (steps : ℕ) (sets : List SetAt) (point size : ℕ) (tape : TapeState S) (l : Layout) (executed : ℕ) (g : Group) (here : List Group) (items : List Kept) (limit : Option ℕ) (before : Last) → Chain l point size sets (g ∷ here) items →
    standing_of code settings steps (but_last sets) point (record tape { consumed = (put_back l g).registers.consumed }) (put_back l g) executed here items limit last.Nothing
    ≡ taken_back (unsets l sets (g ∷ here)) (standing_of code settings steps sets point tape l executed (g ∷ here) items limit before)
taken_is {S} code settings steps sets point size tape l executed g here items limit before c =
    let old : Standing S = standing_of code settings steps sets point tape l executed (g ∷ here) items limit before in
    ap (λ (ps : List Past). record (taken_back (unsets l sets (g ∷ here)) old) { history = ps }) (pasts_unset l point size sets g here items c)

pub set_is : {S : Type 0} (code : Listing) (settings : List FirstValue) (steps : ℕ) (sets : List SetAt) (point size : ℕ) (tape : TapeState S) (l n : Layout) (executed : ℕ) (g : Group) (here : List Group) (items : List Kept) (limit : Option ℕ) (before : Last) (t : Target) (v : Value) →
    IsWritten t v l n → Grown l (put_back n g) → IsSound l → Chain l point size sets here items →
    standing_of code settings steps (sets ++ (record { point = point; target = t; value = v }) ∷ []) point tape n executed (g ∷ here) items limit last.Nothing ≡ set_made (saved_in g) t v (standing_of code settings steps sets point tape l executed here items limit before)
set_is {S} code settings steps sets point size tape l n executed g here items limit before t v w grew sound chain =
    let e : SetAt = record { point = point; target = t; value = v } in
    let more = sets ++ e ∷ [] in
    let with = λ (s : State) (ops : Stacked Value) (ks : LaidKeys) (rs : List ℕ) (r : Registers) (us : List Earlier) (ps : List Past).
    let m : Standing S = record {
      code = code;
      settings = settings;
      sets = more;
      steps = steps;
      point = point;
      tape = tape;
      state = s;
      operands = live_values ops;
      keys = keys_of ks;
      returns = rs;
      place = r.place;
      phase = r.phase;
      ending = r.ending;
      site = site_for r.ending r.site;
      executed = executed;
      unset = us;
      history = ps;
      limit = limit;
      before = None;
    } in m in
    let us = unsets n more (g ∷ here) in
    let ps = pasts n more point (g ∷ here) items in
    let m = put_back n g in
    let stood = λ (x : Moment) (us : List Earlier). let y : Earlier = record { moment = x; sets = sets; saved = saved_in g } in y ∷ us in
    ap (λ (s : State). with s n.operands n.keys (returns_of n.frames) n.registers us ps) w.state
    ∙ ap (λ (ops : Stacked Value). with (or_same (state l) (assigned t v (state l))) ops n.keys (returns_of n.frames) n.registers us ps) w.operands
    ∙ ap (λ (ks : LaidKeys). with (or_same (state l) (assigned t v (state l))) l.operands ks (returns_of n.frames) n.registers us ps) w.keys
    ∙ ap (λ (rs : List ℕ). with (or_same (state l) (assigned t v (state l))) l.operands l.keys rs n.registers us ps) w.returns
    ∙ ap (λ (r : Registers). with (or_same (state l) (assigned t v (state l))) l.operands l.keys (returns_of l.frames) r us ps) w.registers
    ∙ ap (λ (us : List Earlier). with (or_same (state l) (assigned t v (state l))) l.operands l.keys (returns_of l.frames) l.registers us ps) (unsets_set m n point sets e g here refl)
    ∙ ap (λ (x : Moment). with (or_same (state l) (assigned t v (state l))) l.operands l.keys (returns_of l.frames) l.registers (stood x (unsets m sets here)) ps) (moment-grown l m grew sound)
    ∙ ap (λ (us : List Earlier). with (or_same (state l) (assigned t v (state l))) l.operands l.keys (returns_of l.frames) l.registers (stood (moment_in l) us) ps)
    (unsets-grown l m point size sets here grew sound (fit_here l point size sets here items chain))
    ∙ ap (with (or_same (state l) (assigned t v (state l))) l.operands l.keys (returns_of l.frames) l.registers (stood (moment_in l) (unsets l sets here)))
    (pasts_set m n point sets e g here items refl refl ∙ pasts-grown l m point size sets here items grew sound chain)

-- where only slots were added that no program sees, the machine stands the same
pub stands_grown : {S : Type 0} (code : Listing) (settings : List FirstValue) (steps : ℕ) (sets : List SetAt) (point size : ℕ) (tape : TapeState S) (l m : Layout) (executed : ℕ) (here : List Group) (items : List Kept) (limit : Option ℕ) (last : Last) →
    Grown l m → IsSound l → LastFits last l.arrays → Chain l point size sets here items → standing_of code settings steps sets point tape m executed here items limit last ≡ standing_of code settings steps sets point tape l executed here items limit last
stands_grown {S} code settings steps sets point size tape l m executed here items limit last grew sound fits chain =
    let past : pasts m sets point here items ≡ pasts l sets point here items = pasts-grown l m point size sets here items grew sound chain in
    let with = λ (x : Moment) (us : List Earlier) (ps : List Past) (before : Option Observed).
    let s : Standing S = record {
      code = code;
      settings = settings;
      sets = sets;
      steps = steps;
      point = point;
      tape = tape;
      state = x.state;
      operands = x.operands;
      keys = x.keys;
      returns = x.returns;
      place = x.place;
      phase = x.phase;
      ending = x.ending;
      site = x.site;
      executed = executed;
      unset = us;
      history = ps;
      limit = limit;
      before = before;
    } in s in
    let us = unsets m sets here in
    let ps = pasts m sets point here items in
    ap (λ (xs : List Value). with (moment_in m) us ps (before_of last xs m.arrays m.current ps)) grew.globals
    ∙ ap (λ (x : Shown). with (moment_in m) us ps (before_of last l.globals m.arrays x ps)) grew.current
    ∙ ap (with (moment_in m) us ps) (before-grown last l.globals l.arrays m.arrays l.current ps grew.arrays sound.arrays fits)
    ∙ ap (λ (x : Moment). with x us ps (before_of last l.globals l.arrays l.current ps)) (moment-grown l m grew sound)
    ∙ ap (λ (us : List Earlier). with (moment_in l) us ps (before_of last l.globals l.arrays l.current ps)) (unsets-grown l m point size sets here grew sound (fit_here l point size sets here items chain))
    ∙ ap (λ (ps : List Past). with (moment_in l) (unsets l sets here) ps (before_of last l.globals l.arrays l.current ps)) past
