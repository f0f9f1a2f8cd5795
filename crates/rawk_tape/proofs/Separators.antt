-- The next record, which a match of an expression ends, among the bytes held.
use Rattle.std.proofs.Common.{◌≡◌, ◌≤◌, ◌+◌, ◌-◌, ℕ, Bool, true, false, List, [], ◌∷◌, Option, None, Some, Ok, length, ◌++◌, take, drop, arith, subst, sym, ◌∙◌, ap}
use Rattle.std.proofs.lemmas.List.{length-drop, drop-append-le, take-append-le, append-nil}
use Rattle.rawk_ere_tree.specs.Tree.{Tree}
use Rattle.rawk_search.specs.declared.span.Span.{Span}
use Rattle.rawk_search.specs.Matches.{first_nonempty, open_match}
use Rattle.rawk_search.specs.Laws.{IsSpan, IsSkip, open_within, open_longer, open_closed, skip_longer, skip_trans}
use Rattle.rawk_devices.specs.Inputs.{Input, is_failed}
use Rattle.rawk_tape.specs.Records.{found, last_line, separator_in, ended_by, next_match, next_record}
use Rattle.rawk_tape.specs.Tapes.{TapeState, MayBe, IsUnsettled, IsExpression, IsWithin, place_before, text_at}
use Rattle.rawk_devices.specs.declared.source.Ending.{Ending}
use Rattle.rawk_devices.specs.declared.source.Ending.TheVariants.{Ended}

-- a search that goes on settles what one from the first place on does
pub open_skipped : (s : List ℕ) (e : Tree) (from : ℕ) → IsSkip s e 0 from → open_match s e 0 ≡ open_match s e from
open_skipped s e from skip = subst (λ (x : List ℕ). open_match x e 0 ≡ open_match x e from) (append-nil s) (skip.settled [])

pub nonempty_skipped : (s : List ℕ) (e : Tree) (from : ℕ) → IsSkip s e 0 from → first_nonempty true s e 0 ≡ first_nonempty true s e from
nonempty_skipped s e from skip = subst (λ (x : List ℕ). first_nonempty true x e 0 ≡ first_nonempty true x e from) (append-nil s) (skip.nonempty true [])

-- the place reached, in the bytes held, once the search has gone on in the bytes lent
pub skip_on : (bytes kept rest : List ℕ) (start : ℕ) (e : Tree) (from to : ℕ) → rest ≡ drop start kept → kept ≡ bytes → IsSkip (drop start bytes) e 0 from → IsSkip rest e from to → IsSkip (drop start bytes) e 0 to
skip_on bytes kept rest start e from to r k a b =
    skip_trans (drop start bytes) e 0 from to a (subst (λ (x : List ℕ). IsSkip x e from to) (r ∙ ap (drop start) k) b)

-- the same in the bytes held and those read behind them
pub skip_read : (bytes chunk now : List ℕ) (start : ℕ) (e : Tree) (from : ℕ) → start ≤ length bytes → now ≡ bytes ++ chunk → IsSkip (drop start bytes) e 0 from → IsSkip (drop start now) e 0 from
skip_read bytes chunk now start e from low grown a =
    let rest : drop start now ≡ drop start bytes ++ chunk = ap (drop start) grown ∙ drop-append-le start bytes chunk low in
    subst (λ (x : List ℕ). IsSkip x e 0 from) (sym rest) (skip_longer (drop start bytes) chunk e 0 from a)

-- what separates in every input that goes on from bytes that settle it
separates : (s more : List ℕ) (e : Tree) (m : Span) (fails : Bool) → open_match s e 0 ≡ Some m → separator_in e fails (s ++ more) ≡ Some m
separates s more e m true is = open_longer s more e 0 m is
separates s more e m false is = open_closed true s more e 0 m is

-- the record before a match, among the bytes held
cut_before : (bytes : List ℕ) (start : ℕ) (m : Span) → found (take m.start (drop start bytes)) (start + m.end) ≡ Ok (Some (text_at bytes (place_before m start)))
cut_before bytes start m =
    let n : (start + m.start) - start ≡ m.start = omega arith in
    ap (λ k. found (take k (drop start bytes)) (start + m.end)) (sym n)

-- it stands within them
pub match_within : (bytes : List ℕ) (start from : ℕ) (m : Span) → start ≤ length bytes → IsSpan from (drop start bytes) m → IsWithin bytes start (Ok (Some (place_before m start)))
match_within bytes start from m low span =
    let n : length (drop start bytes) ≡ length bytes - start = length-drop start bytes in
    (omega arith, omega arith, omega (arith, span.1), omega (arith, span.1), omega (arith, span.2))

-- the answer where a match is settled by the bytes held
pub found_match : {S : Type 0} (may_give : S → Input → Type 0) (tape : TapeState S) (e : Tree) (from : ℕ) (m : Span) → tape.consumed ≤ length tape.bytes → IsSkip (drop tape.consumed tape.bytes) e 0 from → open_match (drop tape.consumed tape.bytes) e from ≡ Some m → (input : Input) → MayBe may_give tape input → next_match (Some e) input.fails (drop tape.consumed input.bytes) tape.consumed ≡ Ok (Some (text_at tape.bytes (place_before m tape.consumed)))
found_match may_give tape e from m low skip is input may =
    let start = tape.consumed in
    let s = drop start tape.bytes in
    let more = may.rest.bytes in
    let first : open_match s e 0 ≡ Some m = open_skipped s e from skip ∙ is in
    let rest : drop start (tape.bytes ++ more) ≡ s ++ more = drop-append-le start tape.bytes more low in
    let span : IsSpan 0 s m = open_within s e 0 m first in
    let inside : m.start ≤ length s = omega (arith, span.1, span.2) in
    ap (λ (i : Input). next_match (Some e) i.fails (drop start i.bytes) start) may.whole
    ∙ (ap (λ (x : List ℕ). next_match (Some e) may.rest.fails x start) rest
    ∙ (ap (λ (o : Option Span). ended_by o may.rest.fails (s ++ more) start) (separates s more e m may.rest.fails first)
    ∙ (ap (λ (x : List ℕ). found x (start + m.end)) (take-append-le m.start s more inside)
    ∙ cut_before tape.bytes start m)))

-- the answer where the input ends, and a match stands in its rest
pub last_found : (bytes : List ℕ) (start : ℕ) (e : Tree) (from : ℕ) (m : Span) (ending : Ending) → ending ≡ Ended → IsSkip (drop start bytes) e 0 from → first_nonempty true (drop start bytes) e from ≡ Some m → next_match (Some e) (is_failed ending) (drop start bytes) start ≡ Ok (Some (text_at bytes (place_before m start)))
last_found bytes start e from m ending ends skip is =
    let s = drop start bytes in
    ap (λ (x : Ending). next_match (Some e) (is_failed x) s start) ends
    ∙ (ap (λ (o : Option Span). ended_by o false s start) (nonempty_skipped s e from skip ∙ is)
    ∙ cut_before bytes start m)

-- and where none does
pub last_rest : (s : List ℕ) (start : ℕ) (e : Tree) (from : ℕ) (ending : Ending) → ending ≡ Ended → IsSkip s e 0 from → first_nonempty true s e from ≡ None → next_match (Some e) (is_failed ending) s start ≡ last_line (is_failed ending) s start
last_rest s start e from ending ends skip is =
    ap (λ (x : Ending). next_match (Some e) (is_failed x) s start) ends
    ∙ (ap (λ (o : Option Span). ended_by o false s start) (nonempty_skipped s e from skip ∙ is)
    ∙ ap (λ (x : Ending). last_line (is_failed x) s start) (sym ends))

-- the next record by a separator that is read as this expression
pub next_is : (separator : List ℕ) (e : Tree) → IsExpression separator e → (input : Input) (count : ℕ) → next_record input count separator ≡ next_match (Some e) input.fails (drop count input.bytes) count
next_is [] e is input count = absurd (omega (arith, is.0))
next_is (b ∷ []) e is input count = absurd (omega (arith, is.0))
next_is (b ∷ c ∷ more) e is input count = ap (λ (o : Option Tree). next_match o input.fails (drop count input.bytes) count) is.1

-- bytes in which no match is settled do not settle the record
pub match_open : (bytes : List ℕ) (start : ℕ) (e : Tree) (from : ℕ) → IsSkip (drop start bytes) e 0 from → open_match (drop start bytes) e from ≡ None → (separator : List ℕ) → IsExpression separator e → IsUnsettled separator bytes start
match_open bytes start e from skip is separator read =
    next_is separator e read (record { bytes = bytes; fails = true }) start
    ∙ ap (λ (o : Option Span). ended_by o true (drop start bytes) start) (open_skipped (drop start bytes) e from skip ∙ is)

-- what a search in the bytes lent answered is of the bytes held
pub searched : (bytes kept rest : List ℕ) (start : ℕ) (e : Tree) (from : ℕ) (asked answer : Option Span) → rest ≡ drop start kept → kept ≡ bytes → asked ≡ open_match rest e from → asked ≡ answer → open_match (drop start bytes) e from ≡ answer
searched bytes kept rest start e from asked answer r k a is =
    ap (λ (x : List ℕ). open_match x e from) (sym (r ∙ ap (drop start) k)) ∙ (sym a ∙ is)

pub searched_last : (bytes rest : List ℕ) (start : ℕ) (e : Tree) (from : ℕ) (asked answer : Option Span) → rest ≡ drop start bytes → asked ≡ first_nonempty true rest e from → asked ≡ answer → first_nonempty true (drop start bytes) e from ≡ answer
searched_last bytes rest start e from asked answer r a is =
    ap (λ (x : List ℕ). first_nonempty true x e from) (sym r) ∙ (sym a ∙ is)
