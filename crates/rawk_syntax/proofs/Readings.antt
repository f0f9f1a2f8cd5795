-- Whole texts, over plain variables.
use Rattle.std.proofs.Common.{◌≡◌, ◌≢◌, ◌<◌, ◌≤◌, inl, inr, ℕ, ◌+◌, ◌-◌, List, length, Result, Ok, Err, IfOk, refl, sym, ap, subst, ◌∙◌, arith}
use Rattle.rawk_limits.specs.declared.TheConstants.{OPEN_CONSTRUCTS, PROGRAM_BYTES}
use Rattle.rawk_parsing.specs.declared.refusal.Refusal.{Refusal}
use Rattle.rawk_parsing.specs.declared.parse_error.ParseError.{ParseError}
use Rattle.rawk_parsing.specs.declared.parse_error.ParseError.TheVariants.{OutOfMemory, Here}
use Rattle.rawk_parsing.specs.declared.refusal.RefusalKind.TheVariants as kinds
use Rattle.rawk_parsing.specs.Parser.{Outcome}
use Rattle.rawk_grammar.specs.declared.tree.Item.{Item}
use Rattle.rawk_grammar.specs.Items.{program}
use Rattle.rawk_grammar.specs.Texts as grammar
use Rattle.rawk_names.specs.declared.names.NameError.{NameError}
use Rattle.rawk_names.specs.Items as naming
use Rattle.rawk_names.specs.Named.{Known, IsNamed, IsRefused}
use Rattle.rawk_names.specs.Noted.{Noted}
use Rattle.rawk_names.specs.Refusals.{refused_once, named_or_refused}
use Rattle.rawk_tree.specs.declared.tree.Program.{Program}
use Rattle.rawk_syntax.specs.Laid.{IsLaid}
use Rattle.rawk_syntax.specs.Patterns.{AllReadable}
use Rattle.rawk_syntax.specs.Texts.{IsText, IsSettled, IsReading, IsOrderly, IsSettledAs, IsFlaw, IsFlawIn, IsFlawOf, IsMisnamed, IsRefusedSo, bad_ere, misnamed, IsRefusal, Tells, refusal_of, parse_error_of}
use Rattle.rawk_syntax.proofs.BadPatterns.{not_all, bad_place_once}

-- ---- names in order

pub unflawed : (noted : Noted) (n : Known) → IsNamed noted n → AllReadable noted → (e : ParseError) → IsRefusedSo noted e → ⊥
unflawed noted n h all e (bad_ere left place is) = not_all noted.patterns place.0 all place.1.0
unflawed noted n h all e (misnamed why readable some refused is) = named_or_refused noted n why some h refused

pub named_found : (text : List ℕ) (items : List Item) (n : Known) (p : Program) → IsNamed (naming.program items) n → AllReadable (naming.program items) → IsLaid text n items p → IsSettled text items p
named_found text items n p h all laid = record { names = n; named = h; patterns = all; laid = laid }

-- ---- names that are refused

pub misnamed_exact : (noted : Noted) (why : NameError) (e : ParseError) → AllReadable noted → IsRefused noted why → e ≡ parse_error_of why → e ≢ OutOfMemory → IsRefusedSo noted e
misnamed_exact noted why e all h is ne = misnamed why all (λ out. ne (is ∙ ap parse_error_of out)) h is

-- ---- items that were read

pub read_derived : (text start : List ℕ) (items ys : List Item) → start ≡ text → grammar.IsText (OPEN_CONSTRUCTS + 1) items start → ys ≡ items → IsText text ys
read_derived text start items ys same derived is = subst (λ i. grammar.IsText (OPEN_CONSTRUCTS + 1) ys i) same (subst (λ (z : List Item). grammar.IsText (OPEN_CONSTRUCTS + 1) z start) (sym is) derived)

pub read_exact : (text start : List ℕ) (items ys : List Item) (rest : List ℕ) (r : Result Program ParseError)
    → start ≡ text → program (OPEN_CONSTRUCTS + 1) start ≡ Ok (items, rest) → ys ≡ items → Tells (IsMisnamed ys) r → Tells (IsFlawIn text) r
read_exact text start items ys rest r same parsed is h =
    let e : program (OPEN_CONSTRUCTS + 1) text ≡ Ok (items, rest) = ap (program (OPEN_CONSTRUCTS + 1)) (sym same) ∙ parsed in
    subst (λ (o : Outcome (List Item)). Tells (IsFlawOf o) r) (sym e) (subst (λ (z : List Item). Tells (IsMisnamed z) r) is h)

pub read_found : (text start : List ℕ) (items ys : List Item) (r : Result Program ParseError)
    → start ≡ text → grammar.IsText (OPEN_CONSTRUCTS + 1) items start → ys ≡ items → IfOk r (λ p. IsSettled text ys p) → IfOk r (λ p. IsReading text p)
read_found text start items ys (Ok p) same derived is h =
    record { items = ys; derived = read_derived text start items ys same derived is; settled = h }
read_found text start items ys (Err e) same derived is h = tt

memory_only : (e : ParseError) → (e ≢ OutOfMemory → ⊥) → e ≡ OutOfMemory
memory_only OutOfMemory h = refl
memory_only (Here kind left) h = absurd (h (λ q. cc))

pub read_orderly : (text start : List ℕ) (items ys its : List Item) (r : Result Program ParseError)
    → start ≡ text → ((its : List Item) → grammar.IsText (OPEN_CONSTRUCTS + 1) its start → items ≡ its) → ys ≡ items → IfOk r (λ p. IsSettled text ys p) → Tells (IsMisnamed ys) r → IsOrderly text its → IsSettledAs text its r
read_orderly text start items ys its (Ok p) same only is h exact g =
    let e : items ≡ its = only its (subst (λ i. grammar.IsText (OPEN_CONSTRUCTS + 1) its i) (sym same) g.derived) in
    subst (λ (z : List Item). IsSettled text z p) (is ∙ e) h
read_orderly text start items ys its (Err f) same only is h exact g =
    let e : items ≡ its = only its (subst (λ i. grammar.IsText (OPEN_CONSTRUCTS + 1) its i) (sym same) g.derived) in
    memory_only f (λ ne. unflawed (naming.program its) g.names g.named g.patterns f (subst (λ (z : List Item). IsMisnamed z f) (is ∙ e) (exact ne)))

-- ---- a refusal of the parser

pub refused_exact : (text start : List ℕ) (r : Result Program ParseError) (e y : ParseError) → start ≡ text → (e ≢ OutOfMemory → program (OPEN_CONSTRUCTS + 1) start ≡ Err e) → r ≡ Err y → y ≡ e → Tells (IsFlawIn text) r
refused_exact text start r e y same h is back =
    rw (is, back) (λ ne. (let p : program (OPEN_CONSTRUCTS + 1) text ≡ Err e = ap (program (OPEN_CONSTRUCTS + 1)) (sym same) ∙ h ne in
    subst (λ (o : Outcome (List Item)). IsFlawOf o e) (sym p) refl))

pub refused_orderly : (text start : List ℕ) (its : List Item) (r : Result Program ParseError) (e y : ParseError)
    → start ≡ text → ((its : List Item) → grammar.IsText (OPEN_CONSTRUCTS + 1) its start → e ≡ OutOfMemory) → r ≡ Err y → y ≡ e → IsOrderly text its → IsSettledAs text its r
refused_orderly text start its r e y same only is back g =
    rw (is, back) (only its (subst (λ i. grammar.IsText (OPEN_CONSTRUCTS + 1) its i) (sym same) g.derived))

-- ---- a text has one refusal at most

misnamed_once : (noted : Noted) (e f : ParseError) → IsRefusedSo noted e → IsRefusedSo noted f → e ≡ f
misnamed_once noted e f (bad_ere left h is) (bad_ere right g be) = is ∙ ap (Here kinds.BadEre) (bad_place_once noted.patterns noted.uses left right h g) ∙ sym be
misnamed_once noted e f (bad_ere left h is) (misnamed why all some g be) = absurd (not_all noted.patterns h.0 all h.1.0)
misnamed_once noted e f (misnamed why all some h is) (bad_ere right g be) = absurd (not_all noted.patterns g.0 all g.1.0)
misnamed_once noted e f (misnamed why all some h is) (misnamed reason every other g be) = is ∙ ap parse_error_of (refused_once noted why reason some other h g) ∙ sym be

flaw_once : (o : Outcome (List Item)) (e f : ParseError) → IsFlawOf o e → IsFlawOf o f → e ≡ f
flaw_once (Ok r) e f a b = misnamed_once (naming.program r.0) e f a b
flaw_once (Err x) e f a b = sym a ∙ b

one_flaw : (text : List ℕ) (e f : ParseError) → IsFlaw text e → IsFlaw text f → e ≡ f
one_flaw text e f (inl a) (inl b) = a.1 ∙ sym b.1
one_flaw text e f (inl a) (inr b) = absurd (omega (arith, a.0, b.0))
one_flaw text e f (inr a) (inl b) = absurd (omega (arith, a.0, b.0))
one_flaw text e f (inr a) (inr b) = flaw_once (program (OPEN_CONSTRUCTS + 1) text) e f a.1 b.1

pub one_refusal : (text : List ℕ) (a b : Refusal) → IsRefusal text a → IsRefusal text b → a ≡ b
one_refusal text a b h g = h.2 ∙ ap (refusal_of text) (one_flaw text h.0 g.0 h.1 g.1) ∙ sym g.2

-- ---- answers

pub short_unrefused : (text : List ℕ) → length text ≤ PROGRAM_BYTES → ((e : ParseError) → IsFlawIn text e → ⊥) → (e : ParseError) → IsFlaw text e → ⊥
short_unrefused text short none e (inl long) = omega (arith, short, long.0)
short_unrefused text short none e (inr flaw) = none e flaw.1

pub short_refused : (text : List ℕ) (e : ParseError) (refusal : Refusal) → length text ≤ PROGRAM_BYTES → IsFlawIn text e → refusal ≡ refusal_of text e → IsRefusal text refusal
short_refused text e refusal short flaw is = (e, inr (short, flaw), is)

pub long_refused : (text : List ℕ) (e : ParseError) (refusal : Refusal) → PROGRAM_BYTES < length text → e ≡ Here kinds.TooDeep (length text - PROGRAM_BYTES) → refusal ≡ refusal_of text e → IsRefusal text refusal
long_refused text e refusal long flaw is = (e, inl (long, flaw), is)

pub refusal_memory : (text : List ℕ) (e : ParseError) (refusal : Refusal) → refusal ≡ refusal_of text e → e ≡ OutOfMemory → refusal.kind ≡ kinds.OutOfMemory
refusal_memory text e refusal is out = ap (λ r. r.kind) (is ∙ ap (refusal_of text) out)
