-- The line that `print` writes, from piece to piece.
use Rattle.std.proofs.Common.{◌≡◌, ℕ, ◌+◌, ◌<◌, suc, Bool, true, false, List, [], ◌∷◌, ◌++◌, length, map, reverse, take, drop, refl, sym, ap, ◌∙◌, append_assoc, get_or, drop-cons, add-one}
use Rattle.std.proofs.lemmas.List.{reverse-append, map-append}
use Rattle.rawk_code.specs.declared.code.Simple.{Simple}
use Rattle.rawk_code.specs.Actions.{line_of}
use Rattle.rawk_operands.specs.Borrowed.{global_in}
use Rattle.rawk_operands.specs.Moving.{Moving, seen, simple_of, simple_in}
use Rattle.rawk_value.specs.declared.value.Value.{Value}
use Rattle.rawk_value.specs.Values.{Bytes, text_of}
use Rattle.rawk_store.specs.State.{joined, OFS, ORS}
use Rattle.rawk_operate.specs.Line.{piece_of, pieces_behind}
use Rattle.rawk_operate.specs.LineLaws.{joined-pieces, piece_then}

-- a line of `count` operands, and then these
abbrev pub printed : ℕ → List Simple → Moving → Bytes
printed count simples m = line_of (reverse (reverse (map (λ from. simple_in from m) simples) ++ take count m.operands)) (seen m)

-- what has its value at once, printed
pub simple_printed : (separator : Bytes) (leads : Bool) (whole now next : Bytes) (f : Simple → Bytes) (xs : List Simple) (i : ℕ) (x : Simple) (t : Bytes) → x ≡ get_or xs i x → i < length xs → t ≡ f x →
    whole ≡ now ++ pieces_behind separator leads (map f (drop i xs)) → next ≡ now ++ piece_of separator leads t → whole ≡ next ++ pieces_behind separator false (map f (drop (i + 1) xs))
simple_printed separator leads whole now next f xs i x t is h et inv e =
    let k : drop i xs ≡ x ∷ drop (suc i) xs = drop-cons xs i x h ∙ ap (λ (y : Simple). y ∷ drop (suc i) xs) (sym is) in
    let all : map f (drop i xs) ≡ t ∷ map f (drop (i + 1) xs) =
    ap (λ (l : List Simple). map f l) k ∙ ap (λ (u : Bytes). u ∷ map f (drop (suc i) xs)) (sym et) ∙ ap (λ n. t ∷ map f (drop n xs)) (sym (add-one i)) in
    piece_then separator leads whole now next t (map f (drop (i + 1) xs)) (inv ∙ ap (λ (l : List Bytes). now ++ pieces_behind separator leads l) all) e

reverse-reverse : (xs : List Value) → reverse (reverse xs) ≡ xs
reverse-reverse [] = refl
reverse-reverse (x ∷ xs) = ap reverse (reverse-append (x ∷ []) xs) ∙ reverse-append (reverse xs) (x ∷ []) ∙ ap (λ (l : List Value). x ∷ l) (reverse-reverse xs)

-- what is printed at last: operands, the others, and the record's end
pub line_printed : (separator ending start first second third : Bytes) (leads : Bool) (operands simples : List Bytes) →
    start ++ pieces_behind separator true (operands ++ simples) ≡ first ++ pieces_behind separator leads simples → second ≡ first ++ pieces_behind separator leads simples → third ≡ second ++ ending →
    third ≡ start ++ (joined separator (operands ++ simples) ++ ending)
line_printed separator ending start first second third leads operands simples a b c =
    c ∙ ap (λ (x : Bytes). x ++ ending) (b ∙ sym a ∙ ap (λ (x : Bytes). start ++ x) (sym (joined-pieces separator (operands ++ simples)))) ∙ append_assoc start (joined separator (operands ++ simples)) ending

-- the values of a line, in their order
pub values_of_line : (s t : List Value) → reverse (reverse s ++ t) ≡ reverse t ++ s
values_of_line s t = reverse-append (reverse s) t ∙ ap (λ (l : List Value). reverse t ++ l) (reverse-reverse s)

pub texts_of_line : (simples : List Simple) (f : Simple → Value) (t : List Value) → map text_of (reverse (reverse (map f simples) ++ t)) ≡ map text_of (reverse t) ++ map (λ from. text_of (f from)) simples
texts_of_line simples f t = ap (λ (l : List Value). map text_of l) (values_of_line (map f simples) t) ∙ map-append text_of (reverse t) (map f simples) ∙ ap (λ (l : List Bytes). map text_of (reverse t) ++ l) (twice simples)
  where
    twice : (xs : List Simple) → map text_of (map f xs) ≡ map (λ from. text_of (f from)) xs
    twice [] = refl
    twice (x ∷ xs) = ap (λ (l : List Bytes). text_of (f x) ∷ l) (twice xs)

pub print_line : (count : ℕ) (simples : List Simple) (m : Moving) (separator last : Value) (first second third : Bytes) (leads : Bool) → separator ≡ global_in OFS m.globals → last ≡ global_in ORS m.globals →
    ((more : List Bytes) → m.output ++ pieces_behind (text_of separator) true (map text_of (reverse (take count m.operands)) ++ more) ≡ first ++ pieces_behind (text_of separator) leads more) →
    second ≡ first ++ pieces_behind (text_of separator) leads (map (λ from. text_of (simple_of from m.globals m.frames m.current)) simples) → third ≡ second ++ text_of last → third ≡ m.output ++ printed count simples m
print_line count simples m separator last first second third leads es el a b c =
    let f : Simple → Value = λ from. simple_in from m in
    let ops : List Bytes = map text_of (reverse (take count m.operands)) in
    let texts : List Bytes = map (λ from. text_of (f from)) simples in
    line_printed (text_of separator) (text_of last) m.output first second third leads ops texts (a texts) b c
    ∙ ap (λ (l : List Bytes). m.output ++ (joined (text_of separator) l ++ text_of last)) (sym (texts_of_line simples f (take count m.operands)))
    ∙ ap (λ (v : Value). m.output ++ (joined (text_of v) (map text_of (reverse (reverse (map f simples) ++ take count m.operands))) ++ text_of last)) es
    ∙ ap (λ (v : Value). m.output ++ (joined (text_of (global_in OFS m.globals)) (map text_of (reverse (reverse (map f simples) ++ take count m.operands))) ++ text_of v)) el
