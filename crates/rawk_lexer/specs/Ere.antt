-- Where a regular expression between slashes ends, as a function. Bytes are written by their codes: 10 is a newline, 47 `/`, 58 `:`,
-- 91 `[`, 92 a backslash, 93 `]`, 94 `^`.
use Rattle.std.specs.Prelude.{ℕ, ◌+◌, Bool, true, false, if◌then◌else◌, ◌==◌, ◌&&◌, List, [], ◌∷◌, Option, Some, None}
use Rattle.rawk_lexer.specs.declared.ere.Behind.{Behind}
use Rattle.rawk_lexer.specs.declared.ere.Behind.TheVariants.{Outside, Escape, Bracket, Caret, Item, ItemEscape, ItemBracket, Class, ClassColon}

-- whether a slash ends the regular expression there
abbrev pub is_outside : Behind → Bool
is_outside Outside = true
is_outside _ = false

-- behind an item, `]` ends the bracket expression
abbrev pub after_item : ℕ → Behind
after_item b = if b == 93 then Outside else (if b == 92 then ItemEscape else (if b == 91 then ItemBracket else Item))

-- a `]` that stands first is an item
abbrev pub after_first : ℕ → Behind
after_first b = if b == 93 then Item else after_item b

-- what stands behind, once a byte is read
abbrev pub after : Behind → ℕ → Behind
after Outside b = if b == 91 then Bracket else (if b == 92 then Escape else Outside)
after Escape b = Outside
after Bracket b = if b == 94 then Caret else after_first b
after Caret b = after_first b
after Item b = after_item b
after ItemEscape b = Item
after ItemBracket b = if b == 58 then Class else after_item b
after Class b = if b == 58 then ClassColon else Class
after ClassColon b = if b == 93 then Item else (if b == 58 then ClassColon else Class)

-- the place after the first slash outside bracket expressions that is not escaped, for a text that begins at `at`;
-- a newline ends it too early
abbrev pub closing : Behind → ℕ → List ℕ → Option ℕ
closing behind at [] = None
closing behind at (b ∷ z) = if b == 10 then None else (if b == 47 && is_outside behind then Some (at + 1) else closing (after behind b) (at + 1) z)
