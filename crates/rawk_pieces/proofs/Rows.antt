-- Fields of small texts, computed from the definitions.
use Rattle.std.specs.Prelude.{◌≡◌, true, false, [], ◌∷◌, Ok, codes}
use Rattle.std.proofs.Common.{refl}
use Rattle.rawk_pieces.specs.Fields.{fields_of}

-- one space: runs of blanks separate, and those at either end do not count
one-space : fields_of (codes "  a\tb\n c ") (codes " ") false ≡ Ok (codes "a" ∷ codes "b" ∷ codes "c" ∷ [])
one-space = refl

-- another byte separates each time that it stands there
one-byte : fields_of (codes "a::b:") (codes ":") false ≡ Ok (codes "a" ∷ [] ∷ codes "b" ∷ [] ∷ [])
one-byte = refl

a-tab : fields_of (codes "a b\t c") (codes "\t") false ≡ Ok (codes "a b" ∷ codes " c" ∷ [])
a-tab = refl

-- no byte, no field
no-text : fields_of [] (codes ":") false ≡ Ok []
no-text = refl

-- in a paragraph a newline separates too
in-paragraph : fields_of (codes "a:b\nc") (codes ":") true ≡ Ok (codes "a" ∷ codes "b" ∷ codes "c" ∷ [])
in-paragraph = refl

-- no separator: each byte is a field
each-byte : fields_of (codes "ab") [] false ≡ Ok (codes "a" ∷ codes "b" ∷ [])
each-byte = refl
