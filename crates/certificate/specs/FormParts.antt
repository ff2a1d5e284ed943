-- Parts of the forms of lines.
use Rattle.std.specs.Prelude.{ℕ, ◌==◌, pos, if◌then◌else◌, List, [], ◌∷◌, codes, Option, Some, None}
use Rattle.std.specs.Option.{option_and_then}
use Rattle.std.specs.Str.{bytes_eq}
use Rattle.std.specs.Fmt.{signed_decimal}
use Rattle.siting_definitions.specs.Square.{Square}
use Rattle.certificate.specs.Forms.{only_if, after_word}

-- what stands after a space, where one stands first
abbrev pub space_first : List ℕ → Option (List ℕ)
space_first [] = None
space_first (b ∷ bs) = if b == 32 then Some bs else None

-- the root, where these are the word of its line, its corner and its level
abbrev pub root_fields : Square → List ℕ → Option Square
root_fields root line =
    option_and_then
    (λ x. option_and_then
    (λ y. option_and_then
    (λ level. only_if (bytes_eq (signed_decimal (pos root.level)) level) root)
    (after_word (signed_decimal root.y) y))
    (after_word (signed_decimal root.x) x))
    (after_word (codes "root") line)
