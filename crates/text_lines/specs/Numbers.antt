-- Whole numbers in decimal.
use Rattle.std.specs.Prelude.{ℕ, suc, ◌+◌, ◌-◌, ◌*◌, ◌^◌, ◌==◌, nat_le, min, ℤ, pos, negsuc, neg_ℤ}
use Rattle.std.specs.Prelude.{unsigned_abs, if◌then◌else◌, List, [], ◌∷◌, fold, Option, Some, None}
use Rattle.std.specs.Prelude.{◌≤◌, ⊤}
use Rattle.std.specs.List.{list_all}
use Rattle.std.specs.Option.{option_map}
use Rattle.std.specs.Char.{is_ascii_digit}
use Rattle.text_lines.specs.declared.numbers.NumberField.{NumberField}
use Rattle.text_lines.specs.declared.numbers.NumberField.TheVariants.{NotANumber, Beyond, Value}

-- the number that digits stand for
abbrev pub value_of : List ℕ → ℕ
value_of ds = fold (λ n d. 10 * n + (d - 48)) 0 ds

-- the number that a field of digits alone stands for
abbrev pub digits_of : List ℕ → Option ℕ
digits_of [] = None
digits_of (d ∷ ds) = if list_all is_ascii_digit (d ∷ ds) then Some (value_of (d ∷ ds)) else None

abbrev pub minus : ℕ → ℤ
minus n = neg_ℤ (pos n)

-- the number that a field stands for: one or more digits, and '-' or '+' before them or neither
abbrev pub number_of : List ℕ → Option ℤ
number_of [] = None
number_of (b ∷ bs) =
    if b == 45 then option_map minus (digits_of bs)
    else if b == 43 then option_map pos (digits_of bs)
    else option_map pos (digits_of (b ∷ bs))

-- n, or the greatest number of 64 bits where n is above it
abbrev pub saturated : ℕ → ℕ
saturated n = min n (2 ^ 64 - 1)

-- z with its size saturated
abbrev pub saturated_size : ℤ → ℤ
saturated_size (pos n) = pos (saturated n)
saturated_size (negsuc n) = minus (saturated (suc n))

-- the number that a field stands for, if it is one of at most this size
abbrev pub within : ℕ → Option ℤ → NumberField
within limit None = NotANumber
within limit (Some z) = if nat_le (unsigned_abs z) limit then Value z else Beyond

-- a number that was found has at most this size
abbrev pub HasSize : ℕ → NumberField → Type 0
HasSize limit NotANumber = ⊤
HasSize limit Beyond = ⊤
HasSize limit (Value z) = unsigned_abs z ≤ limit
