-- Numbers of 64 bits with a sign as words, in order.
use Rattle.std.specs.Prelude.{ℕ, suc, ◌+◌, ◌-◌, ◌^◌, ◌==◌, ℤ, pos, negsuc}
use Rattle.std.specs.Prelude.{◌-ℤ◌, if◌then◌else◌, Option, Some, None}

-- v + 2 ^ 63
abbrev pub word_of : ℤ → ℕ
word_of (pos n) = 2 ^ 63 + n
word_of (negsuc n) = 2 ^ 63 - suc n

-- the word of a number, or of none
abbrev pub word_in : Option ℤ → ℕ
word_in None = 2 ^ 64 - 1
word_in (Some v) = word_of v

-- the number that a word stands for
abbrev pub number_in : ℕ → Option ℤ
number_in w = if w == 2 ^ 64 - 1 then None else Some (pos w -ℤ pos (2 ^ 63))
