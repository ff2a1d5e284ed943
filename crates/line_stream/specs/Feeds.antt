-- Line feeds.
use Rattle.std.specs.Prelude.{ℕ, ◌==◌, Bool, not, List}
use Rattle.std.specs.List.{list_all}

-- whether a byte is no line feed
abbrev pub is_no_feed : ℕ → Bool
is_no_feed b = not (b == 10)

-- no byte of a line is a line feed
abbrev pub is_feedless : List ℕ → Bool
is_feedless line = list_all (λ b. not (b == 10)) line

abbrev pub are_feedless : List (List ℕ) → Bool
are_feedless lines = list_all is_feedless lines
