-- How much of an input was read.
use Rattle.std.specs.Prelude.{ℕ}

-- how many bytes, and how many whole lines
pub record ReadSoFar : Type 0 where
  pub read : ℕ
  pub line : ℕ
