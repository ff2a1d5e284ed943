-- What it says of a coordinate that a closed square's span has it.
use Rattle.std.proofs.Common.{◌≡◌, ℕ, ℤ, pos, ◌+ℤ◌, ◌*ℤ◌, ◌≤ℤ◌, true}
use Rattle.std.proofs.lemmas.Bool.{and_parts}
use Rattle.siting_definitions.specs.Square.{spans_closed}
use Rattle.siting_definitions.proofs.Integers.{int_le-true}

-- it is at least the span's low end
pub at_least_low : (low : ℤ) (len q : ℕ) (v : ℤ) → spans_closed low len q v ≡ true → (pos q *ℤ low) ≤ℤ (pos 65536 *ℤ v)
at_least_low low len q v h = int_le-true _ _ (and_parts _ _ h).0

-- it is at most the span's high end
pub at_most_high : (low : ℤ) (len q : ℕ) (v : ℤ) → spans_closed low len q v ≡ true → (pos 65536 *ℤ v) ≤ℤ (pos q *ℤ (low +ℤ pos len))
at_most_high low len q v h = int_le-true _ _ (and_parts _ _ h).1
