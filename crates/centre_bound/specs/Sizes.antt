-- How much a point adds at the most.
use Rattle.std.specs.Prelude.{◌*◌, ◌≤◌, ℤ, unsigned_abs}
use Rattle.dist_bounds.specs.Limits.{longest}
use Rattle.centre_bound.specs.declared.cut.Term.{Term}

-- what a point of this weight adds is no more in size than the weight times 2 ^ 20 times the
-- longest distance, and its slopes are no more than the weight times 2 ^ 20
pub record IsSmall (t : Term) (w : ℤ) : Type 0 where
  pub at_centre : unsigned_abs t.at_centre ≤ unsigned_abs w * (1048576 * longest)
  pub right : unsigned_abs t.right ≤ unsigned_abs w * 1048576
  pub upper : unsigned_abs t.upper ≤ unsigned_abs w * 1048576
