-- Boxes round several places.
use Rattle.std.specs.Prelude.{◌+◌, ◌*◌, ◌/◌, ◌≤◌, max, ◌-ℤ◌, unsigned_abs}
use Rattle.std.specs.Float.Ieee.{size}
use Rattle.std.specs.Int.{int_max, int_min}
use Rattle.siting_definitions.specs.declared.TheConstants.{COORDINATE_LIMIT, UNIT}
use Rattle.siting_definitions.specs.Square.{Square, Extent}

-- the least box round two boxes
abbrev pub box_round : Extent → Extent → Extent
box_round a b =
    record {
      x0 = int_min a.x0 b.x0;
      y0 = int_min a.y0 b.y0;
      x1 = int_max a.x1 b.x1;
      y1 = int_max a.y1 b.y1;
    }

-- no border is farther than the limit of coordinates, in grid units
pub record IsBoxWithin (e : Extent) : Type 0 where
  pub left : unsigned_abs e.x0 ≤ UNIT * COORDINATE_LIMIT
  pub lower : unsigned_abs e.y0 ≤ UNIT * COORDINATE_LIMIT
  pub right : unsigned_abs e.x1 ≤ UNIT * COORDINATE_LIMIT
  pub upper : unsigned_abs e.y1 ≤ UNIT * COORDINATE_LIMIT

-- the square with the box's corner, and with the least side of a power of two of lengths above the
-- box's sides
abbrev pub square_of_box : Extent → Square
square_of_box e =
    record {
      x = e.x0;
      y = e.y0;
      level = 16
          + size (max (unsigned_abs (e.x1 -ℤ e.x0) / UNIT) (unsigned_abs (e.y1 -ℤ e.y0) / UNIT));
    }
