-- What the fields of a reading show, and that it keeps the limits of a cover.
use Rattle.std.specs.Prelude.{◌≤◌}
use Rattle.cover_text.specs.declared.TheConstants.{SHIFT_LIMIT, RING_LIMIT}
use Rattle.cover_text.specs.declared.reading.Reading.TheInside.{Inside}
use Rattle.cover_text.specs.Reading.{Found}

-- what was found
abbrev pub found_of : Inside → Found
found_of a =
    record {
      phase = a.phase;
      shift = a.shift;
      tile = a.tile;
      region = a.region.items;
      forbidden = a.forbidden.items;
      triangles = a.triangles.items;
      vertices = a.vertices;
    }

-- the limits on numbers are kept
pub record KeepsLimits (found : Found) : Type 0 where
  pub shift : found.shift ≤ SHIFT_LIMIT
  pub vertices : found.vertices ≤ RING_LIMIT
