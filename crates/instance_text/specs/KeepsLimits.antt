-- What the fields of a reading show, and that it keeps the limits of an instance.
use Rattle.std.specs.Prelude.{◌≡◌, ℕ, ◌≤◌, length, ⊤}
use Rattle.siting_definitions.specs.Instance.{weight}
use Rattle.instance_text.specs.Phase.{Phase, Start, Body, Ended}
use Rattle.siting_definitions.specs.declared.TheConstants.{WEIGHT_LIMIT, POINT_LIMIT, POLYGON_LIMIT}
use Rattle.instance_text.specs.declared.phase.Phase.{Phase as Coded}
use Rattle.instance_text.specs.declared.phase.Phase.TheVariants as coded
use Rattle.instance_text.specs.declared.reading.Reading.TheInside.{Inside}
use Rattle.instance_text.specs.Reading.{Found}

-- the phase that the code's says
abbrev pub phase_of : Coded → Phase
phase_of coded.Start = Start
phase_of (coded.Body cutoffs) = Body cutoffs
phase_of (coded.Ended kind) = Ended kind

-- what was found
abbrev pub found_of : Inside → Found
found_of a =
    record {
      phase = phase_of a.phase;
      kind = a.kind;
      points = a.points.items;
      permitted = a.permitted.items;
      forbidden = a.forbidden.items;
    }

-- the end comes after a point and a permitted polygon
abbrev pub IsWhole : Phase → Found → Type 0
IsWhole Start found = ⊤
IsWhole (Body cutoffs) found = ⊤
IsWhole (Ended kind) found = (1 ≤ length found.points) × (1 ≤ length found.permitted)

-- the weights sum to w in size, and the limits on numbers are kept
pub record KeepsLimits (w : ℕ) (found : Found) : Type 0 where
  pub weight : w ≡ weight found.points
  pub light : w ≤ WEIGHT_LIMIT
  pub many_points : length found.points ≤ POINT_LIMIT
  pub many_permitted : length found.permitted ≤ POLYGON_LIMIT
  pub many_forbidden : length found.forbidden ≤ POLYGON_LIMIT
  pub whole : IsWhole found.phase found
