-- Where a site may stand.
use Rattle.std.specs.Prelude.{Bool, not, ◌&&◌}
use Rattle.std.specs.List.{list_any}
use Rattle.siting_definitions.specs.Point.{Point}
use Rattle.siting_definitions.specs.Polygon.{covers, covers_inside}
use Rattle.siting_definitions.specs.Instance.{Instance}

-- whether p is permitted: some permitted polygon holds it, and no forbidden polygon holds it in its
-- interior
unfoldable pub permits : Instance → Point → Bool
permits i p =
    list_any (λ vs. covers vs p) i.permitted
    && not (list_any (λ vs. covers_inside vs p) i.forbidden)
