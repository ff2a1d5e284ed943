-- What an instance's fields show.
use Rattle.std.specs.Prelude.{◌≡◌, ℤ, pos}
use Rattle.siting_definitions.specs.Square.{Square}
use Rattle.siting_definitions.specs.Instance.{Instance, IsInstance, weight}
use Rattle.siting_definitions.specs.Sites.{root_of}
use Rattle.site_model.specs.declared.instance.Instance.TheInside.{Inside}

-- the instance whose parts the fields have
abbrev pub instance_of : Inside → Instance
instance_of a =
    record {
      kind = a.kind;
      points = a.points.items;
      permitted = a.permitted.items;
      forbidden = a.forbidden.items;
    }

-- the instance is within the limits, `sum` is that of its weights' sizes, and `root` its starting
-- square
pub record InstanceFits (i : Instance) (sum : ℤ) (root : Square) : Type 0 where
  pub limits : IsInstance i
  pub weight_is : sum ≡ pos (weight i.points)
  pub root_is : root ≡ root_of i
