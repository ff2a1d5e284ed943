use Rattle.std.proofs.Common.{◌≡◌, take, All}
use Rattle.siting_definitions.specs.Instance.{IsDemandPt}
use Rattle.site_model.proofs.Weights.{weight_to}
use Rattle.site_model.proofs.demand.weight_of.Given as goal

abbrev pub invariant-loop-point : goal.invariant-loop-point
invariant-loop-point l = (l.sum ≡ weight_to l.points l.point-index) × All IsDemandPt (take l.point-index l.points)
