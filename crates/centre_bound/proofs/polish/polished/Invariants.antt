use Rattle.std.proofs.Common.{◌≡◌, drop}
use Rattle.siting_definitions.specs.Marks.{lesser}
use Rattle.centre_bound.specs.Polished.{least_centre_bound}
use Rattle.centre_bound.proofs.polish.polished.Given as goal

abbrev pub invariant-loop-node : goal.invariant-loop-node
invariant-loop-node l =
    lesser l.least (least_centre_bound l.instance (drop l.node-index l.nodes)) ≡ least_centre_bound l.instance l.nodes
