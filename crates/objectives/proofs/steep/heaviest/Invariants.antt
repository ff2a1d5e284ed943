use Rattle.std.proofs.Common.{◌≡◌, max, drop}
use Rattle.objectives.specs.Steepness.{heaviest}
use Rattle.objectives.proofs.steep.heaviest.Given as goal

-- the greatest size so far, and those of the points to come
abbrev pub invariant-loop-point : goal.invariant-loop-point
invariant-loop-point l = max l.most (heaviest (drop l.point-index l.points)) ≡ heaviest l.points
