use Rattle.std.proofs.Common.{◌≡◌, ◌*◌, ◌≤◌, map}
use Rattle.std.specs.List.{range_with_len}
use Rattle.case_maker.specs.Made.{state, made_point}
use Rattle.case_maker.proofs.points.make_points.Given as goal

abbrev pub invariant-loop : goal.invariant-loop
invariant-loop l =
    (l.generator.state ≡ state l.seed (3 * l.counter)) × (l.points.items ≡ map (made_point l.seed) (range_with_len 0 l.counter)) × (l.generator.state ≤ 2147483647)
