use Rattle.std.proofs.Common.{◌≡◌, length, ap, ◌∙◌, arith}
use Rattle.std.proofs.lemmas.List.FromFn.{length-map-range_with_len}
use Rattle.case_maker.specs.Made.{made_point}
use Rattle.case_maker.proofs.instance.make_instance.Goals as goal

pub build-requires-clause-many_points : goal.build-requires-clause-many_points
build-requires-clause-many_points c =
    let count : length c.in_ok-points.points.items ≡ c.args.points =
    ap length c.in_ok-points.ensures.points ∙ length-map-range_with_len (made_point c.args.seed) 0 c.args.points in
    omega arith
