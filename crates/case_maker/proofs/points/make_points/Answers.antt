use Rattle.std.proofs.Common.{◌≡◌, map, sym, ap, ◌∙◌, arith}
use Rattle.std.specs.List.{range_with_len}
use Rattle.case_maker.specs.Made.{made_point}
use Rattle.case_maker.proofs.Draws.{state_none, state_of_next, points_more, weight-made}
use Rattle.case_maker.proofs.points.make_points.Goals as goal

pub loop-init : goal.loop-init
loop-init c = (sym (state_none c.args.seed), c.new-points.ensures.items, c.requires.seed)

pub point-requires : goal.point-requires
point-requires c = c.loop.invariant.2

pub loop-preserved : goal.loop-preserved
loop-preserved c = (
  state_of_next c.args.seed c.loop.counter c.loop.generator.state _ c.loop.invariant.0 c.point.ensures.state,
  points_more c.args.seed c.loop.counter c.loop.generator.state c.loop.points.items _ c.point.result c.loop.invariant.0 c.loop.invariant.1 c.point.ensures.value c.in_ok-push.ensures.items,
  c.point.ensures.small,
)

pub returns-clause-points : goal.returns-clause-points
returns-clause-points c =
    let whole : c.loop.counter ≡ c.args.count = omega arith in
    c.loop.invariant.1 ∙ ap (λ n. map (made_point c.args.seed) (range_with_len 0 n)) whole

pub returns-clause-weight : goal.returns-clause-weight
returns-clause-weight c =
    let whole : c.loop.counter ≡ c.args.count = omega arith in
    weight-made c.args.seed c.loop.counter c.loop.points.items c.loop.invariant.1 (omega arith)
