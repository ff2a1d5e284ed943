use Rattle.std.proofs.Common.{◌∙◌, ◌<◌, ap, sym, to_z, of_z, rules, arith}
use mir.Syntax.{w64, w128}
use Rattle.std.specs.Int.{int_max}
use Rattle.std.proofs.lemmas.Int.{to_z-of_z, clamps}
use borrow.Author.Differences.{ints, same_in}
use Rattle.siting_definitions.specs.Square.{Square}
use Rattle.centre_bound.proofs.CutLemmas.{bound_by_cut, bound_of_max, bound_at_floor}
use Rattle.centre_bound.proofs.bound.bound_from_fine.Goals as goal

pub returns-then-square-eq0-clause-value : goal.returns-then-square-eq0-clause-value
returns-then-square-eq0-clause-value c =
    let e = bound_at_floor c.args.instance.now c.args.square c.args.fine (omega (arith, ap (λ (s : Square). s.level) c.square.view_is)) c.requires in
    same_in _ _ (omega (arith, ints, e))

pub returns-in-Sum-clause-value : goal.returns-in-Sum-clause-value
returns-in-Sum-clause-value c =
    let above : 0 < c.args.square.level = omega (arith, ap (λ (s : Square). s.level) c.square.view_is) in
    let greater = c.greater_of.ensures ∙ ap (λ f. int_max f (to_z w128 (of_z w128 c.cut.result))) (to_z-of_z w64 c.args.fine c.ranges.fine) ∙ ap (int_max c.args.fine) (to_z-of_z w128 c.cut.result (search rules)) in
    let e = bound_by_cut c.args.instance.now c.args.square c.args.fine c.cut.result c.greater_of.result (sym c.in-Sum.is ∙ c.kind.ensures) above c.requires c.cut.ensures.value greater in
    same_in _ _ (omega (arith, ints, e))

pub returns-in-Sum-clause-least : goal.returns-in-Sum-clause-least
returns-in-Sum-clause-least c =
    let greater = c.greater_of.ensures ∙ ap (λ f. int_max f (to_z w128 (of_z w128 c.cut.result))) (to_z-of_z w64 c.args.fine c.ranges.fine) ∙ ap (int_max c.args.fine) (to_z-of_z w128 c.cut.result (search rules)) in
    omega (arith, ints, clamps, greater)

pub returns-in-Sum-clause-most : goal.returns-in-Sum-clause-most
returns-in-Sum-clause-most c =
    let greater = c.greater_of.ensures ∙ ap (λ f. int_max f (to_z w128 (of_z w128 c.cut.result))) (to_z-of_z w64 c.args.fine c.ranges.fine) ∙ ap (int_max c.args.fine) (to_z-of_z w128 c.cut.result (search rules)) in
    let most = c.cut.ensures.most in
    omega (arith, ints, clamps, greater, most)

pub returns-in-Max-clause-value : goal.returns-in-Max-clause-value
returns-in-Max-clause-value c =
    let e = bound_of_max c.args.instance.now c.args.square c.args.fine (sym c.in-Max.is ∙ c.kind.ensures) c.requires in
    same_in _ _ (omega (arith, ints, e))
