use Rattle.std.proofs.Common.{◌≡◌, ◌+◌, ◌*◌, ◌%◌, pos, w32, w64, to_z, refl, ap, ◌∙◌, arith}
use Rattle.std.proofs.lemmas.Int.{to_z_pos}
use Rattle.case_maker.specs.Made.{state, draw}
use Rattle.case_maker.proofs.Draws.{state_more, draw_after, point_is}
use Rattle.case_maker.proofs.points.Generator.point.Goals as goal

pub returns-clause-state : goal.returns-clause-state
returns-clause-state c =
    let second : c.draw-y.new.self.state ≡ state c.args.self.now.state 2 = state_more c.args.self.now.state _ _ 1 2 c.draw-x.ensures.state c.draw-y.ensures.state refl in
    state_more c.args.self.now.state _ _ 2 3 second c.draw.ensures.state refl

pub returns-clause-value : goal.returns-clause-value
returns-clause-value c =
    let s = c.args.self.now.state in
    let second : c.draw-y.new.self.state ≡ state s 2 = state_more s _ _ 1 2 c.draw-x.ensures.state c.draw-y.ensures.state refl in
    let b : c.draw-y.result ≡ draw s 2 = c.draw-y.ensures.value ∙ draw_after s _ 1 1 2 c.draw-x.ensures.state refl in
    let d : c.draw.result ≡ draw s 3 = c.draw.ensures.value ∙ draw_after s _ 2 1 3 second refl in
    let small_x = c.draw-x.ensures.size in
    let small_y = c.draw-y.ensures.size in
    let ex : to_z w32 (3 * c.draw-x.result) ≡ pos (3 * c.draw-x.result) = to_z_pos w32 _ (omega arith) in
    let ey : to_z w32 (3 * c.draw-y.result) ≡ pos (3 * c.draw-y.result) = to_z_pos w32 _ (omega arith) in
    let ew : to_z w64 (1 + c.draw.result % 1000) ≡ pos (1 + c.draw.result % 1000) = to_z_pos w64 _ (omega arith) in
    point_is c.of.result _ _ _ (draw s 1) (draw s 2) (draw s 3) c.of.ensures (ex ∙ ap (λ n. pos (3 * n)) c.draw-x.ensures.value) (ey ∙ ap (λ n. pos (3 * n)) b)
    (ew ∙ ap (λ n. pos (1 + n % 1000)) d)
