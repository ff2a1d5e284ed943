use Rattle.std.proofs.Common.{◌≡◌, ℤ, w64, to_z, of_z, ◌∙◌, ap}
use Rattle.std.specs.Prelude.{int_lt}
use Rattle.std.specs.List.{list_all}
use Rattle.edge_chain.specs.Triangle.{corners}
use Rattle.cover_check.specs.Cover.{Tile}
use Rattle.cover_check.proofs.BeyondLemmas.{beyond_is, coded}
use Rattle.cover_check.proofs.held.is_beyond.Goals as goal

pub returns : goal.returns
returns c =
    let t = c.args.t in
    let x0 : to_z w64 (of_z w64 c.tile.inside.x0) ≡ c.args.tile.x0 = coded _ c.tile.invariant.x0 ∙ ap (λ (s : Tile). s.x0) c.tile.view_is in
    let x1 : to_z w64 (of_z w64 c.tile.inside.x1) ≡ c.args.tile.x1 = coded _ c.tile.invariant.x1 ∙ ap (λ (s : Tile). s.x1) c.tile.view_is in
    let y0 : to_z w64 (of_z w64 c.tile.inside.y0) ≡ c.args.tile.y0 = coded _ c.tile.invariant.y0 ∙ ap (λ (s : Tile). s.y0) c.tile.view_is in
    let y1 : to_z w64 (of_z w64 c.tile.inside.y1) ≡ c.args.tile.y1 = coded _ c.tile.invariant.y1 ∙ ap (λ (s : Tile). s.y1) c.tile.view_is in
    beyond_is c.args.tile t c.is_left.result c.is_right.result c.is_below.result c.is_above.result
    (c.is_left.ensures ∙ ap (λ (z : ℤ). list_all (λ v. int_lt v.x z) (corners t)) x0)
    (c.is_right.ensures ∙ ap (λ (z : ℤ). list_all (λ v. int_lt z v.x) (corners t)) x1)
    (c.is_below.ensures ∙ ap (λ (z : ℤ). list_all (λ v. int_lt v.y z) (corners t)) y0)
    (c.is_above.ensures ∙ ap (λ (z : ℤ). list_all (λ v. int_lt z v.y) (corners t)) y1)
