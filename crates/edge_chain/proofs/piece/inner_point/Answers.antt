use Rattle.std.proofs.Common.{◌≡◌, ◌^◌, ◌≤◌, ℤ, ◌+ℤ◌, unsigned_abs, w64, to_z, of_z, ◌∙◌, ap, arith}
use Rattle.std.proofs.lemmas.Int.{ints}
use Rattle.std.proofs.lemmas.List.{get_or_read}
use Rattle.siting_definitions.specs.Point.{Place, Point}
use Rattle.siting_definitions.specs.Polygon.{vertex, origin}
use Rattle.edge_chain.specs.Thirds.{Thirds, thirds}
use Rattle.edge_chain.proofs.piece.inner_point.Goals as goal

-- what the code makes of three coordinates
sum_of : (a b d a' b' d' : ℤ) → unsigned_abs a ≤ 2 ^ 40 → unsigned_abs b ≤ 2 ^ 40 → unsigned_abs d ≤ 2 ^ 40 → a ≡ a' → b ≡ b' → d ≡ d' → to_z w64 (of_z w64 (to_z w64 (of_z w64 (to_z w64 (of_z w64 a) +ℤ to_z w64 (of_z w64 b))) +ℤ to_z w64 (of_z w64 d))) ≡ a' +ℤ b' +ℤ d'
sum_of a b d a' b' d' small_a small_b small_d ea eb ed = omega (arith, ints, ea, eb, ed)

spot : ℤ → ℤ → Point
spot x y = let p : Thirds = record { x = x; y = y } in thirds p

spot_same : (x x' y y' : ℤ) → x ≡ x' → y ≡ y' → spot x y ≡ spot x' y'
spot_same x x' y y' ex ey = ap (λ z. spot z y) ex ∙ ap (λ z. spot x' z) ey

pub returns : goal.returns
unfolding spot
returns c =
    let vs = c.args.piece.now in
    let few = c.requires in
    let a : c.index-piece-0.result ≡ vertex vs 0 = get_or_read vs 0 _ (omega arith) c.index-piece-0.is origin in
    let b : c.index-piece-1.result ≡ vertex vs 1 = get_or_read vs 1 _ (omega arith) c.index-piece-1.is origin in
    let d : c.index-piece-2.result ≡ vertex vs 2 = get_or_read vs 2 _ (omega arith) c.index-piece-2.is origin in
    spot_same _ _ _ _
    (sum_of c.a.inside.x c.b.inside.x c.c.inside.x _ _ _ c.a.invariant.x c.b.invariant.x c.c.invariant.x (ap (λ (v : Place). v.x) (c.a.view_is ∙ a)) (ap (λ (v : Place). v.x) (c.b.view_is ∙ b)) (ap (λ (v : Place). v.x) (c.c.view_is ∙ d)))
    (sum_of c.a.inside.y c.b.inside.y c.c.inside.y _ _ _ c.a.invariant.y c.b.invariant.y c.c.invariant.y (ap (λ (v : Place). v.y) (c.a.view_is ∙ a)) (ap (λ (v : Place). v.y) (c.b.view_is ∙ b)) (ap (λ (v : Place). v.y) (c.c.view_is ∙ d)))
