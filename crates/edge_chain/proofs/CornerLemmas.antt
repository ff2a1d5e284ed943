-- A convex polygon that covers the corners of a triangle covers what the triangle holds.
use Rattle.std.proofs.Common.{◌≡◌, true, List, [], ◌∷◌, pos, refl}
use Rattle.std.specs.Prelude.{int_le}
use Rattle.std.specs.List.{list_all}
use Rattle.std.proofs.lemmas.Bool.{and_parts, and_from}
use Rattle.siting_definitions.specs.Point.{Place, Point, side}
use Rattle.siting_definitions.specs.Polygon.{edges, covers}
use Rattle.siting_definitions.proofs.Integers.{int_le-true, le-int_le}
use Rattle.edge_chain.specs.Chain.{Edge}
use Rattle.edge_chain.specs.Triangle.{Triangle}
use Rattle.edge_chain.specs.Piece.{at}
use Rattle.edge_chain.proofs.CoverLemmas.{holds}
use Rattle.edge_chain.proofs.HalfPlaneLemmas.{beside_with_corners}

edges_with_corners : (es : List Edge) (t : Triangle) (p : Point) → list_all (λ (e : Edge). int_le (pos 0) (side e.0 e.1 (at t.a))) es ≡ true → list_all (λ (e : Edge). int_le (pos 0) (side e.0 e.1 (at t.b))) es ≡ true → list_all (λ (e : Edge). int_le (pos 0) (side e.0 e.1 (at t.c))) es ≡ true → holds p t ≡ true → list_all (λ (e : Edge). int_le (pos 0) (side e.0 e.1 p)) es ≡ true
edges_with_corners [] t p a b c held = refl
edges_with_corners (e ∷ es) t p a b c held =
    let pa = and_parts _ _ a in
    let pb = and_parts _ _ b in
    let pc = and_parts _ _ c in
    let here = beside_with_corners e.0 e.1 t p (int_le-true (pos 0) (side e.0 e.1 (at t.a)) pa.0) (int_le-true (pos 0) (side e.0 e.1 (at t.b)) pb.0) (int_le-true (pos 0) (side e.0 e.1 (at t.c)) pc.0) held in
    and_from _ _ (le-int_le (pos 0) (side e.0 e.1 p) here) (edges_with_corners es t p pa.1 pb.1 pc.1 held)

pub covers_with_corners : (vs : List Place) (t : Triangle) (p : Point) → covers vs (at t.a) ≡ true → covers vs (at t.b) ≡ true → covers vs (at t.c) ≡ true → holds p t ≡ true → covers vs p ≡ true
unfolding covers
covers_with_corners vs t p a b c held = edges_with_corners (edges vs) t p a b c held
