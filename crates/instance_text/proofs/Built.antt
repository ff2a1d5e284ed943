-- What building a polygon answers is what its vertices say.
use Rattle.std.proofs.Common.{◌≡◌, ℕ, ◌≤◌, false, List, length, Ok, Err, refl, ap, ◌∙◌, arith}
use Rattle.std.proofs.lemmas.Bool.{le-ltb, false_from_ne_true}
use Rattle.siting_definitions.specs.Point.{Place}
use Rattle.siting_definitions.specs.Polygon.{turned, IsConvex}
use Rattle.siting_definitions.specs.Instance.{IsPolygon}
use Rattle.convex_region.specs.Dent.{IsDent, IsFirstDent}
use Rattle.instance_text.specs.declared.faults.TheConstants.{NOT_CONVEX}
use Rattle.convex_region.specs.Convex.{is_convex}
use Rattle.instance_text.specs.Rows.{polygon_of}
use Rattle.convex_region.proofs.Convexity.{is_convex-iff}
use Rattle.convex_region.proofs.Edges.{length-turned}
use borrow.Author.Differences.{ints}

-- what was built is what the row says
pub polygon_of-built : (corners polygon : List Place) → polygon ≡ turned corners → IsPolygon polygon → polygon_of corners ≡ Ok polygon
polygon_of-built corners polygon same is =
    let as_long : length polygon ≡ length corners = ap length same ∙ length-turned corners in
    let few = is.few in
    let many = is.many in
    let convex = (is_convex-iff polygon).1 is.convex in
    rw (le-ltb (length corners) 3 (omega arith), le-ltb 64 (length corners) (omega arith), ← same, convex) refl

dent_not_convex : (vs : List Place) (i j : ℕ) → IsDent vs i j → IsConvex vs → ⊥
dent_not_convex vs i j dent convex =
    let left = convex i j dent.edge dent.within dent.not_start dent.not_end in
    let beside = dent.beside in
    absurd (omega (arith, ints))

-- and where there is a dent, the row says that it isn't convex
pub polygon_of-dent : (corners : List Place) (edge vertex : ℕ) → 3 ≤ length corners → length corners ≤ 64 → IsFirstDent (turned corners) edge vertex → polygon_of corners ≡ Err NOT_CONVEX
polygon_of-dent corners edge vertex few many first =
    let dented : is_convex (turned corners) ≡ false = false_from_ne_true _ (λ h. dent_not_convex (turned corners) edge vertex first.dent ((is_convex-iff (turned corners)).0 h)) in
    rw (le-ltb (length corners) 3 few, le-ltb 64 (length corners) many, dented) refl
