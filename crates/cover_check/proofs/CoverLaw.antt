-- The instance of a cover permits each limit of wanted points in the tile.
use Rattle.std.proofs.Common.{◌≡◌, ℕ, ⊎_elim, true, false, List, [], ◌∷◌, get_or, map, Option, Some, None, ℤ, pos, ◌+ℤ◌, ◌*ℤ◌, neg_ℤ, ◌≤ℤ◌, ◌<ℤ◌, sym, ◌∙◌, ap, subst, arith}
use Rattle.std.specs.Prelude.{int_le, int_lt}
use Rattle.std.specs.List.{list_all, list_any, All}
use Rattle.std.proofs.lemmas.Int.{ints}
use Rattle.std.proofs.lemmas.Bool.{true≢false, or_cases, and_parts, and_from, not_from_false}
use Rattle.std.proofs.lemmas.List.Sums.{AllPass-from_list_all}
use Rattle.std.proofs.lemmas.List.Folds.{Any-from_list_any, list_any_at, list_any_none}
use Rattle.std.proofs.lemmas.List.Elements.{All-get_or, All-tail}
use borrow.Author.Differences.{same_in}
use Rattle.siting_definitions.specs.Point.{Place, Point}
use Rattle.siting_definitions.specs.Polygon.{covers, covers_inside}
use Rattle.siting_definitions.specs.Instance.{IsInstance, IsPolygon}
use Rattle.siting_definitions.specs.Permitted.{permits}
use Rattle.siting_definitions.proofs.Integers.{int_le-true, int_lt-true, neg_mul_ℤ, add_mul_ℤ}
use Rattle.edge_chain.specs.Chain.{edges_of}
use Rattle.edge_chain.specs.Limit.{IsLimit}
use Rattle.edge_chain.specs.Wanted.{IsWanted, IsUnwanted}
use Rattle.edge_chain.specs.Triangle.{Triangle, corners, is_counter_clockwise}
use Rattle.edge_chain.specs.Piece.{at}
use Rattle.edge_chain.specs.Line.{HalfPlane, value, Holds}
use Rattle.edge_chain.proofs.CoverLemmas.{holds, covered_by}
use Rattle.edge_chain.proofs.LimitLemmas.{limit_held}
use Rattle.edge_chain.proofs.HalfPlaneLemmas.{held_with_corners}
use Rattle.edge_chain.proofs.CornerLemmas.{covers_with_corners}
use Rattle.edge_chain.proofs.ClearLemmas.{none_inside, rings_closed}
use Rattle.cover_check.specs.Cover.{Cover, Owned, IsCover, IsHeldBy, fine, fine_point, sides, lies_in, polygon}
use Rattle.cover_check.proofs.FineLemmas.{covers-fine, inside-fine, piece-fine}

-- ---- a triangle beyond a side of the tile holds none of its points
-- the other side of a half plane, without its line
other_side : HalfPlane → HalfPlane
other_side h = record { u = neg_ℤ h.u; v = neg_ℤ h.v; w = neg_ℤ h.w +ℤ neg_ℤ (pos 1) }

times_one : (q : ℤ) → pos 1 *ℤ q ≡ q
times_one q = same_in _ _ (omega (arith, ints))

last_term : (w q : ℤ) → (neg_ℤ w +ℤ neg_ℤ (pos 1)) *ℤ q ≡ neg_ℤ (w *ℤ q) +ℤ neg_ℤ q
last_term w q =
    add_mul_ℤ (neg_ℤ w) (neg_ℤ (pos 1)) q
    ∙ ap (λ z. z +ℤ neg_ℤ (pos 1) *ℤ q) (neg_mul_ℤ w q)
    ∙ ap (λ z. neg_ℤ (w *ℤ q) +ℤ z) (neg_mul_ℤ (pos 1) q ∙ ap neg_ℤ (times_one q))

other_value : (u v w x y q : ℤ) → neg_ℤ u *ℤ x +ℤ neg_ℤ v *ℤ y +ℤ (neg_ℤ w +ℤ neg_ℤ (pos 1)) *ℤ q ≡ neg_ℤ (u *ℤ x +ℤ v *ℤ y +ℤ w *ℤ q) +ℤ neg_ℤ q
other_value u v w x y q = same_in _ _ (omega (arith, ints, neg_mul_ℤ u x, neg_mul_ℤ v y, last_term w q))

other_is : (h : HalfPlane) (p : Point) → value (other_side h) p ≡ neg_ℤ (value h p) +ℤ neg_ℤ (pos p.q)
unfolding other_side
other_is h p = other_value h.u h.v h.w p.x p.y (pos p.q)

beyond_at : (h : HalfPlane) (v : Place) → value h (at v) <ℤ pos 0 → Holds (other_side h) (at v)
beyond_at h v less = omega (arith, ints, less, other_is h (at v))

not_beyond : (h : HalfPlane) (t : Triangle) (p : Point) → list_all (λ v. int_lt (value h (at v)) (pos 0)) (corners t) ≡ true → holds p t ≡ true → pos 0 ≤ℤ value h p → ⊥
not_beyond h t p all held within =
    let first = and_parts _ _ all in
    let second = and_parts _ _ first.1 in
    let third = and_parts _ _ second.1 in
    let out = held_with_corners (other_side h) t p (beyond_at h t.a (int_lt-true (value h (at t.a)) (pos 0) first.0)) (beyond_at h t.b (int_lt-true (value h (at t.b)) (pos 0) second.0)) (beyond_at h t.c (int_lt-true (value h (at t.c)) (pos 0) third.0)) held in
    let q = p.q_pos in
    absurd (omega (arith, ints, out, other_is h p, within, q))

none_beyond : (hs : List HalfPlane) (t : Triangle) (p : Point) → list_any (λ (h : HalfPlane). list_all (λ v. int_lt (value h (at v)) (pos 0)) (corners t)) hs ≡ true → holds p t ≡ true → list_all (λ (h : HalfPlane). int_le (pos 0) (value h p)) hs ≡ true → ⊥
none_beyond hs t p beyond held within =
    let found = Any-from_list_any (λ (h : HalfPlane). list_all (λ v. int_lt (value h (at v)) (pos 0)) (corners t)) hs beyond in
    let h = found.1 in
    let here = All-get_or (λ (h : HalfPlane). int_le (pos 0) (value h p) ≡ true) hs found.0 h found.2 (AllPass-from_list_all (λ (h : HalfPlane). int_le (pos 0) (value h p)) hs within) in
    not_beyond h t p found.4 held (int_le-true (pos 0) (value h p) (subst (λ (g : HalfPlane). int_le (pos 0) (value g p) ≡ true) found.3 here))

-- ---- a triangle that holds a point of the tile lies in its owner
owned : (c : Cover) (o : Owned) (p : Point) → IsCover c → holds (fine_point c.shift p) o.triangle ≡ true → lies_in c.tile (fine_point c.shift p) ≡ true → (owner : Option ℕ) → IsHeldBy c o.triangle owner → list_any (λ vs. covers vs p) c.instance.permitted ≡ true
owned c o p cover held within None beyond = absurd (none_beyond (sides c.tile) o.triangle (fine_point c.shift p) beyond held within)
owned c o p cover held within (Some n) owner =
    let first = and_parts _ _ owner.1 in
    let second = and_parts _ _ first.1 in
    let third = and_parts _ _ second.1 in
    let covered = covers_with_corners (polygon c n) o.triangle (fine_point c.shift p) first.0 second.0 third.0 held in
    list_any_at (λ vs. covers vs p) c.instance.permitted n [] owner.0 (sym (covers-fine c.shift (get_or c.instance.permitted n []) p) ∙ covered)

-- the triangle that holds the point, with its owner
some_owned : (c : Cover) (p : Point) → IsCover c → lies_in c.tile (fine_point c.shift p) ≡ true → (os : List Owned) → All (λ (o : Owned). is_counter_clockwise o.triangle ≡ true → IsHeldBy c o.triangle o.owner) os → list_any (holds (fine_point c.shift p)) (map (λ (o : Owned). o.triangle) os) ≡ true → list_any (λ vs. covers vs p) c.instance.permitted ≡ true
some_owned c p cover within [] all none = absurd (true≢false (sym none))
some_owned c p cover within (o ∷ os) all some =
    ⊎_elim
    (λ here. owned c o p cover here within o.owner (all 0 o (omega arith) ((and_parts _ _ here).0)))
    (λ later. some_owned c p cover within os (All-tail (λ (o : Owned). is_counter_clockwise o.triangle ≡ true → IsHeldBy c o.triangle o.owner) o os all) later)
    (or_cases (holds (fine_point c.shift p) o.triangle) (list_any (holds (fine_point c.shift p)) (map (λ (o : Owned). o.triangle) os)) some)

-- ---- the law
wound : (c : Cover) (r : Point) → IsCover c → IsWanted (edges_of c.region) (edges_of c.forbidden) r → list_any (holds r) (map (λ (o : Owned). o.triangle) c.triangles) ≡ true
wound c r cover wanted = covered_by c.region (map (λ (o : Owned). o.triangle) c.triangles) r cover.edges wanted.inside

out_of : (c : Cover) (p : Point) → IsCover c → IsLimit (IsWanted (edges_of c.region) (edges_of c.forbidden)) (fine_point c.shift p) → (vs : List Place) → IsPolygon vs → IsUnwanted (edges_of c.region) (edges_of c.forbidden) (map (fine c.shift) vs) → covers_inside vs p ≡ false
out_of c p cover limit vs lawful unwanted =
    sym (inside-fine c.shift vs p)
    ∙ none_inside (edges_of c.region) (edges_of c.forbidden) (map (fine c.shift) vs) (fine_point c.shift p) (piece-fine c.shift vs lawful) (rings_closed c.region) (rings_closed c.forbidden) unwanted limit

pub cover_permits : (c : Cover) (p : Point) → IsInstance c.instance → IsCover c → lies_in c.tile (fine_point c.shift p) ≡ true → IsLimit (IsWanted (edges_of c.region) (edges_of c.forbidden)) (fine_point c.shift p) → permits c.instance p ≡ true
unfolding permits
cover_permits c p lawful cover within limit =
    let held = limit_held (map (λ (o : Owned). o.triangle) c.triangles) (IsWanted (edges_of c.region) (edges_of c.forbidden)) (fine_point c.shift p) (λ r at_r. wound c r cover at_r) limit in
    let permitted = some_owned c p cover within c.triangles cover.triangles held in
    let out = list_any_none (λ vs. covers_inside vs p) c.instance.forbidden (λ k d h. out_of c p cover limit (get_or c.instance.forbidden k d) (lawful.forbidden k d h) (cover.pieces k d h)) in
    and_from _ _ permitted (not_from_false _ out)
