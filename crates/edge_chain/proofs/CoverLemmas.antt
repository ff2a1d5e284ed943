-- A triangle that winds round a point holds it, and triangles whose edges cancel with those of reversed rings hold what the rings wind round.
use Rattle.std.proofs.Common.{◌≡◌, ◌+◌, ◌<◌, ◌⊎◌, ⊎_elim, inl, inr, Bool, true, false, not, ◌&&◌, List, [], ◌∷◌, ◌++◌, map, ℤ, pos, ◌+ℤ◌, ◌-ℤ◌, ◌*ℤ◌, neg_ℤ, ◌≤ℤ◌, ◌<ℤ◌, refl, sym, subst, arith}
use Rattle.std.specs.Prelude.{int_lt}
use Rattle.std.specs.List.{list_any}
use Rattle.std.proofs.lemmas.Int.{by_lt_z, ints}
use Rattle.std.proofs.lemmas.Bool.{true≢false, cases_Bool, and_from, or_left, or_right}
use Rattle.siting_definitions.specs.Point.{Place, Point, side}
use Rattle.siting_definitions.specs.Polygon.{covers, doubled_area, edges}
use Rattle.siting_definitions.proofs.Integers.{mul_above_ℤ, mul_comm_ℤ, int_lt-true, int_lt-false, le-int_le, lt-int_lt}
use Rattle.edge_chain.specs.Chain.{reversed, edges_of, is_low, winding, Cancel}
use Rattle.edge_chain.specs.Triangle.{Triangle, corners, is_counter_clockwise, triangle_edges}
use Rattle.edge_chain.proofs.Vectors.{turn, way_x, way_y, three_vectors, turn_above, turn_nonneg, turn_nonpos, side_nonneg, side_back, sides_sum, area, product_nonneg, product_nonpos, both_nonpos, low_way, high_way, factor_above, factor_nonneg}
use Rattle.edge_chain.proofs.WindingLemmas.{once, rising, falling, winding_is, winding-append, winding-reversed, winding-cancel}

-- whether a counter-clockwise triangle holds p
abbrev pub holds : Point → Triangle → Bool
holds p t = is_counter_clockwise t && covers (corners t) p

-- ---- the edge from a to b rises past p, and neither of the two others falls
pub record Rise (p : Point) (a b c : Place) : Type 0 where
  pub low : is_low a p ≡ true
  pub high : is_low b p ≡ false
  pub beside : int_lt (pos 0) (side a b p) ≡ true
  pub next : is_low c p ≡ true → int_lt (pos 0) (side c b p) ≡ false
  pub last : is_low c p ≡ false → int_lt (pos 0) (side a c p) ≡ false

pub record Beside (p : Point) (a b c : Place) : Type 0 where
  pub ab : pos 0 <ℤ side a b p
  pub bc : pos 0 ≤ℤ side b c p
  pub ca : pos 0 ≤ℤ side c a p

-- of three turns one follows from the two others, by the heights of the corners
low_third : (ha hb hc tab tca tcb : ℤ) → hb *ℤ tca -ℤ ha *ℤ tcb ≡ neg_ℤ (hc *ℤ tab) → ha ≤ℤ pos 0 → pos 0 <ℤ hb → hc ≤ℤ pos 0 → pos 0 <ℤ tab → tcb ≤ℤ pos 0 → pos 0 ≤ℤ tca
low_third ha hb hc tab tca tcb law a b c t below =
    let first = both_nonpos ha tcb a below in
    let second = product_nonpos hc tab c (omega (arith, ints)) in
    factor_nonneg hb tca (omega (arith, ints, law, first, second)) b

high_third : (ha hb hc tab tca tcb : ℤ) → hb *ℤ tca -ℤ ha *ℤ tcb ≡ neg_ℤ (hc *ℤ tab) → ha ≤ℤ pos 0 → pos 0 <ℤ hb → pos 0 <ℤ hc → pos 0 <ℤ tab → pos 0 ≤ℤ tca → tcb ≤ℤ pos 0
high_third ha hb hc tab tca tcb law a b c t above =
    by_lt_z (pos 0) tcb
    (λ more.
    let first = product_nonneg hb tca (omega (arith, ints)) above in
    let second = mul_above_ℤ hc tab c t in
    let third = product_nonpos ha tcb a (omega (arith, ints)) in
    absurd (omega (arith, ints, law, first, second, third)))
    (λ le. le)

-- a side that isn't below 0, from a turn of the reversed edge
back_nonneg : (a b : Place) (p : Point) → turn p b a ≤ℤ pos 0 → pos 0 ≤ℤ side a b p
back_nonneg a b p h =
    by_lt_z (side a b p) (pos 0)
    (λ below. let e = turn_above b a p (omega (arith, ints, side_back a b p)) in absurd (omega (arith, ints, e)))
    (λ le. le)

beside_from : (p : Point) (a b c : Place) → Rise p a b c → Beside p a b c
beside_from p a b c r =
    let above : pos 0 <ℤ side a b p = int_lt-true _ _ r.beside in
    let ha = low_way a p r.low in
    let hb = high_way b p r.high in
    let tab = turn_above a b p above in
    let law = three_vectors (way_x p a) (way_y p a) (way_x p b) (way_y p b) (way_x p c) (way_y p c) in
    ⊎_elim
    (λ is.
    let tcb = turn_nonpos c b p (int_lt-false _ _ (r.next is)) in
    let tca = low_third (way_y p a) (way_y p b) (way_y p c) (turn p a b) (turn p c a) (turn p c b) law ha hb (low_way c p is) tab tcb in
    record { ab = above; bc = back_nonneg b c p tcb; ca = side_nonneg c a p tca })
    (λ is.
    let ca = back_nonneg c a p (turn_nonpos a c p (int_lt-false _ _ (r.last is))) in
    let tcb = high_third (way_y p a) (way_y p b) (way_y p c) (turn p a b) (turn p c a) (turn p c b) law ha hb (high_way c p is) tab (turn_nonneg c a p ca) in
    record { ab = above; bc = back_nonneg b c p tcb; ca = ca })
    (cases_Bool (is_low c p))

-- ---- which edge rises
-- of two edges, one passes and the other doesn't, where more do
once_less : (x y : Bool) → once x < once y → (y ≡ true) × (x ≡ false)
once_less true true h = absurd (omega arith)
once_less true false h = absurd (omega arith)
once_less false true h = (refl, refl)
once_less false false h = absurd (omega arith)

-- a rise of the edge ab, by tests: of the corners' heights, and of p's sides
pub record RiseTests (la lb lc sab scb sac : Bool) : Type 0 where
  pub low : la ≡ true
  pub high : lb ≡ false
  pub beside : sab ≡ true
  pub next : lc ≡ true → scb ≡ false
  pub last : lc ≡ false → sac ≡ false

tests : (la lb lc sab sba sbc scb sca sac : Bool) → once (lb && not la && sba) + once (lc && not lb && scb) + once (la && not lc && sac) < once (la && not lb && sab) + once (lb && not lc && sbc) + once (lc && not la && sca) → RiseTests la lb lc sab scb sac ⊎ (RiseTests lb lc la sbc sac sba ⊎ RiseTests lc la lb sca sba scb)
tests true true true sab sba sbc scb sca sac h = absurd (omega arith)
tests true true false sab sba sbc scb sca sac h =
    let r = once_less sac sbc (omega arith) in
    inr (inl (record { low = refl; high = refl; beside = r.0; next = λ _. r.1; last = λ e. absurd (true≢false e) }))
tests true false true sab sba sbc scb sca sac h =
    let r = once_less scb sab (omega arith) in
    inl (record { low = refl; high = refl; beside = r.0; next = λ _. r.1; last = λ e. absurd (true≢false e) })
tests true false false sab sba sbc scb sca sac h =
    let r = once_less sac sab (omega arith) in
    inl (record { low = refl; high = refl; beside = r.0; next = λ e. absurd (true≢false (sym e)); last = λ _. r.1 })
tests false true true sab sba sbc scb sca sac h =
    let r = once_less sba sca (omega arith) in
    inr (inr (record { low = refl; high = refl; beside = r.0; next = λ _. r.1; last = λ e. absurd (true≢false e) }))
tests false true false sab sba sbc scb sca sac h =
    let r = once_less sba sbc (omega arith) in
    inr (inl (record { low = refl; high = refl; beside = r.0; next = λ e. absurd (true≢false (sym e)); last = λ _. r.1 }))
tests false false true sab sba sbc scb sca sac h =
    let r = once_less scb sca (omega arith) in
    inr (inr (record { low = refl; high = refl; beside = r.0; next = λ e. absurd (true≢false (sym e)); last = λ _. r.1 }))
tests false false false sab sba sbc scb sca sac h = absurd (omega arith)

rise_from : (p : Point) (a b c : Place) → RiseTests (is_low a p) (is_low b p) (is_low c p) (int_lt (pos 0) (side a b p)) (int_lt (pos 0) (side c b p)) (int_lt (pos 0) (side a c p)) → Rise p a b c
rise_from p a b c t = record { low = t.low; high = t.high; beside = t.beside; next = t.next; last = t.last }

-- a triangle that winds round p: all sides of p are at least 0, and one is above
pub record Round (t : Triangle) (p : Point) : Type 0 where
  pub ab : pos 0 ≤ℤ side t.a t.b p
  pub bc : pos 0 ≤ℤ side t.b t.c p
  pub ca : pos 0 ≤ℤ side t.c t.a p
  pub sum : pos 0 <ℤ (side t.a t.b p +ℤ side t.b t.c p +ℤ side t.c t.a p)

pub round_from : (t : Triangle) (p : Point) → pos 0 <ℤ winding (edges (corners t)) p → Round t p
round_from t p above =
    let more : falling (edges (corners t)) p < rising (edges (corners t)) p = omega (arith, ints, winding_is (edges (corners t)) p) in
    ⊎_elim
    (λ ab. let s = beside_from p t.a t.b t.c (rise_from p t.a t.b t.c ab) in let x = s.ab in let y = s.bc in let z = s.ca in record { ab = omega (arith, ints, x); bc = y; ca = z; sum = omega (arith, ints, x, y, z) })
    (λ other.
    ⊎_elim
    (λ bc. let s = beside_from p t.b t.c t.a (rise_from p t.b t.c t.a bc) in let x = s.ab in let y = s.bc in let z = s.ca in record { ab = z; bc = omega (arith, ints, x); ca = y; sum = omega (arith, ints, x, y, z) })
    (λ ca. let s = beside_from p t.c t.a t.b (rise_from p t.c t.a t.b ca) in let x = s.ab in let y = s.bc in let z = s.ca in record { ab = y; bc = z; ca = omega (arith, ints, x); sum = omega (arith, ints, x, y, z) })
    other)
    (tests (is_low t.a p) (is_low t.b p) (is_low t.c p) (int_lt (pos 0) (side t.a t.b p)) (int_lt (pos 0) (side t.b t.a p)) (int_lt (pos 0) (side t.b t.c p)) (int_lt (pos 0) (side t.c t.b p)) (int_lt (pos 0) (side t.c t.a p)) (int_lt (pos 0) (side t.a t.c p)) (omega arith))

-- ---- such a triangle is counter-clockwise and holds p
pub area_is : (t : Triangle) → doubled_area (corners t) ≡ area t.a t.b t.c
unfolding doubled_area
area_is t = omega (arith, ints)

covers_from : (t : Triangle) (p : Point) → Round t p → covers (corners t) p ≡ true
unfolding covers
covers_from t p r =
    and_from _ _ (le-int_le _ _ r.ab) (and_from _ _ (le-int_le _ _ r.bc) (and_from _ _ (le-int_le _ _ r.ca) refl))

pub holds_from : (t : Triangle) (p : Point) → Round t p → holds p t ≡ true
holds_from t p r =
    let scaled : pos 0 <ℤ (area t.a t.b t.c *ℤ pos p.q) = subst (λ z. pos 0 <ℤ z) (sides_sum t.a t.b t.c p) r.sum in
    let q = p.q_pos in
    let above : pos 0 <ℤ area t.a t.b t.c = factor_above (pos p.q) (area t.a t.b t.c) (subst (λ z. pos 0 <ℤ z) (mul_comm_ℤ (area t.a t.b t.c) (pos p.q)) scaled) (omega (arith, ints, q)) in
    and_from _ _ (lt-int_lt (pos 0) (doubled_area (corners t)) (omega (arith, ints, above, area_is t))) (covers_from t p r)

-- ---- triangles that together wind round p
pub some_holds : (ts : List Triangle) (p : Point) → pos 0 <ℤ winding (triangle_edges ts) p → list_any (holds p) ts ≡ true
some_holds [] p above = absurd (omega (arith, ints, winding_is [] p))
some_holds (t ∷ ts) p above =
    by_lt_z (pos 0) (winding (edges (corners t)) p)
    (λ here. or_left _ _ (holds_from t p (round_from t p here)))
    (λ not_here. or_right _ _ (some_holds ts p (omega (arith, ints, winding-append (edges (corners t)) (triangle_edges ts) p))))

-- the law
pub covered_by : (rings : List (List Place)) (ts : List Triangle) (p : Point) → Cancel (triangle_edges ts ++ map reversed (edges_of rings)) → pos 0 <ℤ winding (edges_of rings) p → list_any (holds p) ts ≡ true
covered_by rings ts p cancel above =
    some_holds ts p
    (omega (arith, ints, winding-cancel _ p cancel, winding-append (triangle_edges ts) (map reversed (edges_of rings)) p, winding-reversed (edges_of rings) p))
