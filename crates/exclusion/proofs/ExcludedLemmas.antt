-- No permitted point lies in an excluded closed square, and what lies within an excluded square is excluded.
use Rattle.std.proofs.Common.{◌≡◌, ℕ, ◌+◌, ◌^◌, ◌<◌, ◌≤◌, ℤ, pos, ◌+ℤ◌, ◌*ℤ◌, ◌≤ℤ◌, ◌<ℤ◌, Bool, true, false, ◌&&◌, ◌||◌, List, [], ◌∷◌, length, take, take_all, subst, map, refl, sym, ap, ◌∙◌, ⊎_elim, arith}
use Rattle.std.proofs.lemmas.List.Folds.{list_any_at, list_any_more}
use Rattle.std.proofs.lemmas.Bool.{and_parts, and_from, or_cases, or_from, or_left, or_right, not-true, true≢false}
use Rattle.std.specs.Prelude.{All, int_lt, int_le}
use Rattle.std.specs.List.{list_all, list_any}
use Rattle.std.proofs.lemmas.List.Elements.{All-tail}
use borrow.Author.Differences.{ints}
use Rattle.siting_definitions.specs.Integer.{least, greatest}
use Rattle.siting_definitions.specs.Point.{Place, Pt, Point, point_of, side}
use Rattle.siting_definitions.specs.Polygon.{edges, vertex, next_of, origin, covers, covers_inside}
use Rattle.siting_definitions.specs.Instance.{Instance, IsInstance, IsPolygon}
use Rattle.siting_definitions.specs.Permitted.{permits}
use Rattle.siting_definitions.specs.Square.{Square, Extent, extent_of, holds_closed, spans_closed, corner_of, corners, quarter_of, is_right, is_upper}
use Rattle.siting_definitions.specs.Excluded.{box_of, boxes_apart, is_right_of, is_apart, encloses, is_excluded}
use Rattle.siting_definitions.proofs.Integers.{int_lt-true, int_le-true, lt-int_lt, le-int_le, mul_le_ℤ, mul_lt_ℤ, mul_comm_ℤ, mul_assoc_ℤ, le_trans_ℤ}
use Rattle.dyadic_square.specs.Within.{LiesWithin}
use Rattle.dyadic_square.proofs.Spans.{at_least_low, at_most_high}
use Rattle.dyadic_square.proofs.Within.{far_small, quarter-within}
use Rattle.convex_region.proofs.Edges.{edge_at, length-edges}
use Rattle.convex_region.specs.Box.{LiesInBox}
use Rattle.convex_region.proofs.BoxLemmas.{lies_in_box}
use Rattle.exclusion.proofs.CornerLemmas.{right_of_edge, left_of_edge, times_le}

-- ---- tests on lists
all_parts : {X : Type 0} (p : X → Bool) (x : X) (xs : List X) → list_all p (x ∷ xs) ≡ true → (p x ≡ true) × (list_all p xs ≡ true)
all_parts p x xs h = and_parts (p x) (list_all p xs) h

-- where each element passes the first test, and none that passes it passes the second, none passes the second
none_both : {X : Type 0} (P : X → Type 0) (p q : X → Bool) → ((x : X) → P x → p x ≡ true → q x ≡ true → ⊥) → (xs : List X) → All P xs → list_all p xs ≡ true → list_any q xs ≡ true → ⊥
none_both P p q apart [] lawful all any = true≢false (sym any)
none_both P p q apart (x ∷ xs) lawful all any =
    let parts = all_parts p x xs all in
    ⊎_elim (λ here. apart x (lawful 0 x (omega arith)) parts.0 here) (λ later. none_both P p q apart xs (All-tail P x xs lawful) parts.1 later)
    (or_cases (q x) (list_any q xs) any)

pub all_more : {X : Type 0} (p q : X → Bool) → ((x : X) → p x ≡ true → q x ≡ true) → (xs : List X) → list_all p xs ≡ true → list_all q xs ≡ true
all_more p q more [] all = refl
all_more p q more (x ∷ xs) all =
    let parts = all_parts p x xs all in and_from (q x) (list_all q xs) (more x parts.0) (all_more p q more xs parts.1)

pub any_more : {X : Type 0} (p q : X → Bool) → ((x : X) → p x ≡ true → q x ≡ true) → (xs : List X) → list_any p xs ≡ true → list_any q xs ≡ true
any_more p q more [] any = any
any_more p q more (x ∷ xs) any =
    ⊎_elim (λ here. or_left (q x) (list_any q xs) (more x here)) (λ later. or_right (q x) (list_any q xs) (any_more p q more xs later))
    (or_cases (p x) (list_any p xs) any)

-- ---- a polygon apart from a closed square holds none of its points
-- a square to the right of an edge has each of its points there
right_side : (a b : Place) (s : Square) (p : Point) → holds_closed s p ≡ true → is_right_of a b s ≡ true → side a b p <ℤ pos 0
right_side a b s p held right =
    let test : Pt → Bool = λ c. int_lt (side a b (point_of c)) (pos 0) in
    let first = all_parts test (corner_of s 0) (corner_of s 1 ∷ corner_of s 2 ∷ corner_of s 3 ∷ []) right in
    let second = all_parts test (corner_of s 1) (corner_of s 2 ∷ corner_of s 3 ∷ []) first.1 in
    let third = all_parts test (corner_of s 2) (corner_of s 3 ∷ []) second.1 in
    let fourth = all_parts test (corner_of s 3) [] third.1 in
    right_of_edge a b s p held (int_lt-true _ _ first.0) (int_lt-true _ _ second.0) (int_lt-true _ _ third.0) (int_lt-true _ _ fourth.0)

-- so that a polygon with that edge holds none of them
edge_apart : (s : Square) (p : Point) → holds_closed s p ≡ true → (es : List (Place × Place)) → list_any (λ (e : Place × Place). is_right_of e.0 e.1 s) es ≡ true → list_all (λ (e : Place × Place). int_le (pos 0) (side e.0 e.1 p)) es ≡ true → ⊥
edge_apart s p held es any all =
    none_both (λ _. Unit {0}) (λ (e : Place × Place). int_le (pos 0) (side e.0 e.1 p)) (λ (e : Place × Place). is_right_of e.0 e.1 s)
    (λ e _ beside right. let less = right_side e.0 e.1 s p held right in let more = int_le-true (pos 0) (side e.0 e.1 p) beside in absurd (omega (arith, ints, less, more))) es (λ k d h. tt) all any

-- on one axis: a coordinate v / q that lies in a box and in an interval, of which one ends before the other begins
axis_apart : (near far v : ℤ) (q : ℕ) → (pos 65536 *ℤ near) <ℤ far → v ≤ℤ (pos q *ℤ near) → (pos q *ℤ far) ≤ℤ (pos 65536 *ℤ v) → 1 ≤ q → ⊥
axis_apart near far v q less at_most at_least one =
    let e : ((pos 65536 *ℤ near) *ℤ pos q) <ℤ (far *ℤ pos q) = mul_lt_ℤ _ _ q one less in
    let f : (v *ℤ pos 65536) ≤ℤ ((pos q *ℤ near) *ℤ pos 65536) = mul_le_ℤ _ _ 65536 at_most in
    let g : (pos 65536 *ℤ near) *ℤ pos q ≡ (pos q *ℤ near) *ℤ pos 65536 =
    mul_comm_ℤ (pos 65536 *ℤ near) (pos q) ∙ sym (mul_assoc_ℤ (pos q) (pos 65536) near) ∙ ap (λ z. z *ℤ near) (mul_comm_ℤ (pos q) (pos 65536)) ∙ mul_assoc_ℤ (pos 65536) (pos q) near ∙ mul_comm_ℤ (pos 65536) (pos q *ℤ near) in
    let k : (pos q *ℤ far) ≤ℤ (pos 65536 *ℤ v) = at_least in
    let k' : (far *ℤ pos q) ≤ℤ (v *ℤ pos 65536) = rw (mul_comm_ℤ far (pos q), mul_comm_ℤ v (pos 65536)) k in
    omega (arith, ints, e, f, g, k')

-- and the other way round
axis_apart_back : (near far v : ℤ) (q : ℕ) → far <ℤ (pos 65536 *ℤ near) → (pos q *ℤ near) ≤ℤ v → (pos 65536 *ℤ v) ≤ℤ (pos q *ℤ far) → 1 ≤ q → ⊥
axis_apart_back near far v q less at_least at_most one =
    let e : (far *ℤ pos q) <ℤ ((pos 65536 *ℤ near) *ℤ pos q) = mul_lt_ℤ _ _ q one less in
    let f : ((pos q *ℤ near) *ℤ pos 65536) ≤ℤ (v *ℤ pos 65536) = mul_le_ℤ _ _ 65536 at_least in
    let g : (pos 65536 *ℤ near) *ℤ pos q ≡ (pos q *ℤ near) *ℤ pos 65536 =
    mul_comm_ℤ (pos 65536 *ℤ near) (pos q) ∙ sym (mul_assoc_ℤ (pos q) (pos 65536) near) ∙ ap (λ z. z *ℤ near) (mul_comm_ℤ (pos q) (pos 65536)) ∙ mul_assoc_ℤ (pos 65536) (pos q) near ∙ mul_comm_ℤ (pos 65536) (pos q *ℤ near) in
    let k' : (v *ℤ pos 65536) ≤ℤ (far *ℤ pos q) = rw (mul_comm_ℤ far (pos q), mul_comm_ℤ v (pos 65536)) at_most in
    omega (arith, ints, e, f, g, k')

-- boxes apart have no point in common
box_apart : (vs : List Place) (s : Square) (p : Point) → LiesInBox vs p → holds_closed s p ≡ true → boxes_apart (box_of vs) (extent_of s) ≡ true → ⊥
unfolding box_of holds_closed
box_apart vs s p box held apart =
    let both = and_parts (spans_closed s.x (2 ^ s.level) p.q p.x) (spans_closed s.y (2 ^ s.level) p.q p.y) held in
    ⊎_elim
    (λ three.
    ⊎_elim
    (λ two.
    ⊎_elim
    (λ right. axis_apart (greatest (map (λ (v : Place). v.x) vs)) s.x p.x p.q (int_lt-true _ _ right) box.right (at_least_low s.x (2 ^ s.level) p.q p.x both.0) p.q_pos)
    (λ left. axis_apart_back (least (map (λ (v : Place). v.x) vs)) (s.x +ℤ pos (2 ^ s.level)) p.x p.q (int_lt-true _ _ left) box.left (at_most_high s.x (2 ^ s.level) p.q p.x both.0) p.q_pos)
    (or_cases _ _ two))
    (λ upper. axis_apart (greatest (map (λ (v : Place). v.y) vs)) s.y p.y p.q (int_lt-true _ _ upper) box.upper (at_least_low s.y (2 ^ s.level) p.q p.y both.1) p.q_pos)
    (or_cases _ _ three))
    (λ lower. axis_apart_back (least (map (λ (v : Place). v.y) vs)) (s.y +ℤ pos (2 ^ s.level)) p.y p.q (int_lt-true _ _ lower) box.lower (at_most_high s.y (2 ^ s.level) p.q p.y both.1) p.q_pos)
    (or_cases _ _ apart)

apart_sound : (s : Square) (p : Point) → holds_closed s p ≡ true → (vs : List Place) → IsPolygon vs → is_apart vs s ≡ true → covers vs p ≡ true → ⊥
unfolding is_apart covers
apart_sound s p held vs polygon apart covered =
    ⊎_elim (λ box. box_apart vs s p (lies_in_box vs p polygon covered) held box) (λ edge. edge_apart s p held (edges vs) edge covered) (or_cases _ _ apart)

-- ---- a polygon that encloses a closed square has each of its points in its interior
left_side : (a b : Place) (s : Square) (p : Point) → holds_closed s p ≡ true → list_all (λ c. int_lt (pos 0) (side a b (point_of c))) (corners s) ≡ true → pos 0 <ℤ side a b p
left_side a b s p held left =
    let test : Pt → Bool = λ c. int_lt (pos 0) (side a b (point_of c)) in
    let first = all_parts test (corner_of s 0) (corner_of s 1 ∷ corner_of s 2 ∷ corner_of s 3 ∷ []) left in
    let second = all_parts test (corner_of s 1) (corner_of s 2 ∷ corner_of s 3 ∷ []) first.1 in
    let third = all_parts test (corner_of s 2) (corner_of s 3 ∷ []) second.1 in
    let fourth = all_parts test (corner_of s 3) [] third.1 in
    left_of_edge a b s p held (int_lt-true _ _ first.0) (int_lt-true _ _ second.0) (int_lt-true _ _ third.0) (int_lt-true _ _ fourth.0)

-- tests of each edge at each of four points, by edges
enclosed_edges : (s : Square) (p : Point) → holds_closed s p ≡ true → (es : List (Place × Place)) → list_all (λ c. list_all (λ (e : Place × Place). int_lt (pos 0) (side e.0 e.1 (point_of c))) es) (corners s) ≡ true → list_all (λ (e : Place × Place). int_lt (pos 0) (side e.0 e.1 p)) es ≡ true
enclosed_edges s p held [] all = refl
enclosed_edges s p held (e ∷ es) all =
    let here : Pt → Bool = λ c. int_lt (pos 0) (side e.0 e.1 (point_of c)) in
    let rest : Pt → Bool = λ c. list_all (λ (e : Place × Place). int_lt (pos 0) (side e.0 e.1 (point_of c))) es in
    let heads : list_all here (corners s) ≡ true = all_more (λ c. here c && rest c) here (λ c h. (and_parts (here c) (rest c) h).0) (corners s) all in
    let tails : list_all rest (corners s) ≡ true = all_more (λ c. here c && rest c) rest (λ c h. (and_parts (here c) (rest c) h).1) (corners s) all in
    and_from _ _ (lt-int_lt (pos 0) (side e.0 e.1 p) (left_side e.0 e.1 s p held heads)) (enclosed_edges s p held es tails)

encloses_sound : (s : Square) (p : Point) → holds_closed s p ≡ true → (vs : List Place) → encloses vs s ≡ true → covers_inside vs p ≡ true
unfolding encloses covers_inside
encloses_sound s p held vs enclosed = enclosed_edges s p held (edges vs) enclosed

-- no permitted point lies in an excluded closed square
pub excluded_sound : (i : Instance) (s : Square) (p : Point) → IsInstance i → is_excluded i s ≡ true → holds_closed s p ≡ true → permits i p ≡ true → ⊥
unfolding is_excluded permits
excluded_sound i s p lawful excluded held permitted =
    let parts = and_parts _ _ permitted in
    ⊎_elim
    (λ apart. none_both IsPolygon (λ vs. is_apart vs s) (λ vs. covers vs p) (apart_sound s p held) i.permitted lawful.permitted apart parts.0)
    (λ enclosed.
    let inside = any_more (λ vs. encloses vs s) (λ vs. covers_inside vs p) (encloses_sound s p held) i.forbidden enclosed in
    true≢false (sym inside ∙ not-true _ parts.1))
    (or_cases _ _ excluded)

-- ---- squares within an excluded square
scaled : (a b : ℤ) → a ≤ℤ b → int_le (pos 65536 *ℤ a) (pos 65536 *ℤ b) ≡ true
scaled a b h = le-int_le _ _ (times_le (pos 65536) a b (omega (arith, ints)) h)

corner_held : (s t : Square) (x y : ℤ) → LiesWithin s t → t.x ≤ℤ x → x ≤ℤ (t.x +ℤ pos (2 ^ t.level)) → t.y ≤ℤ y → y ≤ℤ (t.y +ℤ pos (2 ^ t.level)) → holds_closed s (point_of (record { x = x; y = y })) ≡ true
unfolding holds_closed
corner_held s t x y h x0 x1 y0 y1 =
    and_from _ _ (and_from _ _ (scaled s.x x (le_trans_ℤ _ _ _ h.left x0)) (scaled x (s.x +ℤ pos (2 ^ s.level)) (le_trans_ℤ _ _ _ x1 h.right)))
    (and_from _ _ (scaled s.y y (le_trans_ℤ _ _ _ h.lower y0)) (scaled y (s.y +ℤ pos (2 ^ s.level)) (le_trans_ℤ _ _ _ y1 h.upper)))

-- the closed square holds the corners of a square within it
corner_of-held : (s t : Square) (k : ℕ) → LiesWithin s t → holds_closed s (point_of (corner_of t k)) ≡ true
corner_of-held s t k h =
    let x = far_small (is_right k) (2 ^ t.level) in
    let y = far_small (is_upper k) (2 ^ t.level) in
    corner_held s t _ _ h (omega (arith, ints)) (omega (arith, ints, x)) (omega (arith, ints)) (omega (arith, ints, y))

right_of-within : (a b : Place) (s t : Square) → LiesWithin s t → is_right_of a b s ≡ true → is_right_of a b t ≡ true
right_of-within a b s t h right =
    let at : (k : ℕ) → int_lt (side a b (point_of (corner_of t k))) (pos 0) ≡ true = λ k. lt-int_lt _ _ (right_side a b s (point_of (corner_of t k)) (corner_of-held s t k h) right) in
    and_from _ _ (at 0) (and_from _ _ (at 1) (and_from _ _ (at 2) (and_from _ _ (at 3) refl)))

lt_more : (a b c : ℤ) → b ≤ℤ c → int_lt a b ≡ true → int_lt a c ≡ true
lt_more a b c le h = lt-int_lt a c (let e = int_lt-true a b h in omega (arith, ints, e))

lt_less : (a b c : ℤ) → c ≤ℤ b → int_lt b a ≡ true → int_lt c a ≡ true
lt_less a b c le h = lt-int_lt c a (let e = int_lt-true b a h in omega (arith, ints, e))

or_map : (a b c d : Bool) → (a ≡ true → c ≡ true) → (b ≡ true → d ≡ true) → (a || b) ≡ true → (c || d) ≡ true
or_map a b c d f g h = ⊎_elim (λ first. or_left c d (f first)) (λ second. or_right c d (g second)) (or_cases a b h)

-- a box that is apart from a square is apart from each square within it
boxes_apart-within : (a : Extent) (s t : Square) → LiesWithin s t → boxes_apart a (extent_of s) ≡ true → boxes_apart a (extent_of t) ≡ true
boxes_apart-within a s t h apart =
    or_map _ _ _ _
    (or_map _ _ _ _ (or_map _ _ _ _ (lt_more a.x1 s.x t.x h.left) (lt_less a.x0 (s.x +ℤ pos (2 ^ s.level)) (t.x +ℤ pos (2 ^ t.level)) h.right)) (lt_more a.y1 s.y t.y h.lower))
    (lt_less a.y0 (s.y +ℤ pos (2 ^ s.level)) (t.y +ℤ pos (2 ^ t.level)) h.upper)
    apart

-- so is a polygon
apart-within : (s t : Square) → LiesWithin s t → (vs : List Place) → is_apart vs s ≡ true → is_apart vs t ≡ true
unfolding is_apart
apart-within s t h vs apart =
    ⊎_elim (λ box. or_left _ _ (boxes_apart-within (box_of vs) s t h box))
    (λ edge. or_right _ _ (any_more _ (λ (e : Place × Place). is_right_of e.0 e.1 t) (λ e. right_of-within e.0 e.1 s t h) (edges vs) edge))
    (or_cases _ _ apart)

encloses_from : (vs : List Place) (t : Square) → ((k : ℕ) → covers_inside vs (point_of (corner_of t k)) ≡ true) → encloses vs t ≡ true
unfolding encloses
encloses_from vs t at = and_from _ _ (at 0) (and_from _ _ (at 1) (and_from _ _ (at 2) (and_from _ _ (at 3) refl)))

encloses-within : (s t : Square) → LiesWithin s t → (vs : List Place) → encloses vs s ≡ true → encloses vs t ≡ true
encloses-within s t h vs enclosed = encloses_from vs t (λ k. encloses_sound s (point_of (corner_of t k)) (corner_of-held s t k h) vs enclosed)

-- what lies within an excluded square is excluded
pub excluded-within : (i : Instance) (s t : Square) → LiesWithin s t → is_excluded i s ≡ true → is_excluded i t ≡ true
unfolding is_excluded
excluded-within i s t h excluded =
    ⊎_elim (λ apart. or_left _ _ (all_more (λ vs. is_apart vs s) (λ vs. is_apart vs t) (apart-within s t h) i.permitted apart))
    (λ enclosed. or_right _ _ (any_more (λ vs. encloses vs s) (λ vs. encloses vs t) (encloses-within s t h) i.forbidden enclosed))
    (or_cases _ _ excluded)

-- the quarters of an excluded square are excluded
pub excluded-quarter : (i : Instance) (s : Square) (k : ℕ) → 0 < s.level → is_excluded i s ≡ true → is_excluded i (quarter_of s k) ≡ true
excluded-quarter i s k h excluded = excluded-within i s (quarter_of s k) (quarter-within s k h) excluded

-- ---- the test of every edge, in a loop over the places of the edges
-- an edge that passes the test
pub some_edge_at : (test : Place × Place → Bool) (vs : List Place) (i : ℕ) → i < length vs → test (vertex vs i, vertex vs (next_of (length vs) i)) ≡ true → list_any test (edges vs) ≡ true
some_edge_at test vs i h here = list_any_at test (edges vs) i (origin, origin) (omega (arith, length-edges vs)) (ap test (edge_at vs i h) ∙ here)

-- one edge more that fails it
pub some_edge_more : (test : Place × Place → Bool) (vs : List Place) (i : ℕ) → i < length vs → list_any test (take i (edges vs)) ≡ false → test (vertex vs i, vertex vs (next_of (length vs) i)) ≡ false → list_any test (take (i + 1) (edges vs)) ≡ false
some_edge_more test vs i h before here =
    list_any_more test (edges vs) i (origin, origin) (omega (arith, length-edges vs)) ∙ or_from _ _ before (ap test (edge_at vs i h) ∙ here)

-- and when all have failed it
pub some_edge_none : (test : Place × Place → Bool) (vs : List Place) (n : ℕ) → length vs ≤ n → list_any test (take n (edges vs)) ≡ false → list_any test (edges vs) ≡ false
some_edge_none test vs n h none = subst (λ (es : List (Place × Place)). list_any test es ≡ false) (take_all n (edges vs) (omega (arith, length-edges vs))) none
