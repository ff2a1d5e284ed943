-- Lists of places in which each three, in order, turn to the left.
use Rattle.std.proofs.Common.{◌≡◌, ◌≢◌, ℕ, ◌+◌, ◌-◌, ◌<◌, ◌≤◌, ℤ, pos, ◌+ℤ◌, ◌-ℤ◌, ◌*ℤ◌, ◌≤ℤ◌, ◌<ℤ◌, List, length, subst, sym, ◌∙◌, ⊎_elim, arith}
use Rattle.std.proofs.lemmas.Int.{by_lt_z}
use Rattle.std.proofs.lemmas.Bool.{cases_lt}
use Rattle.std.specs.Prelude.{unsigned_abs}
use borrow.Author.Differences.{up, down, ints, same_in}
use Rattle.siting_definitions.specs.Point.{Place, grid, point_of, side}
use Rattle.siting_definitions.specs.Polygon.{vertex, next_of, IsConvex}
use Rattle.siting_definitions.proofs.Integers.{diff, diffs, diff-eq, as_diff, mul_le_ℤ, mul_above_ℤ, mul_comm_ℤ}
use Rattle.convex_region.specs.Turns.{IsLeft, TurnsLeft}
use Rattle.convex_region.specs.Dent.{IsDent}
use Rattle.convex_region.proofs.Edges.{next_below, next_last, IsConvex-by_dents}

-- ---- vectors of the plane
-- above 0 where the second vector is less than half a turn to the left of the first
abbrev pub det : ℤ → ℤ → ℤ → ℤ → ℤ
det ux uy vx vy = ux *ℤ vy -ℤ uy *ℤ vx

four-diff : (ux ux' uy uy' ax ax' ay ay' bx bx' by by' cx cx' cy cy' : ℕ) → det (diff ux ux') (diff uy uy') (diff bx bx') (diff by by') *ℤ det (diff ax ax') (diff ay ay') (diff cx cx') (diff cy cy') ≡ det (diff ux ux') (diff uy uy') (diff ax ax') (diff ay ay') *ℤ det (diff bx bx') (diff by by') (diff cx cx') (diff cy cy') +ℤ det (diff ux ux') (diff uy uy') (diff cx cx') (diff cy cy') *ℤ det (diff ax ax') (diff ay ay') (diff bx bx') (diff by by')
four-diff ux ux' uy uy' ax ax' ay ay' bx bx' by by' cx cx' cy cy' = simp diffs (diff-eq _ _ _ _ (omega arith))

-- four vectors u, a, b and c
four_vectors : (ux uy ax ay bx by cx cy : ℤ) → det ux uy bx by *ℤ det ax ay cx cy ≡ det ux uy ax ay *ℤ det bx by cx cy +ℤ det ux uy cx cy *ℤ det ax ay bx by
four_vectors ux uy ax ay bx by cx cy =
    rw (as_diff ux, as_diff uy, as_diff ax, as_diff ay, as_diff bx, as_diff by, as_diff cx, as_diff cy)
    (four-diff (up ux) (down ux) (up uy) (down uy) (up ax) (down ax) (up ay) (down ay) (up bx) (down bx) (up by) (down by) (up cx) (down cx) (up cy) (down cy))

-- ---- signs of products
size_of_above : (z : ℤ) → pos 0 <ℤ z → z ≡ pos (unsigned_abs z)
size_of_above z h = same_in _ _ (omega (arith, ints))

product_not_above : (x z : ℤ) → pos 0 <ℤ x → z ≤ℤ pos 0 → (x *ℤ z) ≤ℤ pos 0
product_not_above x z hx hz =
    let is : x ≡ pos (unsigned_abs x) = size_of_above x hx in
    let less : (z *ℤ pos (unsigned_abs x)) ≤ℤ (pos 0 *ℤ pos (unsigned_abs x)) = mul_le_ℤ z (pos 0) (unsigned_abs x) hz in
    rw (is, mul_comm_ℤ (pos (unsigned_abs x)) z) (omega (arith, ints, less))

-- a factor of a sum of two products
factor_above : (x z p q r s : ℤ) → x *ℤ z ≡ p *ℤ q +ℤ r *ℤ s → pos 0 <ℤ x → pos 0 <ℤ p → pos 0 <ℤ q → pos 0 <ℤ r → pos 0 <ℤ s → pos 0 <ℤ z
factor_above x z p q r s is hx hp hq hr hs =
    by_lt_z (pos 0) z
    (λ above. above)
    (λ not. absurd (omega (arith, ints, is, product_not_above x z hx not, mul_above_ℤ p q hp hq, mul_above_ℤ r s hr hs)))

-- ---- three places
-- twice the signed area of the triangle a b c, in square lengths
abbrev pub area : Place → Place → Place → ℤ
area a b c = det (b.x -ℤ a.x) (b.y -ℤ a.y) (c.x -ℤ a.x) (c.y -ℤ a.y)

side-diff : (ax ax' ay ay' bx bx' by by' cx cx' cy cy' w w' : ℕ) → (diff bx bx' -ℤ diff ax ax') *ℤ (diff w w' *ℤ diff cy cy' -ℤ diff w w' *ℤ diff ay ay') -ℤ (diff by by' -ℤ diff ay ay') *ℤ (diff w w' *ℤ diff cx cx' -ℤ diff w w' *ℤ diff ax ax') ≡ det (diff bx bx' -ℤ diff ax ax') (diff by by' -ℤ diff ay ay') (diff cx cx' -ℤ diff ax ax') (diff cy cy' -ℤ diff ay ay') *ℤ diff w w'
side-diff ax ax' ay ay' bx bx' by by' cx cx' cy cy' w w' = simp diffs (diff-eq _ _ _ _ (omega arith))

side_by : (ax ay bx by cx cy w : ℤ) → (bx -ℤ ax) *ℤ (w *ℤ cy -ℤ w *ℤ ay) -ℤ (by -ℤ ay) *ℤ (w *ℤ cx -ℤ w *ℤ ax) ≡ det (bx -ℤ ax) (by -ℤ ay) (cx -ℤ ax) (cy -ℤ ay) *ℤ w
side_by ax ay bx by cx cy w =
    rw (as_diff ax, as_diff ay, as_diff bx, as_diff by, as_diff cx, as_diff cy, as_diff w)
    (side-diff (up ax) (down ax) (up ay) (down ay) (up bx) (down bx) (up by) (down by) (up cx) (down cx) (up cy) (down cy) (up w) (down w))

side_is : (a b c : Place) → side a b (point_of (grid c)) ≡ area a b c *ℤ pos 65536
unfolding side
side_is a b c = side_by a.x a.y b.x b.y c.x c.y (pos 65536)

pub area-left : (a b c : Place) → IsLeft a b c → pos 0 <ℤ area a b c
area-left a b c left = omega (arith, ints, side_is a b c, left)

pub left-area : (a b c : Place) → pos 0 <ℤ area a b c → IsLeft a b c
left-area a b c above = omega (arith, ints, side_is a b c, above)

turn-diff : (ax ax' ay ay' bx bx' by by' cx cx' cy cy' : ℕ) → det (diff bx bx' -ℤ diff ax ax') (diff by by' -ℤ diff ay ay') (diff cx cx' -ℤ diff ax ax') (diff cy cy' -ℤ diff ay ay') ≡ det (diff cx cx' -ℤ diff bx bx') (diff cy cy' -ℤ diff by by') (diff ax ax' -ℤ diff bx bx') (diff ay ay' -ℤ diff by by')
turn-diff ax ax' ay ay' bx bx' by by' cx cx' cy cy' = simp diffs (diff-eq _ _ _ _ (omega arith))

turn_by : (ax ay bx by cx cy : ℤ) → det (bx -ℤ ax) (by -ℤ ay) (cx -ℤ ax) (cy -ℤ ay) ≡ det (cx -ℤ bx) (cy -ℤ by) (ax -ℤ bx) (ay -ℤ by)
turn_by ax ay bx by cx cy =
    rw (as_diff ax, as_diff ay, as_diff bx, as_diff by, as_diff cx, as_diff cy)
    (turn-diff (up ax) (down ax) (up ay) (down ay) (up bx) (down bx) (up by) (down by) (up cx) (down cx) (up cy) (down cy))

-- the same turn, from the next place on
pub next_turn : (a b c : Place) → IsLeft a b c → IsLeft b c a
next_turn a b c left =
    left-area b c a (subst (λ z. pos 0 <ℤ z) (turn_by a.x a.y b.x b.y c.x c.y) (area-left a b c left))

pub last_turn : (a b c : Place) → IsLeft a b c → IsLeft c a b
last_turn a b c left = next_turn b c a (next_turn a b c left)

-- ---- four places seen from another, t: they lie in the order u, a, b, c, and each turn but the one in question is known
four_places : (t u a b c : Place) → area t u b *ℤ area t a c ≡ area t u a *ℤ area t b c +ℤ area t u c *ℤ area t a b
four_places t u a b c = four_vectors (u.x -ℤ t.x) (u.y -ℤ t.y) (a.x -ℤ t.x) (a.y -ℤ t.y) (b.x -ℤ t.x) (b.y -ℤ t.y) (c.x -ℤ t.x) (c.y -ℤ t.y)

-- from the second to the fourth
pub second_fourth : (t u a b c : Place) → IsLeft t u a → IsLeft t u b → IsLeft t u c → IsLeft t a b → IsLeft t b c → IsLeft t a c
second_fourth t u a b c ua ub uc ab bc =
    left-area t a c
    (factor_above (area t u b) (area t a c) (area t u a) (area t b c) (area t u c) (area t a b) (four_places t u a b c)
    (area-left t u b ub) (area-left t u a ua) (area-left t b c bc) (area-left t u c uc) (area-left t a b ab))

-- from the first to the third
pub first_third : (t u a b c : Place) → IsLeft t u a → IsLeft t u c → IsLeft t a b → IsLeft t a c → IsLeft t b c → IsLeft t u b
first_third t u a b c ua uc ab ac bc =
    left-area t u b
    (factor_above (area t a c) (area t u b) (area t u a) (area t b c) (area t u c) (area t a b)
    (mul_comm_ℤ (area t a c) (area t u b) ∙ four_places t u a b c)
    (area-left t a c ac) (area-left t u a ua) (area-left t b c bc) (area-left t u c uc) (area-left t a b ab))

-- ---- one corner more: d comes after m, m after k, and each three vertices before d turn to the left
abbrev pub TurnsAt : List Place → ℕ → ℕ → ℕ → Type 0
TurnsAt vs i j k = IsLeft (vertex vs i) (vertex vs j) (vertex vs k)

-- each three of the first n vertices, in order, turn to the left
abbrev pub AllLeft : List Place → ℕ → Type 0
AllLeft vs n = (i j k : ℕ) → i < j → j < k → k < n → TurnsAt vs i j k

-- vertex 0, any later one and the new one turn left
from_first : (vs : List Place) (m d j : ℕ) → m + 1 ≡ d → AllLeft vs d → TurnsAt vs m d 0 → TurnsAt vs d 0 1 → 1 ≤ j → j ≤ m → TurnsAt vs 0 j d
from_first vs m d j next all last first some within =
    let start : TurnsAt vs 0 1 d = next_turn (vertex vs d) (vertex vs 0) (vertex vs 1) first in
    let end : TurnsAt vs 0 m d = last_turn (vertex vs m) (vertex vs d) (vertex vs 0) last in
    ⊎_elim
    (λ (more : 1 < j).
    ⊎_elim
    (λ (less : j < m).
    second_fourth (vertex vs 0) (vertex vs 1) (vertex vs j) (vertex vs m) (vertex vs d)
    (all 0 1 j (omega arith) more (omega arith)) (all 0 1 m (omega arith) (omega arith) (omega arith)) start
    (all 0 j m (omega arith) less (omega arith)) end)
    (λ (not_less : m ≤ j). subst (λ n. TurnsAt vs 0 n d) (omega arith) end)
    (cases_lt j m))
    (λ (one : j ≤ 1). subst (λ n. TurnsAt vs 0 n d) (omega arith) start)
    (cases_lt 1 j)

-- any vertex, the last one before the new one, and the new one
to_last : (vs : List Place) (k m d i : ℕ) → k + 1 ≡ m → m + 1 ≡ d → AllLeft vs d → TurnsAt vs k m d → TurnsAt vs m d 0 → TurnsAt vs d 0 1 → i < m → TurnsAt vs i m d
to_last vs k m d i before next all turn last first within =
    ⊎_elim
    (λ (some : 0 < i).
    ⊎_elim
    (λ (less : i < k).
    last_turn (vertex vs m) (vertex vs d) (vertex vs i)
    (first_third (vertex vs m) (vertex vs d) (vertex vs 0) (vertex vs i) (vertex vs k)
    last (next_turn (vertex vs k) (vertex vs m) (vertex vs d) turn)
    (last_turn (vertex vs 0) (vertex vs i) (vertex vs m) (all 0 i m some within (omega arith)))
    (last_turn (vertex vs 0) (vertex vs k) (vertex vs m) (all 0 k m (omega arith) (omega arith) (omega arith)))
    (last_turn (vertex vs i) (vertex vs k) (vertex vs m) (all i k m less (omega arith) (omega arith)))))
    (λ (not_less : k ≤ i). subst (λ n. TurnsAt vs n m d) (omega arith) turn)
    (cases_lt i k))
    (λ (none : i ≤ 0). subst (λ n. TurnsAt vs n m d) (omega arith) (last_turn (vertex vs m) (vertex vs d) (vertex vs 0) last))
    (cases_lt 0 i)

-- any two in between, and the new one
between : (vs : List Place) (k m d i j : ℕ) → k + 1 ≡ m → m + 1 ≡ d → AllLeft vs d → TurnsAt vs k m d → TurnsAt vs m d 0 → TurnsAt vs d 0 1 → 0 < i → i < j → j < m → TurnsAt vs i j d
between vs k m d i j before next all turn last first some less within =
    first_third (vertex vs i) (vertex vs j) (vertex vs m) (vertex vs d) (vertex vs 0)
    (all i j m less within (omega arith))
    (next_turn (vertex vs 0) (vertex vs i) (vertex vs j) (all 0 i j some less (omega arith)))
    (to_last vs k m d i before next all turn last first (omega arith))
    (next_turn (vertex vs 0) (vertex vs i) (vertex vs m) (all 0 i m some (omega arith) (omega arith)))
    (next_turn (vertex vs 0) (vertex vs i) (vertex vs d) (from_first vs m d i next all last first some (omega arith)))

-- any two before the new one, and the new one
to_new : (vs : List Place) (k m d i j : ℕ) → k + 1 ≡ m → m + 1 ≡ d → AllLeft vs d → TurnsAt vs k m d → TurnsAt vs m d 0 → TurnsAt vs d 0 1 → i < j → j ≤ m → TurnsAt vs i j d
to_new vs k m d i j before next all turn last first less within =
    ⊎_elim
    (λ (some : 0 < i).
    ⊎_elim
    (λ (inner : j < m). between vs k m d i j before next all turn last first some less inner)
    (λ (outer : m ≤ j). subst (λ n. TurnsAt vs i n d) (omega arith) (to_last vs k m d i before next all turn last first (omega arith)))
    (cases_lt j m))
    (λ (none : i ≤ 0). subst (λ n. TurnsAt vs n j d) (omega arith) (from_first vs m d j next all last first (omega arith) within))
    (cases_lt 0 i)

-- the step of the loop
pub AllLeft-more : (vs : List Place) (d : ℕ) → 2 ≤ d → AllLeft vs d → TurnsLeft vs d → AllLeft vs (d + 1)
AllLeft-more vs d some all turns i j k ij jk within =
    ⊎_elim
    (λ (less : k < d). all i j k ij jk less)
    (λ (not_less : d ≤ k).
    subst (λ n. TurnsAt vs i j n) (omega arith)
    (to_new vs (d - 2) (d - 1) d i j (omega arith) (omega arith) all turns.before turns.last turns.first ij (omega arith)))
    (cases_lt k d)

-- ---- a list in which all turn to the left is convex
beside_inner : (vs : List Place) (n i j : ℕ) → length vs ≤ n → AllLeft vs n → i + 1 < length vs → j < length vs → j ≢ i → j ≢ i + 1 → TurnsAt vs i (i + 1) j
beside_inner vs n i j whole all inner within not_start not_end =
    ⊎_elim
    (λ (before : j < i). next_turn (vertex vs j) (vertex vs i) (vertex vs (i + 1)) (all j i (i + 1) before (omega arith) (omega arith)))
    (λ (not_before : i ≤ j). all i (i + 1) j (omega arith) (omega (arith, not_start, not_end)) (omega arith))
    (cases_lt j i)

beside_closing : (vs : List Place) (n i j : ℕ) → length vs ≤ n → AllLeft vs n → i + 1 ≡ length vs → j < length vs → j ≢ i → j ≢ 0 → TurnsAt vs i 0 j
beside_closing vs n i j whole all end within not_start not_end =
    last_turn (vertex vs 0) (vertex vs j) (vertex vs i) (all 0 j i (omega (arith, not_end)) (omega (arith, not_start)) (omega arith))

-- each vertex that is no end of an edge lies to its left
beside_edge : (vs : List Place) (n i j : ℕ) → length vs ≤ n → AllLeft vs n → i < length vs → j < length vs → j ≢ i → j ≢ next_of (length vs) i → TurnsAt vs i (next_of (length vs) i) j
beside_edge vs n i j whole all edge within not_start not_end =
    ⊎_elim
    (λ (inner : i + 1 < length vs).
    let next = next_below (length vs) i inner in
    subst (λ k. TurnsAt vs i k j) (sym next)
    (beside_inner vs n i j whole all inner within not_start (subst (λ k. j ≢ k) next not_end)))
    (λ (outer : length vs ≤ i + 1).
    let next = next_last (length vs) i (omega arith) in
    subst (λ k. TurnsAt vs i k j) (sym next)
    (beside_closing vs n i j whole all (omega arith) within not_start (subst (λ k. j ≢ k) next not_end)))
    (cases_lt (i + 1) (length vs))

-- so that there is no dent
pub no_dent : (vs : List Place) (n : ℕ) → length vs ≤ n → AllLeft vs n → (i j : ℕ) → IsDent vs i j → ⊥
no_dent vs n whole all i j dent =
    let left = beside_edge vs n i j whole all dent.edge dent.within dent.not_start dent.not_end in
    absurd (omega (arith, ints, left, dent.beside))

-- ---- and the other way round
edge_left : (vs : List Place) (i k j : ℕ) → IsConvex vs → i + 1 ≡ k → k < length vs → j < length vs → j ≢ i → j ≢ k → TurnsAt vs i k j
edge_left vs i k j convex next edge within not_start not_end =
    let at : next_of (length vs) i ≡ k = next_below (length vs) i (omega arith) ∙ next in
    subst (λ n. TurnsAt vs i n j) at (convex i j (omega arith) within not_start (subst (λ n. j ≢ n) (sym at) not_end))

-- a list without dents turns left at each vertex
pub turns_of : (vs : List Place) (i : ℕ) → 2 ≤ i → i < length vs → ((i j : ℕ) → IsDent vs i j → ⊥) → TurnsLeft vs i
turns_of vs i some within none =
    let convex : IsConvex vs = IsConvex-by_dents vs none in
    record {
      before = edge_left vs (i - 2) (i - 1) i convex (omega arith) (omega arith) within (λ e. absurd (omega arith)) (λ e. absurd (omega arith));
      last = edge_left vs (i - 1) i 0 convex (omega arith) within (omega arith) (λ e. absurd (omega arith)) (λ e. absurd (omega arith));
      first =
          last_turn (vertex vs 0) (vertex vs 1) (vertex vs i)
          (edge_left vs 0 1 i convex (omega arith) (omega arith) within (λ e. absurd (omega arith)) (λ e. absurd (omega arith)));
    }
