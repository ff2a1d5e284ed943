-- Near a point to the left of an edge all points lie there, so the interior of a convex polygon is open, and what finitely many triangles hold is closed.
use Rattle.std.proofs.Common.{◌≡◌, ℕ, negsuc, ◌+◌, ◌*◌, ◌≤◌, ⊎_elim, true, false, List, [], ◌∷◌, ℤ, pos, ◌-ℤ◌, ◌*ℤ◌, ◌≤ℤ◌, ◌<ℤ◌, refl, sym, ◌∙◌, ap, arith}
use Rattle.std.specs.Prelude.{int_le, int_lt, unsigned_abs}
use Rattle.std.specs.List.{list_any, list_all}
use Rattle.std.proofs.lemmas.Int.{by_lt_z, ints, unsigned_abs-mul}
use Rattle.std.proofs.lemmas.Bool.{true≢false, cases_Bool, and_parts, and_from, and_left, and_right, and_cases, or_from, or_parts}
use Rattle.std.proofs.Math.Nat.{mul-le-mul_left}
use borrow.Author.Differences.{up, down}
use Rattle.siting_definitions.specs.Point.{Place, Point, side}
use Rattle.siting_definitions.specs.Polygon.{covers, covers_inside, edges}
use Rattle.siting_definitions.proofs.Integers.{diff, diffs, diff-eq, as_diff, lt-int_le, lt-int_lt, int_le-false, int_lt-true}
use Rattle.edge_chain.specs.Limit.{IsNear, IsLimit}
use Rattle.edge_chain.specs.Chain.{Edge}
use Rattle.edge_chain.specs.Triangle.{Triangle, corners, is_counter_clockwise}
use Rattle.edge_chain.proofs.Vectors.{side_back, product_nonpos}
use Rattle.edge_chain.proofs.CoverLemmas.{holds}

-- what is nearer than 1 / m is nearer than 1 / n, for n up to m
pub near-le : (n m : ℕ) (p r : Point) → n ≤ m → IsNear m p r → IsNear n p r
near-le n m p r h near = record { x = less (unsigned_abs (p.x *ℤ pos r.q -ℤ r.x *ℤ pos p.q)) near.x; y = less (unsigned_abs (p.y *ℤ pos r.q -ℤ r.y *ℤ pos p.q)) near.y }
  where
    less : (d : ℕ) → m * d ≤ p.q * r.q → n * d ≤ p.q * r.q
    less d le = let e : d * n ≤ d * m = mul-le-mul_left d h in omega (arith, e, le)

-- P holds of each point near p
abbrev pub Near : (Point → Type 0) → Point → Type 0
Near P p = (n : ℕ) × (1 ≤ n) × ((r : Point) → IsNear n p r → P r)

pub near-both : (P Q : Point → Type 0) (p : Point) → Near P p → Near Q p → Near (λ r. P r × Q r) p
near-both P Q p a b =
    (a.0 + b.0, omega (arith, a.1), λ r near. (a.2 r (near-le a.0 (a.0 + b.0) p r (omega arith) near), b.2 r (near-le b.0 (a.0 + b.0) p r (omega arith) near)))

pub near-more : (P Q : Point → Type 0) (p : Point) → ((r : Point) → P r → Q r) → Near P p → Near Q p
near-more P Q p more a = (a.0, a.1, λ r near. more r (a.2 r near))

-- a limit of points of which P holds isn't a point near which Q holds, where no point has both
pub near-limit : (P Q : Point → Type 0) (p : Point) → IsLimit P p → Near Q p → ((r : Point) → P r → Q r → ⊥) → ⊥
near-limit P Q p limit near apart =
    let found = limit near.0 near.1 in apart found.0 found.2 (near.2 found.0 found.1)

-- ---- sides
side_of : ℤ → ℤ → ℤ → ℤ → ℤ → ℤ → ℤ → ℤ
side_of ax ay bx by px py q = (bx -ℤ ax) *ℤ (py -ℤ q *ℤ ay) -ℤ (by -ℤ ay) *ℤ (px -ℤ q *ℤ ax)

apart-diff : (ax ax' ay ay' bx bx' by by' px px' py py' q q' rx rx' ry ry' w w' : ℕ) → side_of (diff ax ax') (diff ay ay') (diff bx bx') (diff by by') (diff px px') (diff py py') (diff q q') *ℤ diff w w' -ℤ side_of (diff ax ax') (diff ay ay') (diff bx bx') (diff by by') (diff rx rx') (diff ry ry') (diff w w') *ℤ diff q q' ≡ (diff bx bx' -ℤ diff ax ax') *ℤ (diff py py' *ℤ diff w w' -ℤ diff ry ry' *ℤ diff q q') -ℤ (diff by by' -ℤ diff ay ay') *ℤ (diff px px' *ℤ diff w w' -ℤ diff rx rx' *ℤ diff q q')
unfolding side_of
apart-diff ax ax' ay ay' bx bx' by by' px px' py py' q q' rx rx' ry ry' w w' = simp diffs (diff-eq _ _ _ _ (omega arith))

apart_by : (ax ay bx by px py q rx ry w : ℤ) → side_of ax ay bx by px py q *ℤ w -ℤ side_of ax ay bx by rx ry w *ℤ q ≡ (bx -ℤ ax) *ℤ (py *ℤ w -ℤ ry *ℤ q) -ℤ (by -ℤ ay) *ℤ (px *ℤ w -ℤ rx *ℤ q)
apart_by ax ay bx by px py q rx ry w =
    rw (as_diff ax, as_diff ay, as_diff bx, as_diff by, as_diff px, as_diff py, as_diff q, as_diff rx, as_diff ry, as_diff w)
    (apart-diff (up ax) (down ax) (up ay) (down ay) (up bx) (down bx) (up by) (down by) (up px) (down px) (up py) (down py) (up q) (down q) (up rx) (down rx) (up ry) (down ry) (up w) (down w))

-- how much the sides of two points differ
sides_apart : (a b : Place) (p r : Point) → side a b p *ℤ pos r.q -ℤ side a b r *ℤ pos p.q ≡ (b.x -ℤ a.x) *ℤ (p.y *ℤ pos r.q -ℤ r.y *ℤ pos p.q) -ℤ (b.y -ℤ a.y) *ℤ (p.x *ℤ pos r.q -ℤ r.x *ℤ pos p.q)
unfolding side side_of
sides_apart a b p r = apart_by a.x a.y b.x b.y p.x p.y (pos p.q) r.x r.y (pos r.q)

-- a difference of products is at most the sum of the products of sizes
difference_size : (a b c d : ℤ) → (a *ℤ b -ℤ c *ℤ d) ≤ℤ pos (unsigned_abs a * unsigned_abs b + unsigned_abs c * unsigned_abs d)
difference_size a b c d = omega (arith, ints, unsigned_abs-mul a b, unsigned_abs-mul c d)

-- a number above 0 times a natural is at least the natural
at_least : (s : ℤ) (w : ℕ) → pos 0 <ℤ s → pos w ≤ℤ (s *ℤ pos w)
at_least (pos n) w h = let one : 1 ≤ n = omega (arith, ints) in let e : w * 1 ≤ w * n = mul-le-mul_left w one in omega (arith, ints, e)
at_least (negsuc n) w h = absurd (omega (arith, ints))

nonpos_times : (s : ℤ) (w : ℕ) → s ≤ℤ pos 0 → (s *ℤ pos w) ≤ℤ pos 0
nonpos_times s w h = product_nonpos s (pos w) h (omega (arith, ints))

-- in naturals: w <= dx Y + dy X, where n X and n Y are at most q w, and n is q (dx + dy) + 1
too_near : (dx dy x y q w n : ℕ) → n ≡ q * (dx + dy) + 1 → w ≤ dx * y + dy * x → n * x ≤ q * w → n * y ≤ q * w → 1 ≤ w → ⊥
too_near dx dy x y q w n is le hx hy one =
    let a : n * w ≤ n * (dx * y + dy * x) = mul-le-mul_left n le in
    let b : dx * (n * y) ≤ dx * (q * w) = mul-le-mul_left dx hy in
    let c : dy * (n * x) ≤ dy * (q * w) = mul-le-mul_left dy hx in
    let d : n * w ≡ (q * (dx + dy) + 1) * w = ap (λ k. k * w) is in
    omega (arith, a, b, c, d)

-- each point near one strictly to the left of an edge lies there
pub left_open : (a b : Place) (p : Point) → pos 0 <ℤ side a b p → Near (λ r. pos 0 <ℤ side a b r) p
left_open a b p above =
    let dx = unsigned_abs (b.x -ℤ a.x) in
    let dy = unsigned_abs (b.y -ℤ a.y) in (
      p.q * (dx + dy) + 1,
      omega arith,
      λ r near. by_lt_z (pos 0) (side a b r) (λ left. left)
          (λ not_left.
          let x = p.x *ℤ pos r.q -ℤ r.x *ℤ pos p.q in
          let y = p.y *ℤ pos r.q -ℤ r.y *ℤ pos p.q in
          let size = difference_size (b.x -ℤ a.x) y (b.y -ℤ a.y) x in
          let least = at_least (side a b p) r.q above in
          let less = nonpos_times (side a b r) p.q not_left in
          let w : r.q ≤ dx * unsigned_abs y + dy * unsigned_abs x = omega (arith, ints, sides_apart a b p r, size, least, less) in
          absurd (too_near dx dy (unsigned_abs x) (unsigned_abs y) p.q r.q (p.q * (dx + dy) + 1) refl w near.x near.y r.q_pos)),
    )

-- and to the right
pub right_open : (a b : Place) (p : Point) → side a b p <ℤ pos 0 → Near (λ r. side a b r <ℤ pos 0) p
right_open a b p below =
    near-more (λ r. pos 0 <ℤ side b a r) (λ r. side a b r <ℤ pos 0) p (λ r h. omega (arith, ints, h, side_back a b r))
    (left_open b a p (omega (arith, ints, side_back a b p)))

-- ---- the interior of a convex polygon is open
all_open : (es : List Edge) (p : Point) → list_all (λ (e : Edge). int_lt (pos 0) (side e.0 e.1 p)) es ≡ true → Near (λ r. list_all (λ (e : Edge). int_lt (pos 0) (side e.0 e.1 r)) es ≡ true) p
all_open [] p h = (1, omega arith, λ r near. refl)
all_open (e ∷ es) p h =
    let parts = and_parts _ _ h in
    near-more (λ r. (pos 0 <ℤ side e.0 e.1 r) × (list_all (λ (e : Edge). int_lt (pos 0) (side e.0 e.1 r)) es ≡ true)) _ p (λ r both. and_from _ _ (lt-int_lt _ _ both.0) both.1)
    (near-both (λ r. pos 0 <ℤ side e.0 e.1 r) (λ r. list_all (λ (e : Edge). int_lt (pos 0) (side e.0 e.1 r)) es ≡ true) p
    (left_open e.0 e.1 p (int_lt-true _ _ parts.0)) (all_open es p parts.1))

pub inside_open : (vs : List Place) (p : Point) → covers_inside vs p ≡ true → Near (λ r. covers_inside vs r ≡ true) p
unfolding covers_inside
inside_open vs p h = all_open (edges vs) p h

-- ---- what a convex polygon doesn't hold is open
some_open : (es : List Edge) (p : Point) → list_all (λ (e : Edge). int_le (pos 0) (side e.0 e.1 p)) es ≡ false → Near (λ r. list_all (λ (e : Edge). int_le (pos 0) (side e.0 e.1 r)) es ≡ false) p
some_open [] p h = absurd (true≢false h)
some_open (e ∷ es) p h =
    ⊎_elim
    (λ here. near-more (λ r. side e.0 e.1 r <ℤ pos 0) _ p (λ r below. and_left _ _ (lt-int_le _ _ below)) (right_open e.0 e.1 p (int_le-false _ _ here)))
    (λ later. near-more (λ r. list_all (λ (e : Edge). int_le (pos 0) (side e.0 e.1 r)) es ≡ false) _ p (λ r none. and_right _ _ none) (some_open es p later))
    (and_cases _ _ h)

pub outside_open : (vs : List Place) (p : Point) → covers vs p ≡ false → Near (λ r. covers vs r ≡ false) p
unfolding covers
outside_open vs p h = some_open (edges vs) p h

-- ---- what finitely many triangles hold is closed
triangle_open : (t : Triangle) (p : Point) → holds p t ≡ false → Near (λ r. holds r t ≡ false) p
triangle_open t p h =
    ⊎_elim (λ (clockwise : is_counter_clockwise t ≡ false). (1, omega arith, λ r near. and_left _ _ clockwise))
    (λ outside. near-more (λ r. covers (corners t) r ≡ false) _ p (λ r none. and_right _ _ none) (outside_open (corners t) p outside))
    (and_cases _ _ h)

triangles_open : (ts : List Triangle) (p : Point) → list_any (holds p) ts ≡ false → Near (λ r. list_any (holds r) ts ≡ false) p
triangles_open [] p h = (1, omega arith, λ r near. refl)
triangles_open (t ∷ ts) p h =
    let parts = or_parts _ _ h in
    near-more (λ r. (holds r t ≡ false) × (list_any (holds r) ts ≡ false)) _ p (λ r both. or_from _ _ both.0 both.1)
    (near-both (λ r. holds r t ≡ false) (λ r. list_any (holds r) ts ≡ false) p (triangle_open t p parts.0) (triangles_open ts p parts.1))

-- a limit of points that triangles hold is held by one of them
pub limit_held : (ts : List Triangle) (P : Point → Type 0) (p : Point) → ((r : Point) → P r → list_any (holds r) ts ≡ true) → IsLimit P p → list_any (holds p) ts ≡ true
limit_held ts P p held limit =
    ⊎_elim (λ yes. yes)
    (λ none. absurd (near-limit P (λ r. list_any (holds r) ts ≡ false) p limit (triangles_open ts p none) (λ r at none_at. true≢false (sym (held r at) ∙ none_at))))
    (cases_Bool (list_any (holds p) ts))
