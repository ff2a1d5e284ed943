-- Near squares and the squares below them: which are near, which hold a point, and the text of all of them.
use Rattle.std.proofs.Common.{◌≡◌, ◌≢◌, ℕ, zero, suc, ◌+◌, ◌-◌, ◌*◌, ◌^◌, ◌≤◌, ◌<◌, min, ℤ, pos, ◌+ℤ◌, ◌*ℤ◌, ◌≤ℤ◌, ◌<ℤ◌, Bool, true, false, not, ◌&&◌, cond, List, [], ◌∷◌, ◌++◌, length, map, Some, MatchOption, refl, sym, ap, subst, ◌∙◌, ◌⊎◌, ⊎_elim, arith}
use Rattle.std.proofs.lemmas.Bool.{and_parts, and_from, true≢false, not-true, false_from_ne_true}
use Rattle.std.proofs.lemmas.List.{map-append, append-nil, length-append}
use Rattle.std.proofs.lemmas.List.Concat.{flat_map-append}
use Rattle.std.proofs.lemmas.List.Elements.{All-nil, All-append, All-weaker, All-filter, Contains-append_left, Contains-append_right, filter-append}
use Rattle.std.specs.Prelude.{⊤, int_le, if◌then◌else◌}
use Rattle.std.specs.List.{filter, flat_map, count_by, All, Contains}
use borrow.Author.Differences.{ints}
use Rattle.siting_definitions.specs.Point.{Point, point_of}
use Rattle.siting_definitions.specs.Instance.{Instance, IsInstance}
use Rattle.siting_definitions.specs.Permitted.{permits}
use Rattle.siting_definitions.specs.Cost.{CostAtMost}
use Rattle.siting_definitions.specs.Square.{Square, holds, holds_closed, spans_closed, quarter_of, quarters}
use Rattle.siting_definitions.specs.Bounds.{fine_of}
use Rattle.siting_definitions.specs.Excluded.{is_excluded}
use Rattle.siting_definitions.specs.Sites.{root_of}
use Rattle.siting_definitions.specs.Tree.{Fits, TreeSquare, preorder, leaves}
use Rattle.siting_definitions.specs.Line.{line_text}
use Rattle.siting_definitions.specs.Answer.{Answer, Best, IsPriced, IsValid}
use Rattle.siting_definitions.proofs.Integers.{int_le-true, le-int_le, mul_le_ℤ, mul_comm_ℤ, le_trans_ℤ}
use Rattle.dyadic_square.specs.Within.{LiesWithin}
use Rattle.dyadic_square.proofs.Bag.{once, total, count_by-total}
use Rattle.dyadic_square.proofs.Tiling.{holds_closed_from_holds}
use Rattle.dyadic_square.proofs.Trees.{leaves-tile}
use Rattle.dyadic_square.proofs.Within.{quarter-within, quarters-all}
use Rattle.site_model.proofs.Rooted.{root_holds}
use Rattle.objectives.proofs.BoundLemmas.{fine_of-bounds, upper_of-bounds}
use Rattle.objectives.proofs.QuarterLemmas.{fine_of-quarter}
use Rattle.objectives.proofs.CostOrder.{cost_order}
use Rattle.exclusion.proofs.ExcludedLemmas.{excluded_sound, excluded-quarter}
use Rattle.near_set.specs.Near.{full_tree, squares_below, is_near, near_below, near_list, LiesInOne, square_line, squares_text}
use Rattle.near_set.specs.Ceiling.{NoneCostsMore}
use Rattle.near_set.specs.declared.standing.Standing.{Standing}
use Rattle.near_set.specs.declared.standing.Standing.TheVariants.{Far, Near, Inside}
use Rattle.near_set.specs.Standing.{StandsAs, FitsBelow}

-- ---- the squares below a square
-- the leaves of two lists, one after the other
leaves-append : (xs ys : List TreeSquare) → leaves (xs ++ ys) ≡ leaves xs ++ leaves ys
leaves-append xs ys =
    ap (map (λ (t : TreeSquare). t.square)) (filter-append (λ (t : TreeSquare). not t.is_split) xs ys)
    ∙ map-append (λ (t : TreeSquare). t.square) (filter (λ (t : TreeSquare). not t.is_split) xs) (filter (λ (t : TreeSquare). not t.is_split) ys)

-- a list for each quarter, one after another
abbrev pub by_quarters : {X : Type 0} → (Square → List X) → Square → List X
by_quarters f s = f (quarter_of s 0) ++ (f (quarter_of s 1) ++ (f (quarter_of s 2) ++ f (quarter_of s 3)))

-- no level below a square stands the square alone
squares_below-one : (s : Square) → squares_below 0 s ≡ s ∷ []
unfolding squares_below full_tree
squares_below-one s = refl

-- the squares below are those of each quarter in turn
squares_below-split : (n : ℕ) (s : Square) → squares_below (suc n) s ≡ by_quarters (squares_below n) s
unfolding squares_below full_tree
squares_below-split n s =
    let t = full_tree n in
    let a = preorder t (quarter_of s 0) in
    let b = preorder t (quarter_of s 1) in
    let c = preorder t (quarter_of s 2) in
    let d = preorder t (quarter_of s 3) in
    leaves-append a (b ++ (c ++ d))
    ∙ ap (λ xs. leaves a ++ xs) (leaves-append b (c ++ d) ∙ ap (λ xs. leaves b ++ xs) (leaves-append c d))

-- what a test leaves of lists one after another
filter-four : {X : Type 0} (p : X → Bool) (a b c d : List X) → filter p (a ++ (b ++ (c ++ d))) ≡ filter p a ++ (filter p b ++ (filter p c ++ filter p d))
filter-four p a b c d =
    filter-append p a (b ++ (c ++ d))
    ∙ ap (λ xs. filter p a ++ xs) (filter-append p b (c ++ d) ∙ ap (λ xs. filter p b ++ xs) (filter-append p c d))

filter-split : (p : Square → Bool) (n : ℕ) (s : Square) → filter p (squares_below (suc n) s) ≡ by_quarters (λ q. filter p (squares_below n q)) s
filter-split p n s = ap (filter p) (squares_below-split n s) ∙ filter-four p (squares_below n (quarter_of s 0)) (squares_below n (quarter_of s 1)) (squares_below n (quarter_of s 2)) (squares_below n (quarter_of s 3))

near_below-split : (i : Instance) (c : ℤ) (n : ℕ) (s : Square) → near_below i c (suc n) s ≡ by_quarters (near_below i c n) s
unfolding near_below
near_below-split i c n s = filter-split (is_near i c) n s

-- the near squares below are those of each quarter in turn
pub near_below-parts : (i : Instance) (c : ℤ) (n : ℕ) (s : Square) → 0 < n → near_below i c n s ≡ by_quarters (near_below i c (n - 1)) s
near_below-parts i c zero s above = absurd (omega arith)
near_below-parts i c (suc n) s above = let e : suc n - 1 ≡ n = omega arith in rw e (near_below-split i c n s)

-- no level below a near square stands the square alone
pub near_below-one : (i : Instance) (c : ℤ) (n : ℕ) (s : Square) → n ≡ 0 → is_near i c s ≡ true → near_below i c n s ≡ s ∷ []
unfolding near_below
near_below-one i c n s none near =
    ap (λ n. filter (is_near i c) (squares_below n s)) none ∙ ap (filter (is_near i c)) (squares_below-one s) ∙ ap (λ b. cond b (s ∷ []) []) near

-- ---- a square is near where both tests say so
not-false : (b : Bool) → b ≡ false → not b ≡ true
not-false b h = ap not h

-- a square that isn't excluded, with a bound of at most c, is near
pub near_from : (i : Instance) (c : ℤ) (s : Square) → is_excluded i s ≡ false → fine_of i s ≤ℤ c → is_near i c s ≡ true
unfolding is_near
near_from i c s open_ cheap = and_from _ _ (not-false _ open_) (le-int_le _ _ cheap)

-- a near square isn't excluded
near_open : (i : Instance) (c : ℤ) (s : Square) → is_near i c s ≡ true → is_excluded i s ≡ false
unfolding is_near
near_open i c s near = not-true _ (and_parts _ _ near).0

-- the bound of a near square is at most c
near_cheap : (i : Instance) (c : ℤ) (s : Square) → is_near i c s ≡ true → fine_of i s ≤ℤ c
unfolding is_near
near_cheap i c s near = int_le-true _ _ (and_parts (not (is_excluded i s)) _ near).1

-- an excluded square isn't near
pub far_if_excluded : (i : Instance) (c : ℤ) (s : Square) → is_excluded i s ≡ true → is_near i c s ≡ false
far_if_excluded i c s excluded =
    false_from_ne_true _ (λ near. true≢false (sym excluded ∙ near_open i c s near))

-- a square whose bound is above c isn't near
pub far_if_dear : (i : Instance) (c : ℤ) (s : Square) → c <ℤ fine_of i s → is_near i c s ≡ false
far_if_dear i c s dear =
    false_from_ne_true _ (λ near. let e = near_cheap i c s near in absurd (omega (arith, ints, dear, e)))

-- a square is near where one of its quarters is
near_above : (i : Instance) (c : ℤ) (s : Square) (k : ℕ) → 0 < s.level → is_near i c (quarter_of s k) ≡ true → is_near i c s ≡ true
near_above i c s k above near =
    near_from i c s
    (false_from_ne_true _ (λ excluded. true≢false (sym (excluded-quarter i s k above excluded) ∙ near_open i c (quarter_of s k) near)))
    (le_trans_ℤ _ _ _ (fine_of-quarter i s k above) (near_cheap i c (quarter_of s k) near))

-- no quarter of a square that isn't near is near
far_quarter : (i : Instance) (c : ℤ) (s : Square) (k : ℕ) → 0 < s.level → is_near i c s ≡ false → is_near i c (quarter_of s k) ≡ false
far_quarter i c s k above far = false_from_ne_true _ (λ near. true≢false (sym (near_above i c s k above near) ∙ far))

-- no square below one that isn't near is near
pub none_below_far : (i : Instance) (c : ℤ) (n : ℕ) (s : Square) → n ≤ s.level → is_near i c s ≡ false → near_below i c n s ≡ []
unfolding near_below
none_below_far i c zero s deep far = ap (filter (is_near i c)) (squares_below-one s) ∙ ap (λ b. cond b (s ∷ []) []) far
none_below_far i c (suc n) s deep far =
    let none : (k : ℕ) → near_below i c n (quarter_of s k) ≡ [] =
    λ k. none_below_far i c n (quarter_of s k) (omega arith) (far_quarter i c s k (omega arith) far) in
    filter-split (is_near i c) n s ∙ all_empty _ _ _ _ (none 0) (none 1) (none 2) (none 3)
  where
    all_empty : (a b d e : List Square) → a ≡ [] → b ≡ [] → d ≡ [] → e ≡ [] → a ++ (b ++ (d ++ e)) ≡ []
    all_empty a b d e f g h k = cc

-- ---- squares of which no point costs more
-- a closed span holds its lower end
low_corner_held : (low : ℤ) (len : ℕ) → spans_closed low len 65536 low ≡ true
low_corner_held low len =
    let first : (pos 65536 *ℤ low) ≤ℤ (pos 65536 *ℤ low) = omega (arith, ints) in
    let second : (pos 65536 *ℤ low) ≤ℤ (pos 65536 *ℤ (low +ℤ pos len)) = omega (arith, ints) in
    and_from _ _ (le-int_le _ _ first) (le-int_le _ _ second)

-- the bound of a square of which no point costs more than c is at most c, as its lower left corner shows
cheap_bound : (i : Instance) (c : ℤ) (s : Square) → NoneCostsMore i s c → fine_of i s ≤ℤ c
unfolding NoneCostsMore holds_closed
cheap_bound i c s cheap =
    let z = point_of (record { x = s.x; y = s.y }) in
    let held : holds_closed s z ≡ true = and_from _ _ (low_corner_held s.x (2 ^ s.level)) (low_corner_held s.y (2 ^ s.level)) in
    cost_order i z (fine_of i s) c (fine_of-bounds i s z held) (cheap z held)

-- a span that lies within another
span-within : (low low' : ℤ) (len len' q : ℕ) (v : ℤ) → low ≤ℤ low' → (low' +ℤ pos len') ≤ℤ (low +ℤ pos len) → spans_closed low' len' q v ≡ true → spans_closed low len q v ≡ true
span-within low low' len len' q v left right held =
    let parts = and_parts (int_le (pos q *ℤ low') (pos 65536 *ℤ v)) (int_le (pos 65536 *ℤ v) (pos q *ℤ (low' +ℤ pos len'))) held in
    let first : (pos q *ℤ low) ≤ℤ (pos q *ℤ low') = rw (mul_comm_ℤ (pos q) low, mul_comm_ℤ (pos q) low') (mul_le_ℤ low low' q left) in
    let second : (pos q *ℤ (low' +ℤ pos len')) ≤ℤ (pos q *ℤ (low +ℤ pos len)) =
    rw (mul_comm_ℤ (pos q) (low' +ℤ pos len'), mul_comm_ℤ (pos q) (low +ℤ pos len)) (mul_le_ℤ _ _ q right) in
    and_from _ _ (le-int_le _ _ (le_trans_ℤ _ _ _ first (int_le-true _ _ parts.0))) (le-int_le _ _ (le_trans_ℤ _ _ _ (int_le-true _ _ parts.1) second))

-- a closed square holds what one within it holds
held_above : (s t : Square) (p : Point) → LiesWithin s t → holds_closed t p ≡ true → holds_closed s p ≡ true
unfolding holds_closed
held_above s t p within held =
    let parts = and_parts (spans_closed t.x (2 ^ t.level) p.q p.x) (spans_closed t.y (2 ^ t.level) p.q p.y) held in
    and_from _ _ (span-within s.x t.x (2 ^ s.level) (2 ^ t.level) p.q p.x within.left within.right parts.0)
    (span-within s.y t.y (2 ^ s.level) (2 ^ t.level) p.q p.y within.lower within.upper parts.1)

-- no point of a quarter costs more than c where none of the square does
cheap_quarter : (i : Instance) (c : ℤ) (s : Square) (k : ℕ) → 0 < s.level → NoneCostsMore i s c → NoneCostsMore i (quarter_of s k) c
unfolding NoneCostsMore
cheap_quarter i c s k above cheap p held = cheap p (held_above s (quarter_of s k) p (quarter-within s k above) held)

-- where no point costs more than c, the exclusion test alone decides
near_if_cheap : (i : Instance) (c : ℤ) (s : Square) → NoneCostsMore i s c → is_near i c s ≡ not (is_excluded i s)
unfolding is_near
near_if_cheap i c s cheap = ap (λ b. not (is_excluded i s) && b) (le-int_le _ _ (cheap_bound i c s cheap)) ∙ and-true (not (is_excluded i s))
  where
    and-true : (b : Bool) → (b && true) ≡ b
    and-true true = refl
    and-true false = refl

-- below a square of which no point costs more than c, all squares are near but the excluded ones
pub cheap_squares_near : (i : Instance) (c : ℤ) (s : Square) (n : ℕ) → n ≤ s.level → NoneCostsMore i s c → near_below i c n s ≡ filter (λ t. not (is_excluded i t)) (squares_below n s)
unfolding near_below
cheap_squares_near i c s zero deep cheap =
    ap (filter (is_near i c)) (squares_below-one s) ∙ ap (λ b. cond b (s ∷ []) []) (near_if_cheap i c s cheap)
    ∙ ap (filter (λ t. not (is_excluded i t))) (sym (squares_below-one s))
cheap_squares_near i c s (suc n) deep cheap =
    let p : Square → Bool = λ t. not (is_excluded i t) in
    let part : (k : ℕ) → filter (is_near i c) (squares_below n (quarter_of s k)) ≡ filter p (squares_below n (quarter_of s k)) =
    λ k. cheap_squares_near i c (quarter_of s k) n (omega arith) (cheap_quarter i c s k (omega arith) cheap) in
    filter-split (is_near i c) n s ∙ four _ _ _ _ _ _ _ _ (part 0) (part 1) (part 2) (part 3) ∙ sym (filter-split p n s)
  where
    four : (a b c d a' b' c' d' : List Square) → a ≡ a' → b ≡ b' → c ≡ c' → d ≡ d' → a ++ (b ++ (c ++ d)) ≡ a' ++ (b' ++ (c' ++ d'))
    four a b c d a' b' c' d' e f g h = cc

-- ---- standings
-- a square that isn't excluded, and of which no point costs more than c, stands inside
pub stands_inside : (i : Instance) (c : ℤ) (s : Square) → is_excluded i s ≡ false → NoneCostsMore i s c → StandsAs i c s Inside
stands_inside i c s open_ cheap = (near_from i c s open_ (cheap_bound i c s cheap), cheap)

-- a greater number is at least the cost too
CostAtMost-more : (i : Instance) (p : Point) (b c : ℤ) → b ≤ℤ c → CostAtMost i p b → CostAtMost i p c
unfolding CostAtMost
CostAtMost-more i p b c more at k rs k_one low = le_trans_ℤ _ _ _ (at k rs k_one low) (mul_le_ℤ b c (k * p.q) more)

-- no point costs more than a greater number
pub cheap_more : (i : Instance) (s : Square) (b c : ℤ) → b ≤ℤ c → NoneCostsMore i s b → NoneCostsMore i s c
unfolding NoneCostsMore
cheap_more i s b c more cheap p held = CostAtMost-more i p b c more (cheap p held)

-- what the standing of a square tells of its quarters
pub below_quarter : (i : Instance) (c : ℤ) (s : Square) (k : ℕ) (above : Standing) → 0 < s.level → StandsAs i c s above → FitsBelow i c (quarter_of s k) above
below_quarter i c s k Far deep stands = tt
below_quarter i c s k Near deep stands = tt
below_quarter i c s k Inside deep stands = cheap_quarter i c s k deep stands.1

-- ---- what a filter leaves
-- the weaker of two tests may come first
filter-both : {X : Type 0} (p q : X → Bool) → ((x : X) → q x ≡ true → p x ≡ true) → (xs : List X) → filter q xs ≡ filter q (filter p xs)
filter-both p q less [] = refl
filter-both {X} p q less (x ∷ xs) = step p q x xs (p x) refl (less x) (filter-both p q less xs)
  where
    step : {X : Type 0} (p q : X → Bool) (x : X) (xs : List X) (b : Bool) → p x ≡ b → (q x ≡ true → p x ≡ true) → filter q xs ≡ filter q (filter p xs) → filter q (x ∷ xs) ≡ filter q (filter p (x ∷ xs))
    step p q x xs true e less rest = rw e (ap (λ ys. cond (q x) (x ∷ ys) ys) rest)
    step p q x xs false e less rest =
        let none : q x ≡ false = false_from_ne_true (q x) (λ h. true≢false (sym (less h) ∙ e)) in rw (e, none) rest

-- a test that passes all that are counted changes no count
total-filter : {X : Type 0} (h q : X → Bool) → ((x : X) → h x ≡ true → q x ≡ true) → (xs : List X) → total (λ x. once (h x)) (filter q xs) ≡ total (λ x. once (h x)) xs
total-filter h q pass [] = refl
total-filter {X} h q pass (x ∷ xs) = step h q x xs (q x) refl (pass x) (total-filter h q pass xs)
  where
    step : {X : Type 0} (h q : X → Bool) (x : X) (xs : List X) (b : Bool) → q x ≡ b → (h x ≡ true → q x ≡ true) → total (λ x. once (h x)) (filter q xs) ≡ total (λ x. once (h x)) xs → total (λ x. once (h x)) (filter q (x ∷ xs)) ≡ once (h x) + total (λ x. once (h x)) xs
    step h q x xs true e pass rest = rw e (ap (λ n. once (h x) + n) rest)
    step h q x xs false e pass rest =
        let none : h x ≡ false = false_from_ne_true (h x) (λ k. true≢false (sym (pass k) ∙ e)) in rw (e, none) (omega (arith, rest))

count_by-filter : {X : Type 0} (h q : X → Bool) → ((x : X) → h x ≡ true → q x ≡ true) → (xs : List X) → count_by h (filter q xs) ≡ count_by h xs
count_by-filter h q pass xs = count_by-total h (filter q xs) ∙ total-filter h q pass xs ∙ sym (count_by-total h xs)

-- ---- which squares hold a point
-- a full tree fits a square of at least its depth
fits_full : (n level : ℕ) → n ≤ level → Fits (full_tree n) level
unfolding full_tree
fits_full zero level deep = tt
fits_full (suc n) level deep =
    let part : Fits (full_tree n) (level - 1) = fits_full n (level - 1) (omega arith) in (omega arith, part, part, part, part)

-- the root has 16 levels below it at least
pub root_deep : (i : Instance) (n : ℕ) → n ≤ 16 → n ≤ (root_of i).level
unfolding root_of
root_deep i n deep = omega arith

-- a square that holds a permitted point of at most this cost is near
near_holder : (i : Instance) (c : ℤ) (s : Square) (p : Point) → IsInstance i → permits i p ≡ true → CostAtMost i p c → holds s p ≡ true → is_near i c s ≡ true
near_holder i c s p limits permitted cheap held =
    let closed = holds_closed_from_holds s p held in
    near_from i c s (false_from_ne_true _ (λ excluded. excluded_sound i s p limits excluded closed permitted))
    (cost_order i p (fine_of i s) c (fine_of-bounds i s p closed) cheap)

-- a permitted point that costs at most c is held by exactly one square of the near set
pub near_points_held : (i : Instance) (c : ℤ) (depth : ℕ) (p : Point) → IsInstance i → depth ≤ 16 → permits i p ≡ true → CostAtMost i p c → count_by (λ (s : Square). holds s p) (near_list i c depth) ≡ 1
unfolding near_list near_below squares_below
near_points_held i c depth p limits deep permitted cheap =
    count_by-filter (λ (s : Square). holds s p) (is_near i c) (λ s held. near_holder i c s p limits permitted cheap held) (leaves (preorder (full_tree depth) (root_of i)))
    ∙ leaves-tile (full_tree depth) (root_of i) (fits_full depth (root_of i).level (root_deep i depth deep)) p
    ∙ ap (λ b. if b then 1 else 0) (root_holds i p limits permitted)

-- the site of a valid answer is held by exactly one square of the near set of its upper cost and of any greater one
pub site_held : (a : Answer) (best : Best) (slack : ℤ) (depth : ℕ) → IsValid a → depth ≤ 16 → a.head.best ≡ Some best → pos 0 ≤ℤ slack → count_by (λ (s : Square). holds s (point_of best.site)) (near_list a.head.instance (best.upper +ℤ slack) depth) ≡ 1
site_held a best slack depth valid deep is more =
    let i = a.head.instance in
    let z = point_of best.site in
    let priced : IsPriced i best = subst (λ o. MatchOption o ⊤ (IsPriced i)) is valid.head.best in
    let upper : CostAtMost i z best.upper = subst (CostAtMost i z) (sym priced.upper) (upper_of-bounds i best.site) in
    near_points_held i (best.upper +ℤ slack) depth z valid.ranges.instance deep priced.permitted (CostAtMost-more i z best.upper (best.upper +ℤ slack) (omega (arith, ints)) upper)

-- so that near set has squares
pub site_some : (a : Answer) (best : Best) (slack : ℤ) (depth : ℕ) → IsValid a → depth ≤ 16 → a.head.best ≡ Some best → pos 0 ≤ℤ slack → near_list a.head.instance (best.upper +ℤ slack) depth ≢ []
site_some a best slack depth valid deep is more none =
    let held : count_by (λ (s : Square). holds s (point_of best.site)) (near_list a.head.instance (best.upper +ℤ slack) depth) ≡ 1 = site_held a best slack depth valid deep is more in
    let empty : 0 ≡ 1 = rw none at held in
    absurd (omega (arith, empty))

-- ---- other costs and other depths
-- what is near at a cost is near at a greater one
near_at_more : (i : Instance) (c d : ℤ) (s : Square) → c ≤ℤ d → is_near i c s ≡ true → is_near i d s ≡ true
near_at_more i c d s more near = near_from i d s (near_open i c s near) (le_trans_ℤ _ _ _ (near_cheap i c s near) more)

-- the near set of the lesser cost is what is near at it of that of the greater one
pub larger_set : (i : Instance) (c d : ℤ) (depth : ℕ) → c ≤ℤ d → near_list i c depth ≡ filter (is_near i c) (near_list i d depth)
unfolding near_list near_below
larger_set i c d depth more = filter-both (is_near i d) (is_near i c) (λ s near. near_at_more i c d s more near) (squares_below depth (root_of i))

squares_below-quarters : (s : Square) → squares_below 1 s ≡ quarters s
unfolding squares_below full_tree
squares_below-quarters s = refl

-- what holds of all quarters holds of the near ones
near_quarters : (i : Instance) (c : ℤ) (s : Square) (P : Square → Type 0) → All P (quarters s) → All P (near_below i c 1 s)
unfolding near_below
near_quarters i c s P all = rw (squares_below-quarters s) (All-filter (is_near i c) P (quarters s) all)

-- each near square one level deeper lies in a near square
deeper_by : (i : Instance) (c : ℤ) (n : ℕ) (s : Square) → n < s.level → All (LiesInOne (near_below i c n s)) (near_below i c (suc n) s)
deeper_by i c zero s above = first (is_near i c s) refl
  where
    first : (b : Bool) → is_near i c s ≡ b → All (LiesInOne (near_below i c 0 s)) (near_below i c 1 s)
    first true near =
        let each : All (LiesInOne (s ∷ [])) (quarters s) =
        quarters-all (LiesInOne (s ∷ [])) s (λ k. record { square = s; listed = (0, omega arith, refl); within = quarter-within s k above }) in
        rw (near_below-one i c 0 s refl near) (near_quarters i c s (LiesInOne (s ∷ [])) each)
    first false far = rw (none_below_far i c 1 s (omega arith) far) (All-nil _)
deeper_by i c (suc n) s above =
    let P = LiesInOne (near_below i c (suc n) s) in
    let part : (k : ℕ) → ((t : Square) → Contains (near_below i c n (quarter_of s k)) t → Contains (near_below i c (suc n) s) t) → All P (near_below i c (suc n) (quarter_of s k)) =
    λ k into. All-weaker (LiesInOne (near_below i c n (quarter_of s k))) P (λ q one. record { square = one.square; listed = into one.square one.listed; within = one.within }) (near_below i c (suc n) (quarter_of s k)) (deeper_by i c n (quarter_of s k) (omega arith)) in
    let whole : (t : Square) → Contains (by_quarters (near_below i c n) s) t → Contains (near_below i c (suc n) s) t =
    λ t listed. subst (λ xs. Contains xs t) (sym (near_below-split i c n s)) listed in
    let a = near_below i c n (quarter_of s 0) in
    let b = near_below i c n (quarter_of s 1) in
    let d = near_below i c n (quarter_of s 2) in
    let e = near_below i c n (quarter_of s 3) in
    let first = part 0 (λ t h. whole t (Contains-append_left a (b ++ (d ++ e)) t h)) in
    let second = part 1 (λ t h. whole t (Contains-append_right a (b ++ (d ++ e)) t (Contains-append_left b (d ++ e) t h))) in
    let third = part 2 (λ t h. whole t (Contains-append_right a (b ++ (d ++ e)) t (Contains-append_right b (d ++ e) t (Contains-append_left d e t h)))) in
    let fourth = part 3 (λ t h. whole t (Contains-append_right a (b ++ (d ++ e)) t (Contains-append_right b (d ++ e) t (Contains-append_right d e t h)))) in
    rw (near_below-split i c (suc n) s) (All-append P _ _ first (All-append P _ _ second (All-append P _ _ third fourth)))

-- the same of the near set
pub deeper_set : (i : Instance) (c : ℤ) (depth : ℕ) → depth < 16 → All (LiesInOne (near_list i c depth)) (near_list i c (depth + 1))
unfolding near_list
deeper_set i c depth deep =
    let next : depth + 1 ≡ suc depth = omega arith in
    rw next (deeper_by i c depth (root_of i) (let e = root_deep i (depth + 1) (omega arith) in omega (arith, e)))

-- ---- lengths and texts
-- a square of either standing is near
pub near_if_stands : (i : Instance) (c : ℤ) (s : Square) (stands : Standing) → StandsAs i c s stands → (stands ≡ Near) ⊎ (stands ≡ Inside) → is_near i c s ≡ true
near_if_stands i c s stands h either =
    ⊎_elim (λ near. subst (StandsAs i c s) near h) (λ inside. let both : StandsAs i c s Inside = subst (StandsAs i c s) inside h in both.0) either

-- counted no further than m, in two parts
pub counted_on : (m a b x y : ℕ) → x ≡ min m a → y ≡ min (m - x) b → x + y ≡ min m (a + b)
counted_on m a b x y first second = omega arith

-- the near squares below are as many as those of the quarters together
pub length-parts : (i : Instance) (c : ℤ) (n : ℕ) (s : Square) → 0 < n → length (near_below i c n s) ≡ length (near_below i c (n - 1) (quarter_of s 0)) + length (near_below i c (n - 1) (quarter_of s 1)) + length (near_below i c (n - 1) (quarter_of s 2)) + length (near_below i c (n - 1) (quarter_of s 3))
length-parts i c n s above =
    let a = near_below i c (n - 1) (quarter_of s 0) in
    let b = near_below i c (n - 1) (quarter_of s 1) in
    let d = near_below i c (n - 1) (quarter_of s 2) in
    let e = near_below i c (n - 1) (quarter_of s 3) in
    ap length (near_below-parts i c n s above) ∙ omega (arith, length-append a (b ++ (d ++ e)), length-append b (d ++ e), length-append d e)

-- the texts of two lists, one after the other
squares_text-append : (xs ys : List Square) → squares_text (xs ++ ys) ≡ squares_text xs ++ squares_text ys
unfolding squares_text
squares_text-append xs ys = ap (flat_map line_text) (map-append square_line xs ys) ∙ flat_map-append line_text (map square_line xs) (map square_line ys)

-- no squares have no text
pub squares_text-none : squares_text [] ≡ []
unfolding squares_text
squares_text-none = refl

-- one square has its line as text
pub squares_text-one : (s : Square) → squares_text (s ∷ []) ≡ line_text (square_line s)
unfolding squares_text
squares_text-one s = append-nil (line_text (square_line s))

-- the text of the near squares below, that of each quarter after the other
pub text-parts : (i : Instance) (c : ℤ) (n : ℕ) (s : Square) → 0 < n → squares_text (near_below i c n s) ≡ by_quarters (λ q. squares_text (near_below i c (n - 1) q)) s
text-parts i c n s above =
    let a = near_below i c (n - 1) (quarter_of s 0) in
    let b = near_below i c (n - 1) (quarter_of s 1) in
    let d = near_below i c (n - 1) (quarter_of s 2) in
    let e = near_below i c (n - 1) (quarter_of s 3) in
    ap squares_text (near_below-parts i c n s above)
    ∙ squares_text-append a (b ++ (d ++ e))
    ∙ ap (λ xs. squares_text a ++ xs) (squares_text-append b (d ++ e) ∙ ap (λ xs. squares_text b ++ xs) (squares_text-append d e))
