-- The quarters of a square tile it, and the closed square holds what the half-open one holds.
use Rattle.std.proofs.Common.{◌≡◌, ℕ, ◌+◌, ◌-◌, ◌*◌, ◌^◌, ◌<◌, Bool, true, false, ◌&&◌, ℤ, pos, ◌+ℤ◌, ◌*ℤ◌, ◌≤ℤ◌, int_le, int_lt, refl, arith}
use Rattle.std.proofs.lemmas.Int.{ints}
use Rattle.std.proofs.lemmas.Bool.{and_parts, and_from}
use Rattle.siting_definitions.specs.Point.{Point}
use Rattle.siting_definitions.specs.Square.{Square, spans, spans_closed, holds, holds_closed, quarters, Tiles}
use Rattle.dyadic_square.proofs.Numbers.{plus_zero, plus_plus, times_plus, two_halves}
use Rattle.dyadic_square.proofs.Bag.{once}

-- a span is cut in two at a number between its ends
cut : (a b c v : ℤ) → a ≤ℤ b → b ≤ℤ c → once (int_le a v && int_lt v b) + once (int_le b v && int_lt v c) ≡ once (int_le a v && int_lt v c)
cut a b c v low high = grind (arith, ints)

-- a product of sums of tests
once-and : (p q : Bool) → once (p && q) ≡ once p * once q
once-and true true = refl
once-and true false = refl
once-and false true = refl
once-and false false = refl

four : (l r w d u h : Bool) → once l + once r ≡ once w → once d + once u ≡ once h → 0 + once (l && d) + once (r && d) + once (l && u) + once (r && u) ≡ once (w && h)
four l r w d u h across upwards =
    let product : (once l + once r) * (once d + once u) ≡ once w * once h = rw (across, upwards) refl in
    omega (arith, product, once-and l d, once-and r d, once-and l u, once-and r u, once-and w h)

-- the two halves of a span hold what it holds, once
halves : (low : ℤ) (half len q : ℕ) (v : ℤ) → len ≡ half + half → once (spans (low +ℤ pos 0) half q v) + once (spans (low +ℤ pos half) half q v) ≡ once (spans low len q v)
halves low half len q v e =
    let first = times_plus q low half in
    let whole = times_plus q low len in
    let twice : q * len ≡ q * half + q * half = rw e (omega arith) in
    rw (plus_zero low, plus_plus low half half, ← e)
    (cut (pos q *ℤ low) (pos q *ℤ (low +ℤ pos half)) (pos q *ℤ (low +ℤ pos len)) (pos 65536 *ℤ v) (omega (arith, ints)) (omega (arith, ints)))

-- the quarters of a square hold each of its points once, and no other
pub quarters-tile : (s : Square) → 0 < s.level → Tiles (quarters s) s
unfolding holds
quarters-tile s above p =
    four _ _ _ _ _ _ (halves s.x (2 ^ (s.level - 1)) (2 ^ s.level) p.q p.x (two_halves s.level above))
    (halves s.y (2 ^ (s.level - 1)) (2 ^ s.level) p.q p.y (two_halves s.level above))

closed_span : (low : ℤ) (len q : ℕ) (v : ℤ) → spans low len q v ≡ true → spans_closed low len q v ≡ true
closed_span low len q v h = grind (arith, ints)

-- the closed square holds what the half-open one holds
pub holds_closed_from_holds : (s : Square) (p : Point) → holds s p ≡ true → holds_closed s p ≡ true
unfolding holds holds_closed
holds_closed_from_holds s p h =
    let parts = and_parts _ _ h in
    and_from _ _ (closed_span s.x (2 ^ s.level) p.q p.x parts.0) (closed_span s.y (2 ^ s.level) p.q p.y parts.1)
