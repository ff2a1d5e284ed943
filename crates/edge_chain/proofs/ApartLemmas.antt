-- A closed chain doesn't wind round a point that a line parts from it.
use Rattle.std.proofs.Common.{◌≡◌, ◌+◌, Bool, true, false, not, ◌&&◌, List, [], ◌∷◌, pos, ◌<ℤ◌, refl, ap, arith}
use Rattle.std.specs.List.{sum_by, All}
use Rattle.std.proofs.lemmas.Int.{ints}
use Rattle.std.proofs.lemmas.List.Sums.{sum_by-cons}
use Rattle.std.proofs.lemmas.List.Elements.{All-head, All-tail}
use borrow.Author.Differences.{same_in}
use Rattle.siting_definitions.specs.Point.{Place, Point, side}
use Rattle.edge_chain.specs.Chain.{Edge, reversed, is_low, rises, winding, IsClosed}
use Rattle.edge_chain.specs.Line.{IsBeside}
use Rattle.edge_chain.proofs.WindingLemmas.{once, rising, falling, winding_is}
use Rattle.edge_chain.proofs.PartingLemmas.{rises_by, goes_up}
use Rattle.edge_chain.proofs.ClearLemmas.{Balanced-from_closed}

-- whether v is low at p, where the line goes up
abbrev low_up : Bool → Point → Place → Bool
low_up s p v = is_low v p && s

by_ends : (la lb s : Bool) → once (la && not lb && s) + once (lb && s) ≡ once (lb && not la && s) + once (la && s)
by_ends true true s = omega arith
by_ends true false s = omega arith
by_ends false true s = omega arith
by_ends false false s = omega arith

edge_apart : (u v : Place) (p : Point) (e : Edge) → pos 0 <ℤ side u v p → IsBeside u v e → once (rises e p) + once (low_up (goes_up u v) p e.1) ≡ once (rises (reversed e) p) + once (low_up (goes_up u v) p e.0)
edge_apart u v p e left h =
    let up = ap once (rises_by u v e.0 e.1 p left h.start h.end) in
    let down = ap once (rises_by u v e.1 e.0 p left h.end h.start) in
    omega (arith, up, down, by_ends (is_low e.0 p) (is_low e.1 p) (goes_up u v))

chain_apart : (u v : Place) (p : Point) (es : List Edge) → pos 0 <ℤ side u v p → All (IsBeside u v) es → rising es p + sum_by (λ (e : Edge). once (low_up (goes_up u v) p e.1)) es ≡ falling es p + sum_by (λ (e : Edge). once (low_up (goes_up u v) p e.0)) es
chain_apart u v p [] left all = refl
chain_apart u v p (e ∷ es) left all =
    let here = edge_apart u v p e left (All-head (IsBeside u v) e es all) in
    let rest = chain_apart u v p es left (All-tail (IsBeside u v) e es all) in
    let a = sum_by-cons (λ (e : Edge). once (rises e p)) e es in
    let b = sum_by-cons (λ (e : Edge). once (low_up (goes_up u v) p e.1)) e es in
    let c = sum_by-cons (λ (e : Edge). once (rises (reversed e) p)) e es in
    let d = sum_by-cons (λ (e : Edge). once (low_up (goes_up u v) p e.0)) e es in
    omega (arith, here, rest, a, b, c, d)

pub apart : (es : List Edge) (u v : Place) (p : Point) → IsClosed es → pos 0 <ℤ side u v p → All (IsBeside u v) es → winding es p ≡ pos 0
apart es u v p closed left all =
    let e = chain_apart u v p es left all in
    let f = Balanced-from_closed es closed (λ w. once (low_up (goes_up u v) p w)) in
    same_in _ _ (omega (arith, ints, winding_is es p, e, f))
