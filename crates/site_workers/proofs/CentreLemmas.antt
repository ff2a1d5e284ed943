-- The centre site of a square that can't be cheaper than what was seen.
use Rattle.std.proofs.Common.{◌≡◌, ◌+◌, ◌-◌, ◌^◌, ◌<◌, ℤ, pos, ◌+ℤ◌, ◌*ℤ◌, ◌≤ℤ◌, Bool, true, false, cond, not, Option, None, Some, refl, arith}
use Rattle.std.specs.Prelude.{⊤, MatchOption, ◌&&◌, option_map, nat_lt, int_le}
use Rattle.std.specs.Int.{int_max}
use Rattle.std.proofs.lemmas.Bool.{cond_both, and_parts, and_from, ltb-true}
use Rattle.std.proofs.lemmas.Int.{ints}
use Rattle.siting_definitions.specs.Point.{Pt, point_of}
use Rattle.siting_definitions.specs.Instance.{Instance, IsInstance}
use Rattle.siting_definitions.specs.Permitted.{permits}
use Rattle.siting_definitions.specs.Square.{Square, centre_of, spans_closed, holds_closed}
use Rattle.siting_definitions.specs.Bounds.{coarse_of, fine_of, upper_of}
use Rattle.siting_definitions.specs.Excluded.{is_excluded}
use Rattle.siting_definitions.specs.Marks.{IsAtMost, reaches}
use Rattle.siting_definitions.specs.Sites.{has_centre, centre_cost}
use Rattle.siting_definitions.proofs.Integers.{le-int_le, int_le-true}
use Rattle.dyadic_square.proofs.Numbers.{two_halves}
use Rattle.objectives.proofs.BoundLemmas.{fine_of-bounds, upper_of-bounds}
use Rattle.objectives.proofs.CostOrder.{cost_order}
use Rattle.exclusion.proofs.ExcludedLemmas.{excluded_sound}
use Rattle.bound_heap.specs.declared.entry.Entry.{Entry}
use Rattle.pool_core.specs.declared.verdict.Bounds.{Bounds}
use Rattle.pool_core.specs.declared.verdict.Bounds.TheVariants as bounds
use Rattle.pool_core.specs.Job.{Job}
use Rattle.pool_core.specs.Verdict.{bounds_of}
use Rattle.pool_core.specs.Sound.{EntryFits}
use Rattle.site_workers.specs.Centre.{may_be_cheaper}

-- the closed square holds its centre
centre-held : (s : Square) → 0 < s.level → holds_closed s (point_of (centre_of s)) ≡ true
unfolding holds_closed
centre-held s above = and_from _ _ (on_axis s.x) (on_axis s.y)
  where
    half : 2 ^ s.level ≡ 2 ^ (s.level - 1) + 2 ^ (s.level - 1)
    half = two_halves s.level above

    on_axis : (low : ℤ) → spans_closed low (2 ^ s.level) 65536 (low +ℤ pos (2 ^ (s.level - 1))) ≡ true
    on_axis low =
        let centre = low +ℤ pos (2 ^ (s.level - 1)) in
        and_from (int_le (pos 65536 *ℤ low) (pos 65536 *ℤ centre)) (int_le (pos 65536 *ℤ centre) (pos 65536 *ℤ (low +ℤ pos (2 ^ s.level))))
        (le-int_le (pos 65536 *ℤ low) (pos 65536 *ℤ centre) (omega (arith, ints)))
        (le-int_le (pos 65536 *ℤ centre) (pos 65536 *ℤ (low +ℤ pos (2 ^ s.level))) (omega (arith, ints, half)))

-- so the upper cost of the centre is at least the square's fine bound
centre-bound : (i : Instance) (s : Square) → 0 < s.level → fine_of i s ≤ℤ upper_of i (centre_of s)
centre-bound i s above =
    cost_order i (point_of (centre_of s)) (fine_of i s) (upper_of i (centre_of s)) (fine_of-bounds i s (point_of (centre_of s)) (centre-held s above)) (upper_of-bounds i (centre_of s))

-- what is right of the upper cost of a permitted centre is right of the centre site's
centre-match : (i : Instance) (s : Square) (P : ℤ → Type 0) → (0 < s.level → permits i (point_of (centre_of s)) ≡ true → P (upper_of i (centre_of s))) → MatchOption (centre_cost i s) ⊤ P
unfolding has_centre
centre-match i s P each =
    cond_both (nat_lt 0 s.level && permits i (point_of (centre_of s))) (Some (centre_of s)) None (λ (z : Option Pt). MatchOption (option_map (upper_of i) z) ⊤ P)
    (λ here. let parts = and_parts (nat_lt 0 s.level) (permits i (point_of (centre_of s))) here in each (ltb-true 0 s.level parts.0) parts.1)
    (λ not_here. tt)

-- a number that reaches a bound is at most what isn't below it
reached : (seen : Option ℤ) (fine cost : ℤ) → not (reaches seen fine) ≡ false → fine ≤ℤ cost → IsAtMost seen cost
reached None fine cost h most = absurd cc
reached (Some n) fine cost h most = let e = int_le-true n fine (not_false-true (int_le n fine) h) in omega (arith, ints, e, most)
  where
    not_false-true : (b : Bool) → not b ≡ false → b ≡ true
    not_false-true true h = refl
    not_false-true false h = absurd cc

-- a centre site that can't be cheaper than what was seen costs at least that
pub spared : (j : Job) (e : Entry) (seen : Option ℤ) → IsInstance j.instance → EntryFits j.instance e → may_be_cheaper (bounds_of j e) seen ≡ false → MatchOption (centre_cost j.instance e.square) ⊤ (IsAtMost seen)
unfolding bounds_of
spared j e seen lawful fits =
    cond_both (is_excluded j.instance e.square) bounds.Excluded (cond e.raised (bounds.Raised e.bound) (bounds.Both (int_max e.bound (coarse_of j.instance e.square)) fine)) Spares
    (λ shut no_cheaper.
    centre-match j.instance e.square (IsAtMost seen)
    (λ above allowed. absurd (excluded_sound j.instance e.square (point_of (centre_of e.square)) lawful shut (centre-held e.square above) allowed)))
    (λ open_square.
    cond_both e.raised (bounds.Raised e.bound) (bounds.Both (int_max e.bound (coarse_of j.instance e.square)) fine) Spares
    (λ raised. by_fine e.bound (fits.raised raised).0)
    (λ fresh. by_fine fine refl))
  where
    fine : ℤ
    fine = fine_of j.instance e.square

    Spares : Bounds → Type 0
    Spares b = may_be_cheaper b seen ≡ false → MatchOption (centre_cost j.instance e.square) ⊤ (IsAtMost seen)

    by_fine : (f : ℤ) → f ≡ fine → not (reaches seen f) ≡ false → MatchOption (centre_cost j.instance e.square) ⊤ (IsAtMost seen)
    by_fine f is no_cheaper =
        centre-match j.instance e.square (IsAtMost seen)
        (λ above allowed. reached seen f (upper_of j.instance (centre_of e.square)) no_cheaper (let low = centre-bound j.instance e.square above in omega (arith, ints, is, low)))
