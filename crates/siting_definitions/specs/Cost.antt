-- The cost of a rational point, said without roots: by all scales and all lists of whole radii.
use Rattle.std.specs.Prelude.{ℕ, ◌+◌, ◌*◌, ◌≤◌, ℤ, pos, ◌+ℤ◌, ◌-ℤ◌, ◌*ℤ◌, ◌≤ℤ◌, ◌<ℤ◌}
use Rattle.std.specs.Prelude.{unsigned_abs, List, [], ◌∷◌, fold, ◌⊎◌, MatchOption, ⊤}
use Rattle.siting_definitions.specs.declared.TheConstants.{UNIT}
use Rattle.siting_definitions.specs.declared.Kind.{Kind}
use Rattle.siting_definitions.specs.declared.Kind.TheVariants.{Sum, Max}
use Rattle.siting_definitions.specs.Integer.{square_of, greatest}
use Rattle.siting_definitions.specs.Point.{Place, Point}
use Rattle.siting_definitions.specs.Instance.{DemandPt, Instance, place_of}

-- q times q times the squared distance from p to a, in square lengths
unfoldable pub distance2 : Place → Point → ℕ
distance2 a p = square_of (p.x -ℤ pos p.q *ℤ a.x) + square_of (p.y -ℤ pos p.q *ℤ a.y)

-- the radius r, in units of 1 / (k q) lengths, is at least the distance from p to d, or at least
-- d's cutoff
abbrev pub IsAbove : DemandPt → Point → ℕ → ℕ → Type 0
IsAbove d p k r =
    (k * k * distance2 (place_of d) p ≤ r * r)
    ⊎ MatchOption d.cutoff ⊥ (λ c. k * p.q * unsigned_abs c ≤ r)

-- the radius r, in units of 1 / (k q) lengths, is at most the distance from p to d, and at most
-- d's cutoff
abbrev pub IsBelow : DemandPt → Point → ℕ → ℕ → Type 0
IsBelow d p k r =
    (r * r ≤ k * k * distance2 (place_of d) p)
    × MatchOption d.cutoff ⊤ (λ c. r ≤ k * p.q * unsigned_abs c)

-- a radius that makes the cost of p no less than it is
pub record IsHighAt (d : DemandPt) (p : Point) (k r : ℕ) : Type 0 where
  pub attracting : pos 0 <ℤ d.w → IsAbove d p k r
  pub repelling : d.w <ℤ pos 0 → IsBelow d p k r

-- a radius that makes the cost of p no more than it is
pub record IsLowAt (d : DemandPt) (p : Point) (k r : ℕ) : Type 0 where
  pub attracting : pos 0 <ℤ d.w → IsBelow d p k r
  pub repelling : d.w <ℤ pos 0 → IsAbove d p k r

-- a radius for each point, each high for p at the scale k
abbrev pub AreHigh : List DemandPt → Point → ℕ → List ℕ → Type 0
AreHigh [] p k [] = ⊤
AreHigh [] p k (r ∷ rs) = ⊥
AreHigh (d ∷ ds) p k [] = ⊥
AreHigh (d ∷ ds) p k (r ∷ rs) = IsHighAt d p k r × AreHigh ds p k rs

-- a radius for each point, each low for p at the scale k
abbrev pub AreLow : List DemandPt → Point → ℕ → List ℕ → Type 0
AreLow [] p k [] = ⊤
AreLow [] p k (r ∷ rs) = ⊥
AreLow (d ∷ ds) p k [] = ⊥
AreLow (d ∷ ds) p k (r ∷ rs) = IsLowAt d p k r × AreLow ds p k rs

-- each point's weight times its radius
abbrev pub terms : List DemandPt → List ℕ → List ℤ
terms (d ∷ ds) (r ∷ rs) = (d.w *ℤ pos r) ∷ terms ds rs
terms _ _ = []

-- the sum of the terms, or the greatest of them
abbrev pub total : Kind → List ℤ → ℤ
total Sum zs = fold ◌+ℤ◌ (pos 0) zs
total Max zs = greatest zs

-- the total of weights times radii
unfoldable pub total_of : Instance → List ℕ → ℤ
total_of i rs = total i.kind (terms i.points rs)

-- b, in cost units, is at most the cost of p
unfoldable pub CostAtLeast : Instance → Point → ℤ → Type 0
CostAtLeast i p b =
    (k : ℕ) (rs : List ℕ) → 1 ≤ k → AreHigh i.points p k rs
    → (b *ℤ pos (k * p.q)) ≤ℤ (pos UNIT *ℤ total_of i rs)

-- b, in cost units, is at least the cost of p
unfoldable pub CostAtMost : Instance → Point → ℤ → Type 0
CostAtMost i p b =
    (k : ℕ) (rs : List ℕ) → 1 ≤ k → AreLow i.points p k rs
    → (pos UNIT *ℤ total_of i rs) ≤ℤ (b *ℤ pos (k * p.q))
