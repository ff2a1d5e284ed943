-- Totals that are made step by step, from weights and radii, and the law that each way to make one
-- keeps.
use Rattle.std.specs.Prelude.{◌≡◌, ℕ, ◌+◌, ◌*◌, ◌≤◌, ℤ, pos, ◌+ℤ◌, ◌*ℤ◌, ◌≤ℤ◌, ◌<ℤ◌}
use Rattle.std.specs.Prelude.{unsigned_abs, List, [], ◌∷◌, map, Option, Some, None, unwrap_or, ⊤}
use Rattle.std.specs.Int.{int_max}
use Rattle.siting_definitions.specs.Instance.{DemandPt}

-- the total so far, or none, with the next weight times its radius
abbrev pub sum_joined : Option ℤ → ℤ → ℕ → ℤ
sum_joined None w r = w *ℤ pos r
sum_joined (Some t) w r = t +ℤ w *ℤ pos r

-- the same, where the greatest product counts
abbrev pub max_joined : Option ℤ → ℤ → ℕ → ℤ
max_joined None w r = w *ℤ pos r
max_joined (Some t) w r = int_max t (w *ℤ pos r)

-- joined over a list of weights and their radii, one after another
abbrev pub joined_over : (Option ℤ → ℤ → ℕ → ℤ) → Option ℤ → List ℤ → List ℕ → Option ℤ
joined_over joined so_far (w ∷ ws) (r ∷ rs) = joined_over joined (Some (joined so_far w r)) ws rs
joined_over joined so_far _ _ = so_far

-- the total of a list of weights and their radii, and 0 of an empty one
abbrev pub total_by : (Option ℤ → ℤ → ℕ → ℤ) → List ℤ → List ℕ → ℤ
total_by joined ws rs = unwrap_or (joined_over joined None ws rs) (pos 0)

-- from each radius to the next list's: that of a positive weight doesn't fall, and that of a
-- negative weight doesn't rise
abbrev pub Grow : List ℤ → List ℕ → List ℕ → Type 0
Grow [] [] [] = ⊤
Grow (w ∷ ws) (r ∷ rs) (s ∷ ss) = (pos 0 <ℤ w → r ≤ s) × (w <ℤ pos 0 → s ≤ r) × Grow ws rs ss
Grow _ _ _ = ⊥

-- the size of the total so far, and 0 where there is none
abbrev pub size_of : Option ℤ → ℕ
size_of None = 0
size_of (Some t) = unsigned_abs t

-- the law of a total
pub record IsTotal (joined : Option ℤ → ℤ → ℕ → ℤ) : Type 0 where
  -- it never falls when a radius of positive weight grows, and never rises when a radius of
  -- negative weight grows
  pub rises : (ws : List ℤ) (rs ss : List ℕ) → Grow ws rs ss
      → total_by joined ws rs ≤ℤ total_by joined ws ss
  -- it is multiplied by a number of at least 0 by which every radius is multiplied
  pub scales : (ws : List ℤ) (rs : List ℕ) (k : ℕ)
      → total_by joined ws (map (λ r. r * k) rs) ≡ total_by joined ws rs *ℤ pos k
  -- a step adds no more to its size than the weight times the radius has
  pub grows_by : (so_far : Option ℤ) (w : ℤ) (r : ℕ)
      → unsigned_abs (joined so_far w r) ≤ size_of so_far + unsigned_abs w * r

-- the step of a total over demand points
abbrev pub joined_at : (Option ℤ → ℤ → ℕ → ℤ) → (DemandPt → ℕ) → Option ℤ → DemandPt → Option ℤ
joined_at joined radius so_far d = Some (joined so_far d.w (radius d))
