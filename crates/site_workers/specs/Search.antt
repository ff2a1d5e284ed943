-- The search by one worker.
use Rattle.std.specs.Prelude.{◌≡◌, ◌⊎◌, ℤ, if◌then◌else◌, List, [], ◌∷◌, Option, None}
use Rattle.std.specs.Prelude.{option_map, MatchOption, ⊤}
use Rattle.siting_definitions.specs.Point.{Pt}
use Rattle.siting_definitions.specs.Instance.{Instance}
use Rattle.siting_definitions.specs.Square.{Square}
use Rattle.siting_definitions.specs.Bounds.{upper_of}
use Rattle.siting_definitions.specs.Sites.{centre_site_of}
use Rattle.bound_heap.specs.declared.entry.Entry.{Entry}
use Rattle.pool_core.specs.Job.{Job, IsOffer, cost_in}
use Rattle.pool_core.specs.Best.{IsImproved, better_of}
use Rattle.pool_core.specs.Seats.{is_full}
use Rattle.pool_core.specs.Verdict.{finding_of}
use Rattle.pool_core.specs.Machine.{Leases, Halts, Returns}
use Rattle.pool_core.specs.State.{State}
use Rattle.pool_core.specs.Sound.{IsSound}

-- the centre site of a square with its upper cost, if there is one
abbrev pub centre_offer : Instance → Square → Option (Pt × ℤ)
centre_offer i s = option_map (λ (z : Pt). (z, upper_of i z)) (centre_site_of i s)

-- The search from one state and best site to another, by the entries leased, the last one first: of
-- each, the centre site became the best where it costs less, and then it came back with the finding
-- for the best site's cost.
abbrev pub Searched : State → Option (Pt × ℤ) → List Entry → State → Option (Pt × ℤ) → Type 0
Searched first start [] s best = (s ≡ first) × (best ≡ start)
Searched first start (e ∷ es) s best =
    (before : State) × (mid : State) × (so_far : Option (Pt × ℤ))
    × Searched first start es before so_far × Leases e before mid
    × (best ≡ better_of so_far (centre_offer before.job.instance e.square))
    × Returns e (cost_in best) (finding_of before.job e (cost_in best)) mid s

-- a search that went on until there was a stop or nothing waited
pub record SearchEnds
    (first : State) (start : Option (Pt × ℤ)) (s : State) (best : Option (Pt × ℤ)) : Type 0 where
  pub leased : List Entry
  pub last : State
  pub searched : Searched first start leased last best
  pub ends : (s ≡ last) ⊎ Halts last s
  pub ended : s.stop ≡ None → s.waiting ≡ []

-- Between two leases of the one worker: the state is sound with the best site so far, and a part
-- was kept only where the pool is full.
pub record IsBetween (j : Job) (first s : State) (best : Option (Pt × ℤ)) : Type 0 where
  pub job : s.job ≡ j
  pub leased : s.leased ≡ []
  pub sound : IsSound (record { state = s; incumbent = cost_in best })
  pub best_is : MatchOption best ⊤ (λ b. IsOffer j.instance b.0 b.1)
  pub improved : IsImproved j.start best
  pub beginning : s.beginning ≡ first.beginning
  pub kept : s.kept ≡ (if is_full s.stop then 1 else 0)
  pub so_far : List Entry
  pub searched : Searched first j.start so_far s best
