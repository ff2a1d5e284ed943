-- The ranges of a command's numbers, and which command wants a team.
use Rattle.std.specs.Prelude.{◌≡◌, ℕ, ◌≤◌, nat_le, Bool, false, ℤ, pos, ◌≤ℤ◌, ⊤}
use Rattle.std.specs.Prelude.{Option, Some, IfSome}
use Rattle.siting_definitions.specs.declared.TheConstants.{GAP_LIMIT, PPM_LIMIT, BUDGET_LIMIT}
use Rattle.siting_definitions.specs.declared.TheConstants.{POOL_LIMIT, WORKER_LIMIT, SEED_LIMIT}
use Rattle.siting_definitions.specs.declared.TheConstants.{POINT_LIMIT, SLACK_LIMIT, DEPTH_LIMIT}
use Rattle.siting_definitions.specs.declared.TheConstants.{SQUARE_LIMIT}
use Rattle.siting_definitions.specs.declared.GapRule.{GapRule}
use Rattle.siting_definitions.specs.declared.GapRule.TheVariants.{Fixed, Ppm}
use Rattle.command_line.specs.declared.command.Settings.{Settings}
use Rattle.command_line.specs.declared.command.Command.{Command}
use Rattle.command_line.specs.declared.settings.Setting.{Setting}
use Rattle.command_line.specs.declared.settings.Otherwise.{Otherwise}
use Rattle.command_line.specs.declared.settings.Otherwise.TheVariants.{Default}
use Rattle.command_line.specs.declared.command.Command.TheVariants.{Solve, Check, Resume}
use Rattle.command_line.specs.declared.command.Command.TheVariants.{Polish, Near, Make, Trial}

-- the ranges of the numbers of a rule for the gap
abbrev pub IsGapRule : GapRule → Type 0
IsGapRule (Fixed gap) = ((pos 0) ≤ℤ gap) × (gap ≤ℤ pos GAP_LIMIT)
IsGapRule (Ppm ppm) = ppm ≤ PPM_LIMIT

-- the ranges of settings
pub record IsSettings (s : Settings) : Type 0 where
  pub gap : IsGapRule s.gap
  pub budget : s.budget ≤ BUDGET_LIMIT
  pub pool : (1 ≤ s.pool) × (s.pool ≤ POOL_LIMIT)
  pub workers : (1 ≤ s.workers) × (s.workers ≤ WORKER_LIMIT)

-- the ranges of the seed and the points of a made instance
pub record IsMaking (seed points : ℕ) : Type 0 where
  pub seed_most : seed ≤ SEED_LIMIT
  pub points_range : (1 ≤ points) × (points ≤ POINT_LIMIT)

-- the ranges of the numbers of a resumption
pub record IsResuming (budget : ℕ) (pool : Option ℕ) (workers : ℕ) : Type 0 where
  pub budget_most : budget ≤ BUDGET_LIMIT
  pub pool_range : IfSome pool (λ n. (1 ≤ n) × (n ≤ POOL_LIMIT))
  pub workers_range : (1 ≤ workers) × (workers ≤ WORKER_LIMIT)

-- the ranges of the numbers of a near set
pub record IsNearing (slack : ℤ) (depth limit : ℕ) : Type 0 where
  pub slack_range : (pos 0 ≤ℤ slack) × (slack ≤ℤ pos SLACK_LIMIT)
  pub depth_most : depth ≤ DEPTH_LIMIT
  pub limit_range : (1 ≤ limit) × (limit ≤ SQUARE_LIMIT)

-- the numbers of a command are in their ranges, and a trial has one worker
abbrev pub IsCommand : Command → Type 0
IsCommand (Solve s) = IsSettings s
IsCommand (Check workers) = (1 ≤ workers) × (workers ≤ WORKER_LIMIT)
IsCommand (Resume budget pool workers) = IsResuming budget pool workers
IsCommand Polish = ⊤
IsCommand (Near slack depth limit) = IsNearing slack depth limit
IsCommand (Make seed points) = IsMaking seed points
IsCommand (Trial seed points s) = IsMaking seed points × IsSettings s × (s.workers ≡ 1)

-- whether the command wants a team of two workers or more
abbrev pub has_team : Option Command → Bool
has_team (Some (Solve s)) = nat_le 2 s.workers
has_team (Some (Check workers)) = nat_le 2 workers
has_team (Some (Resume budget pool workers)) = nat_le 2 workers
has_team _ = false

-- a default is in the range
abbrev pub OtherwiseWithin : ℕ → ℕ → Otherwise → Type 0
OtherwiseWithin least greatest (Default n) = (least ≤ n) × (n ≤ greatest)
OtherwiseWithin least greatest _ = ⊤

-- the number of a setting that no word says is in its range
abbrev pub IsWithin : Setting → Type 0
IsWithin s = OtherwiseWithin s.least s.greatest s.otherwise
