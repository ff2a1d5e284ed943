-- A job: an instance, and the settings of the search over it.
use Rattle.std.specs.Prelude.{◌≡◌, ℕ, ◌≤◌, ℤ, pos, ◌≤ℤ◌, IsTrue}
use Rattle.std.specs.Prelude.{Option, option_map, MatchOption, ⊤}
use Rattle.siting_definitions.specs.declared.TheConstants.{GAP_LIMIT, BUDGET_LIMIT, POOL_LIMIT}
use Rattle.siting_definitions.specs.Point.{Pt, point_of}
use Rattle.siting_definitions.specs.Instance.{Instance, IsInstance}
use Rattle.siting_definitions.specs.Permitted.{permits}
use Rattle.siting_definitions.specs.Bounds.{upper_of}
use Rattle.siting_definitions.specs.Square.{Square}
use Rattle.siting_definitions.specs.Sites.{root_of, opening_cost}
use Rattle.siting_definitions.specs.Marks.{IsAtMost}
use Rattle.siting_definitions.specs.Answer.{IsSite}

-- a job; its start is a site with its upper cost, from which the search for a better one sets out
pub record Job : Type 0 where
  pub instance : Instance
  pub gap : ℤ
  pub budget : ℕ
  pub pool : ℕ
  pub start : Option (Pt × ℤ)

-- the starting square of a job
abbrev pub job_root : Job → Square
job_root j = root_of j.instance

-- the upper cost of a site that comes with it, if there is one
abbrev pub cost_in : Option (Pt × ℤ) → Option ℤ
cost_in best = option_map (λ (b : Pt × ℤ). b.1) best

-- the upper cost of the start, if there is one
abbrev pub start_cost : Job → Option ℤ
start_cost j = cost_in j.start

-- a permitted site, and its upper cost
pub record IsOffer (i : Instance) (z : Pt) (cost : ℤ) : Type 0 where
  pub site : IsSite z
  pub permitted : IsTrue (permits i (point_of z))
  pub cost_is : cost ≡ upper_of i z

-- the ranges of a job, and its start is a permitted site with its upper cost
pub record IsJob (j : Job) : Type 0 where
  pub instance : IsInstance j.instance
  pub gap_least : pos 0 ≤ℤ j.gap
  pub gap_most : j.gap ≤ℤ pos GAP_LIMIT
  pub budget : j.budget ≤ BUDGET_LIMIT
  pub pool_least : 1 ≤ j.pool
  pub pool_most : j.pool ≤ POOL_LIMIT
  pub start : MatchOption j.start ⊤ (λ z. IsOffer j.instance z.0 z.1)

-- a job that starts from a site that costs no more than the opening, if there is an opening
pub record IsLawful (j : Job) : Type 0 where
  pub job : IsJob j
  pub opening : MatchOption (opening_cost j.instance) ⊤ (IsAtMost (start_cost j))
