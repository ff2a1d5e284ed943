-- What the words after the command say: each gives a number to a name, written with its `=`.
use Rattle.std.specs.Prelude.{ℕ, nat_le, nat_eq, Bool, if◌then◌else◌, ◌&&◌, pos}
use Rattle.std.specs.Prelude.{List, [], ◌∷◌, length, drop, filter_map, codes, bytes_eq, Option}
use Rattle.std.specs.Prelude.{Some, None, option_map, option_and_then}
use Rattle.std.specs.List.{list_all, list_any, starts_with}
use Rattle.text_lines.specs.Numbers.{digits_of}
use Rattle.siting_definitions.specs.declared.TheConstants.{GAP_LIMIT, PPM_LIMIT, BUDGET_LIMIT}
use Rattle.siting_definitions.specs.declared.TheConstants.{POOL_LIMIT, WORKER_LIMIT, SEED_LIMIT}
use Rattle.siting_definitions.specs.declared.TheConstants.{POINT_LIMIT, SLACK_LIMIT, DEPTH_LIMIT}
use Rattle.siting_definitions.specs.declared.TheConstants.{SQUARE_LIMIT}
use Rattle.siting_definitions.specs.declared.GapRule.{GapRule}
use Rattle.siting_definitions.specs.declared.GapRule.TheVariants.{Fixed, Ppm}
use Rattle.command_line.specs.declared.command.Settings.{Settings}
use Rattle.command_line.specs.declared.settings.Setting.{Setting}
use Rattle.command_line.specs.declared.settings.Otherwise.{Otherwise}
use Rattle.command_line.specs.declared.settings.Otherwise.TheVariants.{Default, Unsaid, Required}

-- a name that a word may give a number to, the range of the number, and what it is where no word
-- says it
pub record Rule : Type 0 where
  pub name : List ℕ
  pub least : ℕ
  pub greatest : ℕ
  pub otherwise : Otherwise

abbrev pub rule_of : Setting → Rule
rule_of s =
    record { name = s.name.now; least = s.least; greatest = s.greatest; otherwise = s.otherwise }

-- ---- the table
abbrev pub rule : List ℕ → ℕ → ℕ → Otherwise → Rule
rule name least greatest otherwise =
    record { name = name; least = least; greatest = greatest; otherwise = otherwise }

-- the gap in cost units, or in millionths of the opening's upper cost
abbrev pub gap_rule : Rule
gap_rule = rule (codes "gap=") 0 GAP_LIMIT Unsaid

abbrev pub ppm_rule : Rule
ppm_rule = rule (codes "ppm=") 0 PPM_LIMIT Unsaid

-- how many leases may be given; where a run goes on, those that were given count
abbrev pub budget_rule : Otherwise → Rule
budget_rule otherwise = rule (codes "budget=") 0 BUDGET_LIMIT otherwise

-- how many squares may be open at a time
abbrev pub pool_rule : Otherwise → Rule
pool_rule otherwise = rule (codes "pool=") 1 POOL_LIMIT otherwise

-- how many workers there are
abbrev pub workers_rule : Rule
workers_rule = rule (codes "workers=") 1 WORKER_LIMIT (Default 1)

-- of a near set: how much more than the site its points may cost in cost units, how many levels
-- below the root its squares lie, and how many there may be
abbrev pub slack_rule : Rule
slack_rule = rule (codes "slack=") 0 SLACK_LIMIT (Default 0)

abbrev pub depth_rule : Rule
depth_rule = rule (codes "depth=") 0 DEPTH_LIMIT (Default 8)

abbrev pub limit_rule : Rule
limit_rule = rule (codes "limit=") 1 SQUARE_LIMIT (Default 100000)

-- of a made instance: where the generator begins, and how many points it has
abbrev pub seed_rule : Rule
seed_rule = rule (codes "seed=") 0 SEED_LIMIT Required

abbrev pub points_rule : Rule
points_rule = rule (codes "points=") 1 POINT_LIMIT Required

-- the settings of the command with this name
abbrev pub rules_of : List ℕ → Option (List Rule)
rules_of name =
    if bytes_eq name (codes "solve") then
    Some (gap_rule ∷ ppm_rule ∷ budget_rule (Default 100000) ∷ pool_rule (Default 100000)
    ∷ workers_rule ∷ [])
    else if bytes_eq name (codes "check") then Some (workers_rule ∷ [])
    else if bytes_eq name (codes "resume") then
    Some (budget_rule Required ∷ pool_rule Unsaid ∷ workers_rule ∷ [])
    else if bytes_eq name (codes "polish") then Some []
    else if bytes_eq name (codes "near") then Some (slack_rule ∷ depth_rule ∷ limit_rule ∷ [])
    else if bytes_eq name (codes "make") then Some (seed_rule ∷ points_rule ∷ [])
    else if bytes_eq name (codes "trial") then
    Some (seed_rule ∷ points_rule ∷ gap_rule ∷ ppm_rule ∷ budget_rule (Default 100000)
    ∷ pool_rule (Default 100000) ∷ [])
    else None

-- ---- what words say
-- whether a word gives a value to one of the names
abbrev pub names_one : List Rule → List ℕ → Bool
names_one rules word = list_any (λ (r : Rule). starts_with nat_eq word r.name) rules

-- whether each word does
abbrev pub has_only : List Rule → List (List ℕ) → Bool
has_only rules words = list_all (names_one rules) words

-- the value that a word gives to a name
abbrev pub value_in : List ℕ → List ℕ → Option (List ℕ)
value_in name word = if starts_with nat_eq word name then Some (drop (length name) word) else None

-- n, where it lies from low to high
abbrev pub number_within : ℕ → ℕ → ℕ → Option ℕ
number_within low high n = if nat_le low n && nat_le n high then Some n else None

-- what it is where no word says it
abbrev pub otherwise_of : Otherwise → Option (Option ℕ)
otherwise_of (Default n) = Some (Some n)
otherwise_of Unsaid = Some None
otherwise_of Required = None

-- what the values of a name say: at most one may stand, with digits whose number is in its range
abbrev pub said_by : Rule → List (List ℕ) → Option (Option ℕ)
said_by r [] = otherwise_of r.otherwise
said_by r (value ∷ []) =
    option_map Some (option_and_then (number_within r.least r.greatest) (digits_of value))
said_by r (value ∷ again ∷ values) = None

-- what the words say of a setting, if they say it lawfully: its number, if it has one
abbrev pub said : Rule → List (List ℕ) → Option (Option ℕ)
said r words = said_by r (filter_map (value_in r.name) words)

-- its number, where it has to have one
abbrev pub number_of : Rule → List (List ℕ) → Option ℕ
number_of r words = option_and_then (λ n. n) (said r words)

-- ---- how an instance is solved
-- The rule for the gap: a gap or a ratio in millionths, and not both. It is 1000 millionths where
-- neither is there.
abbrev pub gap_rule_of : Option ℕ → Option ℕ → Option GapRule
gap_rule_of (Some gap) (Some ppm) = None
gap_rule_of (Some gap) None = Some (Fixed (pos gap))
gap_rule_of None (Some ppm) = Some (Ppm ppm)
gap_rule_of None None = Some (Ppm 1000)

abbrev pub settings_with : GapRule → ℕ → ℕ → ℕ → Settings
settings_with gap workers budget pool =
    record { gap = gap; budget = budget; pool = pool; workers = workers }

-- the settings that the words say, with this number of workers
unfoldable pub settings_of : ℕ → List (List ℕ) → Option Settings
settings_of workers words =
    option_and_then (λ gap. option_and_then (λ ppm. option_and_then (λ rule.
    option_and_then (λ budget.
    option_map (settings_with rule workers budget)
    (number_of (pool_rule (Default 100000)) words))
    (number_of (budget_rule (Default 100000)) words)) (gap_rule_of gap ppm))
    (said ppm_rule words)) (said gap_rule words)
