-- The command that the words are.
use Rattle.std.specs.Prelude.{ℕ, pos, if◌then◌else◌, List, [], ◌∷◌, bytes_eq, codes}
use Rattle.std.specs.Prelude.{Option, Some, None, option_map, option_and_then}
use Rattle.command_line.specs.declared.command.Command.{Command}
use Rattle.command_line.specs.declared.command.Command.TheVariants.{Solve, Check, Resume}
use Rattle.command_line.specs.declared.command.Command.TheVariants.{Polish, Near, Make, Trial}
use Rattle.command_line.specs.declared.settings.Otherwise.TheVariants.{Unsaid, Required}
use Rattle.command_line.specs.Settings.{Rule, has_only, said, number_of, settings_of, rules_of}
use Rattle.command_line.specs.Settings.{budget_rule, pool_rule, workers_rule, slack_rule}
use Rattle.command_line.specs.Settings.{depth_rule, limit_rule, seed_rule, points_rule}

-- solving the instance of the input
unfoldable pub solve_of : List (List ℕ) → Option Command
solve_of words =
    option_and_then (λ workers. option_map Solve (settings_of workers words))
    (number_of workers_rule words)

-- checking the answer of the input
unfoldable pub check_of : List (List ℕ) → Option Command
check_of words = option_map Check (number_of workers_rule words)

-- going on from the answer of the input
unfoldable pub resume_of : List (List ℕ) → Option Command
resume_of words =
    option_and_then (λ budget. option_and_then (λ pool.
    option_map (Resume budget pool)
    (number_of workers_rule words)) (said (pool_rule Unsaid) words))
    (number_of (budget_rule Required) words)

-- the near set of the answer of the input
unfoldable pub near_of : List (List ℕ) → Option Command
near_of words =
    option_and_then (λ slack. option_and_then (λ depth.
    option_map (Near (pos slack) depth)
    (number_of limit_rule words)) (number_of depth_rule words)) (number_of slack_rule words)

-- making an instance from a seed
unfoldable pub make_of : List (List ℕ) → Option Command
make_of words =
    option_and_then (λ seed. option_map (Make seed) (number_of points_rule words))
    (number_of seed_rule words)

-- solving an instance that is made from a seed, with one worker
unfoldable pub trial_of : List (List ℕ) → Option Command
trial_of words =
    option_and_then (λ seed. option_and_then (λ points.
    option_map (Trial seed points)
    (settings_of 1 words)) (number_of points_rule words)) (number_of seed_rule words)

-- the command with this name, by what the words after it say of its settings
unfoldable pub command_with : List ℕ → List (List ℕ) → Option Command
command_with name words =
    if bytes_eq name (codes "solve") then solve_of words
    else if bytes_eq name (codes "check") then check_of words
    else if bytes_eq name (codes "resume") then resume_of words
    else if bytes_eq name (codes "polish") then Some Polish
    else if bytes_eq name (codes "near") then near_of words
    else if bytes_eq name (codes "make") then make_of words
    else if bytes_eq name (codes "trial") then trial_of words
    else None

-- the command that the words are, or none: each word after its name is of one of its settings
unfoldable pub command_of : List (List ℕ) → Option Command
command_of [] = None
command_of (name ∷ words) =
    option_and_then (λ (rules : List Rule).
    if has_only rules words then command_with name words else None) (rules_of name)
