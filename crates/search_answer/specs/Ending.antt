-- The answer that a search ends with.
use Rattle.std.specs.Prelude.{◌≡◌, ℕ, ◌+◌, ◌≤◌, ◌==◌, ℤ, true, false, if◌then◌else◌, not, is_some}
use Rattle.std.specs.Prelude.{List, map, filter, length, Option, Some, None, option_map}
use Rattle.std.specs.Prelude.{IsPermutation, ⊤}
use Rattle.siting_definitions.specs.declared.Word.{Word}
use Rattle.siting_definitions.specs.declared.Word.TheVariants.{Solved, PoolFull, Budget, Floor}
use Rattle.siting_definitions.specs.declared.Word.TheVariants.{Empty}
use Rattle.siting_definitions.specs.Point.{Pt}
use Rattle.siting_definitions.specs.Instance.{Instance}
use Rattle.siting_definitions.specs.Square.{Square}
use Rattle.siting_definitions.specs.Bounds.{fine_of, lower_of, upper_of}
use Rattle.siting_definitions.specs.Excluded.{is_excluded}
use Rattle.siting_definitions.specs.Tree.{Tree, preorder}
use Rattle.siting_definitions.specs.Marks.{Tally, tally_of, leaf_mark, is_split, AreMarks}
use Rattle.siting_definitions.specs.Answer.{Best, Head, Answer, IsValid, is_stopped}
use Rattle.siting_definitions.specs.declared.Mark.{Mark}
use Rattle.siting_definitions.specs.declared.Mark.TheVariants.{Split, Shut, Bounded, Left}
use Rattle.siting_definitions.specs.declared.Mark.TheVariants.{Floor as FloorMark}
use Rattle.discard_log.specs.declared.node.Node.{Node}
use Rattle.discard_log.specs.Nodes.{mark_of, tree_square}
use Rattle.pool_core.specs.declared.stop.Stop.{Stop}
use Rattle.pool_core.specs.declared.stop.Stop.TheVariants.{PoolFull as FullStop}
use Rattle.pool_core.specs.declared.stop.Stop.TheVariants.{Budget as BudgetStop}
use Rattle.pool_core.specs.Job.{Job, job_root, cost_in}
use Rattle.pool_core.specs.State.{State, squares_of}

-- the word of a stop; without a stop no leaf is left open, and it isn't asked for
abbrev pub stop_word : Option Stop → Word
stop_word None = Budget
stop_word (Some (FullStop count)) = PoolFull
stop_word (Some (BudgetStop leases)) = Budget

-- the word of an answer, by the tally of its marks and by the stop
abbrev pub ending_word : Tally → Option Stop → Word
ending_word t stop =
    if not (is_some t.least) then Empty
    else if t.open_leaves + t.floor_leaves == 0 then Solved
    else if t.open_leaves == 0 then Floor
    else stop_word stop

-- how many squares were open at the stop, where the word says that the pool was full
abbrev pub open_for : Word → Option Stop → ℕ
open_for PoolFull (Some (FullStop count)) = count
open_for word stop = 0

-- the site of a best, and its upper cost
abbrev pub offer_of : Best → Pt × ℤ
offer_of b = (b.site, b.upper)

-- the finished mark of a node: a split keeps its own
abbrev pub finished_mark : Job → Option ℤ → Node → Mark
finished_mark j u n = if is_split n.mark then n.mark else leaf_mark j.instance j.gap u n.square

-- a node with its finished mark
abbrev pub finished_node : Job → Option ℤ → Node → Node
finished_node j u n = record { square = n.square; mark = finished_mark j u n }

-- what a mark tells of its square: one that is marked shut is excluded, and one that was settled by
-- a number isn't excluded, and has its fine bound for that number
abbrev pub IsKnownMark : Instance → Square → Mark → Type 0
IsKnownMark i s (Split seen) = ⊤
IsKnownMark i s Shut = is_excluded i s ≡ true
IsKnownMark i s (Bounded b) = (is_excluded i s ≡ false) × (b ≡ fine_of i s)
IsKnownMark i s (FloorMark b) = (is_excluded i s ≡ false) × (b ≡ fine_of i s)
IsKnownMark i s (Left b) = ⊤

-- a node's mark tells what its finished mark needs, but where the square was left open
abbrev pub IsKnownNode : Instance → Node → Type 0
IsKnownNode i n = IsKnownMark i n.square n.mark

-- the best site with its two costs
abbrev pub best_by : Instance → Option (Pt × ℤ) → Option Best
best_by i best =
    option_map
    (λ (b : Pt × ℤ). record { site = b.0; lower = lower_of i b.0; upper = upper_of i b.0 })
    best

-- the head of the answer to a job, by the best site, the tally of the marks, the stop and the
-- number of leases
abbrev pub head_by : Job → Option (Pt × ℤ) → Tally → Option Stop → ℕ → Head
head_by j best t stop leases =
    record {
      instance = j.instance;
      gap = j.gap;
      budget = j.budget;
      pool = j.pool;
      best = best_by j.instance best;
      bound = t.least;
      word = ending_word t stop;
      open_count = open_for (ending_word t stop) stop;
      leases = leases;
    }

abbrev pub answer_of : Head → List Node → Answer
answer_of h ns = record { head = h; marks = map mark_of ns }

abbrev pub split_nodes : List Node → List Node
split_nodes ns = filter (λ (n : Node). is_split n.mark) ns

-- The answer is valid, and it is that of the search: it has the job's settings, the best site, the
-- leases, the squares and the splits of the pool, and the word and the open squares of its stop,
-- without which no word of a stop comes. No more squares are left open than waited. Its nodes are
-- in the preorder of the tree that has their marks.
pub record Finishes (j : Job) (s : State) (best : Option (Pt × ℤ)) (h : Head) (ns : List Node)
    : Type 0 where
  pub valid : IsValid (answer_of h ns)
  pub instance : h.instance ≡ j.instance
  pub gap : h.gap ≡ j.gap
  pub budget : h.budget ≡ j.budget
  pub pool : h.pool ≡ j.pool
  pub best_is : option_map offer_of h.best ≡ best
  pub leases : h.leases ≡ s.leases
  pub word : h.word ≡ ending_word (tally_of (map mark_of ns)) s.stop
  pub stopped : is_stopped h.word ≡ true → is_some s.stop ≡ true
  pub open_count : h.open_count ≡ open_for h.word s.stop
  pub squares : IsPermutation (squares_of s) (map tree_square ns)
  pub splits : IsPermutation (split_nodes s.nodes) (split_nodes ns)
  pub open_most : (tally_of (map mark_of ns)).open_leaves ≤ length s.waiting
  pub order : (t : Tree) × (map tree_square ns ≡ preorder t (job_root j))
      × AreMarks j.instance j.gap (cost_in best) t (job_root j) (map mark_of ns)
