-- The state of a search: what waits, what is leased, and what became of the other squares.
use Rattle.std.specs.Prelude.{ℕ, ◌+◌, ℤ, false, List, [], ◌∷◌, ◌++◌}
use Rattle.std.specs.Prelude.{map, length, count_by, not, Option, None}
use Rattle.siting_definitions.specs.Bounds.{coarse_of}
use Rattle.siting_definitions.specs.Marks.{is_split}
use Rattle.siting_definitions.specs.Tree.{TreeSquare}
use Rattle.discard_log.specs.declared.node.Node.{Node}
use Rattle.discard_log.specs.Nodes.{tree_square}
use Rattle.bound_heap.specs.declared.entry.Entry.{Entry}
use Rattle.pool_core.specs.declared.stop.Stop.{Stop}
use Rattle.pool_core.specs.Job.{Job, job_root}

-- what a state was made with: its nodes, how many raised squares waited, and how many leases had
-- been given
pub record Beginning : Type 0 where
  pub nodes : List Node
  pub raised : ℕ
  pub leases : ℕ

-- The open squares wait or are leased. `leases` counts the leases given, and `kept` the parts that
-- were found and not made.
pub record State : Type 0 where
  pub job : Job
  pub waiting : List Entry
  pub leased : List Entry
  pub nodes : List Node
  pub leases : ℕ
  pub kept : ℕ
  pub stop : Option Stop
  pub beginning : Beginning

-- a search: a state, and the incumbent, which is the least upper cost of the sites that were
-- offered, if there is one
pub record Search : Type 0 where
  pub state : State
  pub incumbent : Option ℤ

-- how many squares are open: those that wait and those that are leased
abbrev pub open_count : State → ℕ
open_count s = length s.waiting + length s.leased

-- an entry's square, which isn't split
abbrev pub entry_square : Entry → TreeSquare
entry_square e = record { square = e.square; is_split = false }

-- all squares of a state
abbrev pub squares_of : State → List TreeSquare
squares_of s = map entry_square s.waiting ++ (map entry_square s.leased ++ map tree_square s.nodes)

-- how many of the nodes are split, and how many aren't
abbrev pub split_count : List Node → ℕ
split_count ns = count_by (λ (n : Node). is_split n.mark) ns

-- how many nodes aren't split
abbrev pub unsplit_count : List Node → ℕ
unsplit_count ns = count_by (λ (n : Node). not (is_split n.mark)) ns

-- how many entries have been raised to their fine bound
abbrev pub raised_count : List Entry → ℕ
raised_count es = count_by (λ (e : Entry). e.raised) es

-- the starting square with its coarse bound
abbrev pub root_entry : Job → Entry
root_entry j =
    record { square = job_root j; bound = coarse_of j.instance (job_root j); raised = false }

-- the state in which a job begins: its root waits with the coarse bound
abbrev pub first_state : Job → State
first_state j =
    record {
      job = j;
      waiting = root_entry j ∷ [];
      leased = [];
      nodes = [];
      leases = 0;
      kept = 0;
      stop = None;
      beginning = record { nodes = []; raised = 0; leases = 0 };
    }
