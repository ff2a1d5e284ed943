-- Pools that begin from the nodes of a finished tree.
use Rattle.std.specs.Prelude.{◌≡◌, ℕ, ◌≤◌, Bool, true, List, [], map, filter}
use Rattle.std.specs.Prelude.{not, count_by, length, All, None, IsPermutation}
use Rattle.siting_definitions.specs.declared.Mark.TheVariants.{Left}
use Rattle.siting_definitions.specs.Tree.{Tree, preorder}
use Rattle.siting_definitions.specs.Marks.{AreMarks, is_open}
use Rattle.discard_log.specs.declared.node.Node.{Node}
use Rattle.discard_log.specs.Nodes.{mark_of, tree_square}
use Rattle.bound_heap.specs.declared.entry.Entry.{Entry}
use Rattle.pool_core.specs.Job.{Job, job_root, start_cost}
use Rattle.pool_core.specs.State.{State, split_count}

-- whether a node is left open
abbrev pub is_left_open : Node → Bool
is_left_open n = is_open n.mark

-- how many of the nodes are left open
abbrev pub left_count : List Node → ℕ
left_count ns = count_by is_left_open ns

-- the nodes that aren't left open
abbrev pub closed_nodes : List Node → List Node
closed_nodes ns = filter (λ (n : Node). not (is_left_open n)) ns

-- a waiting square as a node that is left open
abbrev pub left_of : Entry → Node
left_of e = record { square = e.square; mark = Left e.bound }

-- The nodes are a tree of the root in preorder with the finished marks for the start's upper cost,
-- no more of them are left open than may be, and the leases are a number that may have been given
-- for them.
pub record IsResumable (j : Job) (ns : List Node) (leases : ℕ) : Type 0 where
  pub tree : (t : Tree) × (map tree_square ns ≡ preorder t (job_root j))
      × AreMarks j.instance j.gap (start_cost j) t (job_root j) (map mark_of ns)
  pub open_most : left_count ns ≤ j.pool
  pub budget : leases ≤ j.budget
  pub at_most_nodes : leases ≤ length ns
  pub at_least_splits : split_count ns ≤ leases

-- the squares left open wait, raised, and the others are logged
pub record IsBegunFrom (j : Job) (ns : List Node) (leases : ℕ) (s : State) : Type 0 where
  pub job : s.job ≡ j
  pub waiting : IsPermutation (filter is_left_open ns) (map left_of s.waiting)
  pub raised : All (λ (e : Entry). e.raised ≡ true) s.waiting
  pub leased : s.leased ≡ []
  pub nodes : s.nodes ≡ closed_nodes ns
  pub leases_are : s.leases ≡ leases
  pub kept : s.kept ≡ 0
  pub going : s.stop ≡ None
  pub begun_nodes : s.beginning.nodes ≡ closed_nodes ns
  pub begun_raised : s.beginning.raised ≡ left_count ns
  pub begun_leases : s.beginning.leases ≡ leases
