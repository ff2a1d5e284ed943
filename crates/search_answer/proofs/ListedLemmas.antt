-- How many squares a search that ended has, and how large the numbers of its answer are.
use Rattle.std.proofs.Common.{◌≡◌, ◌+◌, ◌*◌, ◌^◌, ◌<◌, ◌≤◌, Bool, List, ◌++◌, map, length, length-append, count_by, Option, Some, None, ap, ◌∙◌, refl, ℤ, arith}
use Rattle.std.specs.Prelude.{IsPermutation}
use Rattle.std.proofs.lemmas.List.{length-map}
use Rattle.siting_definitions.specs.declared.Word.{Word}
use Rattle.siting_definitions.specs.declared.Word.TheVariants.{Solved, PoolFull, Budget, Floor, Empty}
use Rattle.siting_definitions.specs.Point.{Pt}
use Rattle.siting_definitions.specs.Tree.{TreeSquare, preorder}
use Rattle.siting_definitions.specs.Marks.{is_split}
use Rattle.dyadic_square.proofs.Bag.{once, total-length, count_by-total}
use Rattle.dyadic_square.proofs.Trees.{tree-size}
use Rattle.discard_log.specs.declared.node.Node.{Node}
use Rattle.bound_heap.specs.declared.entry.Entry.{Entry}
use Rattle.pool_core.specs.declared.stop.Stop.{Stop}
use Rattle.pool_core.specs.declared.stop.Stop.TheVariants.{PoolFull as FullStop, Budget as BudgetStop}
use Rattle.pool_core.specs.Job.{Job, job_root}
use Rattle.pool_core.specs.State.{State, entry_square, squares_of, split_count}
use Rattle.pool_core.specs.Sound.{AreTree, StopFits, IsFinished}
use Rattle.pool_core.specs.Begun.{left_of}
use Rattle.pool_core.specs.Logged.{bounded_node}
use Rattle.pool_core.proofs.TreeKept.{total-squares}
use Rattle.pool_core.proofs.CountsKept.{length-permutation, count_by-permutation}
use Rattle.search_answer.specs.Ending.{open_for}
use Rattle.search_answer.proofs.FinishedMarks.{total-none}

abbrev is_cut : TreeSquare → Bool
is_cut t = t.is_split

squares_cut : (s : State) → count_by is_cut (squares_of s) ≡ split_count s.nodes
squares_cut s =
    omega (
      arith,
      count_by-total is_cut (squares_of s),
      total-squares (λ t. once (is_cut t)) s,
      total-none (λ (e : Entry). once (is_cut (entry_square e))) (λ e. refl) s.waiting,
      total-none (λ (e : Entry). once (is_cut (entry_square e))) (λ e. refl) s.leased,
      count_by-total (λ (n : Node). is_split n.mark) s.nodes,
    )

squares_all : (s : State) → length (squares_of s) ≡ length s.waiting + length s.leased + length s.nodes
squares_all s =
    omega (
      arith,
      total-length (squares_of s),
      total-squares (λ t. 1) s,
      total-length s.waiting,
      total-length s.leased,
      total-length s.nodes,
    )

-- a tree has one square, and four more for each that is cut
tree_most : (s : State) → AreTree s → length s.waiting + length s.leased + length s.nodes ≡ 1 + 4 * split_count s.nodes
tree_most s tree =
    let ts = preorder tree.0 (job_root s.job) in
    omega (
      arith,
      tree-size tree.0 (job_root s.job),
      length-permutation (squares_of s) ts tree.2,
      count_by-permutation is_cut (squares_of s) ts tree.2,
      squares_cut s,
      squares_all s,
    )

-- few enough to be counted
pub listed_few : (j : Job) (s : State) (best : Option (Pt × ℤ)) (ls : List Node) → IsFinished j s best → IsPermutation (map (bounded_node s.job.instance) s.nodes ++ map left_of s.waiting) ls → length ls < 2 ^ 40
listed_few j s best ls h same =
    let counts = h.sound.consistent.counts in
    let ns = map (bounded_node s.job.instance) s.nodes in
    let all : length ls ≡ length s.nodes + length s.waiting = length-permutation (ns ++ map left_of s.waiting) ls same ∙ length-append ns (map left_of s.waiting) ∙ ap (λ k. k + length (map left_of s.waiting)) (length-map s.nodes (bounded_node s.job.instance)) ∙ ap (λ k. length s.nodes + k) (length-map s.waiting left_of) in
    omega (arith, all, tree_most s h.sound.consistent.tree, counts.leased, counts.budget, h.sound.job.job.budget)

open_most : (s : State) (word : Word) (stop : Option Stop) → s.job.pool ≤ 1000000 → StopFits s stop → open_for word stop ≤ 1000000
open_most s Solved stop pool fits = omega arith
open_most s PoolFull None pool fits = omega arith
open_most s PoolFull (Some (FullStop count)) pool fits = omega (arith, fits.1)
open_most s PoolFull (Some (BudgetStop leases)) pool fits = omega arith
open_most s Budget stop pool fits = omega arith
open_most s Floor stop pool fits = omega arith
open_most s Empty stop pool fits = omega arith

-- the open squares of the head are in their range
pub open_few : (j : Job) (s : State) (best : Option (Pt × ℤ)) (word : Word) → IsFinished j s best → open_for word s.stop ≤ 1000000
open_few j s best word h = open_most s word s.stop h.sound.job.job.pool_most h.sound.consistent.stop_fits

-- the leases are in their range
pub leases_few : (j : Job) (s : State) (best : Option (Pt × ℤ)) → IsFinished j s best → s.leases ≤ 1000000
leases_few j s best h = omega (arith, h.sound.consistent.counts.budget, h.sound.job.job.budget)
