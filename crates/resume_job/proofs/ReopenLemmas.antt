-- The job and the pool that go on from a valid answer.
use Rattle.std.proofs.Common.{◌≡◌, ℕ, ◌+◌, ◌≤◌, Bool, List, [], ◌∷◌, map, length, count_by, Option, None, Some, refl, sym, ap, ◌∙◌, subst, arith}
use Rattle.std.specs.Prelude.{MatchOption, ⊤, option_map}
use Rattle.std.proofs.lemmas.List.{length-map}
use Rattle.std.proofs.lemmas.List.Sums.{count_by-le-length}
use Rattle.siting_definitions.specs.declared.Mark.{Mark}
use Rattle.siting_definitions.specs.Sites.{root_of, opening_cost}
use Rattle.siting_definitions.specs.Tree.{Tree, preorder}
use Rattle.siting_definitions.specs.Marks.{AreMarks, IsAtMost, Tally, tally_of, is_split, is_open}
use Rattle.siting_definitions.specs.Answer.{Best, Head, upper_cost}
use Rattle.dyadic_square.proofs.Bag.{total, once, count_by-total}
use Rattle.discard_log.specs.declared.node.Node.{Node}
use Rattle.discard_log.specs.Nodes.{mark_of, tree_square}
use Rattle.answer_model.proofs.NodesLemmas.{valid-nodes}
use Rattle.certificate.proofs.LengthLemmas.{few_marks}
use Rattle.pool_core.specs.Begun.{IsResumable, left_count}
use Rattle.pool_core.specs.Job.{Job, IsJob, IsLawful, cost_in, start_cost}
use Rattle.pool_core.specs.State.{split_count}
use Rattle.search_answer.specs.Ending.{answer_of, offer_of}
use Rattle.resume_job.specs.Loading.{AreOfValid}
use Rattle.resume_job.specs.Reopening.{HaveRoom, job_from}

-- ---- counts
pub count_by-marks : (p : Mark → Bool) (ns : List Node) → count_by p (map mark_of ns) ≡ count_by (λ (n : Node). p n.mark) ns
count_by-marks p ns = count_by-total p (map mark_of ns) ∙ each ns ∙ sym (count_by-total (λ (n : Node). p n.mark) ns)
  where
    each : (ns : List Node) → total (λ m. once (p m)) (map mark_of ns) ≡ total (λ (n : Node). once (p n.mark)) ns
    each [] = refl
    each (n ∷ ns) = ap (λ k. once (p n.mark) + k) (each ns)

pub splits_counted : (t : Tally) (ns : List Node) → t ≡ tally_of (map mark_of ns) → t.splits ≡ split_count ns
unfolding tally_of
splits_counted t ns e = ap (λ (k : Tally). k.splits) e ∙ count_by-marks is_split ns

pub open_counted : (t : Tally) (ns : List Node) → t ≡ tally_of (map mark_of ns) → t.open_leaves ≡ left_count ns
unfolding tally_of
open_counted t ns e = ap (λ (k : Tally). k.open_leaves) e ∙ count_by-marks is_open ns

-- few nodes have small counts
pub splits_fit : (ns : List Node) → length ns ≤ 4000001 → split_count ns ≤ 4000001
splits_fit ns few = let most = count_by-le-length (λ (n : Node). is_split n.mark) ns in omega (arith, most, few)

pub open_fits : (ns : List Node) → length ns ≤ 4000001 → left_count ns ≤ 4000001
open_fits ns few = let most = count_by-le-length (λ (n : Node). is_open n.mark) ns in omega (arith, most, few)

-- a valid answer has few nodes
pub few_nodes : (h : Head) (ns : List Node) → AreOfValid h ns → length ns ≤ 4000001
few_nodes h ns of = let few = few_marks (answer_of h ns) of.valid in omega (arith, few, length-map ns mark_of)

-- ---- the job
pub start_is : (best : Option Best) → upper_cost best ≡ cost_in (option_map offer_of best)
start_is None = refl
start_is (Some b) = refl

-- the nodes are those from which a pool of the job may begin
resumable : (h : Head) (ns : List Node) (budget pool : ℕ) (j : Job) → AreOfValid h ns → HaveRoom ns budget pool → j ≡ job_from h budget pool → IsResumable j ns (split_count ns)
resumable h ns budget pool j of room is =
    let nodes = valid-nodes (answer_of h ns) of.valid in
    let t : Tree = nodes.0 in
    let tree : map tree_square ns ≡ preorder t (root_of h.instance) = ap (map tree_square) of.nodes ∙ nodes.2 in
    let marks : AreMarks h.instance h.gap (start_cost (job_from h budget pool)) t (root_of h.instance) (map mark_of ns) =
    subst (λ u. AreMarks h.instance h.gap u t (root_of h.instance) (map mark_of ns)) (start_is h.best) nodes.1 in
    rw is
    (record {
      tree = (t, tree, marks);
      open_most = room.left_open;
      budget = room.splits;
      at_most_nodes = count_by-le-length (λ (n : Node). is_split n.mark) ns;
      at_least_splits = omega arith;
    })

-- the same, by the counts that were taken
pub resumable_by : (h : Head) (ns : List Node) (budget pool splits left : ℕ) (j : Job) → AreOfValid h ns → splits ≡ split_count ns → left ≡ left_count ns → splits ≤ budget → left ≤ pool → j ≡ job_from h budget pool → IsResumable j ns splits
resumable_by h ns budget pool splits left j of splits_are left_are in_budget in_pool is =
    let room : HaveRoom ns budget pool = record { splits = rw (← splits_are) in_budget; left_open = rw (← left_are) in_pool } in
    rw splits_are (resumable h ns budget pool j of room is)

-- the job is lawful
pub lawful : (h : Head) (ns : List Node) (budget pool : ℕ) (j : Job) → AreOfValid h ns → j ≡ job_from h budget pool → IsJob j → IsLawful j
lawful h ns budget pool j of is job =
    let opening : MatchOption (opening_cost h.instance) ⊤ (IsAtMost (start_cost (job_from h budget pool))) =
    subst (λ u. MatchOption (opening_cost h.instance) ⊤ (IsAtMost u)) (start_is h.best) of.valid.head.opening in
    record { job = job; opening = rw is opening }
