use Rattle.std.proofs.Common.{◌≡◌, ℕ, suc, ◌≤◌, ℤ, pos, List, [], ◌∷◌, ◌++◌, map, length, Some, refl, ap, ◌∙◌, subst, rules, arith}
use Rattle.std.specs.List.{All}
use Rattle.std.specs.List.Sorted.{IsPermutation}
use Rattle.std.proofs.lemmas.List.Elements.{All-cons}
use Rattle.std.proofs.lemmas.List.Sorted.{All-permutation, IsPermutation-refl, length_permutation}
use Rattle.std.proofs.lemmas.List.Sums.{count_by-le-length}
use Rattle.siting_definitions.specs.declared.Mark.TheVariants.{Split}
use Rattle.siting_definitions.specs.Marks.{IsCalledFor, MarkFits, MarksFit, leaf_mark}
use Rattle.siting_definitions.specs.Square.{Square, quarter_of}
use Rattle.siting_definitions.specs.Tree.{Tree, Leaf, Branch, Fits, preorder}
use Rattle.siting_definitions.proofs.MarkLemmas.{leaf_unsplit}
use Rattle.discard_log.specs.Nodes.{tree_square}
use Rattle.discard_log.specs.declared.node.Node.{Node}
use Rattle.pool_core.specs.Job.{Job, job_root, start_cost}
use Rattle.pool_core.specs.Begun.{IsResumable, is_left_open}
use Rattle.pool_core.proofs.Resumed.{nodes_size}
use Rattle.pool_core.proofs.tests.nodes.Goals as goal

abbrev NodeFits : Job → Node → Type 0
NodeFits j n = MarkFits j.instance j.gap (start_cost j) (tree_square n) n.mark

marks_fit : (j : Job) (ns : List Node) → All (NodeFits j) ns → MarksFit j.instance j.gap (start_cost j) (map tree_square ns) (map (λ (n : Node). n.mark) ns)
marks_fit j [] h = tt
marks_fit j (n ∷ ns) h = (h 0 n (omega arith), marks_fit j ns (λ k d l. h (suc k) d (omega arith)))

abbrev leaf_node : Job → ℕ → Node
leaf_node j k = record { square = quarter_of (job_root j) k; mark = leaf_mark j.instance j.gap (start_cost j) (quarter_of (job_root j) k) }

abbrev split_node : Job → ℤ → Node
split_node j v = record { square = job_root j; mark = Split (Some v) }

abbrev tree_nodes : Job → ℤ → List Node
tree_nodes j v = split_node j v ∷ leaf_node j 0 ∷ leaf_node j 1 ∷ leaf_node j 2 ∷ leaf_node j 3 ∷ []

abbrev one_cut : Tree
one_cut = Branch Leaf Leaf Leaf Leaf

leaf_fits : (j : Job) (k : ℕ) → NodeFits j (leaf_node j k)
leaf_fits j k = rw (leaf_unsplit j.instance j.gap (start_cost j) (quarter_of (job_root j) k)) refl

nodes_fit : (j : Job) (v : ℤ) → IsCalledFor j.instance j.gap (start_cost j) (job_root j) (Some v) → All (NodeFits j) (tree_nodes j v)
nodes_fit j v called =
    All-cons (NodeFits j) (split_node j v) (leaf_node j 0 ∷ leaf_node j 1 ∷ leaf_node j 2 ∷ leaf_node j 3 ∷ []) called
    (All-cons (NodeFits j) (leaf_node j 0) (leaf_node j 1 ∷ leaf_node j 2 ∷ leaf_node j 3 ∷ []) (leaf_fits j 0)
    (All-cons (NodeFits j) (leaf_node j 1) (leaf_node j 2 ∷ leaf_node j 3 ∷ []) (leaf_fits j 1)
    (All-cons (NodeFits j) (leaf_node j 2) (leaf_node j 3 ∷ []) (leaf_fits j 2)
    (All-cons (NodeFits j) (leaf_node j 3) [] (leaf_fits j 3) (λ k d l. absurd (omega arith))))))

tree_squares : (j : Job) (v : ℤ) → map tree_square (tree_nodes j v) ≡ preorder one_cut (job_root j)
tree_squares j v =
    rw (leaf_unsplit j.instance j.gap (start_cost j) (quarter_of (job_root j) 0), leaf_unsplit j.instance j.gap (start_cost j) (quarter_of (job_root j) 1), leaf_unsplit j.instance j.gap (start_cost j) (quarter_of (job_root j) 2), leaf_unsplit j.instance j.gap (start_cost j) (quarter_of (job_root j) 3)) refl

resumable : (j : Job) (v : ℤ) (logged ns : List Node) → IsCalledFor j.instance j.gap (start_cost j) (job_root j) (Some v) → 1 ≤ j.budget → 5 ≤ j.pool → logged ≡ tree_nodes j v → IsPermutation logged ns
    → ((t : Tree) → Fits t (job_root j).level → IsPermutation (map tree_square logged) (preorder t (job_root j)) → map tree_square ns ≡ preorder t (job_root j)) → IsResumable j ns 1
resumable j v logged ns called budget pool is moved sorts =
    let all : IsPermutation (tree_nodes j v) ns = rw is at moved in
    let fits : Fits one_cut (job_root j).level = (called.level, tt, tt, tt, tt) in
    let same : IsPermutation (map tree_square logged) (preorder one_cut (job_root j)) = rw (is, tree_squares j v) (IsPermutation-refl (preorder one_cut (job_root j))) in
    let tree : map tree_square ns ≡ preorder one_cut (job_root j) = sorts one_cut fits same in
    let marks = marks_fit j ns (All-permutation (NodeFits j) (tree_nodes j v) ns all (nodes_fit j v called)) in
    let count : length ns ≡ 5 = length_permutation (tree_nodes j v) ns all in
    record {
      tree = (one_cut, tree, (fits, subst (λ ss. MarksFit j.instance j.gap (start_cost j) ss (map (λ (n : Node). n.mark) ns)) tree marks));
      open_most = omega (arith, count_by-le-length is_left_open ns);
      budget = budget;
      at_most_nodes = omega arith;
      at_least_splits = omega (arith, nodes_size one_cut (job_root j) ns tree);
    }

leaf_is : (j : Job) (root q : Square) (n : Node) (k : ℕ) → root ≡ job_root j → q ≡ quarter_of root k → n ≡ record { square = q; mark = leaf_mark j.instance j.gap (start_cost j) q } → n ≡ leaf_node j k
leaf_is j root q n k at quarter is = rw (is, quarter, at) refl

five_nodes : (none one two three four five : List Node) (a b c d e : Node) → none ≡ [] → one ≡ none ++ a ∷ [] → two ≡ one ++ b ∷ [] → three ≡ two ++ c ∷ [] → four ≡ three ++ d ∷ [] → five ≡ four ++ e ∷ [] → five ≡ a ∷ b ∷ c ∷ d ∷ e ∷ []
five_nodes none one two three four five a b c d e p q r s t u = rw (u, t, s, r, q, p) refl

nodes_are : (a b c d e a' b' c' d' e' : Node) → a ≡ a' → b ≡ b' → c ≡ c' → d ≡ d' → e ≡ e' → let xs : List Node = a ∷ b ∷ c ∷ d ∷ e ∷ [] in let ys : List Node = a' ∷ b' ∷ c' ∷ d' ∷ e' ∷ [] in xs ≡ ys
nodes_are a b c d e a' b' c' d' e' p q r s t = cc

at_root : (root other : Square) (logged ns : List Node) → root ≡ other → ((t : Tree) → Fits t root.level → IsPermutation (map tree_square logged) (preorder t root) → map tree_square ns ≡ preorder t root)
    → (t : Tree) → Fits t other.level → IsPermutation (map tree_square logged) (preorder t other) → map tree_square ns ≡ preorder t other
at_root root other logged ns at sorts =
    subst (λ (r : Square). (t : Tree) → Fits t r.level → IsPermutation (map tree_square logged) (preorder t r) → map tree_square ns ≡ preorder t r) at sorts

pub returns : goal.returns
returns g c =
    let j = c.args.job.now in
    let root = c.job.inside.root in
    let at : root ≡ job_root j = c.job.invariant.root_is ∙ ap job_root c.job.view_is in
    let empty : c.expect-log.result.nodes ≡ [] = search rules in
    let called = subst (λ (r : Square). IsCalledFor j.instance j.gap (start_cost j) r (Some (pos 185364))) at c.check_split.ensures in
    let first : record { square = root; mark = Split (Some (pos 185364)) } ≡ split_node j (pos 185364) = ap (λ (r : Square). let n : Node = record { square = r; mark = Split (Some (pos 185364)) } in n) at in
    let logged = five_nodes _ _ _ _ _ _ _ _ _ _ _ empty c.push.ensures.nodes c.push-2.ensures.nodes c.push-3.ensures.nodes c.push-4.ensures.nodes c.push-5.ensures.nodes in
    let is : c.push-5.new.self.nodes ≡ tree_nodes j (pos 185364) = logged ∙ nodes_are _ _ _ _ _ _ _ _ _ _ first
    (leaf_is j root c.quarter.result c.leaf.result 0 at c.quarter.ensures c.leaf.ensures)
    (leaf_is j root c.quarter-2.result c.leaf-2.result 1 at c.quarter-2.ensures c.leaf-2.ensures)
    (leaf_is j root c.quarter-3.result c.leaf-3.result 2 at c.quarter-3.ensures c.leaf-3.ensures)
    (leaf_is j root c.quarter-4.result c.leaf-4.result 3 at c.quarter-4.ensures c.leaf-4.ensures) in
    resumable j (pos 185364) c.push-5.new.self.nodes c.in_preorder.result called c.requires.budget c.requires.pool is c.in_preorder.ensures.same
    (at_root root (job_root j) c.push-5.new.self.nodes c.in_preorder.result at c.in_preorder.ensures.preorder)
