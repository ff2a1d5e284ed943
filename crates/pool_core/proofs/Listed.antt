-- The nodes that a pool ends with are the squares of its state, where nothing is leased.
use Rattle.std.proofs.Common.{◌≡◌, List, [], ◌∷◌, ◌++◌, map, refl, sym, ap, ◌∙◌, subst}
use Rattle.std.specs.List.Sorted.{IsPermutation}
use Rattle.std.proofs.lemmas.List.{map-append}
use Rattle.std.proofs.lemmas.List.Sorted.{IsPermutation-append_comm, IsPermutation-trans}
use Rattle.siting_definitions.specs.Square.{Square}
use Rattle.siting_definitions.specs.Tree.{Tree, Fits, preorder}
use Rattle.bound_heap.specs.declared.entry.Entry.{Entry}
use Rattle.discard_log.specs.declared.node.Node.{Node}
use Rattle.discard_log.specs.Nodes.{tree_square}
use Rattle.pool_core.specs.Job.{job_root}
use Rattle.pool_core.specs.State.{State, entry_square, squares_of}
use Rattle.pool_core.specs.Begun.{left_of}

left_squares : (es : List Entry) → map tree_square (map left_of es) ≡ map entry_square es
left_squares [] = refl
left_squares (e ∷ es) = ap (λ ss. entry_square e ∷ ss) (left_squares es)

-- the squares of nodes that are the same squares of the tree as those of the state
all_squares : (s : State) (ns : List Node) → s.leased ≡ [] → map tree_square ns ≡ map tree_square s.nodes → IsPermutation (map tree_square (ns ++ map left_of s.waiting)) (squares_of s)
all_squares s ns none same =
    let ts = map tree_square s.nodes in
    let ws = map entry_square s.waiting in
    let parts : map tree_square (ns ++ map left_of s.waiting) ≡ ts ++ ws
    = map-append tree_square ns (map left_of s.waiting) ∙ ap (λ ss. ss ++ map tree_square (map left_of s.waiting)) same ∙ ap (λ ss. ts ++ ss) (left_squares s.waiting) in
    subst (λ ss. IsPermutation ss (squares_of s)) (sym parts)
    (subst (λ (es : List Entry). IsPermutation (ts ++ ws) (ws ++ (map entry_square es ++ ts))) (sym none) (IsPermutation-append_comm ts ws))

-- such nodes come in preorder
pub in_preorder : (s : State) (root : Square) (ns result : List Node) (t : Tree) → s.leased ≡ [] → map tree_square ns ≡ map tree_square s.nodes → root ≡ job_root s.job
    → ((t : Tree) → Fits t root.level → IsPermutation (map tree_square (ns ++ map left_of s.waiting)) (preorder t root) → map tree_square result ≡ preorder t root)
    → Fits t (job_root s.job).level → IsPermutation (squares_of s) (preorder t (job_root s.job)) → map tree_square result ≡ preorder t (job_root s.job)
in_preorder s root ns result t none same at sorts fits tree =
    let listed = ns ++ map left_of s.waiting in
    let all = IsPermutation-trans (map tree_square listed) (squares_of s) (preorder t (job_root s.job)) (all_squares s ns none same) tree in
    subst (λ (r : Square). ((t : Tree) → Fits t r.level → IsPermutation (map tree_square listed) (preorder t r) → map tree_square result ≡ preorder t r) → map tree_square result ≡ preorder t (job_root s.job)) (sym at) (λ sort. sort t fits all) sorts
