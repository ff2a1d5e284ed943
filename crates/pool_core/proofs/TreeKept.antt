-- The squares of a state stay those of one tree: at each step they are the same, or a leaf is cut.
use Rattle.std.proofs.Common.{◌≡◌, ℕ, ◌+◌, ◌<◌, Bool, true, false, cond, List, [], ◌∷◌, ◌++◌, map, Option, ℤ, refl, sym, ap, ◌∙◌, subst, arith}
use Rattle.std.specs.List.{Contains}
use Rattle.std.specs.List.Sorted.{IsPermutation}
use Rattle.std.proofs.lemmas.List.Sorted.{IsPermutation-trans, Contains-permutation}
use Rattle.siting_definitions.specs.Square.{Square, holds, Tiles}
use Rattle.siting_definitions.specs.Tree.{Tree, Fits, TreeSquare, preorder, leaves}
use Rattle.dyadic_square.proofs.Bag.{total, once, SameTotals, count_by-total, total-append, total-permutation, contains_from_totals, permutation_from_totals}
use Rattle.dyadic_square.proofs.Trees.{same_tree_square, tree_square_decides, held, total-leaves, total-held, leaf_at, gained, cut_leaf}
use Rattle.discard_log.specs.declared.node.Node.{Node}
use Rattle.discard_log.specs.Nodes.{tree_square}
use Rattle.bound_heap.specs.declared.entry.Entry.{Entry}
use Rattle.pool_core.specs.declared.verdict.Finding.{Finding}
use Rattle.pool_core.specs.declared.verdict.Finding.TheVariants.{Excluded, Bounded, Raise, Part, Floor}
use Rattle.pool_core.specs.Job.{Job, job_root}
use Rattle.pool_core.specs.State.{State, entry_square, squares_of}
use Rattle.pool_core.specs.Machine.{Leases, Returns, nodes_from, entries_from, is_kept}
use Rattle.pool_core.specs.Sound.{AreTree}
use Rattle.pool_core.proofs.VerdictLemmas.{FindingFits}

-- ---- totals over the squares of a state
-- a total over a mapped list
pub total-map : {X Y : Type 0} (f : Y → ℕ) (g : X → Y) → (xs : List X) → total f (map g xs) ≡ total (λ x. f (g x)) xs
total-map f g [] = refl
total-map f g (x ∷ xs) = ap (λ n. f (g x) + n) (total-map f g xs)

-- a total over the squares of entries
abbrev pub total_entries : (TreeSquare → ℕ) → List Entry → ℕ
total_entries f es = total (λ (e : Entry). f (entry_square e)) es

-- a total over the squares of nodes
abbrev pub total_nodes : (TreeSquare → ℕ) → List Node → ℕ
total_nodes f ns = total (λ (n : Node). f (tree_square n)) ns

-- a total over the squares of a state
pub total-squares : (f : TreeSquare → ℕ) (s : State) → total f (squares_of s) ≡ total_entries f s.waiting + total_entries f s.leased + total_nodes f s.nodes
total-squares f s =
    omega (
      arith,
      total-append f (map entry_square s.waiting) (map entry_square s.leased ++ map tree_square s.nodes),
      total-append f (map entry_square s.leased) (map tree_square s.nodes),
      total-map f entry_square s.waiting,
      total-map f entry_square s.leased,
      total-map f tree_square s.nodes,
    )

-- ---- the same squares
-- the squares are those of a tree of this root
abbrev pub AreTreeOf : Square → List TreeSquare → Type 0
AreTreeOf root squares = (t : Tree) × Fits t root.level × IsPermutation squares (preorder t root)

-- squares of a tree in another order
pub tree-same : (root : Square) (xs ys : List TreeSquare) → SameTotals ys xs → AreTreeOf root xs → AreTreeOf root ys
tree-same root xs ys same tree = (
  tree.0,
  tree.1,
  IsPermutation-trans ys xs (preorder tree.0 root) (permutation_from_totals same_tree_square tree_square_decides ys xs same) tree.2,
)

-- a leaf that is split leaves a tree
pub tree-cut : (root q : Square) (xs ys : List TreeSquare) → 0 < q.level → Contains xs (leaf_at q) → ((f : TreeSquare → ℕ) → total f ys + f (leaf_at q) ≡ total f xs + gained f q) → AreTreeOf root xs → AreTreeOf root ys
tree-cut root q xs ys above at totals tree =
    let cut = cut_leaf tree.0 root q above tree.1 (Contains-permutation xs (preorder tree.0 root) (leaf_at q) tree.2 at) in
    let same : SameTotals ys (preorder cut.0 root) = λ f. omega (arith, totals f, cut.1.totals f, total-permutation f xs (preorder tree.0 root) tree.2) in
    (cut.0, cut.1.fits, permutation_from_totals same_tree_square tree_square_decides ys (preorder cut.0 root) same)

-- ---- the steps
-- a lease keeps the tree
pub tree_lease : (e : Entry) (before after : State) → Leases e before after → AreTree before → AreTree after
tree_lease e before after h tree =
    let same : SameTotals (squares_of after) (squares_of before) = λ f.
    let g : Entry → ℕ = λ x. f (entry_square x) in
    let nodes : total_nodes f after.nodes ≡ total_nodes f before.nodes = ap (total_nodes f) h.nodes in
    omega (
      arith,
      total-squares f before,
      total-squares f after,
      total-permutation g before.waiting (e ∷ after.waiting) h.waiting,
      total-permutation g (e ∷ before.leased) after.leased h.leased,
      nodes,
    ) in
    subst (λ (j : Job). AreTreeOf (job_root j) (squares_of after)) (sym h.job) (tree-same (job_root before.job) (squares_of before) (squares_of after) same tree)

-- what comes back, what joins those that wait, and what joins the nodes
pub returned-totals : (e : Entry) (seen : Option ℤ) (finding : Finding) (before after : State) → Returns e seen finding before after → (f : TreeSquare → ℕ) → total f (squares_of after) + f (entry_square e) ≡ total f (squares_of before) + (total_entries f (cond (is_kept before finding) (e ∷ []) (entries_from e.square finding)) + total_nodes f (cond (is_kept before finding) [] (nodes_from e.square seen finding)))
returned-totals e seen finding before after h f =
    let g : Entry → ℕ = λ x. f (entry_square x) in
    let entries = cond (is_kept before finding) (e ∷ []) (entries_from e.square finding) in
    let added = cond (is_kept before finding) [] (nodes_from e.square seen finding) in
    let nodes : total_nodes f after.nodes ≡ total_nodes f before.nodes + total_nodes f added =
    ap (total_nodes f) h.nodes ∙ total-append (λ (n : Node). f (tree_square n)) before.nodes added in
    omega (
      arith,
      total-squares f before,
      total-squares f after,
      total-permutation g before.leased (e ∷ after.leased) h.leased,
      total-permutation g (entries ++ before.waiting) after.waiting h.waiting,
      total-append g entries before.waiting,
      nodes,
    )

at_job : (before after : State) → after.job ≡ before.job → AreTreeOf (job_root before.job) (squares_of after) → AreTree after
at_job before after same tree = subst (λ (j : Job). AreTreeOf (job_root j) (squares_of after)) (sym same) tree

-- where the entry's square comes back as it was
tree_unmoved : (e : Entry) (seen : Option ℤ) (finding : Finding) (before after : State) → Returns e seen finding before after → ((f : TreeSquare → ℕ) → total_entries f (cond (is_kept before finding) (e ∷ []) (entries_from e.square finding)) + total_nodes f (cond (is_kept before finding) [] (nodes_from e.square seen finding)) ≡ f (entry_square e)) → AreTree before → AreTree after
tree_unmoved e seen finding before after h back tree =
    let same : SameTotals (squares_of after) (squares_of before) = λ f. omega (arith, returned-totals e seen finding before after h f, back f) in
    at_job before after h.job (tree-same (job_root before.job) (squares_of before) (squares_of after) same tree)

-- a leased entry's square is one of the squares
leased_square : (e : Entry) (s : State) (rest : List Entry) → IsPermutation s.leased (e ∷ rest) → Contains (squares_of s) (entry_square e)
leased_square e s rest leased =
    let others = map entry_square s.waiting ++ (map entry_square rest ++ map tree_square s.nodes) in
    let same : SameTotals (entry_square e ∷ others) (squares_of s) = λ f.
    omega (
      arith,
      total-squares f s,
      total-permutation (λ (x : Entry). f (entry_square x)) s.leased (e ∷ rest) leased,
      total-append f (map entry_square s.waiting) (map entry_square rest ++ map tree_square s.nodes),
      total-append f (map entry_square rest) (map tree_square s.nodes),
      total-map f entry_square s.waiting,
      total-map f entry_square rest,
      total-map f tree_square s.nodes,
    ) in
    contains_from_totals same_tree_square tree_square_decides (entry_square e) others (squares_of s) same

-- a part, made or not
tree_part : (e : Entry) (seen : Option ℤ) (b : ℤ) (before after : State) (k : Bool) → is_kept before (Part b) ≡ k → Returns e seen (Part b) before after → 0 < e.square.level → AreTree before → AreTree after
tree_part e seen b before after true is h above tree =
    tree_unmoved e seen (Part b) before after h
    (λ f.
    subst (λ k. total_entries f (cond k (e ∷ []) (entries_from e.square (Part b))) + total_nodes f (cond k [] (nodes_from e.square seen (Part b))) ≡ f (entry_square e)) (sym is) (omega arith))
    tree
tree_part e seen b before after false is h above tree =
    let totals : (f : TreeSquare → ℕ) → total f (squares_of after) + f (leaf_at e.square) ≡ total f (squares_of before) + gained f e.square = λ f.
    let moved = returned-totals e seen (Part b) before after h f in
    let cut = subst (λ k. total f (squares_of after) + f (entry_square e) ≡ total f (squares_of before) + (total_entries f (cond k (e ∷ []) (entries_from e.square (Part b))) + total_nodes f (cond k [] (nodes_from e.square seen (Part b))))) is moved in
    omega (arith, cut) in
    at_job before after h.job
    (tree-cut (job_root before.job) e.square (squares_of before) (squares_of after) above (leased_square e before after.leased h.leased) totals tree)

-- a return keeps or grows the tree
pub tree_return : (e : Entry) (seen : Option ℤ) (finding : Finding) (before after : State) → FindingFits before.job e seen finding → Returns e seen finding before after → AreTree before → AreTree after
tree_return e seen Excluded before after fits h tree = tree_unmoved e seen Excluded before after h (λ f. omega arith) tree
tree_return e seen (Bounded b) before after fits h tree = tree_unmoved e seen (Bounded b) before after h (λ f. omega arith) tree
tree_return e seen (Raise b) before after fits h tree = tree_unmoved e seen (Raise b) before after h (λ f. omega arith) tree
tree_return e seen (Part b) before after fits h tree = tree_part e seen b before after (is_kept before (Part b)) refl h fits.1 tree
tree_return e seen (Floor b) before after fits h tree = tree_unmoved e seen (Floor b) before after h (λ f. omega arith) tree

-- ---- tiling
-- the leaves of a tree tile its root
pub tree-tiles : (s : State) → AreTree s → Tiles (leaves (squares_of s)) (job_root s.job)
tree-tiles s tree p =
    let root = job_root s.job in
    let squares = squares_of s in
    count_by-total (λ (q : Square). holds q p) (leaves squares) ∙ total-leaves (λ q. once (holds q p)) squares
    ∙ sym (total-permutation (held p) squares (preorder tree.0 root) tree.2) ∙ total-held tree.0 root p tree.1
