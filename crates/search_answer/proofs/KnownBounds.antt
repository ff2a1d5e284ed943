-- The nodes that a pool ends with have the fine bounds of their squares, by which their finished marks are made.
use Rattle.std.proofs.Common.{◌≡◌, ℕ, ◌<◌, ℤ, true, false, cond, List, [], ◌∷◌, ◌++◌, map, length, get_or, set, Option, refl, sym, ap, ◌∙◌, subst, arith}
use Rattle.std.specs.Prelude.{All, IsPermutation}
use Rattle.std.specs.List.{swap}
use Rattle.std.proofs.lemmas.Bool.{cond-true, cond-false}
use Rattle.std.proofs.lemmas.List.{map-append, length-map, get_or-map, map-set}
use Rattle.std.proofs.lemmas.List.Elements.{All-append, All-map, All-weaker}
use Rattle.std.proofs.lemmas.List.Sorted.{All-permutation, IsPermutation-refl, IsPermutation-keeps, IsPermutation-swap, IsPermutation-trans}
use Rattle.siting_definitions.specs.declared.Mark.{Mark}
use Rattle.siting_definitions.specs.declared.Mark.TheVariants.{Split, Shut, Bounded, Floor, Left}
use Rattle.siting_definitions.specs.Instance.{Instance}
use Rattle.siting_definitions.specs.Square.{Square}
use Rattle.siting_definitions.specs.Bounds.{fine_of}
use Rattle.siting_definitions.specs.Excluded.{is_excluded}
use Rattle.siting_definitions.specs.Point.{Pt}
use Rattle.siting_definitions.specs.Tree.{Tree, Fits, preorder}
use Rattle.siting_definitions.specs.Marks.{is_split, leaf_mark, tally_of}
use Rattle.siting_definitions.specs.Answer.{Head}
use Rattle.discard_log.specs.declared.node.Node.{Node}
use Rattle.discard_log.specs.Nodes.{mark_of, tree_square}
use Rattle.bound_heap.specs.declared.entry.Entry.{Entry}
use Rattle.answer_model.specs.Leaf.{mark_by_bound}
use Rattle.pool_core.specs.Job.{Job, job_root, cost_in}
use Rattle.pool_core.specs.State.{State, squares_of}
use Rattle.pool_core.specs.Sound.{LoggedFits, NodeFits, IsFinished}
use Rattle.pool_core.specs.Begun.{left_of}
use Rattle.pool_core.specs.Logged.{bounded_node, with_bound}
use Rattle.pool_core.proofs.LoggedLemmas.{bounded_squares}
use Rattle.search_answer.specs.Ending.{IsKnownMark, IsKnownNode, finished_node, head_by}
use Rattle.search_answer.proofs.EndingLemmas.{IsMade}

-- ---- finished marks by bounds
shut_mark : (i : Instance) (gap : ℤ) (u : Option ℤ) (s : Square) → is_excluded i s ≡ true → Shut ≡ leaf_mark i gap u s
unfolding leaf_mark
shut_mark i gap u s excluded = sym (cond-true (is_excluded i s) Shut (mark_by_bound gap u s.level (fine_of i s)) excluded)

-- the finished mark of a leaf that isn't excluded is the one by its fine bound
bound_mark : (i : Instance) (gap : ℤ) (u : Option ℤ) (s : Square) (b : ℤ) → is_excluded i s ≡ false → b ≡ fine_of i s → mark_by_bound gap u s.level b ≡ leaf_mark i gap u s
unfolding leaf_mark
bound_mark i gap u s b inside fine =
    ap (mark_by_bound gap u s.level) fine ∙ sym (cond-false (is_excluded i s) Shut (mark_by_bound gap u s.level (fine_of i s)) inside)

-- what the code makes of a node's mark
abbrev pub remade : Job → Option ℤ → Square → Mark → Mark
remade j u s (Split seen) = Split seen
remade j u s Shut = Shut
remade j u s (Bounded b) = mark_by_bound j.gap u s.level b
remade j u s (Floor b) = mark_by_bound j.gap u s.level b
remade j u s (Left b) = leaf_mark j.instance j.gap u s

-- is its finished mark
pub remade_finished : (j : Job) (u : Option ℤ) (s : Square) (m : Mark) → IsKnownMark j.instance s m → remade j u s m ≡ cond (is_split m) m (leaf_mark j.instance j.gap u s)
remade_finished j u s (Split seen) known = refl
remade_finished j u s Shut known = shut_mark j.instance j.gap u s known
remade_finished j u s (Bounded b) known = bound_mark j.instance j.gap u s b known.0 known.1
remade_finished j u s (Floor b) known = bound_mark j.instance j.gap u s b known.0 known.1
remade_finished j u s (Left b) known = refl

-- the mark that is made by a node's bound is its finished mark
pub remade_by : (j : Job) (u : Option ℤ) (s : Square) (m : Mark) (b gap : ℤ) (level : ℕ) (made : Mark) → IsKnownMark j.instance s m → remade j u s m ≡ mark_by_bound j.gap u s.level b → gap ≡ j.gap → level ≡ s.level → made ≡ mark_by_bound gap u level b
    → made ≡ cond (is_split m) m (leaf_mark j.instance j.gap u s)
remade_by j u s m b gap level made known by_bound gap_is level_is is =
    is ∙ ap (λ g. mark_by_bound g u level b) gap_is ∙ ap (λ l. mark_by_bound j.gap u l b) level_is ∙ sym by_bound ∙ remade_finished j u s m known

-- ---- the nodes of a pool
known_mark : (i : Instance) (gap : ℤ) (u : Option ℤ) (s : Square) (m : Mark) → LoggedFits i gap u s m → IsKnownMark i s (with_bound (fine_of i s) m)
known_mark i gap u s (Split seen) fits = tt
known_mark i gap u s Shut fits = fits
known_mark i gap u s (Bounded c) fits = (fits.0, refl)
known_mark i gap u s (Floor b) fits = (fits.0, fits.2)
known_mark i gap u s (Left b) fits = absurd fits

-- the nodes of a search that ended tell what their finished marks need
pub all_known : (j : Job) (s : State) (best : Option (Pt × ℤ)) (ls : List Node) → IsFinished j s best → IsPermutation (map (bounded_node s.job.instance) s.nodes ++ map left_of s.waiting) ls → All (IsKnownNode j.instance) ls
all_known j s best ls finished same =
    let i = s.job.instance in
    let K = IsKnownNode i in
    let logged : All K (map (bounded_node i) s.nodes) =
    All-map K (bounded_node i) s.nodes
    (All-weaker (NodeFits i s.job.gap (cost_in best)) (λ n. K (bounded_node i n)) (λ n. known_mark i s.job.gap (cost_in best) n.square n.mark) s.nodes finished.sound.nodes) in
    let left : All K (map left_of s.waiting) = All-map K left_of s.waiting (each s.waiting) in
    subst (λ (k : Job). All (IsKnownNode k.instance) ls) finished.job
    (All-permutation K (map (bounded_node i) s.nodes ++ map left_of s.waiting) ls same (All-append K (map (bounded_node i) s.nodes) (map left_of s.waiting) logged left))
  where
    each : (es : List Entry) → All (λ e. IsKnownNode s.job.instance (left_of e)) es
    each es k d below = tt

-- ---- nodes that are listed with their bounds, without them
map_swap : {X Y : Type 0} (f : X → Y) (xs : List X) (i j : ℕ) → i < length xs → j < length xs → map f (swap xs i j) ≡ swap (map f xs) i j
map_swap f [] i j p q = absurd (omega arith)
map_swap f (d ∷ xs) i j p q =
    let l = d ∷ xs in
    map-set f (set l i (get_or l j d)) j (get_or l i d)
    ∙ (λ t. set ((map-set f l i (get_or l j d) ∙ ap (set (map f l) i) (sym (get_or-map f l j d (f d) q))) t) j (sym (get_or-map f l i d (f d) p) t))

-- a list of which this one is the map, and which has the elements of the other in an order of theirs
pub record IsMapOf {X Y : Type 0} (f : X → Y) (xs : List X) (ys : List Y) : Type 0 where
  pub of : List X
  pub same : IsPermutation xs of
  pub is : map f of ≡ ys

-- an order of a mapped list is the map of an order
pub map_ordered : {X Y : Type 0} (f : X → Y) (xs : List X) (ys : List Y) → IsPermutation (map f xs) ys → IsMapOf f xs ys
map_ordered f xs ys =
    IsPermutation-keeps (map f xs) (IsMapOf f xs) (record { of = xs; same = IsPermutation-refl xs; is = refl })
    (λ l i j p q h.
    let long : length l ≡ length h.of = ap length (sym h.is) ∙ length-map h.of f in
    let at_i : i < length h.of = omega arith in
    let at_j : j < length h.of = omega arith in
    record {
      of = swap h.of i j;
      same = IsPermutation-trans xs h.of (swap h.of i j) h.same (IsPermutation-swap h.of (swap h.of i j) i j at_i at_j refl);
      is = map_swap f h.of i j at_i at_j ∙ ap (λ k. swap k i j) h.is;
    }) ys

bounded_left : (i : Instance) (es : List Entry) → map (bounded_node i) (map left_of es) ≡ map left_of es
bounded_left i [] = refl
bounded_left i (e ∷ es) = ap (λ ns. left_of e ∷ ns) (bounded_left i es)

finished_mark_same : (j : Job) (u : Option ℤ) (s : Square) (f : ℤ) (m : Mark) → cond (is_split (with_bound f m)) (with_bound f m) (leaf_mark j.instance j.gap u s) ≡ cond (is_split m) m (leaf_mark j.instance j.gap u s)
finished_mark_same j u s f (Split seen) = refl
finished_mark_same j u s f Shut = refl
finished_mark_same j u s f (Bounded c) = refl
finished_mark_same j u s f (Floor b) = refl
finished_mark_same j u s f (Left b) = refl

-- the finished node of one with its bound is that of the node
finished_same : (j : Job) (u : Option ℤ) (i : Instance) (ns : List Node) → map (finished_node j u) (map (bounded_node i) ns) ≡ map (finished_node j u) ns
finished_same j u i [] = refl
finished_same j u i (n ∷ ns) =
    let head : finished_node j u (bounded_node i n) ≡ finished_node j u n
    = ap (λ (m : Mark). let k : Node = record { square = n.square; mark = m } in k) (finished_mark_same j u n.square (fine_of i n.square) n.mark) in
    let tail = finished_same j u i ns in
    cc

-- the nodes of the state as they are listed, without their bounds
pub unbounded : (s : State) (ls : List Node) → IsPermutation (map (bounded_node s.job.instance) s.nodes ++ map left_of s.waiting) ls → IsMapOf (bounded_node s.job.instance) (s.nodes ++ map left_of s.waiting) ls
unbounded s ls same =
    let i = s.job.instance in
    let whole : map (bounded_node i) (s.nodes ++ map left_of s.waiting) ≡ map (bounded_node i) s.nodes ++ map left_of s.waiting
    = map-append (bounded_node i) s.nodes (map left_of s.waiting) ∙ ap (λ ns. map (bounded_node i) s.nodes ++ ns) (bounded_left i s.waiting) in
    map_ordered (bounded_node i) (s.nodes ++ map left_of s.waiting) ls (subst (λ ks. IsPermutation ks ls) (sym whole) same)

-- what is made of the nodes with their bounds is made of the nodes
pub made_of : (j : Job) (s : State) (best : Option (Pt × ℤ)) (ls : List Node) (h : Head) (ns : List Node) → IsFinished j s best → (b : IsMapOf (bounded_node s.job.instance) (s.nodes ++ map left_of s.waiting) ls)
    → ((t : Tree) → Fits t (job_root s.job).level → IsPermutation (squares_of s) (preorder t (job_root s.job)) → map tree_square ls ≡ preorder t (job_root s.job))
    → ns ≡ map (finished_node j (cost_in best)) ls → h ≡ head_by j best (tally_of (map mark_of ns)) s.stop s.leases → IsMade j s best b.of h ns
made_of j s best ls h ns finished b sorts made head =
    let i = s.job.instance in
    let u = cost_in best in
    record {
      listed = record {
        finished = finished;
        nodes = b.same;
        preorder_is = λ t fits tree. sym (bounded_squares i b.of) ∙ ap (map tree_square) b.is ∙ sorts t fits tree;
      };
      nodes = made ∙ ap (map (finished_node j u)) (sym b.is) ∙ finished_same j u i b.of;
      head = head;
    }
