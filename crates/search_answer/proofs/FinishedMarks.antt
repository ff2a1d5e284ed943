-- The finished marks of the nodes of a search that ended: they fit the tree, and only what waited is left open.
use Rattle.std.proofs.Common.{◌≡◌, ℕ, ◌+◌, ◌≤◌, ◌==◌, ℤ, ◌+ℤ◌, ◌≤ℤ◌, Bool, true, false, cond, not, List, [], ◌∷◌, ◌++◌, map, length, count_by, length-append, Option, None, Some, refl, sym, ap, ◌∙◌, arith}
use Rattle.std.specs.Prelude.{All, IsPermutation}
use Rattle.std.proofs.lemmas.Bool.{true≢false, false≢true}
use Rattle.std.proofs.lemmas.Int.{ints}
use Rattle.std.proofs.lemmas.List.{length-map}
use Rattle.std.proofs.lemmas.List.Elements.{All-nil, All-cons, All-append, All-weaker, All-head, All-tail}
use Rattle.std.proofs.lemmas.List.Sorted.{All-permutation}
use Rattle.siting_definitions.specs.declared.Mark.{Mark}
use Rattle.siting_definitions.specs.declared.Mark.TheVariants.{Split, Shut, Bounded, Floor, Left}
use Rattle.siting_definitions.specs.Instance.{Instance}
use Rattle.siting_definitions.specs.Square.{Square}
use Rattle.siting_definitions.specs.Bounds.{fine_of}
use Rattle.siting_definitions.specs.Excluded.{is_excluded}
use Rattle.siting_definitions.specs.Marks as marks
use Rattle.siting_definitions.specs.Marks.{IsAtMost, reaches, leaf_mark, SplitFits, MarksFit, is_split, is_leaf, is_open, Tally, tally_of}
use Rattle.siting_definitions.proofs.Integers.{le-int_le, le_trans_ℤ}
use Rattle.dyadic_square.proofs.Bag.{total, once, total-append, total-length, total-permutation, count_by-total}
use Rattle.siting_definitions.proofs.MarkLemmas.{leaf_unsplit, leaf-not_split}
use Rattle.discard_log.specs.declared.node.Node.{Node}
use Rattle.discard_log.specs.Nodes.{tree_square}
use Rattle.bound_heap.specs.declared.entry.Entry.{Entry}
use Rattle.discard_log.specs.Nodes.{mark_of}
use Rattle.pool_core.specs.Job.{Job}
use Rattle.pool_core.specs.State.{split_count, unsplit_count}
use Rattle.pool_core.specs.Sound.{LoggedFits, NodeFits}
use Rattle.pool_core.specs.Begun.{left_of}
use Rattle.pool_core.proofs.CountsKept.{length-permutation}
use Rattle.search_answer.specs.Ending.{finished_mark, finished_node}

-- ---- the finished mark of a leaf
closed_by : (a b c : Bool) (f : ℤ) → (a ≡ false → b ≡ false → c ≡ true) → is_open (cond a Shut (cond b (Bounded f) (cond c (Floor f) (Left f)))) ≡ false
closed_by true b c f h = refl
closed_by false true c f h = refl
closed_by false false true f h = refl
closed_by false false false f h = absurd (false≢true (h refl refl))

-- a leaf that is excluded, settled or of level 0 isn't left open
leaf_closed : (i : Instance) (gap : ℤ) (u : Option ℤ) (s : Square) → (is_excluded i s ≡ false → reaches u (fine_of i s +ℤ gap) ≡ false → (s.level == 0) ≡ true) → is_open (leaf_mark i gap u s) ≡ false
unfolding leaf_mark
leaf_closed i gap u s h = closed_by (is_excluded i s) (reaches u (fine_of i s +ℤ gap)) (s.level == 0) (fine_of i s) h

reaches_from : (u : Option ℤ) (z w : ℤ) → z ≤ℤ w → IsAtMost u z → reaches u w ≡ true
reaches_from None z w le h = absurd h
reaches_from (Some n) z w le h = le-int_le n w (le_trans_ℤ n z w h le)

-- ---- the finished mark of a node
split_kept : (i : Instance) (gap : ℤ) (u : Option ℤ) (s : Square) (m : Mark) → is_split (cond (is_split m) m (leaf_mark i gap u s)) ≡ is_split m
split_kept i gap u s (Split v) = refl
split_kept i gap u s Shut = leaf_unsplit i gap u s
split_kept i gap u s (Bounded b) = leaf_unsplit i gap u s
split_kept i gap u s (Floor b) = leaf_unsplit i gap u s
split_kept i gap u s (Left b) = leaf_unsplit i gap u s

-- a node that is logged is not left open
mark_closed : (i : Instance) (gap : ℤ) (u : Option ℤ) (s : Square) (m : Mark) → LoggedFits i gap u s m → is_open (cond (is_split m) m (leaf_mark i gap u s)) ≡ false
mark_closed i gap u s (Split v) h = refl
mark_closed i gap u s Shut h = leaf_closed i gap u s (λ no short. absurd (true≢false (sym h ∙ no)))
mark_closed i gap u s (Bounded c) h =
    let reached : reaches u (fine_of i s +ℤ gap) ≡ true = reaches_from u (c +ℤ gap) (fine_of i s +ℤ gap) (let le = h.1 in omega (arith, ints, le)) h.2 in
    leaf_closed i gap u s (λ no short. absurd (true≢false (sym reached ∙ short)))
mark_closed i gap u s (Floor b) h = leaf_closed i gap u s (λ no short. ap (λ n. n == 0) h.1)
mark_closed i gap u s (Left b) h = absurd h

-- the finished mark of a logged node isn't one of a square left open
pub node_closed : (j : Job) (u : Option ℤ) (n : Node) → NodeFits j.instance j.gap u n → is_open (finished_mark j u n) ≡ false
node_closed j u n h = mark_closed j.instance j.gap u n.square n.mark h

-- a finished mark is a split where the node is
pub node_split : (j : Job) (u : Option ℤ) (n : Node) → is_split (finished_mark j u n) ≡ is_split n.mark
node_split j u n = split_kept j.instance j.gap u n.square n.mark

-- a node stays the same square of the tree
pub node_square : (j : Job) (u : Option ℤ) (n : Node) → tree_square (finished_node j u n) ≡ tree_square n
node_square j u n = ap (λ (b : Bool). record { square = n.square; is_split = b }) (node_split j u n)

-- nodes stay the same squares of the tree
pub squares_same : (j : Job) (u : Option ℤ) (ns : List Node) → map tree_square (map (finished_node j u) ns) ≡ map tree_square ns
squares_same j u [] = refl
squares_same j u (n ∷ ns) =
    let head = node_square j u n in
    let tail = squares_same j u ns in
    cc

-- ---- all marks fit the tree
-- where the node is split, its mark is right
abbrev SplitKept : Instance → ℤ → Option ℤ → Node → Type 0
SplitKept i gap u n = is_split n.mark ≡ true → SplitFits i gap u n.square n.mark

split_fits : (i : Instance) (gap : ℤ) (u : Option ℤ) (s : Square) (m : Mark) → LoggedFits i gap u s m → is_split m ≡ true → SplitFits i gap u s m
split_fits i gap u s (Split v) h said = h
split_fits i gap u s Shut h said = absurd (false≢true said)
split_fits i gap u s (Bounded b) h said = absurd (false≢true said)
split_fits i gap u s (Floor b) h said = absurd (false≢true said)
split_fits i gap u s (Left b) h said = absurd (false≢true said)

mark_fits : (i : Instance) (gap : ℤ) (u : Option ℤ) (s : Square) (m : Mark) → (is_split m ≡ true → SplitFits i gap u s m) → marks.MarkFits i gap u (record { square = s; is_split = is_split m }) (cond (is_split m) m (leaf_mark i gap u s))
mark_fits i gap u s (Split v) h = h refl
mark_fits i gap u s Shut h = refl
mark_fits i gap u s (Bounded b) h = refl
mark_fits i gap u s (Floor b) h = refl
mark_fits i gap u s (Left b) h = refl

all_fit : (j : Job) (u : Option ℤ) (ns : List Node) → All (SplitKept j.instance j.gap u) ns → MarksFit j.instance j.gap u (map tree_square ns) (map mark_of (map (finished_node j u) ns))
all_fit j u [] h = tt
all_fit j u (n ∷ ns) h = (
  mark_fits j.instance j.gap u n.square n.mark (All-head (SplitKept j.instance j.gap u) n ns h),
  all_fit j u ns (All-tail (SplitKept j.instance j.gap u) n ns h),
)

left_kept : (i : Instance) (gap : ℤ) (u : Option ℤ) (es : List Entry) → All (SplitKept i gap u) (map left_of es)
left_kept i gap u [] = All-nil (SplitKept i gap u)
left_kept i gap u (e ∷ es) = All-cons (SplitKept i gap u) (left_of e) (map left_of es) (λ said. absurd (false≢true said)) (left_kept i gap u es)

-- The marks of the nodes of a tree, in an order of theirs: where it is the tree's preorder, the marks fit there.
pub marks_fit : (j : Job) (u : Option ℤ) (ns ls : List Node) (es : List Entry) → All (NodeFits j.instance j.gap u) ns → IsPermutation (ns ++ map left_of es) ls → MarksFit j.instance j.gap u (map tree_square ls) (map mark_of (map (finished_node j u) ls))
marks_fit j u ns ls es h same =
    let i = j.instance in
    let gap = j.gap in
    let kept = All-weaker (NodeFits i gap u) (SplitKept i gap u) (λ n. split_fits i gap u n.square n.mark) ns h in
    all_fit j u ls
    (All-permutation (SplitKept i gap u) (ns ++ map left_of es) ls same (All-append (SplitKept i gap u) ns (map left_of es) kept (left_kept i gap u es)))

-- ---- counts of the marks
-- a number of a finished mark, over all nodes: over the logged ones, and over those that waited
abbrev over : Job → Option ℤ → (Mark → Bool) → List Node → List Entry → ℕ
over j u p ns es = total (λ n. once (p (finished_mark j u n))) ns + total (λ e. once (p (finished_mark j u (left_of e)))) es

total-finished : (j : Job) (u : Option ℤ) (p : Mark → Bool) (ns : List Node) → count_by p (map mark_of (map (finished_node j u) ns)) ≡ total (λ n. once (p (finished_mark j u n))) ns
total-finished j u p ns = count_by-total p (map mark_of (map (finished_node j u) ns)) ∙ each ns
  where
    each : (ns : List Node) → total (λ m. once (p m)) (map mark_of (map (finished_node j u) ns)) ≡ total (λ n. once (p (finished_mark j u n))) ns
    each [] = refl
    each (n ∷ ns) = ap (λ k. once (p (finished_mark j u n)) + k) (each ns)

total-waiting : (f : Node → ℕ) (es : List Entry) → total f (map left_of es) ≡ total (λ e. f (left_of e)) es
total-waiting f [] = refl
total-waiting f (e ∷ es) = ap (λ k. f (left_of e) + k) (total-waiting f es)

counted : (j : Job) (u : Option ℤ) (p : Mark → Bool) (ns ls : List Node) (es : List Entry) → IsPermutation (ns ++ map left_of es) ls → count_by p (map mark_of (map (finished_node j u) ls)) ≡ over j u p ns es
counted j u p ns ls es same =
    let f : Node → ℕ = λ n. once (p (finished_mark j u n)) in
    total-finished j u p ls
    ∙ total-permutation f (ns ++ map left_of es) ls same
    ∙ total-append f ns (map left_of es)
    ∙ ap (λ k. total f ns + k) (total-waiting f es)

total-same : {X : Type 0} (f g : X → ℕ) → ((x : X) → f x ≡ g x) → (xs : List X) → total f xs ≡ total g xs
total-same f g each [] = refl
total-same f g each (x ∷ xs) = omega (arith, each x, total-same f g each xs)

-- a total of nothing
pub total-none : {X : Type 0} (f : X → ℕ) → ((x : X) → f x ≡ 0) → (xs : List X) → total f xs ≡ 0
total-none f each [] = refl
total-none f each (x ∷ xs) = omega (arith, each x, total-none f each xs)

once-most : (b : Bool) → once b ≤ 1
once-most true = omega arith
once-most false = omega arith

total-most : {X : Type 0} (f : X → ℕ) → ((x : X) → f x ≤ 1) → (xs : List X) → total f xs ≤ length xs
total-most f each [] = omega arith
total-most f each (x ∷ xs) = omega (arith, each x, total-most f each xs)

leaf_node : (j : Job) (u : Option ℤ) (n : Node) → is_leaf (finished_mark j u n) ≡ not (is_split n.mark)
leaf_node j u n = leaf-not_split (finished_mark j u n) ∙ ap not (node_split j u n)

none_open : (j : Job) (u : Option ℤ) (ns : List Node) → All (NodeFits j.instance j.gap u) ns → total (λ n. once (is_open (finished_mark j u n))) ns ≡ 0
none_open j u [] h = refl
none_open j u (n ∷ ns) h =
    let fits = NodeFits j.instance j.gap u in
    omega (arith, ap once (node_closed j u n (All-head fits n ns h)), none_open j u ns (All-tail fits n ns h))

-- what is counted of the marks, of nodes that were logged and of entries that waited
pub record TallyFits (t : Tally) (ns : List Node) (es : List Entry) : Type 0 where
  pub nodes : t.nodes ≡ length ns + length es
  pub splits : t.splits ≡ split_count ns
  pub leaves : t.leaves ≡ unsplit_count ns + length es
  pub open_leaves : t.open_leaves ≤ length es

-- what is counted of the finished marks
pub tally_fits : (j : Job) (u : Option ℤ) (ns ls : List Node) (es : List Entry) → All (NodeFits j.instance j.gap u) ns → IsPermutation (ns ++ map left_of es) ls → TallyFits (tally_of (map mark_of (map (finished_node j u) ls))) ns es
unfolding tally_of
tally_fits j u ns ls es h same =
    let fin : Node → Mark = λ n. finished_mark j u n in
    let length_is : length ls ≡ length ns + length es = length-permutation (ns ++ map left_of es) ls same ∙ length-append ns (map left_of es) ∙ ap (λ k. length ns + k) (length-map es left_of) in
    record {
      nodes = length-map (map (finished_node j u) ls) mark_of ∙ length-map ls (finished_node j u) ∙ length_is;
      splits = omega (
        arith,
        counted j u is_split ns ls es same,
        total-same (λ n. once (is_split (fin n))) (λ n. once (is_split n.mark)) (λ n. ap once (node_split j u n)) ns,
        count_by-total (λ (n : Node). is_split n.mark) ns,
        total-none (λ e. once (is_split (fin (left_of e)))) (λ e. ap once (node_split j u (left_of e))) es,
      );
      leaves = omega (
        arith,
        counted j u is_leaf ns ls es same,
        total-same (λ n. once (is_leaf (fin n))) (λ n. once (not (is_split n.mark))) (λ n. ap once (leaf_node j u n)) ns,
        count_by-total (λ (n : Node). not (is_split n.mark)) ns,
        total-same (λ e. once (is_leaf (fin (left_of e)))) (λ _. 1) (λ e. ap once (leaf_node j u (left_of e))) es,
        total-length es,
      );
      open_leaves = omega (
        arith,
        counted j u is_open ns ls es same,
        none_open j u ns h,
        total-most (λ e. once (is_open (fin (left_of e)))) (λ e. once-most (is_open (fin (left_of e)))) es,
      );
    }
