-- The least centre bound of the leaves of a finished tree.
use Rattle.std.proofs.Common.{◌≡◌, ℕ, ◌+◌, ◌<◌, ◌≤◌, zero, suc, ℤ, ◌≤ℤ◌, true, false, List, [], ◌∷◌, map, length, drop, get_or, Option, None, Some, refl, sym, ap, ◌∙◌, subst, ◌⊎◌, inl, inr, drop-cons, add-one, arith}
use Rattle.std.specs.Prelude.{⊤, MatchOption, IsTrue, option_map}
use Rattle.std.specs.Int.{int_min}
use Rattle.std.proofs.lemmas.Bool.{cases_Bool, cond-true, cond-false}
use Rattle.std.proofs.lemmas.Int.{clamps}
use Rattle.std.proofs.lemmas.List.Elements.{All-nil, All-cons, All-get_or}
use borrow.Author.Differences.{ints, same_in}
use Rattle.siting_definitions.specs.declared.Mark.{Mark}
use Rattle.siting_definitions.specs.Point.{Point}
use Rattle.siting_definitions.specs.Instance.{Instance}
use Rattle.siting_definitions.specs.Permitted.{permits}
use Rattle.siting_definitions.specs.Square.{Square, holds}
use Rattle.siting_definitions.specs.Bounds.{fine_of}
use Rattle.siting_definitions.specs.Excluded.{is_excluded}
use Rattle.siting_definitions.specs.Sites.{root_of}
use Rattle.siting_definitions.specs.Marks.{leaf_mark, SplitFits, MarkFits, MarksFit, lesser, bound_of, least_of, is_split, tally_of}
use Rattle.siting_definitions.specs.Answer.{Answer, IsValid, upper_cost}
use Rattle.siting_definitions.proofs.MarkLemmas.{shut_leaf, open_bound, split_bound, lesser-assoc, lesser-none}
use Rattle.discard_log.specs.declared.node.Node.{Node}
use Rattle.discard_log.specs.Nodes.{tree_square, mark_of}
use Rattle.dyadic_square.proofs.Bag.{total, once}
use Rattle.dyadic_square.proofs.Trees.{held, total-held}
use Rattle.dyadic_square.proofs.Tiling.{holds_closed_from_holds}
use Rattle.answer_model.specs.Nodes.{nodes_of}
use Rattle.answer_model.proofs.NodesLemmas.{valid-nodes}
use Rattle.answer_model.proofs.ClaimsLemmas.{IsReached, reached_left, reached_right, fits_split, fits_leaf, IsBounded, understood}
use Rattle.centre_bound.specs.Cut.{centre_bound_of}
use Rattle.centre_bound.specs.Polished.{HasFineBound, HaveFineBounds, leaf_bound, least_centre_bound, IsPolished}
use Rattle.centre_bound.proofs.CutLemmas.{centre_bound_of-bounds, fine_of-le}

-- ---- the bound of a node's mark is the fine bound of its square
leaf_fine : (i : Instance) (gap : ℤ) (u : Option ℤ) (s : Square) → MatchOption (bound_of (leaf_mark i gap u s)) ⊤ (λ b. b ≡ fine_of i s)
leaf_fine i gap u s = by_excluded (cases_Bool (is_excluded i s))
  where
    by_excluded : ((is_excluded i s ≡ true) ⊎ (is_excluded i s ≡ false)) → MatchOption (bound_of (leaf_mark i gap u s)) ⊤ (λ b. b ≡ fine_of i s)
    by_excluded (inl shut) = rw (shut_leaf i gap u s shut) tt
    by_excluded (inr open_) = rw (open_bound i gap u s open_) refl

node_fine : (i : Instance) (gap : ℤ) (u : Option ℤ) (n : Node) → MarkFits i gap u (tree_square n) n.mark → HasFineBound i n
node_fine i gap u n fits = by_split (cases_Bool (is_split n.mark))
  where
    by_split : ((is_split n.mark ≡ true) ⊎ (is_split n.mark ≡ false)) → HasFineBound i n
    by_split (inl split) =
        let f : SplitFits i gap u n.square n.mark = fits_split (is_split n.mark) _ _ split fits in
        rw (split_bound i gap u n.square n.mark f) tt
    by_split (inr leaf) =
        let e : n.mark ≡ leaf_mark i gap u n.square = fits_leaf (is_split n.mark) _ _ leaf fits in
        subst (λ (m : Mark). MatchOption (bound_of m) ⊤ (λ b. b ≡ fine_of i n.square)) (sym e) (leaf_fine i gap u n.square)

nodes_fine : (i : Instance) (gap : ℤ) (u : Option ℤ) (ns : List Node) → MarksFit i gap u (map tree_square ns) (map mark_of ns) → HaveFineBounds i ns
nodes_fine i gap u [] fits = All-nil (HasFineBound i)
nodes_fine i gap u (n ∷ ns) fits = All-cons (HasFineBound i) n ns (node_fine i gap u n fits.0) (nodes_fine i gap u ns fits.1)

-- the marks of a valid answer's nodes fit their squares
nodes_fit : (a : Answer) → IsValid a → MarksFit a.head.instance a.head.gap (upper_cost a.head.best) (map tree_square (nodes_of a)) (map mark_of (nodes_of a))
nodes_fit a valid =
    let nodes = valid-nodes a valid in
    rw (nodes.2, nodes.3) nodes.1.1

-- and their bounds are the fine bounds of their squares
pub valid_fine : (a : Answer) → IsValid a → HaveFineBounds a.head.instance (nodes_of a)
valid_fine a valid = nodes_fine a.head.instance a.head.gap (upper_cost a.head.best) (nodes_of a) (nodes_fit a valid)

-- a node of the list, by its index
pub fine_at : (i : Instance) (ns : List Node) (k : ℕ) (n : Node) → HaveFineBounds i ns → k < length ns → n ≡ get_or ns k n → HasFineBound i n
fine_at i ns k n fine within at = subst (HasFineBound i) (sym at) (All-get_or (HasFineBound i) ns k n within fine)

-- ---- the lesser of bounds that may be absent
lesser_same : (a o : Option ℤ) → lesser a (lesser a o) ≡ lesser a o
lesser_same None o = refl
lesser_same (Some a) None = ap Some (same_in _ _ (omega (arith, ints, clamps)))
lesser_same (Some a) (Some b) = ap Some (same_in _ _ (omega (arith, ints, clamps)))

lesser_swap : (a b o : Option ℤ) → lesser a (lesser b o) ≡ lesser b (lesser a o)
lesser_swap None b o = refl
lesser_swap (Some a) None o = refl
lesser_swap (Some a) (Some b) None = ap Some (same_in _ _ (omega (arith, ints, clamps)))
lesser_swap (Some a) (Some b) (Some c) = ap Some (same_in _ _ (omega (arith, ints, clamps)))

-- a node's bound lowers the least of all no further
pub known_bound : (i : Instance) (ns : List Node) (k : ℕ) (n : Node) → k < length ns → n ≡ get_or ns k n → lesser (leaf_bound i n) (least_centre_bound i ns) ≡ least_centre_bound i ns
known_bound i [] k n within at = absurd (omega arith)
known_bound i (m ∷ ns) zero n within at = rw at (lesser_same (leaf_bound i m) (least_centre_bound i ns))
known_bound i (m ∷ ns) (suc k) n within at =
    lesser_swap (leaf_bound i n) (leaf_bound i m) (least_centre_bound i ns) ∙ ap (lesser (leaf_bound i m)) (known_bound i ns k n (omega arith) at)

-- a step of the loop
pub lowered_once : (i : Instance) (ns : List Node) (k : ℕ) (n : Node) (before after first : Option ℤ) → k < length ns → n ≡ get_or ns k n
    → after ≡ lesser before (leaf_bound i n)
    → lesser before (least_centre_bound i (drop k ns)) ≡ first → lesser after (least_centre_bound i (drop (k + 1) ns)) ≡ first
lowered_once i ns k n before after first within at e h =
    let all : drop k ns ≡ n ∷ drop (suc k) ns = drop-cons ns k n within ∙ ap (λ m. m ∷ drop (suc k) ns) (sym at) in
    rw (e, add-one) (lesser-assoc before (leaf_bound i n) (least_centre_bound i (drop (suc k) ns)) ∙ ap (λ ns. lesser before (least_centre_bound i ns)) (sym all) ∙ h)

-- at the end of the loop
drop_all : (ns : List Node) (k : ℕ) → length ns ≤ k → drop k ns ≡ []
drop_all [] zero h = refl
drop_all [] (suc k) h = refl
drop_all (n ∷ ns) zero h = absurd (omega arith)
drop_all (n ∷ ns) (suc k) h = drop_all ns k (omega arith)

pub least_at_end : (i : Instance) (ns : List Node) (k : ℕ) (o r : Option ℤ) → length ns ≤ k → lesser o (least_centre_bound i (drop k ns)) ≡ r → o ≡ r
least_at_end i ns k o r h e = sym (lesser-none o) ∙ ap (λ ns. lesser o (least_centre_bound i ns)) (sym (drop_all ns k h)) ∙ e

-- a number that is at most the fine bound is at most the centre bound
pub lesser_by_fine : (i : Instance) (s : Square) (found fine : ℤ) → fine ≡ fine_of i s → found ≤ℤ fine → found ≡ int_min found (centre_bound_of i s)
lesser_by_fine i s found fine e most =
    let f = fine_of-le i s in
    let g : found ≤ℤ fine_of i s = rw (← e) most in
    same_in _ _ (omega (arith, ints, clamps, f, g))

-- ---- the law
-- both bounds of a node
record IsRaised (i : Instance) (a b : Option ℤ) : Type 0 where
  pub raised : MatchOption a (b ≡ None) (λ x. (y : ℤ) × (b ≡ Some y) × (x ≤ℤ y))

none_raised : (i : Instance) → IsRaised i None None
none_raised i = record { raised = refl }

node_raised : (i : Instance) (n : Node) → HasFineBound i n → IsRaised i (bound_of n.mark) (leaf_bound i n)
node_raised i n fine = by_bound (bound_of n.mark) fine
  where
    by_bound : (o : Option ℤ) → MatchOption o ⊤ (λ b. b ≡ fine_of i n.square) → IsRaised i o (option_map (λ b. centre_bound_of i n.square) o)
    by_bound None h = record { raised = refl }
    by_bound (Some b) h = record { raised = (centre_bound_of i n.square, refl, subst (λ b. b ≤ℤ centre_bound_of i n.square) (sym h) (fine_of-le i n.square)) }

lesser_raised : (i : Instance) (a b x y : Option ℤ) → IsRaised i a x → IsRaised i b y → IsRaised i (lesser a b) (lesser x y)
lesser_raised i None b x y h k = subst (λ x. IsRaised i b (lesser x y)) (sym h.raised) k
lesser_raised i (Some a) None x y h k = rw k.raised (rw (lesser-none x) h)
lesser_raised i (Some a) (Some b) x y h k =
    let hx = h.raised in
    let ky = k.raised in
    rw (hx.1, ky.1) (record { raised = (int_min hx.0 ky.0, refl, (let e = hx.2 in let f = ky.2 in omega (arith, ints, clamps, e, f))) })

all_raised : (i : Instance) (gap : ℤ) (u : Option ℤ) (ns : List Node) → MarksFit i gap u (map tree_square ns) (map mark_of ns) → IsRaised i (least_of (map mark_of ns)) (least_centre_bound i ns)
all_raised i gap u [] fits = none_raised i
all_raised i gap u (n ∷ ns) fits =
    lesser_raised i (bound_of n.mark) (least_of (map mark_of ns)) (leaf_bound i n) (least_centre_bound i ns) (node_raised i n (node_fine i gap u n fits.0)) (all_raised i gap u ns fits.1)

-- the centre bound of a leaf that holds the point reaches its cost
node_reached : (i : Instance) (p : Point) (gap : ℤ) (u : Option ℤ) (n : Node) (o : Option ℤ) (more : ℕ) → IsBounded i p → MarkFits i gap u (tree_square n) n.mark
    → 0 < held p (tree_square n) + more → (0 < more → IsReached i p o) → IsReached i p (lesser (leaf_bound i n) o)
node_reached i p gap u n o more h fits some rest = by_cases (cases_Bool (is_split n.mark)) (cases_Bool (holds n.square p))
  where
    by_cases : ((is_split n.mark ≡ true) ⊎ (is_split n.mark ≡ false)) → ((holds n.square p ≡ true) ⊎ (holds n.square p ≡ false)) → IsReached i p (lesser (leaf_bound i n) o)
    by_cases (inl split) holding =
        let e : held p (tree_square n) ≡ 0 = cond-true _ _ _ split in reached_right i p (leaf_bound i n) o (rest (omega (arith, e)))
    by_cases (inr leaf) (inl here) =
        let m : n.mark ≡ leaf_mark i gap u n.square = fits_leaf (is_split n.mark) _ _ leaf fits in
        let b : bound_of n.mark ≡ Some (fine_of i n.square) = ap bound_of m ∙ open_bound i gap u n.square (h.open_square n.square here) in
        rw b (reached_left i p (centre_bound_of i n.square) o (centre_bound_of-bounds i n.square p (holds_closed_from_holds n.square p here)))
    by_cases (inr leaf) (inr away) =
        let e : held p (tree_square n) ≡ 0 = cond-false _ _ _ leaf ∙ cond-false _ _ _ away in reached_right i p (leaf_bound i n) o (rest (omega (arith, e)))

all_reached : (i : Instance) (p : Point) (gap : ℤ) (u : Option ℤ) (ns : List Node) → IsBounded i p → MarksFit i gap u (map tree_square ns) (map mark_of ns)
    → 0 < total (held p) (map tree_square ns) → IsReached i p (least_centre_bound i ns)
all_reached i p gap u [] h fits some = absurd (omega arith)
all_reached i p gap u (n ∷ ns) h fits some =
    node_reached i p gap u n (least_centre_bound i ns) (total (held p) (map tree_square ns)) h fits.0 some (all_reached i p gap u ns h fits.1)

polished_by : (i : Instance) (a b : Option ℤ) → IsRaised i a b → ((p : Point) → IsTrue (permits i p) → IsReached i p b) → IsPolished i a b
polished_by i None b h reach = subst (IsPolished i None) (sym h.raised) tt
polished_by i (Some x) b h reach =
    let y = h.raised in
    subst (IsPolished i (Some x)) (sym y.1) (y.2, λ p permitted. subst (IsReached i p) y.1 (reach p permitted))

-- the least centre bound of a valid answer's leaves is a bound, and at least the answer's own
pub polished_bounds : (a : Answer) → IsValid a → IsPolished a.head.instance a.head.bound (least_centre_bound a.head.instance (nodes_of a))
unfolding tally_of
polished_bounds a valid =
    let i = a.head.instance in
    let ns : List Node = nodes_of a in
    let nodes = valid-nodes a valid in
    let t = nodes.0 in
    let fits = nodes_fit a valid in
    let h = understood i valid.ranges.instance in
    let bound : a.head.bound ≡ least_of (map mark_of ns) = valid.end_fits.bound ∙ ap least_of (sym nodes.3) in
    polished_by i a.head.bound (least_centre_bound i ns) (subst (λ o. IsRaised i o (least_centre_bound i ns)) (sym bound) (all_raised i a.head.gap (upper_cost a.head.best) ns fits))
    (λ p permitted.
    let e : total (held p) (map tree_square ns) ≡ 1 = ap (total (held p)) nodes.2 ∙ total-held t (root_of i) p nodes.1.0 ∙ ap once (h.root p permitted) in
    all_reached i p a.head.gap (upper_cost a.head.best) ns (h.bounded p permitted) fits (omega (arith, e)))
