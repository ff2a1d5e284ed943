-- What the log of a pool keeps of a square that comes back, and that raised entries have fine bounds.
use Rattle.std.proofs.Common.{◌≡◌, ℕ, zero, suc, ◌+◌, ◌<◌, ◌≤◌, ◌==◌, nat_lt, ℤ, pos, ◌+ℤ◌, ◌-ℤ◌, Bool, true, false, cond, not, ◌&&◌, List, [], ◌∷◌, ◌++◌, map, filter, take, drop, length, get_or, Option, None, Some, refl, sym, ap, ◌∙◌, subst, arith}
use Rattle.std.specs.Prelude.{⊤, All, IsPermutation}
use Rattle.std.specs.Int.{int_max}
use Rattle.std.proofs.lemmas.Bool.{cond_both, false≢true}
use Rattle.std.proofs.lemmas.List.{drop-drop, length-drop, map-append}
use Rattle.std.proofs.lemmas.List.Elements.{All-nil, All-cons, All-head, All-tail, All-append, filter-append}
use Rattle.std.proofs.lemmas.List.Sorted.{All-permutation}
use Rattle.siting_definitions.specs.declared.Mark.{Mark}
use Rattle.siting_definitions.specs.declared.Mark.TheVariants.{Split, Shut, Left, Bounded as BoundedMark, Floor as FloorMark}
use Rattle.siting_definitions.specs.Instance.{Instance, weight}
use Rattle.siting_definitions.specs.Square.{Square, quarter_of}
use Rattle.siting_definitions.specs.Bounds.{coarse_of, fine_of}
use Rattle.siting_definitions.specs.Excluded.{is_excluded}
use Rattle.siting_definitions.specs.Marks.{is_split, reaches}
use Rattle.discard_log.specs.declared.node.Node.{Node}
use Rattle.discard_log.specs.Nodes.{tree_square, with_mark}
use Rattle.bound_heap.specs.declared.entry.Entry.{Entry}
use Rattle.pool_core.specs.declared.verdict.Bounds.{Bounds}
use Rattle.pool_core.specs.declared.verdict.Bounds.TheVariants as bounds
use Rattle.pool_core.specs.declared.verdict.Finding.{Finding}
use Rattle.pool_core.specs.declared.verdict.Finding.TheVariants.{Excluded, Bounded, Raise, Part, Floor}
use Rattle.pool_core.specs.Job.{Job}
use Rattle.pool_core.specs.Verdict.{bounds_of, fine_in, finding_of, finding_of_coarse, finding_of_fine}
use Rattle.pool_core.specs.Machine.{entries_from, nodes_from}
use Rattle.pool_core.specs.Logged.{IsRaisedRight, bound_for, bound_from, bounded_node, is_bounded, settled_bounds, with_bound, with_bounds, with_bounds_from}

-- where a finding raises a square, it is to its fine bound
abbrev Raises : Instance → Square → Finding → Type 0
Raises i s Excluded = ⊤
Raises i s (Bounded b) = ⊤
Raises i s (Raise b) = b ≡ fine_of i s
Raises i s (Part b) = ⊤
Raises i s (Floor b) = ⊤

raises-fine : (j : Job) (s : Square) (b : ℤ) (seen : Option ℤ) → Raises j.instance s (finding_of_fine j s b seen)
raises-fine j s b seen =
    cond_both (reaches seen (b +ℤ j.gap)) (Bounded b) (cond (s.level == 0) (Floor b) (Part b)) (Raises j.instance s) (λ _. tt)
    (λ _. cond_both (s.level == 0) (Floor b) (Part b) (Raises j.instance s) (λ _. tt) (λ _. tt))

raises-coarse : (j : Job) (s : Square) (c : ℤ) (seen : Option ℤ) → Raises j.instance s (finding_of_coarse j s c (fine_of j.instance s) seen)
raises-coarse j s c seen =
    let cut = nat_lt 0 s.level && not (reaches seen (((c +ℤ pos (weight j.instance.points)) -ℤ pos 1) +ℤ j.gap)) in
    let raise : Finding = Raise (fine_of j.instance s) in
    cond_both (reaches seen (c +ℤ j.gap)) (Bounded c) (cond cut (Part c) raise) (Raises j.instance s) (λ _. tt)
    (λ _. cond_both cut (Part c) raise (Raises j.instance s) (λ _. tt) (λ _. refl))

-- What is kept by a finding is the fine bound of the square, if the gap settled it, and what waits by it is raised to the fine bound,
-- if it is raised.
pub record IsKeptOf (i : Instance) (s : Square) (seen : Option ℤ) (f : Finding) (fine : Option ℤ) : Type 0 where
  pub bounds : bound_from f fine ≡ settled_bounds i (nodes_from s seen f)
  pub entries : All (IsRaisedRight i) (entries_from s f)

fresh_entry : Square → ℤ → Entry
fresh_entry s b = record { square = s; bound = b; raised = false }

-- quarters aren't raised
quarters_right : (i : Instance) (s : Square) (b : ℤ) → All (IsRaisedRight i) (entries_from s (Part b))
unfolding fresh_entry
quarters_right i s b =
    let q : ℕ → Entry = λ k. fresh_entry (quarter_of s k) b in
    let R = IsRaisedRight i in
    All-cons R (q 0) (q 1 ∷ q 2 ∷ q 3 ∷ []) (λ yes. absurd (false≢true yes))
    (All-cons R (q 1) (q 2 ∷ q 3 ∷ []) (λ yes. absurd (false≢true yes))
    (All-cons R (q 2) (q 3 ∷ []) (λ yes. absurd (false≢true yes)) (All-cons R (q 3) [] (λ yes. absurd (false≢true yes)) (All-nil R))))

kept-none : (i : Instance) (s : Square) (seen : Option ℤ) → IsKeptOf i s seen Excluded None
kept-none i s seen = record { bounds = refl; entries = All-nil (IsRaisedRight i) }

kept-some : (i : Instance) (s : Square) (seen : Option ℤ) (f : Finding) (b : ℤ) → b ≡ fine_of i s → Raises i s f → IsKeptOf i s seen f (Some b)
kept-some i s seen Excluded b fine raises = record { bounds = refl; entries = All-nil (IsRaisedRight i) }
kept-some i s seen (Bounded c) b fine raises = record { bounds = ap (λ (z : ℤ). z ∷ []) fine; entries = All-nil (IsRaisedRight i) }
kept-some i s seen (Raise c) b fine raises =
    let e : Entry = record { square = s; bound = c; raised = true } in
    record { bounds = refl; entries = All-cons (IsRaisedRight i) e [] (λ _. raises) (All-nil (IsRaisedRight i)) }
kept-some i s seen (Part c) b fine raises = record { bounds = refl; entries = quarters_right i s c }
kept-some i s seen (Floor c) b fine raises = record { bounds = refl; entries = All-nil (IsRaisedRight i) }

-- the finding on an entry that has the fine bound of its square, if it is raised
kept-found : (j : Job) (e : Entry) (seen : Option ℤ) → IsRaisedRight j.instance e → IsKeptOf j.instance e.square seen (finding_of j e seen) (fine_in (bounds_of j e))
unfolding finding_of bounds_of
kept-found j e seen right = split (is_excluded i s) e.raised refl
  where
    i : Instance
    i = j.instance

    s : Square
    s = e.square

    c : ℤ
    c = int_max e.bound (coarse_of i s)

    split : (x r : Bool) → e.raised ≡ r
        → IsKeptOf i s seen (cond x Excluded (cond r (finding_of_fine j s e.bound seen) (finding_of_coarse j s c (fine_of j.instance s) seen)))
        (fine_in (cond x bounds.Excluded (cond r (bounds.Raised e.bound) (bounds.Both c (fine_of i s)))))
    split true r is = kept-none i s seen
    split false true is = kept-some i s seen (finding_of_fine j s e.bound seen) e.bound (right is) (raises-fine j s e.bound seen)
    split false false is = kept-some i s seen (finding_of_coarse j s c (fine_of j.instance s) seen) (fine_of i s) refl (raises-coarse j s c seen)

-- the same of the verdict that was given
pub kept-by : (j j' : Job) (e e' : Entry) (seen : Option ℤ) (f : Finding) (bs : Bounds) → j ≡ j' → e ≡ e' → IsRaisedRight j.instance e → f ≡ finding_of j' e' seen → bs ≡ bounds_of j' e' → IsKeptOf j.instance e.square seen f (fine_in bs)
kept-by j j' e e' seen f bs job same right found known =
    let f_is : f ≡ finding_of j e seen = found ∙ ap (λ (k : Job). finding_of k e' seen) (sym job) ∙ ap (λ (x : Entry). finding_of j x seen) (sym same) in
    let bs_are : bs ≡ bounds_of j e = known ∙ ap (λ (k : Job). bounds_of k e') (sym job) ∙ ap (λ (x : Entry). bounds_of j x) (sym same) in
    subst (λ (g : Finding). IsKeptOf j.instance e.square seen g (fine_in bs)) (sym f_is)
    (subst (λ (b : Bounds). IsKeptOf j.instance e.square seen (finding_of j e seen) (fine_in b)) (sym bs_are) (kept-found j e seen right))

-- an entry that is taken out of such ones is such a one
pub right_taken : (i : Instance) (e : Entry) (before after : List Entry) → All (IsRaisedRight i) before → IsPermutation before (e ∷ after) → IsRaisedRight i e × All (IsRaisedRight i) after
right_taken i e before after all moved =
    let here = All-permutation (IsRaisedRight i) before (e ∷ after) moved all in
    (All-head (IsRaisedRight i) e after here, All-tail (IsRaisedRight i) e after here)

-- such ones that join such ones
pub right_joined : (i : Instance) (new before after : List Entry) → All (IsRaisedRight i) new → All (IsRaisedRight i) before → IsPermutation (new ++ before) after → All (IsRaisedRight i) after
right_joined i new before after all others moved =
    All-permutation (IsRaisedRight i) (new ++ before) after moved (All-append (IsRaisedRight i) new before all others)

bound_split : (f : ℤ) (m : Mark) → is_split (with_bound f m) ≡ is_split m
bound_split f (Split v) = refl
bound_split f Shut = refl
bound_split f (BoundedMark c) = refl
bound_split f (FloorMark b) = refl
bound_split f (Left b) = refl

-- a node with its fine bound is split where it was
pub bounded_split : (i : Instance) (n : Node) → is_split (bounded_node i n).mark ≡ is_split n.mark
bounded_split i n = bound_split (fine_of i n.square) n.mark

-- nodes with their fine bounds are the same squares of the tree
pub bounded_squares : (i : Instance) (ns : List Node) → map tree_square (map (bounded_node i) ns) ≡ map tree_square ns
bounded_squares i [] = refl
bounded_squares i (n ∷ ns) =
    let head : tree_square (bounded_node i n) ≡ tree_square n = ap (λ (b : Bool). record { square = n.square; is_split = b }) (bounded_split i n) in
    let tail = bounded_squares i ns in
    cc

-- the bounds of nodes that others follow
pub settled-append : (i : Instance) (ms ns : List Node) → settled_bounds i (ms ++ ns) ≡ settled_bounds i ms ++ settled_bounds i ns
settled-append i ms ns =
    let f : Node → ℤ = λ n. fine_of i n.square in
    let p : Node → Bool = λ n. is_bounded n.mark in
    ap (map f) (filter-append p ms ns) ∙ map-append f (filter p ms) (filter p ns)

-- ---- bounds that are put in
abbrev node_at : Square → Mark → Node
node_at s m = record { square = s; mark = m }

-- a node for which there is no bound stays
stays_head : (s : Square) (m : Mark) (ns : List Node) (fs : List ℤ) → bound_for m fs ≡ None → with_bounds (node_at s m ∷ ns) fs ≡ node_at s m ∷ with_bounds ns fs
stays_head s m ns [] none = refl
stays_head s (Split v) ns (f ∷ fs) none = refl
stays_head s Shut ns (f ∷ fs) none = refl
stays_head s (BoundedMark c) ns (f ∷ fs) none = cc
stays_head s (FloorMark b) ns (f ∷ fs) none = refl
stays_head s (Left b) ns (f ∷ fs) none = refl

stays_at : (k : ℕ) (ns : List Node) (fs : List ℤ) (d : Node) → k < length ns → bound_for (get_or ns k d).mark fs ≡ None → with_bounds_from k ns fs ≡ with_bounds_from (suc k) ns fs
stays_at k [] fs d below none = absurd (omega (arith, below))
stays_at zero (n ∷ ns) fs d below none = stays_head n.square n.mark ns fs none
stays_at (suc k) (n ∷ ns) fs d below none = ap (λ ms. n ∷ ms) (stays_at k ns fs d (omega (arith, below)) none)

-- a node for which there is a bound has the first one
puts_head : (s : Square) (m : Mark) (ns : List Node) (fs : List ℤ) (f : ℤ) → bound_for m fs ≡ Some f → with_bounds (node_at s m ∷ ns) fs ≡ node_at s (BoundedMark f) ∷ with_bounds ns (drop 1 fs)
puts_head s (Split v) ns fs f some = cc
puts_head s Shut ns fs f some = cc
puts_head s (BoundedMark c) ns [] f some = cc
puts_head s (BoundedMark c) ns (g ∷ fs) f some =
    let same : g ≡ f = cc in
    ap (λ (z : ℤ). node_at s (BoundedMark z) ∷ with_bounds ns fs) same
puts_head s (FloorMark b) ns fs f some = cc
puts_head s (Left b) ns fs f some = cc

puts_at : (k : ℕ) (ns : List Node) (fs : List ℤ) (f : ℤ) (d : Node) → k < length ns → bound_for (get_or ns k d).mark fs ≡ Some f → with_bounds_from k ns fs ≡ with_bounds_from (suc k) (with_mark ns k (BoundedMark f)) (drop 1 fs)
puts_at k [] fs f d below some = absurd (omega (arith, below))
puts_at zero (n ∷ ns) fs f d below some = puts_head n.square n.mark ns fs f some
puts_at (suc k) (n ∷ ns) fs f d below some = ap (λ ms. n ∷ ms) (puts_at k ns fs f d (omega (arith, below)) some)

-- where there is a bound, it is one of these
some_left : (m : Mark) (fs : List ℤ) (f : ℤ) → bound_for m fs ≡ Some f → 0 < length fs
some_left (Split v) fs f some = cc
some_left Shut fs f some = cc
some_left (BoundedMark c) [] f some = cc
some_left (BoundedMark c) (g ∷ fs) f some = omega arith
some_left (FloorMark b) fs f some = cc
some_left (Left b) fs f some = cc

-- a node of a list
node_of : (ns : List Node) (i : ℕ) → i < length ns → Node
node_of [] i below = absurd (omega (arith, below))
node_of (n ∷ ns) i below = n

no_bound : (o : Option ℤ) → ((f : ℤ) → o ≡ Some f → ⊥) → o ≡ None
no_bound None none = refl
no_bound (Some f) none = absurd (none f refl)

-- bounds are put in up to the node at index i, and then up to the next one
pub put_none : (i next : ℕ) (logged result : List Node) (fs : List ℤ) (found : Option ℤ) → i < length logged → with_bounds_from i logged (drop next fs) ≡ result
    → ((d : Node) → found ≡ bound_for (get_or logged i d).mark (drop next fs)) → ((f : ℤ) → found ≡ Some f → ⊥) → with_bounds_from (i + 1) logged (drop next fs) ≡ result
put_none i next logged result fs found below h is none =
    let one : i + 1 ≡ suc i = omega arith in
    let d = node_of logged i below in
    ap (λ n. with_bounds_from n logged (drop next fs)) one ∙ sym (stays_at i logged (drop next fs) d below (sym (is d) ∙ no_bound found none)) ∙ h

pub put_some : (i next : ℕ) (logged put result : List Node) (fs : List ℤ) (f g : ℤ) → i < length logged → with_bounds_from i logged (drop next fs) ≡ result
    → ((d : Node) → Some f ≡ bound_for (get_or logged i d).mark (drop next fs)) → g ≡ f → put ≡ with_mark logged i (BoundedMark g) → with_bounds_from (i + 1) put (drop (next + 1) fs) ≡ result
put_some i next logged put result fs f g below h is same put_is =
    let one : i + 1 ≡ suc i = omega arith in
    let d = node_of logged i below in
    let at : put ≡ with_mark logged i (BoundedMark f) = put_is ∙ ap (λ (z : ℤ). with_mark logged i (BoundedMark z)) same in
    ap (λ n. with_bounds_from n put (drop (next + 1) fs)) one ∙ ap (λ ns. with_bounds_from (suc i) ns (drop (next + 1) fs)) at
    ∙ ap (with_bounds_from (suc i) (with_mark logged i (BoundedMark f))) (sym (drop-drop 1 next fs)) ∙ sym (puts_at i logged (drop next fs) f d below (sym (is d))) ∙ h

-- there is a bound left
pub some_next : (i next : ℕ) (logged : List Node) (fs : List ℤ) (f : ℤ) → i < length logged → ((d : Node) → Some f ≡ bound_for (get_or logged i d).mark (drop next fs)) → next < length fs
some_next i next logged fs f below is =
    let d = node_of logged i below in
    omega (arith, some_left (get_or logged i d).mark (drop next fs) f (sym (is d)), length-drop next fs)

pub marked_length : (ns : List Node) (i : ℕ) (m : Mark) → length (with_mark ns i m) ≡ length ns
marked_length [] i m = refl
marked_length (n ∷ ns) zero m = refl
marked_length (n ∷ ns) (suc i) m = omega (arith, marked_length ns i m)

-- from the end on nothing is put in
pub put_from_end : (ns : List Node) (fs : List ℤ) → with_bounds_from (length ns) ns fs ≡ ns
put_from_end [] fs = refl
put_from_end (n ∷ ns) fs = ap (λ ms. n ∷ ms) (put_from_end ns fs)

put_step : (i : Instance) (s : Square) (m : Mark) (ns : List Node) → with_bounds ns (settled_bounds i ns) ≡ map (bounded_node i) ns → with_bounds (node_at s m ∷ ns) (settled_bounds i (node_at s m ∷ ns)) ≡ map (bounded_node i) (node_at s m ∷ ns)
put_step i s (Split v) ns rest = stays_head s (Split v) ns (settled_bounds i ns) refl ∙ ap (λ ms. node_at s (Split v) ∷ ms) rest
put_step i s Shut ns rest = stays_head s Shut ns (settled_bounds i ns) refl ∙ ap (λ ms. node_at s Shut ∷ ms) rest
put_step i s (BoundedMark c) ns rest = ap (λ ms. node_at s (BoundedMark (fine_of i s)) ∷ ms) rest
put_step i s (FloorMark b) ns rest = stays_head s (FloorMark b) ns (settled_bounds i ns) refl ∙ ap (λ ms. node_at s (FloorMark b) ∷ ms) rest
put_step i s (Left b) ns rest = stays_head s (Left b) ns (settled_bounds i ns) refl ∙ ap (λ ms. node_at s (Left b) ∷ ms) rest

put_all : (i : Instance) (ns : List Node) → with_bounds ns (settled_bounds i ns) ≡ map (bounded_node i) ns
put_all i [] = refl
put_all i (n ∷ ns) = put_step i n.square n.mark ns (put_all i ns)

-- where the nodes before the one at index k have their fine bounds, those of the others make up for the rest
pub put_from : (i : Instance) (k : ℕ) (ns : List Node) → map (bounded_node i) (take k ns) ≡ take k ns → with_bounds_from k ns (settled_bounds i (drop k ns)) ≡ map (bounded_node i) ns
put_from i zero ns first = put_all i ns
put_from i (suc k) [] first = refl
put_from i (suc k) (n ∷ ns) first =
    let head : bounded_node i n ≡ n = ap (λ (ms : List Node). get_or ms 0 n) first in
    let tail = put_from i k ns (ap (λ (ms : List Node). drop 1 ms) first) in
    cc

-- one finding keeps one bound at most
pub few_bounds : (i : Instance) (k : Bool) (s : Square) (seen : Option ℤ) (f : Finding) → length (settled_bounds i (cond k [] (nodes_from s seen f))) ≤ 1
few_bounds i true s seen f = omega arith
few_bounds i false s seen Excluded = omega arith
few_bounds i false s seen (Bounded b) = omega arith
few_bounds i false s seen (Raise b) = omega arith
few_bounds i false s seen (Part b) = omega arith
few_bounds i false s seen (Floor b) = omega arith
