-- Nodes, sorted into those that are left open and the others.
use Rattle.std.proofs.Common.{◌≡◌, ℕ, ◌+◌, ◌<◌, ◌≤◌, Bool, true, false, cond, not, ℤ, List, [], ◌∷◌, ◌++◌, map, filter, length, get_or, take, count_by, refl, sym, ap, ◌∙◌, arith}
use Rattle.std.specs.List.{All}
use Rattle.std.specs.List.Sorted.{IsPermutation}
use Rattle.std.proofs.lemmas.List.{append-nil, length-map}
use Rattle.std.proofs.lemmas.List.Elements.{All-cons, filter_more}
use Rattle.std.proofs.lemmas.List.Sorted.{All-permutation, IsPermutation-map, IsPermutation-push_more, length_permutation}
use Rattle.std.proofs.lemmas.List.Sums.{count_by_more_yes, length-filter, sum_by-take-le}
use Rattle.siting_definitions.specs.declared.Mark.{Mark}
use Rattle.siting_definitions.specs.declared.Mark.TheVariants.{Split, Shut, Bounded, Floor, Left}
use Rattle.siting_definitions.specs.Marks.{is_open}
use Rattle.siting_definitions.specs.Square.{Square}
use Rattle.discard_log.specs.declared.node.Node.{Node}
use Rattle.bound_heap.specs.declared.entry.Entry.{Entry}
use Rattle.pool_core.specs.Begun.{closed_nodes, is_left_open, left_count, left_of}

-- ---- a filter of one element more
filter_yes : {X : Type 0} (p : X → Bool) (xs : List X) (i : ℕ) (x : X) → i < length xs → x ≡ get_or xs i x → p x ≡ true → filter p (take (i + 1) xs) ≡ filter p (take i xs) ++ x ∷ []
filter_yes {X} p xs i x below at passes =
    let step = filter_more p xs i x below in
    let tail : cond (p (get_or xs i x)) (get_or xs i x ∷ []) [] ≡ x ∷ [] = ap (λ (y : X). cond (p y) (y ∷ []) []) (sym at) ∙ ap (λ b. cond b (x ∷ []) []) passes in
    step ∙ ap (λ ys. filter p (take i xs) ++ ys) tail

filter_no : {X : Type 0} (p : X → Bool) (xs : List X) (i : ℕ) (x : X) → i < length xs → x ≡ get_or xs i x → p x ≡ false → filter p (take (i + 1) xs) ≡ filter p (take i xs)
filter_no {X} p xs i x below at fails =
    let step = filter_more p xs i x below in
    let tail : cond (p (get_or xs i x)) (get_or xs i x ∷ []) [] ≡ [] = ap (λ (y : X). cond (p y) (y ∷ []) []) (sym at) ∙ ap (λ b. cond b (x ∷ []) []) fails in
    step ∙ ap (λ ys. filter p (take i xs) ++ ys) tail ∙ append-nil (filter p (take i xs))

-- what passes so far is less than what passes at all, where the next one passes
fewer_pass : {X : Type 0} (p : X → Bool) (xs : List X) (i : ℕ) (x : X) → i < length xs → x ≡ get_or xs i x → p x ≡ true → length (filter p (take i xs)) < length (filter p xs)
fewer_pass {X} p xs i x below at passes =
    let one : count_by p (take (i + 1) xs) ≡ count_by p (take i xs) + 1 = count_by_more_yes p xs i x below (ap p (sym at) ∙ passes) in
    let some : count_by p (take (i + 1) xs) ≤ count_by p xs = sum_by-take-le (λ (y : X). cond (p y) 1 0) xs (i + 1) in
    omega (arith, length-filter p (take i xs), length-filter p xs)

-- ---- the nodes up to i
pub record AreSortedOut (ns : List Node) (i : ℕ) (entries : List Entry) (logged : List Node) : Type 0 where
  pub waiting : IsPermutation (filter is_left_open (take i ns)) (map left_of entries)
  pub raised : All (λ (e : Entry). e.raised ≡ true) entries
  pub nodes : logged ≡ closed_nodes (take i ns)

-- a mark that is not `Left` isn't one of an open leaf
not_left : (m : Mark) → ((b : ℤ) → m ≡ Left b → ⊥) → is_open m ≡ false
not_left (Split v) other = refl
not_left Shut other = refl
not_left (Bounded b) other = refl
not_left (Floor b) other = refl
not_left (Left b) other = absurd (other b refl)

left_node : (n : Node) (b : ℤ) → n.mark ≡ Left b → record { square = n.square; mark = Left b } ≡ n
left_node n b is = ap (λ (m : Mark). let k : Node = record { square = n.square; mark = m } in k) (sym is)

-- an entry that waits, raised, with this bound
abbrev pub raised_at : Square → ℤ → Entry
raised_at s b = record { square = s; bound = b; raised = true }

-- a node left open is let wait
pub lefts_more : (ns : List Node) (i : ℕ) (n : Node) (b bound : ℤ) (entries after : List Entry) (logged : List Node) → i < length ns → n ≡ get_or ns i n → n.mark ≡ Left b → bound ≡ b
    → IsPermutation (raised_at n.square bound ∷ entries) after → AreSortedOut ns i entries logged → AreSortedOut ns (i + 1) after logged
lefts_more ns i n b bound entries after logged below at is same pushed h =
    let left : is_left_open n ≡ true = ap is_open is in
    let raised : All (λ (e : Entry). e.raised ≡ true) (raised_at n.square bound ∷ entries) = All-cons (λ (e : Entry). e.raised ≡ true) (raised_at n.square bound) entries refl h.raised in
    let node : left_of (raised_at n.square bound) ≡ n = ap (λ (z : ℤ). left_of (raised_at n.square z)) same ∙ left_node n b is in
    let moved = IsPermutation-map left_of (raised_at n.square bound ∷ entries) after pushed in
    record {
      waiting = rw (filter_yes is_left_open ns i n below at left) (IsPermutation-push_more (filter is_left_open (take i ns)) (map left_of entries) (map left_of after) n h.waiting (rw node at moved));
      raised = All-permutation (λ (e : Entry). e.raised ≡ true) (raised_at n.square bound ∷ entries) after pushed raised;
      nodes = h.nodes ∙ sym (filter_no (λ (n : Node). not (is_left_open n)) ns i n below at (ap not left));
    }

-- another node is logged
pub others_more : (ns : List Node) (i : ℕ) (n : Node) (entries : List Entry) (logged after : List Node) → i < length ns → n ≡ get_or ns i n → ((b : ℤ) → n.mark ≡ Left b → ⊥)
    → after ≡ logged ++ n ∷ [] → AreSortedOut ns i entries logged → AreSortedOut ns (i + 1) entries after
others_more ns i n entries logged after below at other added h =
    let closed : is_left_open n ≡ false = not_left n.mark other in
    record {
      waiting = rw (filter_no is_left_open ns i n below at closed) h.waiting;
      raised = h.raised;
      nodes = added ∙ ap (λ ms. ms ++ n ∷ []) h.nodes ∙ sym (filter_yes (λ (n : Node). not (is_left_open n)) ns i n below at (ap not closed));
    }

-- there is room for one more
pub left_room : (ns : List Node) (i : ℕ) (n : Node) (b : ℤ) (entries : List Entry) (logged : List Node) → i < length ns → n ≡ get_or ns i n → n.mark ≡ Left b → AreSortedOut ns i entries logged → length entries < left_count ns
left_room ns i n b entries logged below at is h =
    let left : is_left_open n ≡ true = ap is_open is in
    let counted : length (map left_of entries) ≡ length (filter is_left_open (take i ns)) = length_permutation _ _ h.waiting in
    omega (arith, fewer_pass is_left_open ns i n below at left, length-filter is_left_open ns, length-map entries left_of)

-- there is room to log it
pub other_room : (ns : List Node) (i : ℕ) (n : Node) (entries : List Entry) (logged : List Node) → i < length ns → n ≡ get_or ns i n → ((b : ℤ) → n.mark ≡ Left b → ⊥) → AreSortedOut ns i entries logged → length logged < length (closed_nodes ns)
other_room ns i n entries logged below at other h =
    let closed : is_left_open n ≡ false = not_left n.mark other in
    let counted : length logged ≡ length (closed_nodes (take i ns)) = ap length h.nodes in
    omega (arith, fewer_pass (λ (n : Node). not (is_left_open n)) ns i n below at (ap not closed))
