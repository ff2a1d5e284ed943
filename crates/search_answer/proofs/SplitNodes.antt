-- The split nodes of a search that ended are those of its answer.
use Rattle.std.proofs.Common.{◌≡◌, ℕ, zero, suc, ◌<◌, ℤ, Bool, true, false, cond, List, [], ◌∷◌, ◌++◌, map, length, get_or, set, Option, refl, ap, ◌∙◌, subst, arith}
use Rattle.std.specs.Prelude.{IsPermutation, filter}
use Rattle.std.specs.List.{swap}
use Rattle.std.proofs.lemmas.Bool.{cond-true}
use Rattle.std.proofs.lemmas.List.Sorted.{IsPermutation-refl, IsPermutation-cons, IsPermutation-trans, IsPermutation-keeps, IsPermutation-append_left, IsPermutation-append_comm}
use Rattle.siting_definitions.specs.declared.Mark.{Mark}
use Rattle.siting_definitions.specs.Marks.{is_split, leaf_mark}
use Rattle.discard_log.specs.declared.node.Node.{Node}
use Rattle.bound_heap.specs.declared.entry.Entry.{Entry}
use Rattle.pool_core.specs.Job.{Job}
use Rattle.pool_core.specs.Begun.{left_of}
use Rattle.search_answer.specs.Ending.{finished_node, split_nodes}
use Rattle.search_answer.proofs.FinishedMarks.{node_split}

-- ---- a filter keeps of a permutation a permutation
kept_cons : {X : Type 0} (b : Bool) (x : X) (xs ys : List X) → IsPermutation xs ys → IsPermutation (cond b (x ∷ xs) xs) (cond b (x ∷ ys) ys)
kept_cons true x xs ys h = IsPermutation-cons x xs ys h
kept_cons false x xs ys h = h

kept_two : {X : Type 0} (a b : Bool) (x y : X) (xs : List X) → IsPermutation (cond a (x ∷ cond b (y ∷ xs) xs) (cond b (y ∷ xs) xs)) (cond b (y ∷ cond a (x ∷ xs) xs) (cond a (x ∷ xs) xs))
kept_two true true x y xs = IsPermutation-append_left xs (x ∷ y ∷ []) (y ∷ x ∷ []) (IsPermutation-append_comm (x ∷ []) (y ∷ []))
kept_two true false x y xs = IsPermutation-refl (x ∷ xs)
kept_two false true x y xs = IsPermutation-refl (y ∷ xs)
kept_two false false x y xs = IsPermutation-refl xs

-- the first element and a later one in each other's place
kept_front : {X : Type 0} (p : X → Bool) (x : X) (xs : List X) (j : ℕ) (d : X) → j < length xs → IsPermutation (filter p (x ∷ xs)) (filter p (get_or xs j d ∷ set xs j x))
kept_front p x [] j d h = absurd (omega arith)
kept_front p x (y ∷ xs) zero d h = kept_two (p x) (p y) x y (filter p xs)
kept_front p x (z ∷ xs) (suc j) d h =
    let y = get_or xs j d in
    let ys = set xs j x in
    IsPermutation-trans (filter p (x ∷ z ∷ xs)) (filter p (z ∷ x ∷ xs)) (filter p (y ∷ z ∷ ys)) (kept_two (p x) (p z) x z (filter p xs))
    (IsPermutation-trans (filter p (z ∷ x ∷ xs)) (filter p (z ∷ y ∷ ys)) (filter p (y ∷ z ∷ ys))
    (kept_cons (p z) z (filter p (x ∷ xs)) (filter p (y ∷ ys)) (kept_front p x xs j d (omega arith)))
    (kept_two (p z) (p y) z y (filter p ys)))

kept_swap : {X : Type 0} (p : X → Bool) (xs : List X) (i j : ℕ) (d : X) → i < length xs → j < length xs → IsPermutation (filter p xs) (filter p (set (set xs i (get_or xs j d)) j (get_or xs i d)))
kept_swap p [] i j d h k = absurd (omega arith)
kept_swap p (x ∷ xs) zero zero d h k = IsPermutation-refl (filter p (x ∷ xs))
kept_swap p (x ∷ xs) zero (suc j) d h k = kept_front p x xs j d (omega arith)
kept_swap p (x ∷ xs) (suc i) zero d h k = kept_front p x xs i d (omega arith)
kept_swap p (x ∷ xs) (suc i) (suc j) d h k =
    kept_cons (p x) x (filter p xs) (filter p (set (set xs i (get_or xs j d)) j (get_or xs i d))) (kept_swap p xs i j d (omega arith) (omega arith))

at_swap : {X : Type 0} (p : X → Bool) (xs : List X) (i j : ℕ) → i < length xs → j < length xs → IsPermutation (filter p xs) (filter p (swap xs i j))
at_swap p [] i j h k = absurd (omega arith)
at_swap p (x ∷ xs) i j h k = kept_swap p (x ∷ xs) i j x h k

IsPermutation-filter : {X : Type 0} (p : X → Bool) (xs ys : List X) → IsPermutation xs ys → IsPermutation (filter p xs) (filter p ys)
IsPermutation-filter p xs ys h =
    IsPermutation-keeps xs (λ l. IsPermutation (filter p xs) (filter p l)) (IsPermutation-refl (filter p xs))
    (λ l i j at_i at_j kept. IsPermutation-trans (filter p xs) (filter p l) (filter p (swap l i j)) kept (at_swap p l i j at_i at_j)) ys h

-- ---- the split nodes
abbrev is_cut : Node → Bool
is_cut n = is_split n.mark

none_cut : (ns : List Node) (es : List Entry) → split_nodes (ns ++ map left_of es) ≡ split_nodes ns
none_cut [] [] = refl
none_cut [] (e ∷ es) = none_cut [] es
none_cut (n ∷ ns) es = ap (λ ks. cond (is_cut n) (n ∷ ks) ks) (none_cut ns es)

cut_step : (j : Job) (u : Option ℤ) (n : Node) (ks : List Node) (b : Bool) → is_split n.mark ≡ b → cond b (finished_node j u n ∷ ks) ks ≡ cond b (n ∷ ks) ks
cut_step j u n ks true e = ap (λ (m : Mark). record { square = n.square; mark = m } ∷ ks) (cond-true (is_split n.mark) n.mark (leaf_mark j.instance j.gap u n.square) e)
cut_step j u n ks false e = refl

cut_same : (j : Job) (u : Option ℤ) (ns : List Node) → split_nodes (map (finished_node j u) ns) ≡ split_nodes ns
cut_same j u [] = refl
cut_same j u (n ∷ ns) =
    let fin = finished_node j u n in
    let rest = split_nodes (map (finished_node j u) ns) in
    ap (λ b. cond b (fin ∷ rest) rest) (node_split j u n)
    ∙ cut_step j u n rest (is_split n.mark) refl
    ∙ ap (λ ks. cond (is_cut n) (n ∷ ks) ks) (cut_same j u ns)

-- the nodes of the search, and those of its answer
pub splits_kept : (j : Job) (u : Option ℤ) (ns ls : List Node) (es : List Entry) → IsPermutation (ns ++ map left_of es) ls → IsPermutation (split_nodes ns) (split_nodes (map (finished_node j u) ls))
splits_kept j u ns ls es same =
    let kept = IsPermutation-filter is_cut (ns ++ map left_of es) ls same in
    rw (cut_same j u ls) (subst (λ ks. IsPermutation ks (split_nodes ls)) (none_cut ns es) kept)
