-- Nodes of which each square stands once: how many have their squares among others.
use Rattle.std.proofs.Common.{◌≡◌, ℕ, ◌+◌, ◌≤◌, Bool, true, false, cond, not, ◌&&◌, ◌||◌, List, [], ◌∷◌, map, length, filter, refl, ap, ◌∙◌, ◌⊎◌, inl, inr, arith}
use Rattle.std.specs.Prelude.{⊤}
use Rattle.std.proofs.lemmas.Bool.{cases_Bool}
use Rattle.siting_definitions.specs.Square.{Square}
use Rattle.siting_definitions.specs.Tree.{Tree, TreeSquare, Fits, preorder}
use Rattle.siting_definitions.specs.Marks.{is_open}
use Rattle.discard_log.specs.declared.node.Node.{Node}
use Rattle.discard_log.specs.Nodes.{tree_square}
use Rattle.dyadic_square.proofs.Bag.{total, once}
use Rattle.dyadic_square.proofs.Trees.{square_decides}
use Rattle.resume_job.specs.Resumed.{same_square, is_among, is_open_among}
use Rattle.resume_job.proofs.GrownLemmas.{once_there}

-- each square stands once at most
abbrev pub StandOnce : List Node → Type 0
StandOnce ns = (q : Square) → total (λ (n : Node). once (same_square q n.square)) ns ≤ 1

-- the nodes of a tree stand once
pub tree_once : (t : Tree) (root : Square) (ns : List Node) → root.level ≤ 37 → Fits t root.level → map tree_square ns ≡ preorder t root → StandOnce ns
tree_once t root ns small fits tree q = omega (arith, once_there t root q small fits, ap (λ ts. total (λ (x : TreeSquare). once (same_square q x.square)) ts) tree, each ns)
  where
    each : (ns : List Node) → total (λ (x : TreeSquare). once (same_square q x.square)) (map tree_square ns) ≡ total (λ (n : Node). once (same_square q n.square)) ns
    each [] = refl
    each (n ∷ ns) = ap (λ k. once (same_square q n.square) + k) (each ns)

-- how many nodes have their square among these
abbrev pub among_count : List Node → List Node → ℕ
among_count ys xs = total (λ (x : Node). once (is_among ys x.square)) xs

or_most : (a b : Bool) → once (a || b) ≤ once a + once b
or_most true b = omega arith
or_most false b = omega arith

among_more : (y : Node) (ys xs : List Node) → among_count (y ∷ ys) xs ≤ total (λ (x : Node). once (same_square y.square x.square)) xs + among_count ys xs
among_more y ys [] = omega arith
among_more y ys (x ∷ xs) = omega (arith, or_most (same_square y.square x.square) (is_among ys x.square), among_more y ys xs)

among_none : (xs : List Node) → among_count [] xs ≡ 0
among_none [] = refl
among_none (x ∷ xs) = omega (arith, among_none xs)

-- of nodes that stand once no more have their squares among others than these are
pub among_most : (ys xs : List Node) → StandOnce xs → among_count ys xs ≤ length ys
among_most [] xs alone = omega (arith, among_none xs)
among_most (y ∷ ys) xs alone = omega (arith, among_more y ys xs, alone y.square, among_most ys xs alone)

-- ---- squares left open before and after
-- these nodes have their squares among ns
abbrev AreAmong : List Node → List Node → Type 0
AreAmong ns [] = ⊤
AreAmong ns (x ∷ xs) = (is_among ns x.square ≡ true) × AreAmong ns xs

among_more_of : (n : Node) (ns xs : List Node) → AreAmong ns xs → AreAmong (n ∷ ns) xs
among_more_of n ns [] h = tt
among_more_of n ns (x ∷ xs) h = (or_true (same_square n.square x.square) (is_among ns x.square) h.0, among_more_of n ns xs h.1)
  where
    or_true : (a b : Bool) → b ≡ true → (a || b) ≡ true
    or_true true b e = refl
    or_true false b e = e

same_itself : (q : Square) → same_square q q ≡ true
same_itself q = (square_decides q q).1 refl

among_themselves : (ns : List Node) → AreAmong ns ns
among_themselves [] = tt
among_themselves (n ∷ ns) = (ap (λ b. b || is_among ns n.square) (same_itself n.square), among_more_of n ns ns (among_themselves ns))

-- those of ms that are left open and have their square among ns
abbrev pub still_open : List Node → List Node → List Node
still_open ns ms = filter (λ (m : Node). is_open m.mark && is_among ns m.square) ms

same_among : (ns : List Node) (q r : Square) → same_square q r ≡ true → is_among ns r ≡ true → is_among ns q ≡ true
same_among ns q r same here = ap (is_among ns) ((square_decides q r).0 same) ∙ here

-- a square that is left open among ms and is among ns is among those
open_matched : (ns ms : List Node) (q : Square) → is_among ns q ≡ true → once (is_open_among ms q) ≤ once (is_among (still_open ns ms) q)
open_matched ns [] q here = omega arith
open_matched ns (m ∷ ms) q here = by_tests (cases_Bool (is_open m.mark)) (cases_Bool (same_square m.square q)) (open_matched ns ms q here)
  where
    fewer : (a b : Bool) → once b ≤ once (a || b)
    fewer true true = omega arith
    fewer true false = omega arith
    fewer false b = omega arith

    one_most : (b : Bool) → once b ≤ 1
    one_most true = omega arith
    one_most false = omega arith

    kept : (b : Bool) → once (is_among (still_open ns ms) q) ≤ once (is_among (cond b (m ∷ still_open ns ms) (still_open ns ms)) q)
    kept true = fewer (same_square m.square q) (is_among (still_open ns ms) q)
    kept false = omega arith

    by_tests : ((is_open m.mark ≡ true) ⊎ (is_open m.mark ≡ false)) → ((same_square m.square q ≡ true) ⊎ (same_square m.square q ≡ false)) → once (is_open_among ms q) ≤ once (is_among (still_open ns ms) q) → once (is_open_among (m ∷ ms) q) ≤ once (is_among (still_open ns (m ∷ ms)) q)
    by_tests (inr closed) same rest =
        let before : is_open_among (m ∷ ms) q ≡ is_open_among ms q = ap (λ b. is_among (cond b (m ∷ filter (λ (n : Node). is_open n.mark) ms) (filter (λ (n : Node). is_open n.mark) ms)) q) closed in
        omega (arith, ap once before, rest, kept (is_open m.mark && is_among ns m.square))
    by_tests (inl open_) (inr other) rest =
        let before : is_open_among (m ∷ ms) q ≡ is_open_among ms q = ap (λ b. is_among (cond b (m ∷ filter (λ (n : Node). is_open n.mark) ms) (filter (λ (n : Node). is_open n.mark) ms)) q) open_ ∙ ap (λ b. b || is_open_among ms q) other in
        omega (arith, ap once before, rest, kept (is_open m.mark && is_among ns m.square))
    by_tests (inl open_) (inl same) rest =
        let there : (is_open m.mark && is_among ns m.square) ≡ true = ap (λ b. b && is_among ns m.square) open_ ∙ same_among ns m.square q same here in
        let after : is_among (still_open ns (m ∷ ms)) q ≡ true = ap (λ b. is_among (cond b (m ∷ still_open ns ms) (still_open ns ms)) q) there ∙ ap (λ b. b || is_among (still_open ns ms) q) same in
        omega (arith, ap once after, one_most (is_open_among (m ∷ ms) q))

-- how many are left open, and left open among ms too
abbrev pub stayed_open : List Node → List Node → ℕ
stayed_open ms ns = total (λ (n : Node). once (is_open n.mark && is_open_among ms n.square)) ns

stayed_by : (ns ms xs : List Node) → AreAmong ns xs → stayed_open ms xs ≤ among_count (still_open ns ms) xs
stayed_by ns ms [] h = omega arith
stayed_by ns ms (x ∷ xs) h = omega (arith, and_most (is_open x.mark) (is_open_among ms x.square), open_matched ns ms x.square h.0, stayed_by ns ms xs h.1)
  where
    and_most : (a b : Bool) → once (a && b) ≤ once b
    and_most true b = omega arith
    and_most false b = omega arith

-- as many at most as there are left open among ms that were there before
pub stayed_most : (ns ms : List Node) → StandOnce ns → stayed_open ms ns ≤ length (still_open ns ms)
stayed_most ns ms alone = omega (arith, stayed_by ns ms ns (among_themselves ns), among_most (still_open ns ms) ns alone)

-- ---- the counts
pub total-filter : {X : Type 0} (p q : X → Bool) (xs : List X) → total (λ x. once (p x)) (filter q xs) ≡ total (λ x. once (q x && p x)) xs
total-filter p q [] = refl
total-filter {X = X} p q (x ∷ xs) = by_test (total-filter p q xs) (cases_Bool (q x))
  where
    by_test : total (λ x. once (p x)) (filter q xs) ≡ total (λ x. once (q x && p x)) xs → ((q x ≡ true) ⊎ (q x ≡ false)) → total (λ x. once (p x)) (cond (q x) (x ∷ filter q xs) (filter q xs)) ≡ once (q x && p x) + total (λ x. once (q x && p x)) xs
    by_test rest (inl kept) = rw kept (ap (λ k. once (p x) + k) rest)
    by_test rest (inr gone) = rw gone (omega (arith, rest))

pub total-split : {X : Type 0} (p q : X → Bool) (xs : List X) → total (λ x. once (p x && q x)) xs + total (λ x. once (p x && not (q x))) xs ≡ total (λ x. once (p x)) xs
total-split p q [] = refl
total-split p q (x ∷ xs) = omega (arith, each (p x) (q x), total-split p q xs)
  where
    each : (a b : Bool) → once (a && b) + once (a && not b) ≡ once a
    each true true = refl
    each true false = refl
    each false b = refl
