-- A tree that grew from another: where one is split, so is the other. Its least bound is none, or no lower.
use Rattle.std.proofs.Common.{◌≡◌, ℕ, ◌+◌, ◌<◌, ◌≤◌, ℤ, Bool, true, false, cond, ◌&&◌, List, [], ◌∷◌, ◌++◌, Option, None, Some, refl, sym, ap, ◌∙◌, ◌⊎◌, inl, inr, arith}
use Rattle.std.specs.Prelude.{MatchOption, ⊤}
use Rattle.std.proofs.lemmas.Bool.{cases_Bool, cond-true, cond-false, true≢false}
use Rattle.std.proofs.lemmas.Int.{clamps}
use borrow.Author.Differences.{ints}
use Rattle.siting_definitions.specs.declared.Mark.{Mark}
use Rattle.siting_definitions.specs.Instance.{Instance}
use Rattle.siting_definitions.specs.Square.{Square, quarter_of}
use Rattle.siting_definitions.specs.Bounds.{fine_of}
use Rattle.siting_definitions.specs.Excluded.{is_excluded}
use Rattle.siting_definitions.specs.Tree.{Tree, Leaf, Branch, Fits, TreeSquare, preorder}
use Rattle.siting_definitions.specs.Marks.{IsAtMost, leaf_mark, MarkFits, MarksFit, lesser, bound_of, least_of}
use Rattle.siting_definitions.proofs.MarkLemmas.{shut_leaf, open_bound, split_bound, lesser-assoc, lesser-none, at_most-refl, at_most-trans}
use Rattle.dyadic_square.specs.Order.{rank_of}
use Rattle.dyadic_square.proofs.Bag.{total, once, Rising}
use Rattle.dyadic_square.proofs.Order.{ranks-rise, aligned-refl}
use Rattle.dyadic_square.proofs.Trees.{same_square, square_decides, same_bool, same_tree_square, tree_square_decides, leaf_at, split_at, total-branch}
use Rattle.objectives.proofs.QuarterLemmas.{fine_of-quarter}
use Rattle.exclusion.proofs.ExcludedLemmas.{excluded-quarter}
use Rattle.answer_model.proofs.ClaimsLemmas.{fits_split, fits_leaf}

-- ---- no square stands twice in a tree
none_before : {X : Type 0} (n : X → ℕ) (p : X → Bool) (r : ℕ) → ((x : X) → p x ≡ true → n x ≡ r) → (xs : List X) (low high : ℕ) → Rising n low xs high → r < low → total (λ x. once (p x)) xs ≡ 0
none_before n p r ranked [] low high rising below = refl
none_before n p r ranked (x ∷ xs) low high rising below = by_test (cases_Bool (p x)) (none_before n p r ranked xs (n x + 1) high rising.1 (omega (arith, rising.0)))
  where
    by_test : ((p x ≡ true) ⊎ (p x ≡ false)) → total (λ x. once (p x)) xs ≡ 0 → once (p x) + total (λ x. once (p x)) xs ≡ 0
    by_test (inl said) rest = absurd (omega (arith, ranked x said, rising.0))
    by_test (inr other) rest = rw other (omega (arith, rest))

-- where numbers rise strictly, at most one element has a number
one_at_most : {X : Type 0} (n : X → ℕ) (p : X → Bool) (r : ℕ) → ((x : X) → p x ≡ true → n x ≡ r) → (xs : List X) (low high : ℕ) → Rising n low xs high → total (λ x. once (p x)) xs ≤ 1
one_at_most n p r ranked [] low high rising = omega arith
one_at_most n p r ranked (x ∷ xs) low high rising = by_test (cases_Bool (p x)) (one_at_most n p r ranked xs (n x + 1) high rising.1)
  where
    by_test : ((p x ≡ true) ⊎ (p x ≡ false)) → total (λ x. once (p x)) xs ≤ 1 → once (p x) + total (λ x. once (p x)) xs ≤ 1
    by_test (inl said) rest =
        let none = none_before n p r ranked xs (n x + 1) high rising.1 (omega (arith, ranked x said)) in
        rw said (omega (arith, none))
    by_test (inr other) rest = rw other (omega (arith, rest))

-- a square stands at most once in a tree
pub once_there : (t : Tree) (root q : Square) → root.level ≤ 37 → Fits t root.level → total (λ (x : TreeSquare). once (same_square q x.square)) (preorder t root) ≤ 1
once_there t root q small fits =
    one_at_most (λ (x : TreeSquare). rank_of root x.square) (λ x. same_square q x.square) (rank_of root q) (λ x said. ap (rank_of root) (sym ((square_decides q x.square).0 said))) (preorder t root) _ _ (ranks-rise t root root small fits (aligned-refl root))

-- ---- the grown tree
-- where t is split, so is u
abbrev pub IsGrown : Tree → Tree → Type 0
IsGrown Leaf u = ⊤
IsGrown (Branch a b c d) Leaf = ⊥
IsGrown (Branch a b c d) (Branch a' b' c' d') = IsGrown a a' × IsGrown b b' × IsGrown c c' × IsGrown d d'

-- how often x is among the squares of a tree
abbrev pub times : TreeSquare → List TreeSquare → ℕ
times x xs = total (λ (y : TreeSquare). once (same_tree_square x y)) xs

-- among these squares none is both split and not
abbrev pub AreOfOne : List TreeSquare → Type 0
AreOfOne xs = (q : Square) → times (split_at q) xs + times (leaf_at q) xs ≤ 1

-- the squares of t that are split are split among these
abbrev pub AreSplitIn : List TreeSquare → List TreeSquare → Type 0
AreSplitIn xs ys = (q : Square) → times (split_at q) xs ≤ times (split_at q) ys

-- all are among these
abbrev pub AreIn : List TreeSquare → List TreeSquare → Type 0
AreIn xs ys = (x : TreeSquare) → times x xs ≤ times x ys

same_once : (x : TreeSquare) → once (same_tree_square x x) ≡ 1
same_once x = ap once ((tree_square_decides x x).1 refl)

-- a tree whose splits are among the squares of one tree, as are the squares of another: the other grew from it
pub grown : (t u : Tree) (s : Square) (all : List TreeSquare) → AreOfOne all → AreSplitIn (preorder t s) all → AreIn (preorder u s) all → IsGrown t u
grown Leaf u s all one splits squares = tt
grown (Branch a b c d) Leaf s all one splits squares =
    absurd (omega (arith, one s, splits s, squares (leaf_at s), total-branch (λ y. once (same_tree_square (split_at s) y)) a b c d s, same_once (split_at s), same_once (leaf_at s)))
grown (Branch a b c d) (Branch a' b' c' d') s all one splits squares = (
  grown a a' (quarter_of s 0) all one (λ q. omega (arith, splits q, in_t q)) (λ x. omega (arith, squares x, in_u x)),
  grown b b' (quarter_of s 1) all one (λ q. omega (arith, splits q, in_t q)) (λ x. omega (arith, squares x, in_u x)),
  grown c c' (quarter_of s 2) all one (λ q. omega (arith, splits q, in_t q)) (λ x. omega (arith, squares x, in_u x)),
  grown d d' (quarter_of s 3) all one (λ q. omega (arith, splits q, in_t q)) (λ x. omega (arith, squares x, in_u x)),
)
  where
    in_t : (q : Square) → times (split_at q) (preorder (Branch a b c d) s) ≡ once (same_tree_square (split_at q) (split_at s)) + times (split_at q) (preorder a (quarter_of s 0)) + times (split_at q) (preorder b (quarter_of s 1)) + times (split_at q) (preorder c (quarter_of s 2)) + times (split_at q) (preorder d (quarter_of s 3))
    in_t q = total-branch (λ y. once (same_tree_square (split_at q) y)) a b c d s

    in_u : (x : TreeSquare) → times x (preorder (Branch a' b' c' d') s) ≡ once (same_tree_square x (split_at s)) + times x (preorder a' (quarter_of s 0)) + times x (preorder b' (quarter_of s 1)) + times x (preorder c' (quarter_of s 2)) + times x (preorder d' (quarter_of s 3))
    in_u x = total-branch (λ y. once (same_tree_square x y)) a' b' c' d' s

-- the squares of a tree are each split or not
pub tree_of_one : (t : Tree) (root : Square) → root.level ≤ 37 → Fits t root.level → AreOfOne (preorder t root)
tree_of_one t root small fits q = omega (arith, once_there t root q small fits, both (preorder t root))
  where
    either : (s : Square) (b : Bool) → once (same_tree_square (split_at q) (record { square = s; is_split = b })) + once (same_tree_square (leaf_at q) (record { square = s; is_split = b })) ≡ once (same_square q s)
    either s b = by_both (same_square q s) b
      where
        by_both : (same b : Bool) → once (same && same_bool true b) + once (same && same_bool false b) ≡ once same
        by_both true true = refl
        by_both true false = refl
        by_both false b = refl

    both : (xs : List TreeSquare) → times (split_at q) xs + times (leaf_at q) xs ≡ total (λ (x : TreeSquare). once (same_square q x.square)) xs
    both [] = refl
    both (x ∷ xs) = omega (arith, either x.square x.is_split, both xs)

-- ---- the least bound of a tree
-- the bound of a leaf of this square
abbrev leaf_least : Instance → Square → Option ℤ
leaf_least i s = cond (is_excluded i s) None (Some (fine_of i s))

abbrev tree_least : Instance → Tree → Square → Option ℤ
tree_least i Leaf s = leaf_least i s
tree_least i (Branch a b c d) s =
    lesser (tree_least i a (quarter_of s 0)) (lesser (tree_least i b (quarter_of s 1)) (lesser (tree_least i c (quarter_of s 2)) (tree_least i d (quarter_of s 3))))

-- b is none, or a is a number that is at most b
abbrev pub IsNoHigher : Option ℤ → Option ℤ → Type 0
IsNoHigher a b = MatchOption b ⊤ (IsAtMost a)

no_higher_both : (a b c : Option ℤ) → IsNoHigher a b → IsNoHigher a c → IsNoHigher a (lesser b c)
no_higher_both a None c h k = k
no_higher_both a (Some m) None h k = h
no_higher_both None (Some m) (Some n) h k = absurd h
no_higher_both (Some l) (Some m) (Some n) h k = omega (arith, ints, clamps, h, k)

no_higher_left : (a b c : Option ℤ) → IsNoHigher a c → IsNoHigher (lesser a b) c
no_higher_left a b None h = tt
no_higher_left None b (Some n) h = absurd h
no_higher_left (Some l) None (Some n) h = h
no_higher_left (Some l) (Some m) (Some n) h = omega (arith, ints, clamps, h)

no_higher_right : (a b c : Option ℤ) → IsNoHigher b c → IsNoHigher (lesser a b) c
no_higher_right a b None h = tt
no_higher_right None b (Some n) h = h
no_higher_right (Some l) None (Some n) h = absurd h
no_higher_right (Some l) (Some m) (Some n) h = omega (arith, ints, clamps, h)

-- of a quarter the bound is no lower
quarter_higher : (i : Instance) (s : Square) (k : ℕ) → 0 < s.level → IsNoHigher (leaf_least i s) (leaf_least i (quarter_of s k))
quarter_higher i s k above = by_tests (cases_Bool (is_excluded i s)) (cases_Bool (is_excluded i (quarter_of s k)))
  where
    by_tests : ((is_excluded i s ≡ true) ⊎ (is_excluded i s ≡ false)) → ((is_excluded i (quarter_of s k) ≡ true) ⊎ (is_excluded i (quarter_of s k) ≡ false)) → IsNoHigher (leaf_least i s) (leaf_least i (quarter_of s k))
    by_tests here (inl shut) = rw shut tt
    by_tests (inl shut) (inr open_) = absurd (true≢false (sym (excluded-quarter i s k above shut) ∙ open_))
    by_tests (inr open_here) (inr open_) = rw (open_here, open_) (fine_of-quarter i s k above)

-- of a tree of a square the least bound is no lower than the square's
tree_higher : (i : Instance) (u : Tree) (s : Square) → Fits u s.level → IsNoHigher (leaf_least i s) (tree_least i u s)
tree_higher i Leaf s fits = at_most-refl (leaf_least i s)
tree_higher i (Branch a b c d) s fits =
    no_higher_both (leaf_least i s) _ _ (part a 0 fits.1 (tree_higher i a (quarter_of s 0) fits.1))
    (no_higher_both (leaf_least i s) _ _ (part b 1 fits.2 (tree_higher i b (quarter_of s 1) fits.2))
    (no_higher_both (leaf_least i s) _ _ (part c 2 fits.3 (tree_higher i c (quarter_of s 2) fits.3)) (part d 3 fits.4 (tree_higher i d (quarter_of s 3) fits.4))))
  where
    part : (t : Tree) (k : ℕ) → Fits t (quarter_of s k).level → IsNoHigher (leaf_least i (quarter_of s k)) (tree_least i t (quarter_of s k)) → IsNoHigher (leaf_least i s) (tree_least i t (quarter_of s k))
    part t k fits_t h = at_most-trans (leaf_least i s) (leaf_least i (quarter_of s k)) (tree_least i t (quarter_of s k)) (quarter_higher i s k fits.0) h

four_higher : (a b c d a' b' c' d' : Option ℤ) → IsNoHigher a a' → IsNoHigher b b' → IsNoHigher c c' → IsNoHigher d d' → IsNoHigher (lesser a (lesser b (lesser c d))) (lesser a' (lesser b' (lesser c' d')))
four_higher a b c d a' b' c' d' ha hb hc hd =
    let all = lesser a (lesser b (lesser c d)) in
    no_higher_both all a' _ (no_higher_left a _ a' ha)
    (no_higher_both all b' _ (no_higher_right a _ b' (no_higher_left b _ b' hb))
    (no_higher_both all c' d' (no_higher_right a _ c' (no_higher_right b _ c' (no_higher_left c d c' hc))) (no_higher_right a _ d' (no_higher_right b _ d' (no_higher_right c d d' hd)))))

-- the least bound of a grown tree is no lower
grown_higher : (i : Instance) (t u : Tree) (s : Square) → Fits u s.level → IsGrown t u → IsNoHigher (tree_least i t s) (tree_least i u s)
grown_higher i Leaf u s fits grew = tree_higher i u s fits
grown_higher i (Branch a b c d) Leaf s fits grew = absurd grew
grown_higher i (Branch a b c d) (Branch a' b' c' d') s fits grew =
    four_higher _ _ _ _ _ _ _ _ (grown_higher i a a' (quarter_of s 0) fits.1 grew.0) (grown_higher i b b' (quarter_of s 1) fits.2 grew.1) (grown_higher i c c' (quarter_of s 2) fits.3 grew.2) (grown_higher i d d' (quarter_of s 3) fits.4 grew.3)

-- ---- the least bound of marks is that of their tree
square_least : Instance → TreeSquare → Option ℤ
square_least i t = cond t.is_split None (leaf_least i t.square)

list_least : Instance → List TreeSquare → Option ℤ
list_least i [] = None
list_least i (t ∷ ts) = lesser (square_least i t) (list_least i ts)

mark_least : (i : Instance) (gap : ℤ) (u : Option ℤ) (t : TreeSquare) (m : Mark) → MarkFits i gap u t m → bound_of m ≡ square_least i t
unfolding square_least
mark_least i gap u t m fits = by_split (cases_Bool t.is_split)
  where
    by_excluded : (s : Square) → ((is_excluded i s ≡ true) ⊎ (is_excluded i s ≡ false)) → bound_of (leaf_mark i gap u s) ≡ leaf_least i s
    by_excluded s (inl shut) = ap bound_of (shut_leaf i gap u s shut) ∙ sym (cond-true _ _ _ shut)
    by_excluded s (inr open_) = open_bound i gap u s open_ ∙ sym (cond-false _ _ _ open_)

    by_split : ((t.is_split ≡ true) ⊎ (t.is_split ≡ false)) → bound_of m ≡ cond t.is_split None (leaf_least i t.square)
    by_split (inl split) = split_bound i gap u t.square m (fits_split t.is_split _ _ split fits) ∙ sym (cond-true _ _ _ split)
    by_split (inr leaf) = ap bound_of (fits_leaf t.is_split _ _ leaf fits) ∙ by_excluded t.square (cases_Bool (is_excluded i t.square)) ∙ sym (cond-false _ _ _ leaf)

marks_least : (i : Instance) (gap : ℤ) (u : Option ℤ) (ts : List TreeSquare) (ms : List Mark) → MarksFit i gap u ts ms → least_of ms ≡ list_least i ts
unfolding list_least
marks_least i gap u [] [] fits = refl
marks_least i gap u [] (m ∷ ms) fits = absurd fits
marks_least i gap u (t ∷ ts) [] fits = absurd fits
marks_least i gap u (t ∷ ts) (m ∷ ms) fits =
    ap (λ o. lesser o (least_of ms)) (mark_least i gap u t m fits.0) ∙ ap (lesser (square_least i t)) (marks_least i gap u ts ms fits.1)

list_least-append : (i : Instance) (xs ys : List TreeSquare) → list_least i (xs ++ ys) ≡ lesser (list_least i xs) (list_least i ys)
unfolding list_least
list_least-append i [] ys = refl
list_least-append i (x ∷ xs) ys =
    ap (lesser (square_least i x)) (list_least-append i xs ys) ∙ sym (lesser-assoc (square_least i x) (list_least i xs) (list_least i ys))

preorder_least : (i : Instance) (t : Tree) (s : Square) → list_least i (preorder t s) ≡ tree_least i t s
unfolding list_least square_least
preorder_least i Leaf s = lesser-none (leaf_least i s)
preorder_least i (Branch a b c d) s =
    let pa = preorder a (quarter_of s 0) in
    let pb = preorder b (quarter_of s 1) in
    let pc = preorder c (quarter_of s 2) in
    let pd = preorder d (quarter_of s 3) in
    rw (list_least-append i pa (pb ++ (pc ++ pd)), list_least-append i pb (pc ++ pd), list_least-append i pc pd, preorder_least i a (quarter_of s 0), preorder_least i b (quarter_of s 1), preorder_least i c (quarter_of s 2), preorder_least i d (quarter_of s 3)) refl

-- the marks of a grown tree have a least bound that is no lower, or none
pub bound_grows : (i : Instance) (gap : ℤ) (v w : Option ℤ) (t u : Tree) (s : Square) (ms ns : List Mark) → Fits u s.level → MarksFit i gap v (preorder t s) ms → MarksFit i gap w (preorder u s) ns → IsGrown t u → IsNoHigher (least_of ms) (least_of ns)
bound_grows i gap v w t u s ms ns fits before after grew =
    rw (marks_least i gap v (preorder t s) ms before, marks_least i gap w (preorder u s) ns after, preorder_least i t s, preorder_least i u s) (grown_higher i t u s fits grew)
