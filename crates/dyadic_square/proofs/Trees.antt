-- Trees of squares: equality of their squares, their leaves, and the tree that cutting a leaf gives.
use Rattle.std.proofs.Common.{◌≡◌, ℕ, zero, suc, ◌+◌, ◌*◌, ◌<◌, ◌==◌, Bool, true, false, cond, not, ◌&&◌, List, [], ◌∷◌, ◌++◌, length, count_by, refl, sym, ◌∙◌, ap, subst, ⊎_elim, Decides, ℤ, arith}
use Rattle.std.specs.List.{Contains}
use Rattle.std.specs.Ordering.{int_eq}
use Rattle.std.proofs.lemmas.Bool.{true≢false, and_parts, and_from}
use Rattle.std.proofs.lemmas.List.Elements.{Contains-append_cases}
use Rattle.std.proofs.lemmas.Bool.Decides.{Decides-eqb, Decides-int_eq}
use Rattle.siting_definitions.specs.Point.{Point}
use Rattle.siting_definitions.specs.Square.{Square, holds, quarter_of, Tiles}
use Rattle.siting_definitions.specs.Tree.{Tree, Leaf, Branch, Fits, TreeSquare, preorder, leaves}
use Rattle.dyadic_square.proofs.Bag.{total, once, total-append, total-length, count_by-total}
use Rattle.dyadic_square.proofs.Tiling.{quarters-tile}

abbrev pub same_square : Square → Square → Bool
same_square a b = int_eq a.x b.x && int_eq a.y b.y && a.level == b.level

-- squares with equal parts are equal
square_is : (x x' y y' : ℤ) (l l' : ℕ) → x ≡ x' → y ≡ y' → l ≡ l' → let a : Square = record { x = x; y = y; level = l } in let b : Square = record { x = x'; y = y'; level = l' } in a ≡ b
square_is x x' y y' l l' ex ey el =
    let across : ℤ → Square = λ z. record { x = z; y = y; level = l } in
    let upwards : ℤ → Square = λ z. record { x = x'; y = z; level = l } in
    let large : ℕ → Square = λ n. record { x = x'; y = y'; level = n } in
    ap across ex ∙ ap upwards ey ∙ ap large el

-- the test of two squares tells whether they are equal
pub square_decides : (a b : Square) → Decides (same_square a b) (a ≡ b)
square_decides a b = (
  λ yes.
      let both = and_parts (int_eq a.x b.x && int_eq a.y b.y) (a.level == b.level) yes in
      let places = and_parts (int_eq a.x b.x) (int_eq a.y b.y) both.0 in
      square_is a.x b.x a.y b.y a.level b.level ((Decides-int_eq a.x b.x).0 places.0) ((Decides-int_eq a.y b.y).0 places.1) ((Decides-eqb a.level b.level).0 both.1),
  λ e.
      and_from (int_eq a.x b.x && int_eq a.y b.y) (a.level == b.level)
      (and_from (int_eq a.x b.x) (int_eq a.y b.y) ((Decides-int_eq a.x b.x).1 (ap (λ (s : Square). s.x) e)) ((Decides-int_eq a.y b.y).1 (ap (λ (s : Square). s.y) e)))
      ((Decides-eqb a.level b.level).1 (ap (λ (s : Square). s.level) e)),
)

abbrev pub same_bool : Bool → Bool → Bool
same_bool a b = cond a b (not b)

bool_decides : (a b : Bool) → Decides (same_bool a b) (a ≡ b)
bool_decides true true = (λ e. refl, λ e. refl)
bool_decides true false = (λ e. sym e, λ e. sym e)
bool_decides false true = (λ e. e, λ e. e)
bool_decides false false = (λ e. refl, λ e. refl)

-- a test of two squares of trees
abbrev pub same_tree_square : TreeSquare → TreeSquare → Bool
same_tree_square a b = same_square a.square b.square && same_bool a.is_split b.is_split

-- it tells whether they are equal
pub tree_square_decides : (a b : TreeSquare) → Decides (same_tree_square a b) (a ≡ b)
tree_square_decides a b = (
  λ yes.
      let both = and_parts (same_square a.square b.square) (same_bool a.is_split b.is_split) yes in
      let here : Square → TreeSquare = λ s. record { square = s; is_split = a.is_split } in
      let split : Bool → TreeSquare = λ t. record { square = b.square; is_split = t } in
      ap here ((square_decides a.square b.square).0 both.0) ∙ ap split ((bool_decides a.is_split b.is_split).0 both.1),
  λ e.
      and_from (same_square a.square b.square) (same_bool a.is_split b.is_split)
      ((square_decides a.square b.square).1 (ap (λ (s : TreeSquare). s.square) e))
      ((bool_decides a.is_split b.is_split).1 (ap (λ (s : TreeSquare). s.is_split) e)),
)

-- 1 for a leaf that holds p, else 0
abbrev pub held : Point → TreeSquare → ℕ
held p s = cond s.is_split 0 (once (holds s.square p))

leaves-step : (f : Square → ℕ) (s : Square) (b : Bool) (squares : List TreeSquare) → total f (leaves (record { square = s; is_split = b } ∷ squares)) ≡ cond b 0 (f s) + total f (leaves squares)
leaves-step f s true squares = omega arith
leaves-step f s false squares = refl

-- a total over the leaves of a list
pub total-leaves : (f : Square → ℕ) (squares : List TreeSquare) → total f (leaves squares) ≡ total (λ (s : TreeSquare). cond s.is_split 0 (f s.square)) squares
total-leaves f [] = refl
total-leaves f (s ∷ squares) =
    leaves-step f s.square s.is_split squares ∙ ap (λ n. cond s.is_split 0 (f s.square) + n) (total-leaves f squares)

-- a point stands in one leaf of a tree whose root holds it, and in no leaf else
pub total-held : (t : Tree) (root : Square) (p : Point) → Fits t root.level → total (held p) (preorder t root) ≡ once (holds root p)
total-held Leaf root p fits = omega arith
total-held (Branch a b c d) root p fits =
    let pa = preorder a (quarter_of root 0) in
    let pb = preorder b (quarter_of root 1) in
    let pc = preorder c (quarter_of root 2) in
    let pd = preorder d (quarter_of root 3) in
    omega (
      arith,
      total-append (held p) pa (pb ++ (pc ++ pd)),
      total-append (held p) pb (pc ++ pd),
      total-append (held p) pc pd,
      total-held a (quarter_of root 0) p fits.1,
      total-held b (quarter_of root 1) p fits.2,
      total-held c (quarter_of root 2) p fits.3,
      total-held d (quarter_of root 3) p fits.4,
      quarters-tile root fits.0 p,
    )

-- the leaves of a tree hold each point of its root once, and no other
pub leaves-tile : (t : Tree) (root : Square) → Fits t root.level → Tiles (leaves (preorder t root)) root
leaves-tile t root fits p =
    count_by-total (λ (s : Square). holds s p) (leaves (preorder t root))
    ∙ total-leaves (λ s. once (holds s p)) (preorder t root) ∙ total-held t root p fits

-- ---- cutting a leaf
-- a square that has no quarters in a tree
abbrev pub leaf_at : Square → TreeSquare
leaf_at s = record { square = s; is_split = false }

-- one that has
abbrev pub split_at : Square → TreeSquare
split_at s = record { square = s; is_split = true }

-- what a cut square and its quarters count
abbrev pub gained : (TreeSquare → ℕ) → Square → ℕ
gained f s = f (split_at s) + f (leaf_at (quarter_of s 0)) + f (leaf_at (quarter_of s 1)) + f (leaf_at (quarter_of s 2)) + f (leaf_at (quarter_of s 3))

-- a tree whose squares are those of t, with the leaf q cut
pub record IsCut (t : Tree) (root q : Square) (u : Tree) : Type 0 where
  pub fits : Fits u root.level
  pub totals : (f : TreeSquare → ℕ) → total f (preorder u root) + f (leaf_at q) ≡ total f (preorder t root) + gained f q

-- a total over a tree of trees of the quarters
pub total-branch : (f : TreeSquare → ℕ) (a b c d : Tree) (root : Square) → total f (preorder (Branch a b c d) root) ≡ f (split_at root) + total f (preorder a (quarter_of root 0)) + total f (preorder b (quarter_of root 1)) + total f (preorder c (quarter_of root 2)) + total f (preorder d (quarter_of root 3))
total-branch f a b c d root =
    let pa = preorder a (quarter_of root 0) in
    let pb = preorder b (quarter_of root 1) in
    let pc = preorder c (quarter_of root 2) in
    let pd = preorder d (quarter_of root 3) in
    omega (arith, total-append f pa (pb ++ (pc ++ pd)), total-append f pb (pc ++ pd), total-append f pc pd)

in_rest : (x y : TreeSquare) (squares : List TreeSquare) → (x ≡ y → ⊥) → Contains (x ∷ squares) y → Contains squares y
in_rest x y squares other (zero, h, e) = absurd (other e)
in_rest x y squares other (suc k, h, e) = (k, omega arith, e)

only_leaf : (root q : Square) → Contains (preorder Leaf root) (leaf_at q) → root ≡ q
only_leaf root q (zero, h, e) = ap (λ (s : TreeSquare). s.square) e
only_leaf root q (suc k, h, e) = absurd (omega arith)

cut_root : (root : Square) → 0 < root.level → IsCut Leaf root root (Branch Leaf Leaf Leaf Leaf)
cut_root root above = record { fits = (above, tt, tt, tt, tt); totals = λ f. omega arith }

cut_first : (a b c d u : Tree) (root q : Square) → Fits (Branch a b c d) root.level → IsCut a (quarter_of root 0) q u → IsCut (Branch a b c d) root q (Branch u b c d)
cut_first a b c d u root q fits cut = record {
  fits = (fits.0, cut.fits, fits.2, fits.3, fits.4);
  totals = λ f. omega (arith, total-branch f a b c d root, total-branch f u b c d root, cut.totals f);
}

cut_second : (a b c d u : Tree) (root q : Square) → Fits (Branch a b c d) root.level → IsCut b (quarter_of root 1) q u → IsCut (Branch a b c d) root q (Branch a u c d)
cut_second a b c d u root q fits cut = record {
  fits = (fits.0, fits.1, cut.fits, fits.3, fits.4);
  totals = λ f. omega (arith, total-branch f a b c d root, total-branch f a u c d root, cut.totals f);
}

cut_third : (a b c d u : Tree) (root q : Square) → Fits (Branch a b c d) root.level → IsCut c (quarter_of root 2) q u → IsCut (Branch a b c d) root q (Branch a b u d)
cut_third a b c d u root q fits cut = record {
  fits = (fits.0, fits.1, fits.2, cut.fits, fits.4);
  totals = λ f. omega (arith, total-branch f a b c d root, total-branch f a b u d root, cut.totals f);
}

cut_fourth : (a b c d u : Tree) (root q : Square) → Fits (Branch a b c d) root.level → IsCut d (quarter_of root 3) q u → IsCut (Branch a b c d) root q (Branch a b c u)
cut_fourth a b c d u root q fits cut = record {
  fits = (fits.0, fits.1, fits.2, fits.3, cut.fits);
  totals = λ f. omega (arith, total-branch f a b c d root, total-branch f a b c u root, cut.totals f);
}

-- cutting a leaf gives a tree
pub cut_leaf : (t : Tree) (root q : Square) → 0 < q.level → Fits t root.level → Contains (preorder t root) (leaf_at q) → (u : Tree) × IsCut t root q u
cut_leaf Leaf root q above fits at =
    let e = only_leaf root q at in
    subst (λ (s : Square). (u : Tree) × IsCut Leaf root s u) e (Branch Leaf Leaf Leaf Leaf, cut_root root (rw e above))
cut_leaf (Branch a b c d) root q above fits at =
    let pa = preorder a (quarter_of root 0) in
    let pb = preorder b (quarter_of root 1) in
    let pc = preorder c (quarter_of root 2) in
    let pd = preorder d (quarter_of root 3) in
    let below = in_rest (split_at root) (leaf_at q) (pa ++ (pb ++ (pc ++ pd))) (λ e. true≢false (ap (λ (s : TreeSquare). s.is_split) e)) at in
    ⊎_elim
    (λ (h : Contains pa (leaf_at q)).
    let r = cut_leaf a (quarter_of root 0) q above fits.1 h in
    (Branch r.0 b c d, cut_first a b c d r.0 root q fits r.1))
    (λ (later : Contains (pb ++ (pc ++ pd)) (leaf_at q)).
    ⊎_elim
    (λ (h : Contains pb (leaf_at q)).
    let r = cut_leaf b (quarter_of root 1) q above fits.2 h in
    (Branch a r.0 c d, cut_second a b c d r.0 root q fits r.1))
    (λ (last : Contains (pc ++ pd) (leaf_at q)).
    ⊎_elim
    (λ (h : Contains pc (leaf_at q)).
    let r = cut_leaf c (quarter_of root 2) q above fits.3 h in
    (Branch a b r.0 d, cut_third a b c d r.0 root q fits r.1))
    (λ (h : Contains pd (leaf_at q)).
    let r = cut_leaf d (quarter_of root 3) q above fits.4 h in
    (Branch a b c r.0, cut_fourth a b c d r.0 root q fits r.1))
    (Contains-append_cases pc pd (leaf_at q) last))
    (Contains-append_cases pb (pc ++ pd) (leaf_at q) later))
    (Contains-append_cases pa (pb ++ (pc ++ pd)) (leaf_at q) below)

-- a tree has one square, and four more for each that is split
pub tree-size : (t : Tree) (root : Square) → length (preorder t root) ≡ 1 + 4 * count_by (λ (s : TreeSquare). s.is_split) (preorder t root)
tree-size t root =
    let counted = count_by-total (λ (s : TreeSquare). s.is_split) (preorder t root) in
    omega (arith, counted, total-length (preorder t root), size_total t root)
  where
    size_total : (t : Tree) (root : Square) → total (λ (s : TreeSquare). 1) (preorder t root) ≡ 1 + 4 * total (λ (s : TreeSquare). once s.is_split) (preorder t root)
    size_total Leaf root = refl
    size_total (Branch a b c d) root =
        let f : TreeSquare → ℕ = λ s. once s.is_split in
        let g : TreeSquare → ℕ = λ s. 1 in
        omega (arith, total-branch f a b c d root, total-branch g a b c d root, size_total a (quarter_of root 0), size_total b (quarter_of root 1), size_total c (quarter_of root 2), size_total d (quarter_of root 3))
