-- The lists that are read in preorder are the preorders of trees.
use Rattle.std.proofs.Common.{◌≡◌, ℕ, zero, suc, ◌<◌, ◌≤◌, Bool, true, false, List, [], ◌∷◌, ◌++◌, length, refl, sym, ◌∙◌, ap, subst, append_assoc, append-nil, length-append, arith}
use Rattle.std.specs.Bool.{OnTrue}
use Rattle.siting_definitions.specs.Square.{Square, quarter_of}
use Rattle.siting_definitions.specs.Tree.{Tree, Leaf, Branch, Fits, TreeSquare, preorder}
use Rattle.dyadic_square.specs.Walk.{Walks, coming_after}
use Rattle.dyadic_square.proofs.Trees.{split_at}

-- a tree of s is read, and then what comes after it
pub walk-tree : (t : Tree) (s : Square) (coming : List Square) (rest : List TreeSquare) → Fits t s.level → Walks coming rest → Walks (s ∷ coming) (preorder t s ++ rest)
walk-tree Leaf s coming rest fits later = (refl, tt, later)
walk-tree (Branch a b c d) s coming rest fits later =
    let q0 = quarter_of s 0 in
    let q1 = quarter_of s 1 in
    let q2 = quarter_of s 2 in
    let q3 = quarter_of s 3 in
    let pa = preorder a q0 in
    let pb = preorder b q1 in
    let pc = preorder c q2 in
    let pd = preorder d q3 in
    let joined : (pa ++ (pb ++ (pc ++ pd))) ++ rest ≡ pa ++ (pb ++ (pc ++ (pd ++ rest))) = simp append_assoc in
    let walk =
    walk-tree a q0 (q1 ∷ q2 ∷ q3 ∷ coming) (pb ++ (pc ++ (pd ++ rest))) fits.1
    (walk-tree b q1 (q2 ∷ q3 ∷ coming) (pc ++ (pd ++ rest)) fits.2
    (walk-tree c q2 (q3 ∷ coming) (pd ++ rest) fits.3 (walk-tree d q3 coming rest fits.4 later))) in
    (refl, fits.0, subst (λ (z : List TreeSquare). Walks (q0 ∷ q1 ∷ q2 ∷ q3 ∷ coming) z) (sym joined) walk)

-- what is read from s on: a tree of s, and then a walk of what comes after it
pub record IsRead (s : Square) (coming : List Square) (ts : List TreeSquare) : Type 0 where
  pub tree : Tree
  pub rest : List TreeSquare
  pub fits : Fits tree s.level
  pub is : ts ≡ preorder tree s ++ rest
  pub later : Walks coming rest

abbrev Reads : ℕ → Type 0
Reads n = (s : Square) (coming : List Square) (ts : List TreeSquare) → length ts ≤ n → Walks (s ∷ coming) ts → IsRead s coming ts

shorter : (n : ℕ) (ts part rest : List TreeSquare) → length ts ≤ n → ts ≡ part ++ rest → length rest ≤ n
shorter n ts part rest few e = omega (arith, ap length e, length-append part rest)

joined_parts : (ts pa pb pc pd ra rb rc rd : List TreeSquare) → ts ≡ pa ++ ra → ra ≡ pb ++ rb → rb ≡ pc ++ rc → rc ≡ pd ++ rd → ts ≡ (pa ++ (pb ++ (pc ++ pd))) ++ rd
joined_parts ts pa pb pc pd ra rb rc rd ea eb ec ed = rw (ea, eb, ec, ed) (simp append_assoc)

split_first : (q s : Square) (ts us : List TreeSquare) → q ≡ s → ts ≡ us → let t : TreeSquare = record { square = q; is_split = true } in t ∷ ts ≡ split_at s ∷ us
split_first q s ts us e all =
    let first : Square → List TreeSquare = λ z. split_at z ∷ ts in
    ap first e ∙ ap (λ z. split_at s ∷ z) all

-- a square is read: its quarters come next where it is split
read_one : (n : ℕ) (reads : Reads n) (b : Bool) (q s : Square) (coming : List Square) (ts : List TreeSquare) → length ts ≤ n → q ≡ s → OnTrue b (0 < s.level) → Walks (coming_after s b coming) ts → IsRead s coming (record { square = q; is_split = b } ∷ ts)
read_one n reads false q s coming ts few e above walk =
    let first : Square → TreeSquare = λ z. record { square = z; is_split = false } in
    record { tree = Leaf; rest = ts; fits = tt; is = ap (λ z. first z ∷ ts) e; later = walk }
read_one n reads true q s coming ts few e above walk =
    let q0 = quarter_of s 0 in
    let q1 = quarter_of s 1 in
    let q2 = quarter_of s 2 in
    let q3 = quarter_of s 3 in
    let a = reads q0 (q1 ∷ q2 ∷ q3 ∷ coming) ts few walk in
    let b = reads q1 (q2 ∷ q3 ∷ coming) a.rest (shorter n ts (preorder a.tree q0) a.rest few a.is) a.later in
    let few_b = shorter n a.rest (preorder b.tree q1) b.rest (shorter n ts (preorder a.tree q0) a.rest few a.is) b.is in
    let c = reads q2 (q3 ∷ coming) b.rest few_b b.later in
    let few_c = shorter n b.rest (preorder c.tree q2) c.rest few_b c.is in
    let d = reads q3 coming c.rest few_c c.later in
    let all = joined_parts ts (preorder a.tree q0) (preorder b.tree q1) (preorder c.tree q2) (preorder d.tree q3) a.rest b.rest c.rest d.rest a.is b.is c.is d.is in
    record { tree = Branch a.tree b.tree c.tree d.tree; rest = d.rest; fits = (above, a.fits, b.fits, c.fits, d.fits); is = split_first q s ts ((preorder a.tree q0 ++ (preorder b.tree q1 ++ (preorder c.tree q2 ++ preorder d.tree q3))) ++ d.rest) e all; later = d.later }

reads_all : (n : ℕ) → Reads n
reads_all n s coming [] few walk = absurd walk
reads_all zero s coming (t ∷ ts) few walk = absurd (omega arith)
reads_all (suc n) s coming (t ∷ ts) few walk =
    read_one n (reads_all n) t.is_split t.square s coming ts (omega arith) walk.0 walk.1 walk.2

-- what is read from s on begins with a tree of s
pub read-tree : (s : Square) (coming : List Square) (ts : List TreeSquare) → Walks (s ∷ coming) ts → IsRead s coming ts
read-tree s coming ts walk = reads_all (length ts) s coming ts (omega arith) walk

nothing_left : (rest : List TreeSquare) → Walks [] rest → rest ≡ []
nothing_left [] walk = refl
nothing_left (t ∷ ts) walk = absurd walk

-- the preorder of a tree is read as one
pub walk-preorder : (t : Tree) (root : Square) → Fits t root.level → Walks (root ∷ []) (preorder t root)
walk-preorder t root fits =
    rw append-nil at (walk-tree t root [] [] fits tt)

-- and what is read as one is the preorder of a tree
pub tree-walk : (root : Square) (squares : List TreeSquare) → Walks (root ∷ []) squares → (t : Tree) × Fits t root.level × (squares ≡ preorder t root)
tree-walk root squares walk =
    let r = read-tree root [] squares walk in
    let whole : preorder r.tree root ++ r.rest ≡ preorder r.tree root = rw (nothing_left r.rest r.later) (append-nil (preorder r.tree root)) in
    (r.tree, r.fits, r.is ∙ whole)
