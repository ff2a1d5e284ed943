-- Marks that are read in preorder are those of a tree.
use Rattle.std.proofs.Common.{◌≡◌, ℤ, Bool, List, [], ◌∷◌, Option, refl, sym, subst}
use Rattle.std.specs.Prelude.{⊤}
use Rattle.siting_definitions.specs.declared.Mark.{Mark}
use Rattle.siting_definitions.specs.Instance.{Instance}
use Rattle.siting_definitions.specs.Square.{Square}
use Rattle.siting_definitions.specs.Tree.{Tree, TreeSquare, preorder}
use Rattle.siting_definitions.specs.Marks.{is_split, MarkFits, MarksFit, AreMarks}
use Rattle.dyadic_square.specs.Walk.{Walks, coming_after}
use Rattle.dyadic_square.proofs.Walks.{walk-preorder, tree-walk}
use Rattle.answer_model.proofs.NodesLemmas.{same_split}
use Rattle.cert_checker.proofs.FaultLemmas.{marked_square, fits-level}

-- each mark fits the square that comes next, and nothing is to come at the end
abbrev pub Reads : Instance → ℤ → Option ℤ → List Square → List Mark → Type 0
Reads i gap u [] [] = ⊤
Reads i gap u [] (m ∷ ms) = ⊥
Reads i gap u (s ∷ squares) [] = ⊥
Reads i gap u (s ∷ squares) (m ∷ ms) = MarkFits i gap u (marked_square s m) m × Reads i gap u (coming_after s (is_split m) squares) ms

-- the squares of the marks
abbrev squares_read : List Square → List Mark → List TreeSquare
squares_read [] ms = []
squares_read (s ∷ squares) [] = []
squares_read (s ∷ squares) (m ∷ ms) = marked_square s m ∷ squares_read (coming_after s (is_split m) squares) ms

reads-walk : (i : Instance) (gap : ℤ) (u : Option ℤ) (squares : List Square) (ms : List Mark) → Reads i gap u squares ms → Walks squares (squares_read squares ms) × MarksFit i gap u (squares_read squares ms) ms
reads-walk i gap u [] [] reads = (tt, tt)
reads-walk i gap u [] (m ∷ ms) reads = absurd reads
reads-walk i gap u (s ∷ squares) [] reads = absurd reads
reads-walk i gap u (s ∷ squares) (m ∷ ms) reads =
    let later = reads-walk i gap u (coming_after s (is_split m) squares) ms reads.1 in
    ((refl, fits-level i gap u s m reads.0, later.0), (reads.0, later.1))

-- marks that are read from a root on are those of a tree of it
pub reads-tree : (i : Instance) (gap : ℤ) (u : Option ℤ) (root : Square) (ms : List Mark) → Reads i gap u (root ∷ []) ms → (t : Tree) × AreMarks i gap u t root ms
reads-tree i gap u root ms reads =
    let walk = reads-walk i gap u (root ∷ []) ms reads in
    let tree = tree-walk root (squares_read (root ∷ []) ms) walk.0 in
    (tree.0, (tree.1, subst (λ (ts : List TreeSquare). MarksFit i gap u ts ms) tree.2 walk.1))

one_read : (i : Instance) (gap : ℤ) (u : Option ℤ) (s q : Square) (b : Bool) (squares : List Square) (m : Mark) (ms : List Mark) → q ≡ s → MarkFits i gap u (record { square = q; is_split = b }) m → Reads i gap u (coming_after s b squares) ms → Reads i gap u (s ∷ squares) (m ∷ ms)
one_read i gap u s q b squares m ms e fits later =
    let same = sym (same_split i gap u q b m fits) in
    let at_split = subst (λ (x : Bool). MarkFits i gap u (record { square = q; is_split = x }) m) same fits in
    (subst (λ (z : Square). MarkFits i gap u (marked_square z m) m) e at_split, subst (λ (x : Bool). Reads i gap u (coming_after s x squares) ms) same later)

walk-reads : (i : Instance) (gap : ℤ) (u : Option ℤ) (squares : List Square) (ts : List TreeSquare) (ms : List Mark) → Walks squares ts → MarksFit i gap u ts ms → Reads i gap u squares ms
walk-reads i gap u [] [] [] walk fits = tt
walk-reads i gap u [] [] (m ∷ ms) walk fits = absurd fits
walk-reads i gap u [] (t ∷ ts) ms walk fits = absurd walk
walk-reads i gap u (s ∷ squares) [] ms walk fits = absurd walk
walk-reads i gap u (s ∷ squares) (t ∷ ts) [] walk fits = absurd fits
walk-reads i gap u (s ∷ squares) (t ∷ ts) (m ∷ ms) walk fits =
    one_read i gap u s t.square t.is_split squares m ms walk.0 fits.0 (walk-reads i gap u (coming_after s t.is_split squares) ts ms walk.2 fits.1)

-- the marks of a tree are read from its root on
pub tree-reads : (i : Instance) (gap : ℤ) (u : Option ℤ) (root : Square) (ms : List Mark) (t : Tree) → AreMarks i gap u t root ms → Reads i gap u (root ∷ []) ms
tree-reads i gap u root ms t marks = walk-reads i gap u (root ∷ []) (preorder t root) ms (walk-preorder t root marks.0) marks.1
