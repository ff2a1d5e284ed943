-- The nodes of an answer are those of its tree.
use Rattle.std.proofs.Common.{◌≡◌, ℤ, Bool, true, false, List, [], ◌∷◌, map, Option, refl, sym, ap, ◌∙◌, subst}
use Rattle.siting_definitions.specs.declared.Mark.{Mark}
use Rattle.siting_definitions.specs.Instance.{Instance}
use Rattle.siting_definitions.specs.Square.{Square}
use Rattle.siting_definitions.specs.Sites.{root_of}
use Rattle.siting_definitions.specs.Tree.{Tree, TreeSquare, preorder}
use Rattle.siting_definitions.specs.Marks.{is_split, MarkFits, MarksFit, AreMarks}
use Rattle.siting_definitions.specs.Answer.{Answer, IsValid, upper_cost}
use Rattle.siting_definitions.proofs.MarkLemmas.{leaf_unsplit, split_fits}
use Rattle.dyadic_square.specs.Walk.{Walks, coming_after}
use Rattle.dyadic_square.proofs.Walks.{walk-preorder}
use Rattle.discard_log.specs.Nodes.{mark_of, tree_square}
use Rattle.answer_model.specs.Nodes.{nodes_in_order, nodes_of}

-- a mark that fits is that of a split square exactly where the square is split
pub same_split : (i : Instance) (gap : ℤ) (u : Option ℤ) (s : Square) (b : Bool) (m : Mark) → MarkFits i gap u (record { square = s; is_split = b }) m → is_split m ≡ b
same_split i gap u s true m fits = split_fits i gap u s m fits
same_split i gap u s false m fits = ap is_split fits ∙ leaf_unsplit i gap u s

square_is : (t : TreeSquare) (s : Square) (b : Bool) → t.square ≡ s → b ≡ t.is_split → record { square = s; is_split = b } ≡ t
square_is t s b e f =
    ap (λ (q : Square). record { square = q; is_split = b }) (sym e) ∙ ap (λ (x : Bool). record { square = t.square; is_split = x }) f

-- what a walk with marks reads
walk-nodes : (i : Instance) (gap : ℤ) (u : Option ℤ) (squares : List Square) (ts : List TreeSquare) (ms : List Mark) → Walks squares ts → MarksFit i gap u ts ms → (map tree_square (nodes_in_order squares ms) ≡ ts) × (map mark_of (nodes_in_order squares ms) ≡ ms)
walk-nodes i gap u [] [] [] walk fits = (refl, refl)
walk-nodes i gap u [] [] (m ∷ ms) walk fits = absurd fits
walk-nodes i gap u [] (t ∷ ts) ms walk fits = absurd walk
walk-nodes i gap u (s ∷ squares) [] ms walk fits = absurd walk
walk-nodes i gap u (s ∷ squares) (t ∷ ts) [] walk fits = absurd fits
walk-nodes i gap u (s ∷ squares) (t ∷ ts) (m ∷ ms) walk fits =
    let same : is_split m ≡ t.is_split = same_split i gap u t.square t.is_split m fits.0 in
    let rest = walk-nodes i gap u (coming_after s t.is_split squares) ts ms walk.2 fits.1 in
    let later = subst (λ (b : Bool). (map tree_square (nodes_in_order (coming_after s b squares) ms) ≡ ts) × (map mark_of (nodes_in_order (coming_after s b squares) ms) ≡ ms)) (sym same) rest in
    let first = square_is t s (is_split m) walk.0 same in (
      ap (λ (k : TreeSquare). k ∷ map tree_square (nodes_in_order (coming_after s (is_split m) squares) ms)) first ∙ ap (λ ks. t ∷ ks) later.0,
      ap (λ ks. m ∷ ks) later.1,
    )

-- the nodes of a valid answer are the squares of its tree in preorder, with its marks
pub valid-nodes : (a : Answer) → IsValid a
    → (t : Tree) × AreMarks a.head.instance a.head.gap (upper_cost a.head.best) t (root_of a.head.instance) a.marks
    × (map tree_square (nodes_of a) ≡ preorder t (root_of a.head.instance)) × (map mark_of (nodes_of a) ≡ a.marks)
valid-nodes a valid =
    let root = root_of a.head.instance in
    let t = valid.tree.0 in
    let read = walk-nodes a.head.instance a.head.gap (upper_cost a.head.best) (root ∷ []) (preorder t root) a.marks (walk-preorder t root valid.tree.1.0) valid.tree.1.1 in
    (t, valid.tree.1, read.0, read.1)
