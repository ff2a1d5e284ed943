-- The marks of a finished tree.
use Rattle.std.specs.Prelude.{◌≡◌, ℕ, ◌<◌, ◌==◌, ℤ, ◌+ℤ◌, ◌≤ℤ◌, ◌<ℤ◌, int_le}
use Rattle.std.specs.Prelude.{Bool, true, false, cond, if◌then◌else◌, List}
use Rattle.std.specs.Prelude.{[], ◌∷◌, Option, Some, None, length, count_by, ⊤}
use Rattle.std.specs.Int.{int_min}
use Rattle.siting_definitions.specs.declared.Mark.{Mark}
use Rattle.siting_definitions.specs.declared.Mark.TheVariants.{Split, Shut, Bounded, Floor, Left}
use Rattle.siting_definitions.specs.Instance.{Instance}
use Rattle.siting_definitions.specs.Square.{Square}
use Rattle.siting_definitions.specs.Bounds.{fine_of}
use Rattle.siting_definitions.specs.Excluded.{is_excluded}
use Rattle.siting_definitions.specs.Sites.{opening_cost, centre_cost}
use Rattle.siting_definitions.specs.Tree.{Tree, TreeSquare, Fits, preorder}

-- a number, and at most z
abbrev pub IsAtMost : Option ℤ → ℤ → Type 0
IsAtMost None z = ⊥
IsAtMost (Some n) z = n ≤ℤ z

-- none, or a number that is at least z
abbrev pub IsNoneOrAtLeast : Option ℤ → ℤ → Type 0
IsNoneOrAtLeast None z = ⊤
IsNoneOrAtLeast (Some n) z = z ≤ℤ n

-- v is a number of the incumbent that may have been seen when s was split, with u the least upper
-- cost at the end
abbrev pub SeenFits : Instance → ℤ → Option ℤ → Square → Option ℤ → Type 0
SeenFits i gap u s None = (opening_cost i ≡ None) × (centre_cost i s ≡ None)
SeenFits i gap u s (Some v) =
    IsAtMost u v × ((fine_of i s +ℤ gap) <ℤ v) × IsNoneOrAtLeast (opening_cost i) v
    × IsNoneOrAtLeast (centre_cost i s) v

-- the split of s, after v was seen, was called for
pub record IsCalledFor (i : Instance) (gap : ℤ) (u : Option ℤ) (s : Square) (v : Option ℤ) :
    Type 0 where
  pub level : 0 < s.level
  pub open_square : is_excluded i s ≡ false
  pub seen : SeenFits i gap u s v

-- whether u is a number that is at most b
abbrev pub reaches : Option ℤ → ℤ → Bool
reaches None b = false
reaches (Some u) b = int_le u b

-- the finished mark of a leaf, with u the least upper cost
unfoldable pub leaf_mark : Instance → ℤ → Option ℤ → Square → Mark
leaf_mark i gap u s =
    if is_excluded i s then Shut
    else if reaches u (fine_of i s +ℤ gap) then Bounded (fine_of i s)
    else if s.level == 0 then Floor (fine_of i s)
    else Left (fine_of i s)

-- the mark is a split, and the split was called for
abbrev pub SplitFits : Instance → ℤ → Option ℤ → Square → Mark → Type 0
SplitFits i gap u s (Split v) = IsCalledFor i gap u s v
SplitFits i gap u s Shut = ⊥
SplitFits i gap u s (Bounded b) = ⊥
SplitFits i gap u s (Floor b) = ⊥
SplitFits i gap u s (Left b) = ⊥

-- a leaf has its finished mark, and a split square a split that was called for
abbrev pub MarkFits : Instance → ℤ → Option ℤ → TreeSquare → Mark → Type 0
MarkFits i gap u t m =
    cond t.is_split (SplitFits i gap u t.square m) (m ≡ leaf_mark i gap u t.square)

-- each mark fits its square, and there are as many marks as squares
abbrev pub MarksFit : Instance → ℤ → Option ℤ → List TreeSquare → List Mark → Type 0
MarksFit i gap u [] [] = ⊤
MarksFit i gap u [] (m ∷ ms) = ⊥
MarksFit i gap u (t ∷ ts) [] = ⊥
MarksFit i gap u (t ∷ ts) (m ∷ ms) = MarkFits i gap u t m × MarksFit i gap u ts ms

-- the marks, in preorder, of the tree t of s
abbrev pub AreMarks : Instance → ℤ → Option ℤ → Tree → Square → List Mark → Type 0
AreMarks i gap u t s marks = Fits t s.level × MarksFit i gap u (preorder t s) marks

-- the lesser of two numbers that may be absent
abbrev pub lesser : Option ℤ → Option ℤ → Option ℤ
lesser None b = b
lesser (Some a) None = Some a
lesser (Some a) (Some b) = Some (int_min a b)

-- the bound that a leaf's mark gives
abbrev pub bound_of : Mark → Option ℤ
bound_of (Split v) = None
bound_of Shut = None
bound_of (Bounded b) = Some b
bound_of (Floor b) = Some b
bound_of (Left b) = Some b

-- the least bound of the leaves, or none where all of them are excluded
abbrev pub least_of : List Mark → Option ℤ
least_of [] = None
least_of (m ∷ ms) = lesser (bound_of m) (least_of ms)

-- whether the mark is a split
abbrev pub is_split : Mark → Bool
is_split (Split v) = true
is_split Shut = false
is_split (Bounded b) = false
is_split (Floor b) = false
is_split (Left b) = false

-- whether the mark is one of a leaf
abbrev pub is_leaf : Mark → Bool
is_leaf (Split v) = false
is_leaf Shut = true
is_leaf (Bounded b) = true
is_leaf (Floor b) = true
is_leaf (Left b) = true

-- whether the mark is one of a leaf that was left open
abbrev pub is_open : Mark → Bool
is_open (Split v) = false
is_open Shut = false
is_open (Bounded b) = false
is_open (Floor b) = false
is_open (Left b) = true

-- whether the mark is one of a leaf of level 0 that isn't settled
abbrev pub is_floor : Mark → Bool
is_floor (Split v) = false
is_floor Shut = false
is_floor (Bounded b) = false
is_floor (Floor b) = true
is_floor (Left b) = false

-- what is counted of a list of marks
pub record Tally : Type 0 where
  pub nodes : ℕ
  pub splits : ℕ
  pub leaves : ℕ
  pub open_leaves : ℕ
  pub floor_leaves : ℕ
  pub least : Option ℤ

-- the counts of a list of marks, and the least bound of its leaves
unfoldable pub tally_of : List Mark → Tally
tally_of ms =
    record {
      nodes = length ms;
      splits = count_by is_split ms;
      leaves = count_by is_leaf ms;
      open_leaves = count_by is_open ms;
      floor_leaves = count_by is_floor ms;
      least = least_of ms;
    }
