-- The fine bounds that a pool keeps beside its nodes: those of the squares that the gap settled.
use Rattle.std.specs.Prelude.{◌≡◌, ℕ, zero, suc, ℤ, Bool, true, false, if◌then◌else◌}
use Rattle.std.specs.Prelude.{List, [], ◌∷◌, map, filter, Option, Some, None}
use Rattle.siting_definitions.specs.declared.Mark.{Mark}
use Rattle.siting_definitions.specs.declared.Mark.TheVariants.{Split, Shut, Left}
use Rattle.siting_definitions.specs.declared.Mark.TheVariants.{Bounded as BoundedMark}
use Rattle.siting_definitions.specs.declared.Mark.TheVariants.{Floor as FloorMark}
use Rattle.siting_definitions.specs.Instance.{Instance}
use Rattle.siting_definitions.specs.Bounds.{fine_of}
use Rattle.discard_log.specs.declared.node.Node.{Node}
use Rattle.bound_heap.specs.declared.entry.Entry.{Entry}
use Rattle.pool_core.specs.declared.verdict.Finding.{Finding}
use Rattle.pool_core.specs.declared.verdict.Finding.TheVariants.{Excluded, Bounded}
use Rattle.pool_core.specs.declared.verdict.Finding.TheVariants.{Raise, Part, Floor}

-- whether the gap settled a square with this mark
abbrev pub is_bounded : Mark → Bool
is_bounded (Split seen) = false
is_bounded Shut = false
is_bounded (BoundedMark c) = true
is_bounded (FloorMark b) = false
is_bounded (Left b) = false

-- the mark with this bound in place of the number by which the gap settled the square, where it did
abbrev pub with_bound : ℤ → Mark → Mark
with_bound f (Split seen) = Split seen
with_bound f Shut = Shut
with_bound f (BoundedMark c) = BoundedMark f
with_bound f (FloorMark b) = FloorMark b
with_bound f (Left b) = Left b

-- the node with the fine bound of its square in place of the number by which the gap settled it,
-- where it did
abbrev pub bounded_node : Instance → Node → Node
bounded_node i n = record { square = n.square; mark = with_bound (fine_of i n.square) n.mark }

-- the fine bounds of those squares that the gap settled, in the order of the nodes
abbrev pub settled_bounds : Instance → List Node → List ℤ
settled_bounds i ns =
    map (λ (n : Node). fine_of i n.square) (filter (λ (n : Node). is_bounded n.mark) ns)

-- a raised entry has the fine bound of its square
abbrev pub IsRaisedRight : Instance → Entry → Type 0
IsRaisedRight i e = e.raised ≡ true → e.bound ≡ fine_of i e.square

-- what is kept of the fine bound of a square, if it is known, by a finding
abbrev pub bound_from : Finding → Option ℤ → List ℤ
bound_from Excluded fine = []
bound_from (Bounded c) None = []
bound_from (Bounded c) (Some f) = f ∷ []
bound_from (Raise b) fine = []
bound_from (Part b) fine = []
bound_from (Floor b) fine = []

-- the first of these bounds, where the gap settled a square with this mark
abbrev pub bound_for : Mark → List ℤ → Option ℤ
bound_for (Split seen) fs = None
bound_for Shut fs = None
bound_for (BoundedMark c) [] = None
bound_for (BoundedMark c) (f ∷ fs) = Some f
bound_for (FloorMark b) fs = None
bound_for (Left b) fs = None

-- the nodes, where those that the gap settled have these bounds in turn
abbrev pub with_bounds : List Node → List ℤ → List Node
with_bounds [] fs = []
with_bounds (n ∷ ns) [] = n ∷ with_bounds ns []
with_bounds (n ∷ ns) (f ∷ fs) =
    if is_bounded n.mark then record n { mark = BoundedMark f } ∷ with_bounds ns fs
    else n ∷ with_bounds ns (f ∷ fs)

-- the nodes, with these bounds from the node at index k on
abbrev pub with_bounds_from : ℕ → List Node → List ℤ → List Node
with_bounds_from zero ns fs = with_bounds ns fs
with_bounds_from (suc k) [] fs = []
with_bounds_from (suc k) (n ∷ ns) fs = n ∷ with_bounds_from k ns fs
