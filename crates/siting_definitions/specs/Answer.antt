-- Answers, and when an answer is valid.
use Rattle.std.specs.Prelude.{◌≡◌, ℕ, ◌+◌, ◌*◌, ◌^◌, ◌<◌, ◌≤◌, ◌==◌, ℤ, pos, ◌≤ℤ◌, unsigned_abs}
use Rattle.std.specs.Prelude.{Bool, true, false, if◌then◌else◌, not, is_some, List, All, Option}
use Rattle.std.specs.Prelude.{Some, None, option_map, MatchOption, FitsSigned, IsTrue, ⊤}
use Rattle.std.specs.Int.{w64}
use Rattle.siting_definitions.specs.declared.TheConstants.{GAP_LIMIT, BUDGET_LIMIT, POOL_LIMIT}
use Rattle.siting_definitions.specs.declared.Mark.{Mark}
use Rattle.siting_definitions.specs.declared.Mark.TheVariants.{Split, Shut, Bounded}
use Rattle.siting_definitions.specs.declared.Mark.TheVariants.{Floor as FloorMark, Left}
use Rattle.siting_definitions.specs.declared.Word.{Word}
use Rattle.siting_definitions.specs.declared.Word.TheVariants.{Solved, PoolFull}
use Rattle.siting_definitions.specs.declared.Word.TheVariants.{Budget, Floor, Empty}
use Rattle.siting_definitions.specs.Point.{Pt, point_of}
use Rattle.siting_definitions.specs.Instance.{Instance, IsInstance}
use Rattle.siting_definitions.specs.Permitted.{permits}
use Rattle.siting_definitions.specs.Bounds.{lower_of, upper_of}
use Rattle.siting_definitions.specs.Sites.{opening_cost, root_of}
use Rattle.siting_definitions.specs.Tree.{Tree}
use Rattle.siting_definitions.specs.Marks.{IsAtMost, AreMarks, Tally, tally_of}

-- a site in grid units, and the two numbers that enclose its cost, in cost units
pub record Best : Type 0 where
  pub site : Pt
  pub lower : ℤ
  pub upper : ℤ

-- what an answer says of its instance and of its search, without its tree; gap and bound in cost
-- units
pub record Head : Type 0 where
  pub instance : Instance
  pub gap : ℤ
  pub budget : ℕ
  pub pool : ℕ
  pub best : Option Best
  pub bound : Option ℤ
  pub word : Word
  pub open_count : ℕ
  pub leases : ℕ

-- an answer: its head, and the marks of its tree in preorder
pub record Answer : Type 0 where
  pub head : Head
  pub marks : List Mark

-- the upper cost of the site, if there is one
abbrev pub upper_cost : Option Best → Option ℤ
upper_cost best = option_map (λ (b : Best). b.upper) best

-- each coordinate is at most 2 ^ 38 in size
abbrev pub IsSite : Pt → Type 0
IsSite z = (unsigned_abs z.x ≤ 2 ^ 38) × (unsigned_abs z.y ≤ 2 ^ 38)

-- the ranges of a best site and of its two numbers
pub record IsBest (b : Best) : Type 0 where
  pub site : IsSite b.site
  pub lower : FitsSigned w64 b.lower
  pub upper : FitsSigned w64 b.upper

-- the ranges of a head's fields
pub record IsHead (h : Head) : Type 0 where
  pub instance : IsInstance h.instance
  pub gap_least : pos 0 ≤ℤ h.gap
  pub gap_most : h.gap ≤ℤ pos GAP_LIMIT
  pub budget : h.budget ≤ BUDGET_LIMIT
  pub pool_least : 1 ≤ h.pool
  pub pool_most : h.pool ≤ POOL_LIMIT
  pub best : MatchOption h.best ⊤ IsBest
  pub bound : MatchOption h.bound ⊤ (FitsSigned w64)
  pub open_count : h.open_count ≤ POOL_LIMIT
  pub leases : h.leases ≤ BUDGET_LIMIT

-- the range of a mark's number
abbrev pub IsMark : Mark → Type 0
IsMark (Split None) = ⊤
IsMark (Split (Some v)) = FitsSigned w64 v
IsMark Shut = ⊤
IsMark (Bounded b) = FitsSigned w64 b
IsMark (FloorMark b) = FitsSigned w64 b
IsMark (Left b) = FitsSigned w64 b

-- a permitted site with its lower and its upper cost
pub record IsPriced (i : Instance) (b : Best) : Type 0 where
  pub permitted : IsTrue (permits i (point_of b.site))
  pub lower : b.lower ≡ lower_of i b.site
  pub upper : b.upper ≡ upper_of i b.site

-- the site has its costs, and where there is an opening, it costs no more than the opening
pub record HeadFits (h : Head) : Type 0 where
  pub best : MatchOption h.best ⊤ (IsPriced h.instance)
  pub opening : MatchOption (opening_cost h.instance) ⊤ (IsAtMost (upper_cost h.best))

-- whether the word is `solved`
abbrev pub is_solved : Word → Bool
is_solved Solved = true
is_solved PoolFull = false
is_solved Budget = false
is_solved Floor = false
is_solved Empty = false

-- whether the word is `floor`
abbrev pub is_floored : Word → Bool
is_floored Solved = false
is_floored PoolFull = false
is_floored Budget = false
is_floored Floor = true
is_floored Empty = false

-- whether the word is `empty`
abbrev pub is_empty : Word → Bool
is_empty Solved = false
is_empty PoolFull = false
is_empty Budget = false
is_empty Floor = false
is_empty Empty = true

-- whether the word says that the search was stopped: at its room, or at its budget
abbrev pub is_stopped : Word → Bool
is_stopped Solved = false
is_stopped PoolFull = true
is_stopped Budget = true
is_stopped Floor = false
is_stopped Empty = false

-- whether the word is the one that the marks call for
abbrev pub has_word : Word → Tally → Bool
has_word word t =
    if not (is_some t.least) then is_empty word
    else if t.open_leaves + t.floor_leaves == 0 then is_solved word
    else if t.open_leaves == 0 then is_floored word
    else is_stopped word

-- what the word asks of the counts: squares are open only where the room was used up, and then no
-- three more had room; at a spent budget every lease was given
abbrev pub WordCounts : Head → Tally → Word → Type 0
WordCounts h t Solved = h.open_count ≡ 0
WordCounts h t PoolFull =
    (1 ≤ h.open_count) × (h.open_count ≤ h.pool) × (h.pool < h.open_count + 3)
    × (h.open_count ≤ t.leaves)
WordCounts h t Budget = (h.leases ≡ h.budget) × (h.open_count ≡ 0)
WordCounts h t Floor = h.open_count ≡ 0
WordCounts h t Empty = h.open_count ≡ 0

-- the counts of leases and of open squares fit the tree
pub record CountsFit (h : Head) (t : Tally) : Type 0 where
  pub at_most_budget : h.leases ≤ h.budget
  pub at_most_two_each : h.leases ≤ 2 * t.nodes
  pub at_least_splits : t.splits ≤ h.leases
  pub word : WordCounts h t h.word

-- bound, word and counts are those of the marks
pub record EndFits (h : Head) (t : Tally) : Type 0 where
  pub bound : h.bound ≡ t.least
  pub word : has_word h.word t ≡ true
  pub counts : CountsFit h t

-- an answer whose numbers lie in their ranges, and whose head, tree, marks and end fit one another
pub record IsValid (a : Answer) : Type 0 where
  pub ranges : IsHead a.head
  pub mark_ranges : All IsMark a.marks
  pub head : HeadFits a.head
  pub tree : (t : Tree)
      × AreMarks a.head.instance a.head.gap (upper_cost a.head.best) t (root_of a.head.instance)
      a.marks
  pub end_fits : EndFits a.head (tally_of a.marks)

-- how many leases can have left no trace in the tree, by the word that the search ended with
abbrev pub WorkFits : Head → Tally → ℕ → Word → Type 0
WorkFits h t workers Solved = ⊤
WorkFits h t workers PoolFull = h.leases + t.open_leaves ≤ 2 * t.nodes + workers
WorkFits h t workers Budget = h.leases + t.open_leaves + 1 ≤ 2 * t.nodes + workers
WorkFits h t workers Floor = ⊤
WorkFits h t workers Empty = ⊤

-- An answer that was stopped shows its work. Of a stop at the budget all leases but one
-- less than there are workers, and of a full pool all but as many as there are workers,
-- gave a square its mark or raised it. A square that isn't an open leaf takes two leases at
-- most, and an open leaf one.
abbrev pub IsWorkedBy : Answer → ℕ → Type 0
IsWorkedBy a workers = WorkFits a.head (tally_of a.marks) workers a.head.word
