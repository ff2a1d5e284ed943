-- Answers that go on from others.
use Rattle.std.specs.Prelude.{◌≡◌, ℕ, ◌+◌, ◌*◌, ◌≤◌, ◌==◌, Bool, not, ◌&&◌, List, [], ◌∷◌, filter}
use Rattle.std.specs.Prelude.{length, count_by, All, Contains, MatchOption, ⊤}
use Rattle.std.specs.List.{list_any}
use Rattle.std.specs.Ordering.{int_eq}
use Rattle.siting_definitions.specs.declared.Word.{Word}
use Rattle.siting_definitions.specs.declared.Word.TheVariants.{Solved, PoolFull, Budget, Floor}
use Rattle.siting_definitions.specs.declared.Word.TheVariants.{Empty}
use Rattle.siting_definitions.specs.Square.{Square}
use Rattle.siting_definitions.specs.Marks.{IsAtMost, is_split, is_open, is_leaf}
use Rattle.siting_definitions.specs.Answer.{Answer, IsValid, upper_cost}
use Rattle.discard_log.specs.declared.node.Node.{Node}
use Rattle.answer_model.specs.Nodes.{nodes_of}

-- how many squares of the answer's tree are split, are left open, and are leaves that aren't
abbrev pub splits_of : Answer → ℕ
splits_of a = count_by is_split a.marks

abbrev pub open_leaves_of : Answer → ℕ
open_leaves_of a = count_by is_open a.marks

abbrev pub closed_leaves_of : Answer → ℕ
closed_leaves_of a = count_by (λ m. is_leaf m && not (is_open m)) a.marks

abbrev pub same_square : Square → Square → Bool
same_square s t = int_eq s.x t.x && int_eq s.y t.y && s.level == t.level

-- whether the square is one of these, and whether it is left open there
abbrev pub is_among : List Node → Square → Bool
is_among ns s = list_any (λ (n : Node). same_square n.square s) ns

abbrev pub is_open_among : List Node → Square → Bool
is_open_among ns s = is_among (filter (λ (n : Node). is_open n.mark) ns) s

-- b has what a had: its instance and gap, a site that costs no more, a bound that is no lower, or
-- none, and each split with its mark
pub record GoesOn (a b : Answer) : Type 0 where
  pub valid : IsValid b
  pub instance : b.head.instance ≡ a.head.instance
  pub gap : b.head.gap ≡ a.head.gap
  pub cost : MatchOption (upper_cost a.head.best) ⊤ (IsAtMost (upper_cost b.head.best))
  pub bound : MatchOption b.head.bound ⊤ (IsAtMost a.head.bound)
  pub splits : All (Contains (nodes_of b)) (filter (λ (n : Node). is_split n.mark) (nodes_of a))

-- how many squares of b aren't squares of a; how many of them are left open, and how many aren't
abbrev pub new_nodes : Answer → Answer → List Node
new_nodes a b = filter (λ (n : Node). not (is_among (nodes_of a) n.square)) (nodes_of b)

abbrev pub new_open : Answer → Answer → ℕ
new_open a b = count_by (λ (n : Node). is_open n.mark) (new_nodes a b)

abbrev pub new_closed : Answer → Answer → ℕ
new_closed a b = count_by (λ (n : Node). not (is_open n.mark)) (new_nodes a b)

-- how many squares were left open in a and aren't in b
abbrev pub closed_since : Answer → Answer → ℕ
closed_since a b =
    count_by (λ (n : Node). is_open n.mark && not (is_open_among (nodes_of b) n.square))
    (nodes_of a)

-- for a full pool there are at least as many leaves as were open, beside those that were closed in
-- a
abbrev pub LeavesFit : Answer → Answer → Word → Type 0
LeavesFit a b Solved = ⊤
LeavesFit a b PoolFull =
    b.head.open_count + closed_leaves_of a ≤ count_by is_leaf b.marks
LeavesFit a b Budget = ⊤
LeavesFit a b Floor = ⊤
LeavesFit a b Empty = ⊤

-- b is a, resumed with this budget and this pool
pub record IsResumed (a : Answer) (budget pool : ℕ) (b : Answer) : Type 0 where
  pub goes_on : GoesOn a b
  pub budget_is : b.head.budget ≡ budget
  pub pool_is : b.head.pool ≡ pool
  pub leases : b.head.leases ≤ splits_of a + open_leaves_of a + 2 * length (new_nodes a b)
  pub leaves : LeavesFit a b b.head.word

-- how many leases had an effect that b shows, where it goes on from a: one for each split of a, and
-- one for each square left open in a that isn't any more; two for each new square that isn't left
-- open, and one for each that is
abbrev pub shown_leases : Answer → Answer → ℕ
shown_leases a b = splits_of a + closed_since a b + 2 * new_closed a b + new_open a b

abbrev pub ResumedWorkFits : Answer → Answer → ℕ → Word → Type 0
ResumedWorkFits a b workers Solved = ⊤
ResumedWorkFits a b workers PoolFull = b.head.leases ≤ shown_leases a b + workers
ResumedWorkFits a b workers Budget = b.head.leases + 1 ≤ shown_leases a b + workers
ResumedWorkFits a b workers Floor = ⊤
ResumedWorkFits a b workers Empty = ⊤

-- An answer that goes on from a and was stopped shows its work: all leases but one less than there
-- are workers, of a stop at the budget, and all but as many as there are workers, of a full pool.
abbrev pub IsResumedBy : Answer → Answer → ℕ → Type 0
IsResumedBy a b workers = ResumedWorkFits a b workers b.head.word

-- each answer is the one before it, resumed with the budget and the pool that stand with it
abbrev pub AreResumed : Answer → List (ℕ × ℕ × Answer) → Type 0
AreResumed a [] = ⊤
AreResumed a (r ∷ rs) = IsResumed a r.0 r.1 r.2 × AreResumed r.2 rs

-- the last of these answers, the first if there are no others
abbrev pub last_of : Answer → List (ℕ × ℕ × Answer) → Answer
last_of a [] = a
last_of a (r ∷ rs) = last_of r.2 rs
