-- The faults of an answer past its form, in their order.
use Rattle.std.specs.Prelude.{ℕ, ◌+◌, ◌*◌, ◌==◌, nat_le, nat_lt, ℤ, ◌+ℤ◌, int_le, int_lt, Bool}
use Rattle.std.specs.Prelude.{true, false, if◌then◌else◌, not, ◌&&◌, ◌||◌, is_some, length, Option}
use Rattle.std.specs.Prelude.{Some, None}
use Rattle.std.specs.Ordering.{int_eq}
use Rattle.siting_definitions.specs.declared.Mark.{Mark}
use Rattle.siting_definitions.specs.declared.Mark.TheVariants.{Split, Shut, Bounded}
use Rattle.siting_definitions.specs.declared.Mark.TheVariants.{Floor as FloorMark, Left}
use Rattle.siting_definitions.specs.declared.Word.{Word}
use Rattle.siting_definitions.specs.declared.Word.TheVariants.{Solved, PoolFull, Budget, Floor}
use Rattle.siting_definitions.specs.declared.Word.TheVariants.{Empty}
use Rattle.siting_definitions.specs.Point.{point_of}
use Rattle.siting_definitions.specs.Instance.{Instance}
use Rattle.siting_definitions.specs.InstanceText.{instance_lines}
use Rattle.siting_definitions.specs.Permitted.{permits}
use Rattle.siting_definitions.specs.Square.{Square}
use Rattle.siting_definitions.specs.Bounds.{fine_of, lower_of, upper_of}
use Rattle.siting_definitions.specs.Excluded.{is_excluded}
use Rattle.siting_definitions.specs.Sites.{opening_cost, centre_cost}
use Rattle.siting_definitions.specs.Marks.{reaches, Tally}
use Rattle.siting_definitions.specs.Answer.{Best, Head, upper_cost, has_word}
use Rattle.cert_checker.specs.declared.faults.TheConstants.{SITE_OUTSIDE, COST_DIFFERS, NOT_SHUT}
use Rattle.cert_checker.specs.declared.faults.TheConstants.{BOUND_DIFFERS, WRONG_MARK}
use Rattle.cert_checker.specs.declared.faults.TheConstants.{SPLIT_UNCALLED, LEAST_DIFFERS}
use Rattle.cert_checker.specs.declared.faults.TheConstants.{WRONG_WORD, WRONG_COUNT, SITE_WORSE}
use Rattle.cert_checker.specs.declared.faults.CheckFault.{CheckFault}

-- the first of two faults
abbrev pub or_else : Option CheckFault → Option CheckFault → Option CheckFault
or_else None later = later
or_else (Some first) later = Some first

abbrev pub unless : Bool → CheckFault → Option CheckFault
unless test fault = if test then None else Some fault

abbrev pub fault_at : ℕ → ℕ → CheckFault
fault_at number line = record { number = number; line = line; differ = None }

-- a fault of a value that another was wanted for
abbrev pub value_fault : ℕ → ℕ → Option ℤ → Option ℤ → CheckFault
value_fault number line has wants =
    record { number = number; line = line; differ = Some (record { has = has; wants = wants }) }

-- the numbers of the lines of the site and of its costs
abbrev pub site_line_of : Instance → ℕ
site_line_of i = length (instance_lines i) + 5

abbrev pub cost_line_of : Instance → ℕ
cost_line_of i = length (instance_lines i) + 6

-- a cost that isn't the site's own
abbrev pub cost_fault : Instance → ℤ → ℤ → Option CheckFault
cost_fault i has wants =
    unless (int_eq has wants) (value_fault COST_DIFFERS (cost_line_of i) (Some has) (Some wants))

-- a site that isn't permitted, or costs that aren't its own
abbrev pub best_fault : Instance → Option Best → Option CheckFault
best_fault i None = None
best_fault i (Some b) =
    or_else (unless (permits i (point_of b.site)) (fault_at SITE_OUTSIDE (site_line_of i)))
    (or_else (cost_fault i b.lower (lower_of i b.site)) (cost_fault i b.upper (upper_of i b.site)))

-- an opening that costs less, or an opening and no site
abbrev pub worse_fault : Instance → Option ℤ → Option ℤ → Option CheckFault
worse_fault i u None = None
worse_fault i u (Some opening) =
    unless (reaches u opening) (value_fault SITE_WORSE (cost_line_of i) u (Some opening))

-- the first fault of a head that is of its form
unfoldable pub head_fault_of : Head → Option CheckFault
head_fault_of h =
    or_else (best_fault h.instance h.best)
    (worse_fault h.instance (upper_cost h.best) (opening_cost h.instance))

-- whether a number is there and below v
abbrev pub is_below : Option ℤ → ℤ → Bool
is_below None v = false
is_below (Some n) v = int_lt n v

-- whether the split of a square wasn't called for after `seen` was seen, with u the upper cost of
-- the answer
abbrev pub is_uncalled : Instance → ℤ → Option ℤ → Square → Option ℤ → Bool
is_uncalled i gap u s None =
    s.level == 0 || (is_some (opening_cost i) || is_some (centre_cost i s))
is_uncalled i gap u s (Some v) =
    s.level == 0
    || (not (reaches u v)
    || (is_below (opening_cost i) v
    || (int_le v (fine_of i s +ℤ gap) || is_below (centre_cost i s) v)))

-- whether a leaf with this bound, which is its own, has the right letter
abbrev pub has_letter : ℤ → Option ℤ → Square → ℤ → Mark → Bool
has_letter gap u s b (Split seen) = false
has_letter gap u s b Shut = false
has_letter gap u s b (Bounded c) = reaches u (b +ℤ gap)
has_letter gap u s b (FloorMark c) = not (reaches u (b +ℤ gap)) && s.level == 0
has_letter gap u s b (Left c) = not (reaches u (b +ℤ gap)) && not (s.level == 0)

-- the first fault of a mark with a bound
abbrev pub bound_fault : Instance → ℤ → Option ℤ → Square → ℤ → Mark → ℕ → Option CheckFault
bound_fault i gap u s b m line =
    or_else (unless (not (is_excluded i s)) (fault_at WRONG_MARK line))
    (or_else
    (unless (int_eq b (fine_of i s))
    (value_fault BOUND_DIFFERS line (Some b) (Some (fine_of i s))))
    (unless (has_letter gap u s b m) (fault_at WRONG_MARK line)))

-- the first fault of the mark of a square
abbrev pub fault_of_mark : Instance → ℤ → Option ℤ → Square → Mark → ℕ → Option CheckFault
fault_of_mark i gap u s (Split seen) line =
    or_else (unless (not (is_excluded i s)) (fault_at WRONG_MARK line))
    (unless (not (is_uncalled i gap u s seen)) (fault_at SPLIT_UNCALLED line))
fault_of_mark i gap u s Shut line = unless (is_excluded i s) (fault_at NOT_SHUT line)
fault_of_mark i gap u s (Bounded b) line = bound_fault i gap u s b (Bounded b) line
fault_of_mark i gap u s (FloorMark b) line = bound_fault i gap u s b (FloorMark b) line
fault_of_mark i gap u s (Left b) line = bound_fault i gap u s b (Left b) line

unfoldable pub mark_fault_of : Head → Square → Mark → ℕ → Option CheckFault
mark_fault_of h s m line = fault_of_mark h.instance h.gap (upper_cost h.best) s m line

abbrev pub same_optional : Option ℤ → Option ℤ → Bool
same_optional None None = true
same_optional None (Some b) = false
same_optional (Some a) None = false
same_optional (Some a) (Some b) = int_eq a b

abbrev pub word_counts : Head → Tally → Word → Bool
word_counts h t Solved = h.open_count == 0
word_counts h t PoolFull =
    nat_le 1 h.open_count
    && (nat_le h.open_count h.pool
    && (nat_lt h.pool (h.open_count + 3) && nat_le h.open_count t.leaves))
word_counts h t Budget = h.leases == h.budget && h.open_count == 0
word_counts h t Floor = h.open_count == 0
word_counts h t Empty = h.open_count == 0

abbrev pub counts_fit : Head → Tally → Bool
counts_fit h t =
    nat_le h.leases h.budget
    && (nat_le h.leases (2 * t.nodes)
    && (nat_le t.splits h.leases && word_counts h t h.word))

-- the first fault at the line "end", with the tally of all marks
unfoldable pub end_fault_of : Head → Tally → ℕ → Option CheckFault
end_fault_of h t line =
    or_else
    (unless (same_optional h.bound t.least) (value_fault LEAST_DIFFERS line h.bound t.least))
    (or_else
    (unless (has_word h.word t) (fault_at WRONG_WORD line))
    (unless (counts_fit h t) (fault_at WRONG_COUNT line)))
