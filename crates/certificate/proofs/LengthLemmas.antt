-- How long the text of an answer can be.
use Rattle.std.proofs.Common.{◌≡◌, ℕ, ◌+◌, ◌*◌, ◌^◌, ◌<◌, ◌≤◌, Bool, true, false, cond, ℤ, pos, negsuc, ◌+ℤ◌, ◌≤ℤ◌, List, [], ◌∷◌, ◌++◌, length, map, codes, Option, Some, None, refl, ap, ◌∙◌, arith, w64}
use Rattle.std.specs.Prelude.{unsigned_abs, FitsSigned, All, MatchOption, ⊤}
use Rattle.std.specs.List.{count_by}
use Rattle.std.specs.Fmt.{signed_decimal}
use Rattle.std.proofs.lemmas.List.Sums.{sum_by-cons}
use borrow.Author.Differences.{ints}
use Rattle.siting_definitions.specs.declared.Mark.{Mark}
use Rattle.siting_definitions.specs.declared.Mark.TheVariants.{Split, Shut, Bounded, Floor as FloorMark, Left}
use Rattle.siting_definitions.specs.declared.Word.{Word}
use Rattle.siting_definitions.specs.declared.Word.TheVariants.{Solved, PoolFull, Budget, Floor, Empty}
use Rattle.siting_definitions.specs.Instance.{Instance}
use Rattle.siting_definitions.specs.Line.{line_text, text_of}
use Rattle.siting_definitions.specs.InstanceText.{has_cutoff, version_field, instance_lines, instance_text}
use Rattle.siting_definitions.specs.Square.{Square, IsSquare}
use Rattle.siting_definitions.specs.Sites.{root_of}
use Rattle.siting_definitions.specs.Tree.{TreeSquare, preorder}
use Rattle.siting_definitions.specs.Marks.{leaf_mark, SplitFits, MarksFit, is_split, tally_of}
use Rattle.siting_definitions.specs.Answer.{Best, Head, Answer, upper_cost, IsBest, IsHead, IsMark, IsValid}
use Rattle.siting_definitions.specs.AnswerText.{number_line, optional_line, site_line, cost_line, word_field, root_line, mark_line, head_lines, answer_text}
use Rattle.siting_definitions.proofs.MarkLemmas.{leaf_unsplit, split_fits}
use Rattle.dyadic_square.proofs.Trees.{tree-size}
use Rattle.site_model.proofs.Rooted.{IsSquare-root}
use Rattle.text_lines.proofs.LineLengths.{count_length, number_length, width, length-line_text, one_length, two_length, length-text_of-append, length-text_of-cons, lines_length}
use Rattle.instance_text.proofs.InstanceLengths.{length-instance_text}

-- ---- the head
long_length : (z : ℤ) → FitsSigned w64 z → length (signed_decimal z) ≤ 20
long_length (pos n) fits = let small : n < 2 ^ 63 = fits.sfits in number_length 19 (pos n) (omega arith) (omega arith) (omega arith)
long_length (negsuc n) fits = let small : n < 2 ^ 63 = fits.sfits in number_length 19 (negsuc n) (omega arith) (omega arith) (omega arith)

few_length : (n : ℕ) → n ≤ 1000000 → length (signed_decimal (pos n)) ≤ 7
few_length n few = count_length 7 n (omega arith) (omega arith) (omega arith)

grid_length : (z : ℤ) → unsigned_abs z ≤ 2 ^ 38 → length (signed_decimal z) ≤ 13
grid_length z is = number_length 12 z (omega arith) (omega arith) (omega arith)

gap_length : (z : ℤ) → pos 0 ≤ℤ z → z ≤ℤ pos (2 ^ 62) → length (line_text (codes "gap" ∷ signed_decimal z ∷ [])) ≤ 25
gap_length z low high =
    let small : unsigned_abs z ≤ 2 ^ 62 = omega (arith, ints) in
    one_length (codes "gap") (signed_decimal z) 20 (number_length 19 z (omega arith) (omega arith) (omega arith))

site_length : (best : Option Best) → MatchOption best ⊤ IsBest → length (line_text (site_line best)) ≤ 33
site_length None is = omega (arith, one_length (codes "site") (codes "none") 4 (omega arith))
site_length (Some b) is = two_length (codes "site") (signed_decimal b.site.x) (signed_decimal b.site.y) 13 (grid_length b.site.x is.site.0)
    (grid_length b.site.y is.site.1)

cost_length : (best : Option Best) → MatchOption best ⊤ IsBest → length (line_text (cost_line best)) ≤ 47
cost_length None is = omega (arith, one_length (codes "cost") (codes "none") 4 (omega arith))
cost_length (Some b) is = two_length (codes "cost") (signed_decimal b.lower) (signed_decimal b.upper) 20 (long_length b.lower is.lower)
    (long_length b.upper is.upper)

bound_length : (bound : Option ℤ) → MatchOption bound ⊤ (FitsSigned w64) → length (line_text (optional_line (codes "bound") bound)) ≤ 27
bound_length None is = omega (arith, one_length (codes "bound") (codes "none") 4 (omega arith))
bound_length (Some z) is = one_length (codes "bound") (signed_decimal z) 20 (long_length z is)

field_length : (word : Word) → length (word_field word) ≤ 9
field_length Solved = omega arith
field_length PoolFull = omega arith
field_length Budget = omega arith
field_length Floor = omega arith
field_length Empty = omega arith

within_grid : (x : ℤ) (side : ℕ) → pos 0 ≤ℤ (x +ℤ pos (2 ^ 38)) → (x +ℤ pos side) ≤ℤ pos (2 ^ 38) → unsigned_abs x ≤ 2 ^ 38
within_grid x side low high = omega (arith, ints)

root_length : (s : Square) → IsSquare s → length (line_text (root_line s)) ≤ 41
unfolding width
root_length s is =
    let x : unsigned_abs s.x ≤ 2 ^ 38 = within_grid s.x (2 ^ s.level) is.left is.right in
    let y : unsigned_abs s.y ≤ 2 ^ 38 = within_grid s.y (2 ^ s.level) is.lower is.upper in
    let level = is.level in
    let few : s.level ≤ 1000000 = omega arith in
    omega (
      arith,
      length-line_text (codes "root") (signed_decimal s.x ∷ signed_decimal s.y ∷ signed_decimal (pos s.level) ∷ []),
      grid_length s.x x,
      grid_length s.y y,
      few_length s.level few,
    )

-- of ten lines, the length of the text
ten_lines : (a b c d e f g h i j : List (List ℕ)) (most : ℕ)
    → length (line_text a) + length (line_text b) + length (line_text c) + length (line_text d) + length (line_text e) + length (line_text f) + length
    (line_text g) + length (line_text h) + length (line_text i) + length (line_text j) ≤ most
    → length (text_of (a ∷ b ∷ c ∷ d ∷ e ∷ f ∷ g ∷ h ∷ i ∷ j ∷ [])) ≤ most
ten_lines a b c d e f g h i j most all =
    omega (
      arith,
      length-text_of-cons a (b ∷ c ∷ d ∷ e ∷ f ∷ g ∷ h ∷ i ∷ j ∷ []),
      length-text_of-cons b (c ∷ d ∷ e ∷ f ∷ g ∷ h ∷ i ∷ j ∷ []),
      length-text_of-cons c (d ∷ e ∷ f ∷ g ∷ h ∷ i ∷ j ∷ []),
      length-text_of-cons d (e ∷ f ∷ g ∷ h ∷ i ∷ j ∷ []),
      length-text_of-cons e (f ∷ g ∷ h ∷ i ∷ j ∷ []),
      length-text_of-cons f (g ∷ h ∷ i ∷ j ∷ []),
      length-text_of-cons g (h ∷ i ∷ j ∷ []),
      length-text_of-cons h (i ∷ j ∷ []),
      length-text_of-cons i (j ∷ []),
      length-text_of-cons j [],
    )

head_length : (h : Head) → IsHead h → length (text_of (head_lines h)) ≤ 300
head_length h is =
    ten_lines (codes "gap" ∷ signed_decimal h.gap ∷ []) (number_line (codes "budget") h.budget) (number_line (codes "pool") h.pool) (site_line h.best)
    (cost_line h.best)
    (optional_line (codes "bound") h.bound)
    (codes "answer" ∷ word_field h.word ∷ [])
    (number_line (codes "open") h.open_count)
    (number_line (codes "leases") h.leases)
    (root_line (root_of h.instance))
    300
    (omega (
      arith,
      gap_length h.gap is.gap_least is.gap_most,
      one_length (codes "budget") (signed_decimal (pos h.budget)) 7 (few_length h.budget is.budget),
      one_length (codes "pool") (signed_decimal (pos h.pool)) 7 (few_length h.pool is.pool_most),
      site_length h.best is.best,
      cost_length h.best is.best,
      bound_length h.bound is.bound,
      one_length (codes "answer") (word_field h.word) 9 (field_length h.word),
      one_length (codes "open") (signed_decimal (pos h.open_count)) 7 (few_length h.open_count is.open_count),
      one_length (codes "leases") (signed_decimal (pos h.leases)) 7 (few_length h.leases is.leases),
      root_length (root_of h.instance) (IsSquare-root h.instance is.instance),
    ))

-- ---- the marks
mark_length : (m : Mark) → IsMark m → length (line_text (mark_line m)) ≤ 23
mark_length (Split None) is = omega (arith, one_length (codes "S") (codes "-") 1 (omega arith))
mark_length (Split (Some v)) is = one_length (codes "S") (signed_decimal v) 20 (long_length v is)
mark_length Shut is = omega arith
mark_length (Bounded b) is = one_length (codes "B") (signed_decimal b) 20 (long_length b is)
mark_length (FloorMark b) is = one_length (codes "F") (signed_decimal b) 20 (long_length b is)
mark_length (Left b) is = one_length (codes "O") (signed_decimal b) 20 (long_length b is)

mark_fits : (i : Instance) (gap : ℤ) (u : Option ℤ) (s : Square) (m : Mark) (split : Bool)
    → cond split (SplitFits i gap u s m) (m ≡ leaf_mark i gap u s) → is_split m ≡ split
mark_fits i gap u s m true fits = split_fits i gap u s m fits
mark_fits i gap u s m false fits = ap is_split fits ∙ leaf_unsplit i gap u s

abbrev splits_in : List Mark → ℕ
splits_in ms = count_by is_split ms

abbrev cuts_in : List TreeSquare → ℕ
cuts_in ts = count_by (λ (t : TreeSquare). t.is_split) ts

abbrev one_if : Bool → ℕ
one_if b = cond b 1 0

-- there are as many marks as squares, and as many splits as squares that are cut
marks_count : (i : Instance) (gap : ℤ) (u : Option ℤ) (ts : List TreeSquare) (ms : List Mark) → MarksFit i gap u ts ms
    → (length ms ≡ length ts) × (splits_in ms ≡ cuts_in ts)
marks_count i gap u [] [] fit = (refl, refl)
marks_count i gap u [] (m ∷ ms) fit = absurd fit
marks_count i gap u (t ∷ ts) [] fit = absurd fit
marks_count i gap u (t ∷ ts) (m ∷ ms) fit =
    let rest = marks_count i gap u ts ms fit.1 in
    let same : is_split m ≡ t.is_split = mark_fits i gap u t.square m t.is_split fit.0 in
    let once = ap one_if same in (
      omega (arith, rest.0),
      omega (arith, rest.1, once, sum_by-cons (λ (n : Mark). one_if (is_split n)) m ms, sum_by-cons (λ (s : TreeSquare). one_if s.is_split) t ts),
    )

-- a valid answer has at most 4,000,001 marks
pub few_marks : (a : Answer) → IsValid a → length a.marks ≤ 4000001
unfolding tally_of
few_marks a is =
    let h = a.head in
    let t = is.tree.0 in
    let root = root_of h.instance in
    let counts = marks_count h.instance h.gap (upper_cost h.best) (preorder t root) a.marks is.tree.1.1 in
    let splits : splits_in a.marks ≤ h.leases = is.end_fits.counts.at_least_splits in
    let leases : h.leases ≤ 1000000 = is.ranges.leases in
    omega (arith, counts.0, counts.1, tree-size t root)

first_length : (second : Bool) → length (line_text (codes "siting" ∷ codes "answer" ∷ cond second (codes "2") (codes "1") ∷ [])) ≡ 16
first_length true = refl
first_length false = refl

-- the text of an answer in range has at most 310,000 bytes, and 23 more for each mark
pub length-answer_text : (a : Answer) → IsHead a.head → All IsMark a.marks → length (answer_text a) ≤ 310000 + 23 * length a.marks
unfolding answer_text instance_text
length-answer_text a is marks =
    let i = a.head.instance in
    let end : List (List (List ℕ)) = (codes "end" ∷ []) ∷ [] in
    let mark_lines : List (List (List ℕ)) = map mark_line a.marks in
    let first : List (List ℕ) = codes "siting" ∷ codes "answer" ∷ version_field i ∷ [] in
    omega (
      arith,
      length-text_of-cons first (instance_lines i ++ (head_lines a.head ++ (mark_lines ++ end))),
      first_length (has_cutoff i),
      length-text_of-append (instance_lines i) (head_lines a.head ++ (mark_lines ++ end)),
      length-instance_text i is.instance,
      length-text_of-append (head_lines a.head) (mark_lines ++ end),
      head_length a.head is,
      length-text_of-append mark_lines end,
      lines_length IsMark mark_line 23 mark_length a.marks marks,
    )

long_text : (n k : ℕ) → n ≤ 310000 + 23 * k → k ≤ 4000001 → n < 100000000
long_text n k short few = omega arith

-- the text of a valid answer has fewer than 100,000,000 bytes
pub valid-short : (a : Answer) → IsValid a → length (answer_text a) < 100000000
valid-short a is =
    long_text (length (answer_text a)) (length a.marks) (length-answer_text a is.ranges is.mark_ranges) (few_marks a is)

-- and so at most 2 ^ 30, which is the most that is read of an answer
pub valid-length : (a : Answer) → IsValid a → length (answer_text a) ≤ 2 ^ 30
valid-length a is = let short = valid-short a is in omega arith
