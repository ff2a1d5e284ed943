-- A head is read from its canonical lines, and from no others.
use Rattle.std.proofs.Common.{◌≡◌, ℕ, ◌≤◌, ◌^◌, Bool, true, ◌&&◌, ℤ, pos, ◌≤ℤ◌, List, [], ◌∷◌, ◌++◌, map, codes, Option, Some, None, Ok, refl, sym, ap, subst, ◌∙◌, arith, w64}
use Rattle.std.specs.Prelude.{unsigned_abs, FitsSigned, MatchOption, ⊤}
use Rattle.std.specs.Fmt.{signed_decimal}
use Rattle.std.proofs.lemmas.Bool.{and_parts}
use Rattle.std.proofs.lemmas.List.{map-append}
use borrow.Author.Differences.{ints, same_in}
use Rattle.text_lines.specs.Words.{line_bytes}
use Rattle.siting_definitions.specs.declared.Word.{Word}
use Rattle.siting_definitions.specs.Point.{Pt}
use Rattle.siting_definitions.specs.Square.{Square}
use Rattle.siting_definitions.specs.Sites.{root_of}
use Rattle.siting_definitions.specs.Instance.{Instance}
use Rattle.siting_definitions.specs.InstanceText.{has_cutoff, instance_lines}
use Rattle.siting_definitions.specs.Answer.{Best, Head, IsSite, IsBest, IsHead}
use Rattle.siting_definitions.specs.AnswerText.{number_line, optional_line, site_line, cost_line, word_field, root_line, head_lines}
use Rattle.line_stream.specs.Coming.{Coming}
use Rattle.line_stream.specs.Feeds.{is_feedless, are_feedless}
use Rattle.certificate.specs.declared.reader.AnswerError.{AnswerError}
use Rattle.certificate.specs.Forms.{version_form, gap_form, budget_form, pool_form, site_form, cost_form, bound_form, word_form, open_form, leases_form, root_form}
use Rattle.certificate.specs.HeadReading.{formed, instance_part, Limits, limits_part, best_part, Outcome, outcome_part, head_from, head_reading}
use Rattle.certificate.specs.HeadText.{front_lines, BeginsWith, IsHeadText}
use Rattle.certificate.proofs.NumberForms.{IsForm, IsWithin}
use Rattle.certificate.proofs.HeadForms.{site_fields-site_of, IsForm-gap_form, IsForm-budget_form, IsForm-pool_form, IsForm-open_form, IsForm-leases_form, IsForm-bound_form, site_of, site_fields, IsForm-site_form, HasCosts, AreCosts, IsForm-cost_form, version_line, IsForm-version_form, IsForm-word_form, IsForm-root_form}
use Rattle.certificate.proofs.FrontLemmas.{and_then_ok, and_then_from, ok_pair, begins_then, between, begins_first, begins_second, read_formed, formed_back}
use Rattle.certificate.proofs.InstancePartLemmas.{IsPart, read_instance, instance_back}

-- ---- numbers from 0
abbrev number_text : List ℕ → ℤ → List ℕ
number_text word z = line_bytes (word ∷ signed_decimal z ∷ [])

-- a number of a line of a word and a number, from the least to the most
read_count : (form : List ℕ → Option ℤ) (word : List ℕ) (low most : ℕ) (z : ℤ) (before after : Coming)
    → IsForm form (number_text word) (IsWithin (pos low) (pos most)) → formed form before ≡ Ok (z, after)
    → BeginsWith (line_bytes (number_line word (unsigned_abs z)) ∷ []) before after × ((low ≤ unsigned_abs z) × (unsigned_abs z ≤ most))
read_count form word low most z before after is e =
    let p = read_formed form (number_text word) (IsWithin (pos low) (pos most)) z before after is e in
    let least = p.1.0 in
    let greatest = p.1.1 in
    let same : z ≡ pos (unsigned_abs z) = same_in _ _ (omega (arith, ints, least)) in
    (subst (λ (y : ℤ). BeginsWith (number_text word y ∷ []) before after) same p.0, (omega (arith, ints, least), omega (arith, ints, least, greatest)))

-- such a number is read from its line
count_back : (form : List ℕ → Option ℤ) (word : List ℕ) (low most n : ℕ) (before after : Coming)
    → IsForm form (number_text word) (IsWithin (pos low) (pos most)) → low ≤ n → n ≤ most
    → BeginsWith (line_bytes (number_line word n) ∷ []) before after → formed form before ≡ Ok (pos n, after)
count_back form word low most n before after is least greatest begins =
    formed_back form (number_text word) (IsWithin (pos low) (pos most)) (pos n) before after is (omega (arith, ints), omega (arith, ints)) begins

-- ---- the gap, the budget and the pool
abbrev limit_lines : Limits → List (List (List ℕ))
limit_lines l = (codes "gap" ∷ signed_decimal l.gap ∷ []) ∷ number_line (codes "budget") l.budget ∷ number_line (codes "pool") l.pool ∷ []

-- the limits are in their ranges
record AreLimits (l : Limits) : Type 0 where
  gap_least : pos 0 ≤ℤ l.gap
  gap_most : l.gap ≤ℤ pos (2 ^ 62)
  budget : l.budget ≤ 1000000
  pool_least : 1 ≤ l.pool
  pool_most : l.pool ≤ 1000000

-- the lines of the limits, read
read_limits : (l : Limits) (before after : Coming) → limits_part before ≡ Ok (l, after)
    → AreLimits l × BeginsWith (map line_bytes (limit_lines l)) before after
read_limits l before after e =
    let gap = and_then_ok (formed gap_form before) _ (l, after) e in
    let budget = and_then_ok (formed budget_form gap.0.1) _ (l, after) gap.2 in
    let pool = and_then_ok (formed pool_form budget.0.1) _ (l, after) budget.2 in
    let limits : Limits = record { gap = gap.0.0; budget = unsigned_abs budget.0.0; pool = unsigned_abs pool.0.0 } in
    let same = ok_pair {E = AnswerError} limits l pool.0.1 after pool.2 in
    let g = read_formed gap_form (number_text (codes "gap")) (IsWithin (pos 0) (pos (2 ^ 62))) gap.0.0 before gap.0.1 IsForm-gap_form gap.1 in
    let b = read_count budget_form (codes "budget") 0 1000000 budget.0.0 gap.0.1 budget.0.1 IsForm-budget_form budget.1 in
    let p = read_count pool_form (codes "pool") 1 1000000 pool.0.0 budget.0.1 pool.0.1 IsForm-pool_form pool.1 in
    let rest = begins_then _ _ gap.0.1 budget.0.1 pool.0.1 b.0 p.0 in
    let whole : BeginsWith (map line_bytes (limit_lines limits)) before pool.0.1 = begins_then _ _ before gap.0.1 pool.0.1 g.0 rest in
    let are : AreLimits limits = record { gap_least = g.1.0; gap_most = g.1.1; budget = b.1.1; pool_least = p.1.0; pool_most = p.1.1 } in
    subst (λ (m : Limits). AreLimits m × BeginsWith (map line_bytes (limit_lines m)) before after) same.0
    (are, subst (λ (r : Coming). BeginsWith (map line_bytes (limit_lines limits)) before r) same.1 whole)

-- and read back
limits_back : (l : Limits) (before after : Coming) → AreLimits l → BeginsWith (map line_bytes (limit_lines l)) before after
    → limits_part before ≡ Ok (l, after)
limits_back l before after are whole =
    let gap : List ℕ = number_text (codes "gap") l.gap in
    let budget : List ℕ = line_bytes (number_line (codes "budget") l.budget) in
    let pool : List ℕ = line_bytes (number_line (codes "pool") l.pool) in
    let one = between (gap ∷ []) (budget ∷ pool ∷ []) before after in
    let two = between (budget ∷ []) (pool ∷ []) one after in
    let rest : BeginsWith (budget ∷ pool ∷ []) one after = begins_second (gap ∷ []) (budget ∷ pool ∷ []) before after whole in
    and_then_from (formed gap_form before) _ (l.gap, one) _
    (formed_back gap_form (number_text (codes "gap")) (IsWithin (pos 0) (pos (2 ^ 62))) l.gap before one IsForm-gap_form (are.gap_least, are.gap_most)
    (begins_first (gap ∷ []) (budget ∷ pool ∷ []) before after whole))
    (and_then_from (formed budget_form one) _ (pos l.budget, two) _
    (count_back budget_form (codes "budget") 0 1000000 l.budget one two IsForm-budget_form (omega arith) are.budget
    (begins_first (budget ∷ []) (pool ∷ []) one after rest))
    (and_then_from (formed pool_form two) _ (pos l.pool, after) _
    (count_back pool_form (codes "pool") 1 1000000 l.pool two after IsForm-pool_form are.pool_least are.pool_most
    (begins_second (budget ∷ []) (pool ∷ []) one after rest))
    refl))

-- ---- the site and its costs
best_lines : Option Best → List (List ℕ)
best_lines best = line_bytes (site_line best) ∷ line_bytes (cost_line best) ∷ []

best_in_range : (best : Option Best) → MatchOption (site_of best) ⊤ IsSite → MatchOption best ⊤ HasCosts → MatchOption best ⊤ IsBest
best_in_range None site costs = tt
best_in_range (Some b) site costs = record { site = site; lower = costs.lower; upper = costs.upper }

site_in_range : (best : Option Best) → MatchOption best ⊤ IsBest → MatchOption (site_of best) ⊤ IsSite
site_in_range None is = tt
site_in_range (Some b) is = is.site

costs_in_range : (best : Option Best) → MatchOption best ⊤ IsBest → MatchOption best ⊤ HasCosts
costs_in_range None is = tt
costs_in_range (Some b) is = record { lower = is.lower; upper = is.upper }

abbrev site_text : Option Pt → List ℕ
site_text site = line_bytes (site_fields site)

abbrev cost_text : Option Best → List ℕ
cost_text best = line_bytes (cost_line best)

-- the lines of the site and its costs, read
read_best : (best : Option Best) (before after : Coming) → best_part before ≡ Ok (best, after)
    → MatchOption best ⊤ IsBest × BeginsWith (best_lines best) before after
unfolding best_lines
read_best best before after e =
    let site = and_then_ok (formed site_form before) _ (best, after) e in
    let s = read_formed site_form site_text (λ o. MatchOption o ⊤ IsSite) site.0.0 before site.0.1 IsForm-site_form site.1 in
    let c = read_formed (cost_form site.0.0) cost_text (AreCosts site.0.0) best site.0.1 after (IsForm-cost_form site.0.0) site.2 in
    let same : site.0.0 ≡ site_of best = sym c.1.0 in
    let line : site_text site.0.0 ≡ line_bytes (site_line best) = ap site_text same ∙ ap line_bytes (site_fields-site_of best) in
    let first : BeginsWith (line_bytes (site_line best) ∷ []) before site.0.1 =
    subst (λ (bytes : List ℕ). BeginsWith (bytes ∷ []) before site.0.1) line s.0 in
    (best_in_range best (subst (λ (o : Option Pt). MatchOption o ⊤ IsSite) same s.1) c.1.1, begins_then _ _ before site.0.1 after first c.0)

-- and read back
best_back : (best : Option Best) (before after : Coming) → MatchOption best ⊤ IsBest → BeginsWith (best_lines best) before after
    → best_part before ≡ Ok (best, after)
unfolding best_lines
best_back best before after is whole =
    let site : List ℕ = line_bytes (site_line best) in
    let cost : List ℕ = line_bytes (cost_line best) in
    let one = between (site ∷ []) (cost ∷ []) before after in
    let line : line_bytes (site_line best) ≡ site_text (site_of best) = sym (ap line_bytes (site_fields-site_of best)) in
    let first : BeginsWith (site_text (site_of best) ∷ []) before one =
    subst (λ (bytes : List ℕ). BeginsWith (bytes ∷ []) before one) line (begins_first (site ∷ []) (cost ∷ []) before after whole) in
    and_then_from (formed site_form before) _ (site_of best, one) _
    (formed_back site_form site_text (λ o. MatchOption o ⊤ IsSite) (site_of best) before one IsForm-site_form (site_in_range best is) first)
    (formed_back (cost_form (site_of best)) cost_text (AreCosts (site_of best)) best one after (IsForm-cost_form (site_of best))
    (refl, costs_in_range best is) (begins_second (site ∷ []) (cost ∷ []) before after whole))

-- ---- the bound, the word and the counts
bound_text : Option ℤ → List ℕ
bound_text bound = line_bytes (optional_line (codes "bound") bound)

word_text : Word → List ℕ
word_text word = line_bytes (codes "answer" ∷ word_field word ∷ [])

outcome_lines : Outcome → List (List ℕ)
outcome_lines o =
    bound_text o.bound ∷ word_text o.word ∷ line_bytes (number_line (codes "open") o.open_count) ∷ line_bytes (number_line (codes "leases") o.leases) ∷ []

-- the numbers of the outcome are in their ranges
record IsOutcome (o : Outcome) : Type 0 where
  bound : MatchOption o.bound ⊤ (FitsSigned w64)
  open_count : o.open_count ≤ 1000000
  leases : o.leases ≤ 1000000

-- the lines of the outcome, read
read_outcome : (o : Outcome) (before after : Coming) → outcome_part before ≡ Ok (o, after) → IsOutcome o × BeginsWith (outcome_lines o) before after
unfolding outcome_lines bound_text word_text
read_outcome o before after e =
    let bound = and_then_ok (formed bound_form before) _ (o, after) e in
    let word = and_then_ok (formed word_form bound.0.1) _ (o, after) bound.2 in
    let opened = and_then_ok (formed open_form word.0.1) _ (o, after) word.2 in
    let leases = and_then_ok (formed leases_form opened.0.1) _ (o, after) opened.2 in
    let outcome : Outcome = record { bound = bound.0.0; word = word.0.0; open_count = unsigned_abs opened.0.0; leases = unsigned_abs leases.0.0 } in
    let same = ok_pair {E = AnswerError} outcome o leases.0.1 after leases.2 in
    let b = read_formed bound_form bound_text (λ v. MatchOption v ⊤ (FitsSigned w64)) bound.0.0 before bound.0.1 IsForm-bound_form bound.1 in
    let w = read_formed word_form word_text (λ _. ⊤) word.0.0 bound.0.1 word.0.1 IsForm-word_form word.1 in
    let n = read_count open_form (codes "open") 0 1000000 opened.0.0 word.0.1 opened.0.1 IsForm-open_form opened.1 in
    let l = read_count leases_form (codes "leases") 0 1000000 leases.0.0 opened.0.1 leases.0.1 IsForm-leases_form leases.1 in
    let counts = begins_then _ _ word.0.1 opened.0.1 leases.0.1 n.0 l.0 in
    let rest = begins_then _ _ bound.0.1 word.0.1 leases.0.1 w.0 counts in
    let whole : BeginsWith (outcome_lines outcome) before leases.0.1 = begins_then _ _ before bound.0.1 leases.0.1 b.0 rest in
    let is : IsOutcome outcome = record { bound = b.1; open_count = n.1.1; leases = l.1.1 } in
    subst (λ (p : Outcome). IsOutcome p × BeginsWith (outcome_lines p) before after) same.0
    (is, subst (λ (r : Coming). BeginsWith (outcome_lines outcome) before r) same.1 whole)

-- and read back
outcome_back : (o : Outcome) (before after : Coming) → IsOutcome o → BeginsWith (outcome_lines o) before after → outcome_part before ≡ Ok (o, after)
unfolding outcome_lines bound_text word_text
outcome_back o before after is whole =
    let bound : List ℕ = bound_text o.bound in
    let word : List ℕ = word_text o.word in
    let opened : List ℕ = line_bytes (number_line (codes "open") o.open_count) in
    let leases : List ℕ = line_bytes (number_line (codes "leases") o.leases) in
    let one = between (bound ∷ []) (word ∷ opened ∷ leases ∷ []) before after in
    let two = between (word ∷ []) (opened ∷ leases ∷ []) one after in
    let three = between (opened ∷ []) (leases ∷ []) two after in
    let from_word : BeginsWith (word ∷ opened ∷ leases ∷ []) one after = begins_second (bound ∷ []) (word ∷ opened ∷ leases ∷ []) before after whole in
    let from_open : BeginsWith (opened ∷ leases ∷ []) two after = begins_second (word ∷ []) (opened ∷ leases ∷ []) one after from_word in
    and_then_from (formed bound_form before) _ (o.bound, one) _
    (formed_back bound_form bound_text (λ v. MatchOption v ⊤ (FitsSigned w64)) o.bound before one IsForm-bound_form is.bound
    (begins_first (bound ∷ []) (word ∷ opened ∷ leases ∷ []) before after whole))
    (and_then_from (formed word_form one) _ (o.word, two) _
    (formed_back word_form word_text (λ _. ⊤) o.word one two IsForm-word_form tt (begins_first (word ∷ []) (opened ∷ leases ∷ []) one after from_word))
    (and_then_from (formed open_form two) _ (pos o.open_count, three) _
    (count_back open_form (codes "open") 0 1000000 o.open_count two three IsForm-open_form (omega arith) is.open_count
    (begins_first (opened ∷ []) (leases ∷ []) two after from_open))
    (and_then_from (formed leases_form three) _ (pos o.leases, after) _
    (count_back leases_form (codes "leases") 0 1000000 o.leases three after IsForm-leases_form (omega arith) is.leases
    (begins_second (opened ∷ []) (leases ∷ []) two after from_open))
    refl)))

-- ---- the head
abbrev limits_of : Head → Limits
limits_of h = record { gap = h.gap; budget = h.budget; pool = h.pool }

abbrev outcome_of : Head → Outcome
outcome_of h = record { bound = h.bound; word = h.word; open_count = h.open_count; leases = h.leases }

version_text : Bool → List ℕ
version_text second = line_bytes (version_line second)

root_text : Square → List ℕ
root_text root = line_bytes (root_line root)

-- the lines of a head, part by part
abbrev parts_of : Head → List (List ℕ)
parts_of h =
    (version_text (has_cutoff h.instance) ∷ [])
    ++ (map line_bytes (instance_lines h.instance)
    ++ (map line_bytes (limit_lines (limits_of h)) ++ (best_lines h.best ++ (outcome_lines (outcome_of h) ++ root_text (root_of h.instance) ∷ []))))

-- the lines of a head are those of its parts
front_lines-parts : (h : Head) → map line_bytes (front_lines h) ≡ parts_of h
unfolding version_text root_text best_lines outcome_lines bound_text word_text
front_lines-parts h = ap (λ (lines : List (List ℕ)). version_text (has_cutoff h.instance) ∷ lines)
    (map-append line_bytes (instance_lines h.instance) (head_lines h))

-- the parts of a head that were read one after another
joined_head : (second : Bool) (i : Instance) (l : Limits) (best : Option Best) (o : Outcome) (root : Square) (before one two three four five after : Coming)
    → BeginsWith (version_text second ∷ []) before one → IsPart second i one two → AreLimits l × BeginsWith (map line_bytes (limit_lines l)) two three
    → MatchOption best ⊤ IsBest × BeginsWith (best_lines best) three four → IsOutcome o × BeginsWith (outcome_lines o) four five
    → BeginsWith (root_text root ∷ []) five after × (root_of i ≡ root)
    → IsHead (head_from i l best o) × IsHeadText (head_from i l best o) before after
unfolding version_text root_text
joined_head second i l best o root before one two three four five after version instance limits site outcome last =
    let head : Head = head_from i l best o in
    let first : BeginsWith (version_text (has_cutoff i) ∷ []) before one =
    subst (λ (b : Bool). BeginsWith (version_text b ∷ []) before one) instance.1 version in
    let ending : BeginsWith (root_text (root_of i) ∷ []) five after = subst (λ (s : Square). BeginsWith (root_text s ∷ []) five after) (sym last.1) last.0 in
    let from_outcome = begins_then _ _ four five after outcome.1 ending in
    let from_best = begins_then _ _ three four after site.1 from_outcome in
    let from_limits = begins_then _ _ two three after limits.1 from_best in
    let from_instance = begins_then _ _ one two after instance.2 from_limits in
    let whole : BeginsWith (parts_of head) before after = begins_then _ _ before one after first from_instance in
    let is : IsHead head = record {
      instance = instance.0;
      gap_least = limits.0.gap_least;
      gap_most = limits.0.gap_most;
      budget = limits.0.budget;
      pool_least = limits.0.pool_least;
      pool_most = limits.0.pool_most;
      best = site.0;
      bound = outcome.0.bound;
      open_count = outcome.0.open_count;
      leases = outcome.0.leases;
    } in
    (is, subst (λ (front : List (List ℕ)). BeginsWith front before after) (sym (front_lines-parts head)) whole)

same_head : (k h : Head) (before mid after : Coming) → k ≡ h → mid ≡ after → IsHead k × IsHeadText k before mid → IsHead h × IsHeadText h before after
same_head k h before mid after head end is =
    subst (λ (j : Head). IsHead j × IsHeadText j before after) head (is.0, subst (λ (r : Coming). IsHeadText k before r) end is.1)

feedless_after : (line : List ℕ) (before after : Coming) → are_feedless before.input.lines ≡ true → BeginsWith (line ∷ []) before after
    → are_feedless after.input.lines ≡ true
feedless_after line before after clean begins =
    let both : (is_feedless line && are_feedless after.input.lines) ≡ true = sym (ap are_feedless begins.lines) ∙ clean in (and_parts _ _ both).1

-- a head that is read is in range, and its lines are the canonical ones
pub read_head : (h : Head) (before after : Coming) → are_feedless before.input.lines ≡ true → head_reading before ≡ Ok (h, after)
    → IsHead h × IsHeadText h before after
unfolding head_reading version_text root_text
read_head h before after clean e =
    let version = and_then_ok (formed version_form before) _ (h, after) e in
    let instance = and_then_ok (instance_part version.0.0 version.0.1) _ (h, after) version.2 in
    let limits = and_then_ok (limits_part instance.0.1) _ (h, after) instance.2 in
    let best = and_then_ok (best_part limits.0.1) _ (h, after) limits.2 in
    let outcome = and_then_ok (outcome_part best.0.1) _ (h, after) best.2 in
    let root = and_then_ok (formed (root_form (root_of instance.0.0)) outcome.0.1) _ (h, after) outcome.2 in
    let head : Head = head_from instance.0.0 limits.0.0 best.0.0 outcome.0.0 in
    let same = ok_pair {E = AnswerError} head h root.0.1 after root.2 in
    let v = read_formed version_form version_text (λ _. ⊤) version.0.0 before version.0.1 IsForm-version_form version.1 in
    let i = read_instance version.0.0 instance.0.0 version.0.1 instance.0.1
    (feedless_after (version_text version.0.0) before version.0.1 clean v.0) instance.1 in
    let r = read_formed (root_form (root_of instance.0.0)) root_text (λ s. root_of instance.0.0 ≡ s) root.0.0 outcome.0.1 root.0.1
    (IsForm-root_form (root_of instance.0.0)) root.1 in
    same_head head h before root.0.1 after same.0 same.1
    (joined_head version.0.0 instance.0.0 limits.0.0 best.0.0 outcome.0.0 root.0.0
    before version.0.1 instance.0.1 limits.0.1 best.0.1 outcome.0.1 root.0.1 v.0 i
    (read_limits limits.0.0 instance.0.1 limits.0.1 limits.1)
    (read_best best.0.0 limits.0.1 best.0.1 best.1)
    (read_outcome outcome.0.0 best.0.1 outcome.0.1 outcome.1)
    r)

-- a head in range is read from its canonical lines
pub head_back : (h : Head) (before after : Coming) → IsHead h → IsHeadText h before after → head_reading before ≡ Ok (h, after)
unfolding head_reading version_text root_text
head_back h before after is text =
    let i = h.instance in
    let version : List (List ℕ) = version_text (has_cutoff i) ∷ [] in
    let instance : List (List ℕ) = map line_bytes (instance_lines i) in
    let limits : List (List ℕ) = map line_bytes (limit_lines (limits_of h)) in
    let best = best_lines h.best in
    let outcome = outcome_lines (outcome_of h) in
    let root : List (List ℕ) = root_text (root_of i) ∷ [] in
    let from_version : BeginsWith (parts_of h) before after = subst (λ (front : List (List ℕ)). BeginsWith front before after) (front_lines-parts h) text in
    let one = between version (instance ++ (limits ++ (best ++ (outcome ++ root)))) before after in
    let from_instance = begins_second version (instance ++ (limits ++ (best ++ (outcome ++ root)))) before after from_version in
    let two = between instance (limits ++ (best ++ (outcome ++ root))) one after in
    let from_limits = begins_second instance (limits ++ (best ++ (outcome ++ root))) one after from_instance in
    let three = between limits (best ++ (outcome ++ root)) two after in
    let from_best = begins_second limits (best ++ (outcome ++ root)) two after from_limits in
    let four = between best (outcome ++ root) three after in
    let from_outcome = begins_second best (outcome ++ root) three after from_best in
    let five = between outcome root four after in
    let from_root = begins_second outcome root four after from_outcome in
    let are_limits : AreLimits (limits_of h) =
    record { gap_least = is.gap_least; gap_most = is.gap_most; budget = is.budget; pool_least = is.pool_least; pool_most = is.pool_most } in
    let is_outcome : IsOutcome (outcome_of h) = record { bound = is.bound; open_count = is.open_count; leases = is.leases } in
    and_then_from (formed version_form before) _ (has_cutoff i, one) _
    (formed_back version_form version_text (λ _. ⊤) (has_cutoff i) before one IsForm-version_form tt
    (begins_first version (instance ++ (limits ++ (best ++ (outcome ++ root)))) before after from_version))
    (and_then_from (instance_part (has_cutoff i) one) _ (i, two) _
    (instance_back i one two is.instance (begins_first instance (limits ++ (best ++ (outcome ++ root))) one after from_instance))
    (and_then_from (limits_part two) _ (limits_of h, three) _
    (limits_back (limits_of h) two three are_limits (begins_first limits (best ++ (outcome ++ root)) two after from_limits))
    (and_then_from (best_part three) _ (h.best, four) _
    (best_back h.best three four is.best (begins_first best (outcome ++ root) three after from_best))
    (and_then_from (outcome_part four) _ (outcome_of h, five) _
    (outcome_back (outcome_of h) four five is_outcome (begins_first outcome root four after from_outcome))
    (and_then_from (formed (root_form (root_of i)) five) _ (root_of i, after) _
    (formed_back (root_form (root_of i)) root_text (λ s. root_of i ≡ s) (root_of i) five after (IsForm-root_form (root_of i)) refl from_root)
    refl)))))
