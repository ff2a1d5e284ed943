-- The order of the words after the command doesn't count.
use Rattle.std.proofs.Common.{◌≡◌, ℕ, ◌+◌, ◌==◌, Bool, true, false, cond, if◌then◌else◌, option_and_then, List, [], ◌∷◌, Option, None, Some, refl, sym, ap, ◌∙◌, arith}
use Rattle.std.specs.Prelude.{IsPermutation, bytes_eq, filter_map}
use Rattle.std.specs.List.{sum_by, list_all, cons_option}
use Rattle.std.proofs.lemmas.List.Sums.{sum_by-cons}
use Rattle.std.proofs.lemmas.List.Sorted.{sum_by-IsPermutation}
use Rattle.std.proofs.lemmas.Slice.Eq.{bytes_eq-Decides}
use Rattle.command_line.specs.declared.settings.Otherwise.TheVariants.{Default, Unsaid, Required}
use Rattle.command_line.specs.Settings.{Rule, value_in, said_by, said, has_only, settings_of, rules_of}
use Rattle.command_line.specs.Settings.{gap_rule, ppm_rule, budget_rule, pool_rule, workers_rule, slack_rule, depth_rule, limit_rule, seed_rule, points_rule}
use Rattle.command_line.specs.Words.{solve_of, check_of, resume_of, near_of, make_of, trial_of, command_with, command_of}

-- ---- lists in another order
-- the two lists have the same sums, whatever number their elements have
abbrev SameSums : {X : Type 0} → List X → List X → Type 0
SameSums {X} xs ys = (f : X → ℕ) → sum_by f xs ≡ sum_by f ys

-- the number of what is there
abbrev number_in : {Y : Type 0} → (Y → ℕ) → Option Y → ℕ
number_in g None = 0
number_in g (Some v) = g v

sum_by-cons_option : {Y : Type 0} (g : Y → ℕ) (o : Option Y) (vs : List Y) → sum_by g (cons_option o vs) ≡ number_in g o + sum_by g vs
sum_by-cons_option g None vs = omega arith
sum_by-cons_option g (Some v) vs = sum_by-cons g v vs

sum_by-filter_map : {X Y : Type 0} (h : X → Option Y) (g : Y → ℕ) (xs : List X) → sum_by g (filter_map h xs) ≡ sum_by (λ x. number_in g (h x)) xs
sum_by-filter_map h g [] = refl
sum_by-filter_map h g (x ∷ xs) = omega (arith, sum_by-cons_option g (h x) (filter_map h xs), sum_by-filter_map h g xs, sum_by-cons (λ x. number_in g (h x)) x xs)

-- what a list gives, in another order, has the same sums
same_values : {X Y : Type 0} (h : X → Option Y) (xs ys : List X) → IsPermutation xs ys → SameSums (filter_map h xs) (filter_map h ys)
same_values h xs ys p g =
    sum_by-filter_map h g xs ∙ sym (sum_by-IsPermutation (λ x. number_in g (h x)) xs ys p) ∙ sym (sum_by-filter_map h g ys)

-- how many elements don't pass a test
abbrev failures : {X : Type 0} → (X → Bool) → List X → ℕ
failures test xs = sum_by (λ x. cond (test x) 0 1) xs

list_all-failures : {X : Type 0} (test : X → Bool) (xs : List X) → list_all test xs ≡ (failures test xs == 0)
list_all-failures test [] = refl
list_all-failures test (x ∷ xs) = grind (arith, list_all-failures test xs, sum_by-cons (λ x. cond (test x) 0 1) x xs)

-- the order of words doesn't change whether they all give values to these names
same_names : (xs ys : List (List ℕ)) → IsPermutation xs ys → (rules : List Rule) → has_only rules xs ≡ has_only rules ys
same_names xs ys p rules = same_all xs ys p _
  where
    same_all : {X : Type 0} (xs ys : List X) → IsPermutation xs ys → (test : X → Bool) → list_all test xs ≡ list_all test ys
    same_all xs ys p test =
        list_all-failures test xs ∙ ap (λ n. n == 0) (sym (sum_by-IsPermutation (λ x. cond (test x) 0 1) xs ys p)) ∙ sym (list_all-failures test ys)

-- ---- settings
-- 1 for true, 0 for false
abbrev once : Bool → ℕ
once b = cond b 1 0

-- lists of one value with the same sums have the same value
one_value : (v w : List ℕ) → SameSums (v ∷ []) (w ∷ []) → v ≡ w
one_value v w same =
    let own : bytes_eq v v ≡ true = (bytes_eq-Decides v v).1 refl in
    let f : List ℕ → ℕ = λ u. once (bytes_eq v u) in
    let count : f v ≡ f w = omega (arith, same f, sum_by-cons f v [], sum_by-cons f w []) in
    by_test (bytes_eq v w) refl (sym count ∙ ap once own)
  where
    by_test : (b : Bool) → bytes_eq v w ≡ b → once (bytes_eq v w) ≡ 1 → v ≡ w
    by_test true e one = (bytes_eq-Decides v w).0 e
    by_test false e one = absurd (omega (arith, one, ap once e))

-- the values of a name say the same in another order
same_said_by : (r : Rule) (vs ws : List (List ℕ)) → SameSums vs ws → said_by r vs ≡ said_by r ws
same_said_by r [] [] same = refl
same_said_by r [] (w ∷ ws) same =
    absurd (omega (arith, same (λ u. 1), sum_by-cons (λ (u : List ℕ). 1) w ws))
same_said_by r (v ∷ vs) [] same =
    absurd (omega (arith, same (λ u. 1), sum_by-cons (λ (u : List ℕ). 1) v vs))
same_said_by r (v ∷ []) (w ∷ []) same = ap (λ u. said_by r (u ∷ [])) (one_value v w same)
same_said_by r (v ∷ []) (w ∷ x ∷ ws) same =
    let f : List ℕ → ℕ = λ u. 1 in
    absurd (omega (arith, same f, sum_by-cons f v [], sum_by-cons f w (x ∷ ws), sum_by-cons f x ws))
same_said_by r (v ∷ u ∷ vs) (w ∷ []) same =
    let f : List ℕ → ℕ = λ u. 1 in
    absurd (omega (arith, same f, sum_by-cons f w [], sum_by-cons f v (u ∷ vs), sum_by-cons f u vs))
same_said_by r (v ∷ u ∷ vs) (w ∷ x ∷ ws) same = refl

same_said : (xs ys : List (List ℕ)) → IsPermutation xs ys → (r : Rule) → said r xs ≡ said r ys
same_said xs ys p r =
    same_said_by r (filter_map (value_in r.name) xs) (filter_map (value_in r.name) ys)
    (same_values (value_in r.name) xs ys p)

-- ---- commands
same_command_with : (name : List ℕ) (xs ys : List (List ℕ)) → IsPermutation xs ys
    → command_with name xs ≡ command_with name ys
unfolding command_with solve_of check_of resume_of near_of make_of trial_of settings_of
same_command_with name xs ys p =
    let same = same_said xs ys p in
    rw (
      same gap_rule,
      same ppm_rule,
      same (budget_rule (Default 100000)),
      same (budget_rule Required),
      same (pool_rule (Default 100000)),
      same (pool_rule Unsaid),
      same workers_rule,
      same slack_rule,
      same depth_rule,
      same limit_rule,
      same seed_rule,
      same points_rule,
    ) refl

-- the words after a name are the same command in another order
pub same_command : (name : List ℕ) (xs ys : List (List ℕ)) → IsPermutation xs ys
    → command_of (name ∷ xs) ≡ command_of (name ∷ ys)
unfolding command_of
same_command name xs ys p = by_rules (rules_of name)
  where
    by_rules : (rules : Option (List Rule))
        → option_and_then (λ (rs : List Rule). if has_only rs xs then command_with name xs else None) rules
        ≡ option_and_then (λ (rs : List Rule). if has_only rs ys then command_with name ys else None) rules
    by_rules None = refl
    by_rules (Some rs) = rw (same_names xs ys p rs, same_command_with name xs ys p) refl
