-- The cheapest site of a list, found from its first on, and what holds of it.
use Rattle.std.proofs.Common.{◌≡◌, ℤ, ◌≤ℤ◌, ◌<ℤ◌, Bool, true, false, cond, List, [], ◌∷◌, ◌++◌, Option, Some, None, All, MatchOption, refl, sym, ap, ◌∙◌, subst, arith}
use Rattle.std.specs.Prelude.{⊤, int_le}
use Rattle.std.specs.Option.{option_map}
use Rattle.std.specs.List.{fold}
use Rattle.std.proofs.lemmas.Int.{by_lt_z}
use Rattle.std.proofs.lemmas.List.Elements.{All-nil, All-cons, All-head, All-tail, All-same, All-append, All-weaker}
use Rattle.siting_definitions.specs.Point.{Pt}
use Rattle.siting_definitions.specs.Sites.{cheaper, cheapest}
use Rattle.siting_definitions.proofs.Integers.{le_trans_ℤ, le-int_le, lt-int_le}
use Rattle.candidate_sites.specs.Cheaper.{cheaper_of}
use Rattle.candidate_sites.specs.First.{IsFirstOfLeast}
use borrow.Author.Differences.{ints}

-- ---- which of two sites is cheaper
takes_first : (cost : Pt → ℤ) (z y : Pt) → cost z ≤ℤ cost y → cheaper cost z (Some y) ≡ z
takes_first cost z y h = ap (λ b. cond b z y) (le-int_le (cost z) (cost y) h)

takes_second : (cost : Pt → ℤ) (z y : Pt) → cost y <ℤ cost z → cheaper cost z (Some y) ≡ y
takes_second cost z y h = ap (λ b. cond b z y) (lt-int_le (cost z) (cost y) h)

-- of three sites the same one is the cheapest, whichever two come first
cheaper-assoc-some : (cost : Pt → ℤ) (b z y : Pt) → cheaper cost b (Some (cheaper cost z (Some y))) ≡ cheaper cost (cheaper cost b (Some z)) (Some y)
cheaper-assoc-some cost b z y =
    by_lt_z (cost y) (cost z)
    (λ below.
    ap (λ w. cheaper cost b (Some w)) (takes_second cost z y below)
    ∙ by_lt_z (cost z) (cost b)
    (λ less. takes_second cost b y (lt_trans_ℤ _ _ _ below less) ∙ sym (takes_second cost z y below) ∙ ap (λ w. cheaper cost w (Some y)) (sym (takes_second cost b z less)))
    (λ more. ap (λ w. cheaper cost w (Some y)) (sym (takes_first cost b z more))))
    (λ above.
    ap (λ w. cheaper cost b (Some w)) (takes_first cost z y above)
    ∙ by_lt_z (cost z) (cost b)
    (λ less. takes_second cost b z less ∙ sym (takes_first cost z y above) ∙ ap (λ w. cheaper cost w (Some y)) (sym (takes_second cost b z less)))
    (λ more. takes_first cost b z more ∙ sym (takes_first cost b y (le_trans_ℤ _ _ _ more above)) ∙ ap (λ w. cheaper cost w (Some y)) (sym (takes_first cost b z more))))
  where
    lt_trans_ℤ : (a b c : ℤ) → a <ℤ b → b <ℤ c → a <ℤ c
    lt_trans_ℤ a b c h k = omega (arith, ints)

cheaper-assoc : (cost : Pt → ℤ) (b z : Pt) (o : Option Pt) → cheaper cost b (Some (cheaper cost z o)) ≡ cheaper cost (cheaper cost b (Some z)) o
cheaper-assoc cost b z None = refl
cheaper-assoc cost b z (Some y) = cheaper-assoc-some cost b z y

-- ---- from the first site on
abbrev pub priced : (Pt → ℤ) → Pt → Pt × ℤ
priced cost z = (z, cost z)

abbrev pub price_of : (Pt → ℤ) → Option Pt → Option (Pt × ℤ)
price_of cost o = option_map (priced cost) o

cheaper_of-priced : (cost : Pt → ℤ) (b z : Pt) → cheaper_of cost (Some (priced cost b)) z ≡ Some (priced cost (cheaper cost b (Some z)))
cheaper_of-priced cost b z =
    elim (int_le (cost b) (cost z)) as (λ t. cond t (Some (priced cost b)) (Some (priced cost z)) ≡ Some (priced cost (cond t b z))) [ true ↦ refl | false ↦ refl ]

-- the cheapest of a list, joined one after another from a site with its cost on
fold-cheaper_of : (cost : Pt → ℤ) (b : Pt) (zs : List Pt) → fold (cheaper_of cost) (Some (priced cost b)) zs ≡ Some (priced cost (cheaper cost b (cheapest cost zs)))
fold-cheaper_of cost b [] = refl
fold-cheaper_of cost b (z ∷ zs) =
    ap (λ best. fold (cheaper_of cost) best zs) (cheaper_of-priced cost b z)
    ∙ fold-cheaper_of cost (cheaper cost b (Some z)) zs
    ∙ ap (λ y. Some (priced cost y)) (sym (cheaper-assoc cost b z (cheapest cost zs)))

-- and joined from nothing on
pub fold-cheaper_of-none : (cost : Pt → ℤ) (zs : List Pt) → fold (cheaper_of cost) None zs ≡ price_of cost (cheapest cost zs)
fold-cheaper_of-none cost [] = refl
fold-cheaper_of-none cost (z ∷ zs) = fold-cheaper_of cost z zs

-- ---- the first of least cost
-- only of no site there is no cheapest
pub cheapest-none : (cost : Pt → ℤ) (zs : List Pt) → cheapest cost zs ≡ None → zs ≡ []
cheapest-none cost [] h = refl
cheapest-none cost (z ∷ zs) h = absurd (cc)

-- a site alone is the first of least cost
first-none : (cost : Pt → ℤ) (y : Pt) (ys : List Pt) → ys ≡ [] → IsFirstOfLeast cost (y ∷ ys) y
first-none cost y ys none =
    record {
      before = [];
      after = ys;
      whole = refl;
      dearer = All-nil (λ x. cost y <ℤ cost x);
      least = All-same (λ x. cost y ≤ℤ cost x) ys [] none (All-nil (λ x. cost y ≤ℤ cost x));
    }

-- a site that costs less than the one before it stays the first of least cost
first-below : (cost : Pt → ℤ) (y : Pt) (ys : List Pt) (z : Pt) → cost z <ℤ cost y → IsFirstOfLeast cost ys z → IsFirstOfLeast cost (y ∷ ys) z
first-below cost y ys z below first =
    record {
      before = y ∷ first.before;
      after = first.after;
      whole = ap (λ xs. y ∷ xs) first.whole;
      dearer = All-cons (λ x. cost z <ℤ cost x) y first.before below first.dearer;
      least = first.least;
    }

-- one that costs no less gives way to it
first-above : (cost : Pt → ℤ) (y : Pt) (ys : List Pt) (z : Pt) → cost y ≤ℤ cost z → IsFirstOfLeast cost ys z → IsFirstOfLeast cost (y ∷ ys) y
first-above cost y ys z above first =
    let P : Pt → Type 0 = λ x. cost y ≤ℤ cost x in
    let left : All P first.before = All-weaker (λ x. cost z <ℤ cost x) P (λ x h. below_too (cost y) (cost z) (cost x) above h) first.before first.dearer in
    let right : All P first.after = All-weaker (λ x. cost z ≤ℤ cost x) P (λ x h. le_trans_ℤ (cost y) (cost z) (cost x) above h) first.after first.least in
    record {
      before = [];
      after = ys;
      whole = refl;
      dearer = All-nil (λ x. cost y <ℤ cost x);
      least = All-same P ys (first.before ++ z ∷ first.after) first.whole (All-append P first.before (z ∷ first.after) left (All-cons P z first.after above right));
    }
  where
    below_too : (a b c : ℤ) → a ≤ℤ b → b <ℤ c → a ≤ℤ c
    below_too a b c h k = omega (arith, ints)

-- of a site and the first of least cost of the rest, the cheaper is that of the whole
first-some : (cost : Pt → ℤ) (y : Pt) (ys : List Pt) (w : Pt) → IsFirstOfLeast cost ys w → IsFirstOfLeast cost (y ∷ ys) (cheaper cost y (Some w))
first-some cost y ys w first =
    let P : Pt → Type 0 = λ x. IsFirstOfLeast cost (y ∷ ys) x in
    by_lt_z (cost w) (cost y)
    (λ below. subst P (sym (takes_second cost y w below)) (first-below cost y ys w below first))
    (λ above. subst P (sym (takes_first cost y w above)) (first-above cost y ys w above first))

-- what is found of the rest, and then of the whole
first-step : (cost : Pt → ℤ) (y : Pt) (ys : List Pt) (o : Option Pt) → cheapest cost ys ≡ o → ((w : Pt) → o ≡ Some w → IsFirstOfLeast cost ys w) → IsFirstOfLeast cost (y ∷ ys) (cheaper cost y o)
first-step cost y ys None none rest = first-none cost y ys (cheapest-none cost ys none)
first-step cost y ys (Some w) some rest = first-some cost y ys w (rest w refl)

-- the cheapest of a list is its first of least cost
pub cheapest-first : (cost : Pt → ℤ) (zs : List Pt) (z : Pt) → cheapest cost zs ≡ Some z → IsFirstOfLeast cost zs z
cheapest-first cost [] z h = absurd (cc)
cheapest-first cost (y ∷ ys) z h =
    let e : cheaper cost y (cheapest cost ys) ≡ z = cc in
    subst (λ x. IsFirstOfLeast cost (y ∷ ys) x) e (first-step cost y ys (cheapest cost ys) refl (λ w found. cheapest-first cost ys w found))

-- ---- what holds of each site holds of the cheapest
cheaper-either : (P : Pt → Type 0) (cost : Pt → ℤ) (z : Pt) (o : Option Pt) → P z → MatchOption o ⊤ P → P (cheaper cost z o)
cheaper-either P cost z None h k = h
cheaper-either P cost z (Some y) h k = chosen (int_le (cost z) (cost y))
  where
    chosen : (b : Bool) → P (cond b z y)
    chosen true = h
    chosen false = k

-- what holds of each site of a list holds of the cheapest
pub cheapest-all : (P : Pt → Type 0) (cost : Pt → ℤ) (zs : List Pt) → All P zs → MatchOption (cheapest cost zs) ⊤ P
cheapest-all P cost [] h = tt
cheapest-all P cost (z ∷ zs) h = cheaper-either P cost z (cheapest cost zs) (All-head P z zs h) (cheapest-all P cost zs (All-tail P z zs h))
