-- What is counted over the views of all seats, where one of them changes.
use Rattle.std.proofs.Common.{◌≡◌, ℕ, zero, suc, ◌+◌, ◌≤◌, ◌≢◌, cond, List, [], ◌∷◌, ◌++◌, set, Option, None, Some, refl, sym, ap, arith}
use Rattle.std.specs.Prelude.{option_to_list, sum_by, is_some}
use Rattle.std.proofs.lemmas.List.Sums.{sum_by-cons}
use mathlib.Core.Option.{some, some-injective, some-ne-none}
use lib.ListN.{get_elem?}
use Rattle.dyadic_square.proofs.Bag.{total, total-append}
use Rattle.bound_heap.specs.declared.entry.Entry.{Entry}
use Rattle.shared_pool.specs.declared.view.View.{View}
use Rattle.shared_pool.specs.TableFits.{leases_of}

-- ---- sums over a list of which one element changes
module _ {A : Type 0} (g : A → ℕ) where
  pub sum-set : (l : List A) (j : ℕ) (v w : A) → get_elem? l j ≡ some v → sum_by g (set l j w) + g v ≡ sum_by g l + g w
  sum-set [] j v w e = absurd (some-ne-none v (sym e))
  sum-set (x ∷ xs) zero v w e = omega (arith, sum_by-cons g w xs, sum_by-cons g x xs, ap g (some-injective x v e))
  sum-set (x ∷ xs) (suc j) v w e = omega (arith, sum_by-cons g x (set xs j w), sum_by-cons g x xs, sum-set xs j v w e)

  -- one element is at most the sum
  pub term-le : (l : List A) (j : ℕ) (v : A) → get_elem? l j ≡ some v → g v ≤ sum_by g l
  term-le [] j v e = absurd (some-ne-none v (sym e))
  term-le (x ∷ xs) zero v e = omega (arith, sum_by-cons g x xs, ap g (some-injective x v e))
  term-le (x ∷ xs) (suc j) v e = omega (arith, sum_by-cons g x xs, term-le xs j v e)

  -- and so are two
  pub terms-le : (l : List A) (j k : ℕ) (v u : A) → k ≢ j → get_elem? l j ≡ some v → get_elem? l k ≡ some u → g v + g u ≤ sum_by g l
  terms-le [] j k v u n e d = absurd (some-ne-none v (sym e))
  terms-le (x ∷ xs) zero zero v u n e d = absurd (n refl)
  terms-le (x ∷ xs) zero (suc k) v u n e d = omega (arith, sum_by-cons g x xs, ap g (some-injective x v e), term-le xs k u d)
  terms-le (x ∷ xs) (suc j) zero v u n e d = omega (arith, sum_by-cons g x xs, ap g (some-injective x u d), term-le xs j v e)
  terms-le (x ∷ xs) (suc j) (suc k) v u n e d = omega (arith, sum_by-cons g x xs, terms-le xs j k v u (λ h. n (ap suc h)) e d)

-- a sum of what is nowhere more is no more, by as much less as one element is
module _ {A : Type 0} (f g : A → ℕ) where
  pub sums-le : (l : List A) → ((j : ℕ) (v : A) → get_elem? l j ≡ some v → f v ≤ g v) → sum_by f l ≤ sum_by g l
  sums-le [] h = omega arith
  sums-le (x ∷ xs) h = omega (arith, sum_by-cons f x xs, sum_by-cons g x xs, h 0 x refl, sums-le xs (λ j. h (suc j)))

  pub sums-less : (l : List A) (j : ℕ) (v : A) → ((j : ℕ) (v : A) → get_elem? l j ≡ some v → f v ≤ g v) → get_elem? l j ≡ some v → sum_by f l + g v ≤ sum_by g l + f v
  sums-less [] j v h e = absurd (some-ne-none v (sym e))
  sums-less (x ∷ xs) zero v h e =
      omega (arith, sum_by-cons f x xs, sum_by-cons g x xs, ap f (some-injective x v e), ap g (some-injective x v e), sums-le xs (λ j. h (suc j)))
  sums-less (x ∷ xs) (suc j) v h e =
      omega (arith, sum_by-cons f x xs, sum_by-cons g x xs, h 0 x refl, sums-less xs j v (λ k. h (suc k)) e)

-- ---- the leases of all desks
-- the weight of the lease of one desk, however entries are weighed
abbrev pub lease_total : (Entry → ℕ) → View → ℕ
lease_total f v = total f (option_to_list v.lease)

pub leases-set : (f : Entry → ℕ) (vs : List View) (j : ℕ) (v w : View) → get_elem? vs j ≡ some v → total f (leases_of (set vs j w)) + lease_total f v ≡ total f (leases_of vs) + lease_total f w
leases-set f [] j v w e = absurd (some-ne-none v (sym e))
leases-set f (x ∷ xs) zero v w e =
    omega (arith, total-append f (option_to_list w.lease) (leases_of xs), total-append f (option_to_list x.lease) (leases_of xs), ap (lease_total f) (some-injective x v e))
leases-set f (x ∷ xs) (suc j) v w e =
    omega (arith, total-append f (option_to_list x.lease) (leases_of (set xs j w)), total-append f (option_to_list x.lease) (leases_of xs), leases-set f xs j v w e)

pub leases-append : (f : Entry → ℕ) (vs ws : List View) → total f (leases_of (vs ++ ws)) ≡ total f (leases_of vs) + total f (leases_of ws)
leases-append f [] ws = omega arith
leases-append f (x ∷ xs) ws =
    omega (arith, total-append f (option_to_list x.lease) (leases_of (xs ++ ws)), total-append f (option_to_list x.lease) (leases_of xs), leases-append f xs ws)

-- the lease of a seat weighs at most what all do
pub lease-le : (f : Entry → ℕ) (vs : List View) (j : ℕ) (v : View) → get_elem? vs j ≡ some v → lease_total f v ≤ total f (leases_of vs)
lease-le f [] j v e = absurd (some-ne-none v (sym e))
lease-le f (x ∷ xs) zero v e =
    omega (arith, total-append f (option_to_list x.lease) (leases_of xs), ap (lease_total f) (some-injective x v e))
lease-le f (x ∷ xs) (suc j) v e =
    omega (arith, total-append f (option_to_list x.lease) (leases_of xs), lease-le f xs j v e)

-- whether a seat has a lease, as a number
abbrev pub has_lease : View → ℕ
has_lease v = cond (is_some v.lease) 1 0

pub leases-count : (vs : List View) → total (λ (e : Entry). 1) (leases_of vs) ≡ sum_by has_lease vs
leases-count [] = refl
leases-count (x ∷ xs) =
    omega (arith, total-append (λ (e : Entry). 1) (option_to_list x.lease) (leases_of xs), one x.lease, sum_by-cons has_lease x xs, leases-count xs)
  where
    one : (o : Option Entry) → total (λ (e : Entry). 1) (option_to_list o) ≡ cond (is_some o) 1 0
    one None = refl
    one (Some e) = omega arith
