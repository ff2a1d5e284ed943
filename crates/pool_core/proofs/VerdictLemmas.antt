-- What a finding says: each comes of tests on the entry and on the number that was seen.
use Rattle.std.proofs.Common.{◌≡◌, ℕ, ◌-◌, ◌<◌, ◌≤◌, ◌==◌, nat_lt, ℤ, pos, ◌+ℤ◌, ◌-ℤ◌, ◌≤ℤ◌, ◌<ℤ◌, Bool, true, false, cond, not, ◌&&◌, Option, None, Some, refl, subst, arith}
use Rattle.std.specs.Int.{int_max}
use Rattle.std.proofs.lemmas.Bool.{cond_both, and_parts, not-true, eqb-true, eqb-false, ltb-true, false≢true}
use Rattle.std.proofs.lemmas.Int.{ints, clamps}
use Rattle.siting_definitions.specs.Instance.{IsInstance, weight}
use Rattle.siting_definitions.specs.Bounds.{coarse_of, fine_of}
use Rattle.siting_definitions.specs.Excluded.{is_excluded}
use Rattle.siting_definitions.specs.Marks.{IsAtMost, reaches}
use Rattle.siting_definitions.proofs.Integers.{int_le-true, int_le-false, lt-int_le}
use Rattle.objectives.proofs.Sizes.{weight-positive}
use Rattle.objectives.proofs.CoarseLemmas.{coarse_of-le-fine_of, fine_of-le-coarse_of}
use Rattle.bound_heap.specs.declared.entry.Entry.{Entry}
use Rattle.pool_core.specs.declared.verdict.Bounds.TheVariants as bounds
use Rattle.pool_core.specs.declared.verdict.Finding.{Finding}
use Rattle.pool_core.specs.declared.verdict.Finding.TheVariants.{Excluded, Bounded, Raise, Part, Floor}
use Rattle.pool_core.specs.Job.{Job}
use Rattle.pool_core.specs.Verdict.{bounds_of, finding_by, finding_of, finding_of_coarse, finding_of_fine}
use Rattle.pool_core.specs.Sound.{EntryFits}

-- a number that is at most b, where one is known to be
pub reaches-true : (u : Option ℤ) (b : ℤ) → reaches u b ≡ true → IsAtMost u b
reaches-true None b h = absurd (false≢true h)
reaches-true (Some n) b h = int_le-true n b h

-- a cost that isn't reached is above
pub reaches-false : (n b : ℤ) → reaches (Some n) b ≡ false → b <ℤ n
reaches-false n b h = int_le-false n b h

-- what doesn't reach a number doesn't reach a lesser one
pub reaches-less : (u : Option ℤ) (a b : ℤ) → a ≤ℤ b → reaches u b ≡ false → reaches u a ≡ false
reaches-less None a b le h = h
reaches-less (Some n) a b le h = lt-int_le n a (let less = int_le-false n b h in omega (arith, ints, less))

-- the finding by the bounds of an entry is the one on it
pub finding_by_its_bounds : (j : Job) (e : Entry) (seen : Option ℤ) → finding_by j e.square (bounds_of j e) seen ≡ finding_of j e seen
unfolding finding_of bounds_of
finding_by_its_bounds j e seen = split (is_excluded j.instance e.square) e.raised
  where
    split : (x r : Bool)
        → finding_by j e.square (cond x bounds.Excluded (cond r (bounds.Raised e.bound) (bounds.Both (int_max e.bound (coarse_of j.instance e.square)) (fine_of j.instance e.square)))) seen
        ≡ cond x Excluded (cond r (finding_of_fine j e.square e.bound seen) (finding_of_coarse j e.square (int_max e.bound (coarse_of j.instance e.square)) (fine_of j.instance e.square) seen))
    split true r = refl
    split false true = refl
    split false false = refl

-- what a finding says of the entry and of the number that was seen
abbrev pub FindingFits : Job → Entry → Option ℤ → Finding → Type 0
FindingFits j e seen Excluded = is_excluded j.instance e.square ≡ true
FindingFits j e seen (Bounded c) =
    (is_excluded j.instance e.square ≡ false) × (c ≤ℤ fine_of j.instance e.square) × (reaches seen (c +ℤ j.gap) ≡ true)
FindingFits j e seen (Raise b) = (is_excluded j.instance e.square ≡ false) × (e.raised ≡ false) × (b ≡ fine_of j.instance e.square)
FindingFits j e seen (Part b) =
    (is_excluded j.instance e.square ≡ false) × (0 < e.square.level) × (b ≤ℤ fine_of j.instance e.square)
    × (reaches seen (fine_of j.instance e.square +ℤ j.gap) ≡ false)
FindingFits j e seen (Floor b) = (is_excluded j.instance e.square ≡ false) × (e.square.level ≡ 0) × (b ≡ fine_of j.instance e.square)

-- the finding by the fine bound is one that fits
fine-fits : (j : Job) (e : Entry) (seen : Option ℤ) → is_excluded j.instance e.square ≡ false → e.bound ≡ fine_of j.instance e.square → FindingFits j e seen (finding_of_fine j e.square e.bound seen)
fine-fits j e seen open_square is =
    let least : e.bound ≤ℤ fine_of j.instance e.square = omega (arith, ints, is) in
    cond_both (reaches seen (e.bound +ℤ j.gap)) (Bounded e.bound) (cond (e.square.level == 0) (Floor e.bound) (Part e.bound)) (FindingFits j e seen)
    (λ reached. (open_square, least, reached))
    (λ short.
    cond_both (e.square.level == 0) (Floor e.bound) (Part e.bound) (FindingFits j e seen)
    (λ floor. (open_square, eqb-true e.square.level 0 floor, is))
    (λ above. (open_square, omega (arith, eqb-false e.square.level 0 above), least, subst (λ b. reaches seen (b +ℤ j.gap) ≡ false) is short)))

-- so is the one by a lesser bound
coarse-fits : (j : Job) (e : Entry) (c : ℤ) (seen : Option ℤ) → is_excluded j.instance e.square ≡ false → e.raised ≡ false → c ≤ℤ fine_of j.instance e.square → fine_of j.instance e.square ≤ℤ ((c +ℤ pos (weight j.instance.points)) -ℤ pos 1) → FindingFits j e seen (finding_of_coarse j e.square c (fine_of j.instance e.square) seen)
coarse-fits j e c seen open_square fresh low high =
    let f = fine_of j.instance e.square in
    let far = ((c +ℤ pos (weight j.instance.points)) -ℤ pos 1) +ℤ j.gap in
    let cut = nat_lt 0 e.square.level && not (reaches seen far) in
    cond_both (reaches seen (c +ℤ j.gap)) (Bounded c) (cond cut (Part c) (Raise f)) (FindingFits j e seen) (λ reached. (open_square, low, reached))
    (λ short.
    cond_both cut (Part c) (Raise f) (FindingFits j e seen)
    (λ yes.
    let parts = and_parts (nat_lt 0 e.square.level) (not (reaches seen far)) yes in
    (open_square, ltb-true 0 e.square.level parts.0, low, reaches-less seen (f +ℤ j.gap) far (omega (arith, ints, high)) (not-true (reaches seen far) parts.1)))
    (λ no. (open_square, fresh, refl)))

between : (b c f : ℤ) (w : ℕ) → b ≤ℤ f → c ≤ℤ f → 1 ≤ w → f ≤ℤ (c +ℤ pos (w - 1)) → (int_max b c ≤ℤ f) × (f ≤ℤ ((int_max b c +ℤ pos w) -ℤ pos 1))
between b c f w hb hc one high = (omega (arith, ints, clamps), omega (arith, ints, clamps))

-- the finding on an entry that fits
pub finding-fits : (j : Job) (e : Entry) (seen : Option ℤ) → IsInstance j.instance → EntryFits j.instance e → FindingFits j e seen (finding_of j e seen)
unfolding finding_of
finding-fits j e seen lawful fits =
    let some = weight-positive j.instance lawful in
    let c = coarse_of j.instance e.square in
    let range = between e.bound c (fine_of j.instance e.square) (weight j.instance.points) fits.bound (coarse_of-le-fine_of j.instance e.square) some (fine_of-le-coarse_of j.instance e.square some) in
    cond_both _ _ _ (FindingFits j e seen) (λ shut. shut)
    (λ open_square.
    cond_both _ _ _ (FindingFits j e seen) (λ raised. fine-fits j e seen open_square (fits.raised raised).0)
    (λ fresh. coarse-fits j e (int_max e.bound c) seen open_square fresh range.0 range.1))
