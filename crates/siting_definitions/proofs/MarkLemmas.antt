-- The finished mark of a leaf, case by case; what the mark of a split square may be; and numbers that may be absent: the order
-- of them, and the lesser of two.
use Rattle.std.proofs.Common.{◌≡◌, ◌==◌, ℤ, ◌+ℤ◌, Bool, true, false, cond, not, Option, None, Some, refl, ap, ◌∙◌, ⊎_elim}
use Rattle.std.specs.Prelude.{MatchOption, ⊤}
use Rattle.std.proofs.lemmas.Bool.{cases_Bool, cond-true, cond-false}
use Rattle.siting_definitions.specs.declared.Mark.{Mark}
use Rattle.siting_definitions.specs.declared.Mark.TheVariants.{Split, Shut, Bounded, Floor, Left}
use Rattle.siting_definitions.specs.Instance.{Instance}
use Rattle.siting_definitions.specs.Square.{Square}
use Rattle.siting_definitions.specs.Bounds.{fine_of}
use Rattle.siting_definitions.specs.Excluded.{is_excluded}
use Rattle.siting_definitions.specs.Marks.{IsAtMost, reaches, leaf_mark, SplitFits, lesser, bound_of, is_split, is_leaf}
use Rattle.siting_definitions.proofs.Integers.{int_min-assoc, le_refl_ℤ, le_trans_ℤ}

-- ---- a leaf
-- the four finished marks of a leaf, each where its case holds
pub shut_leaf : (i : Instance) (gap : ℤ) (u : Option ℤ) (s : Square) → is_excluded i s ≡ true → leaf_mark i gap u s ≡ Shut
unfolding leaf_mark
shut_leaf i gap u s h = cond-true _ _ _ h

pub bounded_leaf : (i : Instance) (gap : ℤ) (u : Option ℤ) (s : Square) → is_excluded i s ≡ false
    → reaches u (fine_of i s +ℤ gap) ≡ true → leaf_mark i gap u s ≡ Bounded (fine_of i s)
unfolding leaf_mark
bounded_leaf i gap u s h k = cond-false _ _ _ h ∙ cond-true _ _ _ k

pub floor_leaf : (i : Instance) (gap : ℤ) (u : Option ℤ) (s : Square) → is_excluded i s ≡ false
    → reaches u (fine_of i s +ℤ gap) ≡ false → (s.level == 0) ≡ true → leaf_mark i gap u s ≡ Floor (fine_of i s)
unfolding leaf_mark
floor_leaf i gap u s h k l = cond-false _ _ _ h ∙ cond-false _ _ _ k ∙ cond-true _ _ _ l

pub left_leaf : (i : Instance) (gap : ℤ) (u : Option ℤ) (s : Square) → is_excluded i s ≡ false
    → reaches u (fine_of i s +ℤ gap) ≡ false → (s.level == 0) ≡ false → leaf_mark i gap u s ≡ Left (fine_of i s)
unfolding leaf_mark
left_leaf i gap u s h k l = cond-false _ _ _ h ∙ cond-false _ _ _ k ∙ cond-false _ _ _ l

-- the bound of a leaf that isn't excluded is the square's fine bound
pub open_bound : (i : Instance) (gap : ℤ) (u : Option ℤ) (s : Square) → is_excluded i s ≡ false
    → bound_of (leaf_mark i gap u s) ≡ Some (fine_of i s)
open_bound i gap u s h =
    ⊎_elim (λ k. ap bound_of (bounded_leaf i gap u s h k))
    (λ k.
    ⊎_elim (λ l. ap bound_of (floor_leaf i gap u s h k l)) (λ l. ap bound_of (left_leaf i gap u s h k l)) (cases_Bool (s.level == 0)))
    (cases_Bool (reaches u (fine_of i s +ℤ gap)))

unsplit_by : (a b c : Bool) (f : ℤ) → is_split (cond a Shut (cond b (Bounded f) (cond c (Floor f) (Left f)))) ≡ false
unsplit_by true b c f = refl
unsplit_by false true c f = refl
unsplit_by false false true f = refl
unsplit_by false false false f = refl

-- the finished mark of a leaf isn't that of a split square
pub leaf_unsplit : (i : Instance) (gap : ℤ) (u : Option ℤ) (s : Square) → is_split (leaf_mark i gap u s) ≡ false
unfolding leaf_mark
leaf_unsplit i gap u s = unsplit_by (is_excluded i s) (reaches u (fine_of i s +ℤ gap)) (s.level == 0) (fine_of i s)

-- ---- a split square
pub split_fits : (i : Instance) (gap : ℤ) (u : Option ℤ) (s : Square) (m : Mark) → SplitFits i gap u s m → is_split m ≡ true
split_fits i gap u s (Split v) fits = refl
split_fits i gap u s Shut fits = absurd fits
split_fits i gap u s (Bounded b) fits = absurd fits
split_fits i gap u s (Floor b) fits = absurd fits
split_fits i gap u s (Left b) fits = absurd fits

-- a split square has no bound of its own
pub split_bound : (i : Instance) (gap : ℤ) (u : Option ℤ) (s : Square) (m : Mark) → SplitFits i gap u s m → bound_of m ≡ None
split_bound i gap u s (Split v) h = refl
split_bound i gap u s Shut h = absurd h
split_bound i gap u s (Bounded b) h = absurd h
split_bound i gap u s (Floor b) h = absurd h
split_bound i gap u s (Left b) h = absurd h

-- a leaf is what isn't split
pub leaf-not_split : (m : Mark) → is_leaf m ≡ not (is_split m)
leaf-not_split (Split v) = refl
leaf-not_split Shut = refl
leaf-not_split (Bounded b) = refl
leaf-not_split (Floor b) = refl
leaf-not_split (Left b) = refl

-- ---- numbers that may be absent
pub at_most-refl : (a : Option ℤ) → MatchOption a ⊤ (IsAtMost a)
at_most-refl None = tt
at_most-refl (Some x) = le_refl_ℤ x

pub at_most-trans : (a b c : Option ℤ) → MatchOption b ⊤ (IsAtMost a) → MatchOption c ⊤ (IsAtMost b)
    → MatchOption c ⊤ (IsAtMost a)
at_most-trans a b None h k = tt
at_most-trans a None (Some z) h k = absurd k
at_most-trans None (Some y) (Some z) h k = absurd h
at_most-trans (Some x) (Some y) (Some z) h k = le_trans_ℤ x y z h k

-- ---- the lesser of two of them
pub lesser-none : (a : Option ℤ) → lesser a None ≡ a
lesser-none None = refl
lesser-none (Some x) = refl

-- the lesser of three, taken in either order
pub lesser-assoc : (a b c : Option ℤ) → lesser (lesser a b) c ≡ lesser a (lesser b c)
lesser-assoc None b c = refl
lesser-assoc (Some a) None c = refl
lesser-assoc (Some a) (Some b) None = refl
lesser-assoc (Some a) (Some b) (Some c) = ap Some (int_min-assoc a b c)
