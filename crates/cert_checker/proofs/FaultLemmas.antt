-- There is no fault exactly where what is asked holds: of a head, of a mark, and at the last line.
use Rattle.std.proofs.Common.{◌≡◌, ℕ, ◌+◌, ◌*◌, ◌<◌, ◌≤◌, ◌==◌, leb, ℤ, ◌+ℤ◌, ◌<ℤ◌, Bool, true, false, not, ◌||◌, List, [], ◌∷◌, Option, None, Some, Decides, refl, sym, ap, ◌∙◌, subst, ◌⊎◌, inl, inr, arith}
use Rattle.std.proofs.lemmas.Bool.{cases_Bool, and_parts, true≢false, false≢true, not-true, not_from_false}
use Rattle.std.proofs.lemmas.Bool.Decides.{Decides-eqb, Decides-int_eq, Decides-and, Decides-like, Decides-ltb, nat_tests}
use Rattle.std.specs.Prelude.{⊤, ◌↔◌, IsTrue, slice_get, MatchOption, int_le, is_some}
use Rattle.std.specs.Bool.{OnTrue}
use Rattle.siting_definitions.specs.declared.Mark.{Mark}
use Rattle.siting_definitions.specs.declared.Mark.TheVariants.{Split, Shut, Bounded, Floor as FloorMark, Left}
use Rattle.siting_definitions.specs.declared.Word.{Word}
use Rattle.siting_definitions.specs.declared.Word.TheVariants.{Solved, PoolFull, Budget, Floor, Empty}
use Rattle.siting_definitions.specs.Point.{point_of}
use Rattle.siting_definitions.specs.Instance.{Instance}
use Rattle.siting_definitions.specs.Permitted.{permits}
use Rattle.siting_definitions.specs.Square.{Square}
use Rattle.siting_definitions.specs.Bounds.{fine_of, lower_of, upper_of}
use Rattle.siting_definitions.specs.Excluded.{is_excluded}
use Rattle.siting_definitions.specs.Sites.{opening_cost, centre_cost}
use Rattle.siting_definitions.specs.Tree.{TreeSquare}
use Rattle.siting_definitions.specs.Marks.{IsAtMost, IsNoneOrAtLeast, IsCalledFor, SeenFits, reaches, leaf_mark, is_split, MarkFits, Tally}
use Rattle.siting_definitions.specs.Answer.{Best, Head, upper_cost, has_word, IsPriced, HeadFits, WordCounts, CountsFit, EndFits}
use Rattle.siting_definitions.proofs.Integers.{int_le-true, int_le-false, int_lt-false, le-int_le, lt-int_le, le-int_lt}
use Rattle.siting_definitions.proofs.MarkLemmas.{shut_leaf, bounded_leaf, floor_leaf, left_leaf}
use Rattle.cert_checker.specs.declared.faults.CheckFault.{CheckFault}
use Rattle.cert_checker.specs.Faults.{or_else, unless, best_fault, worse_fault, head_fault_of, is_below, is_uncalled, has_letter, bound_fault, fault_of_mark, mark_fault_of, same_optional, word_counts, counts_fit, end_fault_of}
use Rattle.cert_checker.specs.Walking.{CanStep}

-- ---- faults in order
unless-none : (test : Bool) (fault : CheckFault) (P : Type 0) → Decides test P → (unless test fault ≡ None) ↔ P
unless-none true fault P d = (λ e. d.0 refl, λ p. refl)
unless-none false fault P d = (λ e. absurd (cc), λ p. absurd (false≢true (d.1 p)))

or_else-none : (first later : Option CheckFault) (P Q : Type 0) → (first ≡ None) ↔ P → (later ≡ None) ↔ Q → (or_else first later ≡ None) ↔ (P × Q)
or_else-none None later P Q h k = (λ e. (h.0 refl, k.0 e), λ both. k.1 both.1)
or_else-none (Some fault) later P Q h k = (λ e. absurd (cc), λ both. absurd (let e = h.1 both.0 in cc))

like : (F P Q : Type 0) → F ↔ P → (P → Q) → (Q → P) → F ↔ Q
like F P Q h f g = (λ e. f (h.0 e), λ q. h.1 (g q))

-- ---- tests
Decides-nor : (x y : Bool) (P Q : Type 0) → Decides (not x) P → Decides (not y) Q → Decides (not (x || y)) (P × Q)
Decides-nor true y P Q d k = (λ e. absurd (false≢true e), λ both. d.1 both.0)
Decides-nor false y P Q d k = (λ e. (d.0 refl, k.0 e), λ both. k.1 both.1)

Decides-false : (x : Bool) → Decides (not x) (x ≡ false)
Decides-false true = (λ e. absurd (false≢true e), λ e. absurd (true≢false e))
Decides-false false = (λ e. refl, λ e. refl)

Decides-true : (x : Bool) → Decides x (x ≡ true)
Decides-true x = (λ e. e, λ e. e)

Decides-above : (n : ℕ) → Decides (not (n == 0)) (0 < n)
Decides-above n = (λ e. grind (arith, nat_tests), λ h. grind (arith, nat_tests))

Decides-none : (o : Option ℤ) → Decides (not (is_some o)) (o ≡ None)
Decides-none None = (λ e. refl, λ e. refl)
Decides-none (Some z) = (λ e. absurd (false≢true e), λ e. absurd (cc))

Decides-leb : (a b : ℕ) → Decides (leb a b) (a ≤ b)
Decides-leb a b = (λ e. grind (arith, nat_tests), λ h. grind (arith, nat_tests))

Decides-reaches : (u : Option ℤ) (b : ℤ) → Decides (reaches u b) (IsAtMost u b)
Decides-reaches None b = (λ e. absurd (false≢true e), λ h. absurd h)
Decides-reaches (Some n) b = (int_le-true n b, le-int_le n b)

Decides-twice : (x : Bool) (P : Type 0) → Decides x P → Decides (not (not x)) P
Decides-twice true P d = d
Decides-twice false P d = d

Decides-not_below : (o : Option ℤ) (v : ℤ) → Decides (not (is_below o v)) (IsNoneOrAtLeast o v)
Decides-not_below None v = (λ e. tt, λ h. refl)
Decides-not_below (Some n) v = (λ e. int_lt-false n v (not-true _ e), λ h. not_from_false _ (le-int_lt n v h))

Decides-more : (v w : ℤ) → Decides (not (int_le v w)) (w <ℤ v)
Decides-more v w = (λ e. int_le-false v w (not-true _ e), λ h. not_from_false _ (lt-int_le v w h))

Decides-same : (a b : Option ℤ) → Decides (same_optional a b) (a ≡ b)
Decides-same None None = (λ e. refl, λ e. refl)
Decides-same None (Some b) = (λ e. absurd (false≢true e), λ e. absurd (cc))
Decides-same (Some a) None = (λ e. absurd (false≢true e), λ e. absurd (cc))
Decides-same (Some a) (Some b) = (λ e. ap Some ((Decides-int_eq a b).0 e), λ e. (Decides-int_eq a b).1 (cc))

-- ---- the head
best-none : (i : Instance) (best : Option Best) → (best_fault i best ≡ None) ↔ MatchOption best ⊤ (IsPriced i)
best-none i None = (λ e. tt, λ h. refl)
best-none i (Some b) =
    like _ _ _
    (or_else-none _ _ _ _ (unless-none _ _ (IsTrue (permits i (point_of b.site))) (Decides-true _))
    (or_else-none _ _ _ _ (unless-none _ _ _ (Decides-int_eq b.lower (lower_of i b.site))) (unless-none _ _ _ (Decides-int_eq b.upper (upper_of i b.site)))))
    (λ h. record { permitted = h.0; lower = h.1.0; upper = h.1.1 })
    (λ (p : IsPriced i b). (p.permitted, (p.lower, p.upper)))

worse-none : (i : Instance) (u o : Option ℤ) → (worse_fault i u o ≡ None) ↔ MatchOption o ⊤ (IsAtMost u)
worse-none i u None = (λ e. tt, λ h. refl)
worse-none i u (Some opening) = unless-none _ _ _ (Decides-reaches u opening)

-- a head has no fault exactly where it fits
pub head-none : (h : Head) → (head_fault_of h ≡ None) ↔ HeadFits h
unfolding head_fault_of
head-none h =
    like _ _ _
    (or_else-none _ _ _ _ (best-none h.instance h.best) (worse-none h.instance (upper_cost h.best) (opening_cost h.instance)))
    (λ both. record { best = both.0; opening = both.1 })
    (λ (f : HeadFits h). (f.best, f.opening))

-- ---- the last line
word-Decides : (h : Head) (t : Tally) (w : Word) → Decides (word_counts h t w) (WordCounts h t w)
word-Decides h t Solved = Decides-eqb h.open_count 0
word-Decides h t PoolFull =
    Decides-like _ (λ k. (k.0, k.1.0, k.1.1.0, k.1.1.1)) (λ k. (k.0, (k.1, (k.2, k.3))))
    (Decides-and _ _ (Decides-leb 1 h.open_count)
    (Decides-and _ _ (Decides-leb h.open_count h.pool) (Decides-and _ _ (Decides-ltb h.pool (h.open_count + 3)) (Decides-leb h.open_count t.leaves))))
word-Decides h t Budget = Decides-and _ _ (Decides-eqb h.leases h.budget) (Decides-eqb h.open_count 0)
word-Decides h t Floor = Decides-eqb h.open_count 0
word-Decides h t Empty = Decides-eqb h.open_count 0

counts-Decides : (h : Head) (t : Tally) → Decides (counts_fit h t) (CountsFit h t)
counts-Decides h t =
    Decides-like _ (λ k. record { at_most_budget = k.0; at_most_two_each = k.1.0; at_least_splits = k.1.1.0; word = k.1.1.1 })
    (λ (f : CountsFit h t). (f.at_most_budget, (f.at_most_two_each, (f.at_least_splits, f.word))))
    (Decides-and _ _ (Decides-leb h.leases h.budget)
    (Decides-and _ _ (Decides-leb h.leases (2 * t.nodes)) (Decides-and _ _ (Decides-leb t.splits h.leases) (word-Decides h t h.word))))

-- the last line has no fault exactly where it fits
pub end-none : (h : Head) (t : Tally) (line : ℕ) → (end_fault_of h t line ≡ None) ↔ EndFits h t
unfolding end_fault_of
end-none h t line =
    like _ _ _
    (or_else-none _ _ _ _ (unless-none _ _ _ (Decides-same h.bound t.least))
    (or_else-none _ _ _ _ (unless-none _ _ (has_word h.word t ≡ true) (Decides-true _)) (unless-none _ _ _ (counts-Decides h t))))
    (λ k. record { bound = k.0; word = k.1.0; counts = k.1.1 })
    (λ (f : EndFits h t). (f.bound, (f.word, f.counts)))

-- ---- a mark of a split square
seen-Decides : (i : Instance) (gap : ℤ) (u : Option ℤ) (s : Square) (seen : Option ℤ) → Decides (not (is_uncalled i gap u s seen)) ((0 < s.level) × SeenFits i gap u s seen)
seen-Decides i gap u s None =
    Decides-nor _ _ _ _ (Decides-above s.level) (Decides-nor _ _ _ _ (Decides-none (opening_cost i)) (Decides-none (centre_cost i s)))
seen-Decides i gap u s (Some v) =
    Decides-like _ (λ k. (k.0, (k.1.0, k.1.1.1.0, k.1.1.0, k.1.1.1.1))) (λ k. (k.0, (k.1.0, (k.1.2, (k.1.1, k.1.3)))))
    (Decides-nor _ _ _ _ (Decides-above s.level)
    (Decides-nor _ _ _ _ (Decides-twice _ _ (Decides-reaches u v))
    (Decides-nor _ _ _ _ (Decides-not_below (opening_cost i) v)
    (Decides-nor _ _ _ _ (Decides-more v (fine_of i s +ℤ gap)) (Decides-not_below (centre_cost i s) v)))))

split-none : (i : Instance) (gap : ℤ) (u : Option ℤ) (s : Square) (seen : Option ℤ) (line : ℕ) → (fault_of_mark i gap u s (Split seen) line ≡ None) ↔ IsCalledFor i gap u s seen
split-none i gap u s seen line =
    like _ _ _
    (or_else-none _ _ _ _ (unless-none _ _ _ (Decides-false (is_excluded i s))) (unless-none _ _ _ (seen-Decides i gap u s seen)))
    (λ k. record { level = k.1.0; open_square = k.0; seen = k.1.1 })
    (λ (f : IsCalledFor i gap u s seen). (f.open_square, (f.level, f.seen)))

-- ---- the finished mark of a leaf
-- the finished mark isn't that of a split square, and has no fault
bound_clean : (i : Instance) (gap : ℤ) (u : Option ℤ) (s : Square) (m : Mark) (line : ℕ) → is_excluded i s ≡ false → has_letter gap u s (fine_of i s) m ≡ true → bound_fault i gap u s (fine_of i s) m line ≡ None
bound_clean i gap u s m line h letter =
    (or_else-none _ _ _ _ (unless-none _ _ _ (Decides-false (is_excluded i s)))
    (or_else-none _ _ _ _ (unless-none _ _ _ (Decides-int_eq (fine_of i s) (fine_of i s))) (unless-none _ _ _ (Decides-true (has_letter gap u s (fine_of i s) m))))).1
    (h, (refl, letter))

-- no split, and without a fault
abbrev pub IsClean : Instance → ℤ → Option ℤ → Square → ℕ → Mark → Type 0
IsClean i gap u s line m = (is_split m ≡ false) × (fault_of_mark i gap u s m line ≡ None)

-- the finished mark of a leaf is clean
pub leaf_clean : (i : Instance) (gap : ℤ) (u : Option ℤ) (s : Square) (line : ℕ) → IsClean i gap u s line (leaf_mark i gap u s)
leaf_clean i gap u s line = by_tests (cases_Bool (is_excluded i s)) (cases_Bool (reaches u (fine_of i s +ℤ gap))) (cases_Bool (s.level == 0))
  where
    by_tests : ((is_excluded i s ≡ true) ⊎ (is_excluded i s ≡ false)) → ((reaches u (fine_of i s +ℤ gap) ≡ true) ⊎ (reaches u (fine_of i s +ℤ gap) ≡ false)) → (((s.level == 0) ≡ true) ⊎ ((s.level == 0) ≡ false)) → IsClean i gap u s line (leaf_mark i gap u s)
    by_tests (inl shut) reach level = subst (IsClean i gap u s line) (sym (shut_leaf i gap u s shut)) (refl, (unless-none _ _ _ (Decides-true (is_excluded i s))).1 shut)
    by_tests (inr open_) (inl reach) level =
        subst (IsClean i gap u s line) (sym (bounded_leaf i gap u s open_ reach)) (refl, bound_clean i gap u s (Bounded (fine_of i s)) line open_ reach)
    by_tests (inr open_) (inr short) (inl zero_level) =
        subst (IsClean i gap u s line) (sym (floor_leaf i gap u s open_ short zero_level)) (refl, bound_clean i gap u s (FloorMark (fine_of i s)) line open_ (rw (short, zero_level) refl))
    by_tests (inr open_) (inr short) (inr above) =
        subst (IsClean i gap u s line) (sym (left_leaf i gap u s open_ short above)) (refl, bound_clean i gap u s (Left (fine_of i s)) line open_ (rw (short, above) refl))

-- ---- the mark of a leaf
bound-parts : (i : Instance) (gap : ℤ) (u : Option ℤ) (s : Square) (b : ℤ) (m : Mark) (line : ℕ) → bound_fault i gap u s b m line ≡ None → (is_excluded i s ≡ false) × ((b ≡ fine_of i s) × (has_letter gap u s b m ≡ true))
bound-parts i gap u s b m line =
    (or_else-none _ _ _ _ (unless-none _ _ _ (Decides-false (is_excluded i s)))
    (or_else-none _ _ _ _ (unless-none _ _ _ (Decides-int_eq b (fine_of i s))) (unless-none _ _ _ (Decides-true (has_letter gap u s b m))))).0

leaf_is : (i : Instance) (gap : ℤ) (u : Option ℤ) (s : Square) (m : Mark) (line : ℕ) → is_split m ≡ false → fault_of_mark i gap u s m line ≡ None → m ≡ leaf_mark i gap u s
leaf_is i gap u s (Split seen) line leaf none = absurd (true≢false leaf)
leaf_is i gap u s Shut line leaf none = sym (shut_leaf i gap u s ((unless-none _ _ _ (Decides-true (is_excluded i s))).0 none))
leaf_is i gap u s (Bounded b) line leaf none =
    let k = bound-parts i gap u s b (Bounded b) line none in
    let e : b ≡ fine_of i s = k.1.0 in
    ap Bounded e ∙ sym (bounded_leaf i gap u s k.0 (subst (λ z. reaches u (z +ℤ gap) ≡ true) e k.1.1))
leaf_is i gap u s (FloorMark b) line leaf none =
    let k = bound-parts i gap u s b (FloorMark b) line none in
    let e : b ≡ fine_of i s = k.1.0 in
    let letter = and_parts _ _ k.1.1 in
    ap FloorMark e ∙ sym (floor_leaf i gap u s k.0 (subst (λ z. reaches u (z +ℤ gap) ≡ false) e (not-true _ letter.0)) letter.1)
leaf_is i gap u s (Left b) line leaf none =
    let k = bound-parts i gap u s b (Left b) line none in
    let e : b ≡ fine_of i s = k.1.0 in
    let letter = and_parts _ _ k.1.1 in
    ap Left e ∙ sym (left_leaf i gap u s k.0 (subst (λ z. reaches u (z +ℤ gap) ≡ false) e (not-true _ letter.0)) (not-true _ letter.1))

-- the square of a mark
abbrev pub marked_square : Square → Mark → TreeSquare
marked_square s m = record { square = s; is_split = is_split m }

leaf-none : (h : Head) (s : Square) (m : Mark) (line : ℕ) → is_split m ≡ false → (fault_of_mark h.instance h.gap (upper_cost h.best) s m line ≡ None) ↔ (m ≡ leaf_mark h.instance h.gap (upper_cost h.best) s)
leaf-none h s m line leaf =
    let i = h.instance in
    let u = upper_cost h.best in
    (leaf_is i h.gap u s m line leaf, λ e. subst (λ (k : Mark). fault_of_mark i h.gap u s k line ≡ None) (sym e) (leaf_clean i h.gap u s line).1)

-- a mark has no fault exactly where it fits
pub mark-none : (h : Head) (s : Square) (m : Mark) (line : ℕ) → (mark_fault_of h s m line ≡ None) ↔ MarkFits h.instance h.gap (upper_cost h.best) (marked_square s m) m
unfolding mark_fault_of
mark-none h s (Split seen) line = split-none h.instance h.gap (upper_cost h.best) s seen line
mark-none h s Shut line = leaf-none h s Shut line refl
mark-none h s (Bounded b) line = leaf-none h s (Bounded b) line refl
mark-none h s (FloorMark b) line = leaf-none h s (FloorMark b) line refl
mark-none h s (Left b) line = leaf-none h s (Left b) line refl

-- ---- a split square's level is above 0
-- a split that fits has a level above 0
pub fits-level : (i : Instance) (gap : ℤ) (u : Option ℤ) (s : Square) (m : Mark) → MarkFits i gap u (marked_square s m) m → OnTrue (is_split m) (0 < s.level)
fits-level i gap u s (Split seen) fits = fits.level
fits-level i gap u s Shut fits = tt
fits-level i gap u s (Bounded b) fits = tt
fits-level i gap u s (FloorMark b) fits = tt
fits-level i gap u s (Left b) fits = tt

-- past a mark without a fault the walk can go on
pub can_step : (h : Head) (squares : List Square) (s : Square) (m : Mark) (line : ℕ) → slice_get squares 0 ≡ Some s → mark_fault_of h s m line ≡ None → CanStep squares (is_split m)
can_step h [] s m line first none = absurd (cc)
can_step h (q ∷ squares) s m line first none =
    let e : s ≡ q = cc in
    subst (λ (z : Square). OnTrue (is_split m) (0 < z.level)) e (fits-level h.instance h.gap (upper_cost h.best) s m ((mark-none h s m line).0 none))
