-- A valid answer claims no more than holds: its bound is at most the cost of every permitted point, and its word is `solved`
-- exactly where the upper cost is within the gap of the bound. The proof goes once along the marks.
use Rattle.std.proofs.Common.{◌≡◌, ℕ, ◌+◌, ◌<◌, ◌==◌, ℤ, ◌+ℤ◌, ◌≤ℤ◌, Bool, true, false, cond, List, [], ◌∷◌, Option, None, Some, refl, sym, ap, ◌∙◌, subst, ◌⊎◌, inl, inr, arith}
use Rattle.std.proofs.lemmas.Bool.{cases_Bool, cond-true, cond-false, true≢false, false≢true, eqb-true, false_from_ne_true}
use Rattle.std.proofs.lemmas.Int.{clamps}
use Rattle.std.specs.Prelude.{⊤, IsTrue, MatchOption, int_le, is_some}
use Rattle.std.specs.Int.{int_min}
use borrow.Author.Differences.{ints}
use Rattle.siting_definitions.specs.declared.Mark.{Mark}
use Rattle.siting_definitions.specs.declared.Mark.TheVariants.{Split, Shut, Bounded, Floor as FloorMark, Left}
use Rattle.siting_definitions.specs.declared.Word.{Word}
use Rattle.siting_definitions.specs.declared.Word.TheVariants.{Solved, PoolFull, Budget, Floor, Empty}
use Rattle.siting_definitions.specs.Point.{Pt, Point, point_of}
use Rattle.siting_definitions.specs.Instance.{Instance, IsInstance}
use Rattle.siting_definitions.specs.Permitted.{permits}
use Rattle.siting_definitions.specs.Cost.{CostAtLeast, CostAtMost}
use Rattle.siting_definitions.specs.Square.{Square, holds}
use Rattle.siting_definitions.specs.Bounds.{fine_of, lower_of, upper_of}
use Rattle.siting_definitions.specs.Excluded.{is_excluded}
use Rattle.siting_definitions.specs.Sites.{root_of}
use Rattle.siting_definitions.specs.Tree.{TreeSquare, preorder}
use Rattle.siting_definitions.specs.Marks.{IsNoneOrAtLeast, reaches, leaf_mark, SplitFits, MarkFits, MarksFit, lesser, bound_of, least_of, is_open, is_floor, Tally, tally_of}
use Rattle.siting_definitions.specs.Answer.{Best, Answer, upper_cost, is_solved, has_word, IsPriced, IsValid}
use Rattle.siting_definitions.specs.Claims.{IsBound, IsNowhere, IsEnclosed, IsWithinGap, Claims}
use Rattle.siting_definitions.proofs.Integers.{le-int_le, int_le-true, int_le-false, le_refl_ℤ}
use Rattle.siting_definitions.proofs.CostLemmas.{CostAtLeast-less}
use Rattle.siting_definitions.proofs.MarkLemmas.{shut_leaf, bounded_leaf, floor_leaf, left_leaf, open_bound, split_bound}
use Rattle.dyadic_square.proofs.Bag.{total, once, count_by-total}
use Rattle.dyadic_square.proofs.Trees.{held, total-held}
use Rattle.dyadic_square.proofs.Tiling.{holds_closed_from_holds}
use Rattle.site_model.proofs.Rooted.{root_holds}
use Rattle.objectives.proofs.BoundLemmas.{fine_of-bounds, lower_of-bounds, upper_of-bounds}
use Rattle.exclusion.proofs.ExcludedLemmas.{excluded_sound}

-- a number is there, and it is at most the cost of p
abbrev pub IsReached : Instance → Point → Option ℤ → Type 0
IsReached i p None = ⊥
IsReached i p (Some b) = CostAtLeast i p b

pub reached_left : (i : Instance) (p : Point) (b : ℤ) (o : Option ℤ) → CostAtLeast i p b → IsReached i p (lesser (Some b) o)
reached_left i p b None h = h
reached_left i p b (Some c) h = CostAtLeast-less i p b (int_min b c) (omega (arith, ints, clamps)) h

pub reached_right : (i : Instance) (p : Point) (a o : Option ℤ) → IsReached i p o → IsReached i p (lesser a o)
reached_right i p None o h = h
reached_right i p (Some a) None h = absurd h
reached_right i p (Some a) (Some c) h = CostAtLeast-less i p c (int_min a c) (omega (arith, ints, clamps)) h

-- ---- the least bound is at most the cost of a point that a leaf holds
-- Of the point p: a square that holds it isn't excluded, and its fine bound is at most the cost of p.
pub record IsBounded (i : Instance) (p : Point) : Type 0 where
  pub open_square : (s : Square) → holds s p ≡ true → is_excluded i s ≡ false
  pub fine : (s : Square) → holds s p ≡ true → CostAtLeast i p (fine_of i s)

leaf_reached : (i : Instance) (p : Point) (gap : ℤ) (u : Option ℤ) (s : Square) (m : Mark) (o : Option ℤ) → IsBounded i p → m ≡ leaf_mark i gap u s → holds s p ≡ true → IsReached i p (lesser (bound_of m) o)
leaf_reached i p gap u s m o h e held =
    let b : bound_of m ≡ Some (fine_of i s) = ap bound_of e ∙ open_bound i gap u s (h.open_square s held) in
    subst (λ (a : Option ℤ). IsReached i p (lesser a o)) (sym b) (reached_left i p (fine_of i s) o (h.fine s held))

-- what a mark of a split square, and one of a leaf, fits
pub fits_split : (b : Bool) (A B : Type 0) → b ≡ true → cond b A B → A
fits_split true A B e h = h
fits_split false A B e h = absurd (false≢true e)

pub fits_leaf : (b : Bool) (A B : Type 0) → b ≡ false → cond b A B → B
fits_leaf true A B e h = absurd (true≢false e)
fits_leaf false A B e h = h

-- one square more: its mark's bound, or a later one, is at most the cost of a point that is held
mark_reached : (i : Instance) (p : Point) (gap : ℤ) (u : Option ℤ) (t : TreeSquare) (m : Mark) (o : Option ℤ) (more : ℕ) → IsBounded i p → MarkFits i gap u t m → 0 < held p t + more → (0 < more → IsReached i p o) → ((t.is_split ≡ true) ⊎ (t.is_split ≡ false)) → ((holds t.square p ≡ true) ⊎ (holds t.square p ≡ false)) → IsReached i p (lesser (bound_of m) o)
mark_reached i p gap u t m o more h fits some rest (inl split) holding =
    let e : held p t ≡ 0 = cond-true _ _ _ split in reached_right i p (bound_of m) o (rest (omega (arith, e)))
mark_reached i p gap u t m o more h fits some rest (inr leaf) (inl here) =
    let e : m ≡ leaf_mark i gap u t.square = fits_leaf t.is_split _ _ leaf fits in
    leaf_reached i p gap u t.square m o h e here
mark_reached i p gap u t m o more h fits some rest (inr leaf) (inr away) =
    let e : held p t ≡ 0 = cond-false _ _ _ leaf ∙ cond-false _ _ _ away in reached_right i p (bound_of m) o (rest (omega (arith, e)))

-- the least bound is at most the cost of each point that a leaf holds
reached : (i : Instance) (p : Point) (gap : ℤ) (u : Option ℤ) (ts : List TreeSquare) (ms : List Mark) → IsBounded i p → MarksFit i gap u ts ms → 0 < total (held p) ts → IsReached i p (least_of ms)
reached i p gap u [] [] h fits some = absurd (omega arith)
reached i p gap u [] (m ∷ ms) h fits some = absurd fits
reached i p gap u (t ∷ ts) [] h fits some = absurd fits
reached i p gap u (t ∷ ts) (m ∷ ms) h fits some =
    mark_reached i p gap u t m (least_of ms) (total (held p) ts) h fits.0 some (reached i p gap u ts ms h fits.1) (cases_Bool t.is_split) (cases_Bool (holds t.square p))

-- ---- the word
reaches_more : (u : Option ℤ) (b c : ℤ) → b ≤ℤ c → reaches u b ≡ true → reaches u c ≡ true
reaches_more None b c h said = absurd (false≢true said)
reaches_more (Some n) b c h said = le-int_le n c (let e = int_le-true n b said in omega (arith, ints, e))

-- none, or a number that reaches with the gap
abbrev AllReach : ℤ → Option ℤ → Option ℤ → Type 0
AllReach gap u None = ⊤
AllReach gap u (Some b) = reaches u (b +ℤ gap) ≡ true

-- what both bounds reach their lesser reaches
lesser_reach : (gap : ℤ) (u a o : Option ℤ) → AllReach gap u a → AllReach gap u o → AllReach gap u (lesser a o)
lesser_reach gap u None o h k = k
lesser_reach gap u (Some a) None h k = h
lesser_reach gap u (Some a) (Some b) h k = least_reach (cases_Bool (int_le a b))
  where
    least_reach : ((int_le a b ≡ true) ⊎ (int_le a b ≡ false)) → reaches u (int_min a b +ℤ gap) ≡ true
    least_reach (inl le) = reaches_more u (a +ℤ gap) (int_min a b +ℤ gap) (let e = int_le-true a b le in omega (arith, ints, clamps, e)) h
    least_reach (inr more) = reaches_more u (b +ℤ gap) (int_min a b +ℤ gap) (let e = int_le-false a b more in omega (arith, ints, clamps, e)) k

-- a mark that isn't left open, neither above level 0 nor at it
settled : Mark → ℕ
settled m = once (is_open m) + once (is_floor m)

-- the bound of a settled leaf reaches the gap
leaf_reach : (i : Instance) (gap : ℤ) (u : Option ℤ) (s : Square) → settled (leaf_mark i gap u s) ≡ 0 → AllReach gap u (bound_of (leaf_mark i gap u s))
unfolding settled
leaf_reach i gap u s none = by_excluded (cases_Bool (is_excluded i s)) (cases_Bool (reaches u (fine_of i s +ℤ gap))) (cases_Bool (s.level == 0))
  where
    by_excluded : ((is_excluded i s ≡ true) ⊎ (is_excluded i s ≡ false)) → ((reaches u (fine_of i s +ℤ gap) ≡ true) ⊎ (reaches u (fine_of i s +ℤ gap) ≡ false)) → (((s.level == 0) ≡ true) ⊎ ((s.level == 0) ≡ false)) → AllReach gap u (bound_of (leaf_mark i gap u s))
    by_excluded (inl shut) reach level = rw (shut_leaf i gap u s shut) tt
    by_excluded (inr open_) (inl reach) level = rw (bounded_leaf i gap u s open_ reach) reach
    by_excluded (inr open_) (inr short) (inl zero_level) = absurd (let e = rw (floor_leaf i gap u s open_ short zero_level) at none in omega (arith, e))
    by_excluded (inr open_) (inr short) (inr above) = absurd (let e = rw (left_leaf i gap u s open_ short above) at none in omega (arith, e))

-- where the least bound reaches the gap, each leaf is settled
leaf_settled : (i : Instance) (gap c : ℤ) (u : Option ℤ) (s : Square) → reaches u (c +ℤ gap) ≡ true → IsNoneOrAtLeast (bound_of (leaf_mark i gap u s)) c → settled (leaf_mark i gap u s) ≡ 0
unfolding settled
leaf_settled i gap c u s reach least = by_excluded (cases_Bool (is_excluded i s))
  where
    by_excluded : ((is_excluded i s ≡ true) ⊎ (is_excluded i s ≡ false)) → settled (leaf_mark i gap u s) ≡ 0
    by_excluded (inl shut) = rw (shut_leaf i gap u s shut) refl
    by_excluded (inr open_) =
        let le : c ≤ℤ fine_of i s = rw (open_bound i gap u s open_) at least in
        rw (bounded_leaf i gap u s open_ (reaches_more u (c +ℤ gap) (fine_of i s +ℤ gap) (omega (arith, ints, le)) reach)) refl

-- a split square counts as settled
split_settled : (i : Instance) (gap : ℤ) (u : Option ℤ) (s : Square) (m : Mark) → SplitFits i gap u s m → settled m ≡ 0
unfolding settled
split_settled i gap u s (Split v) h = refl
split_settled i gap u s Shut h = absurd h
split_settled i gap u s (Bounded b) h = absurd h
split_settled i gap u s (FloorMark b) h = absurd h
split_settled i gap u s (Left b) h = absurd h

-- the bound of a square that is settled reaches the gap
mark_reach : (i : Instance) (gap : ℤ) (u : Option ℤ) (t : TreeSquare) (m : Mark) → MarkFits i gap u t m → settled m ≡ 0 → ((t.is_split ≡ true) ⊎ (t.is_split ≡ false)) → AllReach gap u (bound_of m)
mark_reach i gap u t m fits none (inl split) =
    let f : SplitFits i gap u t.square m = fits_split t.is_split _ _ split fits in
    subst (AllReach gap u) (sym (split_bound i gap u t.square m f)) tt
mark_reach i gap u t m fits none (inr leaf) =
    let e : m ≡ leaf_mark i gap u t.square = fits_leaf t.is_split _ _ leaf fits in
    subst (λ (k : Mark). AllReach gap u (bound_of k)) (sym e) (leaf_reach i gap u t.square (ap settled (sym e) ∙ none))

-- where the least bound reaches the gap, each square is settled
mark_settled : (i : Instance) (gap c : ℤ) (u : Option ℤ) (t : TreeSquare) (m : Mark) → MarkFits i gap u t m → reaches u (c +ℤ gap) ≡ true → IsNoneOrAtLeast (bound_of m) c → ((t.is_split ≡ true) ⊎ (t.is_split ≡ false)) → settled m ≡ 0
mark_settled i gap c u t m fits reach least (inl split) =
    split_settled i gap u t.square m (fits_split t.is_split _ _ split fits)
mark_settled i gap c u t m fits reach least (inr leaf) =
    let e : m ≡ leaf_mark i gap u t.square = fits_leaf t.is_split _ _ leaf fits in
    ap settled e ∙ leaf_settled i gap c u t.square reach (subst (λ (k : Mark). IsNoneOrAtLeast (bound_of k) c) e least)

-- where all squares are settled, the least bound reaches the gap
all_reach : (i : Instance) (gap : ℤ) (u : Option ℤ) (ts : List TreeSquare) (ms : List Mark) → MarksFit i gap u ts ms → total settled ms ≡ 0 → AllReach gap u (least_of ms)
all_reach i gap u [] [] fits none = tt
all_reach i gap u [] (m ∷ ms) fits none = absurd fits
all_reach i gap u (t ∷ ts) [] fits none = absurd fits
all_reach i gap u (t ∷ ts) (m ∷ ms) fits none =
    lesser_reach gap u (bound_of m) (least_of ms) (mark_reach i gap u t m fits.0 (omega arith) (cases_Bool t.is_split))
    (all_reach i gap u ts ms fits.1 (omega arith))

least_parts : (a o : Option ℤ) (c : ℤ) → IsNoneOrAtLeast (lesser a o) c → IsNoneOrAtLeast a c × IsNoneOrAtLeast o c
least_parts None o c h = (tt, h)
least_parts (Some a) None c h = (h, tt)
least_parts (Some a) (Some b) c h = (omega (arith, ints, clamps), omega (arith, ints, clamps))

-- and where it does, all are
all_settled : (i : Instance) (gap c : ℤ) (u : Option ℤ) (ts : List TreeSquare) (ms : List Mark) → MarksFit i gap u ts ms → reaches u (c +ℤ gap) ≡ true → IsNoneOrAtLeast (least_of ms) c → total settled ms ≡ 0
all_settled i gap c u [] [] fits reach least = refl
all_settled i gap c u [] (m ∷ ms) fits reach least = absurd fits
all_settled i gap c u (t ∷ ts) [] fits reach least = absurd fits
all_settled i gap c u (t ∷ ts) (m ∷ ms) fits reach least =
    let parts = least_parts (bound_of m) (least_of ms) c least in
    omega (arith, mark_settled i gap c u t m fits.0 reach parts.0 (cases_Bool t.is_split), all_settled i gap c u ts ms fits.1 reach parts.1)

-- the tally counts what isn't settled
unsettled-tally : (ms : List Mark) → total settled ms ≡ (tally_of ms).open_leaves + (tally_of ms).floor_leaves
unfolding settled tally_of
unsettled-tally ms = rw (count_by-total is_open ms, count_by-total is_floor ms) (both ms)
  where
    both : (ms : List Mark) → total settled ms ≡ total (λ m. once (is_open m)) ms + total (λ m. once (is_floor m)) ms
    both [] = refl
    both (m ∷ ms) = omega (arith, both ms)

-- the word is `solved` only where there is a bound, and no leaf is open or of level 0
solved_counts : (word : Word) (t : Tally) → has_word word t ≡ true → IsTrue (is_solved word) → (is_some t.least ≡ true) × (t.open_leaves + t.floor_leaves ≡ 0)
solved_counts Solved t h said = by_tests (cases_Bool (is_some t.least)) (cases_Bool (t.open_leaves + t.floor_leaves == 0)) (cases_Bool (t.open_leaves == 0))
  where
    by_tests : ((is_some t.least ≡ true) ⊎ (is_some t.least ≡ false)) → (((t.open_leaves + t.floor_leaves == 0) ≡ true) ⊎ ((t.open_leaves + t.floor_leaves == 0) ≡ false)) → (((t.open_leaves == 0) ≡ true) ⊎ ((t.open_leaves == 0) ≡ false)) → (is_some t.least ≡ true) × (t.open_leaves + t.floor_leaves ≡ 0)
    by_tests (inl some) (inl none) third = (some, eqb-true _ _ none)
    by_tests (inl some) (inr more) (inl e) = absurd (false≢true (rw (some, more, e) at h))
    by_tests (inl some) (inr more) (inr e) = absurd (false≢true (rw (some, more, e) at h))
    by_tests (inr nothing) second third = absurd (false≢true (rw nothing at h))
solved_counts PoolFull t h said = absurd (false≢true said)
solved_counts Budget t h said = absurd (false≢true said)
solved_counts Floor t h said = absurd (false≢true said)
solved_counts Empty t h said = absurd (false≢true said)

solved_called : (word : Word) (t : Tally) → has_word word t ≡ true → is_some t.least ≡ true → t.open_leaves + t.floor_leaves ≡ 0 → IsTrue (is_solved word)
solved_called word t h some none = rw (some, none) at h

within_gap : (gap : ℤ) (best : Option Best) (o : Option ℤ) → is_some o ≡ true → AllReach gap (upper_cost best) o → IsWithinGap gap best o
within_gap gap best None some reach = absurd (false≢true some)
within_gap gap None (Some b) some reach = absurd (false≢true reach)
within_gap gap (Some best) (Some b) some reach = let e = int_le-true best.upper (b +ℤ gap) reach in omega (arith, ints, e)

reach_within : (gap : ℤ) (best : Option Best) (o : Option ℤ) → IsWithinGap gap best o → (b : ℤ) × (o ≡ Some b) × (reaches (upper_cost best) (b +ℤ gap) ≡ true)
reach_within gap None o h = absurd h
reach_within gap (Some best) None h = absurd h
reach_within gap (Some best) (Some b) h = (b, refl, le-int_le best.upper (b +ℤ gap) (omega (arith, ints)))

-- ---- all claims
-- What the claims rest on, of an instance: where its permitted points lie, and that the two costs of a site enclose its cost.
pub record IsUnderstood (i : Instance) : Type 0 where
  pub root : (p : Point) → IsTrue (permits i p) → holds (root_of i) p ≡ true
  pub bounded : (p : Point) → IsTrue (permits i p) → IsBounded i p
  pub lower : (z : Pt) → CostAtLeast i (point_of z) (lower_of i z)
  pub upper : (z : Pt) → CostAtMost i (point_of z) (upper_of i z)

bound_claim : (i : Instance) (o : Option ℤ) → ((p : Point) → IsTrue (permits i p) → IsReached i p o) → MatchOption o (IsNowhere i) (IsBound i)
bound_claim i None h = h
bound_claim i (Some b) h = h

-- a site with its computed costs has its cost between them
site_claim : (i : Instance) (best : Option Best) → IsUnderstood i → MatchOption best ⊤ (IsPriced i) → MatchOption best ⊤ (IsEnclosed i)
site_claim i None h priced = tt
site_claim i (Some b) h priced = record {
  permitted = priced.permitted;
  lower = rw priced.lower (h.lower b.site);
  upper = rw priced.upper (h.upper b.site);
}

-- each permitted point lies in squares that aren't excluded, with fine bounds that its cost reaches
pub understood : (i : Instance) → IsInstance i → IsUnderstood i
understood i lawful = record {
  root = λ p permitted. root_holds i p lawful permitted;
  bounded = bounded;
  lower = lower_of-bounds i;
  upper = upper_of-bounds i;
}
  where
    bounded : (p : Point) → IsTrue (permits i p) → IsBounded i p
    bounded p permitted = record {
      open_square = λ s held. false_from_ne_true (is_excluded i s) (λ excluded. excluded_sound i s p lawful excluded (holds_closed_from_holds s p held) permitted);
      fine = λ s held. fine_of-bounds i s p (holds_closed_from_holds s p held);
    }

-- a valid answer claims no more than holds
pub claims : (a : Answer) → IsValid a → Claims a.head
unfolding tally_of
claims a valid =
    let i = a.head.instance in
    let h = understood i valid.ranges.instance in
    let gap = a.head.gap in
    let u = upper_cost a.head.best in
    let t = valid.tree.0 in
    let fits = valid.tree.1.1 in
    let counts : total settled a.marks ≡ (tally_of a.marks).open_leaves + (tally_of a.marks).floor_leaves = unsettled-tally a.marks in
    let found : (p : Point) → IsTrue (permits i p) → IsReached i p (least_of a.marks) =
    λ p said.
    let e : total (held p) (preorder t (root_of i)) ≡ 1 = total-held t (root_of i) p valid.tree.1.0 ∙ ap once (h.root p said) in
    reached i p gap u (preorder t (root_of i)) a.marks (h.bounded p said) fits (omega (arith, e)) in
    record {
      site = site_claim i a.head.best h valid.head.best;
      bound = subst (λ (o : Option ℤ). MatchOption o (IsNowhere i) (IsBound i)) (sym valid.end_fits.bound) (bound_claim i (least_of a.marks) found);
      solved = (
        λ said.
            let c = solved_counts a.head.word (tally_of a.marks) valid.end_fits.word said in
            subst (IsWithinGap gap a.head.best) (sym valid.end_fits.bound)
            (within_gap gap a.head.best (least_of a.marks) c.0 (all_reach i gap u (preorder t (root_of i)) a.marks fits (omega (arith, counts, c.1)))),
        λ within.
            let r = reach_within gap a.head.best (least_of a.marks) (subst (IsWithinGap gap a.head.best) valid.end_fits.bound within) in
            solved_called a.head.word (tally_of a.marks) valid.end_fits.word (ap is_some r.1)
            (let none = all_settled i gap r.0 u (preorder t (root_of i)) a.marks fits r.2 (least_from r.0 (least_of a.marks) r.1) in omega (arith, counts, none)),
      );
    }
  where
    least_from : (b : ℤ) (o : Option ℤ) → o ≡ Some b → IsNoneOrAtLeast o b
    least_from b o e = subst (λ (o : Option ℤ). IsNoneOrAtLeast o b) (sym e) (le_refl_ℤ b)
