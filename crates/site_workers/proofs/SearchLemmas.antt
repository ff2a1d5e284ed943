-- The search by one worker: what holds between two leases.
use Rattle.std.proofs.Common.{◌≡◌, ℕ, ◌+◌, ℤ, ◌≤ℤ◌, ◌<ℤ◌, Bool, true, false, cond, [], ◌∷◌, Option, None, Some, length, refl, sym, ap, ◌∙◌, subst, ◌⊎◌, inl, inr, ⊎_elim, arith}
use Rattle.std.specs.Prelude.{⊤, MatchOption, option_map, ◌&&◌, nat_lt, int_lt}
use Rattle.std.proofs.lemmas.Bool.{cases_Bool, cond_both, and_parts, ltb-true}
use Rattle.std.specs.List.{Contains}
use Rattle.std.proofs.lemmas.Int.{clamps}
use Rattle.std.proofs.lemmas.List.{nil_from_length}
use Rattle.std.proofs.lemmas.List.Sorted.{length_permutation, Contains-permutation}
use borrow.Author.Differences.{ints}
use Rattle.siting_definitions.specs.Point.{Pt, point_of}
use Rattle.siting_definitions.specs.Instance.{Instance}
use Rattle.siting_definitions.specs.Square.{Square, IsSquare, centre_of}
use Rattle.siting_definitions.specs.Sites.{has_centre, centre_cost, centre_site_of}
use Rattle.siting_definitions.specs.Bounds.{upper_of}
use Rattle.siting_definitions.specs.Permitted.{permits}
use Rattle.siting_definitions.specs.Marks.{IsAtMost, IsNoneOrAtLeast, lesser}
use Rattle.candidate_sites.proofs.CentreLemmas.{IsSite-centre}
use Rattle.bound_heap.specs.declared.entry.Entry.{Entry}
use Rattle.pool_core.specs.declared.stop.Stop.{Stop}
use Rattle.pool_core.specs.declared.stop.Stop.TheVariants.{PoolFull, Budget}
use Rattle.pool_core.specs.Job.{Job, IsJob, IsOffer, cost_in}
use Rattle.pool_core.specs.Verdict.{finding_of}
use Rattle.pool_core.specs.State.{State, open_count}
use Rattle.pool_core.specs.Machine.{Leases, Halts, Returns, MayReturn, IsSeen, is_kept, first_stop}
use Rattle.pool_core.specs.Sound.{EntryFits, IsSound, IsPoolOf, IsFinished}
use Rattle.pool_core.proofs.SoundSteps.{sound_lease, sound_halt, sound_offer, sound_return}
use Rattle.pool_core.specs.Best.{IsImproved, better_of}
use Rattle.pool_core.specs.Seats.{IsKeptBy, StopsWithin, is_full}
use Rattle.pool_core.proofs.MarksKept.{lease-fits}
use Rattle.site_workers.specs.Search.{SearchEnds, IsBetween, centre_offer}

-- ---- the best site
better-cost : (best offered : Option (Pt × ℤ)) → cost_in (better_of best offered) ≡ lesser (cost_in best) (cost_in offered)
better-cost None None = refl
better-cost (Some b) None = refl
better-cost None (Some o) = refl
better-cost (Some b) (Some o) = ⊎_elim (λ t. rw t (ap Some (omega (arith, ints, clamps, less t)))) (λ f. rw f (ap Some (omega (arith, ints, clamps, more f)))) (cases_Bool (int_lt o.1 b.1))
  where
    less : int_lt o.1 b.1 ≡ true → o.1 <ℤ b.1
    less t = grind (arith, ints)

    more : int_lt o.1 b.1 ≡ false → b.1 ≤ℤ o.1
    more f = grind (arith, ints)

better-offer : (i : Instance) (best offered : Option (Pt × ℤ)) → MatchOption best ⊤ (λ b. IsOffer i b.0 b.1) → MatchOption offered ⊤ (λ b. IsOffer i b.0 b.1) → MatchOption (better_of best offered) ⊤ (λ b. IsOffer i b.0 b.1)
better-offer i best None h k = h
better-offer i None (Some o) h k = k
better-offer i (Some b) (Some o) h k = ⊎_elim (λ t. rw t k) (λ f. rw f h) (cases_Bool (int_lt o.1 b.1))

improved-more : (start best offered : Option (Pt × ℤ)) → IsImproved start best → IsImproved start (better_of best offered)
improved-more start best None h = h
improved-more None None (Some o) h = tt
improved-more (Some s) None (Some o) h = absurd cc
improved-more None (Some b) (Some o) h = ⊎_elim (λ t. rw t tt) (λ f. rw f tt) (cases_Bool (int_lt o.1 b.1))
improved-more (Some s) (Some b) (Some o) h = ⊎_elim (λ t. rw t (inr (below h (less t)))) (λ f. rw f h) (cases_Bool (int_lt o.1 b.1))
  where
    less : int_lt o.1 b.1 ≡ true → o.1 <ℤ b.1
    less t = grind (arith, ints)

    below : ((b ≡ s) ⊎ (b.1 <ℤ s.1)) → o.1 <ℤ b.1 → o.1 <ℤ s.1
    below (inl e) k = subst (λ (z : Pt × ℤ). o.1 <ℤ z.1) e k
    below (inr l) k = omega (arith, ints)

improved-itself : (start : Option (Pt × ℤ)) → IsImproved start start
improved-itself None = refl
improved-itself (Some s) = inl refl

-- ---- what may be seen
seen_itself : (j : Job) (best : Option (Pt × ℤ)) → IsImproved j.start best → IsSeen j (cost_in best) (cost_in best)
seen_itself j None h = h
seen_itself j (Some b) h = (omega (arith, ints), at_most_start j.start h)
  where
    at_most_start : (start : Option (Pt × ℤ)) → IsImproved start (Some b) → IsNoneOrAtLeast (cost_in start) b.1
    at_most_start None h = tt
    at_most_start (Some s) (inl e) = subst (λ (z : Pt × ℤ). b.1 ≤ℤ z.1) e (omega (arith, ints))
    at_most_start (Some s) (inr l) = omega (arith, ints)

pub centre-cost : (i : Instance) (s : Square) → cost_in (centre_offer i s) ≡ centre_cost i s
centre-cost i s = costs (centre_site_of i s)
  where
    costs : (z : Option Pt) → cost_in (option_map (λ (z : Pt). (z, upper_of i z)) z) ≡ option_map (upper_of i) z
    costs None = refl
    costs (Some z) = refl

-- the best site costs no more than one that was offered
better-most : (best offered : Option (Pt × ℤ)) → MatchOption (cost_in offered) ⊤ (IsAtMost (cost_in (better_of best offered)))
better-most best None = tt
better-most None (Some o) = omega (arith, ints)
better-most (Some b) (Some o) = ⊎_elim (λ t. rw t (omega (arith, ints))) (λ f. rw f (most f)) (cases_Bool (int_lt o.1 b.1))
  where
    most : int_lt o.1 b.1 ≡ false → b.1 ≤ℤ o.1
    most f = grind (arith, ints)

-- the best site stays where an offer doesn't cost less
pub better-stays : (best offered : Option (Pt × ℤ)) → MatchOption (cost_in offered) ⊤ (IsAtMost (cost_in best)) → best ≡ better_of best offered
better-stays best None most = refl
better-stays None (Some o) most = absurd most
better-stays (Some b) (Some o) most = ⊎_elim (λ t. absurd (not_less t)) (λ f. rw f refl) (cases_Bool (int_lt o.1 b.1))
  where
    not_less : int_lt o.1 b.1 ≡ true → ⊥
    not_less t = grind (arith, ints)

-- the centre site of a square within the limits may be offered
pub centre-offer : (i : Instance) (s : Square) → IsSquare s → MatchOption (centre_offer i s) ⊤ (λ o. IsOffer i o.0 o.1)
unfolding has_centre
centre-offer i s limits =
    cond_both (nat_lt 0 s.level && permits i (point_of (centre_of s))) (Some (centre_of s)) None
    (λ (z : Option Pt). MatchOption {T = Pt × ℤ} (option_map (λ (z : Pt). (z, upper_of i z)) z) ⊤ (λ o. IsOffer i o.0 o.1))
    (λ here.
    let parts = and_parts (nat_lt 0 s.level) (permits i (point_of (centre_of s))) here in
    record { site = IsSite-centre s (ltb-true 0 s.level parts.0) limits; permitted = parts.1; cost_is = refl })
    (λ not_here. tt)

-- ---- between two leases
-- before the first lease
pub begun : (j : Job) (s : State) → IsJob j → IsPoolOf j s → IsBetween j s s j.start
begun j s job h = record {
  job = h.job;
  leased = h.leased;
  sound = h.sound;
  best_is = job.start;
  improved = improved-itself j.start;
  beginning = refl;
  so_far = [];
  searched = (refl, refl);
  kept = h.sound.consistent.counts.going h.going ∙ sym (ap (λ (stop : Option Stop). cond (is_full stop) 1 0) h.going);
}

-- one lease, of which the search gave back the square
pub record IsTurn (j : Job) (e : Entry) (best best' : Option (Pt × ℤ)) (s s1 s2 : State) : Type 0 where
  pub leases : Leases e s s1
  pub best_is : best' ≡ better_of best (centre_offer j.instance e.square)
  pub offer : MatchOption (centre_offer j.instance e.square) ⊤ (λ o. IsOffer j.instance o.0 o.1)
  pub returns : Returns e (cost_in best') (finding_of j e (cost_in best')) s1 s2

sound_offered : (s : State) (best offered : Option (Pt × ℤ)) → MatchOption offered ⊤ (λ o. IsOffer s.job.instance o.0 o.1) → IsSound (record { state = s; incumbent = cost_in best }) → IsSound (record { state = s; incumbent = cost_in (better_of best offered) })
sound_offered s best None h sound = sound
sound_offered s best (Some o) h sound =
    sound_offer o.0 (record { state = s; incumbent = cost_in best }) (record { state = s; incumbent = cost_in (better_of best (Some o)) }) (o.1, h, refl, better-cost best (Some o)) sound

kept_after : (kept : Bool) (n count count' : ℕ) (stop stop' : Option Stop) → stop ≡ None → count ≡ 0 → count' ≡ count + cond kept 1 0 → stop' ≡ cond kept (first_stop stop (PoolFull n)) stop → count' ≡ cond (is_full stop') 1 0
kept_after true n count count' stop stop' none e e' f = rw (f, none) (omega (arith, e, e'))
kept_after false n count count' stop stop' none e e' f = rw (f, none) (omega (arith, e, e'))

-- what was leased is leased
pub leased_one : (s s1 : State) (e : Entry) → Leases e s s1 → Contains s1.leased e
leased_one s s1 e l = Contains-permutation (e ∷ s.leased) s1.leased e l.leased (0, omega arith, refl)

-- and its bound is right
pub leased_fits : (j : Job) (first s s1 : State) (e : Entry) (best : Option (Pt × ℤ)) → IsBetween j first s best → Leases e s s1 → EntryFits j.instance e
leased_fits j first s s1 e best b l =
    subst (λ (k : Job). EntryFits k.instance e) b.job (lease-fits s.job.instance e s s1 l b.sound.waiting)

turned_from : (first s s1 s2 : State) (e : Entry) (best best' : Option (Pt × ℤ)) → IsBetween s1.job first s best → IsTurn s1.job e best best' s s1 s2 → IsBetween s1.job first s2 best'
turned_from first s s1 s2 e best best' b t =
    let offered = centre_offer s1.job.instance e.square in
    let u = cost_in best in
    let u' = cost_in best' in
    let leased = sound_lease e (record { state = s; incumbent = u }) (record { state = s1; incumbent = u }) (t.leases, refl) b.sound in
    let priced : IsSound (record { state = s1; incumbent = u' }) = subst (λ (z : Option (Pt × ℤ)). IsSound (record { state = s1; incumbent = cost_in z })) (sym t.best_is) (sound_offered s1 best offered t.offer leased) in
    let improved : IsImproved s1.job.start best' = subst (IsImproved s1.job.start) (sym t.best_is) (improved-more s1.job.start best offered b.improved) in
    let most : MatchOption (centre_cost s1.job.instance e.square) ⊤ (IsAtMost u') =
    subst (λ (o : Option ℤ). MatchOption o ⊤ (IsAtMost u')) (centre-cost s1.job.instance e.square)
    (subst (λ (z : Option (Pt × ℤ)). MatchOption (cost_in offered) ⊤ (IsAtMost (cost_in z))) (sym t.best_is) (better-most best offered)) in
    let may : MayReturn e u' (record { state = s1; incumbent = u' }) = record { seen_is = seen_itself s1.job best' improved; centre = λ part. most } in
    let none : s.leased ≡ [] = b.leased in
    let one : length s1.leased ≡ 1 = let p = length_permutation (e ∷ s.leased) s1.leased t.leases.leased in omega (arith, ap length none, p) in
    let rest : length s2.leased ≡ 0 = let p = length_permutation s1.leased (e ∷ s2.leased) t.returns.leased in omega (arith, one, p) in
    record {
      job = t.returns.job;
      leased = nil_from_length s2.leased rest;
      sound = sound_return e u' (record { state = s1; incumbent = u' }) (record { state = s2; incumbent = u' }) (may, t.returns, refl) priced;
      best_is = subst (λ (z : Option (Pt × ℤ)). MatchOption z ⊤ (λ o. IsOffer s1.job.instance o.0 o.1)) (sym t.best_is) (better-offer s1.job.instance best offered b.best_is t.offer);
      improved = improved;
      beginning = t.returns.beginning ∙ t.leases.beginning ∙ b.beginning;
      so_far = e ∷ b.so_far;
      searched = (
        s,
        s1,
        best,
        b.searched,
        t.leases,
        subst (λ (k : Job). best' ≡ better_of best (centre_offer k.instance e.square)) t.leases.job t.best_is,
        subst (λ (k : Job). Returns e u' (finding_of k e u') s1 s2) t.leases.job t.returns,
      );
      kept = kept_after (is_kept s1 (finding_of s1.job e u')) (open_count s1) s1.kept s2.kept s1.stop s2.stop (t.leases.stop ∙ t.leases.going)
          (t.leases.kept ∙ b.kept ∙ ap (λ (stop : Option Stop). cond (is_full stop) 1 0) t.leases.going) t.returns.kept t.returns.stop;
    }

-- after one more lease, judged and given back
pub turned : (j : Job) (first s s1 s2 : State) (e : Entry) (best best' : Option (Pt × ℤ)) → IsBetween j first s best → IsTurn j e best best' s s1 s2 → IsBetween j first s2 best'
turned j first s s1 s2 e best best' b t =
    let same : s1.job ≡ j = t.leases.job ∙ b.job in
    subst (λ (k : Job). IsBetween k first s2 best') same
    (turned_from first s s1 s2 e best best' (subst (λ (k : Job). IsBetween k first s best) (sym same) b) (subst (λ (k : Job). IsTurn k e best best' s s1 s2) (sym same) t))

-- ---- the end
-- the end of a search
pub ends : (j : Job) (first s s' : State) (best : Option (Pt × ℤ)) → IsBetween j first s best → ((s' ≡ s) ⊎ Halts s s') → (s'.stop ≡ None → s'.waiting ≡ []) → SearchEnds first j.start s' best
ends j first s s' best b last ended = record { leased = b.so_far; last = s; searched = b.searched; ends = last; ended = ended }

-- ---- one worker holds one square at most
within_one : (s : State) (stop : Option Stop) → length s.leased ≡ 0 → s.kept ≡ cond (is_full stop) 1 0 → StopsWithin 1 (s.kept + length s.leased) stop
within_one s None none kept = tt
within_one s (Some (PoolFull count)) none kept = omega (arith, none, kept)
within_one s (Some (Budget leases)) none kept = omega (arith, none, kept)

-- a search ends within one seat
pub kept_by_one : (s s' : State) → s.leased ≡ [] → s.kept ≡ cond (is_full s.stop) 1 0 → ((s' ≡ s) ⊎ Halts s s') → IsKeptBy s' 1
kept_by_one s s' none kept (inl same) = subst (λ (t : State). IsKeptBy t 1) (sym same) (within_one s s.stop (ap length none) kept)
kept_by_one s s' none kept (inr halts) =
    let zero : s.kept ≡ 0 = kept ∙ ap (λ (stop : Option Stop). cond (is_full stop) 1 0) halts.going in
    subst (λ (t : State). IsKeptBy t 1) (sym halts.halted) (within_one s (Some (Budget s.leases)) (ap length none) zero)

-- a search that was stopped ended
pub ended_by : (s : State) (stop : Stop) → s.stop ≡ Some stop → s.stop ≡ None → s.waiting ≡ []
ended_by s stop said going = absurd (let no : Some stop ≡ None = sym said ∙ going in cc)

-- a search in which nothing waited ended as it was
pub ended_with : (s s' : State) → s' ≡ s → s.waiting ≡ [] → s'.stop ≡ None → s'.waiting ≡ []
ended_with s s' same none going = ap (λ (t : State). t.waiting) same ∙ none

halted : (j : Job) (first s : State) (stop : Stop) (best : Option (Pt × ℤ)) → IsBetween j first s best → s.stop ≡ Some stop → IsFinished j s best
halted j first s stop best b said = record { job = b.job; leased = b.leased; ended = λ going. absurd (let no : Some stop ≡ None = sym said ∙ going in cc); sound = b.sound; best_is = b.best_is }

-- a stop was there, or it comes at the spent budget
pub stopped : (j : Job) (first s s' : State) (stop : Stop) (best : Option (Pt × ℤ)) → IsBetween j first s best → (s'.stop ≡ Some stop) → ((s' ≡ s) ⊎ Halts s s') → IsFinished j s' best
stopped j first s s' stop best b said (inl same) =
    subst (λ (t : State). IsFinished j t best) (sym same) (halted j first s stop best b (sym (ap (λ (t : State). t.stop) same) ∙ said))
stopped j first s s' stop best b said (inr halts) =
    let after = halts.halted in
    record {
      job = ap (λ (t : State). t.job) after ∙ b.job;
      leased = ap (λ (t : State). t.leased) after ∙ b.leased;
      ended = λ going. absurd (let no : Some stop ≡ None = sym said ∙ going in cc);
      sound = sound_halt (record { state = s; incumbent = cost_in best }) (record { state = s'; incumbent = cost_in best }) (halts, refl) b.sound;
      best_is = b.best_is;
    }
