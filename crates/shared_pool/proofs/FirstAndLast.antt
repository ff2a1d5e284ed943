-- The table as it is made, and as it is closed.
use Rattle.std.proofs.Common.{◌≡◌, ◌≢◌, ℕ, zero, suc, ◌+◌, ◌<◌, ◌≤◌, ◌-◌, ◌^◌, ℤ, pos, ◌<ℤ◌, Bool, true, false, cond, List, [], ◌∷◌, length, All, Option, None, Some, refl, sym, ap, ◌∙◌, subst, arith}
use Rattle.std.specs.Prelude.{⊤, MatchOption, IsPermutation, sum_by, slice_index_or}
use Rattle.std.specs.declared.snapshot.Snapshot.{Snapshot}
use Rattle.std.proofs.lemmas.Bool.{false≢true}
use Rattle.std.proofs.lemmas.List.Sorted.{IsPermutation-refl}
use Rattle.std.proofs.lemmas.List.{nil_from_length}
use mathlib.Core.Option.{some, some-injective, some-ne-none}
use lib.ListN.{get_elem?}
use Rattle.atomic_table.specs.Table.{Final, Seen, opening}
use Rattle.siting_definitions.specs.Point.{Pt}
use Rattle.siting_definitions.specs.Instance.{Instance}
use Rattle.siting_definitions.specs.Marks.{IsAtMost}
use Rattle.siting_definitions.proofs.MarkLemmas.{at_most-refl}
use Rattle.objectives.specs.Limits.{IsCost}
use Rattle.objectives.proofs.SiteSizes.{upper_of-IsCost}
use Rattle.incumbent_word.specs.Word.{number_in}
use Rattle.bound_heap.specs.declared.entry.Entry.{Entry}
use Rattle.pool_core.specs.Job.{Job, IsJob, IsOffer, start_cost, cost_in}
use Rattle.pool_core.specs.State.{State}
use Rattle.pool_core.specs.Sound.{IsSound, IsPoolOf, IsFinished}
use Rattle.shared_pool.specs.declared.deed.Deed.{Deed}
use Rattle.shared_pool.specs.declared.view.View.{View}
use Rattle.shared_pool.specs.declared.view.Role.{Role}
use Rattle.shared_pool.specs.declared.view.Role.TheVariants.{Root, Desk, Spent}
use Rattle.pool_core.specs.Seats.{StopsWithin, IsKeptBy}
use Rattle.shared_pool.specs.Views.{first_view}
use Rattle.shared_pool.specs.Runs.{search, IsEndOf, HasPast}
use Rattle.shared_pool.specs.TableFits.{IsReached, HasView, HasOffered, SeatFits, ViewFits, RootFits, KnowsDeeds, PastFits, TableFits, IsLast, is_desk_role, incumbent_in, turn_word}
use Rattle.shared_pool.specs.Steps.{Seat, IsAtRest}
use Rattle.shared_pool.proofs.Incumbents.{cost-below}
use Rattle.shared_pool.proofs.ViewLists.{has_lease, term-le, sums-le}
use Rattle.shared_pool.proofs.Runs.{all-none, goes_on-itself}
use Rattle.shared_pool.proofs.Moves.{Table, turn_of, desk_count, now_reached, now_sound}
use Rattle.shared_pool.proofs.TurnSteps.{lease-desk, leased-count}

-- ---- the beginning
pub as_own : (j : Job) (s : State) → IsPoolOf j s → IsPoolOf s.job s
as_own j s h = subst (λ (k : Job). IsPoolOf k s) (sym h.job) h

-- the only seat at the beginning
only : (v x : View) (j : ℕ) → HasView (v ∷ []) j x → (j ≡ 0) × (v ≡ x)
only v x zero at = (refl, some-injective v x at)
only v x (suc j) at = absurd (some-ne-none x (sym at))

-- the start is right, with its own number as the incumbent
start-right : (i : Instance) (start : Option (Pt × ℤ)) → MatchOption start ⊤ (λ b. IsOffer i b.0 b.1) → MatchOption start ⊤ (λ b. IsOffer i b.0 b.1 × IsAtMost (cost_in start) b.1)
start-right i None h = tt
start-right i (Some b) h = (h, at_most-refl (Some b.1))

start-offered : (v : View) → MatchOption (cost_in v.best) ⊤ (HasOffered (v ∷ []))
start-offered v = of_cost (cost_in v.best) refl
  where
    of_cost : (c : Option ℤ) → cost_in v.best ≡ c → MatchOption c ⊤ (HasOffered (v ∷ []))
    of_cost None e = tt
    of_cost (Some c) e = (0, v, refl, e)

pub starts : (about : Snapshot State) (word : ℕ) → IsPoolOf about.value.job about.value → number_in word ≡ start_cost about.value.job → TableFits about (opening (word ∷ 0 ∷ []) (about.value ∷ []) (first_view about.value))
starts about word opened is =
    let pool = about.value in
    let v = first_view pool in
    let none_leased : pool.leased ≡ [] = opened.leased in
    record {
      shown = pool;
      words = refl;
      slots = refl;
      turn = refl;
      turns = omega arith;
      in_slot = λ free. refl;
      opened = opened;
      deeds = [];
      run = tt;
      shown_is = ap (search pool) (sym is);
      seated = all-none (λ (d : Deed). (0 < d.seat) × (d.seat < 1));
      job = refl;
      beginning = refl;
      leases = subst (IsPermutation {X = Entry} []) (sym none_leased) (IsPermutation-refl {X = Entry} []);
      views = λ j x at.
          let t = only v x j at in
          subst (λ (y : View). SeatFits pool pool (number_in word) j y y.role) t.1
          (subst (λ (u : Option ℤ). ViewFits pool pool u v × RootFits pool j v) (sym is) (
            record {
              first_is = refl;
              turn = λ has. absurd (false≢true has);
              seen = at_most-refl (start_cost pool.job);
              seen_start = at_most-refl (start_cost pool.job);
              best = start-right pool.job.instance pool.job.start opened.sound.job.job.start;
              ended = λ has. absurd (false≢true has);
            },
            record { seat = t.0; turn = refl; lease = refl; best = at_most-refl (start_cost pool.job) },
          ));
      known = λ j x at.
          let t = only v x j at in
          subst (KnowsDeeds [] j) t.1 (λ role. (sym t.0, goes_on-itself 0 [] [] refl));
      offered = subst (λ (u : Option ℤ). MatchOption u ⊤ (HasOffered (v ∷ []))) (sym is) (start-offered v);
      root = v;
      root_at = refl;
      root_role = refl;
      out = refl;
      seats = omega arith;
      each = refl;
      gone = refl;
      pasts = all-none (PastFits [] (v ∷ []));
      spent = λ j x at is_spent. absurd (first_not_spent (ap (λ (y : View). y.role) (only v x j at).1 ∙ is_spent));
      kept = subst (StopsWithin 0 (pool.kept + length pool.leased)) (sym opened.going) tt;
    }
  where
    first_not_spent : Root ≢ Spent
    first_not_spent same = cc

-- ---- the end
-- what a table and its root desk end with
pub record Ends (about : Snapshot State) (v : View) (pool : State) : Type 0 where
  pub last : IsLast about pool v.best
  pub reached : IsReached about.value (cost_in v.best) pool
  pub end_is : IsEndOf about.value v.pasts pool (cost_in v.best)
  pub seats : length v.pasts ≡ v.seats
  pub offer : MatchOption v.best ⊤ (λ b. IsOffer about.value.job.instance b.0 b.1)
  pub job : pool.job ≡ about.value.job
  pub beginning : pool.beginning ≡ about.value.beginning
  pub leased : pool.leased ≡ []
  pub finished : v.ended ≡ true → IsFinished about.value.job pool v.best
  pub kept : IsKeptBy pool v.seats

-- a seat has the turn only where it is a desk's
turn-desk : (first shown : State) (u : Option ℤ) (j : ℕ) (v : View) → SeatFits first shown u j v v.role → turn_of v ≤ desk_count v
turn-desk first shown u j v h = by_role v.role h
  where
    at_most : (b : Bool) → cond b 1 0 ≤ 1
    at_most true = omega arith
    at_most false = omega arith

    by_role : (r : Role) → SeatFits first shown u j v r → turn_of v ≤ cond (is_desk_role r) 1 0
    by_role Root k = let zero : turn_of v ≡ 0 = ap (λ (b : Bool). cond b 1 0) k.1.turn in omega arith
    by_role Desk k = at_most v.has_turn
    by_role Spent k = let zero : turn_of v ≡ 0 = ap turn_of k in omega arith

-- with no desk out, an offer that stands at some seat stands at the root desk's
offer-root : (first shown : State) (u : Option ℤ) (vs : List View) (v : View) (c : ℤ) → HasView vs 0 v → sum_by desk_count vs ≡ 0 → ((j : ℕ) (x : View) → HasView vs j x → SeatFits first shown u j x x.role) → HasOffered vs c → cost_in v.best ≡ Some c
offer-root first shown u vs v c at nobody fits h = by_role h.1.role refl (fits h.0 h.1 h.2)
  where
    by_role : (r : Role) → h.1.role ≡ r → SeatFits first shown u h.0 h.1 r → cost_in v.best ≡ Some c
    by_role Root is k =
        let same : h.1 ≡ v = some-injective h.1 v (sym h.2 ∙ ap (get_elem? vs) k.1.seat ∙ at) in
        sym (ap (λ (x : View). cost_in x.best) same) ∙ h.3
    by_role Desk is k =
        let one : desk_count h.1 ≡ 1 = ap (λ (r : Role). cond (is_desk_role r) 1 0) is in
        absurd (omega (arith, one, nobody, term-le desk_count vs h.0 h.1 h.2))
    by_role Spent is k =
        let none_there : cost_in h.1.best ≡ None = ap (λ (x : View). cost_in x.best) k in
        let some_there = h.3 in
        absurd (cc)

-- the root desk's best has the incumbent's number
best-number : (i : Instance) (u : Option ℤ) (best : Option (Pt × ℤ)) → MatchOption best ⊤ (λ b. IsOffer i b.0 b.1 × IsAtMost u b.1) → ((c : ℤ) → u ≡ Some c → cost_in best ≡ Some c) → u ≡ cost_in best
best-number i None None h k = refl
best-number i None (Some b) h k = absurd h.1
best-number i (Some c) best h k = sym (k c refl)

offer-of : (i : Instance) (u : Option ℤ) (best : Option (Pt × ℤ)) → MatchOption best ⊤ (λ b. IsOffer i b.0 b.1 × IsAtMost u b.1) → MatchOption best ⊤ (λ b. IsOffer i b.0 b.1)
offer-of i u None h = tt
offer-of i u (Some b) h = h.0

root-known : (first shown : State) (u : Option ℤ) (j : ℕ) (v : View) (r : Role) → r ≡ Root → SeatFits first shown u j v r → ViewFits first shown u v
root-known first shown u j v Root e h = h.0
root-known first shown u j v Desk e h = absurd (cc)
root-known first shown u j v Spent e h = absurd (cc)

at_some : {A : Type 0} (l : List A) (j : ℕ) → j < length l → (x : A) × (get_elem? l j ≡ some x)
at_some [] j lt = absurd (omega (arith, lt))
at_some (x ∷ xs) zero lt = (x, refl)
at_some (x ∷ xs) (suc j) lt = at_some xs j (omega (arith, lt))

module _ (about : Snapshot State) (s : Table) (o : TableFits about s) (v : View) (at : HasView s.views 0 v) (is_root : v.role ≡ Root) (none_out : v.out ≡ 0) where
  same_root : o.root ≡ v
  same_root = some-injective o.root v (sym o.root_at ∙ at)

  nobody : sum_by desk_count s.views ≡ 0
  nobody = let out = o.out in let here : o.root.out ≡ v.out = ap (λ (x : View). x.out) same_root in omega (arith, here, none_out)

  free : turn_word s ≡ 0
  free =
      let turn = o.turn in
      let none_has = nobody in
      omega (arith, none_has, sums-le turn_of desk_count s.views (λ j x there. turn-desk about.value o.shown (incumbent_in s) j x (o.views j x there)))

  none_leased : o.shown.leased ≡ []
  none_leased =
      let none_has = nobody in
      nil_from_length o.shown.leased
      (omega (arith, none_has, leased-count about s o, sums-le has_lease desk_count s.views (λ j x there. lease-desk about.value o.shown (incumbent_in s) j x (o.views j x there))))

  known : ViewFits about.value o.shown (incumbent_in s) v
  known = root-known about.value o.shown (incumbent_in s) 0 v v.role is_root (o.views 0 v at)

  number : incumbent_in s ≡ cost_in v.best
  number =
      best-number about.value.job.instance (incumbent_in s) v.best known.best
      (λ c is. offer-root about.value o.shown (incumbent_in s) s.views v c at nobody o.views
      (subst (λ (u : Option ℤ). MatchOption u ⊤ (HasOffered s.views)) is o.offered))

  -- the seat of a deed is one of a desk that was taken in
  past_of : (j : ℕ) → 0 < j → (x : View) × HasView s.views j x → HasPast v.pasts j
  past_of j far t = by_role t.0.role refl (o.views j t.0 t.1)
    where
      by_role : (r : Role) → t.0.role ≡ r → SeatFits about.value o.shown (incumbent_in s) j t.0 r → HasPast v.pasts j
      by_role Root is h = let first = h.1.seat in absurd (omega (arith, first, far))
      by_role Desk is h =
          let one : desk_count t.0 ≡ 1 = ap (λ (r : Role). cond (is_desk_role r) 1 0) is in
          absurd (omega (arith, one, nobody, term-le desk_count s.views j t.0 t.1))
      by_role Spent is h = subst (λ (x : View). HasPast x.pasts j) same_root (o.spent j t.0 t.1 is)

  ended-at : Ends about v o.shown
  ended-at =
      let sound : IsSound (search o.shown (incumbent_in s)) = now_sound about s o in
      let offer = offer-of about.value.job.instance (incumbent_in s) v.best known.best in
      record {
        last = record { table = s; fits = o; pool_is = o.in_slot free; incumbent = number };
        reached = subst (λ (u : Option ℤ). IsReached about.value u o.shown) number (now_reached about s o);
        end_is = record {
          deeds = o.deeds;
          run = o.run;
          shown_is = o.shown_is ∙ ap (search o.shown) number;
          go_on = λ k p lt. let h = subst (λ (x : View). All (PastFits o.deeds s.views) x.pasts) same_root o.pasts k p lt in h.goes_on;
          by_pasts = λ k d lt. let h = o.seated k d lt in past_of (slice_index_or o.deeds k d).seat h.0 (at_some s.views (slice_index_or o.deeds k d).seat h.1);
        };
        seats = let gone = o.gone in let same = ap (λ (x : View). length x.pasts) same_root in let out = ap (λ (x : View). x.out) same_root in
            let seats = ap (λ (x : View). x.seats) same_root in omega (arith, gone, same, out, seats, none_out);
        offer = offer;
        job = o.job;
        beginning = o.beginning;
        leased = none_leased;
        finished = λ ended. record {
          job = o.job;
          leased = none_leased;
          ended = λ going. let none_open = known.ended ended going in nil_from_length o.shown.waiting (omega (arith, none_open));
          sound = subst (λ (u : Option ℤ). IsSound (search o.shown u)) number sound;
          best_is = offer;
        };
        kept = subst (λ (x : View). IsKeptBy o.shown x.seats) same_root o.kept;
      }

pub ends : (about : Snapshot State) (id : ℕ) (v : View) (ws : List ℕ) (pools : List State) (pool : State) → id ≡ 0 → v.role ≡ Root → v.out ≡ 0 → Final (Seen (TableFits about) id v) ws pools → get_elem? pools 0 ≡ some pool → Ends about v pool
ends about id v ws pools pool first is_root none_out final there =
    let s = final.0 in
    let o : TableFits about s = final.1.0 in
    let at : HasView s.views 0 v = subst (λ (j : ℕ). HasView s.views j v) first final.1.1 in
    let here : get_elem? pools 0 ≡ some o.shown = final.4 0 o.shown (o.in_slot (free about s o v at is_root none_out)) in
    subst (Ends about v) (some-injective o.shown pool (sym here ∙ there)) (ended-at about s o v at is_root none_out)

-- ---- the root desk at the beginning
pub first-rests : (m : Seat) (pool : State) → m ≡ (first_view pool, []) → IsAtRest Root m
first-rests m pool e = record {
  slots = ap (λ (x : Seat). x.1) e;
  role_is = ap (λ (x : Seat). x.0.role) e;
  turn = ap (λ (x : Seat). x.0.has_turn) e;
}

-- the start's number has a word
pub start-below : (j : Job) → IsJob j → (z : ℤ) → start_cost j ≡ Some z → z <ℤ pos (2 ^ 63 - 1)
start-below j h z e = of_start j.start h.start e
  where
    of_start : (start : Option (Pt × ℤ)) → MatchOption start ⊤ (λ b. IsOffer j.instance b.0 b.1) → cost_in start ≡ Some z → z <ℤ pos (2 ^ 63 - 1)
    of_start None k is = absurd (cc)
    of_start (Some b) k is =
        let same : b.1 ≡ z = cc in
        subst (λ (y : ℤ). y <ℤ pos (2 ^ 63 - 1)) same
        (cost-below b.1 (subst IsCost (sym k.cost_is) (upper_of-IsCost j.instance b.0 h.instance k.site)))
