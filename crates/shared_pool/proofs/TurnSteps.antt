-- Taking and giving the turn keeps the rule.
use Rattle.std.proofs.Common.{◌≡◌, ℕ, ◌+◌, ◌<◌, ◌≤◌, ◌≢◌, ◌⊎◌, inl, inr, ⊎_elim, ℤ, Bool, true, false, cond, ◌||◌, List, [], ◌∷◌, length, get_or, set, Option, None, Some, refl, sym, ap, ◌∙◌, subst, arith, length-set, get_or-set_other, get_or-set_same}
use Rattle.std.specs.Prelude.{⊤, MatchOption, All, Contains, sum_by, is_some, option_to_list}
use Rattle.std.specs.Option.{ForSome}
use Rattle.std.specs.declared.snapshot.Snapshot.{Snapshot}
use Rattle.std.proofs.lemmas.Bool.{false≢true}
use Rattle.std.proofs.lemmas.List.Sorted.{length_permutation}
use mathlib.Core.Option.{some, none}
use mathlib.Core.Logic.{dite}
use native.Mathlib.Decide.{ℕ_discrete}
use Rattle.atomic_table.specs.Table.{step, Allows, keeps, takes, gives}
use Rattle.atomic_table.proofs.Lists.{set_here}
use Rattle.siting_definitions.specs.Sites.{centre_cost}
use Rattle.siting_definitions.specs.Marks.{IsAtMost, IsNoneOrAtLeast}
use Rattle.dyadic_square.proofs.Bag.{total, total-permutation, total-length, contains_from_totals}
use Rattle.incumbent_word.specs.Word.{number_in}
use Rattle.bound_heap.specs.declared.entry.Entry.{Entry}
use Rattle.pool_core.specs.declared.stop.Stop.{Stop}
use Rattle.pool_core.specs.declared.stop.Stop.TheVariants.{PoolFull, Budget}
use Rattle.pool_core.specs.declared.lease.LeaseAnswer.{LeaseAnswer}
use Rattle.pool_core.specs.declared.lease.LeaseAnswer.TheVariants.{Stopped, Done, Idle, Leased}
use Rattle.pool_core.specs.declared.verdict.Finding.{Finding}
use Rattle.siting_definitions.specs.Point.{Pt}
use Rattle.pool_core.specs.Job.{Job, IsOffer, start_cost, cost_in}
use Rattle.pool_core.specs.State.{State, open_count}
use Rattle.pool_core.specs.Verdict.{finding_of, is_part}
use Rattle.pool_core.specs.Machine.{Event, Lease, Halt, Return, Leases, Halts, Returns, IsSeen, first_stop, is_kept}
use Rattle.pool_core.specs.PoolAnswers.{LeaseAnswers}
use Rattle.pool_core.specs.Sound.{IsSound, EntryFits}
use Rattle.pool_core.proofs.Entries.{same_entry, entry_decides}
use Rattle.shared_pool.specs.declared.deed.Deed.{Deed}
use Rattle.shared_pool.specs.declared.view.View.{View}
use Rattle.shared_pool.specs.declared.view.Role.{Role}
use Rattle.shared_pool.specs.declared.view.Role.TheVariants.{Root, Desk, Spent}
use Rattle.pool_core.specs.Seats.{StopsWithin}
use Rattle.shared_pool.specs.Views.{view_after_loss, view_after_win, view_after_lease, view_after_return, lease_in, is_end}
use Rattle.shared_pool.specs.Runs.{search, Leads, Adds, AddsReturn, IsEventOf}
use Rattle.shared_pool.specs.TableFits.{HasView, HasOffered, IsOver, SeatFits, ViewFits, TableFits, leases_of, is_desk_role, incumbent_in, turn_word}
use Rattle.shared_pool.specs.Steps.{Seat, IsAtRest, Wins, told_by_take, told_by_lease, told_by_return}
use Rattle.shared_pool.specs.Calls.{IsCentreSeen, IsFound}
use Rattle.shared_pool.proofs.ViewLists.{lease_total, leases-set, has_lease, leases-count, term-le, sums-le, sums-less}
use Rattle.shared_pool.proofs.Moves.{Table, Continues, moved, quiet, of_desk, only_holder, still-offered, turn_of, desk_count, within, now_sound, deed_of, stays, goes, adds}

-- ---- a take
module _ (about : Snapshot State) (s : Table) (o : TableFits about s) (id : ℕ) (v : View) (at : HasView s.views id v) (desk : v.role ≡ Desk) where
  -- what the desk knows is right
  known : ViewFits about.value o.shown (incumbent_in s) v
  known = of_desk about.value o.shown (incumbent_in s) id v v.role desk (o.views id v at)

  -- a lease that the desk has is a leased entry of the state shown
  leased : ForSome v.lease (Contains o.shown.leased)
  leased e is =
      let others = leases_of (set s.views id (record v { lease = None })) in
      contains_from_totals same_entry entry_decides e others o.shown.leased
      (λ f. omega (
        arith,
        leases-set f s.views id v (record v { lease = None }) at,
        ap (λ (l : Option Entry). total f (option_to_list l)) is,
        total-permutation f (leases_of s.views) o.shown.leased o.leases,
      ))

  won : turn_word s ≡ 0 → TableFits about (record { words = set s.words 1 1; homes = set s.homes 0 none; views = set s.views id (view_after_win v o.shown) })
  won free =
      let long : 1 < length s.words = let two = o.words in omega arith in
      let first : get_or (set s.words 1 1) 0 0 ≡ get_or s.words 0 0 = get_or-set_other s.words 1 0 1 0 (λ same. omega arith) in
      let second : get_or (set s.words 1 1) 1 0 ≡ 1 = get_or-set_same s.words 1 1 0 long in
      let rests : turn_of v ≡ 0 = nobody free in
      quiet about s o id v (view_after_win v o.shown) (set s.words 1 1) (set s.homes 0 none)
      (record {
        at = at;
        was_desk = desk;
        is_desk = desk;
        words = length-set s.words 1 1 ∙ o.words;
        slots = length-set s.homes 0 none ∙ o.slots;
        incumbent = first;
        turn = omega (arith, second, free, rests);
        turns = omega (arith, second);
        in_slot = λ zero. absurd (omega (arith, second, zero));
        lease = refl;
        best = refl;
        continues = stays about s o id v (view_after_win v o.shown) at desk refl refl;
        here = record {
          first_is = known.first_is;
          turn = λ has. refl;
          seen = known.seen;
          seen_start = known.seen_start;
          best = known.best;
          ended = known.ended;
        };
      })
    where
      nobody : turn_word s ≡ 0 → turn_of v ≡ 0
      nobody free = omega (arith, free, o.turn, term-le turn_of s.views id v at)

  lost : turn_word s ≢ 0 → TableFits about (record { words = set s.words 1 1; homes = s.homes; views = set s.views id (view_after_loss v) })
  lost other =
      let long : 1 < length s.words = let two = o.words in omega arith in
      let first : get_or (set s.words 1 1) 0 0 ≡ get_or s.words 0 0 = get_or-set_other s.words 1 0 1 0 (λ same. omega arith) in
      let second : get_or (set s.words 1 1) 1 0 ≡ 1 = get_or-set_same s.words 1 1 0 long in
      let before : turn_word s ≡ 1 = let most = o.turns in omega (arith, most, other) in
      quiet about s o id v (view_after_loss v) (set s.words 1 1) s.homes
      (record {
        at = at;
        was_desk = desk;
        is_desk = desk;
        words = length-set s.words 1 1 ∙ o.words;
        slots = o.slots;
        incumbent = first;
        turn = omega (arith, second, before);
        turns = omega (arith, second);
        in_slot = λ zero. absurd (omega (arith, second, zero));
        lease = refl;
        best = refl;
        continues = stays about s o id v (view_after_loss v) at desk refl refl;
        here = record {
          first_is = known.first_is;
          turn = known.turn;
          seen = known.seen;
          seen_start = known.seen_start;
          best = known.best;
          ended = known.ended;
        };
      })

pub takes_turn : (about : Snapshot State) (slots id : ℕ) (m : Seat) → m.0.role ≡ Desk → Allows (TableFits about) slots id m 1 (λ _. 1) (told_by_take (step slots 1 1 0 none) m)
takes_turn about slots id m desk s o wide at fits =
    dite (ℕ_discrete (turn_word s) 0)
    (λ free. (
      view_after_win m.0 o.shown,
      takes 0 o.shown,
      o.in_slot free,
      won about s o id m.0 at desk free,
      (
        (λ zero. record {
          pool = o.shown;
          seat_is = refl;
          job = o.job ∙ sym (ap (λ (first : State). first.job) (known about s o id m.0 at desk).first_is);
          leased = leased about s o id m.0 at desk;
          waiting = subst (λ (first : State). All (EntryFits first.job.instance) o.shown.waiting) (sym (known about s o id m.0 at desk).first_is)
              (subst (λ (j : Job). All (EntryFits j.instance) o.shown.waiting) o.job (now_sound about s o).waiting);
        }),
        λ other. absurd (other free),
      ),
    ))
    (λ other. (
      view_after_loss m.0,
      keeps,
      tt,
      lost about s o id m.0 at desk other,
      ((λ zero. absurd (other zero)), λ still. refl),
    ))

-- ---- a give
-- What a desk owes that gives the turn: its view v becomes w, and the pool that it took is given as `pool`, by this event or none.
pub record Gives (event : Option Event) (first : State) (v w : View) (pool : State) : Type 0 where
  -- the event leads from what was taken to what is given
  pub leads : (u : Option ℤ) → MatchOption v.seen ⊤ (IsAtMost u) → MatchOption (start_cost first.job) ⊤ (IsAtMost v.seen) → Leads event (search v.taken u) (search pool u)
  pub job : pool.job ≡ v.taken.job
  pub beginning : pool.beginning ≡ v.taken.beginning
  pub leases : (f : Entry → ℕ) → lease_total f w + total f v.taken.leased ≡ lease_total f v + total f pool.leased
  pub over : IsOver v.taken → IsOver pool
  pub ended : w.ended ≡ true → (v.ended ≡ true) ⊎ IsOver pool
  -- with n seats, of which this one has a lease less where the desk has none
  pub kept : (n : ℕ) → (v.taken.stop ≡ None → v.taken.kept ≡ 0) → length v.taken.leased ≤ n → (v.lease ≡ None → length v.taken.leased < n) → StopsWithin n (v.taken.kept + length v.taken.leased) v.taken.stop → StopsWithin n (pool.kept + length pool.leased) pool.stop

-- what of the desk stays
pub record SameDesk (v w : View) : Type 0 where
  pub role_is : w.role ≡ Desk
  pub seat_is : w.seat ≡ v.seat
  pub first_is : w.first ≡ v.first
  pub seen_is : w.seen ≡ v.seen
  pub best_is : w.best ≡ v.best
  pub turn : w.has_turn ≡ false

-- a seat has a lease only where it is a desk's
pub lease-desk : (first shown : State) (u : Option ℤ) (j : ℕ) (v : View) → SeatFits first shown u j v v.role → has_lease v ≤ desk_count v
lease-desk first shown u j v h = by_role v.role h
  where
    at_most : (o : Option Entry) → cond (is_some o) 1 0 ≤ 1
    at_most None = omega arith
    at_most (Some e) = omega arith

    by_role : (r : Role) → SeatFits first shown u j v r → has_lease v ≤ cond (is_desk_role r) 1 0
    by_role Root k = let zero : has_lease v ≡ 0 = ap (λ (o : Option Entry). cond (is_some o) 1 0) k.1.lease in omega arith
    by_role Desk k = at_most v.lease
    by_role Spent k = let zero : has_lease v ≡ 0 = ap has_lease k in omega arith

-- no more entries are leased than desks are out, and fewer where one has no lease
module _ (about : Snapshot State) (s : Table) (o : TableFits about s) where
  pub leased-count : length o.shown.leased ≡ sum_by has_lease s.views
  leased-count =
      sym (total-length o.shown.leased) ∙ total-permutation (λ (e : Entry). 1) (leases_of s.views) o.shown.leased o.leases ∙ leases-count s.views

  leased-out : length o.shown.leased ≤ o.root.seats
  leased-out =
      let out = o.out in
      let seats = o.seats in
      omega (arith, leased-count, sums-le has_lease desk_count s.views (λ j v at. lease-desk about.value o.shown (incumbent_in s) j v (o.views j v at)))

  leased-less : (id : ℕ) (v : View) → HasView s.views id v → v.role ≡ Desk → v.lease ≡ None → length o.shown.leased < o.root.seats
  leased-less id v at desk no_lease =
      let out = o.out in
      let seats = o.seats in
      let one : desk_count v ≡ 1 = ap (λ (r : Role). cond (is_desk_role r) 1 0) desk in
      let zero : has_lease v ≡ 0 = ap (λ (l : Option Entry). cond (is_some l) 1 0) no_lease in
      omega (arith, leased-count, one, zero, sums-less has_lease desk_count s.views id v (λ j v at. lease-desk about.value o.shown (incumbent_in s) j v (o.views j v at)) at)

gives_turn : (about : Snapshot State) (slots id : ℕ) (v : View) (after : List Deed → View) (pool : State) (event : Option Event) (tells : ℕ → Seat → Type 0) → v.role ≡ Desk → v.has_turn ≡ true → ((ds : List Deed) → SameDesk v (after ds)) → ((ds : List Deed) → (after ds).deeds ≡ ds)
    → ((first : State) (ds : List Deed) → first ≡ v.first → Gives event first v (after ds) pool)
    → ((found : ℕ) (ds : List Deed) (u : Option ℤ) → Adds event (search v.taken u) (search pool u) v (after ds) → tells found (after ds, []))
    → Allows (TableFits about) slots id (v, (0, pool) ∷ []) 1 (λ _. 0) tells
gives_turn about slots id v after pool event tells desk has stays_so deeds_are owed told s o wide at fits = (
  w,
  gives,
  tt,
  given,
  told (turn_word s) ds (incumbent_in s)
      (subst (λ (x : State). Adds event (search x (incumbent_in s)) (search pool (incumbent_in s)) v w) (sym taken)
      (adds about s o id v w at desk event pool (incumbent_in s) known_v.first_is leads (deeds_are ds))),
)
  where
    ds : List Deed
    ds = deed_of v pool (incumbent_in s) ∷ o.deeds

    w : View
    w = after ds

    same : SameDesk v w
    same = stays_so ds

    known_v : ViewFits about.value o.shown (incumbent_in s) v
    known_v = of_desk about.value o.shown (incumbent_in s) id v v.role desk (o.views id v at)

    g : Gives event about.value v w pool
    g = owed about.value ds (sym known_v.first_is)

    taken : v.taken ≡ o.shown
    taken = known_v.turn has

    leads : Leads event (search o.shown (incumbent_in s)) (search pool (incumbent_in s))
    leads = subst (λ (x : State). Leads event (search x (incumbent_in s)) (search pool (incumbent_in s))) taken
        (g.leads (incumbent_in s) known_v.seen known_v.seen_start)

    given : TableFits about (record { words = set s.words 1 0; homes = set s.homes 0 (some pool); views = set s.views id w })
    given =
        let two = o.words in
        let one_slot = o.slots in
        let first : get_or (set s.words 1 0) 0 0 ≡ get_or s.words 0 0 = get_or-set_other s.words 1 0 0 0 (λ same. omega arith) in
        let second : get_or (set s.words 1 0) 1 0 ≡ 0 = get_or-set_same s.words 1 0 0 (omega arith) in
        let still : incumbent_in s ≡ number_in (get_or (set s.words 1 0) 0 0) = ap number_in (sym first) in
        let mine : turn_of v ≡ 1 = ap (λ b. cond b 1 0) has in
        let none_more : turn_of w ≡ 0 = ap (λ b. cond b 1 0) same.turn in
        let sum = o.turn in
        let most = o.turns in
        let sound : IsSound (search o.shown (incumbent_in s)) = now_sound about s o in
        moved about s o id v w (set s.words 1 0) (set s.homes 0 (some pool)) pool
        (record {
          at = at;
          was_desk = desk;
          is_desk = same.role_is;
          words = length-set s.words 1 0 ∙ o.words;
          slots = length-set s.homes 0 (some pool) ∙ o.slots;
          turn = omega (arith, second, mine, none_more, term-le turn_of s.views id v at);
          turns = omega (arith, second);
          in_slot = λ free. set_here s.homes 0 (some pool) (omega arith);
          continues = subst (Continues about s o id v w pool) still
              (goes about s o id v w at desk event pool (incumbent_in s) leads same.seat_is (deeds_are ds));
          job = g.job ∙ ap (λ (x : State). x.job) taken;
          beginning = g.beginning ∙ ap (λ (x : State). x.beginning) taken;
          leases = λ f. subst (λ (x : State). lease_total f w + total f x.leased ≡ lease_total f v + total f pool.leased) taken (g.leases f);
          falls = λ z h. subst (λ (x : Option ℤ). IsAtMost x z) still h;
          over = λ over. g.over (subst IsOver (sym taken) over);
          others = λ k x other there has'. absurd (only_holder about s o id k v x other at there has has');
          here = subst (λ (x : Option ℤ). ViewFits about.value pool x w) still
              (record {
                first_is = same.first_is ∙ known_v.first_is;
                turn = λ has'. absurd (false≢true (sym same.turn ∙ has'));
                seen = subst (λ (x : Option ℤ). MatchOption x ⊤ (IsAtMost (incumbent_in s))) (sym same.seen_is) known_v.seen;
                seen_start = subst (λ (x : Option ℤ). MatchOption (start_cost about.value.job) ⊤ (IsAtMost x)) (sym same.seen_is) known_v.seen_start;
                best = subst (λ (x : Option (Pt × ℤ)). MatchOption x ⊤ (λ b. IsOffer about.value.job.instance b.0 b.1 × IsAtMost (incumbent_in s) b.1)) (sym same.best_is) known_v.best;
                ended = λ e. ⊎_elim (λ before. g.over (subst IsOver (sym taken) (known_v.ended before))) (λ over. over) (g.ended e);
              });
          offered = subst (λ (x : Option ℤ). MatchOption x ⊤ (HasOffered (set s.views id w))) still
              (still-offered s.views id v w (incumbent_in s) (within s.views id v at) at (ap cost_in same.best_is) o.offered);
          kept = g.kept o.root.seats (λ going. subst (λ (x : State). x.stop ≡ None → x.kept ≡ 0) (sym taken) sound.consistent.counts.going going)
              (subst (λ (x : State). length x.leased ≤ o.root.seats) (sym taken) (leased-out about s o))
              (λ no_lease. subst (λ (x : State). length x.leased < o.root.seats) (sym taken) (leased-less about s o id v at desk no_lease))
              (subst (λ (x : State). StopsWithin o.root.seats (x.kept + length x.leased) x.stop) (sym taken) o.kept);
        })

-- ---- an answer to one who asked for a lease
-- whether the desk has ended, after an answer
ended-after : {P : Type 0} (before : Bool) (answer : LeaseAnswer) → (is_end answer ≡ true → P) → (before || is_end answer) ≡ true → (before ≡ true) ⊎ P
ended-after true answer end e = inl refl
ended-after false answer end e = inr (end e)

-- the pool is given as it was taken
idles : (first : State) (v : View) (ds : List Deed) (answer : LeaseAnswer) (pool : State) → v.lease ≡ None → lease_in answer ≡ None → pool ≡ v.taken → (is_end answer ≡ true → IsOver pool) → Gives None first v (view_after_lease v ds answer pool) pool
idles first v ds answer pool no_lease nothing same end = record {
  leads = λ u seen start. ap (λ (x : State). search x u) same;
  job = ap (λ (x : State). x.job) same;
  beginning = ap (λ (x : State). x.beginning) same;
  leases = λ f. let a = ap (λ (l : Option Entry). total f (option_to_list l)) no_lease in let b = ap (λ (l : Option Entry). total f (option_to_list l)) nothing in
      let c = ap (λ (x : State). total f x.leased) same in omega (arith, a, b, c);
  over = subst IsOver (sym same);
  ended = ended-after v.ended answer end;
  kept = λ n going most less held. subst (λ (x : State). StopsWithin n (x.kept + length x.leased) x.stop) (sym same) held;
}

-- the stop comes with the budget's end
halts : (first : State) (v : View) (ds : List Deed) (stop : Stop) (pool : State) → v.lease ≡ None → pool.stop ≡ Some stop → Halts v.taken pool → Gives (Some Halt) first v (view_after_lease v ds (Stopped stop) pool) pool
halts first v ds stop pool no_lease said h = record {
  leads = λ u seen start. (h, refl);
  job = ap (λ (x : State). x.job) h.halted;
  beginning = ap (λ (x : State). x.beginning) h.halted;
  leases = λ f. let a = ap (λ (l : Option Entry). total f (option_to_list l)) no_lease in let c = ap (λ (x : State). total f x.leased) h.halted in omega (arith, a, c);
  over = λ over going. absurd (let no : Some stop ≡ None = sym said ∙ going in cc);
  ended = λ e. inr (λ going. absurd (let no : Some stop ≡ None = sym said ∙ going in cc));
  kept = λ n going most less held.
      let kept : pool.kept ≡ 0 = ap (λ (x : State). x.kept) h.halted ∙ going h.going in
      let leased : length pool.leased ≡ length v.taken.leased = ap (λ (x : State). length x.leased) h.halted in
      let fewer = less no_lease in
      subst (StopsWithin n (pool.kept + length pool.leased)) (sym (ap (λ (x : State). x.stop) h.halted)) (omega arith);
}

-- a waiting entry is leased
leases : (first : State) (v : View) (ds : List Deed) (e : Entry) (pool : State) → v.lease ≡ None → Leases e v.taken pool → Gives (Some (Lease e)) first v (view_after_lease v ds (Leased e) pool) pool
leases first v ds e pool no_lease h = record {
  leads = λ u seen start. (h, refl);
  job = h.job;
  beginning = h.beginning;
  leases = λ f. let a = ap (λ (l : Option Entry). total f (option_to_list l)) no_lease in omega (arith, a, total-permutation f (e ∷ v.taken.leased) pool.leased h.leased);
  over = λ over. absurd (nothing (over h.going));
  ended = λ more. inl (still v.ended more);
  kept = λ n going most less held. subst (StopsWithin n (pool.kept + length pool.leased)) (sym (h.stop ∙ h.going)) tt;
}
  where
    nothing : open_count v.taken ≡ 0 → ⊥
    nothing none_open = omega (arith, length_permutation v.taken.waiting (e ∷ pool.waiting) h.waiting)

    still : (before : Bool) → (before || false) ≡ true → before ≡ true
    still true more = refl
    still false more = more

-- what a desk owes that gives the turn after this answer
abbrev AnswerGives : View → LeaseAnswer → State → Type 0
AnswerGives v answer pool =
    (event : Option Event) × IsEventOf answer event × ((first : State) (ds : List Deed) → Gives event first v (view_after_lease v ds answer pool) pool)

lease_gives : (v : View) (answer : LeaseAnswer) (pool : State) → v.lease ≡ None → LeaseAnswers answer v.taken pool → AnswerGives v answer pool
lease_gives v (Stopped stop) pool no_lease h = ⊎_elim
    (λ same. (None, inl refl, λ first ds. idles first v ds (Stopped stop) pool no_lease refl same (λ end going. absurd (let no : Some stop ≡ None = sym h.0 ∙ going in cc))))
    (λ (k : Halts v.taken pool). (Some Halt, inr refl, λ first ds. halts first v ds stop pool no_lease h.0 k)) h.1
lease_gives v Done pool no_lease h =
    let waiting : length pool.waiting ≡ 0 = ap (λ (x : State). length x.waiting) h.3 ∙ ap (λ (xs : List Entry). length xs) h.1 in
    let leased : length pool.leased ≡ 0 = ap (λ (x : State). length x.leased) h.3 ∙ ap (λ (xs : List Entry). length xs) h.2 in
    (None, refl, λ first ds. idles first v ds Done pool no_lease refl h.3 (λ end going. omega arith))
lease_gives v Idle pool no_lease h = (None, refl, λ first ds. idles first v ds Idle pool no_lease refl h.3 (λ end. absurd (false≢true end)))
lease_gives v (Leased e) pool no_lease h = (Some (Lease e), refl, λ first ds. leases first v ds e pool no_lease h)

-- the pool that a seat holds first
abbrev pub first_held : State → List (ℕ × State) → State
first_held pool [] = pool
first_held pool (x ∷ xs) = x.1

-- the pool that a seat holds is one pool
pub held_pool : (pool other : State) → ◌≡◌ {A = List (ℕ × State)} ((0, pool) ∷ []) ((0, other) ∷ []) → pool ≡ other
held_pool pool other e = ap (first_held pool) e

-- the pool is given after an answer to one who asked for a lease
pub gives_after_lease : (about : Snapshot State) (slots id : ℕ) (m : Seat) (answer : LeaseAnswer) (pool : State) → m.0.role ≡ Desk → m.0.has_turn ≡ true → m.0.lease ≡ None → m.1 ≡ (0, pool) ∷ [] → LeaseAnswers answer m.0.taken pool
    → Allows (TableFits about) slots id m 1 (λ _. 0) (λ _. told_by_lease answer (step slots 1 0 0 none) m 0)
gives_after_lease about slots id m answer pool desk has no_lease holds h =
    subst (λ (x : Seat). Allows (TableFits about) slots id x 1 (λ _. 0) (λ _. told_by_lease answer (step slots 1 0 0 none) x 0)) (λ i. (m.0, sym holds i))
    (let g = lease_gives m.0 answer pool no_lease h in
    gives_turn about slots id m.0 (λ ds. view_after_lease m.0 ds answer pool) pool g.0 (λ _. told_by_lease answer (step slots 1 0 0 none) (m.0, (0, pool) ∷ []) 0) desk has
    (λ ds. record { role_is = desk; seat_is = refl; first_is = refl; seen_is = refl; best_is = refl; turn = refl })
    (λ ds. refl)
    (λ first ds e. g.2 first ds)
    (λ found ds u added other same. (
      ap (λ (p : State). (view_after_lease m.0 ds answer p, [])) (held_pool pool other same),
      record { event = g.0; event_is = g.1; incumbent = u; adds = added },
    )))

-- ---- a lease that comes back
-- what a desk has seen may be seen where its lease comes back
seen-fits : (j : Job) (u seen : Option ℤ) → MatchOption seen ⊤ (IsAtMost u) → MatchOption (start_cost j) ⊤ (IsAtMost seen) → IsSeen j u seen
seen-fits j u None h k = none j.start k
  where
    none : (start : Option (Pt × ℤ)) → MatchOption (cost_in start) ⊤ (IsAtMost None) → start ≡ None
    none None k = refl
    none (Some s) k = absurd k
seen-fits j u (Some z) h k = (h, at_least (start_cost j) k)
  where
    at_least : (start : Option ℤ) → MatchOption start ⊤ (IsAtMost (Some z)) → IsNoneOrAtLeast start z
    at_least None k = tt
    at_least (Some s) k = k

-- the stop after a return: the first one, or for a part that was kept, one for want of room
kept-after : (b : Bool) (n kept kept' leased leased' count : ℕ) (stop stop' : Option Stop) → (stop ≡ None → kept ≡ 0) → leased ≤ n → leased ≡ leased' + 1 → kept' ≡ kept + cond b 1 0 → stop' ≡ cond b (first_stop stop (PoolFull count)) stop
    → StopsWithin n (kept + leased) stop → StopsWithin n (kept' + leased') stop'
kept-after false n kept kept' leased leased' count stop stop' going most one more e held = subst (StopsWithin n (kept' + leased')) (sym e) (fewer stop held)
  where
    fewer : (s : Option Stop) → StopsWithin n (kept + leased) s → StopsWithin n (kept' + leased') s
    fewer None h = tt
    fewer (Some (PoolFull c)) h = omega arith
    fewer (Some (Budget l)) h = omega arith
kept-after true n kept kept' leased leased' count stop stop' going most one more e held = subst (StopsWithin n (kept' + leased')) (sym e) (first stop going held)
  where
    first : (s : Option Stop) → (s ≡ None → kept ≡ 0) → StopsWithin n (kept + leased) s → StopsWithin n (kept' + leased') (first_stop s (PoolFull count))
    first None zero h = let z = zero refl in omega arith
    first (Some (PoolFull c)) zero h = omega arith
    first (Some (Budget l)) zero h = omega arith

-- where nothing is over as long as something is leased, nothing is over after a return but by a stop
over-after : (b : Bool) (count : ℕ) (stop stop' : Option Stop) → stop' ≡ cond b (first_stop stop (PoolFull count)) stop → stop' ≡ None → stop ≡ None
over-after false count stop stop' e none_now = sym e ∙ none_now
over-after true count None stop' e none_now = refl
over-after true count (Some s) stop' e none_now = absurd (let no : Some s ≡ None = sym e ∙ none_now in cc)

return_gives : (first : State) (v : View) (ds : List Deed) (e : Entry) (pool : State) → first ≡ v.first → v.taken.job ≡ v.first.job → v.lease ≡ Some e → (is_part (finding_of v.first.job e v.seen) ≡ true → MatchOption (centre_cost v.first.job.instance e.square) ⊤ (IsAtMost v.seen))
    → Returns e v.seen (finding_of v.first.job e v.seen) v.taken pool → Gives (Some (Return e v.seen)) first v (view_after_return v ds pool) pool
return_gives first v ds e pool first_is job has centre h = record {
  leads = λ u seen start. (
    record {
      seen_is = seen-fits v.taken.job u v.seen seen (subst (λ (j : Job). MatchOption (start_cost j) ⊤ (IsAtMost v.seen)) (same_job ∙ sym job) start);
      centre = subst (λ (j : Job). is_part (finding_of j e v.seen) ≡ true → MatchOption (centre_cost j.instance e.square) ⊤ (IsAtMost v.seen)) (sym job) centre;
    },
    subst (λ (j : Job). Returns e v.seen (finding_of j e v.seen) v.taken pool) (sym job) h,
    refl,
  );
  job = h.job;
  beginning = h.beginning;
  leases = λ f. let a = ap (λ (l : Option Entry). total f (option_to_list l)) has in omega (arith, a, total-permutation f v.taken.leased (e ∷ pool.leased) h.leased);
  over = λ over going. absurd (nothing (over (over-after kept (open_count v.taken) v.taken.stop pool.stop h.stop going)));
  ended = λ more. inl more;
  kept = λ n going most less held. kept-after kept n v.taken.kept pool.kept (length v.taken.leased) (length pool.leased) (open_count v.taken) v.taken.stop pool.stop going most one h.kept h.stop held;
}
  where
    kept : Bool
    kept = is_kept v.taken (finding_of v.first.job e v.seen)

    same_job : first.job ≡ v.first.job
    same_job = ap (λ (x : State). x.job) first_is

    one : length v.taken.leased ≡ length pool.leased + 1
    one = omega (arith, length_permutation v.taken.leased (e ∷ pool.leased) h.leased)

    nothing : open_count v.taken ≡ 0 → ⊥
    nothing none_open = omega (arith, length_permutation v.taken.leased (e ∷ pool.leased) h.leased)

-- the pool is given after the desk's lease came back to it
pub gives_after_return : (about : Snapshot State) (slots id : ℕ) (m : Seat) (e : Entry) (pool : State) → m.0.role ≡ Desk → m.0.has_turn ≡ true → m.0.lease ≡ Some e → m.1 ≡ (0, pool) ∷ [] → m.0.taken.job ≡ m.0.first.job
    → (is_part (finding_of m.0.first.job e m.0.seen) ≡ true → MatchOption (centre_cost m.0.first.job.instance e.square) ⊤ (IsAtMost m.0.seen))
    → Returns e m.0.seen (finding_of m.0.first.job e m.0.seen) m.0.taken pool
    → Allows (TableFits about) slots id m 1 (λ _. 0) (λ _. told_by_return (step slots 1 0 0 none) m 0)
gives_after_return about slots id m e pool desk has lease holds job centre h =
    subst (λ (x : Seat). Allows (TableFits about) slots id x 1 (λ _. 0) (λ _. told_by_return (step slots 1 0 0 none) x 0)) (λ i. (m.0, sym holds i))
    (gives_turn about slots id m.0 (λ ds. view_after_return m.0 ds pool) pool (Some (Return e m.0.seen)) (λ _. told_by_return (step slots 1 0 0 none) (m.0, (0, pool) ∷ []) 0) desk has
    (λ ds. record { role_is = desk; seat_is = refl; first_is = refl; seen_is = refl; best_is = refl; turn = refl })
    (λ ds. refl)
    (λ first ds is. return_gives first m.0 ds e pool is job lease centre h)
    (λ found ds u added other same. (
      ap (λ (p : State). (view_after_return m.0 ds p, [])) (held_pool pool other same),
      λ x has_x. subst (λ (y : Entry). AddsReturn y m.0 (view_after_return m.0 ds pool)) (one_lease e x m.0.lease lease has_x) (u, added),
    )))
  where
    one_lease : (e x : Entry) (l : Option Entry) → l ≡ Some e → l ≡ Some x → e ≡ x
    one_lease e x l is is' = let same : Some e ≡ Some x = sym is ∙ is' in cc

-- what is given after a desk won the turn and its lease came back to the pool in the slot
pub returned : (about : Snapshot State) (slots id : ℕ) (m won m' : Seat) (e : Entry) (seen : Option ℤ) (finding : Finding) (before after : State) → IsAtRest Desk m → Wins m won → m'.0 ≡ won.0 → won.1 ≡ (0, before) ∷ [] → m'.1 ≡ (0, after) ∷ []
    → m.0.lease ≡ Some e → seen ≡ m.0.seen → IsFound m.0 seen finding → IsCentreSeen m.0 seen finding → Returns e seen finding before after
    → Allows (TableFits about) slots id m' 1 (λ _. 0) (λ _. told_by_return (step slots 1 0 0 none) m' 0)
returned about slots id m won m' e seen finding before after rests w same holds holds' has is_seen found centre h =
    subst (λ (x : Seat). Allows (TableFits about) slots id x 1 (λ _. 0) (λ _. told_by_return (step slots 1 0 0 none) x 0)) (λ i. (sym view_is i, sym holds' i))
    (gives_after_return about slots id (v, (0, after) ∷ []) e after rests.role_is refl has refl w.job right_centre right_return)
  where
    v : View
    v = view_after_win m.0 w.pool

    view_is : m'.0 ≡ v
    view_is = same ∙ ap (λ (x : Seat). x.0) w.seat_is

    pool_is : before ≡ w.pool
    pool_is = ap (first_held before) (sym holds ∙ ap (λ (x : Seat). x.1) w.seat_is)

    finding_is : finding ≡ finding_of m.0.first.job e m.0.seen
    finding_is = found e has ∙ ap (finding_of m.0.first.job e) is_seen

    right_centre : is_part (finding_of m.0.first.job e m.0.seen) ≡ true → MatchOption (centre_cost m.0.first.job.instance e.square) ⊤ (IsAtMost m.0.seen)
    right_centre part = subst (λ (x : Option ℤ). MatchOption (centre_cost m.0.first.job.instance e.square) ⊤ (IsAtMost x)) is_seen (centre e has (ap is_part finding_is ∙ part))

    right_return : Returns e m.0.seen (finding_of m.0.first.job e m.0.seen) w.pool after
    right_return = subst (λ (s : State). Returns e m.0.seen (finding_of m.0.first.job e m.0.seen) s after) pool_is
        (subst (λ (f : Finding). Returns e m.0.seen f before after) finding_is (subst (λ (x : Option ℤ). Returns e x finding before after) is_seen h))
