-- A step of a desk keeps the rule, where it keeps the parts of it that it touches.
use Rattle.std.proofs.Common.{◌≡◌, ℕ, zero, suc, ◌+◌, ◌<◌, ◌≤◌, ◌≢◌, inl, inr, ⊎_elim, ℤ, true, cond, List, [], ◌∷◌, ◌++◌, length, get_or, set, Option, None, Some, refl, sym, ap, ◌∙◌, subst, subst₂, arith, length-set, All}
use Rattle.std.specs.Prelude.{⊤, MatchOption, option_to_list, slice_index_or}
use Rattle.std.specs.declared.snapshot.Snapshot.{Snapshot}
use mathlib.Core.Option as logic
use mathlib.Core.Option.{some, some-injective}
use mathlib.Core.Logic.{dite}
use native.Mathlib.Decide.{ℕ_discrete}
use lib.ListN.{get_elem?}
use Rattle.atomic_table.specs.Table as tables
use Rattle.atomic_table.proofs.Lists.{at_set, set_here, set_else}
use Rattle.siting_definitions.specs.Point.{Pt}
use Rattle.siting_definitions.specs.Marks.{IsAtMost}
use Rattle.dyadic_square.proofs.Bag.{total, total-permutation, permutation_from_totals}
use Rattle.incumbent_word.specs.Word.{number_in}
use Rattle.bound_heap.specs.declared.entry.Entry.{Entry}
use Rattle.pool_core.specs.Job.{IsOffer, cost_in}
use Rattle.pool_core.specs.State.{State, Search}
use Rattle.pool_core.specs.Machine.{Event}
use Rattle.pool_core.specs.Sound.{IsSound}
use Rattle.pool_core.proofs.Entries.{same_entry, entry_decides}
use Rattle.shared_pool.specs.declared.deed.Deed.{Deed}
use Rattle.shared_pool.specs.declared.deed.Past.{Past}
use Rattle.shared_pool.specs.declared.view.View.{View}
use Rattle.shared_pool.specs.declared.view.Role.{Role}
use Rattle.shared_pool.specs.declared.view.Role.TheVariants.{Root, Desk, Spent}
use Rattle.pool_core.specs.Seats.{StopsWithin}
use Rattle.shared_pool.specs.Views.{spent_view}
use Rattle.shared_pool.specs.Runs.{search, shown_after, Leads, IsRun, GoesOn, Adds}
use Rattle.shared_pool.specs.TableFits.{IsReached, IsOver, HasView, HasOffered, ViewFits, SeatFits, KnowsDeeds, PastFits, TableFits, leases_of, is_desk, is_desk_role, incumbent_in, turn_word}
use Rattle.shared_pool.proofs.ViewLists.{sum-set, terms-le, lease_total, leases-set}
use Rattle.shared_pool.proofs.Runs.{IsAdded, run-reached, reached-sound, goes_on-itself, goes_on-added, all-added}

abbrev pub Table : Type 0
Table = tables.State State View

-- 1 where a desk has the turn
abbrev pub turn_of : View → ℕ
turn_of v = cond v.has_turn 1 0

-- 1 for a desk
abbrev pub desk_count : View → ℕ
desk_count v = cond (is_desk v) 1 0

abbrev pub Falls : Option ℤ → Option ℤ → Type 0
Falls u v = (z : ℤ) → IsAtMost u z → IsAtMost v z

-- ---- one seat, by its role
pub of_desk : (first shown : State) (u : Option ℤ) (j : ℕ) (v : View) (r : Role) → r ≡ Desk → SeatFits first shown u j v r → ViewFits first shown u v
of_desk first shown u j v Root e h = h.0
of_desk first shown u j v Desk e h = h
of_desk first shown u j v Spent e h = absurd (cc)

pub as_desk : (first shown : State) (u : Option ℤ) (j : ℕ) (v : View) (r : Role) → r ≡ Desk → ViewFits first shown u v → SeatFits first shown u j v r
as_desk first shown u j v r e h = subst (SeatFits first shown u j v) (sym e) h

-- what a view knows stays right where the incumbent falls, what is over stays over, and the state shown is another one only where
-- the view has no turn
pub still-right : (first shown shown' : State) (u u' : Option ℤ) (v : View) → Falls u u' → (IsOver shown → IsOver shown') → (v.has_turn ≡ true → shown ≡ shown') → ViewFits first shown u v → ViewFits first shown' u' v
still-right first shown shown' u u' v falls over same h = record {
  first_is = h.first_is;
  turn = λ has. h.turn has ∙ same has;
  seen = fallen v.seen h.seen;
  seen_start = h.seen_start;
  best = fallen_best v.best h.best;
  ended = λ e. over (h.ended e);
}
  where
    fallen : (o : Option ℤ) → MatchOption o ⊤ (IsAtMost u) → MatchOption o ⊤ (IsAtMost u')
    fallen None h = tt
    fallen (Some z) h = falls z h

    fallen_best : (o : Option (Pt × ℤ)) → MatchOption o ⊤ (λ b. IsOffer first.job.instance b.0 b.1 × IsAtMost u b.1) → MatchOption o ⊤ (λ b. IsOffer first.job.instance b.0 b.1 × IsAtMost u' b.1)
    fallen_best None h = tt
    fallen_best (Some b) h = (h.0, falls b.1 h.1)

pub seat-still-right : (first shown shown' : State) (u u' : Option ℤ) (j : ℕ) (v : View) (r : Role) → Falls u u' → (IsOver shown → IsOver shown') → (v.has_turn ≡ true → shown ≡ shown') → SeatFits first shown u j v r → SeatFits first shown' u' j v r
seat-still-right first shown shown' u u' j v Root falls over same h = (still-right first shown shown' u u' v falls over same h.0, h.1)
seat-still-right first shown shown' u u' j v Desk falls over same h = still-right first shown shown' u u' v falls over same h
seat-still-right first shown shown' u u' j v Spent falls over same h = h

-- ---- the root desk's seat is another one than a desk's
pub not_root : (vs : List View) (j : ℕ) (v root : View) → HasView vs j v → v.role ≡ Desk → HasView vs 0 root → root.role ≡ Root → j ≢ 0
not_root vs j v root at desk root_at is_root same =
    let e : v ≡ root = some-injective v root (sym at ∙ ap (get_elem? vs) same ∙ root_at) in
    let role : v.role ≡ root.role = ap (λ (x : View). x.role) e in
    cc

-- an offer that stands in the list still stands where one view is exchanged for one with the same best
pub still-offered : (vs : List View) (id : ℕ) (v w : View) (u : Option ℤ) → id < length vs → HasView vs id v → cost_in w.best ≡ cost_in v.best → MatchOption u ⊤ (HasOffered vs) → MatchOption u ⊤ (HasOffered (set vs id w))
still-offered vs id v w None fits at best h = tt
still-offered vs id v w (Some z) fits at best h =
    dite (ℕ_discrete h.0 id)
    (λ same.
    let e : v ≡ h.1 = some-injective v h.1 (sym at ∙ ap (get_elem? vs) (sym same) ∙ h.2) in
    (id, w, set_here vs id w fits, best ∙ ap (λ (x : View). cost_in x.best) e ∙ h.3))
    (λ other. (h.0, h.1, set_else vs id h.0 w other ∙ h.2, h.3))

pub within : (vs : List View) (j : ℕ) (v : View) → HasView vs j v → j < length vs
within [] j v at = absurd (logic.some-ne-none v (sym at))
within (x ∷ xs) zero v at = omega arith
within (x ∷ xs) (suc j) v at = omega (arith, within xs j v at)

-- only one desk has the turn
pub only_holder : (about : Snapshot State) (s : Table) → TableFits about s → (j k : ℕ) (v x : View) → k ≢ j → HasView s.views j v → HasView s.views k x → v.has_turn ≡ true → x.has_turn ≡ true → ⊥
only_holder about s o j k v x other at at' has has' =
    let a : turn_of v ≡ 1 = ap (λ b. cond b 1 0) has in
    let b : turn_of x ≡ 1 = ap (λ b. cond b 1 0) has' in
    let c = o.turns in
    let d = o.turn in
    omega (arith, terms-le turn_of s.views j k v x other at at')

-- ---- the run so far
module _ (about : Snapshot State) (s : Table) (o : TableFits about s) where
  -- it leads to what is shown, which is sound
  pub now_reached : IsReached about.value (incumbent_in s) o.shown
  now_reached = subst (λ (x : Search). IsReached about.value x.incumbent x.state) o.shown_is (run-reached about.value o.deeds o.run)

  pub now_sound : IsSound (search o.shown (incumbent_in s))
  now_sound = reached-sound about.value o.shown (incumbent_in s) o.opened now_reached

pub desk_not_spent : (v : View) → v.role ≡ Desk → v.role ≢ Spent
desk_not_spent v desk spent = let same : Desk ≡ Spent = sym desk ∙ spent in cc

-- the deed of a desk that leaves this shown
abbrev pub deed_of : View → State → Option ℤ → Deed
deed_of v shown u = record { seat = v.seat; pool = shown; incumbent = u }

-- The run goes on by none or one deed of the desk at seat id, to this state and incumbent.
pub record Continues (about : Snapshot State) (s : Table) (o : TableFits about s) (id : ℕ) (v w : View) (shown : State) (u : Option ℤ) : Type 0 where
  pub deeds : List Deed
  pub added : IsAdded id o.deeds deeds
  pub run : IsRun about.value deeds
  pub shown_is : shown_after about.value deeds ≡ search shown u
  pub seat : w.seat ≡ v.seat
  pub goes_on : GoesOn v.seat w.deeds deeds

module _ (about : Snapshot State) (s : Table) (o : TableFits about s) (id : ℕ) (v w : View) (at : HasView s.views id v) (desk : v.role ≡ Desk) where
  mine : (v.seat ≡ id) × GoesOn v.seat v.deeds o.deeds
  mine = o.known id v at (desk_not_spent v desk)

  -- by none
  pub stays : w.seat ≡ v.seat → w.deeds ≡ v.deeds → Continues about s o id v w o.shown (incumbent_in s)
  stays seat same = record {
    deeds = o.deeds;
    added = inl refl;
    run = o.run;
    shown_is = o.shown_is;
    seat = seat;
    goes_on = subst (λ (ds : List Deed). GoesOn v.seat ds o.deeds) (sym same) mine.1;
  }

  -- by one
  longer_run : (event : Option Event) (shown : State) (u : Option ℤ) → Leads event (search o.shown (incumbent_in s)) (search shown u) → IsRun about.value (deed_of v shown u ∷ o.deeds)
  longer_run event shown u leads = (event, subst (λ (x : Search). Leads event x (search shown u)) (sym o.shown_is) leads, o.run)

  pub goes : (event : Option Event) (shown : State) (u : Option ℤ) → Leads event (search o.shown (incumbent_in s)) (search shown u) → w.seat ≡ v.seat → w.deeds ≡ deed_of v shown u ∷ o.deeds → Continues about s o id v w shown u
  goes event shown u leads seat is = record {
    deeds = deed_of v shown u ∷ o.deeds;
    added = inr (deed_of v shown u, mine.0, refl);
    run = longer_run event shown u leads;
    shown_is = refl;
    seat = seat;
    goes_on = goes_on-itself v.seat w.deeds (deed_of v shown u ∷ o.deeds) is;
  }

  -- and the desk is told so
  pub adds : (event : Option Event) (shown : State) (u : Option ℤ) → v.first ≡ about.value → Leads event (search o.shown (incumbent_in s)) (search shown u) → w.deeds ≡ deed_of v shown u ∷ o.deeds → Adds event (search o.shown (incumbent_in s)) (search shown u) v w
  adds event shown u first leads is =
      let g = mine.1 in
      record {
        others = g.others;
        deeds = is ∙ ap (λ (ds : List Deed). deed_of v shown u ∷ ds) g.later_is;
        others_are = g.others_are;
        before_is = subst (λ (x : State). shown_after x (g.others ++ v.deeds) ≡ search o.shown (incumbent_in s)) (sym first)
            (ap (shown_after about.value) (sym g.later_is) ∙ o.shown_is);
        leads = leads;
        run = subst₂ IsRun (sym first) (sym is) (longer_run event shown u leads);
      }

-- ---- the step
-- What a step of the desk at seat id owes, by which its view v becomes w, the words ws, the slots hs, and the state shown `shown`.
pub record Moves (about : Snapshot State) (s : Table) (o : TableFits about s) (id : ℕ) (v w : View) (ws : List ℕ) (hs : List (logic.Option State)) (shown : State) : Type 0 where
  pub at : HasView s.views id v
  pub was_desk : v.role ≡ Desk
  pub is_desk : w.role ≡ Desk
  pub words : length ws ≡ 2
  pub slots : length hs ≡ 1
  pub turn : get_or ws 1 0 + turn_of v ≡ turn_word s + turn_of w
  pub turns : get_or ws 1 0 ≤ 1
  pub in_slot : get_or ws 1 0 ≡ 0 → get_elem? hs 0 ≡ some (some shown)
  pub continues : Continues about s o id v w shown (number_in (get_or ws 0 0))
  pub job : shown.job ≡ o.shown.job
  pub beginning : shown.beginning ≡ o.shown.beginning
  pub leases : (f : Entry → ℕ) → lease_total f w + total f o.shown.leased ≡ lease_total f v + total f shown.leased
  pub falls : Falls (incumbent_in s) (number_in (get_or ws 0 0))
  pub over : IsOver o.shown → IsOver shown
  pub others : (k : ℕ) (x : View) → k ≢ id → HasView s.views k x → x.has_turn ≡ true → o.shown ≡ shown
  pub here : ViewFits about.value shown (number_in (get_or ws 0 0)) w
  pub offered : MatchOption (number_in (get_or ws 0 0)) ⊤ (HasOffered (set s.views id w))
  pub kept : StopsWithin o.root.seats (shown.kept + length shown.leased) shown.stop

pub moved : (about : Snapshot State) (s : Table) (o : TableFits about s) (id : ℕ) (v w : View) (ws : List ℕ) (hs : List (logic.Option State)) (shown : State) → Moves about s o id v w ws hs shown → TableFits about (record { words = ws; homes = hs; views = set s.views id w })
moved about s o id v w ws hs shown m =
    let far : id ≢ 0 = not_root s.views id v o.root m.at m.was_desk o.root_at o.root_role in
    let here = set_here s.views id w (within s.views id v m.at) in
    let was : desk_count v ≡ 1 = ap (λ (r : Role). cond (is_desk_role r) 1 0) m.was_desk in
    let is : desk_count w ≡ 1 = ap (λ (r : Role). cond (is_desk_role r) 1 0) m.is_desk in
    let c = m.continues in
    let mine = o.known id v m.at (desk_not_spent v m.was_desk) in
    let long : length (set s.views id w) ≡ length s.views = length-set s.views id w in
    record {
      shown = shown;
      words = m.words;
      slots = m.slots;
      turn = let old = o.turn in let new = m.turn in omega (arith, sum-set turn_of s.views id v w m.at);
      turns = m.turns;
      in_slot = m.in_slot;
      opened = o.opened;
      deeds = c.deeds;
      run = c.run;
      shown_is = c.shown_is;
      seated = subst (λ (n : ℕ). All (λ (d : Deed). (0 < d.seat) × (d.seat < n)) c.deeds) (sym long)
          (all-added (λ (d : Deed). (0 < d.seat) × (d.seat < length s.views)) id o.deeds c.deeds
          (λ d is_mine. (omega (arith, is_mine, far), let there = within s.views id v m.at in omega (arith, is_mine, there))) c.added o.seated);
      job = m.job ∙ o.job;
      beginning = m.beginning ∙ o.beginning;
      leases = permutation_from_totals same_entry entry_decides (leases_of (set s.views id w)) shown.leased
          (λ f. omega (arith, leases-set f s.views id v w m.at, total-permutation f (leases_of s.views) o.shown.leased o.leases, m.leases f));
      views = λ j x at. ⊎_elim
          (λ t. subst (λ (y : View). SeatFits about.value shown (number_in (get_or ws 0 0)) j y y.role) t.1 (as_desk about.value shown (number_in (get_or ws 0 0)) j w w.role m.is_desk m.here))
          (λ t. seat-still-right about.value o.shown shown (incumbent_in s) (number_in (get_or ws 0 0)) j x x.role m.falls m.over (m.others j x t.0 t.1) (o.views j x t.1))
          (at_set s.views id j w x at);
      known = λ j x at. ⊎_elim
          (λ t. subst (KnowsDeeds c.deeds j) t.1
          (λ role. (c.seat ∙ mine.0 ∙ sym t.0, subst (λ (n : ℕ). GoesOn n w.deeds c.deeds) (sym c.seat) c.goes_on)))
          (λ t role. let k = o.known j x t.1 role in
          (k.0, goes_on-added id x.seat x.deeds o.deeds c.deeds (λ same. t.0 (sym k.0 ∙ same)) c.added k.1))
          (at_set s.views id j w x at);
      offered = m.offered;
      root = o.root;
      root_at = set_else s.views id 0 w (λ e. far (sym e)) ∙ o.root_at;
      root_role = o.root_role;
      out = let old = o.out in omega (arith, sum-set desk_count s.views id v w m.at, was, is);
      seats = o.seats;
      each = long ∙ o.each;
      gone = o.gone;
      pasts = λ k d lt. past_still m (slice_index_or o.root.pasts k d) (o.pasts k d lt);
      spent = λ j x at is_spent. ⊎_elim
          (λ t. absurd (desk_not_spent x (ap (λ (y : View). y.role) (sym t.1) ∙ m.is_desk) is_spent))
          (λ t. o.spent j x t.1 is_spent)
          (at_set s.views id j w x at);
      kept = m.kept;
    }
  where
    past_still : (m : Moves about s o id v w ws hs shown) (p : Past) → PastFits o.deeds s.views p → PastFits m.continues.deeds (set s.views id w) p
    past_still m p h =
        let other : p.seat ≢ id = λ same.
        let e : spent_view ≡ v = some-injective spent_view v (sym h.spent ∙ ap (get_elem? s.views) same ∙ m.at) in
        desk_not_spent v m.was_desk (sym (ap (λ (y : View). y.role) e)) in
        record {
          goes_on = goes_on-added id p.seat p.deeds o.deeds m.continues.deeds other m.continues.added h.goes_on;
          spent = set_else s.views id p.seat w other ∙ h.spent;
        }

-- ---- a step that leaves the incumbent and the state shown as they are
-- what such a step owes
pub record Quiet (about : Snapshot State) (s : Table) (o : TableFits about s) (id : ℕ) (v w : View) (ws : List ℕ) (hs : List (logic.Option State)) : Type 0 where
  pub at : HasView s.views id v
  pub was_desk : v.role ≡ Desk
  pub is_desk : w.role ≡ Desk
  pub words : length ws ≡ 2
  pub slots : length hs ≡ 1
  pub incumbent : get_or ws 0 0 ≡ get_or s.words 0 0
  pub turn : get_or ws 1 0 + turn_of v ≡ turn_word s + turn_of w
  pub turns : get_or ws 1 0 ≤ 1
  pub in_slot : get_or ws 1 0 ≡ 0 → get_elem? hs 0 ≡ some (some o.shown)
  pub lease : w.lease ≡ v.lease
  pub best : w.best ≡ v.best
  pub continues : Continues about s o id v w o.shown (incumbent_in s)
  pub here : ViewFits about.value o.shown (incumbent_in s) w

pub quiet : (about : Snapshot State) (s : Table) (o : TableFits about s) (id : ℕ) (v w : View) (ws : List ℕ) (hs : List (logic.Option State)) → Quiet about s o id v w ws hs → TableFits about (record { words = ws; homes = hs; views = set s.views id w })
quiet about s o id v w ws hs q =
    let u : incumbent_in s ≡ number_in (get_or ws 0 0) = ap number_in (sym q.incumbent) in
    moved about s o id v w ws hs o.shown
    (record {
      at = q.at;
      was_desk = q.was_desk;
      is_desk = q.is_desk;
      words = q.words;
      slots = q.slots;
      turn = q.turn;
      turns = q.turns;
      in_slot = q.in_slot;
      continues = subst (Continues about s o id v w o.shown) u q.continues;
      job = refl;
      beginning = refl;
      leases = λ f. ap (λ (l : Option Entry). total f (option_to_list l) + total f o.shown.leased) q.lease;
      falls = λ z h. subst (λ (x : Option ℤ). IsAtMost x z) u h;
      over = λ over. over;
      others = λ k x other there has. refl;
      here = subst (λ (x : Option ℤ). ViewFits about.value o.shown x w) u q.here;
      offered = subst (λ (x : Option ℤ). MatchOption x ⊤ (HasOffered (set s.views id w))) u
          (still-offered s.views id v w (incumbent_in s) (within s.views id v q.at) q.at (ap cost_in q.best) o.offered);
      kept = o.kept;
    })
