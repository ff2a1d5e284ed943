-- Seating a desk out and taking it in keeps the rule.
use Rattle.std.proofs.Common.{◌≡◌, ℕ, zero, suc, ◌+◌, ◌≤◌, ◌≢◌, ◌⊎◌, inl, inr, ⊎_elim, ℤ, ◌<ℤ◌, ◌≤ℤ◌, Bool, true, false, cond, ◌||◌, List, [], ◌∷◌, ◌++◌, length, set, All, Option, None, Some, refl, sym, ap, ◌∙◌, subst, arith, append-nil, length-append, length-set}
use Rattle.std.specs.Prelude.{⊤, MatchOption, option_to_list, int_lt, slice_index_or}
use Rattle.std.specs.declared.snapshot.Snapshot.{Snapshot}
use Rattle.std.proofs.lemmas.Bool.{cases_Bool, false≢true}
use Rattle.std.proofs.lemmas.Int.{ints}
use Rattle.std.proofs.lemmas.List.Sums.{sum_by-append}
use mathlib.Core.Option.{some, some-injective, some-ne-none}
use mathlib.Core.Logic.{dite}
use native.Mathlib.Decide.{ℕ_discrete}
use lib.ListN.{get_elem?}
use Rattle.atomic_table.specs.Table.{Splits, Joins}
use Rattle.atomic_table.proofs.Lists.{at_set, set_here, set_else, at_snoc, at_longer}
use Rattle.siting_definitions.specs.Point.{Pt}
use Rattle.siting_definitions.specs.Instance.{Instance}
use Rattle.siting_definitions.specs.Marks.{IsAtMost}
use Rattle.dyadic_square.proofs.Bag.{total, total-permutation, permutation_from_totals}
use Rattle.bound_heap.specs.declared.entry.Entry.{Entry}
use Rattle.pool_core.specs.declared.stop.Stop.{Stop}
use Rattle.pool_core.specs.declared.stop.Stop.TheVariants.{PoolFull, Budget}
use Rattle.pool_core.specs.Job.{IsOffer, start_cost, cost_in}
use Rattle.pool_core.specs.State.{State}
use Rattle.pool_core.specs.Best.{better_of}
use Rattle.pool_core.proofs.Entries.{same_entry, entry_decides}
use Rattle.shared_pool.specs.declared.deed.Past.{Past}
use Rattle.shared_pool.specs.declared.view.View.{View}
use Rattle.shared_pool.specs.declared.view.Role.{Role}
use Rattle.shared_pool.specs.declared.view.Role.TheVariants.{Root, Desk, Spent}
use Rattle.pool_core.specs.Seats.{StopsWithin}
use Rattle.shared_pool.specs.Views.{root_after_seating, root_after_joining, seated_view, spent_view}
use Rattle.shared_pool.specs.Runs.{GoesOn, HasPast}
use Rattle.shared_pool.specs.TableFits.{HasView, HasOffered, SeatFits, ViewFits, RootFits, KnowsDeeds, PastFits, TableFits, leases_of, is_desk, is_desk_role, incumbent_in}
use Rattle.shared_pool.proofs.ViewLists.{sum-set, term-le, leases-set, leases-append}
use Rattle.shared_pool.proofs.Runs.{all-cons}
use Rattle.shared_pool.proofs.Moves.{Table, of_desk, turn_of, desk_count, within, desk_not_spent}

-- what is known of the root desk
root-view : (first shown : State) (u : Option ℤ) (j : ℕ) (v : View) (r : Role) → r ≡ Root → SeatFits first shown u j v r → ViewFits first shown u v × RootFits first j v
root-view first shown u j v Root e h = h
root-view first shown u j v Desk e h = absurd (cc)
root-view first shown u j v Spent e h = absurd (cc)

as_root : (first shown : State) (u : Option ℤ) (j : ℕ) (v : View) (r : Role) → r ≡ Root → ViewFits first shown u v × RootFits first j v → SeatFits first shown u j v r
as_root first shown u j v r e h = subst (SeatFits first shown u j v) (sym e) h

-- more seats may keep as many parts
more-seats : (n m held : ℕ) (stop : Option Stop) → n ≤ m → StopsWithin n held stop → StopsWithin m held stop
more-seats n m held None le h = tt
more-seats n m held (Some (PoolFull count)) le h = omega arith
more-seats n m held (Some (Budget leases)) le h = omega arith

root_not_spent : (v : View) → v.role ≡ Root → v.role ≢ Spent
root_not_spent v root spent = let same : Root ≡ Spent = sym root ∙ spent in cc

-- the seat of a desk that was taken in isn't the root desk's
past_far : (vs : List View) (v : View) (j : ℕ) → HasView vs 0 v → v.role ≡ Root → HasView vs j spent_view → j ≢ 0
past_far vs v j at is_root there same =
    let e : spent_view ≡ v = some-injective spent_view v (sym there ∙ ap (get_elem? vs) same ∙ at) in
    root_not_spent v is_root (sym (ap (λ (y : View). y.role) e))

-- one at the end of a list is the last
at_end : {A : Type 0} (l : List A) (a b : A) (j : ℕ) → get_elem? (l ++ a ∷ []) j ≡ some b → (get_elem? l j ≡ some b) ⊎ ((j ≡ length l) × (a ≡ b))
at_end [] a b zero e = inr (refl, some-injective a b e)
at_end [] a b (suc j) e = absurd (some-ne-none b (sym e))
at_end (x ∷ xs) a b zero e = inl e
at_end (x ∷ xs) a b (suc j) e = ⊎_elim (λ t. inl t) (λ t. inr (ap suc t.0, t.1)) (at_end xs a b j e)

-- ---- a desk is seated out
module _ (about : Snapshot State) (s : Table) (o : TableFits about s) (v : View) (at : HasView s.views 0 v) (is_root : v.role ≡ Root) where
  known : ViewFits about.value o.shown (incumbent_in s) v × RootFits about.value 0 v
  known = root-view about.value o.shown (incumbent_in s) 0 v v.role is_root (o.views 0 v at)

  seated : TableFits about (record { words = s.words; homes = s.homes; views = set s.views 0 (root_after_seating v) ++ seated_view v ∷ [] })
  seated =
      let k = known.0 in
      let w = root_after_seating v in
      let d = seated_view v in
      let same_root : o.root ≡ v = some-injective o.root v (sym o.root_at ∙ at) in
      let out_root : o.root.out ≡ v.out = ap (λ (x : View). x.out) same_root in
      let seats_root : o.root.seats ≡ v.seats = ap (λ (x : View). x.seats) same_root in
      let old_turn = o.turn in
      let old_out = o.out in
      let old_seats = o.seats in
      let root_count : desk_count v ≡ 0 = ap (λ (r : Role). cond (is_desk_role r) 1 0) is_root in
      let long : length (set s.views 0 w) ≡ length s.views = length-set s.views 0 w in
      let longer : length (set s.views 0 w ++ d ∷ []) ≡ length s.views + 1 = omega (arith, length-append (set s.views 0 w) (d ∷ []), long) in
      let new_knows : GoesOn d.seat [] o.deeds = record {
        others = o.deeds;
        later_is = sym (append-nil o.deeds);
        others_are = λ k e lt same. let h = (o.seated k e lt).1 in omega (arith, h, same, o.each, seats_root);
      } in
      let root_knows : ViewFits about.value o.shown (incumbent_in s) w =
      record { first_is = k.first_is; turn = k.turn; seen = k.seen; seen_start = k.seen_start; best = k.best; ended = k.ended } in
      record {
        shown = o.shown;
        words = o.words;
        slots = o.slots;
        turn = omega (arith, sum_by-append turn_of (set s.views 0 w) (d ∷ []), sum-set turn_of s.views 0 v w at);
        turns = o.turns;
        in_slot = o.in_slot;
        opened = o.opened;
        deeds = o.deeds;
        run = o.run;
        shown_is = o.shown_is;
        seated = λ k e lt. let h = o.seated k e lt in (h.0, let less = h.1 in omega (arith, less, longer));
        job = o.job;
        beginning = o.beginning;
        leases = permutation_from_totals same_entry entry_decides (leases_of (set s.views 0 w ++ d ∷ [])) o.shown.leased
            (λ f. omega (arith, leases-append f (set s.views 0 w) (d ∷ []), leases-set f s.views 0 v w at, total-permutation f (leases_of s.views) o.shown.leased o.leases));
        views = λ j x there. ⊎_elim
            (λ earlier. ⊎_elim
            (λ t. subst (λ (y : View). SeatFits about.value o.shown (incumbent_in s) j y y.role) t.1
            (as_root about.value o.shown (incumbent_in s) j w w.role is_root
            (root_knows, record { seat = t.0; turn = known.1.turn; lease = known.1.lease; best = known.1.best })))
            (λ t. o.views j x t.1)
            (at_set s.views 0 j w x earlier))
            (λ (new : d ≡ x). subst (λ (y : View). SeatFits about.value o.shown (incumbent_in s) j y y.role) new
            (record { first_is = k.first_is; turn = λ has. absurd (false≢true has); seen = k.seen; seen_start = k.seen_start; best = tt; ended = λ has. absurd (false≢true has) }))
            (at_snoc (set s.views 0 w) d x j there);
        known = λ j x there. ⊎_elim
            (λ earlier. ⊎_elim
            (λ t. subst (KnowsDeeds o.deeds j) t.1 (subst (λ (n : ℕ). KnowsDeeds o.deeds n w) (sym t.0) (o.known 0 v at)))
            (λ t. o.known j x t.1)
            (at_set s.views 0 j w x earlier))
            (λ t. subst (KnowsDeeds o.deeds j) t.1 (λ role. (omega (arith, t.0, long, o.each, seats_root), new_knows)))
            (at_end (set s.views 0 w) d x j there);
        offered = still-there (incumbent_in s) o.offered;
        root = w;
        root_at = at_longer (set s.views 0 w) (d ∷ []) 0 w (set_here s.views 0 w (within s.views 0 v at));
        root_role = is_root;
        out = omega (arith, sum_by-append desk_count (set s.views 0 w) (d ∷ []), sum-set desk_count s.views 0 v w at, out_root, root_count);
        seats = omega (arith, out_root, seats_root);
        each = omega (arith, longer, o.each, seats_root);
        gone = let gone = o.gone in let same = ap (λ (x : View). length x.pasts) same_root in omega (arith, gone, same, out_root, seats_root);
        pasts = λ k e lt. past_still (slice_index_or v.pasts k e) (subst (λ (x : View). All (PastFits o.deeds s.views) x.pasts) same_root o.pasts k e lt);
        spent = λ j x there is_spent. ⊎_elim
            (λ earlier. ⊎_elim
            (λ t. absurd (root_not_spent x (ap (λ (y : View). y.role) (sym t.1) ∙ is_root) is_spent))
            (λ t. subst (λ (y : View). HasPast y.pasts j) same_root (o.spent j x t.1 is_spent))
            (at_set s.views 0 j w x earlier))
            (λ (new : d ≡ x). absurd (desk_not_spent x (ap (λ (y : View). y.role) (sym new)) is_spent))
            (at_snoc (set s.views 0 w) d x j there);
        kept = more-seats o.root.seats w.seats (o.shown.kept + length o.shown.leased) o.shown.stop (omega (arith, seats_root)) o.kept;
      }
    where
      past_still : (p : Past) → PastFits o.deeds s.views p → PastFits o.deeds (set s.views 0 (root_after_seating v) ++ seated_view v ∷ []) p
      past_still p h =
          let w = root_after_seating v in
          record {
            goes_on = h.goes_on;
            spent = at_longer (set s.views 0 w) (seated_view v ∷ []) p.seat spent_view (set_else s.views 0 p.seat w (past_far s.views v p.seat at is_root h.spent) ∙ h.spent);
          }

      still-there : (u : Option ℤ) → MatchOption u ⊤ (HasOffered s.views) → MatchOption u ⊤ (HasOffered (set s.views 0 (root_after_seating v) ++ seated_view v ∷ []))
      still-there None h = tt
      still-there (Some c) h =
          let w = root_after_seating v in
          dite (ℕ_discrete h.0 0)
          (λ same.
          let e : v ≡ h.1 = some-injective v h.1 (sym at ∙ ap (get_elem? s.views) (sym same) ∙ h.2) in
          (0, w, at_longer (set s.views 0 w) (seated_view v ∷ []) 0 w (set_here s.views 0 w (within s.views 0 v at)), ap (λ (x : View). cost_in x.best) e ∙ h.3))
          (λ other. (h.0, h.1, at_longer (set s.views 0 w) (seated_view v ∷ []) h.0 h.1 (set_else s.views 0 h.0 w other ∙ h.2), h.3))

pub seats_out : (about : Snapshot State) (id : ℕ) (v : View) → id ≡ 0 → v.role ≡ Root → Splits (TableFits about) id v (root_after_seating v) (seated_view v)
seats_out about id v first is_root =
    subst (λ (j : ℕ). Splits (TableFits about) j v (root_after_seating v) (seated_view v)) (sym first) (λ s o at. seated about s o v at is_root)

-- ---- a desk is taken in
-- the better of two bests is right, and costs no more than either
better-right : (i : Instance) (u : Option ℤ) (a b : Option (Pt × ℤ)) → MatchOption a ⊤ (λ z. IsOffer i z.0 z.1 × IsAtMost u z.1) → MatchOption b ⊤ (λ z. IsOffer i z.0 z.1 × IsAtMost u z.1) → MatchOption (better_of a b) ⊤ (λ z. IsOffer i z.0 z.1 × IsAtMost u z.1)
better-right i u a None h k = h
better-right i u None (Some o) h k = k
better-right i u (Some b) (Some o) h k = ⊎_elim (λ t. rw t k) (λ f. rw f h) (cases_Bool (int_lt o.1 b.1))

better-start : (start : Option ℤ) (a b : Option (Pt × ℤ)) → MatchOption start ⊤ (IsAtMost (cost_in a)) → MatchOption start ⊤ (IsAtMost (cost_in (better_of a b)))
better-start None a b h = tt
better-start (Some z) a None h = h
better-start (Some z) None (Some o) h = absurd h
better-start (Some z) (Some b) (Some o) h =
    ⊎_elim (λ t. rw t (below (less t))) (λ f. rw f h) (cases_Bool (int_lt o.1 b.1))
  where
    less : int_lt o.1 b.1 ≡ true → o.1 <ℤ b.1
    less t = grind (arith, ints)

    below : o.1 <ℤ b.1 → o.1 ≤ℤ z
    below l = omega (arith, ints)

-- the incumbent's number is the cost of the better of two bests, where it is that of one of them and at most both
better-cost : (i : Instance) (c : ℤ) (a b : Option (Pt × ℤ)) → MatchOption a ⊤ (λ z. IsOffer i z.0 z.1 × (c ≤ℤ z.1)) → MatchOption b ⊤ (λ z. IsOffer i z.0 z.1 × (c ≤ℤ z.1)) → ((cost_in a ≡ Some c) ⊎ (cost_in b ≡ Some c)) → cost_in (better_of a b) ≡ Some c
better-cost i c a None h k (inl e) = e
better-cost i c a None h k (inr e) = absurd (cc)
better-cost i c None (Some o) h k (inl e) = absurd (cc)
better-cost i c None (Some o) h k (inr e) = e
better-cost i c (Some b) (Some o) h k which =
    ⊎_elim (λ t. rw t (offered which (less t))) (λ f. rw f (stays which (more f))) (cases_Bool (int_lt o.1 b.1))
  where
    less : int_lt o.1 b.1 ≡ true → o.1 <ℤ b.1
    less t = grind (arith, ints)

    more : int_lt o.1 b.1 ≡ false → b.1 ≤ℤ o.1
    more f = grind (arith, ints)

    offered : ((Some b.1 ≡ Some c) ⊎ (Some o.1 ≡ Some c)) → o.1 <ℤ b.1 → Some o.1 ≡ Some c
    offered (inl e) l = let same : b.1 ≡ c = cc in let low = k.1 in absurd (omega (arith, ints, same, low))
    offered (inr e) l = e

    stays : ((Some b.1 ≡ Some c) ⊎ (Some o.1 ≡ Some c)) → b.1 ≤ℤ o.1 → Some b.1 ≡ Some c
    stays (inl e) l = e
    stays (inr e) l = let same : o.1 ≡ c = cc in let low = h.1 in ap Some (omega (arith, ints, same, low))

-- a desk that was taken in stays one
more_pasts : (p : Past) (ps : List Past) (j : ℕ) → HasPast ps j → HasPast (p ∷ ps) j
more_pasts p ps j h = (h.0, (suc h.1.0, let lt = h.1.1 in omega (arith, lt), h.1.2), h.2)

module _ (about : Snapshot State) (s : Table) (o : TableFits about s) (v w : View) (other : ℕ) (at : HasView s.views 0 v) (is_root : v.role ≡ Root) (far : other ≢ 0) (at' : HasView s.views other w) (is_desk : w.role ≡ Desk) (no_turn : w.has_turn ≡ false) (no_lease : w.lease ≡ None) where
  known_root : ViewFits about.value o.shown (incumbent_in s) v × RootFits about.value 0 v
  known_root = root-view about.value o.shown (incumbent_in s) 0 v v.role is_root (o.views 0 v at)

  known_desk : ViewFits about.value o.shown (incumbent_in s) w
  known_desk = of_desk about.value o.shown (incumbent_in s) other w w.role is_desk (o.views other w at')

  joined : TableFits about (record { words = s.words; homes = s.homes; views = set (set s.views 0 (root_after_joining v w)) other spent_view })
  joined =
      let k = known_root.0 in
      let d = known_desk in
      let b = root_after_joining v w in
      let vs = set s.views 0 b in
      let there : HasView vs other w = set_else s.views 0 other b far ∙ at' in
      let here : HasView (set vs other spent_view) 0 b = set_else vs other 0 spent_view (λ e. far (sym e)) ∙ set_here s.views 0 b (within s.views 0 v at) in
      let same_root : o.root ≡ v = some-injective o.root v (sym o.root_at ∙ at) in
      let out_root : o.root.out ≡ v.out = ap (λ (x : View). x.out) same_root in
      let seats_root : o.root.seats ≡ v.seats = ap (λ (x : View). x.seats) same_root in
      let old_turn = o.turn in
      let old_out = o.out in
      let old_seats = o.seats in
      let root_count : desk_count v ≡ 0 = ap (λ (r : Role). cond (is_desk_role r) 1 0) is_root in
      let joined_count : desk_count w ≡ 1 = ap (λ (r : Role). cond (is_desk_role r) 1 0) is_desk in
      let rests : turn_of w ≡ 0 = ap (λ (x : Bool). cond x 1 0) no_turn in
      let its = o.known other w at' (desk_not_spent w is_desk) in
      let long : length (set vs other spent_view) ≡ length s.views = length-set vs other spent_view ∙ length-set s.views 0 b in
      let root_knows : ViewFits about.value o.shown (incumbent_in s) b =
      record {
        first_is = k.first_is;
        turn = k.turn;
        seen = k.seen;
        seen_start = k.seen_start;
        best = better-right about.value.job.instance (incumbent_in s) v.best w.best k.best d.best;
        ended = λ e. ⊎_elim (λ mine. k.ended mine) (λ its. d.ended its) (either v.ended w.ended e);
      } in
      record {
        shown = o.shown;
        words = o.words;
        slots = o.slots;
        turn = omega (arith, sum-set turn_of s.views 0 v b at, sum-set turn_of vs other w spent_view there);
        turns = o.turns;
        in_slot = o.in_slot;
        opened = o.opened;
        deeds = o.deeds;
        run = o.run;
        shown_is = o.shown_is;
        seated = λ k e lt. let h = o.seated k e lt in (h.0, let less = h.1 in omega (arith, less, long));
        job = o.job;
        beginning = o.beginning;
        leases = permutation_from_totals same_entry entry_decides (leases_of (set vs other spent_view)) o.shown.leased
            (λ f. let none_there = ap (λ (l : Option Entry). total f (option_to_list l)) no_lease in
            omega (arith, leases-set f s.views 0 v b at, leases-set f vs other w spent_view there, none_there, total-permutation f (leases_of s.views) o.shown.leased o.leases));
        views = λ j x now. ⊎_elim
            (λ t. subst (λ (y : View). SeatFits about.value o.shown (incumbent_in s) j y y.role) t.1 refl)
            (λ later. ⊎_elim
            (λ t. subst (λ (y : View). SeatFits about.value o.shown (incumbent_in s) j y y.role) t.1
            (as_root about.value o.shown (incumbent_in s) j b b.role is_root (
              root_knows,
              record {
                seat = t.0;
                turn = known_root.1.turn;
                lease = known_root.1.lease;
                best = better-start (start_cost about.value.job) v.best w.best known_root.1.best;
              },
            )))
            (λ t. o.views j x t.1)
            (at_set s.views 0 j b x later.1))
            (at_set vs other j spent_view x now);
        known = λ j x now. ⊎_elim
            (λ t. subst (KnowsDeeds o.deeds j) t.1 (λ role. absurd (role refl)))
            (λ later. ⊎_elim
            (λ t. subst (KnowsDeeds o.deeds j) t.1 (subst (λ (n : ℕ). KnowsDeeds o.deeds n b) (sym t.0) (o.known 0 v at)))
            (λ t. o.known j x t.1)
            (at_set s.views 0 j b x later.1))
            (at_set vs other j spent_view x now);
        offered = still-there (incumbent_in s) refl o.offered;
        root = b;
        root_at = here;
        root_role = is_root;
        out = omega (arith, sum-set desk_count s.views 0 v b at, sum-set desk_count vs other w spent_view there, out_root, root_count, joined_count);
        seats = omega (arith, out_root, seats_root);
        each = omega (arith, long, o.each, seats_root);
        gone = let gone = o.gone in let same = ap (λ (x : View). length x.pasts) same_root in
            let some_out = term-le desk_count s.views other w at' in omega (arith, gone, same, out_root, seats_root, joined_count, some_out);
        pasts = all-cons (PastFits o.deeds (set vs other spent_view)) (record { seat = w.seat; deeds = w.deeds }) v.pasts
            (record {
              goes_on = its.1;
              spent = subst (λ (n : ℕ). HasView (set vs other spent_view) n spent_view) (sym its.0) (set_here vs other spent_view (within vs other w there));
            })
            (λ k e lt. past_still (slice_index_or v.pasts k e) (subst (λ (x : View). All (PastFits o.deeds s.views) x.pasts) same_root o.pasts k e lt));
        spent = λ j x now is_spent. ⊎_elim
            (λ t. (record { seat = w.seat; deeds = w.deeds }, (0, omega arith, refl), its.0 ∙ sym t.0))
            (λ later. ⊎_elim
            (λ t. absurd (root_not_spent x (ap (λ (y : View). y.role) (sym t.1) ∙ is_root) is_spent))
            (λ t. more_pasts (record { seat = w.seat; deeds = w.deeds }) v.pasts j (subst (λ (y : View). HasPast y.pasts j) same_root (o.spent j x t.1 is_spent)))
            (at_set s.views 0 j b x later.1))
            (at_set vs other j spent_view x now);
        kept = subst (λ (n : ℕ). StopsWithin n (o.shown.kept + length o.shown.leased) o.shown.stop) seats_root o.kept;
      }
    where
      past_still : (p : Past) → PastFits o.deeds s.views p → PastFits o.deeds (set (set s.views 0 (root_after_joining v w)) other spent_view) p
      past_still p h =
          let b = root_after_joining v w in
          let elsewhere : p.seat ≢ other = λ same.
          let e : spent_view ≡ w = some-injective spent_view w (sym h.spent ∙ ap (get_elem? s.views) same ∙ at') in
          desk_not_spent w is_desk (sym (ap (λ (y : View). y.role) e)) in
          record {
            goes_on = h.goes_on;
            spent = set_else (set s.views 0 b) other p.seat spent_view elsewhere ∙ set_else s.views 0 p.seat b (past_far s.views v p.seat at is_root h.spent) ∙ h.spent;
          }

      either : (a b : Bool) → (a || b) ≡ true → (a ≡ true) ⊎ (b ≡ true)
      either true b e = inl refl
      either false b e = inr e

      number : (c : ℤ) → incumbent_in s ≡ Some c → (best : Option (Pt × ℤ)) → MatchOption best ⊤ (λ z. IsOffer about.value.job.instance z.0 z.1 × IsAtMost (incumbent_in s) z.1) → MatchOption best ⊤ (λ z. IsOffer about.value.job.instance z.0 z.1 × (c ≤ℤ z.1))
      number c e None h = tt
      number c e (Some z) h = (h.0, subst (λ (u : Option ℤ). IsAtMost u z.1) e h.1)

      still-there : (u : Option ℤ) → incumbent_in s ≡ u → MatchOption u ⊤ (HasOffered s.views) → MatchOption u ⊤ (HasOffered (set (set s.views 0 (root_after_joining v w)) other spent_view))
      still-there None is h = tt
      still-there (Some c) is h =
          let b = root_after_joining v w in
          let vs = set s.views 0 b in
          let here : HasView (set vs other spent_view) 0 b = set_else vs other 0 spent_view (λ e. far (sym e)) ∙ set_here s.views 0 b (within s.views 0 v at) in
          let best = better-cost about.value.job.instance c v.best w.best (number c is v.best known_root.0.best) (number c is w.best known_desk.best) in
          dite (ℕ_discrete h.0 0)
          (λ same.
          let e : v ≡ h.1 = some-injective v h.1 (sym at ∙ ap (get_elem? s.views) (sym same) ∙ h.2) in
          (0, b, here, best (inl (ap (λ (x : View). cost_in x.best) e ∙ h.3))))
          (λ not_first. dite (ℕ_discrete h.0 other)
          (λ same.
          let e : w ≡ h.1 = some-injective w h.1 (sym at' ∙ ap (get_elem? s.views) (sym same) ∙ h.2) in
          (0, b, here, best (inr (ap (λ (x : View). cost_in x.best) e ∙ h.3))))
          (λ elsewhere. (h.0, h.1, set_else vs other h.0 spent_view elsewhere ∙ set_else s.views 0 h.0 b not_first ∙ h.2, h.3)))

pub takes_in : (about : Snapshot State) (id : ℕ) (v : View) (other : ℕ) (w : View) → id ≡ 0 → v.role ≡ Root → w.role ≡ Desk → w.has_turn ≡ false → w.lease ≡ None → Joins (TableFits about) id v other w (root_after_joining v w) spent_view
takes_in about id v other w first is_root is_desk no_turn no_lease =
    subst (λ (j : ℕ). Joins (TableFits about) j v other w (root_after_joining v w) spent_view) (sym first)
    (λ s o at far there. joined about s o v w other at is_root far (sym (set_else s.views 0 other (root_after_joining v w) far) ∙ there) is_desk no_turn no_lease)
