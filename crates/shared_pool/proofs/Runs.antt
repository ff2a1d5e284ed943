-- Runs of the machine, and of deeds, that grow by an event.
use Rattle.std.proofs.Common.{◌≡◌, ◌≢◌, ◌⊎◌, inl, inr, ℕ, zero, suc, ℤ, List, [], ◌∷◌, ◌++◌, All, Option, None, Some, refl, sym, ap, ◌∙◌, subst, arith}
use Rattle.pool_core.specs.Job.{start_cost}
use Rattle.pool_core.specs.State.{State, Search}
use Rattle.pool_core.specs.Machine.{Event, Step, Run}
use Rattle.pool_core.specs.Sound.{IsSound, IsPoolOf}
use Rattle.pool_core.proofs.SoundSteps.{sound_run}
use Rattle.shared_pool.specs.declared.deed.Deed.{Deed}
use Rattle.shared_pool.specs.Runs.{search, shown_after, Leads, IsRun, GoesOn}
use Rattle.shared_pool.specs.TableFits.{IsReached}

run-more : (events : List Event) (a b c : Search) (event : Event) → Run a events b → Step b event c → Run a (events ++ event ∷ []) c
run-more [] a b c event run step = (c, subst (λ (x : Search). Step x event c) run step, refl)
run-more (e ∷ events) a b c event run step = (run.0, run.1, run-more events run.0 b c event run.2 step)

-- a run leads on by one event more
reached-more : (first s s' : State) (u u' : Option ℤ) (event : Event) → IsReached first u s → Step (search s u) event (search s' u') → IsReached first u' s'
reached-more first s s' u u' event r step =
    (r.0 ++ event ∷ [], run-more r.0 (search first (start_cost first.job)) (search s u) (search s' u') event r.1 step)

pub reached-itself : (first : State) → IsReached first (start_cost first.job) first
reached-itself first = ([], refl)

-- the deeds of a run lead on by their events
pub run-reached : (first : State) (ds : List Deed) → IsRun first ds → IsReached first (shown_after first ds).incumbent (shown_after first ds).state
run-reached first [] h = reached-itself first
run-reached first (d ∷ ds) h = more h.0 h.1 (run-reached first ds h.2)
  where
    more : (event : Option Event) → Leads event (shown_after first ds) (search d.pool d.incumbent) → IsReached first (shown_after first ds).incumbent (shown_after first ds).state → IsReached first d.incumbent d.pool
    more None same r = subst (λ (x : Search). IsReached first x.incumbent x.state) (sym same) r
    more (Some e) step r = reached-more first (shown_after first ds).state d.pool (shown_after first ds).incumbent d.incumbent e r step

-- what a sound pool leads to is sound
pub reached-sound : (first s : State) (u : Option ℤ) → IsPoolOf first.job first → IsReached first u s → IsSound (search s u)
reached-sound first s u opened r = sound_run r.0 (search first (start_cost first.job)) (search s u) r.1 opened.sound

-- ---- lists that grow at the front
module _ {X : Type 0} (P : X → Type 0) where
  pub all-none : All P []
  all-none k d lt = absurd (omega (arith, lt))

  pub all-cons : (x : X) (xs : List X) → P x → All P xs → All P (x ∷ xs)
  all-cons x xs h t zero d lt = h
  all-cons x xs h t (suc k) d lt = t k d (omega (arith, lt))

-- ---- deeds that go on from others
-- a desk's own deed goes on from itself
pub goes_on-itself : (seat : ℕ) (mine now : List Deed) → mine ≡ now → GoesOn seat mine now
goes_on-itself seat mine now same = record { others = []; later_is = sym same; others_are = all-none (λ (d : Deed). d.seat ≢ seat) }

-- the deeds become more by none or one, which is of this seat
abbrev pub IsAdded : ℕ → List Deed → List Deed → Type 0
IsAdded id before after = (after ≡ before) ⊎ ((d : Deed) × (d.seat ≡ id) × (after ≡ d ∷ before))

-- what went on from the deeds of another seat still does
pub goes_on-added : (id seat : ℕ) (mine before after : List Deed) → seat ≢ id → IsAdded id before after → GoesOn seat mine before → GoesOn seat mine after
goes_on-added id seat mine before after other (inl same) h = subst (GoesOn seat mine) (sym same) h
goes_on-added id seat mine before after other (inr t) h = record {
  others = t.0 ∷ h.others;
  later_is = t.2 ∙ ap (λ (ds : List Deed). t.0 ∷ ds) h.later_is;
  others_are = all-cons (λ (d : Deed). d.seat ≢ seat) t.0 h.others (λ same. other (sym same ∙ t.1)) h.others_are;
}

-- what holds of all deeds still does where it holds of each of this seat
pub all-added : (P : Deed → Type 0) (id : ℕ) (before after : List Deed) → ((d : Deed) → d.seat ≡ id → P d) → IsAdded id before after → All P before → All P after
all-added P id before after mine (inl same) h = subst (All P) (sym same) h
all-added P id before after mine (inr t) h = subst (All P) (sym t.2) (all-cons P t.0 before (mine t.0 t.1) h)
