-- The bound of the square that a desk has leased is right.
use Rattle.std.proofs.Common.{◌≡◌, [], ◌∷◌, Option, None, Some, sym, ap, ◌∙◌, subst}
use Rattle.std.specs.Prelude.{All}
use Rattle.std.specs.Option.{ForSome}
use Rattle.siting_definitions.specs.Instance.{Instance}
use Rattle.bound_heap.specs.declared.entry.Entry.{Entry}
use Rattle.pool_core.specs.declared.lease.LeaseAnswer.{LeaseAnswer}
use Rattle.pool_core.specs.declared.lease.LeaseAnswer.TheVariants.{Stopped, Done, Idle, Leased}
use Rattle.pool_core.specs.State.{State}
use Rattle.pool_core.specs.Machine.{Leases}
use Rattle.pool_core.specs.PoolAnswers.{LeaseAnswers}
use Rattle.pool_core.specs.Sound.{EntryFits}
use Rattle.pool_core.proofs.MarksKept.{lease-fits}
use Rattle.shared_pool.specs.Steps.{Seat, Wins}
use Rattle.shared_pool.specs.Views.{lease_in}
use Rattle.shared_pool.proofs.TurnSteps.{first_held}

-- what waits in the pool of a desk that won the turn is right
pub won-waiting : (m won : Seat) (pool : State) → Wins m won → won.1 ≡ (0, pool) ∷ [] → All (EntryFits m.0.first.job.instance) pool.waiting
won-waiting m won pool w holds =
    let same : w.pool ≡ pool = sym (ap (first_held pool) (sym holds ∙ ap (λ (x : Seat). x.1) w.seat_is)) in
    subst (λ (s : State). All (EntryFits m.0.first.job.instance) s.waiting) same w.waiting

-- the lease in an answer is right where all that waited were
pub answer-fits : (i : Instance) (answer : LeaseAnswer) (before after : State) → LeaseAnswers answer before after → All (EntryFits i) before.waiting → ForSome (lease_in answer) (EntryFits i)
answer-fits i (Stopped stop) before after h waiting e has = absurd cc
answer-fits i Done before after h waiting e has = absurd cc
answer-fits i Idle before after h waiting e has = absurd cc
answer-fits i (Leased leased) before after h waiting e has =
    lease-fits i e before after (subst (λ (l : Entry). Leases l before after) (some-same leased e has) h) waiting
  where
    or_else : Entry → Option Entry → Entry
    or_else e None = e
    or_else e (Some l) = l

    some-same : (l e : Entry) → Some l ≡ Some e → l ≡ e
    some-same l e has = ap (or_else l) has
