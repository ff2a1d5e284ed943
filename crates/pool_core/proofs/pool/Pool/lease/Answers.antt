use Rattle.std.proofs.Common.{◌≡◌, ℕ, ◌+◌, ◌<◌, ◌≤◌, ◌==◌, false, Option, None, Some, refl, sym, ◌∙◌, subst, arith}
use Rattle.std.proofs.lemmas.Bool.Decides.{nat_tests}
use Rattle.pool_core.specs.declared.stop.Stop.{Stop}
use Rattle.pool_core.specs.declared.pool.Pool.TheInside.{Inside}
use Rattle.pool_core.specs.State.{State}
use Rattle.pool_core.specs.Machine.{Leases}
use Rattle.pool_core.specs.Pool.{state_of}
use Rattle.pool_core.proofs.Leasing.{IsLeasing, leasing_fits, leasing_step}
use Rattle.pool_core.proofs.pool.Pool.lease.Goals as goal

no_stop : (o : Option Stop) → ((s : Stop) → o ≡ Some s → ⊥) → o ≡ None
no_stop None none = refl
no_stop (Some s) none = absurd (none s refl)

unspent : (leases budget : ℕ) → leases ≤ budget → (leases == budget) ≡ false → leases < budget
unspent leases budget most differ = grind (arith, nat_tests)

-- the pool after the lease
after : goal.After-add_leased → Inside
after c = record c.self.inside { waiting = c.pop.new.self; leased = c.add_leased.new.leased; leases = c.self.inside.leases + 1 }

leasing : (c : goal.After-add_leased) → IsLeasing c.in-Some-pop.entry c.self.inside (after c)
unfolding after
leasing c = record {
  going = no_stop c.self.inside.stop c.in_default.not-Some;
  budget = unspent c.self.inside.leases c.self.inside.job.budget c.self.invariant.counts.budget (sym c.is_spent.ensures ∙ c.if-is_spent.false);
  least = c.in-Some-pop.ensures.least;
  waiting = c.in-Some-pop.ensures.entries;
  spare = c.in-Some-pop.ensures.spare;
  leased = c.add_leased.ensures.items;
  capacity = c.add_leased.ensures.capacity;
  leases = refl;
  job = refl;
  log = refl;
  fine_bounds = refl;
  bounds_capacity = refl;
  kept = refl;
  stop = refl;
  begun_nodes = refl;
  begun_raised = refl;
  begun_leases = refl;
}

pub invariant_of-self-in-Some-pop : goal.invariant_of-self-in-Some-pop
unfolding after
invariant_of-self-in-Some-pop c = leasing_fits c.in-Some-pop.entry c.self.inside (after c) (leasing c) c.self.invariant

pub returns : goal.returns
unfolding after
returns c =
    subst (λ (s : State). Leases c.in-Some-pop.entry s (state_of (after c))) c.self.view_is
    (leasing_step c.in-Some-pop.entry c.self.inside (after c) (leasing c))
