use Rattle.std.proofs.Common.{◌≡◌, ℤ, Option, sym, ap, ◌∙◌, subst, inl, arith}
use Rattle.siting_definitions.specs.Point.{Pt}
use Rattle.pool_core.specs.Job.{Job, IsJob}
use Rattle.site_workers.specs.Search.{IsBetween}
use Rattle.site_workers.proofs.SearchLemmas.{begun, ended_by, ended_with, kept_by_one, leased_fits, leased_one, turned, ends, stopped}
use Rattle.site_workers.proofs.worker.alone.Goals as goal

pub loop-lease-init : goal.loop-lease-init
loop-lease-init c =
    let j = c.args.job.now in
    let job : IsJob j = subst IsJob c.job.view_is c.job.invariant.job in
    subst (λ (start : Option (Pt × ℤ)). IsBetween j c.args.pool c.args.pool start) (sym (ap (λ (k : Job). k.start) c.job.view_is)) (begun j c.args.pool job c.requires)

pub work-best-requires-clause-job : goal.work-best-requires-clause-job
work-best-requires-clause-job c = c.in-Leased.ensures.job ∙ c.loop-lease.invariant.job

pub work-best-requires-clause-leased : goal.work-best-requires-clause-leased
work-best-requires-clause-leased c = leased_one c.loop-lease.pool c.lease.new.self c.in-Leased.lease c.in-Leased.ensures

pub work-best-requires-clause-fits : goal.work-best-requires-clause-fits
work-best-requires-clause-fits c =
    leased_fits c.args.job.now c.args.pool c.loop-lease.pool c.lease.new.self c.in-Leased.lease c.loop-lease.best c.loop-lease.invariant c.in-Leased.ensures

pub loop-lease-smaller : goal.loop-lease-smaller
loop-lease-smaller c =
    let l = c.in-Leased.ensures in
    let job : c.work-best.new.pool.job ≡ c.loop-lease.pool.job = c.work-best.ensures.returned.job ∙ l.job in
    let b : c.loop-lease.pool.job ≡ c.args.job.now = c.loop-lease.invariant.job in
    let budget : c.loop-lease.pool.job.budget ≡ c.args.job.now.budget = ap (λ (k : Job). k.budget) b in
    omega (arith, l.budget, l.leases, c.work-best.ensures.returned.leases, budget)

pub loop-lease-preserved : goal.loop-lease-preserved
loop-lease-preserved c =
    turned c.args.job.now c.args.pool c.loop-lease.pool c.lease.new.self c.work-best.new.pool c.in-Leased.lease c.loop-lease.best c.work-best.result c.loop-lease.invariant
    (record { leases = c.in-Leased.ensures; best_is = c.work-best.ensures.best; offer = c.work-best.ensures.offer; returns = c.work-best.ensures.returned })

pub returns-in-Stopped-clause-finished : goal.returns-in-Stopped-clause-finished
returns-in-Stopped-clause-finished c =
    let e = c.in-Stopped.ensures in
    stopped c.args.job.now c.args.pool c.loop-lease.pool c.lease.new.self c.in-Stopped.field-0 c.loop-lease.best c.loop-lease.invariant e.0 e.1

pub returns-in-Stopped-clause-searched : goal.returns-in-Stopped-clause-searched
returns-in-Stopped-clause-searched c =
    ends c.args.job.now c.args.pool c.loop-lease.pool c.lease.new.self c.loop-lease.best c.loop-lease.invariant c.in-Stopped.ensures.1
    (ended_by c.lease.new.self c.in-Stopped.field-0 c.in-Stopped.ensures.0)

pub returns-in-Done-clause-searched : goal.returns-in-Done-clause-searched
returns-in-Done-clause-searched c =
    ends c.args.job.now c.args.pool c.loop-lease.pool c.lease.new.self c.loop-lease.best c.loop-lease.invariant (inl c.in-Done.ensures.3)
    (ended_with c.loop-lease.pool c.lease.new.self c.in-Done.ensures.3 c.in-Done.ensures.1)

pub returns-in-Idle-clause-searched : goal.returns-in-Idle-clause-searched
returns-in-Idle-clause-searched c =
    ends c.args.job.now c.args.pool c.loop-lease.pool c.lease.new.self c.loop-lease.best c.loop-lease.invariant (inl c.in-Idle.ensures.3)
    (ended_with c.loop-lease.pool c.lease.new.self c.in-Idle.ensures.3 c.in-Idle.ensures.1)

pub returns-in-Stopped-clause-seats : goal.returns-in-Stopped-clause-seats
returns-in-Stopped-clause-seats c =
    kept_by_one c.loop-lease.pool c.lease.new.self c.loop-lease.invariant.leased c.loop-lease.invariant.kept c.in-Stopped.ensures.1

pub returns-in-Done-clause-seats : goal.returns-in-Done-clause-seats
returns-in-Done-clause-seats c =
    kept_by_one c.loop-lease.pool c.lease.new.self c.loop-lease.invariant.leased c.loop-lease.invariant.kept (inl c.in-Done.ensures.3)

pub returns-in-Idle-clause-seats : goal.returns-in-Idle-clause-seats
returns-in-Idle-clause-seats c =
    kept_by_one c.loop-lease.pool c.lease.new.self c.loop-lease.invariant.leased c.loop-lease.invariant.kept (inl c.in-Idle.ensures.3)
