use Rattle.std.proofs.Common.{◌+◌, ◌++◌, true, false, Some, refl, sym, ap, ◌∙◌, arith}
use Rattle.std.proofs.lemmas.List.{append-nil}
use Rattle.pool_core.specs.declared.pool.Pool.TheInside.{Inside}
use Rattle.pool_core.specs.Verdict.{fine_in}
use Rattle.pool_core.specs.Pool.{state_of}
use Rattle.pool_core.proofs.LoggedLemmas.{IsKeptOf}
use Rattle.pool_core.proofs.Returning.{Did, carry, closed_is, did_fits, did_step, fresh_given, level_given, kept_given, stop_is}
use Rattle.pool_core.proofs.pool.Pool.give_back_by.Goals as goal

pub wait_found-requires-clause-level : goal.wait_found-requires-clause-level
wait_found-requires-clause-level c =
    level_given c.args.self.now.job c.lease.inside.entry c.args.lease c.args.verdict.seen c.args.verdict.finding c.lease.view_is c.requires.verdict

-- the part isn't made
after_kept : goal.After-self-then-is_kept-1 → Inside
after_kept c =
    record c.self.inside {
      waiting = c.push.new.self;
      leased = c.take_out.new.leased;
      kept = c.self.inside.kept + 1;
      stop = Some c.earlier.result;
    }

did_kept : (c : goal.After-self-then-is_kept-1) → Did c.lease.inside.entry c.args.verdict.seen c.args.verdict.finding true c.self.inside (after_kept c)
unfolding after_kept
did_kept c =
    record {
      closed = closed_is c.self.inside c.args.self.now c.args.verdict.finding c.open_count-count.result c.is_kept.result true c.self.view_is c.open_count-count.ensures c.is_kept.ensures c.if-is_kept.true;
      leased = c.take_out.ensures.items;
      capacity = c.take_out.ensures.capacity;
      waiting = c.push.ensures.entries;
      spare = c.push.ensures.spare;
      nodes = sym (append-nil c.self.inside.log.nodes);
      bounds = sym (append-nil c.self.inside.fine_bounds.items);
      bounds_capacity = omega arith;
      log_spare = omega arith;
      kept = refl;
      stop = stop_is c.self.inside c.args.self.now c.open_count-count.result c.earlier.result c.self.view_is c.open_count-count.ensures c.earlier.ensures;
      leases = refl;
      job = refl;
      begun_nodes = refl;
      begun_raised = refl;
      begun_leases = refl;
    }

pub invariant_of-self : goal.invariant_of-self
unfolding after_kept
invariant_of-self c =
    did_fits c.lease.inside.entry c.args.verdict.seen c.args.verdict.finding true c.self.inside (after_kept c)
    (fresh_given c.args.self.now.job c.lease.inside.entry c.args.lease c.args.verdict.seen c.args.verdict.finding c.lease.view_is c.requires.verdict)
    (kept_given c.self.inside c.args.self.now c.lease.inside.entry c.args.lease c.take_out.new.leased.items c.args.verdict.seen c.args.verdict.finding c.args.bounds c.self.view_is c.lease.view_is c.self.invariant c.take_out.ensures.items c.requires.verdict c.requires.bounds).entries
    (did_kept c) c.self.invariant

pub returns-then-is_kept-clause-step : goal.returns-then-is_kept-clause-step
unfolding after_kept
returns-then-is_kept-clause-step c =
    carry c.lease.inside.entry c.args.lease c.args.verdict.seen c.args.verdict.finding (state_of c.self.inside) c.args.self.now (state_of (after_kept c)) c.lease.view_is c.self.view_is
    (did_step c.lease.inside.entry c.args.verdict.seen c.args.verdict.finding true c.self.inside (after_kept c) (did_kept c) c.self.invariant)

-- the finding is carried out
kept : (c : goal.After-given_by) → IsKeptOf c.self.inside.job.instance c.lease.inside.entry.square c.args.verdict.seen c.args.verdict.finding (fine_in c.args.bounds)
kept c =
    kept_given c.self.inside c.args.self.now c.lease.inside.entry c.args.lease c.take_out.new.leased.items c.args.verdict.seen c.args.verdict.finding c.args.bounds c.self.view_is c.lease.view_is c.self.invariant c.take_out.ensures.items c.requires.verdict c.requires.bounds

after_found : goal.After-given_by → Inside
after_found c =
    record c.self.inside {
      waiting = c.wait_found.new.waiting;
      leased = c.take_out.new.leased;
      log = c.log_found.new.log;
      fine_bounds = c.keep_bound.new.fine_bounds;
    }

did_found : (c : goal.After-given_by) → Did c.lease.inside.entry c.args.verdict.seen c.args.verdict.finding false c.self.inside (after_found c)
unfolding after_found
did_found c =
    record {
      closed = closed_is c.self.inside c.args.self.now c.args.verdict.finding c.open_count-count.result c.is_kept.result false c.self.view_is c.open_count-count.ensures c.is_kept.ensures c.if-is_kept.false;
      leased = c.take_out.ensures.items;
      capacity = c.take_out.ensures.capacity;
      waiting = c.wait_found.ensures.entries;
      spare = c.wait_found.ensures.spare;
      nodes = c.log_found.ensures.nodes;
      bounds = c.keep_bound.ensures.bounds ∙ ap (λ fs. c.self.inside.fine_bounds.items ++ fs) (kept c).bounds;
      bounds_capacity = c.keep_bound.ensures.capacity;
      log_spare = c.log_found.ensures.spare;
      kept = omega arith;
      stop = refl;
      leases = refl;
      job = refl;
      begun_nodes = refl;
      begun_raised = refl;
      begun_leases = refl;
    }

pub invariant_of-self-2 : goal.invariant_of-self-2
unfolding after_found
invariant_of-self-2 c =
    did_fits c.lease.inside.entry c.args.verdict.seen c.args.verdict.finding false c.self.inside (after_found c)
    (fresh_given c.args.self.now.job c.lease.inside.entry c.args.lease c.args.verdict.seen c.args.verdict.finding c.lease.view_is c.requires.verdict)
    (kept c).entries
    (did_found c) c.self.invariant

pub returns-clause-step : goal.returns-clause-step
unfolding after_found
returns-clause-step c =
    carry c.lease.inside.entry c.args.lease c.args.verdict.seen c.args.verdict.finding (state_of c.self.inside) c.args.self.now (state_of (after_found c)) c.lease.view_is c.self.view_is
    (did_step c.lease.inside.entry c.args.verdict.seen c.args.verdict.finding false c.self.inside (after_found c) (did_found c) c.self.invariant)
