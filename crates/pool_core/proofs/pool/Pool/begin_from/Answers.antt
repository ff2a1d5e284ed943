use Rattle.std.proofs.Common.{◌-◌, List, length, None, refl, sym, ap, ◌∙◌, subst, arith}
use Rattle.bound_heap.specs.HeapView.{HeapView}
use Rattle.discard_log.specs.LogView.{LogView}
use Rattle.discard_log.specs.declared.node.Node.{Node}
use Rattle.pool_core.specs.declared.pool.Pool.TheInside.{Inside}
use Rattle.pool_core.specs.Job.{Job}
use Rattle.pool_core.specs.JobFields.{job_of}
use Rattle.pool_core.specs.Begun.{IsBegunFrom, IsResumable}
use Rattle.pool_core.specs.Pool.{state_of}
use Rattle.pool_core.proofs.BegunLemmas.{waiting_count, closed_length}
use Rattle.pool_core.proofs.Resumed.{IsBegun, begun_fits, begun_state}
use Rattle.pool_core.proofs.pool.Pool.begin_from.Goals as goal

pub sort_out-requires-clause-log : goal.sort_out-requires-clause-log
sort_out-requires-clause-log c =
    let room = ap (λ (l : LogView). l.spare) c.in_ok-log.ensures in
    omega (arith, closed_length c.nodes-nodes.result.now, room)

pub overflow_sub-result : goal.overflow_sub-result
overflow_sub-result c =
    let left = waiting_count c.nodes-nodes.result.now c.sort_out.new.waiting.entries c.sort_out.ensures.waiting in
    omega (arith, closed_length c.nodes-nodes.result.now, left, c.len-open.ensures)

after : goal.After-len-open → Inside
after c = record { job = c.in_ok-job.job; waiting = c.sort_out.new.waiting; leased = c.in_ok-leased.leased; log = c.sort_out.new.log; fine_bounds = c.in_ok-fine_bounds.fine_bounds; leases = c.args.leases; kept = 0; stop = None; begun_nodes = length c.nodes-nodes.result.now - c.len-open.result; begun_raised = c.len-open.result; begun_leases = c.args.leases }

begins : (c : goal.After-len-open) → IsBegun (job_of c.job.inside) c.nodes-nodes.result.now c.args.leases (after c)
unfolding after
begins c =
    record {
      job = c.in_ok-job.ensures.cases ∙ sym c.job.view_is;
      waiting = c.sort_out.ensures.waiting;
      raised = c.sort_out.ensures.raised;
      waiting_room = c.sort_out.ensures.waiting_room ∙ ap (λ (h : HeapView). h.spare) c.in_ok-waiting.ensures;
      leased = c.in_ok-leased.ensures.0;
      capacity = c.in_ok-leased.ensures.1;
      nodes = c.sort_out.ensures.nodes;
      fine_bounds = c.in_ok-fine_bounds.ensures.0;
      bounds_capacity = c.in_ok-fine_bounds.ensures.1;
      log_room = c.sort_out.ensures.log_room ∙ ap (λ (l : LogView). l.spare) c.in_ok-log.ensures;
      leases_are = refl;
      kept = refl;
      stop = refl;
      begun_nodes = ap (λ n. length c.nodes-nodes.result.now - n) c.len-open.ensures;
      begun_raised = c.len-open.ensures;
      begun_leases = refl;
    }

resumable : (c : goal.After-len-open) → IsResumable (job_of c.job.inside) c.nodes-nodes.result.now c.args.leases
resumable c =
    subst (λ (ns : List Node). IsResumable (job_of c.job.inside) ns c.args.leases) (sym c.nodes-nodes.ensures)
    (subst (λ (j : Job). IsResumable j c.args.nodes.now c.args.leases) (sym c.job.view_is) c.requires)

pub invariant_of-result : goal.invariant_of-result
unfolding after
invariant_of-result c = begun_fits (job_of c.job.inside) c.nodes-nodes.result.now c.args.leases (after c) c.job.invariant.job (resumable c) (begins c)

pub returns : goal.returns
unfolding after
returns c =
    subst (λ (ns : List Node). IsBegunFrom c.args.job.now ns c.args.leases (state_of (after c))) c.nodes-nodes.ensures
    (subst (λ (j : Job). IsBegunFrom j c.nodes-nodes.result.now c.args.leases (state_of (after c))) c.job.view_is
    (begun_state (job_of c.job.inside) c.nodes-nodes.result.now c.args.leases (after c) (begins c)))
