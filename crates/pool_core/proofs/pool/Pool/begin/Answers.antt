use Rattle.std.proofs.Common.{◌≡◌, false, ℤ, List, [], ◌∷◌, None, refl, sym, ap, ◌∙◌, FitsSigned, w64, rules}
use Rattle.std.specs.List.Sorted.{IsPermutation}
use Rattle.std.proofs.lemmas.Int.{to_z-of_z}
use Rattle.siting_definitions.specs.Bounds.{coarse_of}
use Rattle.siting_definitions.specs.Square.{Square}
use Rattle.bound_heap.specs.HeapView.{HeapView}
use Rattle.bound_heap.specs.declared.entry.Entry.{Entry}
use Rattle.pool_core.specs.declared.pool.Pool.TheInside.{Inside}
use Rattle.pool_core.specs.Job.{Job, job_root}
use Rattle.pool_core.specs.JobFields.{job_of}
use Rattle.pool_core.specs.State.{first_state, root_entry}
use Rattle.pool_core.proofs.Beginnings.{IsBeginning, beginning_fits, beginning_state, one_order}
use Rattle.pool_core.proofs.pool.Pool.begin.Goals as goal

-- the root alone waits
root_waits : (j : Job) (root : Square) (bound other : ℤ) (old new : List Entry) → root ≡ job_root j → bound ≡ coarse_of j.instance root → other ≡ bound → old ≡ [] → IsPermutation (record { square = root; bound = other; raised = false } ∷ old) new → new ≡ root_entry j ∷ []
root_waits j root bound other old new at is same empty h =
    let entry : Square → ℤ → Entry = λ s b. record { square = s; bound = b; raised = false } in
    let alone : IsPermutation (entry root other ∷ []) new = rw empty at h in
    one_order (entry root other) new alone ∙ ap (λ (b : ℤ). entry root b ∷ []) (same ∙ is) ∙ ap (λ (s : Square). entry s (coarse_of j.instance s) ∷ []) at

after : goal.After-push → Inside
after c = record { job = c.in_ok-job.job; waiting = c.push.new.self; leased = c.in_ok-leased.leased; log = c.in_ok-log.log; fine_bounds = c.in_ok-fine_bounds.fine_bounds; leases = 0; kept = 0; stop = None; begun_nodes = 0; begun_raised = 0; begun_leases = 0 }

begins : (c : goal.After-push) → IsBeginning (job_of c.job.inside) (after c)
unfolding after
begins c =
    let fits : FitsSigned w64 c.coarse-bound.result = search rules in
    let empty = ap (λ (h : HeapView). h.entries) c.in_ok-waiting.ensures in
    let room = ap (λ (h : HeapView). h.spare) c.in_ok-waiting.ensures in
    record {
      job = c.in_ok-job.ensures.cases ∙ sym c.job.view_is;
      waiting = root_waits (job_of c.job.inside) c.job.inside.root c.coarse-bound.result _ c.in_ok-waiting.waiting.entries c.push.new.self.entries c.job.invariant.root_is c.coarse-bound.ensures.value (to_z-of_z w64 c.coarse-bound.result fits) empty c.push.ensures.entries;
      spare = c.push.ensures.spare ∙ room;
      leased = c.in_ok-leased.ensures.0;
      capacity = c.in_ok-leased.ensures.1;
      log = c.in_ok-log.ensures;
      fine_bounds = c.in_ok-fine_bounds.ensures.0;
      bounds_capacity = c.in_ok-fine_bounds.ensures.1;
      leases = refl;
      kept = refl;
      stop = refl;
      begun_nodes = refl;
      begun_raised = refl;
      begun_leases = refl;
    }

pub invariant_of-result : goal.invariant_of-result
unfolding after
invariant_of-result c = beginning_fits (job_of c.job.inside) (after c) c.job.invariant.job (begins c)

pub returns : goal.returns
unfolding after
returns c = beginning_state (job_of c.job.inside) (after c) (begins c) ∙ ap first_state c.job.view_is
