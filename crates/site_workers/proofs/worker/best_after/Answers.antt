use Rattle.std.proofs.Common.{◌≡◌, ℤ, false, Option, sym, ap, ◌∙◌, subst}
use Rattle.std.specs.Prelude.{⊤, MatchOption}
use Rattle.siting_definitions.specs.Square.{IsSquare}
use Rattle.siting_definitions.specs.Marks.{IsAtMost}
use Rattle.pool_core.specs.declared.verdict.Bounds.{Bounds}
use Rattle.pool_core.specs.Job.{IsJob, cost_in}
use Rattle.pool_core.specs.Verdict.{bounds_of}
use Rattle.site_workers.specs.Centre.{may_be_cheaper}
use Rattle.site_workers.specs.Search.{centre_offer}
use Rattle.site_workers.proofs.CentreLemmas.{spared}
use Rattle.site_workers.proofs.SearchLemmas.{better-stays, centre-cost, centre-offer}
use Rattle.site_workers.proofs.worker.best_after.Goals as goal

pub returns-then-not-may_be_cheaper-clause-best : goal.returns-then-not-may_be_cheaper-clause-best
returns-then-not-may_be_cheaper-clause-best c =
    let j = c.args.job.now in
    let e = c.args.lease.now in
    let best = c.args.best.now in
    let job : IsJob j = subst IsJob c.job.view_is c.job.invariant.job in
    let no_cheaper : may_be_cheaper (bounds_of j e) (cost_in best) ≡ false =
    ap (λ (b : Bounds). may_be_cheaper b (cost_in best)) (sym c.requires.bounds) ∙ ap (may_be_cheaper c.args.bounds) (sym c.cost_in.ensures)
    ∙ sym c.may_be_cheaper.ensures ∙ c.if-not-may_be_cheaper.true in
    better-stays best (centre_offer j.instance e.square)
    (subst (λ (o : Option ℤ). MatchOption o ⊤ (IsAtMost (cost_in best))) (sym (centre-cost j.instance e.square)) (spared j e (cost_in best) job.instance c.requires.fits no_cheaper))

pub returns-then-not-may_be_cheaper-clause-offer : goal.returns-then-not-may_be_cheaper-clause-offer
returns-then-not-may_be_cheaper-clause-offer c =
    centre-offer c.args.job.now.instance c.args.lease.now.square (subst IsSquare c.square-square.ensures c.side_len-side.ensures.limits)
