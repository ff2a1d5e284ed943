use Rattle.std.proofs.Common.{◌≡◌, ℤ, Some, sym, ap, ◌∙◌, subst, rules}
use Rattle.std.specs.Option.{ForSome}
use Rattle.std.specs.Prelude.{option_copied, option_map, IsSome}
use Rattle.siting_definitions.specs.Point.{Pt}
use Rattle.siting_definitions.specs.Square.{Square}
use Rattle.siting_definitions.specs.Sites.{centre_cost}
use Rattle.pool_core.specs.Job.{Job, IsJob}
use Rattle.pool_core.specs.State.{State}
use Rattle.pool_core.specs.Sound.{EntryFits}
use Rattle.shared_pool.specs.declared.view.View.{View}
use Rattle.shared_pool.specs.Desks.{view}
use Rattle.shared_pool.specs.Views.{view_after_offer}
use Rattle.site_workers.proofs.DeskLemmas.{seen-after-offer, seen-without-offer}
use Rattle.site_workers.proofs.member.offer_centre.Goals as goal

pub returns-in-Some-centre_site : goal.returns-in-Some-centre_site
returns-in-Some-centre_site c =
    let v = view c.args.desk.now in
    let e = c.in-Some.lease.now in
    let upper = c.in-Some-centre_site.upper in
    let lease : v.lease ≡ Some e = sym c.lease.ensures ∙ ap option_copied c.in-Some.is in
    let cost : centre_cost v.first.job.instance e.square ≡ Some upper
    = ap (λ (s : State). centre_cost s.job.instance e.square) c.requires.desk.of.first
    ∙ ap (λ (j : Job). centre_cost j.instance e.square) (c.requires.job ∙ sym c.job.view_is)
    ∙ ap (λ (s : Square). centre_cost c.job.inside.instance s) (sym c.square-square.ensures)
    ∙ sym c.centre_site.ensures.cost ∙ ap (option_map (λ (b : Pt × ℤ). b.1)) c.in-Some-centre_site.is in
    let is : view c.offer.new.desk ≡ view_after_offer v (view c.offer.new.desk).deeds c.offer.ensures.incumbent.0 c.in-Some-centre_site.site upper = let told = c.offer.ensures.incumbent.2.view_is in search rules in
    record {
      offered = record {
        lease = record {
          of = c.offer.ensures.desk;
          lease = subst (λ (w : View). IsSome w.lease) (sym is) c.requires.desk.lease;
          fits = subst (λ (w : View). ForSome w.lease (EntryFits w.first.job.instance)) (sym is) c.requires.desk.fits;
        };
        centre = seen-after-offer v (view c.offer.new.desk) (view c.offer.new.desk).deeds c.offer.ensures.incumbent.0 c.in-Some-centre_site.site upper e lease cost is;
      };
      lease = ap (λ (w : View). w.lease) is;
    }

pub returns-then-not-may_be_cheaper-clause-offered : goal.returns-then-not-may_be_cheaper-clause-offered
returns-then-not-may_be_cheaper-clause-offered c =
    let j = c.args.job.now in
    let job : IsJob j = subst IsJob c.job.view_is c.job.invariant.job in
    record {
      lease = c.requires.desk;
      centre = seen-without-offer j (view c.args.desk.now) c.args.bounds c.seen.result job.instance
          (ap (λ (s : State). s.job) c.requires.desk.of.first ∙ c.requires.job) c.requires.desk.fits c.requires.bounds c.seen.ensures
          (sym c.may_be_cheaper.ensures ∙ c.if-not-may_be_cheaper.true);
    }
