use Rattle.std.proofs.Common.{◌≡◌, ◌<◌, true, false, Some, sym, ap, ◌∙◌, subst, arith}
use Rattle.siting_definitions.specs.Point.{point_of}
use Rattle.siting_definitions.specs.Permitted.{permits}
use Rattle.siting_definitions.specs.Square.{Square, IsSquare, centre_of}
use Rattle.siting_definitions.specs.Answer.{IsSite}
use Rattle.candidate_sites.proofs.CentreLemmas.{no_centre-level, no_centre-permitted, some_centre, IsSite-centre}
use Rattle.candidate_sites.proofs.centre.permitted_centre.Goals as goal

pub returns-then-sq-eq0-clause-site : goal.returns-then-sq-eq0-clause-site
returns-then-sq-eq0-clause-site c =
    sym (no_centre-level c.args.instance.now c.args.sq (omega (arith, ap (λ (s : Square). s.level) c.sq.view_is)))

pub returns-then-not-permits-clause-site : goal.returns-then-not-permits-clause-site
returns-then-not-permits-clause-site c =
    let above : 0 < c.args.sq.level = omega (arith, ap (λ (s : Square). s.level) c.sq.view_is) in
    let barred : permits c.args.instance.now (point_of (centre_of c.args.sq)) ≡ false =
    ap (λ p. permits c.args.instance.now (point_of p)) (sym c.centre-centre.ensures) ∙ sym c.permits.ensures ∙ c.if-not-permits.true in
    sym (no_centre-permitted c.args.instance.now c.args.sq above barred)

pub site_at-requires : goal.site_at-requires
site_at-requires c =
    let above : 0 < c.args.sq.level = omega (arith, ap (λ (s : Square). s.level) c.sq.view_is) in
    subst IsSite (sym c.centre-centre.ensures) (IsSite-centre c.args.sq above (subst IsSquare c.sq.view_is c.sq.invariant))

pub returns-clause-site : goal.returns-clause-site
returns-clause-site c =
    let above : 0 < c.args.sq.level = omega (arith, ap (λ (s : Square). s.level) c.sq.view_is) in
    let allowed : permits c.args.instance.now (point_of (centre_of c.args.sq)) ≡ true =
    ap (λ p. permits c.args.instance.now (point_of p)) (sym c.centre-centre.ensures) ∙ sym c.permits.ensures ∙ c.if-not-permits.false in
    ap (λ p. Some p) (c.site_at.ensures ∙ c.centre-centre.ensures) ∙ sym (some_centre c.args.instance.now c.args.sq above allowed)
