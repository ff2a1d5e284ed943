use Rattle.std.proofs.Common.{◌≡◌, ◌<◌, false, ℤ, ◌+ℤ◌, ◌<ℤ◌, int_le, Option, Some, IsTrue, sym, ◌∙◌, subst, FitsSigned, w64, rules}
use Rattle.std.proofs.lemmas.Int.{to_z-of_z}
use Rattle.siting_definitions.specs.Bounds.{fine_of}
use Rattle.siting_definitions.specs.Excluded.{is_excluded}
use Rattle.siting_definitions.specs.Instance.{Instance}
use Rattle.siting_definitions.specs.Marks.{IsAtMost, IsCalledFor, IsNoneOrAtLeast}
use Rattle.siting_definitions.specs.Sites.{opening_cost, centre_cost}
use Rattle.siting_definitions.specs.Square.{Square}
use Rattle.siting_definitions.proofs.Integers.{int_le-false}
use Rattle.pool_core.specs.Job.{Job, cost_in, start_cost}
use Rattle.pool_core.proofs.tests.check_split.Goals as goal

called_for : (i : Instance) (gap : ℤ) (start opening centre : Option ℤ) (s : Square) (seen bound : ℤ) → 0 < s.level → is_excluded i s ≡ false → IsAtMost start seen → bound ≡ fine_of i s → int_le seen (bound +ℤ gap) ≡ false
    → opening ≡ opening_cost i → IsNoneOrAtLeast opening seen → centre ≡ centre_cost i s → IsNoneOrAtLeast centre seen → IsCalledFor i gap start s (Some seen)
called_for i gap start opening centre s seen bound level inside at_most fine short first opened middle centred = record {
  level = level;
  open_square = inside;
  seen = (
    at_most,
    subst (λ (b : ℤ). (b +ℤ gap) <ℤ seen) fine (int_le-false seen (bound +ℤ gap) short),
    subst (λ (u : Option ℤ). IsNoneOrAtLeast u seen) first opened,
    subst (λ (u : Option ℤ). IsNoneOrAtLeast u seen) middle centred,
  );
}

pub returns : goal.returns
returns g c =
    let level : 0 < c.args.square.level = search rules in
    let excluded : c.excluded.result ≡ false = search rules in
    let at_most : IsTrue c.is_at_most.result = search rules in
    let short : c.reaches.result ≡ false = search rules in
    let opening : IsTrue c.is_none_or_at_least.result = search rules in
    let centre : IsTrue c.is_none_or_at_least-2.result = search rules in
    let seen_fits : FitsSigned w64 c.args.seen = c.ranges.seen in
    let bound_fits : FitsSigned w64 c.fine.result = search rules in
    let gap_fits : FitsSigned w64 c.job.inside.gap = search rules in
    let seen = to_z-of_z w64 c.args.seen seen_fits in
    let bound = to_z-of_z w64 c.fine.result bound_fits in
    let gap = to_z-of_z w64 c.job.inside.gap gap_fits in
    let start : IsAtMost (cost_in c.job.inside.start) c.args.seen = rw (seen, c.cost_in.ensures) at (c.is_at_most.ensures at_most) in
    subst (λ (j : Job). IsCalledFor j.instance j.gap (start_cost j) c.args.square (Some c.args.seen)) c.job.view_is
    (called_for c.job.inside.instance c.job.inside.gap (cost_in c.job.inside.start) c.cost_in-2.result c.cost_in-3.result c.args.square c.args.seen c.fine.result level (sym c.excluded.ensures ∙ excluded) start c.fine.ensures.value
    (rw (seen, bound, gap) at (sym c.reaches.ensures ∙ short))
    (c.cost_in-2.ensures ∙ c.opening-opening.ensures.cost) (rw seen at (c.is_none_or_at_least.ensures opening))
    (c.cost_in-3.ensures ∙ c.centre_site-centre.ensures.cost) (rw seen at (c.is_none_or_at_least-2.ensures centre)))
