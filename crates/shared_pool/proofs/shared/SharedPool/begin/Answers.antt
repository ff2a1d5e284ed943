use Rattle.std.proofs.Common.{◌≡◌, List, [], ◌∷◌, sym, ap, ◌∙◌, subst}
use Rattle.atomic_table.specs.Table.{opening}
use Rattle.objectives.proofs.SiteSizes.{upper_of-IsCost}
use Rattle.pool_core.specs.Job.{Job, start_cost, cost_in}
use Rattle.pool_core.specs.State.{State}
use Rattle.pool_core.specs.Sound.{IsPoolOf}
use Rattle.shared_pool.specs.declared.view.View.{View}
use Rattle.shared_pool.specs.Views.{first_view}
use Rattle.shared_pool.specs.Steps.{HasSmallCosts}
use Rattle.shared_pool.specs.TableFits.{TableFits}
use Rattle.shared_pool.proofs.FirstAndLast.{as_own, first-rests, start-below, starts}
use Rattle.shared_pool.proofs.shared.SharedPool.begin.Goals as goal

pub word_in-word-requires : goal.word_in-word-requires
word_in-word-requires c = λ z e. start-below _ c.job.invariant.job z (sym c.cost_in-seen.ensures ∙ e)

pub new-requires : goal.new-requires
new-requires c =
    let about = c.of-about.result in
    let same : about.value ≡ c.args.pool = c.of-about.ensures in
    let opened : IsPoolOf about.value.job about.value = subst (λ (s : State). IsPoolOf s.job s) (sym same) (as_own c.args.job.now c.args.pool c.requires) in
    let start : start_cost about.value.job ≡ cost_in c.job.inside.start =
    ap (λ (s : State). start_cost s.job) same ∙ ap start_cost c.requires.job ∙ sym (ap start_cost c.job.view_is) in
    subst (λ (slots : List State). TableFits about (opening (c.word_in-word.result ∷ 0 ∷ []) slots (first_view about.value))) (ap (λ (s : State). s ∷ []) same ∙ sym c.in-Ok.ensures.items)
    (starts about c.word_in-word.result opened (c.word_in-word.ensures ∙ c.cost_in-seen.ensures ∙ sym start))

pub invariant_of-result-2 : goal.invariant_of-result-2
invariant_of-result-2 c =
    let about = c.of-about.result in
    let same : about.value ≡ c.args.pool = c.of-about.ensures in
    let ok = c.in-Ok-new.ensures.ok in
    let me : c.in-Ok-new.seat.me.0 ≡ first_view about.value = ap (λ m. m.0) ok.4 in
    let job : about.value.job ≡ c.args.job.now = ap (λ (s : State). s.job) same ∙ c.requires.job in
    let start : about.value.job.start ≡ c.job.inside.start = ap (λ (j : Job). j.start) job ∙ sym (ap (λ (j : Job). j.start) c.job.view_is) in
    record {
      first = ok.3;
      rests = first-rests c.in-Ok-new.seat.me about.value ok.4;
      shown_seen = c.cost_in-seen.ensures ∙ ap cost_in (sym start) ∙ sym (ap (λ (v : View). v.seen) me);
      shown_best = sym start ∙ sym (ap (λ (v : View). v.best) me);
      costs = subst HasSmallCosts (sym (ap (λ (v : View). v.first.job.instance) me ∙ ap (λ (s : State). s.job.instance) same))
          (λ z site. upper_of-IsCost c.args.pool.job.instance z c.requires.sound.job.job.instance site);
    }
