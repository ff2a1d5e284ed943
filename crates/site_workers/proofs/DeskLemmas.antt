-- What the desk of a worker has seen of the centre site of its square.
use Rattle.std.proofs.Common.{◌≡◌, ℤ, false, List, Option, Some, sym, ap, ◌∙◌, subst}
use Rattle.std.specs.Prelude.{⊤, MatchOption, unwrap_or}
use Rattle.siting_definitions.specs.Point.{Pt}
use Rattle.siting_definitions.specs.Sites.{centre_cost}
use Rattle.siting_definitions.specs.Marks.{IsAtMost, lesser}
use Rattle.siting_definitions.specs.Instance.{IsInstance}
use Rattle.std.specs.Option.{ForSome}
use Rattle.bound_heap.specs.declared.entry.Entry.{Entry}
use Rattle.pool_core.specs.declared.verdict.Bounds.{Bounds}
use Rattle.pool_core.specs.Job.{Job}
use Rattle.pool_core.specs.Sound.{EntryFits}
use Rattle.shared_pool.specs.declared.deed.Deed.{Deed}
use Rattle.shared_pool.specs.declared.view.View.{View}
use Rattle.shared_pool.specs.Views.{view_after_offer}
use Rattle.shared_pool.proofs.Incumbents.{lesser-offer}
use Rattle.site_workers.specs.Centre.{may_be_cheaper}
use Rattle.site_workers.specs.Team.{HasBounds, HasSeenCentre}
use Rattle.site_workers.proofs.CentreLemmas.{spared}

-- an offer of the centre site sees at most its cost
pub seen-after-offer : (v w : View) (deeds : List Deed) (u : Option ℤ) (site : Pt) (upper : ℤ) (e : Entry) → v.lease ≡ Some e → centre_cost v.first.job.instance e.square ≡ Some upper → w ≡ view_after_offer v deeds u site upper → HasSeenCentre w
seen-after-offer v w deeds u site upper e lease cost is =
    subst HasSeenCentre (sym is)
    (λ other has.
    let same : centre_cost v.first.job.instance other.square ≡ Some upper
    = ap (λ (o : Option Entry). centre_cost v.first.job.instance (unwrap_or o e).square) (sym has ∙ lease) ∙ cost in
    subst (λ (c : Option ℤ). MatchOption c ⊤ (IsAtMost (lesser u (Some upper)))) (sym same) (lesser-offer u upper))

-- so does a desk where the centre site can't be cheaper than what it has seen
pub seen-without-offer : (j : Job) (v : View) (bounds : Bounds) (seen : Option ℤ) → IsInstance j.instance → v.first.job ≡ j → ForSome v.lease (EntryFits v.first.job.instance) → HasBounds j v bounds → seen ≡ v.seen → may_be_cheaper bounds seen ≡ false → HasSeenCentre v
seen-without-offer j v bounds seen lawful job fits known same no_cheaper e has =
    subst (λ (k : Job). MatchOption (centre_cost k.instance e.square) ⊤ (IsAtMost v.seen)) (sym job)
    (spared j e v.seen lawful (subst (λ (k : Job). EntryFits k.instance e) job (fits e has))
    (ap (λ (b : Bounds). may_be_cheaper b v.seen) (sym (known e has)) ∙ ap (may_be_cheaper bounds) (sym same) ∙ no_cheaper))
