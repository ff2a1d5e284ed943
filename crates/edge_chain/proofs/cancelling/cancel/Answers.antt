use Rattle.std.proofs.Common.{length, map, sym, ◌∙◌, ap, arith}
use Rattle.std.proofs.lemmas.List.{length-map}
use Rattle.std.proofs.lemmas.List.Sorted.{length_permutation}
use Rattle.edge_chain.specs.Chain.{reversed}
use Rattle.edge_chain.proofs.CancelLemmas.{cancel_by_sort}
use Rattle.edge_chain.proofs.cancelling.cancel.Goals as goal

pub same-requires : goal.same-requires
same-requires c =
    let xs = length_permutation _ _ c.sorted-edges.ensures.same in
    let ys = length_permutation _ _ c.sorted-back.ensures.same in
    let back = ap length c.in_ok-reversed.ensures ∙ length-map _ reversed ∙ ap length c.as_slice.ensures.value in
    omega (arith, xs, ys, back, ap length c.as_slice-2.ensures.value, ap length c.as_slice-3.ensures.value)

pub returns : goal.returns
returns c =
    let both = cancel_by_sort c.args.edges.items c.in_ok-reversed.field-0.items c.sorted-edges.result.items c.sorted-back.result.items (c.in_ok-reversed.ensures ∙ ap (map reversed) c.as_slice.ensures.value) c.sorted-edges.ensures.same c.sorted-back.ensures.same c.sorted-edges.ensures.order c.sorted-back.ensures.order in (
      λ yes. both.0 (sym c.as_slice-2.ensures.value ∙ c.same.ensures.0 yes ∙ c.as_slice-3.ensures.value),
      λ cancels. c.same.ensures.1 (c.as_slice-2.ensures.value ∙ both.1 cancels ∙ sym c.as_slice-3.ensures.value),
    )
