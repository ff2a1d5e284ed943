use Rattle.std.proofs.Common.{◌≡◌, List, count_by, take_all, ap, ◌∙◌, arith}
use Rattle.std.proofs.lemmas.Int.{ints}
use Rattle.std.proofs.lemmas.List.Sums.{sum_by_more}
use Rattle.edge_chain.specs.Chain.{Edge, reversed, rises}
use Rattle.edge_chain.specs.Thirds.{thirds}
use Rattle.edge_chain.proofs.WindingLemmas.{once, winding_is}
use Rattle.edge_chain.proofs.rounds.winding.Goals as goal

pub loop-e-preserved : goal.loop-e-preserved
loop-e-preserved c =
    let vs : List Edge = c.args.edges.now in
    let p = thirds c.args.p in
    let i = c.loop-e.e-index in
    let d = c.e-item.result in
    let up = ap once (c.rises-up.ensures ∙ ap (λ (e : Edge). rises e p) c.e-item.is) in
    let down = ap once (c.rises-down.ensures ∙ ap (λ (e : Edge). rises e p) (c.reversed.ensures ∙ ap reversed c.e-item.is)) in
    let risen = sum_by_more (λ (e : Edge). once (rises e p)) vs i d c.loop-e-test.true in
    let fallen = sum_by_more (λ (e : Edge). once (rises (reversed e) p)) vs i d c.loop-e-test.true in
    record {
      rising = omega (arith, c.loop-e.invariant.rising, c.once-risen.ensures.value, up, risen);
      falling = omega (arith, c.loop-e.invariant.falling, c.once-fallen.ensures.value, down, fallen);
      few_rising = omega (arith, c.loop-e.invariant.few_rising, c.once-risen.ensures.few);
      few_falling = omega (arith, c.loop-e.invariant.few_falling, c.once-fallen.ensures.few);
    }

pub returns : goal.returns
returns c =
    let vs : List Edge = c.args.edges.now in
    let p = thirds c.args.p in
    let all = take_all c.loop-e.e-index vs c.loop-e-test.false in
    let up = ap (λ (es : List Edge). count_by (λ (e : Edge). rises e p) es) all in
    let down = ap (λ (es : List Edge). count_by (λ (e : Edge). rises (reversed e) p) es) all in
    let r : c.loop-e.rising ≡ count_by (λ (e : Edge). rises e p) vs = c.loop-e.invariant.rising ∙ up in
    let f : c.loop-e.falling ≡ count_by (λ (e : Edge). rises (reversed e) p) vs = c.loop-e.invariant.falling ∙ down in
    omega (arith, ints, r, f, winding_is vs p)
