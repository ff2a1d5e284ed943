use Rattle.std.proofs.Common.{◌≡◌, Bool, true, false, sym, ◌∙◌, ap}
use Rattle.siting_definitions.specs.Polygon.{covers}
use Rattle.convex_region.proofs.Edges.{each_edge_more, each_edge_fails, each_edge_all}
use Rattle.siting_definitions.specs.Point.{Place}
use Rattle.edge_chain.specs.Chain.{Edge}
use Rattle.edge_chain.specs.Piece.{at, is_left}
use Rattle.edge_chain.proofs.piece.covers.Goals as goal

test : Place → Edge → Bool
test v e = is_left e (at v)

pub returns-then-not-is_left : goal.returns-then-not-is_left
unfolding test covers
returns-then-not-is_left c =
    let out : c.is_left.result ≡ false = c.if-not-is_left.true in
    sym (each_edge_fails (test c.args.v) c.args.piece.now c.loop-i.i c.loop-i-test.true (ap (test c.args.v) (sym c.edge_at.ensures) ∙ sym c.is_left.ensures ∙ out))

pub loop-i-preserved : goal.loop-i-preserved
unfolding test
loop-i-preserved c =
    let within : c.is_left.result ≡ true = c.if-not-is_left.false in
    each_edge_more (test c.args.v) c.args.piece.now c.loop-i.i c.loop-i-test.true c.loop-i.invariant (ap (test c.args.v) (sym c.edge_at.ensures) ∙ sym c.is_left.ensures ∙ within)

pub returns : goal.returns
unfolding test covers
returns c = sym (each_edge_all (test c.args.v) c.args.piece.now c.loop-i.i c.loop-i-test.false c.loop-i.invariant)
