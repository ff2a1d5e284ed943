use Rattle.std.proofs.Common.{sym, arith}
use Rattle.siting_definitions.specs.Point.{Place}
use Rattle.siting_definitions.specs.Excluded.{is_right_of}
use Rattle.exclusion.proofs.ExcludedLemmas.{some_edge_at, some_edge_more, some_edge_none}
use Rattle.exclusion.proofs.test.has_edge_beside.Goals as goal

pub returns-then-is_right_of_edge : goal.returns-then-is_right_of_edge
returns-then-is_right_of_edge c =
    sym (some_edge_at (λ (e : Place × Place). is_right_of e.0 e.1 c.args.sq) c.args.polygon.now c.loop-i.i (omega arith) (sym c.if-is_right_of_edge.ensures))

pub loop-i-preserved : goal.loop-i-preserved
loop-i-preserved c =
    some_edge_more (λ (e : Place × Place). is_right_of e.0 e.1 c.args.sq) c.args.polygon.now c.loop-i.i (omega arith) c.loop-i.invariant
    (sym c.if-is_right_of_edge.ensures)

pub returns : goal.returns
returns c =
    sym (some_edge_none (λ (e : Place × Place). is_right_of e.0 e.1 c.args.sq) c.args.polygon.now c.loop-i.i (omega arith) c.loop-i.invariant)
