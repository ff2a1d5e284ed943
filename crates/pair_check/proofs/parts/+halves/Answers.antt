use Rattle.std.proofs.Common.{◌≡◌, ◌+◌, ◌≤◌, ◌++◌, List, length, subst, arith}
use Rattle.std.proofs.lemmas.List.{take-append-drop}
use Rattle.discard_log.specs.declared.node.Node.{Node}
use Rattle.pair_check.specs.Lines.{AreChecked}
use Rattle.pair_check.proofs.LineLemmas.{checked-small, two-parts}
use Rattle.pair_check.proofs.parts.+halves.Goals as goal

pub joined-requires-clause-first : goal.joined-requires-clause-first
joined-requires-clause-first g t c =
    let few : length c.split_at.result.0.now ≤ 65536 = omega (arith, c.requires.few, c.lines_of.ensures, c.split_at.ensures.front_len) in
    checked-small c.args.head.now c.args.above c.split_at.result.0.now c.join-one.result.0 few c.join-one.ensures.first

pub joined-requires-clause-second : goal.joined-requires-clause-second
joined-requires-clause-second g t c =
    let few : length c.split_at.result.1.now ≤ 65536 = omega (arith, c.requires.few, c.lines_of.ensures, c.split_at.ensures.back_len) in
    checked-small c.args.head.now (c.args.above + length c.split_at.result.0.now) c.split_at.result.1.now c.join-one.result.1 few c.join-one.ensures.second

pub returns : goal.returns
returns g t c =
    let whole : c.split_at.result.0.now ++ c.split_at.result.1.now ≡ c.args.nodes.now = rw (c.split_at.ensures.front, c.split_at.ensures.back) (take-append-drop c.lines_of.result c.args.nodes.now) in
    subst (λ (ns : List Node). AreChecked c.args.head.now c.args.above ns c.joined.result) whole
    (two-parts c.args.head.now c.args.above c.split_at.result.0.now c.split_at.result.1.now c.join-one.result.0 c.join-one.result.1 c.joined.result c.join-one.ensures.first c.join-one.ensures.second c.joined.ensures.fault c.joined.ensures.tally)
