use Rattle.std.proofs.Common.{◌≡◌, ◌+◌, take}
use Rattle.pair_check.proofs.LineLemmas.{AreCounted}
use Rattle.pair_check.proofs.parts.check_lines.Given as goal

-- the lines so far have no fault, and are counted
abbrev pub invariant-loop-node : goal.invariant-loop-node
invariant-loop-node l =
    AreCounted l.fn.head l.fn.above (take l.node-index l.nodes) l.tally
    × (l.line ≡ l.fn.above + l.node-index)
