use Rattle.std.proofs.Common.{◌≡◌, take, map}
use Rattle.siting_definitions.specs.Marks.{tally_of}
use Rattle.discard_log.specs.Nodes.{mark_of}
use Rattle.resume_job.proofs.reopening.tally_nodes.Given as goal

abbrev pub invariant-loop-node : goal.invariant-loop-node
invariant-loop-node l = l.tally ≡ tally_of (map mark_of (take l.node-index l.nodes))
