-- Lines of nodes, one after another.
use Rattle.std.specs.Prelude.{◌≡◌, ℕ, ◌+◌, List, [], ◌∷◌, map, Option, None, Result, IfOk}
use Rattle.std.specs.Result.{result_err}
use Rattle.siting_definitions.specs.Marks.{Tally, tally_of}
use Rattle.siting_definitions.specs.Answer.{Head}
use Rattle.discard_log.specs.declared.node.Node.{Node}
use Rattle.discard_log.specs.Nodes.{mark_of}
use Rattle.cert_checker.specs.declared.faults.CheckFault.{CheckFault}
use Rattle.cert_checker.specs.Faults.{or_else, mark_fault_of}

-- the first fault of the lines of nodes that have so many lines above them
abbrev pub lines_fault : Head → ℕ → List Node → Option CheckFault
lines_fault h above [] = None
lines_fault h above (n ∷ ns) =
    or_else (mark_fault_of h n.square n.mark (above + 1)) (lines_fault h (above + 1) ns)

-- what a check of such lines gives: their first fault, or the tally of their marks
pub record AreChecked (h : Head) (above : ℕ) (ns : List Node) (result : Result Tally CheckFault)
    : Type 0 where
  pub fault : result_err result ≡ lines_fault h above ns
  pub tally : IfOk result (λ t. t ≡ tally_of (map mark_of ns))
