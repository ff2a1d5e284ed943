use Rattle.std.proofs.lemmas.List.Sorted.{IsPermutation-map, IsPermutation-sym, IsPermutation-trans}
use Rattle.discard_log.specs.Nodes.{tree_square}
use Rattle.pool_core.proofs.pool.listed.Goals as goal

pub returns-clause-nodes : goal.returns-clause-nodes
returns-clause-nodes c = IsPermutation-trans _ _ _ c.log_waiting.ensures c.in_preorder.ensures.same

pub returns-clause-preorder : goal.returns-clause-preorder
returns-clause-preorder c t fits tree =
    c.in_preorder.ensures.preorder t fits
    (IsPermutation-trans _ _ _ (IsPermutation-sym _ _ (IsPermutation-map tree_square _ c.log_waiting.new.log.nodes c.log_waiting.ensures)) tree)
