use Rattle.std.proofs.Common.{rules}
use Rattle.std.proofs.lemmas.List.Sorted.{answers_always}
use Rattle.edge_chain.specs.Order.{key}
use Rattle.edge_chain.proofs.cancelling.sorted.Goals as goal

pub returns-clause-order : goal.returns-clause-order
returns-clause-order c = c.sort_unstable_by_key.ensures.sorted key (answers_always _ _ _ (λ f a r g k. search rules))
