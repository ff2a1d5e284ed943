use Rattle.answer_model.proofs.NodesLemmas.{valid-nodes}
use Rattle.answer_model.proofs.laws.a_valid_answer_has_its_nodes.Goals as goal

pub returns : goal.returns
returns c = valid-nodes
