use Rattle.certificate.proofs.MarkForms.{read_node, node_back, read_end, end_back}
use Rattle.certificate.proofs.HeadLemmas.{read_head, head_back}
use Rattle.certificate.proofs.laws.texts_read_back.Goals as goal

pub returns-clause-head : goal.returns-clause-head
returns-clause-head c = read_head

pub returns-clause-head_back : goal.returns-clause-head_back
returns-clause-head_back c = head_back

pub returns-clause-mark : goal.returns-clause-mark
returns-clause-mark c = read_node

pub returns-clause-mark_back : goal.returns-clause-mark_back
returns-clause-mark_back c = node_back

pub returns-clause-end : goal.returns-clause-end
returns-clause-end c = λ line. (read_end line, end_back line)
