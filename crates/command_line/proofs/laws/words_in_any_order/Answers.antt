use Rattle.command_line.proofs.OrderLemmas.{same_command}
use Rattle.command_line.proofs.laws.words_in_any_order.Goals as goal

pub returns : goal.returns
returns c = same_command
