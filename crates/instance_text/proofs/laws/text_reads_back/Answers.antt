use Rattle.instance_text.proofs.ReadsBack.{reading-instance_text}
use Rattle.instance_text.proofs.laws.text_reads_back.Goals as goal

pub returns : goal.returns
returns c = reading-instance_text
