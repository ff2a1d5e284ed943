use Rattle.instance_text.proofs.FirstFaults.{first_fault-reading, reading-first_fault}
use Rattle.instance_text.proofs.laws.text_has_its_first_fault.Goals as goal

pub returns : goal.returns
returns c = λ bytes fault. (first_fault-reading bytes fault, reading-first_fault bytes fault)
