use Rattle.instance_text.proofs.TextRows.{rows_of-reading, reading-rows_of}
use Rattle.instance_text.proofs.laws.text_says_its_rows.Goals as goal

pub returns : goal.returns
returns c = λ bytes i. (rows_of-reading bytes i, reading-rows_of bytes i)
