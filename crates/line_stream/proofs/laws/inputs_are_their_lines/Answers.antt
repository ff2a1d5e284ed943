use Rattle.line_stream.proofs.InputLemmas.{bytes-input_of, are_feedless-input_of, input_of-bytes_of}
use Rattle.line_stream.proofs.laws.inputs_are_their_lines.Goals as goal

pub returns-clause-bytes : goal.returns-clause-bytes
returns-clause-bytes c = bytes-input_of

pub returns-clause-feedless : goal.returns-clause-feedless
returns-clause-feedless c = are_feedless-input_of

pub returns-clause-back : goal.returns-clause-back
returns-clause-back c = input_of-bytes_of
