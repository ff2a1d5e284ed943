use Rattle.std.proofs.Common.{◌≤◌, List, ap, arith}
use Rattle.std.specs.Prelude.{length, is_some}
use Rattle.std.proofs.lemmas.List.{length-map}
use Rattle.siting_definitions.specs.AnswerText.{answer_text}
use Rattle.siting_definitions.specs.Answer.{Answer}
use Rattle.discard_log.specs.declared.node.Node.{Node}
use Rattle.discard_log.specs.Nodes.{mark_of}
use Rattle.certificate.proofs.LengthLemmas.{few_marks, length-answer_text}
use Rattle.search_answer.specs.Ending.{answer_of}
use Rattle.bsss_cli.proofs.TrialLemmas.{text_fits}
use Rattle.bsss_cli.proofs.commands.trial.text_in_memory.Goals as goal

pub room_for-room-requires : goal.room_for-room-requires
room_for-room-requires c =
    let a : Answer = answer_of c.args.head.now c.args.nodes.now in
    omega (arith, few_marks a c.requires, length-map c.args.nodes.now mark_of, ap (λ (ns : List Node). length ns) c.nodes.ensures)

pub taken_by-requires : goal.taken_by-requires
taken_by-requires c =
    let a : Answer = answer_of c.args.head.now c.args.nodes.now in
    let few : length (answer_text a) ≤ c.room_for-room.result =
    omega (arith, length-answer_text a c.requires.ranges c.requires.mark_ranges, c.room_for-room.ensures, length-map c.args.nodes.now mark_of, ap (λ (ns : List Node). length ns) c.nodes.ensures) in
    ap is_some
    (text_fits c.room_for-room.result c.in-Ok.sink c.put_answer.new.sink (answer_text a)
    c.in-Ok.ensures few c.in-Ok-put_answer.ensures.ok)
