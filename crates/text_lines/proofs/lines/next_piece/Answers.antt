use Rattle.std.proofs.Common.{◌+◌, add-one, arith}
use Rattle.std.proofs.lemmas.Bool.{false_from_ne_true}
use Rattle.std.proofs.lemmas.List.{take_rest}
use Rattle.text_lines.proofs.FirstPiece.{piece_at, piece_all}
use Rattle.text_lines.proofs.lines.next_piece.Goals as goal

pub returns-in-Some-clause-first : goal.returns-in-Some-clause-first
returns-in-Some-clause-first c =
    let found = c.in-Some.ensures in
    rw (take_rest c.args.bytes.now (c.in-Some.i + 1), add-one)
    (piece_at c.args.bytes.now c.in-Some.i found.0.high (λ k below. false_from_ne_true _ (found.0.before k (omega arith) below)) found.1)

pub returns-in-None-clause-first : goal.returns-in-None-clause-first
returns-in-None-clause-first c =
    piece_all c.args.bytes.now c.requires (λ k below. false_from_ne_true _ (c.in-None.ensures k (omega arith) below))
