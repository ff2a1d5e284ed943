use Rattle.std.proofs.Common.{◌≡◌, ◌+◌, ◌<◌, ◌^◌}
use Rattle.std.specs.Prelude.{vec_len}
use Rattle.certificate.specs.ReaderView.{source_of, line_of, stream_of}
use Rattle.cert_checker.proofs.StepLemmas.{IsWithin}
use Rattle.pair_check.specs.Batches.{tally_with}
use Rattle.pair_check.proofs.BatchLemmas.{IsHalfway}
use Rattle.pair_check.proofs.checking.read_marks.Given as goal

-- what was read is what the batch says, with what is to come
abbrev pub invariant-loop : goal.invariant-loop
invariant-loop g l =
    let of = stream_of g.S.Source.left g.S.Source.faults g.S.Source.is_strict in
    record {
      same : source_of l.reader ≡ source_of l.fn.reader;
      short : vec_len l.batch.nodes < 65536;
      line : line_of l.reader ≡ l.batch.above + vec_len l.batch.nodes;
      fits : l.batch.above + vec_len l.batch.nodes < 2 ^ 64;
      few : IsWithin (tally_with l.batch) l.counter;
      read : IsHalfway l.fn.head (of l.fn.reader) (of l.reader) l.batch.above l.batch.nodes.items l.batch.walk l.batch.tally l.counter;
    }
