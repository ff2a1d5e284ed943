use Rattle.std.proofs.Common.{◌≡◌}
use Rattle.certificate.specs.ReaderView.{source_of, stream_of}
use Rattle.cert_checker.proofs.StepLemmas.{IsHalfway, IsWithin}
use Rattle.cert_checker.proofs.checking.read_marks.Given as goal

-- what was read is clean, and what is to come is to be checked from here on
abbrev pub invariant-loop : goal.invariant-loop
invariant-loop g l =
    let of = stream_of g.S.Source.left g.S.Source.faults g.S.Source.is_strict in
    record {
      same : source_of l.reader ≡ source_of l.fn.reader;
      few : IsWithin l.tally l.counter;
      read : IsHalfway l.fn.head (of l.fn.reader) (of l.reader) l.walk l.tally l.counter;
    }
