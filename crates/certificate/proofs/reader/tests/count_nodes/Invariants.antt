use Rattle.std.proofs.Common.{◌≡◌, ◌≤◌, IfSome, IfNone}
use Rattle.certificate.specs.ReaderView.{coming, source_of, faults_of}
use Rattle.certificate.proofs.reader.tests.count_nodes.Given as goal

-- the source goes on telling, and its count has not fallen
abbrev pub invariant-loop-count : goal.invariant-loop-count
invariant-loop-count g l = record {
  same : source_of l.reader ≡ source_of l.initial.reader;
  told : IfSome (g.S.Source.left l.fn.source) (λ _. IfNone (coming g.S.Source.left l.reader) ⊥);
  later : g.S.Source.faults l.fn.source ≤ faults_of g.S.Source.faults l.reader;
}
