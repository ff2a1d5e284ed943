use Rattle.std.proofs.Common.{drop, Ok, refl, arith, length-drop}
use Rattle.std.proofs.lemmas.List.{take-append-drop, append-nil}
use Rattle.port_io.specs.Output.{stage}
use Rattle.port_io.proofs.ListLemmas.{take-rest_add}
use Rattle.port_io.proofs.PutLemmas.{PutOn-then, PutOn-stop, Put-kept}
use Rattle.port_io.proofs.buffered.Out.put.Goals as goal

pub returns-in_err-make_space : goal.returns-in_err-make_space
returns-in_err-make_space g c =
    let stopped = PutOn-stop (drop c.loop-at.at c.args.bytes.now) refl c.from_residual.ensures.0
    (PutOn-then c.loop-at.invariant.put c.in_err-make_space.ensures.put) in
    rw (append-nil, take-append-drop) at stopped

pub loop-at-preserved : goal.loop-at-preserved
loop-at-preserved g c = record {
  within = omega (arith, c.keep-at.ensures.count, length-drop c.loop-at.at c.args.bytes.now);
  put =
      let of = stage g.K.Sink.room g.K.Sink.taken g.K.Sink.faults g.K.Sink.is_strict in
      let spaced = c.make_space.new.self in
      let after = record spaced { waiting = c.keep-at.new.self } in
      let kept = Put-kept {T = Unit {0}} {E = Unit {0}} {v = tt} (of spaced) (of after) _
      (g.met.K.Sink.nothing spaced.sink.now) refl c.keep-at.ensures.kept c.in_ok-make_space.ensures.put.put.failed in
      let first = PutOn-then {r = Ok c.in_ok-make_space.field-0} c.loop-at.invariant.put c.in_ok-make_space.ensures.put in
      let both = PutOn-then {c = after} {r = Ok tt} first (record { same = refl; put = kept }) in
      rw (append-nil, take-rest_add) at both;
}
