use Rattle.std.proofs.Common.{◌∙◌, arith}
use Rattle.port_io.proofs.SinkLemmas.{Took-more}
use Rattle.port_io.proofs.buffered.write_all.Goals as goal

pub loop-at-preserved : goal.loop-at-preserved
loop-at-preserved g c = record {
  within = omega (arith, c.in-Ok.ensures.bound);
  took = Took-more _ _ _ _ _ _ _ _ c.loop-at.invariant.room c.loop-at.invariant.took c.in-Ok.ensures.bytes;
  room = cc;
  later = omega (arith, c.in-Ok.ensures.cause.later);
  quiet = λ strict. c.in-Ok.ensures.strict strict ∙ c.loop-at.invariant.quiet strict;
}
