use Rattle.std.proofs.Common.{◌+◌, sym, add-one, arith}
use Rattle.std.proofs.lemmas.Bool.{eq-eqb}
use Rattle.std.proofs.lemmas.List.{take_rest}
use Rattle.certificate.proofs.FormLemmas.{space_at, no_space}
use Rattle.certificate.proofs.reader.forms.at_space.Goals as goal

pub returns-then-byte-eq32 : goal.returns-then-byte-eq32
returns-then-byte-eq32 c =
    rw (take_rest c.args.bytes.now (c.loop-i.i + 1), add-one)
    (sym (space_at c.args.bytes.now c.loop-i.i c.loop-i-test.true c.loop-i.invariant (eq-eqb _ _ c.if-byte-eq32.true)))

pub returns : goal.returns
returns c = sym (no_space c.args.bytes.now (λ k below. c.loop-i.invariant k (omega arith)))
