use Rattle.std.proofs.Common.{◌≡◌, ◌+◌, ◌<◌, ◌≤◌, length, rules, arith}
use Rattle.port_io.proofs.SourceLemmas.{Consumes-then, Consumes-kept, HasRest-from, at_end, by_lengths, length-read}
use Rattle.port_io.proofs.whole.read_up_to.Goals as goal

pub returns-then-count-eq0-clause-end : goal.returns-then-count-eq0-clause-end
returns-then-count-eq0-clause-end g c = at_end _ _ _ _ _ _ c.if-count-eq0.true c.loop-count.invariant.front c.in-Ok.ensures.bytes.0 c.in-Ok.ensures.bytes.1

pub returns-then-count-limit-clause-rest : goal.returns-then-count-limit-clause-rest
returns-then-count-limit-clause-rest g c = HasRest-from _ _ _ (Consumes-then _ _ _ _ _ c.loop-count.invariant.front c.in-Ok.ensures.bytes.0)

pub returns-then-is_err-clause-rest : goal.returns-then-is_err-clause-rest
returns-then-is_err-clause-rest g c = HasRest-from _ _ _ (Consumes-then _ _ _ _ _ c.loop-count.invariant.front c.in-Ok.ensures.bytes.0)

-- of what was read before no more came than the limit
pub returns-in-Err-clause-stop : goal.returns-in-Err-clause-stop
returns-in-Err-clause-stop g c =
    by_lengths (λ n. n ≤ c.args.limit) _ _ _ (Consumes-kept _ _ _ _ c.loop-count.invariant.front c.in-Err.ensures.bytes)
    (omega (arith, c.loop-count.bytes.ok, c.loop-count.invariant.short))

pub returns-then-count-eq0-clause-stop : goal.returns-then-count-eq0-clause-stop
returns-then-count-eq0-clause-stop g c =
    let more = length-read c.loop-count.bytes.items c.read.new.buf c.in-Ok.count c.in-Ok.ensures.bound in
    by_lengths (λ n. n ≤ c.args.limit) _ _ _ (Consumes-then _ _ _ _ _ c.loop-count.invariant.front c.in-Ok.ensures.bytes.0)
    (omega (arith, more, c.loop-count.bytes.ok, c.loop-count.invariant.short, c.if-count-eq0.true))

pub returns-then-count-limit-clause-stop : goal.returns-then-count-limit-clause-stop
returns-then-count-limit-clause-stop g c =
    let more = length-read c.loop-count.bytes.items c.read.new.buf c.in-Ok.count c.in-Ok.ensures.bound in
    let whole : length c.read.new.buf ≡ 4096 = search rules in
    by_lengths (λ n. (c.args.limit < n) × (n ≤ c.args.limit + 4096)) _ _ _ (Consumes-then _ _ _ _ _ c.loop-count.invariant.front c.in-Ok.ensures.bytes.0)
    (omega (arith, more, c.loop-count.bytes.ok), omega (arith, more, whole, c.in-Ok.ensures.bound, c.loop-count.bytes.ok))

pub returns-then-is_err-clause-stop : goal.returns-then-is_err-clause-stop
returns-then-is_err-clause-stop g c =
    let more = length-read c.loop-count.bytes.items c.read.new.buf c.in-Ok.count c.in-Ok.ensures.bound in
    by_lengths (λ n. n ≤ c.args.limit) _ _ _ (Consumes-then _ _ _ _ _ c.loop-count.invariant.front c.in-Ok.ensures.bytes.0)
    (omega (arith, more, c.loop-count.bytes.ok, c.loop-count.invariant.short))
