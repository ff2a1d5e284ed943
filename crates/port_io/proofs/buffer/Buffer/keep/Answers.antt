use Rattle.std.proofs.Common.{take, arith}
use Rattle.std.proofs.lemmas.List.{length-take-le}
use Rattle.port_io.proofs.ListLemmas.{take-copied}
use Rattle.port_io.proofs.buffer.Buffer.keep.Goals as goal

pub returns-clause-kept : goal.returns-clause-kept
returns-clause-kept c =
    let len = c.self.inside.len in
    rw (← c.self.view_is) (take-copied (take len c.self.inside.bytes) _ _ c.copy_front-count.new.to len _ (length-take-le _ _ (omega arith)) (omega arith) c.copy_front-count.ensures.front)
