use Rattle.pool_core.proofs.BegunLemmas.{begun_pool}
use Rattle.pool_core.proofs.laws.a_begun_pool_is_sound.Goals as goal

pub returns : goal.returns
returns c = begun_pool
