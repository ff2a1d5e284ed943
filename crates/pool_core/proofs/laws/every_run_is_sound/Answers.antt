use Rattle.pool_core.proofs.BegunLemmas.{first_pool}
use Rattle.pool_core.proofs.SoundSteps.{sound_run}
use Rattle.pool_core.proofs.TreeKept.{tree-tiles}
use Rattle.pool_core.proofs.laws.every_run_is_sound.Goals as goal

pub returns-clause-first : goal.returns-clause-first
returns-clause-first c = first_pool

pub returns-clause-sound : goal.returns-clause-sound
returns-clause-sound c = λ before after events sound run. sound_run events before after run sound

pub returns-clause-tiles : goal.returns-clause-tiles
returns-clause-tiles c = λ w sound. tree-tiles w.state sound.consistent.tree
