-- What a pool answers.
use Rattle.std.specs.Prelude.{◌≡◌, ◌<◌, ◌⊎◌, if◌then◌else◌, [], length, Some, None}
use Rattle.pool_core.specs.declared.lease.LeaseAnswer.{LeaseAnswer}
use Rattle.pool_core.specs.declared.lease.LeaseAnswer.TheVariants.{Stopped, Done, Idle, Leased}
use Rattle.pool_core.specs.declared.give_back.Given.{Given}
use Rattle.pool_core.specs.declared.give_back.Given.TheVariants.{Logged, Raised, Parted, Kept}
use Rattle.pool_core.specs.declared.verdict.Finding.{Finding}
use Rattle.pool_core.specs.declared.verdict.Finding.TheVariants.{Excluded, Bounded}
use Rattle.pool_core.specs.declared.verdict.Finding.TheVariants.{Raise, Part, Floor}
use Rattle.pool_core.specs.State.{State}
use Rattle.pool_core.specs.Machine.{Leases, Halts, is_kept}

-- each answer to one who asks for a lease, exactly where it comes
abbrev pub LeaseAnswers : LeaseAnswer → State → State → Type 0
LeaseAnswers (Stopped stop) before after =
    (after.stop ≡ Some stop) × ((after ≡ before) ⊎ Halts before after)
LeaseAnswers Done before after =
    (before.stop ≡ None) × (before.waiting ≡ []) × (before.leased ≡ []) × (after ≡ before)
LeaseAnswers Idle before after =
    (before.stop ≡ None) × (before.waiting ≡ []) × (0 < length before.leased) × (after ≡ before)
LeaseAnswers (Leased e) before after = Leases e before after

-- what became of a square, by the finding that was carried out
abbrev pub given_by : Finding → Given
given_by Excluded = Logged
given_by (Bounded b) = Logged
given_by (Raise b) = Raised
given_by (Part b) = Parted
given_by (Floor b) = Logged

-- the answer to one who gives a lease back
abbrev pub given_of : State → Finding → Given
given_of s finding = if is_kept s finding then Kept else given_by finding
