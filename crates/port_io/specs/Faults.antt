-- The count of faults of a port, and what makes a call answer that the port failed.
use Rattle.std.specs.Prelude.{◌≡◌, ◌≢◌, ℕ, ◌+◌, ◌<◌, ◌≤◌, min, if◌then◌else◌, Result, OnErr, is_err}

-- the last value of a count, 2 ^ 64 - 1, at which it stands still
abbrev pub last_count : ℕ
last_count = 18446744073709551615

-- one more, up to the last value of a count
abbrev pub next_count : ℕ → ℕ
next_count n = min (n + 1) last_count

-- a count rose in a call: it is greater after the call than before, unless it stands at its last
-- value
abbrev pub Rose : ℕ → ℕ → Type 0
Rose before after = after ≢ last_count → before < after

-- the count never falls, and a call failed only where the count rose in it
pub record HasCause {T E : Type 0} (before after : ℕ) (result : Result T E) : Type 0 where
  pub later : before ≤ after
  pub failed : OnErr result (Rose before after)

-- a call that failed was counted once, and one that didn't left the count as it was
abbrev pub CountsFaults : {T E : Type 0} → ℕ → ℕ → Result T E → Type 0
CountsFaults before after result = after ≡ (if is_err result then next_count before else before)
