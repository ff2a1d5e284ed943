-- What contracts see of the source of a run.
use Rattle.std.specs.Prelude.{ℕ, Bool, List, Option}

-- what a source shows: the bytes that it has left, where it tells them, its count of faults, and
-- whether that stays in each call that doesn't fail
pub record SourceView : Type 0 where
  pub left : Option (List ℕ)
  pub faults : ℕ
  pub is_strict : Bool

-- the view of a source with these members
abbrev pub source_view : {S : Type 0} → (S → Option (List ℕ)) → (S → ℕ) → Bool → S → SourceView
source_view left faults is_strict source =
    record { left = left source; faults = faults source; is_strict = is_strict }
