use Rattle.std.proofs.Common.{arith, nat_le, Bool, true, false, ◌≡◌, ◌<◌, length, Some, None, List, ℕ, cond, refl, ◌∙◌}
use Rattle.certificate.specs.PartReading.{kept_part, part_limit}
use Rattle.certificate.proofs.CanonicalLemmas.{too_long}
use Rattle.certificate.proofs.reader.canonical.canonical_instance.Goals as goal

is_over : (bytes : List ℕ) → None ≡ kept_part bytes → part_limit < length bytes
is_over bytes e = by_test (nat_le (length bytes) part_limit) refl e
  where
    by_test : (t : Bool) → nat_le (length bytes) part_limit ≡ t → None ≡ cond t (Some bytes) None → part_limit < length bytes
    by_test true h e = let none : None ≡ Some bytes = e in cc
    by_test false h e = grind arith

pub returns-in_default-clause-value : goal.returns-in_default-clause-value
returns-in_default-clause-value c bytes kept = too_long c.args.second bytes (is_over bytes (c.in_default.ensures ∙ kept))
