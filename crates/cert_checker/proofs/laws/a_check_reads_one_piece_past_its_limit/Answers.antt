use Rattle.std.proofs.Common.{ℕ, ◌+◌, ◌≤◌, List, length, ap, inl, inr, arith}
use Rattle.std.proofs.lemmas.List.{length-append}
use Rattle.cert_checker.specs.CheckReading.{IsNeededSoFar}
use Rattle.cert_checker.proofs.laws.a_check_reads_one_piece_past_its_limit.Goals as goal

near_limit : (got : List ℕ) → IsNeededSoFar got → length got ≤ 1073741824 + 4096
near_limit got (inl none) = omega (arith, ap length none)
near_limit got (inr last) = omega (arith, ap length last.parts, length-append last.front last.piece, last.few, last.before.within)

pub returns : goal.returns
returns c = near_limit
