-- What the calls on a desk answer, and how they change what the desk knows.
use Rattle.std.specs.Prelude.{◌≡◌, ℤ, true, Option, Some, MatchOption, ⊤}
use Rattle.std.specs.Option.{ForSome}
use Rattle.siting_definitions.specs.Sites.{centre_cost}
use Rattle.siting_definitions.specs.Marks.{IsAtMost}
use Rattle.bound_heap.specs.declared.entry.Entry.{Entry}
use Rattle.pool_core.specs.declared.lease.LeaseAnswer.{LeaseAnswer}
use Rattle.pool_core.specs.declared.lease.LeaseAnswer.TheVariants as answers
use Rattle.pool_core.specs.declared.give_back.Given.{Given}
use Rattle.pool_core.specs.declared.verdict.Bounds.{Bounds}
use Rattle.pool_core.specs.declared.verdict.Finding.{Finding}
use Rattle.pool_core.specs.Verdict.{bounds_of, finding_of, is_part}
use Rattle.pool_core.specs.Machine.{Returns}
use Rattle.pool_core.specs.PoolAnswers.{LeaseAnswers, given_of}
use Rattle.shared_pool.specs.declared.view.View.{View}
use Rattle.shared_pool.specs.declared.leasing.TryLease.{TryLease}
use Rattle.shared_pool.specs.declared.leasing.TryLease.TheVariants as leasing
use Rattle.shared_pool.specs.declared.returning.TryReturn.{TryReturn}
use Rattle.shared_pool.specs.declared.returning.TryReturn.TheVariants as returning
use Rattle.shared_pool.specs.Views.{view_after_loss, view_after_win, view_after_lease}
use Rattle.shared_pool.specs.Views.{view_after_return}
use Rattle.shared_pool.specs.Runs.{AddsAnswer, AddsReturn}

-- The desk took the turn and found a pool, which gave this answer to one who asked for a lease, and
-- gave the turn with the pool as the answer left it.
pub record IsAnswered (answer : LeaseAnswer) (before after : View) : Type 0 where
  pub answers : LeaseAnswers answer after.taken after.given
  pub view_is : after
      ≡ view_after_lease (view_after_win before after.taken) after.deeds answer after.given
  pub adds : AddsAnswer answer before after

-- each answer of `try_lease`
abbrev pub TriesLease : TryLease → View → View → Type 0
TriesLease leasing.Busy before after = after ≡ view_after_loss before
TriesLease (leasing.Stopped stop) before after = IsAnswered (answers.Stopped stop) before after
TriesLease leasing.Done before after = IsAnswered answers.Done before after
TriesLease leasing.Idle before after = IsAnswered answers.Idle before after
TriesLease leasing.Got before after =
    (lease : Entry) × IsAnswered (answers.Leased lease) before after

-- The desk took the turn and found a pool, gave its lease back to it with the finding by the number
-- that it has seen, and gave the turn with the pool as that left it.
pub record IsGivenBack (given : Given) (before after : View) : Type 0 where
  pub lease : Entry
  pub lease_is : before.lease ≡ Some lease
  pub returns :
      Returns lease before.seen (finding_of before.first.job lease before.seen) after.taken
      after.given
  pub given_is : given ≡ given_of after.taken (finding_of before.first.job lease before.seen)
  pub view_is : after
      ≡ view_after_return (view_after_win before after.taken) after.deeds after.given
  pub adds : AddsReturn lease before after

-- each answer of `try_return`
abbrev pub TriesReturn : TryReturn → View → View → Type 0
TriesReturn returning.Busy before after = after ≡ view_after_loss before
TriesReturn (returning.Taken given) before after = IsGivenBack given before after

-- the finding is the one on the desk's lease, for the table's job and the number that was seen
abbrev pub IsFound : View → Option ℤ → Finding → Type 0
IsFound v seen finding = ForSome v.lease (λ lease. finding ≡ finding_of v.first.job lease seen)

-- these are the bounds of the square of the desk's lease, for the table's job
abbrev pub AreBoundsOf : View → Bounds → Type 0
AreBoundsOf v bounds = ForSome v.lease (λ lease. bounds ≡ bounds_of v.first.job lease)

-- where the finding is to split the square of the desk's lease, and the square has a centre site,
-- the number that was seen is at most the upper cost of that site
abbrev pub IsCentreSeen : View → Option ℤ → Finding → Type 0
IsCentreSeen v seen finding =
    ForSome v.lease
    (λ lease. is_part finding ≡ true
    → MatchOption (centre_cost v.first.job.instance lease.square) ⊤ (IsAtMost seen))
