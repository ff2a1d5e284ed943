use borrow.Author.Count.{below_more}
use Rattle.std.proofs.Common.{◌≡◌, ℕ, slice_index_or, sym, ◌∙◌}
use Rattle.std.proofs.lemmas.Bool.{true≢false}
use Rattle.std.proofs.lemmas.List.{get_or_read}
use Rattle.pool_core.proofs.Entries.{entry_decides}
use Rattle.pool_core.proofs.give_back.index_of.Goals as goal

pub returns-then-eq-clause-value : goal.returns-then-eq-clause-value
returns-then-eq-clause-value c =
    let same : c.index-entries-i.result ≡ c.args.entry.now = (entry_decides c.index-entries-i.result c.args.entry.now).0 (sym c.eq.ensures ∙ c.if-eq.true) in
    sym same ∙ get_or_read c.args.entries.now c.loop-i.i c.index-entries-i.result c.loop-i-test.true c.index-entries-i.is c.args.entry.now

pub loop-i-preserved : goal.loop-i-preserved
loop-i-preserved c =
    below_more (λ (k : ℕ). slice_index_or c.args.entries.now k c.args.entry.now ≡ c.args.entry.now → ⊥) c.loop-i.i c.loop-i.invariant
    (λ here.
    let read = get_or_read c.args.entries.now c.loop-i.i c.index-entries-i.result c.loop-i-test.true c.index-entries-i.is c.args.entry.now in
    let same = (entry_decides c.index-entries-i.result c.args.entry.now).1 (read ∙ here) in
    true≢false (sym same ∙ sym c.eq.ensures ∙ c.if-eq.false))
