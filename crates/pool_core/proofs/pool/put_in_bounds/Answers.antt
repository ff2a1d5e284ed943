use Rattle.std.proofs.Common.{rules, ◌≡◌, ◌+◌, ◌<◌, length, drop, FitsSigned, w64, sym, ap, ◌∙◌, arith}
use Rattle.std.proofs.lemmas.Int.{to_z-of_z}
use Rattle.siting_definitions.specs.declared.Mark.TheVariants.{Bounded}
use Rattle.discard_log.specs.LogView.{LogView}
use Rattle.discard_log.specs.Nodes.{with_mark}
use Rattle.pool_core.specs.Logged.{with_bounds_from}
use Rattle.pool_core.proofs.LoggedLemmas.{marked_length, put_from_end, put_none, put_some, some_next}
use Rattle.pool_core.proofs.pool.put_in_bounds.Goals.{in-Some, in_default}
use Rattle.pool_core.proofs.pool.put_in_bounds.Goals as goal

pub loop-i-preserved : goal.loop-i-preserved
loop-i-preserved c =
    let h = c.loop-i.invariant in
    let i = c.loop-i.i in
    let next = c.loop-i.next in
    let logged = c.loop-i.log.nodes in
    let fs = c.args.fine_bounds.now in
    let below : i < length logged = omega (arith, h.count, c.loop-i-test.true, sym (ap length c.nodes-i-end.ensures)) in
    elim c.match-bound_of.branch [
      | in-Some w ↦
          let fits : FitsSigned w64 w.in-Some.bound = search rules in
          let put = w.remark.new.self.nodes in
          let one : w.remark.new.self.nodes ≡ with_mark logged i (Bounded _) = w.remark.ensures.nodes in
          let more = put_some i next logged put _ fs w.in-Some.bound _ below h.nodes w.in-Some.ensures (to_z-of_z w64 w.in-Some.bound fits) one in
          let length_is : length put ≡ length logged = ap length one ∙ marked_length logged i _ in
          let left : next < length fs = some_next i next logged fs w.in-Some.bound below w.in-Some.ensures in
          let nodes_is = ap (λ (l : LogView). l.nodes) w.log-is in
          let spare_is = ap (λ (l : LogView). l.spare) w.log-is in
          record {
            nodes = ap (λ ns. with_bounds_from (i + 1) ns (drop c.match-bound_of.next fs)) nodes_is ∙ ap (λ n. with_bounds_from (i + 1) put (drop n fs)) w.next-is ∙ more;
            count = ap length nodes_is ∙ length_is ∙ h.count;
            within = omega (arith, below, length_is, ap length nodes_is);
            next = omega (arith, left, w.next-is);
            spare = spare_is ∙ w.remark.ensures.spare ∙ h.spare;
          }
      | in_default w ↦
          let same = put_none i next logged _ fs c.bound_of.result below h.nodes c.bound_of.ensures w.in_default.not-Some in
          let nodes_is = ap (λ (l : LogView). l.nodes) w.log-is in
          let spare_is = ap (λ (l : LogView). l.spare) w.log-is in
          record {
            nodes = ap (λ ns. with_bounds_from (i + 1) ns (drop c.match-bound_of.next fs)) nodes_is ∙ ap (λ n. with_bounds_from (i + 1) logged (drop n fs)) w.next-is ∙ same;
            count = ap length nodes_is ∙ h.count;
            within = omega (arith, below, ap length nodes_is);
            next = omega (arith, h.next, w.next-is);
            spare = spare_is ∙ h.spare;
          }
    ]

pub returns-clause-nodes : goal.returns-clause-nodes
returns-clause-nodes c =
    let end : c.loop-i.i ≡ length c.loop-i.log.nodes = omega (arith, c.loop-i.invariant.count, c.loop-i.invariant.within, c.loop-i-test.false, sym (ap length c.nodes-i-end.ensures)) in
    sym (put_from_end c.loop-i.log.nodes (drop c.loop-i.next c.args.fine_bounds.now)) ∙ sym (ap (λ n. with_bounds_from n c.loop-i.log.nodes (drop c.loop-i.next c.args.fine_bounds.now)) end) ∙ c.loop-i.invariant.nodes
