-- Bounds and marks stay right: what a finding adds fits, and what fits stays so where the least upper cost falls.
use Rattle.std.proofs.Common.{◌≡◌, ℤ, ◌+ℤ◌, ◌≤ℤ◌, true, false, cond, List, [], ◌∷◌, ◌++◌, Option, None, Some, refl, sym, subst, arith}
use Rattle.std.specs.Prelude.{⊤, MatchOption, All}
use Rattle.std.proofs.lemmas.Bool.{cond_both, false≢true}
use Rattle.std.proofs.lemmas.Int.{ints}
use Rattle.std.proofs.lemmas.List.Elements.{All-nil, All-cons, All-head, All-tail, All-append, All-map, All-weaker}
use Rattle.std.proofs.lemmas.List.Sorted.{All-permutation}
use Rattle.siting_definitions.specs.declared.Mark.{Mark}
use Rattle.siting_definitions.specs.declared.Mark.TheVariants.{Split, Shut, Left, Bounded as BoundedMark, Floor as FloorMark}
use Rattle.siting_definitions.specs.Point.{Pt}
use Rattle.siting_definitions.specs.Instance.{Instance}
use Rattle.siting_definitions.specs.Square.{Square, quarter_of, quarters}
use Rattle.siting_definitions.specs.Bounds.{fine_of}
use Rattle.siting_definitions.specs.Sites.{opening_cost, centre_cost}
use Rattle.siting_definitions.specs.Marks.{IsAtMost, IsNoneOrAtLeast, SeenFits, reaches}
use Rattle.siting_definitions.proofs.Integers.{le_trans_ℤ}
use Rattle.dyadic_square.proofs.Within.{quarters-all}
use Rattle.objectives.proofs.QuarterLemmas.{fine_of-quarter}
use Rattle.discard_log.specs.declared.node.Node.{Node}
use Rattle.bound_heap.specs.declared.entry.Entry.{Entry}
use Rattle.pool_core.specs.declared.verdict.Finding.{Finding}
use Rattle.pool_core.specs.declared.verdict.Finding.TheVariants.{Excluded, Bounded, Raise, Part, Floor}
use Rattle.pool_core.specs.Job.{Job, IsLawful, start_cost, cost_in}
use Rattle.pool_core.specs.State.{State}
use Rattle.pool_core.specs.Verdict.{is_part}
use Rattle.pool_core.specs.Machine.{Leases, Returns, IsSeen, nodes_from, entries_from, is_kept}
use Rattle.pool_core.specs.Sound.{EntryFits, LoggedFits, NodeFits}
use Rattle.pool_core.proofs.VerdictLemmas.{FindingFits, reaches-true, reaches-false}

-- ---- the least upper cost falls from u to v
-- the incumbent may fall, and be found
abbrev pub Falls : Option ℤ → Option ℤ → Type 0
Falls u v = (z : ℤ) → IsAtMost u z → IsAtMost v z

-- a number at most a is at most all above a
pub at_most-more : (u : Option ℤ) (a b : ℤ) → a ≤ℤ b → IsAtMost u a → IsAtMost u b
at_most-more None a b le h = h
at_most-more (Some n) a b le h = le_trans_ℤ n a b h le

-- a mark stays right where the incumbent falls
pub mark-falls : (i : Instance) (gap : ℤ) (u v : Option ℤ) (s : Square) (m : Mark) → Falls u v → LoggedFits i gap u s m → LoggedFits i gap v s m
mark-falls i gap u v s (Split None) falls h = record { level = h.level; open_square = h.open_square; seen = h.seen }
mark-falls i gap u v s (Split (Some n)) falls h = record {
  level = h.level;
  open_square = h.open_square;
  seen = (falls n h.seen.0, h.seen.1, h.seen.2, h.seen.3);
}
mark-falls i gap u v s Shut falls h = h
mark-falls i gap u v s (BoundedMark c) falls h = (h.0, h.1, falls (c +ℤ gap) h.2)
mark-falls i gap u v s (FloorMark b) falls h = h
mark-falls i gap u v s (Left b) falls h = h

-- marks stay right where the incumbent falls
pub nodes-fall : (i : Instance) (gap : ℤ) (u v : Option ℤ) (ns : List Node) → Falls u v → All (NodeFits i gap u) ns → All (NodeFits i gap v) ns
nodes-fall i gap u v ns falls h =
    All-weaker (NodeFits i gap u) (NodeFits i gap v) (λ n. mark-falls i gap u v n.square n.mark falls) ns h

-- ---- what was seen when a square is cut
no_opening : (opening : Option ℤ) (start : Option (Pt × ℤ)) → MatchOption opening ⊤ (IsAtMost (cost_in start)) → start ≡ None → opening ≡ None
no_opening None start lawful none = refl
no_opening (Some z) start lawful none = absurd (subst (λ (o : Option (Pt × ℤ)). IsAtMost (cost_in o) z) none lawful)

no_centre : (centre : Option ℤ) → MatchOption centre ⊤ (IsAtMost None) → centre ≡ None
no_centre None h = refl
no_centre (Some z) h = absurd h

past_opening : (opening start : Option ℤ) (v : ℤ) → MatchOption opening ⊤ (IsAtMost start) → IsNoneOrAtLeast start v → IsNoneOrAtLeast opening v
past_opening None start v lawful seen = tt
past_opening (Some z) None v lawful seen = absurd lawful
past_opening (Some z) (Some n) v lawful seen = le_trans_ℤ v n z seen lawful

past_centre : (centre : Option ℤ) (v : ℤ) → MatchOption centre ⊤ (IsAtMost (Some v)) → IsNoneOrAtLeast centre v
past_centre None v h = tt
past_centre (Some z) v h = h

-- what was seen fits a split that wasn't settled
seen-fits : (j : Job) (u seen : Option ℤ) (s : Square) → IsLawful j → IsSeen j u seen → MatchOption (centre_cost j.instance s) ⊤ (IsAtMost seen) → reaches seen (fine_of j.instance s +ℤ j.gap) ≡ false → SeenFits j.instance j.gap u s seen
seen-fits j u None s lawful seen centre short =
    (no_opening (opening_cost j.instance) j.start lawful.opening seen, no_centre (centre_cost j.instance s) centre)
seen-fits j u (Some v) s lawful seen centre short = (
  seen.0,
  reaches-false v (fine_of j.instance s +ℤ j.gap) short,
  past_opening (opening_cost j.instance) (start_cost j) v lawful.opening seen.1,
  past_centre (centre_cost j.instance s) v centre,
)

seen-falls : (j : Job) (u seen : Option ℤ) (z : ℤ) → IsSeen j u seen → IsAtMost seen z → IsAtMost u z
seen-falls j u None z seen h = absurd h
seen-falls j u (Some v) z seen h = at_most-more u v z h seen.0

-- ---- what a finding adds
one_node : (j : Job) (u : Option ℤ) (s : Square) (m : Mark) → LoggedFits j.instance j.gap u s m → All (NodeFits j.instance j.gap u) (record { square = s; mark = m } ∷ [])
one_node j u s m h =
    All-cons (NodeFits j.instance j.gap u) (record { square = s; mark = m }) [] h (All-nil (NodeFits j.instance j.gap u))

-- the node that a finding makes has a right mark
pub nodes_from-fit : (j : Job) (e : Entry) (u seen : Option ℤ) (f : Finding) → IsLawful j → IsSeen j u seen → (is_part f ≡ true → MatchOption (centre_cost j.instance e.square) ⊤ (IsAtMost seen)) → FindingFits j e seen f → All (NodeFits j.instance j.gap u) (nodes_from e.square seen f)
nodes_from-fit j e u seen Excluded lawful was centre h = one_node j u e.square Shut h
nodes_from-fit j e u seen (Bounded c) lawful was centre h =
    one_node j u e.square (BoundedMark c) (h.0, h.1, seen-falls j u seen (c +ℤ j.gap) was (reaches-true seen (c +ℤ j.gap) h.2))
nodes_from-fit j e u seen (Raise b) lawful was centre h = All-nil (NodeFits j.instance j.gap u)
nodes_from-fit j e u seen (Part b) lawful was centre h =
    one_node j u e.square (Split seen)
    (record { level = h.1; open_square = h.0; seen = seen-fits j u seen e.square lawful was (centre refl) h.3 })
nodes_from-fit j e u seen (Floor b) lawful was centre h = one_node j u e.square (FloorMark b) h

-- the entries that a finding makes have right bounds
pub entries_from-fit : (j : Job) (e : Entry) (seen : Option ℤ) (f : Finding) → FindingFits j e seen f → All (EntryFits j.instance) (entries_from e.square f)
entries_from-fit j e seen Excluded h = All-nil (EntryFits j.instance)
entries_from-fit j e seen (Bounded c) h = All-nil (EntryFits j.instance)
entries_from-fit j e seen (Raise b) h =
    All-cons (EntryFits j.instance) (record { square = e.square; bound = b; raised = true }) []
    (record { bound = omega (arith, ints, h.2); raised = λ _. (h.2, h.0) }) (All-nil (EntryFits j.instance))
entries_from-fit j e seen (Part b) h =
    let quarter : Square → Entry = λ q. record { square = q; bound = b; raised = false } in
    All-map (EntryFits j.instance) quarter (quarters e.square)
    (quarters-all (λ q. EntryFits j.instance (quarter q)) e.square
    (λ k. record {
      bound = le_trans_ℤ b (fine_of j.instance e.square) (fine_of j.instance (quarter_of e.square k)) h.2 (fine_of-quarter j.instance e.square k h.1);
      raised = λ yes. absurd (false≢true yes);
    }))
entries_from-fit j e seen (Floor b) h = All-nil (EntryFits j.instance)

-- ---- the lists of a state
module _ (i : Instance) where
  -- an entry that is leased is right where all that waited were
  pub lease-fits : (e : Entry) (before after : State) → Leases e before after → All (EntryFits i) before.waiting → EntryFits i e
  lease-fits e before after h waiting =
      All-head (EntryFits i) e after.waiting (All-permutation (EntryFits i) before.waiting (e ∷ after.waiting) h.waiting waiting)

  pub leased-fits : (e : Entry) (before after : State) → Leases e before after → All (EntryFits i) before.waiting → All (EntryFits i) before.leased → All (EntryFits i) after.leased
  leased-fits e before after h waiting leased =
      All-permutation (EntryFits i) (e ∷ before.leased) after.leased h.leased
      (All-cons (EntryFits i) e before.leased (lease-fits e before after h waiting) leased)

  pub left-fits : (e : Entry) (before after : State) → Leases e before after → All (EntryFits i) before.waiting → All (EntryFits i) after.waiting
  left-fits e before after h waiting =
      All-tail (EntryFits i) e after.waiting (All-permutation (EntryFits i) before.waiting (e ∷ after.waiting) h.waiting waiting)

  pub entry-fits : (e : Entry) (seen : Option ℤ) (f : Finding) (before after : State) → Returns e seen f before after → All (EntryFits i) before.leased → EntryFits i e
  entry-fits e seen f before after h leased =
      All-head (EntryFits i) e after.leased (All-permutation (EntryFits i) before.leased (e ∷ after.leased) h.leased leased)

  pub still-fit : (e : Entry) (seen : Option ℤ) (f : Finding) (before after : State) → Returns e seen f before after → All (EntryFits i) before.leased → All (EntryFits i) after.leased
  still-fit e seen f before after h leased =
      All-tail (EntryFits i) e after.leased (All-permutation (EntryFits i) before.leased (e ∷ after.leased) h.leased leased)

  pub waiting-fits : (e : Entry) (seen : Option ℤ) (f : Finding) (before after : State) → Returns e seen f before after → EntryFits i e → All (EntryFits i) (entries_from e.square f) → All (EntryFits i) before.waiting → All (EntryFits i) after.waiting
  waiting-fits e seen f before after h here more waiting =
      let news = cond (is_kept before f) (e ∷ []) (entries_from e.square f) in
      let fit : All (EntryFits i) news =
      cond_both (is_kept before f) (e ∷ []) (entries_from e.square f) (All (EntryFits i)) (λ _. All-cons (EntryFits i) e [] here (All-nil (EntryFits i))) (λ _. more) in
      All-permutation (EntryFits i) (news ++ before.waiting) after.waiting h.waiting (All-append (EntryFits i) news before.waiting fit waiting)

-- of the nodes of a finding, those that are made have right marks
pub nodes-fit : (i : Instance) (gap : ℤ) (u : Option ℤ) (e : Entry) (seen : Option ℤ) (f : Finding) (before after : State) → Returns e seen f before after → All (NodeFits i gap u) (nodes_from e.square seen f) → All (NodeFits i gap u) before.nodes → All (NodeFits i gap u) after.nodes
nodes-fit i gap u e seen f before after h more nodes =
    let P = NodeFits i gap u in
    let news = cond (is_kept before f) [] (nodes_from e.square seen f) in
    let fit : All P news = cond_both (is_kept before f) [] (nodes_from e.square seen f) (All P) (λ _. All-nil P) (λ _. more) in
    subst (All P) (sym h.nodes) (All-append P before.nodes news nodes fit)
