-- Soundness is kept at each event, and so over every run.
use Rattle.std.proofs.Common.{◌≡◌, ℤ, cond, List, [], ◌∷◌, ◌++◌, Option, None, Some, sym, ap, ◌∙◌, subst, subst₂, append_assoc, arith}
use Rattle.std.specs.Prelude.{⊤, MatchOption, All, int_lt}
use Rattle.std.proofs.lemmas.Bool.{cond_both}
use Rattle.std.proofs.lemmas.Int.{ints, clamps}
use Rattle.siting_definitions.specs.Point.{Pt}
use Rattle.siting_definitions.specs.Instance.{Instance}
use Rattle.siting_definitions.specs.Marks.{IsAtMost, lesser}
use Rattle.discard_log.specs.declared.node.Node.{Node}
use Rattle.bound_heap.specs.declared.entry.Entry.{Entry}
use Rattle.pool_core.specs.Job.{Job, IsLawful, IsOffer, start_cost}
use Rattle.pool_core.specs.State.{State, Search, Beginning}
use Rattle.pool_core.specs.Verdict.{finding_of}
use Rattle.pool_core.specs.Machine.{Leases, Halts, Returns, nodes_from, is_kept, Event, Lease, Halt, Offer, Return, Step, Run}
use Rattle.pool_core.specs.Sound.{AreTree, IsConsistent, EntryFits, NodeFits, IsSound}
use Rattle.pool_core.proofs.VerdictLemmas.{FindingFits, finding-fits}
use Rattle.pool_core.proofs.MarksKept.{Falls, nodes-fall, nodes_from-fit, entries_from-fit, leased-fits, left-fits, entry-fits, still-fit, waiting-fits, nodes-fit}
use Rattle.pool_core.proofs.TreeKept.{tree_lease, tree_return}
use Rattle.pool_core.proofs.CountsKept.{counts_lease, counts_halt, counts_return, stop_lease, stop_halt, stop_return, fresh_finding}

-- ---- what doesn't speak of bounds and costs
-- the nodes of the beginning come first
abbrev pub HasBegun : State → Type 0
HasBegun s = (later : List Node) × (s.nodes ≡ s.beginning.nodes ++ later)

-- more logged nodes leave the beginning at the front
has_begun : (before after : State) (added : List Node) → after.nodes ≡ before.nodes ++ added → after.beginning ≡ before.beginning → HasBegun before → HasBegun after
has_begun before after added nodes beginning begun = (
  begun.0 ++ added,
  nodes ∙ ap (λ ns. ns ++ added) begun.1 ∙ append_assoc before.beginning.nodes begun.0 added
      ∙ ap (λ (b : Beginning). b.nodes ++ (begun.0 ++ added)) (sym beginning),
)

still_begun : (before after : State) → after.nodes ≡ before.nodes → after.beginning ≡ before.beginning → HasBegun before → HasBegun after
still_begun before after nodes beginning begun =
    (begun.0, nodes ∙ begun.1 ∙ ap (λ (b : Beginning). b.nodes ++ begun.0) (sym beginning))

-- a lease keeps what doesn't speak of costs
pub consistent_lease : (e : Entry) (before after : State) → Leases e before after → IsConsistent before → IsConsistent after
consistent_lease e before after h c = record {
  tree = tree_lease e before after h c.tree;
  counts = counts_lease e before after h c.counts;
  stop_fits = stop_lease e before after h;
  begun = still_begun before after h.nodes h.beginning c.begun;
}

-- a halt keeps what doesn't speak of costs
pub consistent_halt : (before after : State) → Halts before after → IsConsistent before → IsConsistent after
consistent_halt before after h c = record {
  tree = subst AreTree (sym h.halted) c.tree;
  counts = counts_halt before after h c.counts;
  stop_fits = stop_halt before after h;
  begun = subst HasBegun (sym h.halted) c.begun;
}

-- the entry fits, and the finding is the one on it
pub consistent_return : (e : Entry) (seen : Option ℤ) (before after : State) → FindingFits before.job e seen (finding_of before.job e seen) → Returns e seen (finding_of before.job e seen) before after → IsConsistent before → IsConsistent after
consistent_return e seen before after fits h c =
    let f = finding_of before.job e seen in
    record {
      tree = tree_return e seen f before after fits h c.tree;
      counts = counts_return e seen f before after (fresh_finding before.job e seen) h c.counts;
      stop_fits = stop_return e seen f before after h c.begun c.counts c.stop_fits;
      begun = has_begun before after (cond (is_kept before f) [] (nodes_from e.square seen f)) h.nodes h.beginning c.begun;
    }

-- ---- what speaks of bounds and costs, of the job j and with u the least upper cost
pub record Costs (j : Job) (u : Option ℤ) (s : State) : Type 0 where
  pub job : IsLawful j
  pub waiting : All (EntryFits j.instance) s.waiting
  pub leased : All (EntryFits j.instance) s.leased
  pub nodes : All (NodeFits j.instance j.gap u) s.nodes
  pub start : MatchOption (start_cost j) ⊤ (IsAtMost u)
  pub least_is : MatchOption u ⊤ (λ c. (z : Pt) × IsOffer j.instance z c)

-- soundness of its two parts
pub sound-parts : (w : Search) (j : Job) (u : Option ℤ) → w.state.job ≡ j → w.incumbent ≡ u → IsConsistent w.state → Costs j u w.state → IsSound w
sound-parts w j u job least consistent costs =
    let c = subst₂ (λ (k : Job) (v : Option ℤ). Costs k v w.state) (sym job) (sym least) costs in
    record {
      job = c.job;
      consistent = consistent;
      waiting = c.waiting;
      leased = c.leased;
      nodes = c.nodes;
      start = c.start;
      least_is = c.least_is;
    }

-- ---- the events
-- a lease keeps soundness
pub sound_lease : (e : Entry) (before after : Search) → Step before (Lease e) after → IsSound before → IsSound after
sound_lease e before after h sound =
    let i = before.state.job.instance in
    sound-parts after before.state.job before.incumbent h.0.job h.1 (consistent_lease e before.state after.state h.0 sound.consistent)
    (record {
      job = sound.job;
      waiting = left-fits i e before.state after.state h.0 sound.waiting;
      leased = leased-fits i e before.state after.state h.0 sound.waiting sound.leased;
      nodes = subst (All (NodeFits i before.state.job.gap before.incumbent)) (sym h.0.nodes) sound.nodes;
      start = sound.start;
      least_is = sound.least_is;
    })

-- a halt keeps soundness
pub sound_halt : (before after : Search) → Step before Halt after → IsSound before → IsSound after
sound_halt before after h sound =
    let i = before.state.job.instance in
    let waiting = ap (λ (s : State). s.waiting) h.0.halted in
    let leased = ap (λ (s : State). s.leased) h.0.halted in
    let nodes = ap (λ (s : State). s.nodes) h.0.halted in
    sound-parts after before.state.job before.incumbent (ap (λ (s : State). s.job) h.0.halted) h.1 (consistent_halt before.state after.state h.0 sound.consistent)
    (record {
      job = sound.job;
      waiting = subst (All (EntryFits i)) (sym waiting) sound.waiting;
      leased = subst (All (EntryFits i)) (sym leased) sound.leased;
      nodes = subst (All (NodeFits i before.state.job.gap before.incumbent)) (sym nodes) sound.nodes;
      start = sound.start;
      least_is = sound.least_is;
    })

-- a return keeps soundness
pub sound_return : (e : Entry) (seen : Option ℤ) (before after : Search) → Step before (Return e seen) after → IsSound before → IsSound after
sound_return e seen before after h sound =
    let j = before.state.job in
    let i = j.instance in
    let f = finding_of j e seen in
    let here = entry-fits i e seen f before.state after.state h.1 sound.leased in
    let fits = finding-fits j e seen sound.job.job.instance here in
    let more = nodes_from-fit j e before.incumbent seen f sound.job h.0.seen_is h.0.centre fits in
    sound-parts after j before.incumbent h.1.job h.2 (consistent_return e seen before.state after.state fits h.1 sound.consistent)
    (record {
      job = sound.job;
      waiting = waiting-fits i e seen f before.state after.state h.1 here (entries_from-fit j e seen f fits) sound.waiting;
      leased = still-fit i e seen f before.state after.state h.1 sound.leased;
      nodes = nodes-fit i j.gap before.incumbent e seen f before.state after.state h.1 more sound.nodes;
      start = sound.start;
      least_is = sound.least_is;
    })

-- ---- the least upper cost falls
start_falls : (o u v : Option ℤ) → Falls u v → MatchOption o ⊤ (IsAtMost u) → MatchOption o ⊤ (IsAtMost v)
start_falls None u v falls h = tt
start_falls (Some z) u v falls h = falls z h

-- a state stays sound where the least upper cost falls to that of an offer
pub sound-falls : (s : State) (u v : Option ℤ) → Falls u v → MatchOption v ⊤ (λ c. (z : Pt) × IsOffer s.job.instance z c) → IsSound (record { state = s; incumbent = u }) → IsSound (record { state = s; incumbent = v })
sound-falls s u v falls offered sound = record {
  job = sound.job;
  consistent = sound.consistent;
  waiting = sound.waiting;
  leased = sound.leased;
  nodes = nodes-fall s.job.instance s.job.gap u v s.nodes falls sound.nodes;
  start = start_falls (start_cost s.job) u v falls sound.start;
  least_is = offered;
}

lesser_falls : (u : Option ℤ) (v : ℤ) → Falls u (lesser u (Some v))
lesser_falls None v z h = absurd h
lesser_falls (Some n) v z h = omega (arith, ints, clamps)

lesser_offered : (i : Instance) (u : Option ℤ) (v : ℤ) (z : Pt) → MatchOption u ⊤ (λ c. (y : Pt) × IsOffer i y c) → IsOffer i z v → MatchOption (lesser u (Some v)) ⊤ (λ c. (y : Pt) × IsOffer i y c)
lesser_offered i None v z old new = (z, new)
lesser_offered i (Some n) v z old new =
    cond_both (int_lt v n) v n (λ c. (y : Pt) × IsOffer i y c) (λ _. (z, new)) (λ _. old)

-- an offer keeps soundness
pub sound_offer : (z : Pt) (before after : Search) → Step before (Offer z) after → IsSound before → IsSound after
sound_offer z before after h sound =
    let u = lesser before.incumbent (Some h.0) in
    subst₂ (λ (s : State) (v : Option ℤ). IsSound (record { state = s; incumbent = v })) (sym h.2) (sym h.3)
    (sound-falls before.state before.incumbent u (lesser_falls before.incumbent h.0) (lesser_offered before.state.job.instance before.incumbent h.0 z sound.least_is h.1) sound)

-- ---- any event, and every run
-- each event keeps soundness
pub sound_step : (event : Event) (before after : Search) → Step before event after → IsSound before → IsSound after
sound_step (Lease e) before after h sound = sound_lease e before after h sound
sound_step Halt before after h sound = sound_halt before after h sound
sound_step (Offer z) before after h sound = sound_offer z before after h sound
sound_step (Return e seen) before after h sound = sound_return e seen before after h sound

-- a run keeps soundness
pub sound_run : (events : List Event) (before after : Search) → Run before events after → IsSound before → IsSound after
sound_run [] before after h sound = subst IsSound (sym h) sound
sound_run (event ∷ events) before after h sound =
    sound_run events h.0 after h.2 (sound_step event before h.0 h.1 sound)
