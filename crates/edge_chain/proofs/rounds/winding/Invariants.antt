use Rattle.std.proofs.Common.{◌≡◌, ◌≤◌, take, count_by}
use Rattle.edge_chain.specs.Chain.{Edge, reversed, rises}
use Rattle.edge_chain.specs.Thirds.{thirds}
use Rattle.edge_chain.proofs.rounds.winding.Given as goal

abbrev pub invariant-loop-e : goal.invariant-loop-e
invariant-loop-e l = record {
  rising : l.rising ≡ count_by (λ (e : Edge). rises e (thirds l.p)) (take l.e-index l.edges);
  falling : l.falling ≡ count_by (λ (e : Edge). rises (reversed e) (thirds l.p)) (take l.e-index l.edges);
  few_rising : l.rising ≤ l.e-index;
  few_falling : l.falling ≤ l.e-index;
}
