use Rattle.std.proofs.Common.{◌≡◌, [], ◌++◌, map, refl, sym, subst}
use Rattle.std.specs.List.Sorted.{IsPermutation}
use Rattle.siting_definitions.specs.Tree.{Fits, preorder}
use Rattle.discard_log.specs.Nodes.{tree_square}
use Rattle.pool_core.specs.Job.{job_root}
use Rattle.pool_core.specs.State.{State, squares_of}
use Rattle.pool_core.specs.Begun.{left_of}
use Rattle.pool_core.specs.Pool.{state_of}
use Rattle.pool_core.proofs.Listed.{in_preorder}
use Rattle.pool_core.proofs.pool.Pool.into_nodes.Goals as goal

pub returns-clause-nodes : goal.returns-clause-nodes
returns-clause-nodes c = subst (λ (s : State). IsPermutation (s.nodes ++ map left_of s.waiting) c.listed.result) c.self.view_is c.listed.ensures.nodes

pub returns-clause-preorder : goal.returns-clause-preorder
returns-clause-preorder c t =
    let none = subst (λ (s : State). s.leased ≡ []) (sym c.self.view_is) c.requires in
    subst (λ (s : State). Fits t (job_root s.job).level → IsPermutation (squares_of s) (preorder t (job_root s.job)) → map tree_square c.listed.result ≡ preorder t (job_root s.job)) c.self.view_is
    (in_preorder (state_of c.self.inside) c.root_of-root.result c.self.inside.log.nodes c.listed.result t none refl c.root_of-root.ensures c.listed.ensures.preorder)
