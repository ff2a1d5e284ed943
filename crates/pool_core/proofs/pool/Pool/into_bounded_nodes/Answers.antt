use Rattle.std.proofs.Common.{◌≡◌, List, [], ◌++◌, map, sym, ap, ◌∙◌, subst}
use Rattle.std.specs.List.Sorted.{IsPermutation}
use Rattle.siting_definitions.specs.Tree.{Fits, preorder}
use Rattle.discard_log.specs.declared.node.Node.{Node}
use Rattle.discard_log.specs.Nodes.{tree_square}
use Rattle.pool_core.specs.Job.{job_root}
use Rattle.pool_core.specs.State.{State, squares_of}
use Rattle.pool_core.specs.Begun.{left_of}
use Rattle.pool_core.specs.Logged.{bounded_node, with_bounds_from}
use Rattle.pool_core.specs.Pool.{PoolFits, state_of}
use Rattle.pool_core.specs.declared.pool.Pool.TheInside.{Inside}
use Rattle.pool_core.proofs.Listed.{in_preorder}
use Rattle.pool_core.proofs.LoggedLemmas.{bounded_squares, put_from}
use Rattle.pool_core.proofs.pool.Pool.into_bounded_nodes.Goals as goal

-- the log with the bounds put in
bounded : (a : Inside) (put : List Node) → PoolFits a → put ≡ with_bounds_from a.begun_nodes a.log.nodes a.fine_bounds.items → put ≡ map (bounded_node a.job.instance) a.log.nodes
bounded a put fits is =
    is ∙ ap (with_bounds_from a.begun_nodes a.log.nodes) fits.bounds ∙ put_from a.job.instance a.begun_nodes a.log.nodes fits.begun_bounds

pub returns-clause-nodes : goal.returns-clause-nodes
returns-clause-nodes c =
    let logged = subst (λ (ns : List Node). IsPermutation (ns ++ map left_of c.self.inside.waiting.entries) c.listed.result) (bounded c.self.inside c.put_in_bounds.new.log.nodes c.self.invariant (c.put_in_bounds.ensures.nodes ∙ ap (with_bounds_from c.self.inside.begun_nodes c.self.inside.log.nodes) c.as_slice.ensures.value)) c.listed.ensures.nodes in
    subst (λ (s : State). IsPermutation (map (bounded_node s.job.instance) s.nodes ++ map left_of s.waiting) c.listed.result) c.self.view_is logged

pub returns-clause-preorder : goal.returns-clause-preorder
returns-clause-preorder c t =
    let a = c.self.inside in
    let none = subst (λ (s : State). s.leased ≡ []) (sym c.self.view_is) c.requires in
    let same = ap (map tree_square) (bounded c.self.inside c.put_in_bounds.new.log.nodes c.self.invariant (c.put_in_bounds.ensures.nodes ∙ ap (with_bounds_from c.self.inside.begun_nodes c.self.inside.log.nodes) c.as_slice.ensures.value)) ∙ bounded_squares a.job.instance a.log.nodes in
    subst (λ (s : State). Fits t (job_root s.job).level → IsPermutation (squares_of s) (preorder t (job_root s.job)) → map tree_square c.listed.result ≡ preorder t (job_root s.job)) c.self.view_is
    (in_preorder (state_of a) c.root_of-root.result c.put_in_bounds.new.log.nodes c.listed.result t none same c.root_of-root.ensures c.listed.ensures.preorder)
