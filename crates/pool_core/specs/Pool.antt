-- What the fields of a pool show.
use Rattle.std.specs.Prelude.{◌≡◌, ◌+◌, ◌*◌, ◌-◌, ◌≤◌, map, take, drop, length, All}
use Rattle.std.specs.Prelude.{vec_len, vec_capacity}
use Rattle.pool_core.specs.declared.pool.Pool.TheInside.{Inside}
use Rattle.pool_core.specs.Job.{IsJob}
use Rattle.pool_core.specs.State.{State, open_count, split_count}
use Rattle.pool_core.specs.Sound.{SearchCountsFit}
use Rattle.pool_core.specs.Logged.{bounded_node, settled_bounds, IsRaisedRight}

-- the state whose parts the fields have
abbrev pub state_of : Inside → State
state_of a =
    record {
      job = a.job;
      waiting = a.waiting.entries;
      leased = a.leased.items;
      nodes = a.log.nodes;
      leases = a.leases;
      kept = a.kept;
      stop = a.stop;
      beginning = record {
        nodes = take a.begun_nodes a.log.nodes;
        raised = a.begun_raised;
        leases = a.begun_leases;
      };
    }

-- The fine bounds are those of the squares that the gap settled since the beginning; those that it
-- had settled before have them as their numbers. Raised entries have the fine bounds of their
-- squares. The counts fit, and each room suffices for all that may come: a tree has one square and
-- four more for each that is split, and each lease settles one square at most. The log has room for
-- just the squares of the beginning and of a split for each lease that was left then.
pub record PoolFits (a : Inside) : Type 0 where
  pub job : IsJob a.job
  pub bounds : a.fine_bounds.items ≡ settled_bounds a.job.instance (drop a.begun_nodes a.log.nodes)
  pub begun_bounds :
      map (bounded_node a.job.instance) (take a.begun_nodes a.log.nodes) ≡ take a.begun_nodes a.log.nodes
  pub bounds_room :
      vec_len a.fine_bounds + vec_len a.leased + (a.job.budget - a.leases) ≤ vec_capacity a.fine_bounds
  pub waiting_raised : All (IsRaisedRight a.job.instance) a.waiting.entries
  pub leased_raised : All (IsRaisedRight a.job.instance) a.leased.items
  pub counts : SearchCountsFit (state_of a)
  pub size : length a.log.nodes + open_count (state_of a) ≡ 1 + 4 * split_count a.log.nodes
  pub begun : a.begun_nodes ≤ length a.log.nodes
  pub waiting_room : length a.waiting.entries + a.waiting.spare ≡ a.job.pool
  pub leased_room : a.job.pool ≤ vec_capacity a.leased
  pub log_room :
      4 * (split_count a.log.nodes + vec_len a.leased + (a.job.budget - a.leases)) + 1
      ≤ length a.log.nodes + a.log.spare
  pub log_size : length a.log.nodes + a.log.spare
      ≡ 1 + 4 * (split_count (take a.begun_nodes a.log.nodes) + (a.job.budget - a.begun_leases))
