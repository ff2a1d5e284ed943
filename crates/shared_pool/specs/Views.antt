-- What a seat at the table knows, and how each kind of step changes it.
use Rattle.std.specs.Prelude.{◌+◌, ◌-◌, ℤ, pos, Bool, true, false, ◌||◌, List, [], ◌∷◌, Option, Some}
use Rattle.std.specs.Prelude.{None}
use Rattle.siting_definitions.specs.declared.Kind.TheVariants.{Sum}
use Rattle.siting_definitions.specs.Point.{Pt}
use Rattle.siting_definitions.specs.Marks.{lesser}
use Rattle.bound_heap.specs.declared.entry.Entry.{Entry}
use Rattle.pool_core.specs.declared.lease.LeaseAnswer.{LeaseAnswer}
use Rattle.pool_core.specs.declared.lease.LeaseAnswer.TheVariants.{Stopped, Done, Idle, Leased}
use Rattle.pool_core.specs.Job.{Job, start_cost}
use Rattle.pool_core.specs.State.{State}
use Rattle.pool_core.specs.Best.{better_of}
use Rattle.shared_pool.specs.declared.deed.Deed.{Deed}
use Rattle.shared_pool.specs.declared.view.View.{View}
use Rattle.shared_pool.specs.declared.view.Role.TheVariants.{Root, Desk, Spent}

-- ---- the root desk
-- the root desk of a table made with a pool: it has seen the start's number, and its best is the
-- start
abbrev pub first_view : State → View
first_view pool =
    record {
      role = Root;
      seat = 0;
      deeds = [];
      pasts = [];
      first = pool;
      seen = start_cost pool.job;
      best = pool.job.start;
      lease = None;
      loads = 0;
      lost = 0;
      fresh = false;
      ended = false;
      has_turn = false;
      taken = pool;
      given = pool;
      out = 0;
      seats = 0;
    }

-- the root desk, after it seated a desk out
abbrev pub root_after_seating : View → View
root_after_seating v = record v { out = v.out + 1; seats = v.seats + 1 }

-- the desk that a root desk seats out, at the next seat: it has seen what the root desk has, has no
-- best and no lease, and hasn't looked
abbrev pub seated_view : View → View
seated_view v =
    record {
      role = Desk;
      seat = v.seats + 1;
      deeds = [];
      pasts = [];
      first = v.first;
      seen = v.seen;
      best = None;
      lease = None;
      loads = 0;
      lost = 0;
      fresh = false;
      ended = false;
      has_turn = false;
      taken = v.first;
      given = v.first;
      out = 0;
      seats = 0;
    }

-- The root desk v, after it took in the desk w: it keeps the better offer, its own at a tie, and
-- has ended where one of them had.
abbrev pub root_after_joining : View → View → View
root_after_joining v w =
    record v {
      pasts = record { seat = w.seat; deeds = w.deeds } ∷ v.pasts;
      best = better_of v.best w.best;
      ended = v.ended || w.ended;
      out = v.out - 1;
    }

-- ---- a seat that was joined
-- a job over nothing, for a view of which nothing is known
abbrev pub blank_job : Job
blank_job =
    record {
      instance = record { kind = Sum; points = []; permitted = []; forbidden = [] };
      gap = pos 0;
      budget = 0;
      pool = 0;
      start = None;
    }

abbrev pub blank_pool : State
blank_pool =
    record {
      job = blank_job;
      waiting = [];
      leased = [];
      nodes = [];
      leases = 0;
      kept = 0;
      stop = None;
      beginning = record { nodes = []; raised = 0; leases = 0 };
    }

-- the view of a seat that was joined with the root desk's, which is no desk any more
abbrev pub spent_view : View
spent_view = record (first_view blank_pool) { role = Spent }

-- ---- the steps of a desk
-- a load of the incumbent, which found u
abbrev pub view_after_look : View → List Deed → Option ℤ → View
view_after_look v deeds u = record v { deeds = deeds; seen = u; loads = v.loads + 1; fresh = true }

-- an offer of a site with its upper cost, where the incumbent was u
abbrev pub view_after_offer : View → List Deed → Option ℤ → Pt → ℤ → View
view_after_offer v deeds u site upper =
    record v {
      deeds = deeds;
      seen = lesser u (Some upper);
      best = better_of v.best (Some (site, upper));
      loads = v.loads + 1;
      fresh = true;
    }

-- a take of the turn that another desk had
abbrev pub view_after_loss : View → View
view_after_loss v = record v { lost = v.lost + 1 }

-- a take of the turn, with the pool that was in the slot
abbrev pub view_after_win : View → State → View
view_after_win v pool = record v { taken = pool; has_turn = true }

-- the lease that an answer of the pool gives
abbrev pub lease_in : LeaseAnswer → Option Entry
lease_in (Stopped stop) = None
lease_in Done = None
lease_in Idle = None
lease_in (Leased e) = Some e

-- whether an answer of the pool says that nothing more will be leased
abbrev pub is_end : LeaseAnswer → Bool
is_end (Stopped stop) = true
is_end Done = true
is_end Idle = false
is_end (Leased e) = false

-- whether the desk has looked or offered since its last lease was got, after this answer
abbrev pub fresh_after : LeaseAnswer → Bool → Bool
fresh_after (Stopped stop) fresh = fresh
fresh_after Done fresh = fresh
fresh_after Idle fresh = fresh
fresh_after (Leased e) fresh = false

-- a give of the turn, with the pool as it is left, after the pool gave this answer to one who asked
-- for a lease
abbrev pub view_after_lease : View → List Deed → LeaseAnswer → State → View
view_after_lease v deeds answer pool =
    record v {
      deeds = deeds;
      has_turn = false;
      given = pool;
      lease = lease_in answer;
      fresh = fresh_after answer v.fresh;
      ended = v.ended || is_end answer;
    }

-- a give of the turn, with the pool as it is left, after the desk's lease came back to it
abbrev pub view_after_return : View → List Deed → State → View
view_after_return v deeds pool =
    record v { deeds = deeds; has_turn = false; given = pool; lease = None }
