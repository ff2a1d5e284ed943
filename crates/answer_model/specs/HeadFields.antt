-- What the fields of a head show.
use Rattle.std.specs.Prelude.{◌≡◌, is_some}
use Rattle.siting_definitions.specs.Answer.{Head, IsHead}
use Rattle.answer_model.specs.Head.{best_of}
use Rattle.answer_model.specs.declared.head.Head.TheInside.{Inside}

-- the head whose parts the fields have
abbrev pub head_of : Inside → Head
head_of a =
    record {
      instance = a.instance;
      gap = a.gap;
      budget = a.budget;
      pool = a.pool;
      best = best_of a.site a.cost;
      bound = a.bound;
      word = a.word;
      open_count = a.open_count;
      leases = a.leases;
    }

-- the head's fields are in their ranges, and there is a cost exactly where there is a site
pub record HeadFieldsFit (a : Inside) : Type 0 where
  pub head : IsHead (head_of a)
  pub priced : is_some a.cost ≡ is_some a.site
