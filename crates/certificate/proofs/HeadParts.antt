-- The parts of a head, read one after another. Of each part: it was read, or the call for one of its lines failed.
use Rattle.std.proofs.Common.{◌≡◌, ℤ, unsigned_abs, refl, Bool, Option, Result, Ok, Err}
use Rattle.std.specs.Result.{IsErrAnd}
use Rattle.siting_definitions.specs.declared.Word.{Word}
use Rattle.siting_definitions.specs.Instance.{Instance}
use Rattle.siting_definitions.specs.Point.{Pt}
use Rattle.siting_definitions.specs.Square.{Square}
use Rattle.siting_definitions.specs.Sites.{root_of}
use Rattle.siting_definitions.specs.Answer.{Best, Head}
use Rattle.instance_text.specs.Reading.{and_then}
use Rattle.line_stream.specs.Coming.{Coming}
use Rattle.line_stream.specs.Stream.{Stream}
use Rattle.certificate.specs.declared.reader.AnswerError.{AnswerError}
use Rattle.certificate.specs.Forms.{version_form, gap_form, budget_form, pool_form, site_form, cost_form, bound_form, word_form, open_form, leases_form, root_form}
use Rattle.certificate.specs.HeadReading.{formed, instance_part, Limits, limits_part, best_part, Outcome, outcome_part, head_from, lines_after, head_reading}
use Rattle.certificate.specs.AnswerReading.{Read, ReadInMemory}
use Rattle.certificate.proofs.ReadLemmas.{read_then, read_stop, read_none, in_memory}

-- a call for a part failed with this error
abbrev Failed : {T U : Type 0} → (Coming → Result (T × Coming) AnswerError) → Stream → Stream → AnswerError → Result U AnswerError → Type 0
Failed {T} wanted a b e result = (let r : Result T AnswerError = Err e in Read wanted a b r) × IsErrAnd result (λ x. x ≡ e)

-- ---- the gap, the budget and the pool
abbrev after_pool : ℤ → ℤ → ℤ → Coming → Result (Limits × Coming) AnswerError
after_pool gap budget pool r = Ok (record { gap = gap; budget = unsigned_abs budget; pool = unsigned_abs pool }, r)

abbrev after_budget : ℤ → ℤ → Coming → Result (Limits × Coming) AnswerError
after_budget gap budget r = and_then (formed pool_form r) (λ pool. after_pool gap budget pool.0 pool.1)

abbrev after_gap : ℤ → Coming → Result (Limits × Coming) AnswerError
after_gap gap r = and_then (formed budget_form r) (λ budget. after_budget gap budget.0 budget.1)

module _ (a b : Stream) where
  pub no_gap : (e : AnswerError) (result : Result Limits AnswerError) → Failed (formed gap_form) a b e result → Read limits_part a b result
  no_gap e result h = read_stop (formed gap_form) after_gap a b e result h.1 h.0

  pub no_budget : (c : Stream) (gap : ℤ) (e : AnswerError) (result : Result Limits AnswerError) → Read (formed gap_form) a b (Ok gap) → Failed (formed budget_form) b c e result → Read limits_part a c result
  no_budget c gap e result g h = read_then (formed gap_form) after_gap a b c gap result g (read_stop (formed budget_form) (after_budget gap) b c e result h.1 h.0)

  pub no_pool : (c d : Stream) (gap budget : ℤ) (e : AnswerError) (result : Result Limits AnswerError) → Read (formed gap_form) a b (Ok gap) → Read (formed budget_form) b c (Ok budget) → Failed (formed pool_form) c d e result → Read limits_part a d result
  no_pool c d gap budget e result g h i =
      read_then (formed gap_form) after_gap a b d gap result g
      (read_then (formed budget_form) (after_budget gap) b c d budget result h
      (read_stop (formed pool_form) (after_pool gap budget) c d e result i.1 i.0))

  pub limits_read : (c d : Stream) (gap budget pool : ℤ) → Read (formed gap_form) a b (Ok gap) → Read (formed budget_form) b c (Ok budget) → Read (formed pool_form) c d (Ok pool)
      → Read limits_part a d (Ok (record { gap = gap; budget = unsigned_abs budget; pool = unsigned_abs pool }))
  limits_read c d gap budget pool g h i =
      let all : Limits = record { gap = gap; budget = unsigned_abs budget; pool = unsigned_abs pool } in
      read_then (formed gap_form) after_gap a b d gap (Ok all) g
      (read_then (formed budget_form) (after_budget gap) b c d budget (Ok all) h
      (read_then (formed pool_form) (after_pool gap budget) c d d pool (Ok all) i (read_none (after_pool gap budget pool) d all (λ more rest. refl))))

-- ---- the site and its costs
abbrev after_site : Option Pt → Coming → Result (Option Best × Coming) AnswerError
after_site site r = formed (cost_form site) r

module _ (a b : Stream) where
  pub no_site : (e : AnswerError) (result : Result (Option Best) AnswerError) → Failed (formed site_form) a b e result → Read best_part a b result
  no_site e result h = read_stop (formed site_form) after_site a b e result h.1 h.0

  pub best_read : (c : Stream) (site : Option Pt) (result : Result (Option Best) AnswerError) → Read (formed site_form) a b (Ok site) → Read (formed (cost_form site)) b c result → Read best_part a c result
  best_read c site result g h = read_then (formed site_form) after_site a b c site result g h

-- ---- the bound, the word, the open squares and the leases
abbrev after_leases : Option ℤ → Word → ℤ → ℤ → Coming → Result (Outcome × Coming) AnswerError
after_leases bound word opened leases r = Ok (record { bound = bound; word = word; open_count = unsigned_abs opened; leases = unsigned_abs leases }, r)

abbrev after_open : Option ℤ → Word → ℤ → Coming → Result (Outcome × Coming) AnswerError
after_open bound word opened r = and_then (formed leases_form r) (λ leases. after_leases bound word opened leases.0 leases.1)

abbrev after_the_word : Option ℤ → Word → Coming → Result (Outcome × Coming) AnswerError
after_the_word bound word r = and_then (formed open_form r) (λ opened. after_open bound word opened.0 opened.1)

abbrev after_bound : Option ℤ → Coming → Result (Outcome × Coming) AnswerError
after_bound bound r = and_then (formed word_form r) (λ word. after_the_word bound word.0 word.1)

module _ (a b : Stream) where
  pub no_bound : (e : AnswerError) (result : Result Outcome AnswerError) → Failed (formed bound_form) a b e result → Read outcome_part a b result
  no_bound e result h = read_stop (formed bound_form) after_bound a b e result h.1 h.0

  module _ (bound : Option ℤ) (g : Read (formed bound_form) a b (Ok bound)) (c : Stream) where
    from_word : (d : Stream) (result : Result Outcome AnswerError) → Read (after_bound bound) b d result → Read outcome_part a d result
    from_word d result h = read_then (formed bound_form) after_bound a b d bound result g h

    pub no_word : (e : AnswerError) (result : Result Outcome AnswerError) → Failed (formed word_form) b c e result → Read outcome_part a c result
    no_word e result h = from_word c result (read_stop (formed word_form) (after_the_word bound) b c e result h.1 h.0)

    module _ (word : Word) (h : Read (formed word_form) b c (Ok word)) (d : Stream) where
      from_open : (e : Stream) (result : Result Outcome AnswerError) → Read (after_the_word bound word) c e result → Read outcome_part a e result
      from_open e result i = from_word e result (read_then (formed word_form) (after_the_word bound) b c e word result h i)

      pub no_open : (e : AnswerError) (result : Result Outcome AnswerError) → Failed (formed open_form) c d e result → Read outcome_part a d result
      no_open e result i = from_open d result (read_stop (formed open_form) (after_open bound word) c d e result i.1 i.0)

      module _ (opened : ℤ) (i : Read (formed open_form) c d (Ok opened)) (f : Stream) where
        from_leases : (result : Result Outcome AnswerError) → Read (after_open bound word opened) d f result → Read outcome_part a f result
        from_leases result j = from_open f result (read_then (formed open_form) (after_open bound word) c d f opened result i j)

        pub no_leases : (e : AnswerError) (result : Result Outcome AnswerError) → Failed (formed leases_form) d f e result → Read outcome_part a f result
        no_leases e result j = from_leases result (read_stop (formed leases_form) (after_leases bound word opened) d f e result j.1 j.0)

        pub outcome_read : (leases : ℤ) → Read (formed leases_form) d f (Ok leases)
            → Read outcome_part a f (Ok (record { bound = bound; word = word; open_count = unsigned_abs opened; leases = unsigned_abs leases }))
        outcome_read leases j =
            let all : Outcome = record { bound = bound; word = word; open_count = unsigned_abs opened; leases = unsigned_abs leases } in
            from_leases (Ok all) (read_then (formed leases_form) (after_leases bound word opened) d f f leases (Ok all) j (read_none (after_leases bound word opened leases) f all (λ more rest. refl)))

-- ---- the lines after the instance
module _ (i : Instance) where
  abbrev after_root : Limits → Option Best → Outcome → Square → Coming → Result (Head × Coming) AnswerError
  after_root limits best outcome root r = Ok (head_from i limits best outcome, r)

  abbrev after_outcome : Limits → Option Best → Outcome → Coming → Result (Head × Coming) AnswerError
  after_outcome limits best outcome r = and_then (formed (root_form (root_of i)) r) (λ root. after_root limits best outcome root.0 root.1)

  abbrev after_best : Limits → Option Best → Coming → Result (Head × Coming) AnswerError
  after_best limits best r = and_then (outcome_part r) (λ outcome. after_outcome limits best outcome.0 outcome.1)

  abbrev after_limits : Limits → Coming → Result (Head × Coming) AnswerError
  after_limits limits r = and_then (best_part r) (λ best. after_best limits best.0 best.1)

  module _ (a b : Stream) where
    pub no_limits : (e : AnswerError) (result : Result Head AnswerError) → Failed limits_part a b e result → Read (lines_after i) a b result
    no_limits e result h = read_stop limits_part after_limits a b e result h.1 h.0

    module _ (limits : Limits) (g : Read limits_part a b (Ok limits)) (c : Stream) where
      from_best : (d : Stream) (result : Result Head AnswerError) → Read (after_limits limits) b d result → Read (lines_after i) a d result
      from_best d result h = read_then limits_part after_limits a b d limits result g h

      pub no_best : (e : AnswerError) (result : Result Head AnswerError) → Failed best_part b c e result → Read (lines_after i) a c result
      no_best e result h = from_best c result (read_stop best_part (after_best limits) b c e result h.1 h.0)

      module _ (best : Option Best) (h : Read best_part b c (Ok best)) (d : Stream) where
        from_outcome : (e : Stream) (result : Result Head AnswerError) → Read (after_best limits best) c e result → Read (lines_after i) a e result
        from_outcome e result j = from_best e result (read_then best_part (after_best limits) b c e best result h j)

        pub no_outcome : (e : AnswerError) (result : Result Head AnswerError) → Failed outcome_part c d e result → Read (lines_after i) a d result
        no_outcome e result j = from_outcome d result (read_stop outcome_part (after_outcome limits best) c d e result j.1 j.0)

        module _ (outcome : Outcome) (j : Read outcome_part c d (Ok outcome)) (f : Stream) where
          from_root : (result : Result Head AnswerError) → Read (after_outcome limits best outcome) d f result → Read (lines_after i) a f result
          from_root result k = from_outcome f result (read_then outcome_part (after_outcome limits best) c d f outcome result j k)

          pub no_root : (e : AnswerError) (result : Result Head AnswerError) → Failed (formed (root_form (root_of i))) d f e result → Read (lines_after i) a f result
          no_root e result k = from_root result (read_stop (formed (root_form (root_of i))) (after_root limits best outcome) d f e result k.1 k.0)

          pub lines_read : (root : Square) → Read (formed (root_form (root_of i))) d f (Ok root) → Read (lines_after i) a f (Ok (head_from i limits best outcome))
          lines_read root k =
              let head = head_from i limits best outcome in
              from_root (Ok head) (read_then (formed (root_form (root_of i))) (after_root limits best outcome) d f f root (Ok head) k (read_none (after_root limits best outcome root) f head (λ more rest. refl)))

-- ---- the head
abbrev after_instance : Instance → Coming → Result (Head × Coming) AnswerError
after_instance i r = lines_after i r

abbrev after_version : Bool → Coming → Result (Head × Coming) AnswerError
after_version second r = and_then (instance_part second r) (λ instance. lines_after instance.0 instance.1)

module _ (a b : Stream) where
  pub no_version : (e : AnswerError) (result : Result Head AnswerError) → Failed (formed version_form) a b e result → ReadInMemory head_reading a b result
  unfolding head_reading
  no_version e result h = in_memory (λ r. and_then (formed version_form r) (λ x. after_version x.0 x.1)) a b result (read_stop (formed version_form) after_version a b e result h.1 h.0)

  module _ (second : Bool) (g : Read (formed version_form) a b (Ok second)) (c : Stream) where
    pub no_instance : (e : AnswerError) (result : Result Head AnswerError) → (let r : Result Instance AnswerError = Err e in ReadInMemory (instance_part second) b c r) → IsErrAnd result (λ x. x ≡ e) → ReadInMemory head_reading a c result
    unfolding head_reading
    no_instance e result h is = read_then (formed version_form) after_version a b c second result g (read_stop (instance_part second) lines_after b c e result is h)

    pub head_read : (i : Instance) (d : Stream) (result : Result Head AnswerError) → ReadInMemory (instance_part second) b c (Ok i) → Read (lines_after i) c d result → ReadInMemory head_reading a d result
    unfolding head_reading
    head_read i d result h j =
        read_then (formed version_form) after_version a b d second result g
        (read_then (instance_part second) lines_after b c d i result h (in_memory (lines_after i) c d result j))
