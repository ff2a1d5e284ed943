-- Answers that go on from one another, one after the other.
use Rattle.std.proofs.Common.{◌≡◌, ℕ, zero, suc, Bool, true, false, List, [], ◌∷◌, filter, refl, ap, ◌∙◌, ◌⊎◌, inl, inr, arith}
use Rattle.std.specs.Prelude.{All, Contains, ⊤}
use Rattle.std.proofs.lemmas.Bool.{cases_Bool, cond-true, cond-false}
use Rattle.std.proofs.lemmas.List.Elements.{All-contains, All-contains_itself}
use Rattle.siting_definitions.specs.Marks.{is_split}
use Rattle.siting_definitions.specs.Answer.{Answer, IsValid, upper_cost}
use Rattle.siting_definitions.proofs.MarkLemmas.{at_most-refl, at_most-trans}
use Rattle.discard_log.specs.declared.node.Node.{Node}
use Rattle.answer_model.specs.Nodes.{nodes_of}
use Rattle.pool_core.proofs.BegunLemmas.{All-passed}
use Rattle.resume_job.specs.Resumed.{AreResumed, GoesOn, last_of}

-- ---- nodes that are kept
-- the nodes that pass a test are among the nodes
pub passed_there : {X : Type 0} (p : X → Bool) (xs : List X) → All (Contains xs) (filter p xs)
passed_there p xs = All-passed p (Contains xs) (Contains xs) (λ x said at. at) xs (All-contains_itself xs)

-- each that passes is among those that pass
pub passing : {X : Type 0} (p : X → Bool) (x : X) → p x ≡ true → (ys : List X) → Contains ys x → Contains (filter p ys) x
passing p x said [] (k, h, e) = absurd (omega arith)
passing p x said (y ∷ ys) (zero, h, e) = rw (cond-true (p y) (y ∷ filter p ys) (filter p ys) (ap p e ∙ said)) (0, omega arith, e)
passing {X = X} p x said (y ∷ ys) (suc k, h, e) = by_test (passing p x said ys (k, omega arith, e)) (cases_Bool (p y))
  where
    by_test : Contains (filter p ys) x → ((p y ≡ true) ⊎ (p y ≡ false)) → Contains (filter p (y ∷ ys)) x
    by_test at (inl here) = rw (cond-true (p y) (y ∷ filter p ys) (filter p ys) here) (suc at.0, (let lt = at.1 in omega arith), at.2)
    by_test at (inr gone) = rw (cond-false (p y) (y ∷ filter p ys) (filter p ys) gone) at

pub passes : {X : Type 0} (p : X → Bool) (xs : List X) → All (λ x. p x ≡ true) (filter p xs)
passes p xs = All-passed p (λ x. ⊤) (λ x. p x ≡ true) (λ x said any. said) xs (λ k d within. tt)

kept_on : {X : Type 0} (p : X → Bool) (xs ys zs : List X) → All (Contains ys) (filter p xs) → All (Contains zs) (filter p ys) → All (Contains zs) (filter p xs)
kept_on p xs ys zs h k =
    λ i d within. All-contains (Contains zs) (filter p ys) _ k (passing p _ (passes p xs i d within) ys (h i d within))

-- ---- answers
goes_on_refl : (a : Answer) → IsValid a → GoesOn a a
goes_on_refl a valid =
    record {
      valid = valid;
      instance = refl;
      gap = refl;
      cost = at_most-refl (upper_cost a.head.best);
      bound = at_most-refl a.head.bound;
      splits = passed_there (λ (n : Node). is_split n.mark) (nodes_of a);
    }

goes_on_trans : (a b c : Answer) → GoesOn a b → GoesOn b c → GoesOn a c
goes_on_trans a b c h k =
    record {
      valid = k.valid;
      instance = k.instance ∙ h.instance;
      gap = k.gap ∙ h.gap;
      cost = at_most-trans (upper_cost c.head.best) (upper_cost b.head.best) (upper_cost a.head.best) k.cost h.cost;
      bound = at_most-trans a.head.bound b.head.bound c.head.bound h.bound k.bound;
      splits = kept_on (λ (n : Node). is_split n.mark) (nodes_of a) (nodes_of b) (nodes_of c) h.splits k.splits;
    }

-- the last of answers that are resumed in turn goes on from the first
pub goes_on_in_turn : (a : Answer) (rs : List (ℕ × ℕ × Answer)) → IsValid a → AreResumed a rs → GoesOn a (last_of a rs)
goes_on_in_turn a [] valid resumed = goes_on_refl a valid
goes_on_in_turn a (r ∷ rs) valid resumed =
    goes_on_trans a r.2 (last_of r.2 rs) resumed.0.goes_on (goes_on_in_turn r.2 rs resumed.0.goes_on.valid resumed.1)
