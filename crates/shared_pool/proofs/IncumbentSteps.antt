-- A load of the incumbent and an offer keep the rule.
use Rattle.std.proofs.Common.{◌≡◌, ℕ, ◌<◌, ℤ, ◌<ℤ◌, ◌≤ℤ◌, pos, ◌-◌, ◌^◌, min, true, false, List, ◌∷◌, length, get_or, set, Option, None, Some, refl, sym, ap, ◌∙◌, subst, subst₂, ⊎_elim, arith, length-set, get_or-set_other, get_or-set_same}
use Rattle.std.specs.Prelude.{⊤, MatchOption, int_lt}
use Rattle.std.specs.Int.{int_min}
use Rattle.std.specs.declared.snapshot.Snapshot.{Snapshot}
use Rattle.std.proofs.lemmas.Bool.{cases_Bool}
use Rattle.std.proofs.lemmas.Int.{ints, clamps}
use mathlib.Core.Option.{none, some-injective}
use mathlib.Core.Logic.{dite}
use native.Mathlib.Decide.{ℕ_discrete}
use lib.ListN.{get_elem?}
use Rattle.atomic_table.specs.Table.{step, Allows, keeps}
use Rattle.atomic_table.proofs.Lists.{set_here, set_else}
use Rattle.siting_definitions.specs.Point.{Pt}
use Rattle.siting_definitions.specs.Instance.{Instance}
use Rattle.siting_definitions.specs.Marks.{IsAtMost, lesser}
use Rattle.siting_definitions.proofs.MarkLemmas.{at_most-refl, at_most-trans}
use Rattle.incumbent_word.specs.Word.{word_of, number_in}
use Rattle.objectives.specs.Limits.{IsCost}
use Rattle.objectives.proofs.SiteSizes.{upper_of-IsCost}
use Rattle.pool_core.specs.Job.{Job, IsOffer, start_cost, cost_in}
use Rattle.pool_core.specs.State.{State}
use Rattle.pool_core.specs.Machine.{Offer}
use Rattle.pool_core.specs.Best.{better_of}
use Rattle.pool_core.specs.Sound.{IsSound}
use Rattle.shared_pool.specs.declared.view.View.{View}
use Rattle.shared_pool.specs.declared.view.Role.TheVariants.{Desk}
use Rattle.shared_pool.specs.declared.deed.Deed.{Deed}
use Rattle.shared_pool.specs.Views.{view_after_look, view_after_offer}
use Rattle.shared_pool.specs.Runs.{search, Leads, AddsOffer}
use Rattle.shared_pool.specs.TableFits.{HasView, HasOffered, ViewFits, TableFits, incumbent_in, incumbent_word, turn_word}
use Rattle.shared_pool.specs.Steps.{Seat, HasSmallCosts, IsIncumbentAfter, IsOffered, told_by_look, told_by_offer}
use Rattle.shared_pool.proofs.Incumbents.{cost-below, number-min, lesser-falls, lesser-offer, falls-at}
use Rattle.shared_pool.proofs.Moves.{Table, Falls, moved, quiet, of_desk, within, now_sound, Continues, deed_of, goes, adds}

-- the cost of what is offered at a table is small
pub offer-IsCost : (about : Snapshot State) (s : Table) → TableFits about s → (site : Pt) (cost : ℤ) → IsOffer about.value.job.instance site cost → IsCost cost
offer-IsCost about s o site cost offer =
    subst IsCost (sym offer.cost_is) (upper_of-IsCost about.value.job.instance site o.opened.sound.job.job.instance offer.site)

-- what the incumbent is at a step of a desk that knows v
pub incumbent_now : (about : Snapshot State) (s : Table) (o : TableFits about s) (v : View) → ViewFits about.value o.shown (incumbent_in s) v → IsIncumbentAfter v (incumbent_in s)
incumbent_now about s o v h =
    let sound : IsSound (search o.shown (incumbent_in s)) = now_sound about s o in
    record {
      seen = h.seen;
      start = subst (λ (first : State). MatchOption (start_cost first.job) ⊤ (IsAtMost (incumbent_in s))) (sym h.first_is)
          (at_most-trans (incumbent_in s) v.seen (start_cost about.value.job) h.seen h.seen_start);
      cost_is = subst (λ (i : Instance). MatchOption (incumbent_in s) ⊤ (λ cost. (site : Pt) × IsOffer i site cost))
          (ap (λ j. j.instance) o.job ∙ sym (ap (λ (first : State). first.job.instance) h.first_is)) sound.least_is;
    }

module _ (about : Snapshot State) (s : Table) (o : TableFits about s) (id : ℕ) (v : View) (at : HasView s.views id v) (desk : v.role ≡ Desk) where
  -- what the desk knows is right
  known : ViewFits about.value o.shown (incumbent_in s) v
  known = of_desk about.value o.shown (incumbent_in s) id v v.role desk (o.views id v at)

  -- the deeds after a look
  abbrev look_deeds : List Deed
  look_deeds = deed_of v o.shown (incumbent_in s) ∷ o.deeds

  -- and the desk's view
  abbrev look_view : View
  look_view = view_after_look v look_deeds (incumbent_in s)

  looked : TableFits about (record { words = set s.words 0 (incumbent_word s); homes = s.homes; views = set s.views id look_view })
  looked =
      let long : 0 < length s.words = let two = o.words in omega arith in
      let first : get_or (set s.words 0 (incumbent_word s)) 0 0 ≡ incumbent_word s = get_or-set_same s.words 0 (incumbent_word s) 0 long in
      let second : get_or (set s.words 0 (incumbent_word s)) 1 0 ≡ turn_word s = get_or-set_other s.words 0 1 (incumbent_word s) 0 (λ same. omega arith) in
      quiet about s o id v look_view (set s.words 0 (incumbent_word s)) s.homes
      (record {
        at = at;
        was_desk = desk;
        is_desk = desk;
        words = length-set s.words 0 (incumbent_word s) ∙ o.words;
        slots = o.slots;
        incumbent = first;
        turn = omega (arith, second);
        turns = let most = o.turns in omega (arith, second);
        in_slot = λ free. o.in_slot (sym second ∙ free);
        lease = refl;
        best = refl;
        continues = goes about s o id v look_view at desk None o.shown (incumbent_in s) refl refl refl;
        here = record {
          first_is = known.first_is;
          turn = known.turn;
          seen = at_most-refl (incumbent_in s);
          seen_start = at_most-trans (incumbent_in s) v.seen (start_cost about.value.job) known.seen known.seen_start;
          best = known.best;
          ended = known.ended;
        };
      })

-- ---- an offer
-- the better of the best and of an offer is right, with the incumbent that the offer leaves
better-right : (i : Instance) (u : Option ℤ) (best : Option (Pt × ℤ)) (site : Pt) (upper : ℤ) → MatchOption best ⊤ (λ b. IsOffer i b.0 b.1 × IsAtMost u b.1) → IsOffer i site upper → MatchOption (better_of best (Some (site, upper))) ⊤ (λ b. IsOffer i b.0 b.1 × IsAtMost (lesser u (Some upper)) b.1)
better-right i u None site upper h offer = (offer, lesser-offer u upper)
better-right i u (Some b) site upper h offer =
    ⊎_elim (λ t. rw t (offer, lesser-offer u upper)) (λ f. rw f (h.0, lesser-falls u upper b.1 h.1)) (cases_Bool (int_lt upper b.1))

-- an offer that costs less than the best is the better one
better-new : (best : Option (Pt × ℤ)) (n : ℤ) (site : Pt) (upper : ℤ) → MatchOption best ⊤ (λ b. n ≤ℤ b.1) → upper <ℤ n → cost_in (better_of best (Some (site, upper))) ≡ Some upper
better-new None n site upper h less = refl
better-new (Some b) n site upper h less =
    ⊎_elim (λ t. rw t refl) (λ f. absurd (no f)) (cases_Bool (int_lt upper b.1))
  where
    no : int_lt upper b.1 ≡ false → ⊥
    no f = let k : b.1 ≤ℤ upper = grind (arith, ints) in omega (arith, ints)

-- and one that doesn't is not
better-old : (best : Option (Pt × ℤ)) (n : ℤ) (site : Pt) (upper : ℤ) → cost_in best ≡ Some n → n ≤ℤ upper → cost_in (better_of best (Some (site, upper))) ≡ Some n
better-old None n site upper e more = absurd (cc)
better-old (Some b) n site upper e more =
    ⊎_elim (λ t. absurd (no t)) (λ f. rw f e) (cases_Bool (int_lt upper b.1))
  where
    no : int_lt upper b.1 ≡ true → ⊥
    no t = let k : upper <ℤ b.1 = grind (arith, ints) in let same : b.1 ≡ n = cc in omega (arith, ints, same)

-- the number of the incumbent after an offer is the cost of the best of some seat
offered-after : (vs : List View) (id : ℕ) (v w : View) (u : Option ℤ) (site : Pt) (upper : ℤ) → HasView vs id v → w.best ≡ better_of v.best (Some (site, upper)) → MatchOption v.best ⊤ (λ b. IsAtMost u b.1) → MatchOption u ⊤ (HasOffered vs) → MatchOption (lesser u (Some upper)) ⊤ (HasOffered (set vs id w))
offered-after vs id v w None site upper at e best h =
    (id, w, set_here vs id w (within vs id v at), ap cost_in e ∙ none v.best best)
  where
    none : (o : Option (Pt × ℤ)) → MatchOption o ⊤ (λ b. IsAtMost None b.1) → cost_in (better_of o (Some (site, upper))) ≡ Some upper
    none None k = refl
    none (Some b) k = absurd k
offered-after vs id v w (Some n) site upper at e best h =
    ⊎_elim (λ t. new (below t)) (λ f. old (above f)) (cases_Bool (int_lt upper n))
  where
    below : int_lt upper n ≡ true → upper <ℤ n
    below t = grind (arith, ints)

    above : int_lt upper n ≡ false → n ≤ℤ upper
    above f = grind (arith, ints)

    new : upper <ℤ n → HasOffered (set vs id w) (int_min n upper)
    new less =
        let least : int_min n upper ≡ upper = omega (arith, ints, clamps) in
        (id, w, set_here vs id w (within vs id v at), ap cost_in e ∙ better-new v.best n site upper best less ∙ ap Some (sym least))

    old : n ≤ℤ upper → HasOffered (set vs id w) (int_min n upper)
    old more =
        let least : int_min n upper ≡ n = omega (arith, ints, clamps) in
        dite (ℕ_discrete h.0 id)
        (λ same.
        let here : v ≡ h.1 = some-injective v h.1 (sym at ∙ ap (get_elem? vs) (sym same) ∙ h.2) in
        (id, w, set_here vs id w (within vs id v at), ap cost_in e ∙ better-old v.best n site upper (ap (λ (x : View). cost_in x.best) here ∙ h.3) more ∙ ap Some (sym least)))
        (λ other. (h.0, h.1, set_else vs id h.0 w other ∙ h.2, h.3 ∙ ap Some (sym least)))

-- the costs alone
costs_of : (i : Instance) (u : Option ℤ) (best : Option (Pt × ℤ)) → MatchOption best ⊤ (λ b. IsOffer i b.0 b.1 × IsAtMost u b.1) → MatchOption best ⊤ (λ b. IsAtMost u b.1)
costs_of i u None h = tt
costs_of i u (Some b) h = h.1

module _ (about : Snapshot State) (s : Table) (o : TableFits about s) (id : ℕ) (v : View) (at : HasView s.views id v) (desk : v.role ≡ Desk) where
  -- the desk's view after an offer
  abbrev offer_view : Pt → ℤ → View
  offer_view site upper =
      view_after_offer v (deed_of v o.shown (lesser (incumbent_in s) (Some upper)) ∷ o.deeds) (incumbent_in s) site upper

  -- an offer is an event of the machine
  offer_leads : (site : Pt) (upper : ℤ) → IsOffer v.first.job.instance site upper → Leads (Some (Offer site)) (search o.shown (incumbent_in s)) (search o.shown (lesser (incumbent_in s) (Some upper)))
  offer_leads site upper offer =
      let known : ViewFits about.value o.shown (incumbent_in s) v = of_desk about.value o.shown (incumbent_in s) id v v.role desk (o.views id v at) in
      let fair : IsOffer about.value.job.instance site upper = subst (λ (first : State). IsOffer first.job.instance site upper) known.first_is offer in
      (upper, subst (λ (j : Job). IsOffer j.instance site upper) (sym o.job) fair, refl, refl)

  offered : (site : Pt) (upper : ℤ) (word : ℕ) → word ≡ word_of upper → incumbent_word s < 18446744073709551616 → IsOffer v.first.job.instance site upper
      → TableFits about (record { words = set s.words 0 (min (incumbent_word s) word); homes = s.homes; views = set s.views id (offer_view site upper) })
  offered site upper word is fits offer =
      let w = offer_view site upper in
      let known : ViewFits about.value o.shown (incumbent_in s) v = of_desk about.value o.shown (incumbent_in s) id v v.role desk (o.views id v at) in
      let fair : IsOffer about.value.job.instance site upper = subst (λ (first : State). IsOffer first.job.instance site upper) known.first_is offer in
      let small : IsCost upper = offer-IsCost about s o site upper fair in
      let least = min (incumbent_word s) word in
      let after : Option ℤ = lesser (incumbent_in s) (Some upper) in
      let long : 0 < length s.words = let two = o.words in omega arith in
      let first : get_or (set s.words 0 least) 0 0 ≡ least = get_or-set_same s.words 0 least 0 long in
      let second : get_or (set s.words 0 least) 1 0 ≡ turn_word s = get_or-set_other s.words 0 1 least 0 (λ same. omega arith) in
      let u : number_in (get_or (set s.words 0 least) 0 0) ≡ after =
      ap number_in first ∙ ap (λ n. number_in (min (incumbent_word s) n)) is ∙ number-min (incumbent_word s) upper fits small in
      let falls : Falls (incumbent_in s) after = λ z. lesser-falls (incumbent_in s) upper z in
      moved about s o id v w (set s.words 0 least) s.homes o.shown
      (record {
        at = at;
        was_desk = desk;
        is_desk = desk;
        words = length-set s.words 0 least ∙ o.words;
        slots = o.slots;
        turn = omega (arith, second);
        turns = let most = o.turns in omega (arith, second);
        in_slot = λ free. o.in_slot (sym second ∙ free);
        continues = subst (Continues about s o id v w o.shown) (sym u)
            (goes about s o id v w at desk (Some (Offer site)) o.shown after (offer_leads site upper offer) refl refl);
        job = refl;
        beginning = refl;
        leases = λ f. refl;
        falls = λ z h. subst (λ (x : Option ℤ). IsAtMost x z) (sym u) (falls z h);
        over = λ over. over;
        others = λ k x other there has. refl;
        here = subst (λ (x : Option ℤ). ViewFits about.value o.shown x w) (sym u)
            (record {
              first_is = known.first_is;
              turn = known.turn;
              seen = at_most-refl after;
              seen_start = falls-at (incumbent_in s) after (start_cost about.value.job) falls
                  (at_most-trans (incumbent_in s) v.seen (start_cost about.value.job) known.seen known.seen_start);
              best = better-right about.value.job.instance (incumbent_in s) v.best site upper known.best fair;
              ended = known.ended;
            });
        offered = subst (λ (x : Option ℤ). MatchOption x ⊤ (HasOffered (set s.views id w))) (sym u)
            (offered-after s.views id v w (incumbent_in s) site upper at refl
            (costs_of about.value.job.instance (incumbent_in s) v.best known.best) o.offered);
        kept = o.kept;
      })

pub makes_offer : (about : Snapshot State) (slots id : ℕ) (m : Seat) (site : Pt) (upper : ℤ) (word : ℕ) → m.0.role ≡ Desk → IsOffer m.0.first.job.instance site upper → word ≡ word_of upper → Allows (TableFits about) slots id m 0 (λ n. min n word) (told_by_offer site upper (step slots 0 word 0 none) m)
makes_offer about slots id m site upper word desk offer is s o wide at fits =
    let known : ViewFits about.value o.shown (incumbent_in s) m.0 = of_desk about.value o.shown (incumbent_in s) id m.0 m.0.role desk (o.views id m.0 at) in
    let w = offer_view about s o id m.0 at desk site upper in (
      w,
      keeps,
      tt,
      offered about s o id m.0 at desk site upper word is fits offer,
      (
        incumbent_now about s o m.0 known,
        refl,
        (o.shown, adds about s o id m.0 w at desk (Some (Offer site)) o.shown (lesser (incumbent_in s) (Some upper)) known.first_is (offer_leads about s o id m.0 at desk site upper offer) refl),
      ),
    )

pub looks : (about : Snapshot State) (slots id : ℕ) (m : Seat) → m.0.role ≡ Desk → Allows (TableFits about) slots id m 0 (λ n. n) (told_by_look (step slots 0 0 0 none) m)
looks about slots id m desk s o wide at fits =
    let known : ViewFits about.value o.shown (incumbent_in s) m.0 = of_desk about.value o.shown (incumbent_in s) id m.0 m.0.role desk (o.views id m.0 at) in
    let w = look_view about s o id m.0 at desk in (
      w,
      keeps,
      tt,
      looked about s o id m.0 at desk,
      (
        incumbent_now about s o m.0 known,
        refl,
        (o.shown, adds about s o id m.0 w at desk None o.shown (incumbent_in s) known.first_is refl refl),
      ),
    )

-- what the step told of the site and cost that were said
pub offered-by : (m n : Seat) (u : Option ℤ) (site said : Pt) (upper cost : ℤ) → said ≡ site → cost ≡ upper → IsIncumbentAfter m.0 u × (n ≡ (view_after_offer m.0 n.0.deeds u said cost, m.1)) × AddsOffer u said cost m.0 n.0 → IsOffered u site upper m.0 n.0
offered-by m n u site said upper cost same_site same_cost h =
    subst₂ (λ (z : Pt) (c : ℤ). IsOffered u z c m.0 n.0) same_site same_cost (record { incumbent = h.0; view_is = ap (λ (x : Seat). x.0) h.1; adds = h.2 })

-- what is offered has a word
pub offer-below : (i : Instance) (site : Pt) (upper : ℤ) → HasSmallCosts i → IsOffer i site upper → upper <ℤ pos (2 ^ 63 - 1)
offer-below i site upper small offer = cost-below upper (subst IsCost (sym offer.cost_is) (small site offer.site))
