-- What `near` says of an answer that was loaded.
use Rattle.std.proofs.Common.{◌≡◌, ℕ, ◌<◌, ◌≤◌, ◌-◌, ◌^◌, ℤ, pos, ◌+ℤ◌, ◌≤ℤ◌, FitsSigned, w64, arith, List, Option, None, Some, refl, sym, ap, subst, ◌∙◌}
use Rattle.std.specs.Prelude.{length, MatchOption, ⊤}
use Rattle.std.proofs.lemmas.Bool.{cond-true, cond-false, le-leb, lt-leb}
use borrow.Author.Differences.{ints}
use Rattle.siting_definitions.specs.Sites.{root_of}
use Rattle.siting_definitions.specs.Answer.{Best, Head, Answer, IsBest, IsPriced, upper_cost}
use Rattle.objectives.specs.Limits.{IsCost}
use Rattle.objectives.proofs.SiteSizes.{upper_of-IsCost}
use Rattle.discard_log.specs.declared.node.Node.{Node}
use Rattle.search_answer.specs.Ending.{answer_of}
use Rattle.near_set.specs.Near.{near_list}
use Rattle.near_set.proofs.NearLemmas.{near_points_held}
use Rattle.resume_job.specs.Loading.{AreOfValid}
use Rattle.bsss_cli.specs.declared.status.Status.{Status}
use Rattle.bsss_cli.specs.declared.status.Status.TheVariants.{Near, NoSite, TooMany}
use Rattle.bsss_cli.specs.Texts.{no_site, too_many}
use Rattle.bsss_cli.specs.Ports.{SourceGhosts, SinkGhosts}
use Rattle.bsss_cli.specs.Outcome.{Says, Ran}
use Rattle.bsss_cli.specs.Load.{IsTextOfValid, LoadAnswers, IsLoaded}
use Rattle.bsss_cli.specs.Near.{near_text, near_set_of, HasSite, ListsNear, LacksSite, HasMore, NearAnswers, near_status, NearWants, near}
use Rattle.bsss_cli.proofs.ReadingLemmas.{OfBytes-map}
use Rattle.bsss_cli.proofs.LoadLemmas.{LoadsFirst, loaded_text, Ran-loaded-says, valid_loads, one_answer}

-- ---- what holds until an answer is loaded
near_refusals : (slack : ℤ) (depth limit : ℕ) (told : Option (List ℕ)) (status : Status) (text : List ℕ) → LoadAnswers told status text → NearAnswers slack depth limit told status text
near_refusals slack depth limit told Near text h = absurd h
near_refusals slack depth limit told NoSite text h = absurd h
near_refusals slack depth limit told (TooMany above) text h = absurd h
near_refusals slack depth limit told status text h = h

pub near_loads : (slack : ℤ) (depth limit : ℕ) → LoadsFirst (near slack depth limit)
near_loads slack depth limit = record {
  reads = refl;
  takes = refl;
  waits = refl;
  stops = λ got left status h. h;
  answers = near_refusals slack depth limit;
}

-- ---- the site of the answer that was loaded
-- an answer that has an upper cost has a site
record IsUpperOf (o : Option Best) (upper : ℤ) : Type 0 where
  pub best : Best
  pub there : o ≡ Some best
  pub is : best.upper ≡ upper

upper_is : (o : Option Best) (upper : ℤ) → upper_cost o ≡ Some upper → IsUpperOf o upper
upper_is None upper e = absurd cc
upper_is (Some best) upper e = record { best = best; there = refl; is = cc }

no_upper : (o : Option Best) → upper_cost o ≡ None → o ≡ None
no_upper None e = refl
no_upper (Some best) e = absurd cc

-- how great its upper cost is
pub loaded_cost : (h : Head) (ns : List Node) (upper : ℤ) → AreOfValid h ns → upper_cost h.best ≡ Some upper → IsCost upper
loaded_cost h ns upper parts has =
    let u = upper_is h.best upper has in
    let valid = parts.valid in
    let ranges : IsBest u.best = subst (λ o. MatchOption o ⊤ IsBest) u.there valid.ranges.best in
    let priced : IsPriced h.instance u.best = subst (λ o. MatchOption o ⊤ (IsPriced h.instance)) u.there valid.head.best in
    let same : upper ≡ _ = sym u.is ∙ priced.upper in
    subst IsCost (sym same) (upper_of-IsCost h.instance u.best.site valid.ranges.instance ranges.site)

-- it fits 64 bits, and so does its sum with a slack
pub cost_fits : (z : ℤ) → IsCost z → FitsSigned w64 z
cost_fits z small = omega (arith, ints, small)

pub sum_fits : (z slack : ℤ) → IsCost z → (pos 0 ≤ℤ slack) × (slack ≤ℤ pos (2 ^ 60)) → FitsSigned w64 (z +ℤ slack)
sum_fits z slack small range =
    let least = range.0 in
    let most = range.1 in
    omega (arith, ints, small, least, most)

-- the bytes that were loaded are the text of a valid answer with this site
loaded_site : (a : Answer) (best : Best) (bytes : List ℕ) → a.head.best ≡ Some best → IsTextOfValid a bytes → HasSite a best bytes
loaded_site a best bytes there of = record { of = of; site = there }

-- ---- what it says of the answer that was loaded
pub near_says_none : {S K : Type 0} {s : SourceGhosts S} {k : SinkGhosts K} {before after : K} {status : Status} (slack : ℤ) (depth limit : ℕ) (old new : S) (h : Head) (ns : List Node)
    → IsLoaded s old new h ns → upper_cost h.best ≡ None → Says k before after NoSite no_site status
    → Ran s k (near slack depth limit) old new before after status
near_says_none {s = s} slack depth limit old new h ns loaded none said =
    let a : Answer = answer_of h ns in
    Ran-loaded-says (near slack depth limit) (near_loads slack depth limit) old new h ns loaded refl
    (refl, OfBytes-map (s.left old) (IsTextOfValid a) LacksSite (λ bytes of. record { answer = a; of = of; none = no_upper h.best none }) (loaded_text s old new h ns loaded))
    said

pub near_says_more : {S K : Type 0} {s : SourceGhosts S} {k : SinkGhosts K} {before after : K} {status : Status} (slack : ℤ) (depth limit : ℕ) (old new : S) (h : Head) (ns : List Node) (upper : ℤ)
    → IsLoaded s old new h ns → upper_cost h.best ≡ Some upper → limit < length (near_list h.instance (upper +ℤ slack) depth)
    → Says k before after (TooMany limit) (too_many limit) status
    → Ran s k (near slack depth limit) old new before after status
near_says_more {s = s} slack depth limit old new h ns upper loaded has more said =
    let a : Answer = answer_of h ns in
    let u = upper_is h.best upper has in
    let longer : limit < length (near_set_of a (u.best.upper +ℤ slack) depth) = subst (λ c. limit < length (near_set_of a (c +ℤ slack) depth)) (sym u.is) more in
    Ran-loaded-says (near slack depth limit) (near_loads slack depth limit) old new h ns loaded refl (
      refl,
      refl,
      OfBytes-map (s.left old) (IsTextOfValid a) (HasMore slack depth limit)
          (λ bytes of. record { answer = a; best = u.best; of = loaded_site a u.best bytes u.there of; more = longer })
          (loaded_text s old new h ns loaded),
    )
    said

pub near_says : {S K : Type 0} {s : SourceGhosts S} {k : SinkGhosts K} {before after : K} {status : Status} (slack : ℤ) (depth limit : ℕ) (old new : S) (h : Head) (ns : List Node) (upper : ℤ)
    → depth ≤ 16 → IsLoaded s old new h ns → upper_cost h.best ≡ Some upper → length (near_list h.instance (upper +ℤ slack) depth) ≤ limit
    → Says k before after Near (near_text (upper +ℤ slack) ((root_of h.instance).level - depth) (near_list h.instance (upper +ℤ slack) depth)) status
    → Ran s k (near slack depth limit) old new before after status
near_says {s = s} {k = k} {before = before} {after = after} {status = status} slack depth limit old new h ns upper deep loaded has within said =
    let a : Answer = answer_of h ns in
    let u = upper_is h.best upper has in
    let text : ℤ → List ℕ = λ c. near_text (c +ℤ slack) ((root_of h.instance).level - depth) (near_list h.instance (c +ℤ slack) depth) in
    let fits : length (near_set_of a (u.best.upper +ℤ slack) depth) ≤ limit = subst (λ c. length (near_set_of a (c +ℤ slack) depth) ≤ limit) (sym u.is) within in
    Ran-loaded-says (near slack depth limit) (near_loads slack depth limit) old new h ns loaded refl
    (OfBytes-map (s.left old) (IsTextOfValid a) (λ bytes. ListsNear slack depth limit bytes (text u.best.upper))
    (λ bytes of. record {
      answer = a;
      best = u.best;
      of = loaded_site a u.best bytes u.there of;
      within = fits;
      held = λ p permitted cheap. near_points_held h.instance (u.best.upper +ℤ slack) depth p of.valid.ranges.instance deep permitted cheap;
      written = refl;
    })
    (loaded_text s old new h ns loaded))
    (subst (λ c. Says k before after Near (text c) status) (sym u.is) said)

-- the status that is wanted is one of the parts of another answer with this text
as_wanted : (slack : ℤ) (depth limit : ℕ) (bytes : List ℕ) (status : Status) (a b : Answer) (o : Option Best) → IsTextOfValid a bytes → IsTextOfValid b bytes
    → b.head.best ≡ o → status ≡ near_status b.head.instance o slack depth limit → status ≡ near_status a.head.instance a.head.best slack depth limit
as_wanted slack depth limit bytes status a b o of other there is =
    is ∙ ap (λ (p : Option Best). near_status b.head.instance p slack depth limit) (sym there)
    ∙ ap (λ (x : Answer). near_status x.head.instance x.head.best slack depth limit) (one_answer b a bytes other of)

is_near_status : (slack : ℤ) (depth limit : ℕ) (bytes : List ℕ) (status : Status) (text : List ℕ) (a : Answer) → IsTextOfValid a bytes → NearAnswers slack depth limit (Some bytes) status text
    → status ≡ near_status a.head.instance a.head.best slack depth limit
is_near_status slack depth limit bytes Near text a of h =
    as_wanted slack depth limit bytes Near a h.answer (Some h.best) of h.of.of h.of.site (sym (cond-true _ _ _ (le-leb _ limit h.within)))
is_near_status slack depth limit bytes NoSite text a of h =
    let lacks = h.1 in
    as_wanted slack depth limit bytes NoSite a lacks.answer None of lacks.of lacks.none refl
is_near_status slack depth limit bytes (TooMany above) text a of h =
    let more = h.2 in
    as_wanted slack depth limit bytes (TooMany above) a more.answer (Some more.best) of more.of.of more.of.site
    (ap TooMany h.1 ∙ sym (cond-false _ _ _ (lt-leb _ limit more.more)))
is_near_status slack depth limit bytes status text a of h = absurd (valid_loads a bytes status text of h)

pub near_wants : (slack : ℤ) (depth limit : ℕ) (told : Option (List ℕ)) (status : Status) (text : List ℕ) → NearAnswers slack depth limit told status text → NearWants slack depth limit told status
near_wants slack depth limit None status text h = tt
near_wants slack depth limit (Some bytes) status text h = λ a of. is_near_status slack depth limit bytes status text a of h
