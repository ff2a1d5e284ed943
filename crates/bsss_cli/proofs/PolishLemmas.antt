-- What a polish says of an answer that was loaded.
use Rattle.std.proofs.Common.{◌≡◌, ℕ, ℤ, List, [], ◌∷◌, ◌++◌, codes, Option, None, Some, refl, sym, ap, subst, ◌∙◌, append_assoc}
use Rattle.std.proofs.lemmas.List.{append-nil}
use Rattle.siting_definitions.specs.Line.{text_of}
use Rattle.siting_definitions.specs.AnswerText.{optional_line}
use Rattle.siting_definitions.specs.Answer.{Head, Answer}
use Rattle.discard_log.specs.declared.node.Node.{Node}
use Rattle.search_answer.specs.Ending.{answer_of}
use Rattle.centre_bound.specs.Polished.{HaveFineBounds, least_centre_bound}
use Rattle.centre_bound.proofs.PolishLemmas.{polished_bounds, valid_fine}
use Rattle.resume_job.specs.Loading.{AreOfValid}
use Rattle.bsss_cli.specs.declared.status.Status.{Status}
use Rattle.bsss_cli.specs.declared.status.Status.TheVariants.{Polished}
use Rattle.bsss_cli.specs.Texts.{value_text}
use Rattle.bsss_cli.specs.Ports.{SourceGhosts, SinkGhosts}
use Rattle.bsss_cli.specs.Outcome.{Says, Ran}
use Rattle.bsss_cli.specs.Load.{IsTextOfValid, LoadAnswers, IsLoaded}
use Rattle.bsss_cli.specs.Polish.{polish_lines, polished_of, Polishes, PolishAnswers, PolishWants, polish}
use Rattle.bsss_cli.proofs.ReadingLemmas.{OfBytes-map}
use Rattle.bsss_cli.proofs.LoadLemmas.{LoadsFirst, loaded_text, Ran-loaded-says, valid_loads}

-- ---- what holds until an answer is loaded
polish_refusals : (told : Option (List ℕ)) (status : Status) (text : List ℕ) → LoadAnswers told status text → PolishAnswers told status text
polish_refusals told Polished text h = absurd h
polish_refusals told status text h = h

pub polish_loads : LoadsFirst polish
polish_loads = record {
  reads = refl;
  takes = refl;
  waits = refl;
  stops = λ got left status h. h;
  answers = polish_refusals;
}

-- ---- the answer that was loaded
-- the bounds in its marks are the fine bounds of their squares
pub loaded_fine : (h : Head) (ns : List Node) → AreOfValid h ns → HaveFineBounds h.instance ns
loaded_fine h ns parts = subst (λ (xs : List Node). HaveFineBounds h.instance xs) (sym parts.nodes) (valid_fine (answer_of h ns) parts.valid)

-- a polish says its bound and the better one
pub polish_says : {S K : Type 0} {s : SourceGhosts S} {k : SinkGhosts K} {before after : K} {status : Status} (old new : S) (h : Head) (ns : List Node) (better : Option ℤ)
    → IsLoaded s old new h ns → better ≡ least_centre_bound h.instance ns
    → Says k before after Polished (text_of (polish_lines h.bound better)) status
    → Ran s k polish old new before after status
polish_says {s = s} old new h ns better loaded is said =
    let a : Answer = answer_of h ns in
    let same : better ≡ polished_of a = is ∙ ap (λ (xs : List Node). least_centre_bound h.instance xs) loaded.parts.nodes in
    Ran-loaded-says polish polish_loads old new h ns loaded refl
    (OfBytes-map (s.left old) (IsTextOfValid a) (λ bytes. Polishes bytes (text_of (polish_lines h.bound better)))
    (λ bytes of. record {
      answer = a;
      of = of;
      polished = polished_bounds a of.valid;
      written = ap (λ (o : Option ℤ). text_of (polish_lines h.bound o)) same;
    })
    (loaded_text s old new h ns loaded))
    said

-- ---- what a polish must answer
pub polish_wants : (told : Option (List ℕ)) (status : Status) (text : List ℕ) → PolishAnswers told status text → PolishWants told status
polish_wants None status text h = tt
polish_wants (Some bytes) Polished text h = λ a of. refl
polish_wants (Some bytes) status text h = λ a of. absurd (valid_loads a bytes status text of h)

-- ---- the text, as it is put
-- a line whose number may be absent
value_line : (word : List ℕ) (o : Option ℤ) → optional_line word o ≡ word ∷ value_text o ∷ []
value_line word None = refl
value_line word (Some z) = refl

pub polish_text : (bound better : Option ℤ) → text_of (polish_lines bound better)
    ≡ codes "bound " ++ (value_text bound ++ (codes "\npolished " ++ (value_text better ++ codes "\n")))
polish_text bound better =
    let rest : List ℕ = codes "polished " ++ ((value_text better ++ 10 ∷ []) ++ []) in
    rw (value_line (codes "bound") bound, value_line (codes "polished") better)
    (ap (λ bytes. codes "bound " ++ bytes)
    (append_assoc (value_text bound) (10 ∷ []) rest
    ∙ ap (λ bytes. value_text bound ++ (codes "\npolished " ++ bytes)) (append-nil (value_text better ++ 10 ∷ []))))
