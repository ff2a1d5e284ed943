-- The text of a valid answer fits its room in memory, and what a summary is written from.
use Rattle.std.proofs.Common.{◌≡◌, ℕ, ◌≤◌, List, [], ◌∷◌, ◌++◌, Option, None, Some, Bool, codes, refl, ap, subst, ◌∙◌}
use Rattle.std.specs.Prelude.{length, pos, if◌then◌else◌, MatchOption}
use Rattle.std.specs.Fmt.{signed_decimal}
use Rattle.std.proofs.lemmas.Bool.{le-leb}
use Rattle.std.proofs.Math.Dec.{leb-zero}
use Rattle.std.proofs.lemmas.List.Concat.{flat_map-append}
use Rattle.port_io.specs.Bytes.{Took, told}
use Rattle.port_io.specs.MemoryPorts.{SureSinkState, sure_taken}
use Rattle.siting_definitions.specs.declared.Mark.{Mark}
use Rattle.siting_definitions.specs.declared.Word.{Word}
use Rattle.siting_definitions.specs.declared.Word.TheVariants as words
use Rattle.siting_definitions.specs.Answer.{Head, Answer}
use Rattle.siting_definitions.specs.Marks.{tally_of}
use Rattle.siting_definitions.specs.Line.{line_text, text_of}
use Rattle.siting_definitions.specs.AnswerText.{number_line, optional_line, site_line, cost_line, word_field}
use Rattle.bsss_cli.specs.declared.status.Status.{Status}
use Rattle.bsss_cli.specs.Status.{meaning_of, status_of}
use Rattle.case_maker.specs.Made.{made}
use Rattle.cert_checker.specs.declared.checking.Accepted.{Accepted}
use Rattle.cert_checker.specs.Checking.{accepted_of}
use Rattle.command_line.specs.declared.command.Settings.{Settings}
use Rattle.bsss_cli.specs.Ports.{SinkGhosts}
use Rattle.bsss_cli.specs.Outcome.{Says, Ended}
use Rattle.bsss_cli.specs.Solve.{IsAnswerTo}
use Rattle.bsss_cli.specs.Trial.{Tries, summary_lines, trial}
use Rattle.bsss_cli.proofs.OutcomeLemmas.{Ended-says}
use Rattle.bsss_cli.proofs.OutcomeLemmas.{status_of-whole}

-- an empty sink in memory tells a text that fits its room
pub text_fits : (room : ℕ) (before after : SureSinkState) (text : List ℕ)
    → before ≡ record { room = room; bytes = Some [] } → length text ≤ room
    → Took (Some before.room) (sure_taken before) (sure_taken after) text
    → sure_taken after ≡ Some text
text_fits room before after text is fits took =
    let empty : sure_taken before ≡ Some [] =
    ap sure_taken is ∙ ap (λ (b : Bool). if b then Some [] else None) (leb-zero room) in
    let taken : sure_taken after ≡ told (Some before.room) text =
    subst (λ (o : Option (List ℕ)). Took (Some before.room) o (sure_taken after) text) empty took in
    let same : before.room ≡ room = ap (λ (s : SureSinkState). s.room) is in
    taken ∙ ap (λ (r : ℕ). told (Some r) text) same
    ∙ ap (λ (b : Bool). if b then Some text else None) (le-leb (length text) room fits)

-- a tally counts all marks
pub tally-nodes : (ms : List Mark) → (tally_of ms).nodes ≡ length ms
unfolding tally_of
tally-nodes ms = refl

-- ---- what a trial says
answered : (P : Word → Type 0) (word : Word) → P word → MatchOption (meaning_of (status_of word)).word ⊥ P
answered P words.Solved h = h
answered P words.PoolFull h = h
answered P words.Budget h = h
answered P words.Floor h = h
answered P words.Empty h = h

-- a trial whose answer was accepted says its summary
pub trial_says : {K : Type 0} {k : SinkGhosts K} {before after : K} {status : Status} (seed points : ℕ)
    (s : Settings) (told : Option (List ℕ)) (a : Answer) (said : Accepted)
    → IsAnswerTo (made seed points) s a.head.word a → said ≡ accepted_of a.head (tally_of a.marks)
    → Says k before after (status_of a.head.word) (text_of (summary_lines seed points a.head said.nodes)) status
    → Ended k (trial seed points s) told before after status
trial_says seed points s told a said answers is says =
    let nodes : said.nodes ≡ length a.marks =
    ap (λ (x : Accepted). x.nodes) is ∙ tally-nodes a.marks in
    Ended-says (trial seed points s) told (status_of-whole a.head.word)
    (answered (λ word. Tries seed points s word (text_of (summary_lines seed points a.head said.nodes))) a.head.word (record { answer = a; answers = answers; written = ap (λ n. text_of (summary_lines seed points a.head n)) nodes }))
    says

-- ---- the summary, in the parts in which it is written
abbrev pub first_lines : ℕ → ℕ → Word → List (List (List ℕ))
first_lines seed points word =
    (codes "trial" ∷ signed_decimal (pos seed) ∷ signed_decimal (pos points) ∷ []) ∷ (codes "answer" ∷ word_field word ∷ []) ∷ []

abbrev pub best_lines : Head → List (List (List ℕ))
best_lines h = site_line h.best ∷ cost_line h.best ∷ []

abbrev pub last_lines : Head → ℕ → List (List (List ℕ))
last_lines h nodes = number_line (codes "leases") h.leases ∷ number_line (codes "nodes") nodes ∷ (codes "check" ∷ codes "accepted" ∷ []) ∷ []

pub summary-parts : (seed points : ℕ) (h : Head) (nodes : ℕ)
    → text_of (summary_lines seed points h nodes)
    ≡ text_of (first_lines seed points h.word) ++ (text_of (best_lines h)
    ++ (line_text (optional_line (codes "bound") h.bound) ++ text_of (last_lines h nodes)))
summary-parts seed points h nodes =
    let rest = optional_line (codes "bound") h.bound ∷ last_lines h nodes in
    flat_map-append line_text (first_lines seed points h.word) (best_lines h ++ rest)
    ∙ ap (λ bytes. text_of (first_lines seed points h.word) ++ bytes) (flat_map-append line_text (best_lines h) rest)
