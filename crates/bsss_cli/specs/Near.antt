-- What the command `near` answers.
use Rattle.std.specs.Prelude.{◌≡◌, ℕ, ◌<◌, ◌≤◌, ◌-◌, ℤ, pos, ◌+ℤ◌, true, false, List, [], ◌∷◌, ◌++◌}
use Rattle.std.specs.Prelude.{length, codes, count_by, nat_le, if◌then◌else◌}
use Rattle.std.specs.Prelude.{Option, Some, None, IfSome}
use Rattle.std.specs.Fmt.{signed_decimal}
use Rattle.siting_definitions.specs.Point.{Point}
use Rattle.siting_definitions.specs.Instance.{Instance}
use Rattle.siting_definitions.specs.Permitted.{permits}
use Rattle.siting_definitions.specs.Cost.{CostAtMost}
use Rattle.siting_definitions.specs.Square.{Square, holds}
use Rattle.siting_definitions.specs.Sites.{root_of}
use Rattle.siting_definitions.specs.Line.{line_text, text_of}
use Rattle.siting_definitions.specs.AnswerText.{number_line}
use Rattle.siting_definitions.specs.Answer.{Answer, Best}
use Rattle.near_set.specs.Near.{near_list, squares_text}
use Rattle.bsss_cli.specs.declared.status.Status.{Status}
use Rattle.bsss_cli.specs.declared.status.Status.TheVariants.{Near, NoSite, TooMany}
use Rattle.bsss_cli.specs.Texts.{no_site, too_many}
use Rattle.bsss_cli.specs.Outcome.{Promise, OfBytes}
use Rattle.bsss_cli.specs.Load.{IsTextOfValid, LoadAnswers, LoadStops}

-- the text of a near set: its cost and the level of its squares, the squares, and how many they are
abbrev pub near_text : ℤ → ℕ → List Square → List ℕ
near_text cost level squares =
    line_text (codes "near" ∷ signed_decimal cost ∷ signed_decimal (pos level) ∷ [])
    ++ (squares_text squares
    ++ text_of (number_line (codes "count") (length squares) ∷ (codes "end" ∷ []) ∷ []))

-- the near set of an answer with this upper cost
abbrev pub near_set_of : Answer → ℤ → ℕ → List Square
near_set_of a cost depth = near_list a.head.instance cost depth

-- the bytes are the text of a valid answer with a site
pub record HasSite (a : Answer) (best : Best) (bytes : List ℕ) : Type 0 where
  pub of : IsTextOfValid a bytes
  pub site : a.head.best ≡ Some best

-- The text written is that of the near set of the answer's upper cost and the slack. Each permitted
-- rational point that costs at most as much is held by exactly one of its squares.
pub record ListsNear (slack : ℤ) (depth limit : ℕ) (bytes text : List ℕ) : Type 0 where
  pub answer : Answer
  pub best : Best
  pub of : HasSite answer best bytes
  pub within : length (near_set_of answer (best.upper +ℤ slack) depth) ≤ limit
  pub held : (p : Point) → permits answer.head.instance p ≡ true
      → CostAtMost answer.head.instance p (best.upper +ℤ slack)
      → count_by (λ (s : Square). holds s p) (near_set_of answer (best.upper +ℤ slack) depth) ≡ 1
  pub written : text ≡ near_text (best.upper +ℤ slack)
      ((root_of answer.head.instance).level - depth)
      (near_set_of answer (best.upper +ℤ slack) depth)

-- the bytes are the text of a valid answer without a site
pub record LacksSite (bytes : List ℕ) : Type 0 where
  pub answer : Answer
  pub of : IsTextOfValid answer bytes
  pub none : answer.head.best ≡ None

-- the near set has more squares than the limit
pub record HasMore (slack : ℤ) (depth limit : ℕ) (bytes : List ℕ) : Type 0 where
  pub answer : Answer
  pub best : Best
  pub of : HasSite answer best bytes
  pub more : limit < length (near_set_of answer (best.upper +ℤ slack) depth)

-- What it may answer, and the text that it writes then: each status only where its condition on the
-- bytes holds.
abbrev pub NearAnswers : ℤ → ℕ → ℕ → Option (List ℕ) → Status → List ℕ → Type 0
NearAnswers slack depth limit told Near text =
    OfBytes told (λ bytes. ListsNear slack depth limit bytes text)
NearAnswers slack depth limit told NoSite text = (text ≡ no_site) × OfBytes told LacksSite
NearAnswers slack depth limit told (TooMany above) text =
    (text ≡ too_many above) × (above ≡ limit) × OfBytes told (HasMore slack depth limit)
NearAnswers slack depth limit told status text = LoadAnswers told status text

-- the status of a valid answer
abbrev pub near_status : Instance → Option Best → ℤ → ℕ → ℕ → Status
near_status i None slack depth limit = NoSite
near_status i (Some best) slack depth limit =
    if nat_le (length (near_list i (best.upper +ℤ slack) depth)) limit then Near
    else TooMany limit

-- that status, of each valid answer
abbrev pub NearWants : ℤ → ℕ → ℕ → Option (List ℕ) → Status → Type 0
NearWants slack depth limit told status =
    IfSome told (λ bytes. (a : Answer) → IsTextOfValid a bytes
    → status ≡ near_status a.head.instance a.head.best slack depth limit)

abbrev pub near : ℤ → ℕ → ℕ → Promise
near slack depth limit = record {
  reads = true;
  takes_memory = true;
  reads_ahead = false;
  stops = LoadStops;
  answers = NearAnswers slack depth limit;
  wanted = NearWants slack depth limit;
}
