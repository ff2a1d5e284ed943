-- The limits of what was found.
use Rattle.std.proofs.Common.{◌≡◌, ℕ, ◌+◌, List, [], ◌∷◌, ◌++◌, ◌<◌, ◌≤◌, length, length-append, sym, ap, ◌∙◌, arith, refl}
use Rattle.std.specs.Prelude.{unsigned_abs}
use Rattle.std.proofs.lemmas.List.Sums.{sum_by_push}
use Rattle.siting_definitions.specs.Instance.{DemandPt, weight}
use Rattle.instance_text.specs.Reading.{Found, nothing_found}
use Rattle.instance_text.specs.Phase.{Phase, Start, Body, Ended}
use Rattle.instance_text.specs.KeepsLimits.{IsWhole, KeepsLimits}

-- the weight of one more point
pub weight_push : (points : List DemandPt) (point : DemandPt) → weight (points ++ point ∷ []) ≡ weight points + unsigned_abs point.w
unfolding weight
weight_push points point = sum_by_push (λ (d : DemandPt). unsigned_abs d.w) points point

-- nothing keeps the limits
pub KeepsLimits-nothing : KeepsLimits 0 nothing_found
unfolding weight
KeepsLimits-nothing = record {
  weight = refl;
  light = omega arith;
  many_points = omega arith;
  many_permitted = omega arith;
  many_forbidden = omega arith;
  whole = tt;
}

-- one more point leaves what was found whole
pub whole_push : (phase : Phase) (found : Found) (points : List DemandPt) → length found.points ≤ length points → IsWhole phase found → IsWhole phase (record found { points = points })
whole_push Start found points more whole = tt
whole_push (Body cutoffs) found points more whole = tt
whole_push (Ended kind) found points more whole = (omega (arith, whole.0), whole.1)

-- one more point within the limits
pub KeepsLimits-point : (w n : ℕ) (found : Found) (point : DemandPt) (points : List DemandPt) → KeepsLimits w found → length found.points < 4096 → n ≡ unsigned_abs point.w → w + n ≤ 16000000 → points ≡ found.points ++ point ∷ [] → KeepsLimits (w + n) (record found { points = points })
KeepsLimits-point w n found point points lawful few size light pushed =
    let longer : length points ≡ length found.points + 1 = ap length pushed ∙ length-append found.points (point ∷ []) in
    record {
      weight = rw (pushed, size) (ap (λ m. m + unsigned_abs point.w) lawful.weight ∙ sym (weight_push found.points point));
      light = light;
      many_points = omega arith;
      many_permitted = lawful.many_permitted;
      many_forbidden = lawful.many_forbidden;
      whole = whole_push found.phase found points (omega arith) lawful.whole;
    }
