use Rattle.std.proofs.Common.{◌≡◌, ◌++◌, ◌∷◌, [], rules, arith}
use Rattle.std.specs.Prelude.{unsigned_abs}
use Rattle.instance_text.proofs.Limits.{KeepsLimits-point}
use Rattle.instance_text.proofs.reading.Reading.take_point.Goals as goal

pub invariant_of-self-2 : goal.invariant_of-self-2
invariant_of-self-2 c =
    let pushed : c.push.new.self.items ≡ c.self.inside.points.items ++ c.args.point ∷ [] = grind arith in
    let size : c.unsigned_abs.result ≡ unsigned_abs c.args.point.w = search rules in
    KeepsLimits-point _ _ _ _ _ c.self.invariant (search rules) size (search rules) pushed
