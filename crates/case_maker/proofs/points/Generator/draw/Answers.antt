use Rattle.std.proofs.Common.{◌/◌, sym, ap}
use Rattle.case_maker.proofs.Draws.{state_one}
use Rattle.case_maker.proofs.points.Generator.draw.Goals as goal

pub returns-clause-state : goal.returns-clause-state
returns-clause-state c = sym (state_one c.args.self.now.state)

pub returns-clause-value : goal.returns-clause-value
returns-clause-value c = ap (λ s. s / 65536) (sym (state_one c.args.self.now.state))
