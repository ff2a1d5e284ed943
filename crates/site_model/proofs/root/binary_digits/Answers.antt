use Rattle.std.proofs.Common.{refl, arith}
use Rattle.site_model.proofs.Rooted.{digits_of}
use Rattle.site_model.proofs.root.binary_digits.Goals as goal

pub returns : goal.returns
returns c = digits_of c.args.n _ (omega arith) refl
