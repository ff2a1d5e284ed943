use Rattle.std.proofs.Common.{◌≡◌, rules}
use Rattle.std.specs.Fmt.{decimal}
use Rattle.bsss_cli.proofs.output.put_small.Goals as goal

pub returns : goal.returns
returns g c =
    let first : c.as_bytes.result.now ≡ decimal c.args.has = search rules in
    let second : c.as_bytes-2.result.now ≡ decimal c.args.wants = search rules in
    rw (first, second) at c.put_two.ensures
