use Rattle.std.proofs.Common.{◌≡◌, rules}
use Rattle.std.specs.Fmt.{decimal}
use Rattle.cover_cli.proofs.output.put_fault.Goals as goal

pub returns : goal.returns
returns g c =
    let number : c.as_bytes.result.now ≡ decimal c.args.number = search rules in
    let line : c.as_bytes-2.result.now ≡ decimal c.args.line = search rules in
    rw (number, line) at c.put_four.ensures
