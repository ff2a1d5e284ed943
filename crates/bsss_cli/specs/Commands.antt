-- What a run with each command promises.
use Rattle.std.specs.Prelude.{nat_le, Option, Some, None}
use Rattle.command_line.specs.declared.command.Command.{Command}
use Rattle.command_line.specs.declared.command.Command.TheVariants.{Solve, Check, Resume}
use Rattle.command_line.specs.declared.command.Command.TheVariants.{Polish, Near, Make, Trial}
use Rattle.bsss_cli.specs.declared.status.Status.TheVariants.{Usage}
use Rattle.bsss_cli.specs.Texts.{bad_words}
use Rattle.bsss_cli.specs.Outcome.{Promise, refusal}
use Rattle.bsss_cli.specs.Solve.{solve}
use Rattle.bsss_cli.specs.Check.{check}
use Rattle.bsss_cli.specs.Resume.{resume}
use Rattle.bsss_cli.specs.Polish.{polish}
use Rattle.bsss_cli.specs.Near.{near}
use Rattle.bsss_cli.specs.Make.{make}
use Rattle.bsss_cli.specs.Trial.{trial}

-- the table of the commands; None is for words that are no command
abbrev pub promise_of : Option Command → Promise
promise_of None = refusal Usage bad_words
promise_of (Some (Solve s)) = solve s
promise_of (Some (Check workers)) = check (nat_le 2 workers)
promise_of (Some (Resume budget pool workers)) = resume budget pool workers
promise_of (Some Polish) = polish
promise_of (Some (Near slack depth limit)) = near slack depth limit
promise_of (Some (Make seed points)) = make seed points
promise_of (Some (Trial seed points s)) = trial seed points s
