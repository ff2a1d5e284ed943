-- Each answer of a command is one that is wanted.
use Rattle.std.proofs.Common.{ℕ, List, Option, None, Some}
use Rattle.command_line.specs.declared.command.Command.{Command}
use Rattle.command_line.specs.declared.command.Command.TheVariants.{Solve, Check, Resume, Polish, Near, Make, Trial}
use Rattle.bsss_cli.specs.declared.status.Status.{Status}
use Rattle.bsss_cli.specs.Status.{meaning_of}
use Rattle.bsss_cli.specs.Trial.{Tries}
use Rattle.bsss_cli.specs.Commands.{promise_of}
use Rattle.bsss_cli.proofs.OutcomeLemmas.{word_answers}
use Rattle.bsss_cli.proofs.SolveLemmas.{solve_wants}
use Rattle.bsss_cli.proofs.CheckLemmas.{check_wants}
use Rattle.bsss_cli.proofs.ResumeLemmas.{resume_wants}
use Rattle.bsss_cli.proofs.PolishLemmas.{polish_wants}
use Rattle.bsss_cli.proofs.NearLemmas.{near_wants}

pub command_wants : (command : Option Command) (told : Option (List ℕ)) (status : Status) (text : List ℕ) → (promise_of command).answers told status text → (promise_of command).wanted told status
command_wants None told status text h = tt
command_wants (Some (Solve s)) told status text h = solve_wants s told status text h
command_wants (Some (Check workers)) told status text h = check_wants told status text h
command_wants (Some (Resume budget pool workers)) told status text h = resume_wants budget pool workers told status text h
command_wants (Some Polish) told status text h = polish_wants told status text h
command_wants (Some (Near slack depth limit)) told status text h = near_wants slack depth limit told status text h
command_wants (Some (Make seed points)) told status text h = h.0
command_wants (Some (Trial seed points s)) told status text h =
    word_answers (λ word. Tries seed points s word text) (meaning_of status).word h
