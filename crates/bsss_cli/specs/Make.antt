-- What `make` answers.
use Rattle.std.specs.Prelude.{◌≡◌, ℕ, true, false, ⊤}
use Rattle.siting_definitions.specs.InstanceText.{instance_text}
use Rattle.case_maker.specs.Made.{made}
use Rattle.bsss_cli.specs.declared.status.Status.TheVariants.{Made}
use Rattle.bsss_cli.specs.Outcome.{Promise}

-- the text of the made instance
abbrev pub make : ℕ → ℕ → Promise
make seed points = record {
  reads = false;
  takes_memory = true;
  reads_ahead = false;
  stops = λ got left status. ⊤;
  answers = λ told status text. (status ≡ Made) × (text ≡ instance_text (made seed points));
  wanted = λ told status. status ≡ Made;
}
