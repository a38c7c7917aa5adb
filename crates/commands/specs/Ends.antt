-- What a command does outside, by its outcome.
use Rattle.std.specs.Prelude.{List, [], ◌≡◌, Option, Some, None}
use Rattle.command_words.specs.Words.{Command, Run, Ring, Resume, Registers, Audit, Twin, RingTwin, Pooled, Make, Load, Convert, Public, Parts, Collect, Meter, Help, Version, Bill, Hide, Inspect}
use Rattle.command_files.specs.Calls.{PutsEnd}
use Rattle.link_lanes.specs.Lanes.{Meaning}
use Rattle.command_words.specs.declared.outcome.Outcome.{Outcome}
use Rattle.command_words.specs.declared.outcome.Outcome.TheVariants.{BadWords}
use Rattle.command_words.specs.declared.usage.TheConstants.{USAGE, VERSION}
use Rattle.run_commands.specs.RegisterEnds.{RegistersEnds}
use Rattle.run_commands.specs.ResumeEnds.{ResumeCommandEnds}
use Rattle.file_commands.specs.BillingEnds.{BillEnds, HideEnds}
use Rattle.file_commands.specs.InspectEnds.{InspectCommandEnds}
use Rattle.file_commands.specs.PartsEnds.{PartsEnds}
use Rattle.file_commands.specs.TwinEnds.{TwinCommandEnds, PooledCommandEnds, RingTwinEnds}
use Rattle.commands.specs.Outside.{OutsideView, OnDesk}
use Rattle.role_commands.specs.CollectEnds.{CollectEnds}
use Rattle.role_commands.specs.MeterEnds.{MeterEnds}
use Rattle.run_commands.specs.LoadEnds.{MakeEnds, LoadEnds}
use Rattle.run_commands.specs.RunEnds.{RunEnds, RingEnds}
use Rattle.file_commands.specs.ConvertEnds.{ConvertEnds}
use Rattle.file_commands.specs.AuditEnds.{AuditCommandEnds}
use Rattle.file_commands.specs.PublicEnds.{PublicEnds}

-- what the words' command does, and nothing where they are no command
abbrev pub Ends : List Meaning → Option Command → OutsideView → OutsideView → Outcome → Type 0
Ends cupboard None o p outcome = (outcome ≡ BadWords) × (p ≡ o)
Ends cupboard (Some (Run names workers)) o p outcome = OnDesk (RunEnds cupboard names) o p outcome
Ends cupboard (Some (Ring width names workers)) o p outcome = OnDesk (RingEnds width cupboard names) o p outcome
Ends cupboard (Some (Resume names workers)) o p outcome = OnDesk (ResumeCommandEnds cupboard names) o p outcome
Ends cupboard (Some (Registers count names workers)) o p outcome = OnDesk (RegistersEnds cupboard count names) o p outcome
Ends cupboard (Some (Audit transcript report)) o p outcome = OnDesk (AuditCommandEnds transcript report) o p outcome
Ends cupboard (Some (Twin names)) o p outcome = OnDesk (TwinCommandEnds names) o p outcome
Ends cupboard (Some (RingTwin width names)) o p outcome = OnDesk (RingTwinEnds width names) o p outcome
Ends cupboard (Some (Pooled known names)) o p outcome = OnDesk (PooledCommandEnds known names) o p outcome
Ends cupboard (Some (Make size plan readings)) o p outcome = OnDesk (MakeEnds size plan readings) o p outcome
Ends cupboard (Some (Load size workers transcript)) o p outcome = OnDesk (LoadEnds cupboard size transcript) o p outcome
Ends cupboard (Some (Convert old transcript)) o p outcome = OnDesk (ConvertEnds old transcript) o p outcome
Ends cupboard (Some (Public plan public)) o p outcome = OnDesk (PublicEnds plan public) o p outcome
Ends cupboard (Some (Parts plan g prefix)) o p outcome = OnDesk (PartsEnds plan g prefix) o p outcome
Ends cupboard (Some (Collect names)) o p outcome = CollectEnds names o.desk p.desk o.wire p.wire outcome
Ends cupboard (Some (Meter meter journal)) o p outcome = MeterEnds meter journal o.desk p.desk o.wire p.wire outcome
Ends cupboard (Some (Inspect names)) o p outcome = OnDesk (InspectCommandEnds names) o p outcome
Ends cupboard (Some (Bill names period)) o p outcome = OnDesk (BillEnds names period) o p outcome
Ends cupboard (Some (Hide names period place)) o p outcome = OnDesk (HideEnds names period place) o p outcome
Ends cupboard (Some Help) o p outcome = OnDesk (PutsEnd [] USAGE.now) o p outcome
Ends cupboard (Some Version) o p outcome = OnDesk (PutsEnd [] VERSION.now) o p outcome
