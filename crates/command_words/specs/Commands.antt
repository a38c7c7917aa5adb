-- The commands that the program keeps, with the names as it borrows them.
use Rattle.std.specs.Prelude.{◌≡◌, ◌≤◌, ℕ, true, List, Option}
use Rattle.std.specs.Option.{option_map}
use Rattle.std.specs.Borrow.{Bor}
use Rattle.load_maker.specs.Sizes.{is_within}
use Rattle.command_words.specs.declared.words.Size.{Size as KeptSize}
use Rattle.command_words.specs.declared.words.TwinFiles.{TwinFiles}
use Rattle.command_words.specs.declared.words.BillFiles.{BillFiles}
use Rattle.command_words.specs.declared.words.RegisterFiles.{RegisterFiles}
use Rattle.command_words.specs.declared.words.ResumeFiles.{ResumeFiles}
use Rattle.command_words.specs.declared.words.HideFiles.{HideFiles}
use Rattle.command_words.specs.declared.words.InspectFiles.{InspectFiles}
use Rattle.command_words.specs.declared.words.CollectFiles.{CollectFiles}
use Rattle.command_words.specs.declared.words.Command.{Command as Kept}
use Rattle.command_words.specs.declared.words.Command.TheVariants as kept
use Rattle.command_words.specs.Known.{IsKnown, known_in}
use Rattle.command_words.specs.Words.{TwinNames, Size, Command, Run, Ring, Registers, RegisterNames, Resume, ResumeNames, Audit, Twin, RingTwin, Pooled, Make, Load, Convert, Public, Parts, Help, Version, names_of, Bill, Hide, BillNames, HideNames, Inspect, InspectNames, Collect, CollectNames, Meter}

-- the names of the files of `twin`
abbrev pub twin_names_of : TwinFiles → TwinNames
twin_names_of files =
    record { plan = files.plan.now; readings = files.readings.now; other = files.other.now; transcript = files.transcript.now; masks = files.masks.now }

-- the names of the files of `resume`
abbrev pub resume_names_of : ResumeFiles → ResumeNames
resume_names_of files =
    record { plan = files.plan.now; readings = files.readings.now; cut = files.cut.now; report = files.report.now; transcript = files.transcript.now }

-- the names of the files of `registers`
abbrev pub register_names_of : RegisterFiles → RegisterNames
register_names_of files =
    record { plan = files.plan.now; readings = files.readings.now; report = files.report.now; transcript = files.transcript.now; words = files.words.now }

-- the names of the files of `bill`
abbrev pub bill_names_of : BillFiles → BillNames
bill_names_of files = record { plan = files.plan.now; readings = files.readings.now; bills = files.bills.now }

-- the names of the files of `hide`
abbrev pub hide_names_of : HideFiles → HideNames
hide_names_of files = record { plan = files.plan.now; readings = files.readings.now; transcript = files.transcript.now; other = files.other.now }

-- the names of the files of `inspect`
abbrev pub inspect_names_of : InspectFiles → InspectNames
inspect_names_of files = record { public = files.public.now; transcript = files.transcript.now; report = files.report.now }

-- the names of the files of `collect`
abbrev pub collect_names_of : CollectFiles → CollectNames
collect_names_of files = record { public = files.public.now; journal = files.journal.now; report = files.report.now }

-- the size that is meant
abbrev pub size_in : KeptSize → Size
size_in size = record { seed = size.seed; groups = size.groups; meters = size.meters; rounds = size.rounds }

-- the name that is meant, where there is one
abbrev pub name_in : Option (Bor (List ℕ)) → Option (List ℕ)
name_in name = option_map (λ n. n.now) name

-- the command that is meant
abbrev pub asked : Kept → Command
asked (kept.Run words) = Run (names_of words.files) words.workers
asked (kept.Ring words) = Ring words.width (names_of words.files) words.workers
asked (kept.Resume words) = Resume (resume_names_of words.files) words.workers
asked (kept.Registers words) = Registers words.registers (register_names_of words.files) words.workers
asked (kept.Audit files) = Audit files.transcript.now files.report.now
asked (kept.Twin files) = Twin (twin_names_of files)
asked (kept.RingTwin words) = RingTwin words.width (twin_names_of words.files)
asked (kept.Pooled words) = Pooled (known_in words.known.now) (twin_names_of words.files)
asked (kept.Make words) = Make (size_in words.size) words.plan.now words.readings.now
asked (kept.Load words) = Load (size_in words.size) words.workers (name_in words.transcript)
asked (kept.Convert files) = Convert files.old.now files.transcript.now
asked (kept.Public files) = Public files.plan.now files.public.now
asked (kept.Parts words) = Parts words.plan.now words.group words.prefix.now
asked (kept.Collect files) = Collect (collect_names_of files)
asked (kept.Meter files) = Meter files.meter.now files.journal.now
asked (kept.Inspect files) = Inspect (inspect_names_of files)
asked (kept.Bill words) = Bill (bill_names_of words.files) words.period
asked (kept.Hide words) = Hide (hide_names_of words.files) words.period words.place
asked kept.Help = Help
asked kept.Version = Version

-- the numbers of a size are within the limits of plans
abbrev pub IsSize : KeptSize → Type 0
IsSize size = is_within size.groups size.meters size.rounds ≡ true

-- the command's numbers are within their limits, and KNOWN names meters
abbrev pub IsWithin : Kept → Type 0
IsWithin (kept.Run words) = (1 ≤ words.workers) × (words.workers ≤ 16)
IsWithin (kept.Ring words) = (1 ≤ words.width) × (words.width ≤ 128) × (1 ≤ words.workers) × (words.workers ≤ 16)
IsWithin (kept.Resume words) = (1 ≤ words.workers) × (words.workers ≤ 16)
IsWithin (kept.Registers words) = (2 ≤ words.registers) × (words.registers ≤ 8) × (1 ≤ words.workers) × (words.workers ≤ 16)
IsWithin (kept.RingTwin words) = (1 ≤ words.width) × (words.width ≤ 128)
IsWithin (kept.Pooled words) = IsKnown words.known.now
IsWithin (kept.Make words) = IsSize words.size
IsWithin (kept.Load words) = IsSize words.size × (1 ≤ words.workers) × (words.workers ≤ 16)
IsWithin _ = Unit {0}
