-- The words of the command line, without the program's name.
use Rattle.std.specs.Prelude.{ℕ, Bool, true, false, ◌&&◌, ◌||◌, not, List, [], ◌∷◌, Option, Some, None, nat_lt, if◌then◌else◌, codes}
use Rattle.std.specs.Str.{bytes_eq}
use Rattle.field_texts.specs.Numbers.{number_of, within}
use Rattle.load_maker.specs.Sizes.{is_within}
use Rattle.command_words.specs.declared.known.KnownMeter.{KnownMeter}
use Rattle.command_words.specs.declared.words.Period.{Period}
use Rattle.command_words.specs.declared.words.PlaceWords.{PlaceWords}
use Rattle.command_words.specs.Known.{known_of}
use Rattle.command_words.specs.declared.words.RunFiles.{RunFiles}

-- the names of the files of `run` and of `ring`
pub record RunNames : Type 0 where
  pub plan : List ℕ
  pub readings : List ℕ
  pub report : List ℕ
  pub transcript : List ℕ

-- the names of the files of `resume`
pub record ResumeNames : Type 0 where
  pub plan : List ℕ
  pub readings : List ℕ
  pub cut : List ℕ
  pub report : List ℕ
  pub transcript : List ℕ

-- the names of the files of `registers`
pub record RegisterNames : Type 0 where
  pub plan : List ℕ
  pub readings : List ℕ
  pub report : List ℕ
  pub transcript : List ℕ
  pub words : List ℕ

-- the names of the files of `twin`, of `ringtwin` and of `pooled`
pub record TwinNames : Type 0 where
  pub plan : List ℕ
  pub readings : List ℕ
  pub other : List ℕ
  pub transcript : List ℕ
  pub masks : List ℕ

-- the names of the files of `inspect`
pub record InspectNames : Type 0 where
  pub public : List ℕ
  pub transcript : List ℕ
  pub report : List ℕ

-- the names of the files of `collect`
pub record CollectNames : Type 0 where
  pub public : List ℕ
  pub journal : List ℕ
  pub report : List ℕ

-- a size of made files: the seed, and how many groups, meters of each, and rounds
pub record Size : Type 0 where
  pub seed : ℕ
  pub groups : ℕ
  pub meters : ℕ
  pub rounds : ℕ

-- the names of the files of `bill`
pub record BillNames : Type 0 where
  pub plan : List ℕ
  pub readings : List ℕ
  pub bills : List ℕ

-- the names of the files of `hide`
pub record HideNames : Type 0 where
  pub plan : List ℕ
  pub readings : List ℕ
  pub transcript : List ℕ
  pub other : List ℕ

-- what the words ask for
pub data Command : Type 0 where
  Run : (names : RunNames) (workers : ℕ) → Command
  Ring : (width : ℕ) (names : RunNames) (workers : ℕ) → Command
  Resume : (names : ResumeNames) (workers : ℕ) → Command
  Registers : (count : ℕ) (names : RegisterNames) (workers : ℕ) → Command
  Audit : (transcript report : List ℕ) → Command
  Twin : (names : TwinNames) → Command
  RingTwin : (width : ℕ) (names : TwinNames) → Command
  Pooled : (known : List KnownMeter) (names : TwinNames) → Command
  Make : (size : Size) (plan readings : List ℕ) → Command
  Load : (size : Size) (workers : ℕ) (transcript : Option (List ℕ)) → Command
  Convert : (old transcript : List ℕ) → Command
  Public : (plan public : List ℕ) → Command
  Parts : (plan : List ℕ) (group : ℕ) (prefix : List ℕ) → Command
  Collect : (names : CollectNames) → Command
  Meter : (meter journal : List ℕ) → Command
  Inspect : (names : InspectNames) → Command
  Bill : (names : BillNames) (period : Period) → Command
  Hide : (names : HideNames) (period : Period) (place : PlaceWords) → Command
  Help : Command
  Version : Command

-- ---- names of files

-- one of the names is this
abbrev pub has_name : List ℕ → List (List ℕ) → Bool
has_name name [] = false
has_name name (other ∷ others) = bytes_eq other name || has_name name others

-- a word that is not empty
abbrev pub is_name : List ℕ → Bool
is_name [] = false
is_name (_ ∷ _) = true

-- each word is a name, and no two are the same
abbrev pub are_names : List (List ℕ) → Bool
are_names [] = true
are_names (name ∷ names) = is_name name && not (has_name name names) && are_names names

-- the names that the program keeps
abbrev pub names_of : RunFiles → RunNames
names_of files = record { plan = files.plan.now; readings = files.readings.now; report = files.report.now; transcript = files.transcript.now }

-- ---- numbers

-- 1 to 16 workers
abbrev pub workers_of : List ℕ → Option ℕ
workers_of word = within 1 17 (number_of word)

-- a size of four numbers, of which the last three are within the limits of plans
abbrev pub size_by : (seed groups meters rounds : Option ℕ) → Option Size
size_by (Some seed) (Some groups) (Some meters) (Some rounds) =
    if is_within groups meters rounds then Some (record { seed = seed; groups = groups; meters = meters; rounds = rounds }) else None
size_by _ _ _ _ = None

-- the size that four words spell
unfoldable pub size_of : (seed groups meters rounds : List ℕ) → Option Size
size_of seed groups meters rounds = size_by (number_of seed) (number_of groups) (number_of meters) (number_of rounds)

-- ---- commands, by the words behind the verb

-- a command that takes a number, where there is one
abbrev pub with_number : Option ℕ → (ℕ → Option Command) → Option Command
with_number None command = None
with_number (Some n) command = command n

-- `run` with these files, where they are names, and so many workers
unfoldable pub run_with : (plan readings report transcript : List ℕ) → ℕ → Option Command
run_with plan readings report transcript workers =
    if are_names (plan ∷ readings ∷ report ∷ transcript ∷ [])
    then Some (Run (record { plan = plan; readings = readings; report = report; transcript = transcript }) workers)
    else None

-- `run PLAN READINGS REPORT TRANSCRIPT [WORKERS]`; 4 workers where no number is given
abbrev pub run_of : List (List ℕ) → Option Command
run_of (plan ∷ readings ∷ report ∷ transcript ∷ []) = run_with plan readings report transcript 4
run_of (plan ∷ readings ∷ report ∷ transcript ∷ workers ∷ []) = with_number (workers_of workers) (run_with plan readings report transcript)
run_of _ = None

-- masks with the meters at most 1 to 128 places away
abbrev pub width_of : List ℕ → Option ℕ
width_of word = within 1 129 (number_of word)

-- `ring` with these files, where they are names, this width and so many workers
unfoldable pub ring_with : RunNames → (width workers : ℕ) → Option Command
ring_with names width workers =
    if are_names (names.plan ∷ names.readings ∷ names.report ∷ names.transcript ∷ []) then Some (Ring width names workers) else None

-- `ring PLAN READINGS WIDTH REPORT TRANSCRIPT [WORKERS]`; 4 workers where no number is given
abbrev pub ring_of : List (List ℕ) → Option Command
ring_of (plan ∷ readings ∷ width ∷ report ∷ transcript ∷ []) =
    with_number (width_of width) (λ width. ring_with (record { plan = plan; readings = readings; report = report; transcript = transcript }) width 4)
ring_of (plan ∷ readings ∷ width ∷ report ∷ transcript ∷ workers ∷ []) =
    with_number (width_of width) (λ width. with_number (workers_of workers)
    (ring_with (record { plan = plan; readings = readings; report = report; transcript = transcript }) width))
ring_of _ = None

-- `resume` with these files, where they are names, and so many workers
unfoldable pub resume_with : ResumeNames → ℕ → Option Command
resume_with names workers =
    if are_names (names.plan ∷ names.readings ∷ names.cut ∷ names.report ∷ names.transcript ∷ []) then Some (Resume names workers) else None

-- `resume PLAN READINGS CUT REPORT TRANSCRIPT [WORKERS]`; 4 workers where no number is given
abbrev pub resume_of : List (List ℕ) → Option Command
resume_of (plan ∷ readings ∷ cut ∷ report ∷ transcript ∷ []) =
    resume_with (record { plan = plan; readings = readings; cut = cut; report = report; transcript = transcript }) 4
resume_of (plan ∷ readings ∷ cut ∷ report ∷ transcript ∷ workers ∷ []) =
    with_number (workers_of workers) (resume_with (record { plan = plan; readings = readings; cut = cut; report = report; transcript = transcript }))
resume_of _ = None

-- 2 to 8 registers
abbrev pub registers_of_word : List ℕ → Option ℕ
registers_of_word word = within 2 9 (number_of word)

-- `registers` with these files, where they are names, so many registers and so many workers
unfoldable pub registers_with : RegisterNames → (count workers : ℕ) → Option Command
registers_with names count workers =
    if are_names (names.plan ∷ names.readings ∷ names.report ∷ names.transcript ∷ names.words ∷ []) then Some (Registers count names workers) else None

-- `registers K PLAN READINGS REPORT TRANSCRIPT WORDS [WORKERS]`; 4 workers where no number is given
abbrev pub registers_of : List (List ℕ) → Option Command
registers_of (count ∷ plan ∷ readings ∷ report ∷ transcript ∷ words ∷ []) =
    with_number (registers_of_word count) (λ count. registers_with (record { plan = plan; readings = readings; report = report; transcript = transcript; words = words }) count 4)
registers_of (count ∷ plan ∷ readings ∷ report ∷ transcript ∷ words ∷ workers ∷ []) =
    with_number (registers_of_word count) (λ count. with_number (workers_of workers)
    (registers_with (record { plan = plan; readings = readings; report = report; transcript = transcript; words = words }) count))
registers_of _ = None

-- `audit TRANSCRIPT REPORT`
unfoldable pub audit_with : (transcript report : List ℕ) → Option Command
audit_with transcript report = if are_names (transcript ∷ report ∷ []) then Some (Audit transcript report) else None

abbrev pub audit_of : List (List ℕ) → Option Command
audit_of (transcript ∷ report ∷ []) = audit_with transcript report
audit_of _ = None

-- `twin` with these files, where they are names
unfoldable pub twin_with : (plan readings other transcript masks : List ℕ) → Option Command
twin_with plan readings other transcript masks =
    if are_names (plan ∷ readings ∷ other ∷ transcript ∷ masks ∷ [])
    then Some (Twin (record { plan = plan; readings = readings; other = other; transcript = transcript; masks = masks }))
    else None

-- `twin PLAN READINGS OTHER TRANSCRIPT MASKS`
abbrev pub twin_of : List (List ℕ) → Option Command
twin_of (plan ∷ readings ∷ other ∷ transcript ∷ masks ∷ []) = twin_with plan readings other transcript masks
twin_of _ = None

-- `ringtwin` with these files, where they are names, and this width
unfoldable pub ring_twin_with : TwinNames → (width : ℕ) → Option Command
ring_twin_with names width =
    if are_names (names.plan ∷ names.readings ∷ names.other ∷ names.transcript ∷ names.masks ∷ []) then Some (RingTwin width names) else None

-- `ringtwin PLAN READINGS OTHER WIDTH TRANSCRIPT MASKS`
abbrev pub ring_twin_of : List (List ℕ) → Option Command
ring_twin_of (plan ∷ readings ∷ other ∷ width ∷ transcript ∷ masks ∷ []) =
    with_number (width_of width) (ring_twin_with (record { plan = plan; readings = readings; other = other; transcript = transcript; masks = masks }))
ring_twin_of _ = None

-- a command that takes meters, where they are named
abbrev pub with_known : Option (List KnownMeter) → (List KnownMeter → Option Command) → Option Command
with_known None command = None
with_known (Some known) command = command known

-- `pooled` with these files, where they are names, and meters
unfoldable pub pooled_with : TwinNames → List KnownMeter → Option Command
pooled_with names known =
    if are_names (names.plan ∷ names.readings ∷ names.other ∷ names.transcript ∷ names.masks ∷ []) then Some (Pooled known names) else None

-- `pooled KNOWN PLAN READINGS OTHER TRANSCRIPT MASKS`
abbrev pub pooled_of : List (List ℕ) → Option Command
pooled_of (known ∷ plan ∷ readings ∷ other ∷ transcript ∷ masks ∷ []) =
    with_known (known_of known) (pooled_with (record { plan = plan; readings = readings; other = other; transcript = transcript; masks = masks }))
pooled_of _ = None

-- a command that takes a size, where there is one
abbrev pub with_size : Option Size → (Size → Option Command) → Option Command
with_size None command = None
with_size (Some size) command = command size

-- `make` with this size, where both are names
unfoldable pub make_with : Size → (plan readings : List ℕ) → Option Command
make_with size plan readings = if are_names (plan ∷ readings ∷ []) then Some (Make size plan readings) else None

-- `make SEED GROUPS METERS ROUNDS PLAN READINGS`
abbrev pub make_of : List (List ℕ) → Option Command
make_of (seed ∷ groups ∷ meters ∷ rounds ∷ plan ∷ readings ∷ []) = with_size (size_of seed groups meters rounds) (λ size. make_with size plan readings)
make_of _ = None

-- `load` with this size and so many workers, and a transcript where it is a name or there is none
unfoldable pub load_with : Option (List ℕ) → Size → ℕ → Option Command
load_with None size workers = Some (Load size workers None)
load_with (Some transcript) size workers = if is_name transcript then Some (Load size workers (Some transcript)) else None

-- `load SEED GROUPS METERS ROUNDS WORKERS [TRANSCRIPT]`
abbrev pub load_of : List (List ℕ) → Option Command
load_of (seed ∷ groups ∷ meters ∷ rounds ∷ workers ∷ []) =
    with_size (size_of seed groups meters rounds) (λ size. with_number (workers_of workers) (load_with None size))
load_of (seed ∷ groups ∷ meters ∷ rounds ∷ workers ∷ transcript ∷ []) =
    with_size (size_of seed groups meters rounds) (λ size. with_number (workers_of workers) (load_with (Some transcript) size))
load_of _ = None

-- `convert OLD TRANSCRIPT`
unfoldable pub convert_with : (old transcript : List ℕ) → Option Command
convert_with old transcript = if are_names (old ∷ transcript ∷ []) then Some (Convert old transcript) else None

abbrev pub convert_of : List (List ℕ) → Option Command
convert_of (old ∷ transcript ∷ []) = convert_with old transcript
convert_of _ = None

-- `public PLAN PUBLIC`
unfoldable pub public_with : (plan public : List ℕ) → Option Command
public_with plan public = if are_names (plan ∷ public ∷ []) then Some (Public plan public) else None

abbrev pub public_of : List (List ℕ) → Option Command
public_of (plan ∷ public ∷ []) = public_with plan public
public_of _ = None

-- a group below 256
abbrev pub group_of : List ℕ → Option ℕ
group_of word = within 0 256 (number_of word)

-- `parts` with this plan, where it is a name, and this group; the prefix begins the names of new files, and may be empty
unfoldable pub parts_with : (plan prefix : List ℕ) (group : ℕ) → Option Command
parts_with plan prefix group = if is_name plan then Some (Parts plan group prefix) else None

-- `parts PLAN G PREFIX`
abbrev pub parts_of : List (List ℕ) → Option Command
parts_of (plan ∷ group ∷ prefix ∷ []) = with_number (group_of group) (parts_with plan prefix)
parts_of _ = None

-- `collect` with these files, where they are names
unfoldable pub collect_with : (public journal report : List ℕ) → Option Command
collect_with public journal report =
    if are_names (public ∷ journal ∷ report ∷ [])
    then Some (Collect (record { public = public; journal = journal; report = report }))
    else None

-- `collect PUBLIC JOURNAL REPORT`
abbrev pub collect_of : List (List ℕ) → Option Command
collect_of (public ∷ journal ∷ report ∷ []) = collect_with public journal report
collect_of _ = None

-- `meter METER JOURNAL`
unfoldable pub meter_with : (meter journal : List ℕ) → Option Command
meter_with meter journal = if are_names (meter ∷ journal ∷ []) then Some (Meter meter journal) else None

abbrev pub meter_of : List (List ℕ) → Option Command
meter_of (meter ∷ journal ∷ []) = meter_with meter journal
meter_of _ = None

-- `inspect` with these files, where they are names
unfoldable pub inspect_with : (public transcript report : List ℕ) → Option Command
inspect_with public transcript report =
    if are_names (public ∷ transcript ∷ report ∷ [])
    then Some (Inspect (record { public = public; transcript = transcript; report = report }))
    else None

-- `inspect PUBLIC TRANSCRIPT REPORT`
abbrev pub inspect_of : List (List ℕ) → Option Command
inspect_of (public ∷ transcript ∷ report ∷ []) = inspect_with public transcript report
inspect_of _ = None

-- a period of rounds, the first of which comes before its end
abbrev pub period_by : (from until : Option ℕ) → Option Period
period_by (Some from) (Some until) = if nat_lt from until then Some (record { from = from; until = until }) else None
period_by _ _ = None

-- the period that two words spell: it ends at round 4096 at the latest
unfoldable pub period_of : (from until : List ℕ) → Option Period
period_of from until = period_by (within 0 4097 (number_of from)) (within 0 4097 (number_of until))

-- a place of three numbers
abbrev pub place_by : (group round meter : Option ℕ) → Option PlaceWords
place_by (Some group) (Some round) (Some meter) = Some (record { group = group; round = round; meter = meter })
place_by _ _ _ = None

-- the place that three words spell
unfoldable pub place_of : (group round meter : List ℕ) → Option PlaceWords
place_of group round meter = place_by (within 0 256 (number_of group)) (within 0 4096 (number_of round)) (within 0 256 (number_of meter))

-- a command that takes a period, where there is one
abbrev pub with_period : Option Period → (Period → Option Command) → Option Command
with_period None command = None
with_period (Some period) command = command period

-- a command that takes a place, where there is one
abbrev pub with_place : Option PlaceWords → (PlaceWords → Option Command) → Option Command
with_place None command = None
with_place (Some place) command = command place

-- `bill` with these files, where they are names, and a period
unfoldable pub bill_with : (plan readings bills : List ℕ) → Period → Option Command
bill_with plan readings bills period =
    if are_names (plan ∷ readings ∷ bills ∷ []) then Some (Bill (record { plan = plan; readings = readings; bills = bills }) period) else None

-- `bill PLAN READINGS FROM UNTIL BILLS`
abbrev pub bill_of : List (List ℕ) → Option Command
bill_of (plan ∷ readings ∷ from ∷ until ∷ bills ∷ []) = with_period (period_of from until) (bill_with plan readings bills)
bill_of _ = None

-- `hide` with these files, where they are names, a period and a place
unfoldable pub hide_with : HideNames → Period → PlaceWords → Option Command
hide_with names period place =
    if are_names (names.plan ∷ names.readings ∷ names.transcript ∷ names.other ∷ []) then Some (Hide names period place) else None

-- `hide PLAN READINGS TRANSCRIPT FROM UNTIL G R I OTHER`
abbrev pub hide_of : List (List ℕ) → Option Command
hide_of (plan ∷ readings ∷ transcript ∷ from ∷ until ∷ group ∷ round ∷ meter ∷ other ∷ []) =
    with_period (period_of from until) (λ period. with_place (place_of group round meter)
    (hide_with (record { plan = plan; readings = readings; transcript = transcript; other = other }) period))
hide_of _ = None

-- a command that has no words
abbrev pub alone : Command → List (List ℕ) → Option Command
alone command [] = Some command
alone command (_ ∷ _) = None

-- ---- the command that the words are, by the first of them

-- a word that asks for the usage
abbrev pub asks_help : List ℕ → Bool
asks_help verb = bytes_eq verb (codes "help") || bytes_eq verb (codes "--help") || bytes_eq verb (codes "-h")

-- a word that asks for the version
abbrev pub asks_version : List ℕ → Bool
asks_version verb = bytes_eq verb (codes "version") || bytes_eq verb (codes "--version") || bytes_eq verb (codes "-V")

unfoldable pub command_by : List ℕ → List (List ℕ) → Option Command
command_by verb words =
    if bytes_eq verb (codes "run") then run_of words
    else if bytes_eq verb (codes "ring") then ring_of words
    else if bytes_eq verb (codes "resume") then resume_of words
    else if bytes_eq verb (codes "registers") then registers_of words
    else if bytes_eq verb (codes "audit") then audit_of words
    else if bytes_eq verb (codes "twin") then twin_of words
    else if bytes_eq verb (codes "ringtwin") then ring_twin_of words
    else if bytes_eq verb (codes "pooled") then pooled_of words
    else if bytes_eq verb (codes "make") then make_of words
    else if bytes_eq verb (codes "load") then load_of words
    else if bytes_eq verb (codes "convert") then convert_of words
    else if bytes_eq verb (codes "public") then public_of words
    else if bytes_eq verb (codes "parts") then parts_of words
    else if bytes_eq verb (codes "collect") then collect_of words
    else if bytes_eq verb (codes "meter") then meter_of words
    else if bytes_eq verb (codes "inspect") then inspect_of words
    else if bytes_eq verb (codes "bill") then bill_of words
    else if bytes_eq verb (codes "hide") then hide_of words
    else if asks_help verb then alone Help words
    else if asks_version verb then alone Version words
    else None

abbrev pub command_of : List (List ℕ) → Option Command
command_of [] = None
command_of (verb ∷ words) = command_by verb words
