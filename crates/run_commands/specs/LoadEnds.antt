-- How `make` and `load` end.
use Rattle.std.specs.Prelude.{ℕ, List, [], ◌∷◌, ◌≡◌, Err, ⊤, ◌⊎◌, ◌*◌, Option, Some, None}
use Rattle.command_words.specs.Words.{Size}
use Rattle.command_files.specs.Calls.{Putting, putting, PutsEnd, Unwritable}
use Rattle.command_texts.specs.Runs.{Texts, HasValues, Makes, IsOnly}
use Rattle.desk_outside.specs.Desk.{View}
use Rattle.link_lanes.specs.Lanes.{Meaning}
use Rattle.command_words.specs.declared.outcome.Outcome.{Outcome}
use Rattle.plan_files.specs.PlanFiles.{PlanFileView}
use Rattle.command_words.specs.declared.outcome.Outcome.TheVariants.{NoMemory, BadLane}
use Rattle.command_texts.specs.Lines.{made_line}
use Rattle.load_maker.specs.Made.{made_file, made_readings}
use Rattle.plan_files.specs.Spelling.{plan_text, readings_text}
use Rattle.load_maker.specs.MadeFiles.{AreRead}
use Rattle.link_lanes.specs.Fits.{hung_by}

-- ---- `make SEED GROUPS METERS ROUNDS PLAN READINGS`

-- what the plan file of a size says, and the bytes of both files
abbrev pub made_file_of : Size → PlanFileView
made_file_of size = made_file size.seed size.groups size.meters size.rounds

abbrev pub made_plan_text : Size → List ℕ
made_plan_text size = plan_text (made_file_of size)

abbrev pub made_readings_text : Size → List ℕ
made_readings_text size = readings_text (made_readings size.seed size.groups size.meters size.rounds)

-- how it ends: both files are put, up to this end
abbrev pub MakeEnds : Size → (plan readings : List ℕ) → View → View → Outcome → Type 0
MakeEnds size plan readings v w outcome =
    PutsEnd (putting plan (made_plan_text size) ∷ putting readings (made_readings_text size) ∷ []) (made_line (size.groups * size.meters * size.rounds)) v w outcome

-- ---- `load SEED GROUPS METERS ROUNDS WORKERS [TRANSCRIPT]`

-- the bytes are those of the two files of a size, which are read as what they say
pub record IsMade (size : Size) (plan_bytes readings_bytes : List ℕ) : Type 0 where
  pub plan : plan_bytes ≡ made_plan_text size
  pub readings : readings_bytes ≡ made_readings_text size
  pub read : AreRead size.seed size.groups size.meters size.rounds

-- the transcript is put where it has a name
abbrev pub put_where : Option (List ℕ) → List ℕ → List Putting
put_where None bytes = []
put_where (Some name) bytes = putting name bytes ∷ []

-- the lane row of the made plan is refused so; want of memory is free
abbrev pub LoadRefuses : List Meaning → Size → Outcome → Type 0
LoadRefuses cupboard size (BadLane fault) = hung_by cupboard (made_file_of size).lanes ≡ Err fault
LoadRefuses cupboard size NoMemory = ⊤
LoadRefuses cupboard size _ = ⊥

-- the lane row of the made plan gets its lane, but the name can't be written
abbrev pub LoadUnwritable : List Meaning → Size → Option (List ℕ) → View → View → Outcome → Type 0
LoadUnwritable cupboard size None v w outcome = ⊥
LoadUnwritable cupboard size (Some name) v w outcome = HasValues cupboard (made_plan_text size) (made_readings_text size) × Unwritable (name ∷ []) v w outcome

-- the made files make these texts, of which the transcript is put and the summary said
abbrev pub LoadPut : List Meaning → Size → Option (List ℕ) → View → View → Outcome → Type 0
LoadPut cupboard size transcript v w outcome =
    (texts : Texts) × Makes cupboard (made_plan_text size) (made_readings_text size) texts
    × IsOnly cupboard (made_plan_text size) (made_readings_text size) texts
    × PutsEnd (put_where transcript texts.transcript) texts.summary v w outcome

-- how it ends: it is refused, or the name can't be written, or the texts are put and said
abbrev pub LoadEnds : List Meaning → Size → Option (List ℕ) → View → View → Outcome → Type 0
LoadEnds cupboard size transcript v w outcome =
    (LoadRefuses cupboard size outcome × (w ≡ v))
    ⊎ (LoadUnwritable cupboard size transcript v w outcome ⊎ LoadPut cupboard size transcript v w outcome)
