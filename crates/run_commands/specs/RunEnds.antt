-- How `run PLAN READINGS REPORT TRANSCRIPT [WORKERS]` and `ring PLAN READINGS WIDTH REPORT TRANSCRIPT [WORKERS]` end.
use Rattle.std.specs.Prelude.{ℕ, List, [], ◌∷◌, ◌≡◌, Err, ⊤, ◌⊎◌}
use Rattle.command_words.specs.Words.{RunNames}
use Rattle.command_files.specs.Calls.{Putting, putting, PutsEnd, Unwritable, IsRead, after_fetches, Unread}
use Rattle.command_texts.specs.Runs.{Texts, MakesBy, IsOnlyBy, RefusesLane, RefusesReadings, HasValues}
use Rattle.desk_outside.specs.Desk.{View}
use Rattle.link_lanes.specs.Lanes.{Meaning}
use Rattle.command_words.specs.declared.outcome.Outcome.{Outcome}
use Rattle.command_texts.specs.declared.sharing.Sharing.{Sharing}
use Rattle.plan_files.specs.PlanFiles.{plan_of}
use Rattle.command_words.specs.declared.outcome.Outcome.TheVariants.{NoMemory, BadPlan, BadReadings, BadLane}
use Rattle.command_texts.specs.declared.sharing.Sharing.TheVariants.{WithEach, WithNeighbours}

-- the files that it fetches, in order
abbrev pub fetched_by : RunNames → List (List ℕ)
fetched_by names = names.plan ∷ names.readings ∷ []

-- the files that it puts, in order
abbrev pub put_by : RunNames → Texts → List Putting
put_by names texts = putting names.transcript texts.transcript ∷ putting names.report texts.report ∷ []

-- the files make these texts, which are put and said up to this end
abbrev pub TextsPut : Sharing → List Meaning → RunNames → (plan_bytes readings_bytes : List ℕ) → View → View → Outcome → Type 0
TextsPut sharing cupboard names plan_bytes readings_bytes v w outcome =
    (texts : Texts) × MakesBy sharing cupboard plan_bytes readings_bytes texts × IsOnlyBy sharing cupboard plan_bytes readings_bytes texts
    × PutsEnd (put_by names texts) texts.summary v w outcome

-- what they say is refused, by its cause; want of memory is free
abbrev pub RunRefuses : List Meaning → RunNames → (plan_bytes readings_bytes : List ℕ) → Outcome → Type 0
RunRefuses cupboard names p r (BadPlan name fault) = (name.now ≡ names.plan) × (plan_of p ≡ Err fault)
RunRefuses cupboard names p r (BadLane fault) = RefusesLane cupboard p fault
RunRefuses cupboard names p r (BadReadings name fault) = (name.now ≡ names.readings) × RefusesReadings cupboard p r fault
RunRefuses cupboard names p r NoMemory = ⊤
RunRefuses cupboard names p r _ = ⊥

-- the files have values, but one of the names that it puts can't be written
abbrev pub RunUnwritable : List Meaning → RunNames → (plan_bytes readings_bytes : List ℕ) → View → View → Outcome → Type 0
RunUnwritable cupboard names p r v w outcome = HasValues cupboard p r × Unwritable (names.transcript ∷ names.report ∷ []) v w outcome

-- how a run ends whose meters share mask words so: a file is not read, or what they say is refused, or a name can't be written, or the texts
-- are put and said
abbrev pub RunEndsBy : Sharing → List Meaning → RunNames → View → View → Outcome → Type 0
RunEndsBy sharing cupboard names v w outcome =
    Unread (fetched_by names) v w outcome
    ⊎ ((p r : List ℕ) × IsRead (v.held names.plan) p × IsRead (v.held names.readings) r
    × ((RunRefuses cupboard names p r outcome × (w ≡ after_fetches (fetched_by names) v))
    ⊎ (RunUnwritable cupboard names p r (after_fetches (fetched_by names) v) w outcome
    ⊎ TextsPut sharing cupboard names p r (after_fetches (fetched_by names) v) w outcome)))

-- how `run` ends
abbrev pub RunEnds : List Meaning → RunNames → View → View → Outcome → Type 0
RunEnds = RunEndsBy WithEach

-- how `ring` ends
abbrev pub RingEnds : (width : ℕ) → List Meaning → RunNames → View → View → Outcome → Type 0
RingEnds width = RunEndsBy (WithNeighbours width)
