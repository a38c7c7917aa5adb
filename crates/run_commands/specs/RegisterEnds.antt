-- How `registers` ends.
use Rattle.std.specs.Prelude.{ℕ, List, [], ◌∷◌, ◌≡◌, ◌⊎◌}
use Rattle.command_words.specs.Words.{RegisterNames}
use Rattle.command_files.specs.Calls.{Putting, putting, PutsEnd, Unwritable, IsRead, after_fetches, Unread}
use Rattle.command_texts.specs.RegisterRuns.{RegisterTexts, RegistersMake, HasRegisterValues}
use Rattle.desk_outside.specs.Desk.{View}
use Rattle.link_lanes.specs.Lanes.{Meaning}
use Rattle.command_words.specs.declared.outcome.Outcome.{Outcome}
use Rattle.command_texts.specs.Refusals.{RegistersRefuse}

-- the files that it fetches, in order
abbrev pub registers_fetched : RegisterNames → List (List ℕ)
registers_fetched names = names.plan ∷ names.readings ∷ []

-- the names of the files that it puts, in order
abbrev pub registers_named : RegisterNames → List (List ℕ)
registers_named names = names.transcript ∷ names.words ∷ names.report ∷ []

-- the files that it puts
abbrev pub registers_put : RegisterNames → RegisterTexts → List Putting
registers_put names texts = putting names.transcript texts.transcript ∷ putting names.words texts.words ∷ putting names.report texts.report ∷ []

-- the files make these texts, which are put and said up to this end
abbrev pub RegistersPut : List Meaning → ℕ → RegisterNames → (p r : List ℕ) → View → View → Outcome → Type 0
RegistersPut cupboard count names p r v w outcome =
    (texts : RegisterTexts) × RegistersMake cupboard count p r texts × PutsEnd (registers_put names texts) texts.summary v w outcome

-- the files have values, but one of the names that it puts can't be written
abbrev pub RegistersUnwritable : List Meaning → ℕ → RegisterNames → (p r : List ℕ) → View → View → Outcome → Type 0
RegistersUnwritable cupboard count names p r v w outcome = HasRegisterValues cupboard count p r × Unwritable (registers_named names) v w outcome

-- how it ends: a file is not read, or what they say is refused, or a name can't be written, or the texts are put and said
abbrev pub RegistersEnds : List Meaning → ℕ → RegisterNames → View → View → Outcome → Type 0
RegistersEnds cupboard count names v w outcome =
    Unread (registers_fetched names) v w outcome
    ⊎ ((p r : List ℕ) × IsRead (v.held names.plan) p × IsRead (v.held names.readings) r
    × ((RegistersRefuse cupboard count names p r outcome × (w ≡ after_fetches (registers_fetched names) v))
    ⊎ (RegistersUnwritable cupboard count names p r (after_fetches (registers_fetched names) v) w outcome
    ⊎ RegistersPut cupboard count names p r (after_fetches (registers_fetched names) v) w outcome)))
