-- How `twin`, `pooled` and `ringtwin` end.
use Rattle.desk_outside.specs.Desk.{View}
use Rattle.command_words.specs.Words.{TwinNames}
use Rattle.command_files.specs.Calls.{IsRead, putting, PutsEnd, after_fetches, Unread}
use Rattle.command_texts.specs.Twins.{TwinBytes, Compared, TwinRefuses}
use Rattle.std.specs.Prelude.{ℕ, List, [], ◌∷◌, length, Ok, ◌≡◌, ◌⊎◌, codes, Result, Err}
use Rattle.command_words.specs.declared.outcome.Outcome.{Outcome}
use Rattle.twin_worlds.specs.declared.rows.MovedRow.{MovedRow}
use Rattle.twin_worlds.specs.MasksText.{masks_text}
use Rattle.command_texts.specs.Lines.{moved_line, counted_line}
use Rattle.command_words.specs.declared.known.KnownMeter.{KnownMeter}
use Rattle.command_texts.specs.Pooled.{PooledCompared, PooledRefuses}
use Rattle.command_texts.specs.RingTwins.{RingCompared, RingTwinRefuses}
use Rattle.command_texts.specs.TwinTexts.{bytes_with}
use Rattle.twin_worlds.specs.Twins.{IsReadOf}
use Rattle.file_commands.specs.declared.twins.Fetched.{Fetched}

-- they were read under these names
pub record AreReadBy (names : TwinNames) (v : View) (bytes : TwinBytes) : Type 0 where
  pub plan : IsRead (v.held names.plan) bytes.plan
  pub readings : IsRead (v.held names.readings) bytes.readings
  pub other : IsRead (v.held names.other) bytes.other
  pub transcript : IsRead (v.held names.transcript) bytes.transcript

-- ---- `twin PLAN READINGS OTHER TRANSCRIPT MASKS`

-- the files that it fetches, in order
abbrev pub compared_by : TwinNames → List (List ℕ)
compared_by names = names.plan ∷ names.readings ∷ names.other ∷ names.transcript ∷ []

-- the tables agree, and the file of the moved words is put and their number said
abbrev pub MasksPut : TwinNames → TwinBytes → View → View → Outcome → Type 0
MasksPut names bytes v w outcome =
    (rows : List MovedRow) × Compared bytes (Ok rows) × PutsEnd (putting names.masks (masks_text rows) ∷ []) (moved_line (length rows)) v w outcome

-- how it ends: a file is not read, or what they say is refused, or the file of the moved words is put
abbrev pub TwinCommandEnds : TwinNames → View → View → Outcome → Type 0
TwinCommandEnds names v w outcome =
    Unread (compared_by names) v w outcome
    ⊎ ((bytes : TwinBytes) × AreReadBy names v bytes
    × ((TwinRefuses names bytes outcome × (w ≡ after_fetches (compared_by names) v))
    ⊎ MasksPut names bytes (after_fetches (compared_by names) v) w outcome))

-- ---- `pooled KNOWN PLAN READINGS OTHER TRANSCRIPT MASKS`

-- the file of the moved words is put and their number said, up to this end
abbrev pub MovedAreSaid : (verb name : List ℕ) → List MovedRow → View → View → Outcome → Type 0
MovedAreSaid verb name rows v w outcome = PutsEnd (putting name (masks_text rows) ∷ []) (counted_line verb (length rows)) v w outcome

-- four files are compared, and the file of the moved words is put and their number said
abbrev pub MovedPut : (verb : List ℕ) → (List MovedRow → Type 0) → TwinNames → View → View → Outcome → Type 0
MovedPut verb compares names v w outcome = (rows : List MovedRow) × compares rows × MovedAreSaid verb names.masks rows v w outcome

-- how a command that compares four files and says this name ends: a file is not read, or what they say is refused, or the file of the moved words is put
abbrev pub ComparedEndsAs : (verb : List ℕ) → (TwinBytes → Outcome → Type 0) → (TwinBytes → List MovedRow → Type 0) → TwinNames → View → View → Outcome → Type 0
ComparedEndsAs verb refuses compares names v w outcome =
    Unread (compared_by names) v w outcome
    ⊎ ((bytes : TwinBytes) × AreReadBy names v bytes
    × ((refuses bytes outcome × (w ≡ after_fetches (compared_by names) v))
    ⊎ MovedPut verb (compares bytes) names (after_fetches (compared_by names) v) w outcome))

-- the tables agree for the known meters, and these words move
abbrev pub MovesPooled : List KnownMeter → TwinBytes → List MovedRow → Type 0
MovesPooled known bytes rows = PooledCompared known bytes (Ok rows)

-- how a command of this name ends against known meters
abbrev pub PooledEndsAs : (verb : List ℕ) → List KnownMeter → TwinNames → View → View → Outcome → Type 0
PooledEndsAs verb known names v w outcome = ComparedEndsAs verb (PooledRefuses known names) (MovesPooled known) names v w outcome

-- how `pooled` ends
abbrev pub PooledCommandEnds : List KnownMeter → TwinNames → View → View → Outcome → Type 0
PooledCommandEnds known names v w outcome = PooledEndsAs (codes "pooled") known names v w outcome

-- ---- `ringtwin PLAN READINGS OTHER WIDTH TRANSCRIPT MASKS`

-- how it ends; it says the line of `twin`
abbrev pub RingTwinEnds : (width : ℕ) → TwinNames → View → View → Outcome → Type 0
RingTwinEnds width names v w outcome = ComparedEndsAs (codes "twin") (RingTwinRefuses width names) (RingCompared width) names v w outcome

-- ---- the parts

-- the four files were read, or the first fetch that gave none ends the command
abbrev pub TextsFetched : TwinNames → View → View → Result Fetched Outcome → Type 0
TextsFetched names v w (Ok fetched) =
    (tb : List ℕ) × AreReadBy names v (bytes_with fetched.texts tb) × IsReadOf tb fetched.read × (w ≡ after_fetches (compared_by names) v)
TextsFetched names v w (Err outcome) = Unread (compared_by names) v w outcome
