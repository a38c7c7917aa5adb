-- What the laws of this crate say. Each is proved for every text, all masks and all tables of readings.
use Rattle.std.specs.Prelude.{◌≡◌, ℕ, ◌^◌, ◌<◌, List, length, reverse, Result, Ok, Err, ⊤}
use Rattle.group_plan.specs.Tables.{ReadingsView, reading}
use Rattle.event_schedule.specs.Events.{lines_of, events_of}
use Rattle.event_schedule.specs.Tables.{Masks}
use Rattle.transcript_text.specs.Spelling.{transcript_text}
use Rattle.event_schedule.specs.Transcripts.{TranscriptView, IsTranscript}
use Rattle.ideal_masks.specs.Pools.{Pool, nobody}
use Rattle.ideal_masks.specs.Offsets.{AgreeFor}
use Rattle.twin_worlds.specs.declared.rows.MovedRow.{MovedRow}
use Rattle.twin_worlds.specs.declared.answers.TwinError.{TwinError}
use Rattle.twin_worlds.specs.declared.answers.TwinError.TheVariants as twin
use Rattle.twin_worlds.specs.declared.answers.PoolTwinError.{PoolTwinError}
use Rattle.twin_worlds.specs.declared.answers.PoolTwinError.TheVariants as pool_twin
use Rattle.twin_worlds.specs.Twins.{lines_under, SameWorldEnds, TwinEnds, PooledTwinEnds}

-- the text is that of a transcript of the plan, whose lines the readings x give under the masks m
pub record IsHonestText (m : Masks) (x : ReadingsView) (text : List ℕ) (t : TranscriptView) : Type 0 where
  pub sound : IsTranscript t
  pub text_is : text ≡ transcript_text t
  pub few : length text < 2 ^ 64
  pub plan_is : t.plan ≡ x.plan
  pub lines_are : lines_of t.entries ≡ lines_under x m t

-- this transcript is answered, or memory ran out
abbrev pub FindsSameWorld : TranscriptView → Result TranscriptView TwinError → Type 0
FindsSameWorld t (Ok found) = found ≡ t
FindsSameWorld t (Err twin.Memory) = ⊤
FindsSameWorld t (Err _) = ⊥

-- where a text is that of a transcript of the first table, this transcript is answered
abbrev pub HonestHaveSameWorld : Type 0
HonestHaveSameWorld = (m : Masks) (x : ReadingsView) (text : List ℕ) (t : TranscriptView) (result : Result TranscriptView TwinError) →
    IsHonestText m x text t → SameWorldEnds m x text result → FindsSameWorld t result

-- the moved words are found, or memory ran out
abbrev pub FindsTwins : Result (List MovedRow) TwinError → Type 0
FindsTwins (Ok rows) = ⊤
FindsTwins (Err twin.Memory) = ⊤
FindsTwins (Err _) = ⊥

-- the text is that of a transcript of the plan, whose lines the readings x give under the masks m, and y agrees with x for a pool under its events
pub record IsHonestFor (pool : Pool) (m : Masks) (x y : ReadingsView) (text : List ℕ) (t : TranscriptView) : Type 0 where
  pub sound : IsTranscript t
  pub text_is : text ≡ transcript_text t
  pub few : length text < 2 ^ 64
  pub plan_is : t.plan ≡ x.plan
  pub lines_are : lines_of t.entries ≡ lines_under x m t
  pub agree : AgreeFor pool x.plan.groups (reading x.table) (reading y.table) (reverse (events_of t.entries))

-- and where nobody is in the pool
abbrev pub IsHonest : Masks → ReadingsView → ReadingsView → List ℕ → TranscriptView → Type 0
IsHonest = IsHonestFor nobody

-- where a transcript is the first table's and the tables agree, twins are found
abbrev pub HonestHaveTwins : Type 0
HonestHaveTwins = (m : Masks) (x y : ReadingsView) (text : List ℕ) (t : TranscriptView) (result : Result (List MovedRow) TwinError) →
    IsHonest m x y text t → TwinEnds m x y text result → FindsTwins result

-- the same for a pool
abbrev pub FindsPooledTwins : Result (List MovedRow) PoolTwinError → Type 0
FindsPooledTwins (Ok rows) = ⊤
FindsPooledTwins (Err (pool_twin.Other twin.Memory)) = ⊤
FindsPooledTwins (Err _) = ⊥

abbrev pub HonestHavePooledTwins : Type 0
HonestHavePooledTwins = (pool : Pool) (m : Masks) (x y : ReadingsView) (text : List ℕ) (t : TranscriptView) (result : Result (List MovedRow) PoolTwinError) →
    IsHonestFor pool m x y text t → PooledTwinEnds pool m x y text result → FindsPooledTwins result
