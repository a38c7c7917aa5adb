-- Lines as they are written.
use Rattle.std.specs.Prelude.{◌≡◌, ℕ, List, [], ◌∷◌, ◌++◌}
use Rattle.group_plan.specs.Plans.{PlanView}
use Rattle.event_schedule.specs.declared.Entry.{Entry}
use Rattle.event_schedule.specs.Transcripts.{Fits, IsEntry}
use Rattle.transcript_text.specs.declared.version.Version.{Version}
use Rattle.transcript_text.specs.Spelling.{entry_text}

-- fields, each with its comma, and then the rest
abbrev pub ahead_of : List (List ℕ) → List ℕ → List ℕ
ahead_of [] rest = rest
ahead_of (f ∷ fs) rest = f ++ 44 ∷ ahead_of fs rest

-- the text is the line of this entry, which the plan has
pub record IsWritten (version : Version) (plan : PlanView) (text : List ℕ) (e : Entry) : Type 0 where
  pub line : text ≡ entry_text version e
  pub fits : Fits plan e
  pub entry : IsEntry e
