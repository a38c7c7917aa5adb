-- How `public PLAN PUBLIC` ends.
use Rattle.std.specs.Prelude.{ℕ, List, [], ◌∷◌, ◌≡◌, ◌⊎◌, Ok, length}
use Rattle.command_files.specs.Calls.{putting, PutsEnd, IsRead, after_fetches, Unread}
use Rattle.desk_outside.specs.Desk.{View}
use Rattle.command_words.specs.declared.outcome.Outcome.{Outcome}
use Rattle.plan_files.specs.PlanFiles.{plan_of, PlanFileView, public_of}
use Rattle.command_texts.specs.Lines.{public_line}
use Rattle.plan_files.specs.Spelling.{public_text}
use Rattle.command_texts.specs.Refusals.{PublicRefuses}

-- the public plan of a plan file, whose text is read as its plan, is put
abbrev pub PublicPut : (public bytes : List ℕ) → View → View → Outcome → Type 0
PublicPut public bytes v w outcome =
    (file : PlanFileView) × (plan_of bytes ≡ Ok file) × (public_of (public_text file.plan) ≡ Ok file.plan)
    × PutsEnd (putting public (public_text file.plan) ∷ []) (public_line (length file.plan.groups) file.plan.rounds) v w outcome

-- how it ends: PLAN is not read, or what it says is refused, or the public plan is put
abbrev pub PublicEnds : (plan public : List ℕ) → View → View → Outcome → Type 0
PublicEnds plan public v w outcome =
    Unread (plan ∷ []) v w outcome
    ⊎ ((bytes : List ℕ) × IsRead (v.held plan) bytes
    × ((PublicRefuses plan bytes outcome × (w ≡ after_fetches (plan ∷ []) v))
    ⊎ PublicPut public bytes (after_fetches (plan ∷ []) v) w outcome))
