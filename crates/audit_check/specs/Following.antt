-- What is kept while lines are replayed: who has a reading is noted as the first Send of it comes.
use Rattle.std.specs.Prelude.{◌≡◌, ℕ, Bool, true, false, ◌&&◌, List, [], ◌∷◌, ◌++◌, Option, Some, None}
use Rattle.group_plan.specs.declared.Kind.TheVariants.{Reading}
use Rattle.group_plan.specs.declared.Tag.{Tag}
use Rattle.group_plan.specs.Plans.{PlanView, is_member}
use Rattle.group_plan.specs.Tables.{PresenceView, is_present}
use Rattle.event_schedule.specs.declared.Event.TheVariants.{Send}
use Rattle.event_schedule.specs.declared.Line.{Line}
use Rattle.event_schedule.specs.Events.{once, event_of, is_send}
use Rattle.event_schedule.specs.Schedule.{shape_of_presence}
use Rattle.event_schedule.specs.Frames.{shape_of_lines}
use Rattle.event_schedule.specs.Journal.{past_of}
use Rattle.group_book.specs.Books.{BookView, shape_of}
use Rattle.audit_check.specs.Steps.{MayFollow}
use Rattle.audit_check.specs.Replays.{AreAnswered}

-- a Send of the reading is among these lines
abbrev pub is_met : List Line → ℕ → ℕ → ℕ → Bool
is_met journal g r i = once (λ e _. is_send g r i Reading e) (past_of journal)

-- of each member's reading, whether a Send of it is among these lines
pub record AreSeen (plan : PlanView) (journal : List Line) (seen : PresenceView) : Type 0 where
  pub plan_is : seen.plan ≡ plan
  pub seen_is : (g r i : ℕ) → is_present seen.table g r i ≡ (is_member plan.groups g r i && is_met journal g r i)

-- those have a reading whom these lines show to have one; whose first Send has come, and who has answered
pub record IsReplay (p : PresenceView) (journal : List Line) (met : PresenceView) (sets : List (List ℕ)) : Type 0 where
  pub shape : shape_of_presence p ≡ shape_of_lines p.plan.groups journal
  pub seen : AreSeen p.plan journal met
  pub answered : AreAnswered p.plan journal sets

-- the tag of a line that is a Send of a reading
abbrev pub IsReadingOf : Line → Option Tag → Type 0
IsReadingOf l (Some tag) = (tag.kind ≡ Reading) × (event_of l ≡ Send tag)
IsReadingOf l None = (g r i : ℕ) → is_send g r i Reading (event_of l) ≡ false

-- those have a reading whom the lines show to have one, this line too, before it is said
pub record Meets (b : BookView) (l : Line) (c : BookView) (met : PresenceView) : Type 0 where
  pub plan : c.presence.plan ≡ b.presence.plan
  pub journal : c.journal ≡ b.journal
  pub spare : c.spare ≡ b.spare
  pub shape : shape_of c ≡ shape_of_lines b.presence.plan.groups (b.journal ++ l ∷ [])
  pub seen : AreSeen b.presence.plan (b.journal ++ l ∷ []) met

-- the line comes after these
pub record Follows (p : PresenceView) (j : List Line) (l : Line) (c : BookView) (seen : PresenceView) (sets : List (List ℕ)) : Type 0 where
  pub plan : c.presence.plan ≡ p.plan
  pub journal : c.journal ≡ j ++ l ∷ []
  pub may : MayFollow (shape_of_lines p.plan.groups (j ++ l ∷ [])) j l
  pub replay : IsReplay c.presence c.journal seen sets

-- the line may come after these, and does; or it may not
abbrev pub LineEnds : PresenceView → List Line → Line → Bool → BookView → PresenceView → List (List ℕ) → Type 0
LineEnds p journal l true c seen sets = Follows p journal l c seen sets
LineEnds p journal l false c seen sets = ¬ MayFollow (shape_of_lines p.plan.groups (journal ++ l ∷ [])) journal l
