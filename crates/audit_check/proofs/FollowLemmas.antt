-- One line more is replayed.
use Rattle.std.proofs.Common.{◌≡◌, Bool, true, false, ℕ, List, [], ◌∷◌, ◌++◌, sym, ap, ◌∙◌, subst}
use Rattle.group_plan.specs.Plans.{PlanView}
use Rattle.group_plan.specs.Tables.{PresenceView}
use Rattle.event_schedule.specs.declared.Line.{Line}
use Rattle.event_schedule.specs.Schedule.{shape_of_presence}
use Rattle.event_schedule.specs.Frames.{shape_of_lines}
use Rattle.group_book.specs.Books.{BookView, shape_of}
use Rattle.frame_presence.specs.Presence.{IsPresenceOf}
use Rattle.audit_check.specs.Steps.{MayFollow}
use Rattle.audit_check.specs.Replays.{AreAnswered, Replays}
use Rattle.audit_check.specs.Following.{AreSeen, IsReplay, Meets, LineEnds}
use Rattle.audit_check.proofs.MeetLemmas.{none_seen}

-- with the same presence and the same lines
pub same_replay : (p q : PresenceView) (j k : List Line) (seen : PresenceView) (sets : List (List ℕ)) → q ≡ p → k ≡ j → IsReplay p j seen sets → IsReplay q k seen sets
same_replay p q j k seen sets presence journal is = subst (λ x. IsReplay x k seen sets) (sym presence) (subst (λ x. IsReplay p x seen sets) (sym journal) is)

-- with the same plan and the same lines
pub same_sets : (p q : PlanView) (j k : List Line) (sets now : List (List ℕ)) → q ≡ p → k ≡ j → now ≡ sets → AreAnswered p j sets → AreAnswered q k now
same_sets p q j k sets now plan journal same are = subst (λ x. AreAnswered x k now) (sym plan) (subst (λ x. AreAnswered p x now) (sym journal) (subst (AreAnswered p j) (sym same) are))

-- before the first line
pub begun : (plan : PlanView) (seen : PresenceView) (b : BookView) (sets : List (List ℕ)) → IsPresenceOf plan [] seen → b.presence ≡ seen → b.journal ≡ [] → AreAnswered plan [] sets → IsReplay b.presence b.journal seen sets
begun plan seen b sets is presence journal are =
    same_replay seen b.presence [] b.journal seen sets presence journal (record {
      shape = is.shape_is ∙ ap (λ (q : PlanView). shape_of_lines q.groups []) (sym is.plan_is);
      seen = subst (λ q. AreSeen q [] seen) (sym is.plan_is) (none_seen plan seen is);
      answered = subst (λ q. AreAnswered q [] sets) (sym is.plan_is) are;
    })

-- the line is met, and said
module _ (b : BookView) (l : Line) (m : BookView) (seen : PresenceView) (meets : Meets b l m seen) (c : BookView) (sets : List (List ℕ)) where
  pub line_ends : (may : Bool) → Replays m l may c sets → LineEnds b.presence b.journal l may c seen sets
  line_ends true (gains, follows, are) = record {
    plan = plan;
    journal = journal;
    may = subst (λ s. MayFollow s b.journal l) meets.shape (subst (λ j. MayFollow (shape_of m) j l) meets.journal follows);
    replay = record {
      shape = ap shape_of_presence gains.presence ∙ meets.shape ∙ ap (λ (q : PlanView). shape_of_lines q.groups (b.journal ++ l ∷ [])) (sym plan) ∙ ap (shape_of_lines c.presence.plan.groups) (sym journal);
      seen = subst (λ q. AreSeen q c.journal seen) (sym plan) (subst (λ j. AreSeen b.presence.plan j seen) (sym journal) meets.seen);
      answered = are;
    };
  }
    where
      plan : c.presence.plan ≡ b.presence.plan
      plan = ap (λ (p : PresenceView). p.plan) gains.presence ∙ meets.plan

      journal : c.journal ≡ b.journal ++ l ∷ []
      journal = gains.journal ∙ ap (λ j. j ++ l ∷ []) meets.journal
  line_ends false may_not = λ follows. may_not (subst (λ j. MayFollow (shape_of m) j l) (sym meets.journal) (subst (λ s. MayFollow s b.journal l) (sym meets.shape) follows))
