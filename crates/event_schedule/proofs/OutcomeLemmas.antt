-- The effective End says the outcome of its round, and the outcome lasts.
use Rattle.std.proofs.Common.{◌≡◌, ℕ, Bool, true, false, not, ◌&&◌, List, ◌∷◌, length, refl, sym, ap, ◌∙◌}
use Rattle.std.specs.Prelude.{◌==◌, if◌then◌else◌, nat_le}
use Rattle.std.specs.List.{filter, list_all}
use mathlib.Core.Path.{fun_ext}
use Rattle.std.proofs.lemmas.Bool.{false≢true, and_from, eq-eqb}
use Rattle.group_plan.specs.declared.Kind.TheVariants.{Answer}
use Rattle.round_machine.specs.declared.Ending.TheVariants.{Total, Lacking, Thin, Already, NotClosed}
use Rattle.event_schedule.specs.declared.Event.{Event}
use Rattle.event_schedule.specs.declared.Event.TheVariants.{End}
use Rattle.event_schedule.specs.Events.{is_take, is_end}
use Rattle.event_schedule.specs.Schedule.{Shape, floor_of, survivors, reaches_floor, is_announced, is_closed, is_ended, is_answer_sent, is_answer_taken, all_taken, lacking, is_opened, Outcome, Running, EndedThin, Published, Unpublished, outcome}
use Rattle.event_schedule.specs.Transcript.{Contents, ending}
use Rattle.event_schedule.specs.Statements.{ending_of, IsSettled}
use Rattle.event_schedule.proofs.ListLemmas.{or-and_not, and_last}
use Rattle.event_schedule.proofs.ScheduleLemmas.{once-cons, once-now, once-gives, is_closed-more, is_ended-more, survivors-closed, is_opened-from_taken}

is_closed-from_ended : (g r : ℕ) (p : List Event) → is_ended g r p ≡ true → is_closed g r p ≡ true
is_closed-from_ended g r p h =
    once-gives _ (λ q. is_closed g r q ≡ true) (λ e q t. and_last (is_end g r e) (is_closed g r q) t) (is_closed-more g r) p h

-- whether a closed round is announced stays
is_announced-closed : (s : Shape) (g r : ℕ) (e : Event) (p : List Event) → is_closed g r p ≡ true → is_announced s g r (e ∷ p) ≡ is_announced s g r p
is_announced-closed s g r e p closed =
    ap (λ q. q && reaches_floor s g r (e ∷ p)) (is_closed-more g r e p closed ∙ sym closed)
    ∙ ap (λ a. is_closed g r p && nat_le (floor_of s g) (length a)) (survivors-closed s g r e p closed)

-- the outcome of a round that has ended, by whether it is announced and whether all answers were taken
ended_outcome : Bool → Bool → List ℕ → ℕ → List ℕ → Outcome
ended_outcome announced taken a total lacks = if not announced then EndedThin else if taken then Published a total else Unpublished lacks

outcome_cases : (ended announced opened taken : Bool) (a : List ℕ) (total : ℕ) (lacks : List ℕ) → ended ≡ true → (announced ≡ true → taken ≡ true → opened ≡ true)
    → (if not ended then Running else if not announced then EndedThin else if opened && ended && taken then Published a total else Unpublished lacks)
    ≡ ended_outcome announced taken a total lacks
unfolding ended_outcome
outcome_cases false announced opened taken a total lacks h opens = absurd (false≢true h)
outcome_cases true false opened taken a total lacks h opens = refl
outcome_cases true true true taken a total lacks h opens = refl
outcome_cases true true false false a total lacks h opens = refl
outcome_cases true true false true a total lacks h opens = absurd (false≢true (opens refl refl))

outcome-ended : (s : Shape) (total : ℕ → ℕ → List ℕ → ℕ) (g r : ℕ) (p : List Event) → is_ended g r p ≡ true
    → outcome s total g r p ≡ ended_outcome (is_announced s g r p) (all_taken s g r p) (survivors s g r p) (total g r (survivors s g r p)) (lacking s g r p)
outcome-ended s total g r p ended =
    outcome_cases (is_ended g r p) (is_announced s g r p) (is_opened s g r p) (all_taken s g r p) (survivors s g r p) (total g r (survivors s g r p)) (lacking s g r p) ended
    (is_opened-from_taken s g r p)

-- the same by the survivors and the test of who was taken
by_taken : Bool → (ℕ → Bool) → List ℕ → (List ℕ → ℕ) → Outcome
by_taken announced taken a total = ended_outcome announced (list_all taken a) a (total a) (filter (λ i. not (taken i)) a)

-- an event after the Close that takes no answer changes no outcome of an ended round
outcome-same : (s : Shape) (total : ℕ → ℕ → List ℕ → ℕ) (g r : ℕ) (e : Event) (p : List Event) → is_ended g r (e ∷ p) ≡ true → is_closed g r p ≡ true
    → ((i : ℕ) → is_answer_taken s g r i (e ∷ p) ≡ is_answer_taken s g r i p)
    → outcome s total g r (e ∷ p) ≡ by_taken (is_announced s g r p) (λ i. is_answer_taken s g r i p) (survivors s g r p) (total g r)
unfolding by_taken
outcome-same s total g r e p ended closed same =
    outcome-ended s total g r (e ∷ p) ended
    ∙ ap (λ q. by_taken q (λ i. is_answer_taken s g r i (e ∷ p)) (survivors s g r (e ∷ p)) (total g r)) (is_announced-closed s g r e p closed)
    ∙ ap (λ a. by_taken (is_announced s g r p) (λ i. is_answer_taken s g r i (e ∷ p)) a (total g r)) (survivors-closed s g r e p closed)
    ∙ ap (λ t. by_taken (is_announced s g r p) t (survivors s g r p) (total g r)) (fun_ext same)

-- no answer is taken after the End
is_answer_taken-ended : (s : Shape) (g r i : ℕ) (e : Event) (p : List Event) → is_ended g r p ≡ true → is_answer_taken s g r i (e ∷ p) ≡ is_answer_taken s g r i p
is_answer_taken-ended s g r i e p ended =
    once-cons _ e p ∙ or-and_not (is_take g r i Answer e && is_answer_sent s g r i p) (is_ended g r p) (is_answer_taken s g r i p) ended

lasting : (s : Shape) (total : ℕ → ℕ → List ℕ → ℕ) (g r : ℕ) (e : Event) (p : List Event) → is_ended g r p ≡ true → outcome s total g r (e ∷ p) ≡ outcome s total g r p
unfolding by_taken
lasting s total g r e p ended =
    outcome-same s total g r e p (is_ended-more g r e p ended) (is_closed-from_ended g r p ended) (λ i. is_answer_taken-ended s g r i e p ended)
    ∙ sym (outcome-ended s total g r p ended)

ending_cases : (closed ended announced taken : Bool) (a : List ℕ) (total : ℕ) (lacks : List ℕ) → closed ≡ true → ended ≡ false
    → (if not closed then NotClosed else if ended then Already else if not announced then Thin else if taken then Total total else Lacking lacks)
    ≡ ending_of (ended_outcome announced taken a total lacks)
unfolding ended_outcome
ending_cases false ended announced taken a total lacks h none = absurd (false≢true h)
ending_cases true true announced taken a total lacks h none = absurd (false≢true (sym none))
ending_cases true false false taken a total lacks h none = refl
ending_cases true false true true a total lacks h none = refl
ending_cases true false true false a total lacks h none = refl

said : (s : Shape) (c : Contents) (g r : ℕ) (p : List Event) → is_closed g r p ≡ true → is_ended g r p ≡ false
    → ending s c g r p ≡ ending_of (outcome s c.total g r (End g r ∷ p))
unfolding by_taken
said s c g r p closed open_still =
    let ends : is_ended g r (End g r ∷ p) ≡ true
    = once-now _ (End g r) p (and_from _ _ (and_from (g == g) (r == r) (eq-eqb g g refl) (eq-eqb r r refl)) closed) in
    ending_cases (is_closed g r p) (is_ended g r p) (is_announced s g r p) (all_taken s g r p) (survivors s g r p) (c.total g r (survivors s g r p)) (lacking s g r p) closed open_still
    ∙ ap ending_of (sym (outcome-same s c.total g r (End g r) p ends closed (λ i. once-cons _ (End g r) p)))

pub settled : (s : Shape) (c : Contents) (g r : ℕ) (past : List Event) → IsSettled s c g r past
settled s c g r past = record { said = said s c g r past; lasting = λ ended e. lasting s c.total g r e past ended }
