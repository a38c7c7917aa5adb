-- What a table of readings under masks says: the words of its frames, and its totals.
use Rattle.std.proofs.Common.{◌≡◌, ℕ, ◌+◌, ◌*◌, ◌<◌, true, List, ◌∷◌, refl, sym, ap, ◌∙◌, subst}
use Rattle.std.specs.Prelude.{length, slice_get, slice_index, Option, Some, None, is_some, unwrap_or}
use Rattle.std.proofs.lemmas.Bool.{false≢true, and_from}
use Rattle.missing_round.specs.Sets.{is_member as is_in}
use Rattle.missing_round.specs.Words.{word, answer_word}
use Rattle.missing_round.proofs.SetLemmas.{is_member-filter}
use Rattle.group_plan.specs.declared.Kind.TheVariants.{Answer}
use Rattle.group_plan.specs.Plans.{is_place, is_member, members, IsWithinLimits}
use Rattle.group_plan.specs.Tables.{ReadingsView, reading, presence_of, IsReadingTable}
use Rattle.group_plan.proofs.MeterNumbers.{group-lt, in_place}
use Rattle.blind_core.specs.Blind.{word_or_0}
use Rattle.event_schedule.specs.declared.Event.{Event}
use Rattle.event_schedule.specs.declared.Event.TheVariants.{Send}
use Rattle.event_schedule.specs.Schedule.{Shape, is_announced, is_reading_taken, is_announcement_taken, is_answer_sent, survivors, missing, members_of}
use Rattle.event_schedule.specs.Tables.{Masks, plain_sum, IsBounded}
use Rattle.event_schedule.specs.Transcript.{contents_of_tables, shape_of_readings}
use Rattle.event_schedule.proofs.EventLemmas.{is_send-itself}
use Rattle.event_schedule.proofs.MemberLemmas.{plain_sum_fits}
use Rattle.event_schedule.proofs.ScheduleLemmas.{once-now, is_announced-from_sent, is_announcement_sent-from_taken, is_closed-from_taken, is_reading_taken-closed, is_reading_taken-from_answer, present-from_taken}
use Rattle.group_book.specs.Books.{BookView, shape_of, past}
use Rattle.plan_meters.specs.declared.hidden.HiddenReadings.{HiddenReadings}
use Rattle.plan_meters.specs.Hidden.{Hide, AreHidden, HasRow, words_in}
use Rattle.plan_meters.proofs.HiddenLemmas.{has-row, words-hide}
use Rattle.plan_meters.proofs.RowLemmas.{hide-long, in_members}
use Rattle.ideal_masks.specs.Replaying.{events_in}
use Rattle.ideal_masks.proofs.AgreementLemmas.{bounded}
use Rattle.ideal_masks.proofs.WorldLemmas.{shape-of_events}
use Rattle.twin_worlds.specs.declared.answer_words.AnswerWords.{AnswerWords}
use Rattle.twin_worlds.specs.Answers.{AreAnswers, AreAllAnswers, answers_in}
use Rattle.twin_worlds.proofs.AnswerRows.{row-there}

-- the shape of a book is that of its readings
pub book-shape : (x : ReadingsView) (b : BookView) → b.presence ≡ presence_of x → shape_of b ≡ shape_of_readings x.plan.groups (reading x.table)
book-shape x b presence = shape-of_events x (events_in b) b (record { presence = presence; past = refl })

-- ---- readings

-- each place has words
pub has-words : (x : ReadingsView) (m : Masks) (h : HiddenReadings) (g r i : ℕ) → AreHidden x m h → is_place x.plan g r i ≡ true → HasRow h g r
has-words x m h g r i are place = let at = in_place x.plan g r i place in has-row x m h g r are (group-lt x.plan.groups g i at.1) at.0

-- they hide the readings of its round
pub round-hidden : (x : ReadingsView) (m : Masks) (h : HiddenReadings) (g r i : ℕ) (words : List ℕ) → AreHidden x m h → is_place x.plan g r i ≡ true → words ≡ words_in h g r → Hide x m g r words
round-hidden x m h g r i words are place is =
    let at = in_place x.plan g r i place in
    subst (Hide x m g r) (sym is) (words-hide x m h g r are (group-lt x.plan.groups g i at.1) at.0)

-- one of them is the meter's
pub meter-below : (x : ReadingsView) (m : Masks) (g r i : ℕ) (words : List ℕ) → Hide x m g r words → is_place x.plan g r i ≡ true → i < length words
meter-below x m g r i words hide place = subst (λ n. i < n) (sym (hide-long x m g r words hide)) (in_place x.plan g r i place).1

-- and where it has a reading, it is the word of this reading
pub hidden-word : (x : ReadingsView) (m : Masks) (g r i : ℕ) (words : List ℕ) → Hide x m g r words → is_place x.plan g r i ≡ true → is_some (reading x.table g r i) ≡ true
    → slice_index words i ≡ (contents_of_tables x.plan.groups (reading x.table) m).reading g r i
hidden-word x m g r i words hide place present =
    let inside : i < length hide.row = subst (λ n. i < n) (sym hide.is.long) (in_place x.plan g r i place).1 in
    step (reading x.table g r i) (hide.are.each i inside ∙ ap (word_or_0 (m.own g r) (m.pair g r) (members x.plan.groups g r) i) (hide.is.each i inside)) refl present
  where
    step : (o : Option ℕ) → slice_index words i ≡ word_or_0 (m.own g r) (m.pair g r) (members x.plan.groups g r) i o → reading x.table g r i ≡ o → is_some o ≡ true
        → slice_index words i ≡ (contents_of_tables x.plan.groups (reading x.table) m).reading g r i
    step None word at some = absurd (false≢true some)
    step (Some v) word at some = word ∙ ap (λ (o : Option ℕ). word_or_0 (m.own g r) (m.pair g r) (members x.plan.groups g r) i (Some (unwrap_or o 0))) (sym at)

-- ---- answers

taken-reading : (s : Shape) (g r i : ℕ) (p : List Event) → is_announcement_taken s g r i p ≡ true → is_reading_taken s g r i p ≡ true
taken-reading s g r i p taken =
    let e : Event = Send (record { group = g; round = r; meter = i; kind = Answer }) in
    let answered : is_answer_sent s g r i (e ∷ p) ≡ true = once-now _ e p (and_from _ (is_announcement_taken s g r i p) (is_send-itself g r i Answer) taken) in
    sym (is_reading_taken-closed s g r i e p (is_closed-from_taken s g r i p taken)) ∙ is_reading_taken-from_answer s g r i (e ∷ p) answered

-- a meter that took its announcement is a survivor
taken-survivor : (x : ReadingsView) (b : BookView) (g r i : ℕ) → IsReadingTable x.plan x.table → b.presence ≡ presence_of x → is_announcement_taken (shape_of b) g r i (past b) ≡ true
    → is_in i (survivors (shape_of b) g r (past b)) ≡ true
taken-survivor x b g r i table presence taken =
    let s = shape_of b in
    let read : is_reading_taken s g r i (past b) ≡ true = taken-reading s g r i (past b) taken in
    let present : is_some (reading x.table g r i) ≡ true = ap (λ (z : Shape). z.present g r i) (sym (book-shape x b presence)) ∙ present-from_taken s g r i (past b) read in
    let member : is_member s.groups g r i ≡ true = ap (λ p. is_member p.plan.groups g r i) presence ∙ table.of_members g r i present in
    is_member-filter (λ j. is_reading_taken s g r j (past b)) i (members_of s g r) ∙ and_from (is_in i (members_of s g r)) (is_reading_taken s g r i (past b)) (in_members s.groups g r i member) read

-- there is a row of answers for each place
pub has-answers : (m : Masks) (b : BookView) (a : AnswerWords) (g r i : ℕ) → a.groups ≡ length b.presence.plan.groups → AreAllAnswers m b a.rows.items → is_place b.presence.plan g r i ≡ true
    → (r * a.groups + g < length a.rows.items) × AreAnswers m b g r (answers_in a g r)
has-answers m b a g r i groups are place =
    let at = in_place b.presence.plan g r i place in
    row-there m b a g r groups are (group-lt b.presence.plan.groups g i at.1) at.0

-- and it has the word of each meter that took its announcement
pub answer-is : (x : ReadingsView) (m : Masks) (b : BookView) (a : AnswerWords) (g r i : ℕ) (words : List ℕ) → IsReadingTable x.plan x.table → b.presence ≡ presence_of x
    → a.groups ≡ length b.presence.plan.groups → AreAllAnswers m b a.rows.items → is_place b.presence.plan g r i ≡ true → is_announcement_taken (shape_of b) g r i (past b) ≡ true → words ≡ answers_in a g r
    → slice_get words i ≡ Some (answer_word (m.own g r) (m.pair g r) i (missing (shape_of b) g r (past b)))
answer-is x m b a g r i words table presence groups are place taken is =
    let s = shape_of b in
    let announced : is_announced s g r (past b) ≡ true = is_announced-from_sent s g r i (past b) (is_announcement_sent-from_taken s g r i (past b) taken) in
    ap (λ l. slice_get l i) is ∙ (has-answers m b a g r i groups are place).1 announced i (taken-survivor x b g r i table presence taken)

-- ---- totals

pub total-is : (x : ReadingsView) (b : BookView) (g r sum : ℕ) → IsWithinLimits x.plan → IsReadingTable x.plan x.table → b.presence ≡ presence_of x
    → sum ≡ word (plain_sum (reading x.table) g r (survivors (shape_of b) g r (past b))) → sum ≡ plain_sum (reading x.table) g r (survivors (shape_of b) g r (past b))
total-is x b g r sum limits table presence is =
    let s = shape_of b in
    let groups : x.plan.groups ≡ s.groups = sym (ap (λ p. p.plan.groups) presence) in
    is ∙ plain_sum_fits s.groups (reading x.table) g r (λ i. is_reading_taken s g r i (past b)) (subst (λ gs. IsBounded gs (reading x.table)) groups (bounded x.plan x.table limits table))
