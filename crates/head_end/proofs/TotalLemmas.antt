-- Totals of frames with the words of readings and masks.
use Rattle.std.proofs.Common.{◌≡◌, ℕ, ◌+◌, Bool, true, false, not, ◌&&◌, List, [], refl, sym, ap, ◌∙◌}
use Rattle.std.specs.Prelude.{sum_by}
use Rattle.std.proofs.lemmas.Bool.{false≢true, and_parts}
use Rattle.missing_round.specs.Words.{word, minus, reading_word, answer_word}
use Rattle.missing_round.specs.Sets.{is_member, less}
use Rattle.missing_round.proofs.SetLemmas.{is_member-filter, less-filter}
use Rattle.missing_round.proofs.WordLemmas.{cancels}
use Rattle.group_plan.specs.declared.Kind.TheVariants.{Reading, Answer}
use Rattle.group_plan.specs.Plans.{PlanView, members}
use Rattle.event_schedule.specs.Tables.{reading_at}
use Rattle.event_schedule.proofs.MemberLemmas.{plain_sum_fits}
use Rattle.head_end.specs.declared.answers.Logged.{Logged}
use Rattle.head_end.specs.Journal.{is_taken, word_taken, survivors, lacking}
use Rattle.head_end.specs.Statements.{TotalsAreExact}
use Rattle.head_end.proofs.RoundLemmas.{sum_by-members}

-- where no answer lacks, each survivor's was taken
answered : (plan : PlanView) (j : List Logged) (g r i : ℕ) → lacking plan j g r ≡ [] → is_member i (survivors plan j g r) ≡ true → is_taken g r Answer j i ≡ true
answered plan j g r i none m = cases (is_taken g r Answer j i) refl here
  where
    here : not (is_taken g r Answer j i) ≡ false
    here =
        sym (ap (λ b. b && not (is_taken g r Answer j i)) m) ∙ sym (is_member-filter (λ n. not (is_taken g r Answer j n)) i (survivors plan j g r)) ∙ ap (is_member i) none

    cases : (b : Bool) → is_taken g r Answer j i ≡ b → not (is_taken g r Answer j i) ≡ false → is_taken g r Answer j i ≡ true
    cases true is h = is
    cases false is h = absurd (false≢true (sym h ∙ ap not is))

pub exact : TotalsAreExact
exact plan x m j bounded words g r none =
    let ms = members plan.groups g r in
    let t = is_taken g r Reading j in
    let a = survivors plan j g r in
    let was_read : (i : ℕ) → is_member i a ≡ true → t i ≡ true = λ i is. (and_parts (is_member i ms) (t i) (sym (is_member-filter t i ms) ∙ is)).1 in
    let hidden : ℕ → ℕ = λ i. reading_word (m.own g r) (m.pair g r) ms i (reading_at x g r i) in
    let answer : ℕ → ℕ = λ i. answer_word (m.own g r) (m.pair g r) i (less ms a) in
    let readings : sum_by (word_taken g r Reading j) a ≡ sum_by hidden a
    = sum_by-members (word_taken g r Reading j) hidden a (λ i is. words.readings g r i (was_read i is)) in
    let answers : sum_by (word_taken g r Answer j) a ≡ sum_by answer a
    = sum_by-members (word_taken g r Answer j) answer a
    (λ i is. words.answers g r i (answered plan j g r i none is) ∙ ap (answer_word (m.own g r) (m.pair g r) i) (sym (less-filter t ms))) in
    ap (λ n. word (n + minus (sum_by (word_taken g r Answer j) a))) readings ∙ ap (λ n. word (sum_by hidden a + minus n)) answers
    ∙ cancels (m.own g r) (m.pair g r) ms (reading_at x g r) t ∙ plain_sum_fits plan.groups x g r t bounded
