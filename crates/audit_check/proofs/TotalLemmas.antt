-- Sums of words, meter by meter, and whether a round may be opened.
use Rattle.std.proofs.Common.{◌≡◌, ℕ, ◌+◌, ◌-◌, ◌*◌, ◌^◌, ◌≤◌, Bool, true, false, List, ◌∷◌, length, sym, ap, ◌∙◌, subst, arith}
use Rattle.std.specs.Prelude.{Option}
use Rattle.std.specs.List.{sum_by}
use Rattle.std.proofs.lemmas.List.Sums.{sum_by-cons}
use Rattle.missing_round.specs.Words.{word}
use Rattle.group_plan.specs.declared.Tag.{Tag}
use Rattle.meter_frames.specs.declared.Frame.{Frame}
use Rattle.event_schedule.specs.Schedule.{survivors}
use Rattle.event_schedule.specs.Frames.{word_or_zero, first_word, contents_of_lines}
use Rattle.group_book.specs.Books.{BookView, shape_of, past, IsPosted}
use Rattle.group_book.proofs.LineLemmas.{first_word-posted}
use Rattle.group_book.proofs.CallLemmas.{posted_is}
use Rattle.audit_check.specs.Answers.{MayOpen}
use Rattle.audit_check.specs.Deciding.{Decides}

-- the word of one meter more
pub sum_more : (f : ℕ → ℕ) (sum new w m total : ℕ) (whole rest : List ℕ) → whole ≡ m ∷ rest → w ≡ f m → new ≡ word (sum + w) → word (sum + sum_by f whole) ≡ total → word (new + sum_by f rest) ≡ total
sum_more f sum new w m total whole rest steps is added before =
    let more : sum_by f whole ≡ f m + sum_by f rest = ap (sum_by f) steps ∙ sum_by-cons f m rest in
    let n : ℕ = sum_by f rest in
    let here : word (new + n) ≡ word (sum + (f m + n)) = omega (arith, added, is) in
    here ∙ ap (λ k. word (sum + k)) (sym more) ∙ before

pub word_posted : (b : BookView) (tag : Tag) (found : Option Frame) (w : ℕ) → IsPosted b tag found → w ≡ word_or_zero found → w ≡ first_word tag.group tag.round tag.meter tag.kind b.journal
word_posted b tag found w posted is =
    is ∙ sym (first_word-posted tag.group tag.round tag.meter tag.kind b.journal ∙ ap word_or_zero (posted_is b tag found posted))

pub may_open_is : (b : BookView) (g r : ℕ) (answered a : List ℕ) (q : Bool) → a ≡ survivors (shape_of b) g r (past b) → a ≡ answered
    → Decides ((contents_of_lines b.journal).total g r a ≤ (2 ^ 40 - 1) * length a) q → MayOpen b g r answered q
may_open_is b g r answered a true is same within = λ _. subst (λ x. (contents_of_lines b.journal).total g r x ≤ (2 ^ 40 - 1) * length x) is within
may_open_is b g r answered a false is same within = (sym is ∙ same, λ le. within (subst (λ x. (contents_of_lines b.journal).total g r x ≤ (2 ^ 40 - 1) * length x) (sym is) le))
