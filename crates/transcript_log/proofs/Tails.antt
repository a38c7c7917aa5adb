-- The entries of a transcript from a place on.
use Rattle.std.proofs.Common.{◌≡◌, ℕ, zero, suc, ◌≤◌, ◌-◌, List, [], ◌∷◌, length, drop, refl, ap, sym, subst, ◌∙◌, arith}
use Rattle.std.proofs.lemmas.List.{length-drop}
use Rattle.std.proofs.lemmas.List.Elements.{All-drop}
use Rattle.group_plan.specs.Plans.{PlanView}
use Rattle.event_schedule.specs.declared.Entry.{Entry}
use Rattle.event_schedule.specs.declared.Line.{Line}
use Rattle.transcript_log.specs.declared.transcript.Stamp.{Stamp}
use Rattle.event_schedule.specs.Events.{lines_of}
use Rattle.event_schedule.specs.Transcripts.{TranscriptView, Fits, IsEntry, IsTranscript, NeverFalls}
use Rattle.transcript_log.specs.Stamps.{entries_of, IsStamped}
use Rattle.transcript_log.specs.Drafts.{IsDrafted}
use Rattle.transcript_log.proofs.Drafting.{stamped, finished}

-- there are as many entries as stamps, where each stamp has a line
pub as_many : (ss : List Stamp) (ls : List Line) → length ss ≤ length ls → length (entries_of ss ls) ≡ length ss
as_many [] ls long = refl
as_many (s ∷ ss) [] long = absurd (omega arith)
as_many (s ∷ ss) (l ∷ ls) long = ap suc (as_many ss ls (omega arith))

drop-entries_of : (n : ℕ) (ss : List Stamp) (ls : List Line) → length ss ≡ length ls → entries_of (drop n ss) (drop n ls) ≡ drop n (entries_of ss ls)
drop-entries_of zero ss ls long = refl
drop-entries_of (suc n) [] [] long = refl
drop-entries_of (suc n) [] (l ∷ ls) long = absurd (omega arith)
drop-entries_of (suc n) (s ∷ ss) [] long = absurd (omega arith)
drop-entries_of (suc n) (s ∷ ss) (l ∷ ls) long = drop-entries_of n ss ls (omega arith)

-- ticks that never fall don't from a place on
falls_not_from : (n last : ℕ) (es : List Entry) → NeverFalls last es → NeverFalls 0 (drop n es)
falls_not_from zero last [] h = tt
falls_not_from zero last (e ∷ es) h = (omega arith, h.1)
falls_not_from (suc n) last [] h = tt
falls_not_from (suc n) last (e ∷ es) h = falls_not_from n e.tick es h.1

transcript_from : (n : ℕ) (t : TranscriptView) → IsTranscript t → IsTranscript (record { plan = t.plan; entries = drop n t.entries })
transcript_from n t is = record {
  plan = is.plan;
  fit = All-drop (Fits t.plan) n t.entries is.fit;
  entries = All-drop IsEntry n t.entries is.entries;
  ticks = falls_not_from n 0 t.entries is.ticks;
}

stamped_from : (n : ℕ) (plan : PlanView) (ss : List Stamp) (ls : List Line) → IsStamped plan ss ls → IsStamped plan (drop n ss) (drop n ls)
stamped_from n plan ss ls is = record {
  long = length-drop n ss ∙ ap (λ (len : ℕ). len - n) is.long ∙ sym (length-drop n ls);
  transcript =
      subst (λ (es : List Entry). IsTranscript (record { plan = plan; entries = es })) (sym (drop-entries_of n ss ls is.long))
      (transcript_from n (record { plan = plan; entries = entries_of ss ls }) is.transcript);
}

-- ---- the tail of a draft

module _ (plan : PlanView) (ss : List Stamp) (ls journal : List Line) (now : TranscriptView) (n : ℕ)
    (is : record { plan = plan; entries = entries_of ss ls } ≡ now) (kept : IsDrafted plan ss ls) (own : journal ≡ lines_of now.entries) where
  whole : IsStamped plan ss journal
  whole = stamped plan ss ls journal now is kept own

  module _ (tail_plan : PlanView) (tail_ss : List Stamp) (tail_ls : List Line) (same : tail_plan ≡ plan) (stamps : tail_ss ≡ drop n ss) (lines : tail_ls ≡ drop n journal) where
    pub tail_stamped : IsStamped tail_plan tail_ss tail_ls
    tail_stamped =
        subst (λ (p : PlanView). IsStamped p tail_ss tail_ls) (sym same)
        (subst (λ (s : List Stamp). IsStamped plan s tail_ls) (sym stamps) (subst (IsStamped plan (drop n ss)) (sym lines) (stamped_from n plan ss journal whole)))

    pub tail_is : record { plan = tail_plan; entries = entries_of tail_ss tail_ls } ≡ record now { entries = drop n now.entries }
    tail_is =
        ap (λ (p : PlanView). record { plan = p; entries = entries_of tail_ss tail_ls }) same
        ∙ ap (λ (s : List Stamp). record { plan = plan; entries = entries_of s tail_ls }) stamps
        ∙ ap (λ (l : List Line). record { plan = plan; entries = entries_of (drop n ss) l }) lines
        ∙ ap (λ (es : List Entry). record { plan = plan; entries = es }) (drop-entries_of n ss journal whole.long)
        ∙ ap (λ (v : TranscriptView). record { plan = v.plan; entries = drop n v.entries }) (finished plan ss ls journal now is kept own)

  -- a place of the entries is one of the stamps and of the lines
  pub place_of_both : n ≤ length now.entries → (n ≤ length ss) × (n ≤ length journal)
  place_of_both le =
      let many = as_many ss ls kept.long in
      let same = ap (λ (v : TranscriptView). length v.entries) is in
      let long = whole.long in
      (omega (arith, le, many, same), omega (arith, le, many, same, long))
