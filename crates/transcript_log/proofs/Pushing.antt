-- A transcript with one more entry.
use Rattle.std.proofs.Common.{◌≡◌, ◌≤◌, ◌+◌, ◌++◌, ◌∷◌, [], ℕ, List, length, Some, None, Result, Ok, Err, ap, sym, subst, ◌∙◌, arith, length-append}
use Rattle.std.specs.Prelude.{OnOk, OnErr}
use Rattle.std.proofs.lemmas.List.Elements.{All-push}
use Rattle.group_plan.specs.Plans.{PlanView}
use Rattle.event_schedule.specs.declared.Entry.{Entry}
use Rattle.event_schedule.specs.declared.Line.{Line}
use Rattle.event_schedule.specs.declared.Line.TheVariants.{Send, Take, Close, End}
use Rattle.transcript_log.specs.declared.transcript.Stamp.{Stamp}
use Rattle.transcript_log.specs.Lines.{HasOwnTag}
use Rattle.event_schedule.specs.Transcripts.{TranscriptView, Fits, FitsLine, IsEntry, IsTranscript, NeverFalls, Pushes, last_tick_from}
use Rattle.transcript_log.specs.Stamps.{entries_of, IsStamped}
use Rattle.transcript_log.proofs.StampLemmas.{entries_of-push}

-- a line that fits a plan has a frame of its own tag
own_tag : (plan : PlanView) (fate : List ℕ) (line : Line) → FitsLine plan fate line → HasOwnTag line
own_tag plan fate (Send tag (Some frame)) fits = fits.1.same
own_tag plan fate (Send tag None) fits = tt
own_tag plan fate (Take tag verdict) fits = tt
own_tag plan fate (Close g r c) fits = tt
own_tag plan fate (End g r e) fits = tt

pub has_own_tag : (plan : PlanView) (e : Entry) → Fits plan e → HasOwnTag e.line
has_own_tag plan e fits = own_tag plan e.fate e.line fits

falls_no_more : (last : ℕ) (es : List Entry) (e : Entry) → NeverFalls last es → last_tick_from last es ≤ e.tick → NeverFalls last (es ++ e ∷ [])
falls_no_more last [] e h le = (le, tt)
falls_no_more last (x ∷ xs) e h le = (h.0, falls_no_more x.tick xs e h.1 le)

pub one_more : (t : TranscriptView) (e : Entry) → IsTranscript t → Fits t.plan e → IsEntry e → last_tick_from 0 t.entries ≤ e.tick → IsTranscript (record { plan = t.plan; entries = t.entries ++ e ∷ [] })
one_more t e is fits entry le = record {
  plan = is.plan;
  fit = All-push (Fits t.plan) t.entries e is.fit fits;
  entries = All-push IsEntry t.entries e is.entries entry;
  ticks = falls_no_more 0 t.entries e is.ticks le;
}

-- what is kept after a push, with the entry or without
module _ (plan : PlanView) (ss more_ss : List Stamp) (ls more_ls : List Line) (now : TranscriptView) (e : Entry)
    (is : record { plan = plan; entries = entries_of ss ls } ≡ now) (kept : IsStamped plan ss ls) where
  grown : more_ss ≡ ss ++ record { tick = e.tick; fate = e.fate } ∷ [] → more_ls ≡ ls ++ e.line ∷ [] → entries_of more_ss more_ls ≡ entries_of ss ls ++ e ∷ []
  grown stamps lines =
      ap (λ (s : List Stamp). entries_of s more_ls) stamps
      ∙ ap (λ (l : List Line). entries_of (ss ++ record { tick = e.tick; fate = e.fate } ∷ []) l) lines
      ∙ entries_of-push ss ls (record { tick = e.tick; fate = e.fate }) e.line kept.long

  as_long : more_ss ≡ ss ++ record { tick = e.tick; fate = e.fate } ∷ [] → more_ls ≡ ls ++ e.line ∷ [] → length more_ss ≡ length more_ls
  as_long stamps lines =
      let s : length more_ss ≡ length ss + 1 = ap length stamps ∙ length-append ss (record { tick = e.tick; fate = e.fate } ∷ []) in
      let l : length more_ls ≡ length ls + 1 = ap length lines ∙ length-append ls (e.line ∷ []) in
      let same = kept.long in
      omega arith

  pub still_stamped : {T E : Type 0} (r : Result T E) → Fits now.plan e → IsEntry e → last_tick_from 0 now.entries ≤ e.tick
      → OnOk r (more_ss ≡ ss ++ record { tick = e.tick; fate = e.fate } ∷ []) → OnOk r (more_ls ≡ ls ++ e.line ∷ []) → OnErr r (more_ss ≡ ss) → OnErr r (more_ls ≡ ls) → IsStamped plan more_ss more_ls
  still_stamped (Ok _) fits entry le stamps lines no_stamp no_line =
      let before : TranscriptView = record { plan = plan; entries = entries_of ss ls } in
      let all = one_more before e kept.transcript (subst (λ (v : TranscriptView). Fits v.plan e) (sym is) fits) entry (subst (λ (v : TranscriptView). last_tick_from 0 v.entries ≤ e.tick) (sym is) le) in
      record { long = as_long stamps lines; transcript = subst (λ (es : List Entry). IsTranscript (record { plan = plan; entries = es })) (sym (grown stamps lines)) all }
  still_stamped (Err _) fits entry le stamps lines no_stamp no_line =
      subst (λ (s : List Stamp). IsStamped plan s more_ls) (sym no_stamp) (subst (λ (l : List Line). IsStamped plan ss l) (sym no_line) kept)

  pub pushed : {T E : Type 0} (r : Result T E) → OnOk r (more_ss ≡ ss ++ record { tick = e.tick; fate = e.fate } ∷ []) → OnOk r (more_ls ≡ ls ++ e.line ∷ [])
      → OnErr r (more_ss ≡ ss) → OnErr r (more_ls ≡ ls) → Pushes now e r (record { plan = plan; entries = entries_of more_ss more_ls })
  pushed (Ok _) stamps lines no_stamp no_line =
      ap (λ (es : List Entry). record { plan = plan; entries = es }) (grown stamps lines)
      ∙ ap (λ (v : TranscriptView). record { plan = v.plan; entries = v.entries ++ e ∷ [] }) is
  pushed (Err _) stamps lines no_stamp no_line =
      ap (λ (s : List Stamp). record { plan = plan; entries = entries_of s more_ls }) no_stamp
      ∙ ap (λ (l : List Line). record { plan = plan; entries = entries_of ss l }) no_line ∙ is
