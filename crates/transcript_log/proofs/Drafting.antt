-- A draft with one more entry, and the transcript that it becomes.
use Rattle.std.proofs.Common.{◌≡◌, ℕ, ◌<◌, ◌≤◌, ◌+◌, ◌-◌, ◌^◌, ◌++◌, ◌∷◌, [], List, length, map, drop, All, replicate, refl, ap, sym, subst, ◌∙◌, arith, length-append, append_assoc, append-nil}
use Rattle.std.proofs.lemmas.List.{length-map, length-replicate}
use Rattle.std.proofs.lemmas.List.Elements.{All-append, All-drop, All-map, All-weaker}
use Rattle.std.proofs.Math.Seq.{drop-append_seam}
use Rattle.group_plan.specs.Plans.{PlanView}
use Rattle.event_schedule.specs.declared.Entry.{Entry}
use Rattle.event_schedule.specs.declared.Line.{Line}
use Rattle.transcript_log.specs.declared.transcript.Stamp.{Stamp}
use Rattle.event_schedule.specs.Events.{lines_of}
use Rattle.link_lanes.specs.Fates.{IsFate}
use Rattle.event_schedule.specs.Transcripts.{TranscriptView, Fits, FitsLine, IsEntry, IsLine, IsTranscript, NeverFalls, last_tick_from}
use Rattle.transcript_log.specs.Stamps.{entries_of, IsStamped}
use Rattle.transcript_log.specs.Drafts.{Begins, IsDrafted, quiet}
use Rattle.transcript_log.proofs.Pushing.{one_more}

-- there are as many entries as stamps
length_lines : (ss : List Stamp) (ls : List Line) → length ss ≤ length ls → length (lines_of (entries_of ss ls)) ≡ length ss
length_lines [] ls long = refl
length_lines (s ∷ ss) [] long = absurd (omega arith)
length_lines (s ∷ ss) (l ∷ ls) long = let rest = length_lines ss ls (omega arith) in omega arith

-- the entries with their own lines, after which a journal has more, are the same
same_lines : (ss : List Stamp) (ls rest : List Line) → length ss ≤ length ls → entries_of ss (lines_of (entries_of ss ls) ++ rest) ≡ entries_of ss ls
same_lines [] ls rest long = refl
same_lines (s ∷ ss) [] rest long = absurd (omega arith)
same_lines (s ∷ ss) (l ∷ ls) rest long = ap (λ es. record { tick = s.tick; fate = s.fate; line = l } ∷ es) (same_lines ss ls rest (omega arith))

-- one more stamp takes the journal's next line
next_line : (ss : List Stamp) (ls : List Line) (s : Stamp) (l : Line) (rest : List Line) → length ss ≤ length ls
    → entries_of (ss ++ s ∷ []) (lines_of (entries_of ss ls) ++ l ∷ rest) ≡ entries_of ss ls ++ record { tick = s.tick; fate = s.fate; line = l } ∷ []
next_line [] ls s l rest long = refl
next_line (x ∷ ss) [] s l rest long = absurd (omega arith)
next_line (x ∷ ss) (y ∷ ls) s l rest long = ap (λ es. record { tick = x.tick; fate = x.fate; line = y } ∷ es) (next_line ss ls s l rest (omega arith))

-- ---- a push

module _ (plan : PlanView) (ss more_ss : List Stamp) (ls journal : List Line) (now : TranscriptView) (e : Entry)
    (is : record { plan = plan; entries = entries_of ss ls } ≡ now) (kept : IsDrafted plan ss ls)
    (next : Begins journal (lines_of now.entries ++ e.line ∷ [])) (stamps : more_ss ≡ ss ++ record { tick = e.tick; fate = e.fate } ∷ []) where
  journal_is : journal ≡ lines_of (entries_of ss ls) ++ e.line ∷ next.rest
  journal_is =
      next.is ∙ append_assoc (lines_of now.entries) (e.line ∷ []) next.rest
      ∙ ap (λ (v : TranscriptView). lines_of v.entries ++ e.line ∷ next.rest) (sym is)

  grown : entries_of more_ss journal ≡ entries_of ss ls ++ e ∷ []
  grown =
      ap (λ (s : List Stamp). entries_of s journal) stamps
      ∙ ap (λ (l : List Line). entries_of (ss ++ record { tick = e.tick; fate = e.fate } ∷ []) l) journal_is
      ∙ next_line ss ls (record { tick = e.tick; fate = e.fate }) e.line next.rest kept.long

  as_long : length more_ss ≤ length journal
  as_long =
      let s : length more_ss ≡ length ss + 1 = ap length stamps ∙ length-append ss (record { tick = e.tick; fate = e.fate } ∷ []) in
      let own : length (lines_of (entries_of ss ls)) ≡ length ss = length_lines ss ls kept.long in
      let l : length journal ≡ length (lines_of (entries_of ss ls)) + length (e.line ∷ next.rest) = ap length journal_is ∙ length-append (lines_of (entries_of ss ls)) (e.line ∷ next.rest) in
      omega arith

  pub drafted : Fits now.plan e → IsEntry e → last_tick_from 0 now.entries ≤ e.tick → IsDrafted plan more_ss journal
  drafted fits entry le =
      let before : TranscriptView = record { plan = plan; entries = entries_of ss ls } in
      let all = one_more before e kept.transcript (subst (λ (v : TranscriptView). Fits v.plan e) (sym is) fits) entry (subst (λ (v : TranscriptView). last_tick_from 0 v.entries ≤ e.tick) (sym is) le) in
      record { long = as_long; transcript = subst (λ (es : List Entry). IsTranscript (record { plan = plan; entries = es })) (sym grown) all }

  pub added : record { plan = plan; entries = entries_of more_ss journal } ≡ record now { entries = now.entries ++ e ∷ [] }
  added =
      ap (λ (es : List Entry). record { plan = plan; entries = es }) grown
      ∙ ap (λ (v : TranscriptView). record { plan = v.plan; entries = v.entries ++ e ∷ [] }) is

-- ---- all further lines of the journal

all_next : (t : ℕ) (rest : List Line) → entries_of (replicate (length rest) (record { tick = t; fate = [] })) rest ≡ map (quiet t) rest
all_next t [] = refl
all_next t (l ∷ rest) = ap (λ es. quiet t l ∷ es) (all_next t rest)

further_lines : (t : ℕ) (ss : List Stamp) (ls rest : List Line) → length ss ≤ length ls
    → entries_of (ss ++ replicate (length rest) (record { tick = t; fate = [] })) (lines_of (entries_of ss ls) ++ rest) ≡ entries_of ss ls ++ map (quiet t) rest
further_lines t [] ls rest long = all_next t rest
further_lines t (x ∷ ss) [] rest long = absurd (omega arith)
further_lines t (x ∷ ss) (y ∷ ls) rest long = ap (λ es. record { tick = x.tick; fate = x.fate; line = y } ∷ es) (further_lines t ss ls rest (omega arith))

-- ticks that stay the same don't fall
quiet_ticks : (last t : ℕ) (ls : List Line) → last ≤ t → NeverFalls last (map (quiet t) ls)
quiet_ticks last t [] le = tt
quiet_ticks last t (l ∷ ls) le = (le, quiet_ticks t t ls (omega arith))

falls_never : (last t : ℕ) (es : List Entry) (ls : List Line) → NeverFalls last es → last_tick_from last es ≤ t → NeverFalls last (es ++ map (quiet t) ls)
falls_never last t [] ls h le = quiet_ticks last t ls le
falls_never last t (e ∷ es) ls h le = (h.0, falls_never e.tick t es ls h.1 le)

quiet_entries : (t : ℕ) (ls : List Line) → t < 2 ^ 32 → IsFate [] → All IsLine ls → All IsEntry (map (quiet t) ls)
quiet_entries t ls tick fate lines = All-map IsEntry (quiet t) ls (All-weaker IsLine (λ l. IsEntry (quiet t l)) (λ l line. record { tick = tick; fate = fate; line = line }) ls lines)

module _ (plan : PlanView) (ss more_ss : List Stamp) (ls journal : List Line) (now : TranscriptView) (t : ℕ)
    (is : record { plan = plan; entries = entries_of ss ls } ≡ now) (kept : IsDrafted plan ss ls) (before : Begins journal (lines_of now.entries)) where
  begun : journal ≡ lines_of (entries_of ss ls) ++ before.rest
  begun = before.is ∙ ap (λ (v : TranscriptView). lines_of v.entries ++ before.rest) (sym is)

  long_journal : length journal ≡ length ss + length before.rest
  long_journal =
      let own : length (lines_of (entries_of ss ls)) ≡ length ss = length_lines ss ls kept.long in
      let both : length journal ≡ length (lines_of (entries_of ss ls)) + length before.rest = ap length begun ∙ length-append (lines_of (entries_of ss ls)) before.rest in
      omega arith

  -- each entry so far has its line
  pub room : length ss ≤ length journal
  room = let long = long_journal in omega arith

  pub further : drop (length now.entries) journal ≡ before.rest
  further =
      ap (drop (length now.entries)) before.is
      ∙ ap (λ n. drop n (lines_of now.entries ++ before.rest)) (sym (length-map now.entries (λ (e : Entry). e.line)))
      ∙ drop-append_seam (lines_of now.entries) before.rest

  module _ (stamps : more_ss ≡ ss ++ replicate (length journal - length ss) (record { tick = t; fate = [] })) where
    all_grown : entries_of more_ss journal ≡ entries_of ss ls ++ map (quiet t) before.rest
    all_grown =
        let count : length journal - length ss ≡ length before.rest = let long = long_journal in omega arith in
        ap (λ (s : List Stamp). entries_of s journal) stamps
        ∙ ap (λ n. entries_of (ss ++ replicate n (record { tick = t; fate = [] })) journal) count
        ∙ ap (entries_of (ss ++ replicate (length before.rest) (record { tick = t; fate = [] }))) begun
        ∙ further_lines t ss ls before.rest kept.long

    pub all_drafted : All (FitsLine now.plan []) (drop (length now.entries) journal) → All IsLine journal → t < 2 ^ 32 → IsFate [] → last_tick_from 0 now.entries ≤ t → IsDrafted plan more_ss journal
    all_drafted fits lines tick fate le =
        let es : List Entry = entries_of ss ls in
        let fit : All (FitsLine plan []) before.rest = subst (λ (v : TranscriptView). All (FitsLine v.plan []) before.rest) (sym is) (subst (All (FitsLine now.plan [])) further fits) in
        let own : All IsLine before.rest = subst (All IsLine) further (All-drop IsLine (length now.entries) journal lines) in
        let many : length more_ss ≡ length ss + (length journal - length ss)
        = ap length stamps ∙ length-append ss (replicate (length journal - length ss) (record { tick = t; fate = [] })) ∙ ap (λ n. length ss + n) (length-replicate (length journal - length ss) (record { tick = t; fate = [] })) in
        let last : last_tick_from 0 es ≤ t = subst (λ (v : TranscriptView). last_tick_from 0 v.entries ≤ t) (sym is) le in
        let long = room in
        record {
          long = omega (arith, many, long);
          transcript = subst (λ (l : List Entry). IsTranscript (record { plan = plan; entries = l })) (sym all_grown) (record {
            plan = kept.transcript.plan;
            fit = All-append (Fits plan) es (map (quiet t) before.rest) kept.transcript.fit (All-map (Fits plan) (quiet t) before.rest fit);
            entries = All-append IsEntry es (map (quiet t) before.rest) kept.transcript.entries (quiet_entries t before.rest tick fate own);
            ticks = falls_never 0 t es before.rest kept.transcript.ticks last;
          });
        }

    pub all_added : record { plan = plan; entries = entries_of more_ss journal } ≡ record now { entries = now.entries ++ map (quiet t) (drop (length now.entries) journal) }
    all_added =
        ap (λ (es : List Entry). record { plan = plan; entries = es }) all_grown
        ∙ ap (λ (v : TranscriptView). record { plan = v.plan; entries = v.entries ++ map (quiet t) before.rest }) is
        ∙ ap (λ (rest : List Line). record now { entries = now.entries ++ map (quiet t) rest }) (sym further)

-- ---- the whole transcript

module _ (plan : PlanView) (ss : List Stamp) (ls journal : List Line) (now : TranscriptView)
    (is : record { plan = plan; entries = entries_of ss ls } ≡ now) (kept : IsDrafted plan ss ls) (own : journal ≡ lines_of now.entries) where
  own_lines : journal ≡ lines_of (entries_of ss ls)
  own_lines = own ∙ ap (λ (v : TranscriptView). lines_of v.entries) (sym is)

  pub same_entries : entries_of ss journal ≡ entries_of ss ls
  same_entries = ap (entries_of ss) (own_lines ∙ sym (append-nil (lines_of (entries_of ss ls)))) ∙ same_lines ss ls [] kept.long

  pub stamped : IsStamped plan ss journal
  stamped = record {
    long = sym (ap length own_lines ∙ length_lines ss ls kept.long);
    transcript = subst (λ (es : List Entry). IsTranscript (record { plan = plan; entries = es })) (sym same_entries) kept.transcript;
  }

  pub finished : record { plan = plan; entries = entries_of ss journal } ≡ now
  finished = ap (λ (es : List Entry). record { plan = plan; entries = es }) same_entries ∙ is
