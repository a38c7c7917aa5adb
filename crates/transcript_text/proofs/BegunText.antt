-- Texts as far as their first entries, and what is left behind these.
use Rattle.std.proofs.Common.{◌≡◌, ◌+◌, ℕ, List, ◌++◌, length, take, drop, sym, ap, ◌∙◌, codes, decimal, append_assoc, append-nil, arith}
use Rattle.std.proofs.lemmas.Grind.{flat_map-append}
use Rattle.std.proofs.lemmas.List.{take-append-drop}
use Rattle.group_plan.specs.Plans.{PlanView}
use Rattle.event_schedule.specs.declared.Entry.{Entry}
use Rattle.event_schedule.specs.Transcripts.{TranscriptView}
use Rattle.transcript_text.specs.declared.made.TextPlace.TheVariants.{Head, Entry as EntryAt}
use Rattle.transcript_text.specs.declared.made.Until.TheVariants.{LastEntry, EndLine}
use Rattle.transcript_text.specs.declared.version.Version.TheVariants.{Two}
use Rattle.transcript_text.specs.Spelling.{ended, entry_text, entries_text, head_text, text_of, transcript_text}
use Rattle.transcript_text.specs.Writing.{lines_text, begun_text}
use Rattle.transcript_text.specs.Pieces.{rest_at, behind_lines}

-- the lines of two parts are those of the parts together
pub lines_more : (es more : List Entry) → lines_text es ++ lines_text more ≡ lines_text (es ++ more)
lines_more es more = sym (flat_map-append (λ e. ended (entry_text Two e)) es more)

-- a text that has begun goes on with the lines of the entries that follow
pub begun_more : (plan : PlanView) (es more : List Entry) → begun_text plan es ++ lines_text more ≡ begun_text plan (es ++ more)
begun_more plan es more = append_assoc (head_text Two plan) (lines_text es) (lines_text more) ∙ ap (λ l. head_text Two plan ++ l) (lines_more es more)

-- the head, all lines and the `end` line are the text
pub whole : (t : TranscriptView) → rest_at t EndLine Head ≡ transcript_text t
unfolding text_of entries_text
whole t =
    let number : length t.entries ≡ 0 + length t.entries = omega arith in
    append_assoc (head_text Two t.plan) (lines_text t.entries) (behind_lines t EndLine)
    ∙ ap (λ n. head_text Two t.plan ++ (lines_text t.entries ++ ended (codes "end," ++ decimal n))) number

-- a part has no `end` line
pub begun : (t : TranscriptView) → rest_at t LastEntry Head ≡ begun_text t.plan t.entries
begun t = append-nil (begun_text t.plan t.entries)

pub lines : (t : TranscriptView) → rest_at t LastEntry (EntryAt 0) ≡ lines_text t.entries
lines t = append-nil (lines_text t.entries)

-- the text as far as its first entries, and what is left behind them, are the text
pub left : (t : TranscriptView) (n : ℕ) → begun_text t.plan (take n t.entries) ++ rest_at t EndLine (EntryAt n) ≡ transcript_text t
left t n =
    sym (append_assoc (begun_text t.plan (take n t.entries)) (lines_text (drop n t.entries)) (behind_lines t EndLine))
    ∙ ap (λ l. l ++ behind_lines t EndLine) (begun_more t.plan (take n t.entries) (drop n t.entries) ∙ ap (begun_text t.plan) (take-append-drop n t.entries))
    ∙ whole t
