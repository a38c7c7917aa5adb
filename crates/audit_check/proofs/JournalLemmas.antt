-- The journal of a book: its last line, and that its own frames make its lines.
use Rattle.std.proofs.Common.{◌≡◌, ℕ, ◌+◌, List, [], ◌∷◌, ◌++◌, refl, sym, ap, ◌∙◌, subst, append-nil, append_assoc}
use Rattle.std.specs.Prelude.{None}
use Rattle.std.specs.List.{sum_by}
use mathlib.Core.Path.{fun_ext}
use Rattle.missing_round.specs.Words.{word, minus}
use Rattle.group_plan.specs.declared.Kind.{Kind}
use Rattle.group_plan.specs.declared.Kind.TheVariants.{Reading, Answer}
use Rattle.event_schedule.specs.declared.Event.TheVariants.{End}
use Rattle.event_schedule.specs.declared.Line.{Line}
use Rattle.event_schedule.specs.declared.Line.TheVariants.{Send as SendLine, Take as TakeLine, Close as CloseLine, End as EndLine}
use Rattle.event_schedule.specs.Schedule.{Shape}
use Rattle.event_schedule.specs.Transcript.{Contents, line, lines_after}
use Rattle.event_schedule.specs.Frames.{word_or_zero, contents_of_lines}
use Rattle.event_schedule.specs.Journal.{past_of, IsJournalAfter}
use Rattle.group_book.specs.Replay.{HasOwnFrames, IsJournal}
use Rattle.group_book.proofs.LineLemmas.{IsCore, HasOwnFrame, posts, posted-stays, first_word-posted}
use Rattle.audit_check.specs.Steps.{IsTold}
use Rattle.audit_check.proofs.TellLemmas.{Tells, line_by_line, tells-push}

-- ---- the last line

lines-pop : (s : Shape) (j rest : List Line) (l : Line) → IsJournalAfter s j (rest ++ l ∷ []) → IsJournalAfter s j rest × IsCore s (j ++ rest) l
lines-pop s j [] l is = (tt, subst (λ x. IsCore s x l) (sym (append-nil j)) is.0)
lines-pop s j (x ∷ rest) l is =
    let both = lines-pop s (j ++ x ∷ []) rest l is.1 in
    ((is.0, both.0), subst (λ y. IsCore s y l) (append_assoc j (x ∷ []) rest) both.1)

own_frame : (s : Shape) (j : List Line) (l : Line) → HasOwnFrames s j (l ∷ []) → HasOwnFrame s j l
own_frame s j (SendLine tag f) own = own.0
own_frame s j (TakeLine tag v) own = tt
own_frame s j (CloseLine g r v) own = tt
own_frame s j (EndLine g r v) own = tt

frames-pop : (s : Shape) (j rest : List Line) (l : Line) → HasOwnFrames s j (rest ++ l ∷ []) → HasOwnFrames s j rest × HasOwnFrame s (j ++ rest) l
frames-pop s j [] l is = (tt, subst (λ x. HasOwnFrame s x l) (sym (append-nil j)) (own_frame s j l is))
frames-pop s j (SendLine tag f ∷ rest) l is =
    let both = frames-pop s (j ++ SendLine tag f ∷ []) rest l is.1 in
    ((is.0, both.0), subst (λ y. HasOwnFrame s y l) (append_assoc j (SendLine tag f ∷ []) rest) both.1)
frames-pop s j (TakeLine tag v ∷ rest) l is =
    let both = frames-pop s (j ++ TakeLine tag v ∷ []) rest l is in
    (both.0, subst (λ y. HasOwnFrame s y l) (append_assoc j (TakeLine tag v ∷ []) rest) both.1)
frames-pop s j (CloseLine g r v ∷ rest) l is =
    let both = frames-pop s (j ++ CloseLine g r v ∷ []) rest l is in
    (both.0, subst (λ y. HasOwnFrame s y l) (append_assoc j (CloseLine g r v ∷ []) rest) both.1)
frames-pop s j (EndLine g r v ∷ rest) l is =
    let both = frames-pop s (j ++ EndLine g r v ∷ []) rest l is in
    (both.0, subst (λ y. HasOwnFrame s y l) (append_assoc j (EndLine g r v ∷ []) rest) both.1)

-- ---- lines without a frame change no word

abbrev contents_by : (ℕ → ℕ → ℕ → Kind → ℕ) → Contents
contents_by words = record {
  reading = λ g r i. words g r i Reading;
  answer = λ g r i set. words g r i Answer;
  total = λ g r meters. word (sum_by (λ i. words g r i Reading) meters + minus (sum_by (λ i. words g r i Answer) meters));
}

pub same_contents : (j : List Line) (l : Line) → ((g r i : ℕ) (k : Kind) → posts g r i k l ≡ None) → contents_of_lines (j ++ l ∷ []) ≡ contents_of_lines j
same_contents j l none =
    ap contents_by (fun_ext (λ g. fun_ext (λ r. fun_ext (λ i. fun_ext (λ k.
    first_word-posted g r i k (j ++ l ∷ []) ∙ ap word_or_zero (posted-stays g r i k j l (none g r i k)) ∙ sym (first_word-posted g r i k j))))))

-- the core's line with its own frame is what its frames make of its event
told_by : (s : Shape) (j : List Line) (l : Line) → IsCore s j l → HasOwnFrame s j l → IsTold s j l
told_by s j (SendLine tag f) core own = ap (SendLine tag) own
told_by s j (TakeLine tag v) core own = core
told_by s j (CloseLine g r v) core own = core
told_by s j (EndLine g r v) core own =
    core ∙ ap (λ c. line s c (past_of j) (End g r)) (sym (same_contents j (EndLine g r v) (λ a b i k. refl)))

-- a journal without its last line is one, and the last line is what its frames make of its event
pub journal-pop : (s : Shape) (j : List Line) (l : Line) → IsJournal s (j ++ l ∷ []) → IsJournal s j × IsTold s j l
journal-pop s j l is =
    let lines = lines-pop s [] j l is.lines in
    let frames = frames-pop s [] j l is.frames in
    (record { lines = lines.0; frames = frames.0 }, told_by s j l lines.1 frames.1)

none_told : (s : Shape) → Tells s []
unfolding lines_after
none_told s = refl

pub journals_tell : (s : Shape) (j : List Line) → IsJournal s j → Tells s j
journals_tell s j =
    line_by_line (λ x. IsJournal s x → Tells s x) (λ is. none_told s)
    (λ x l before is. let both = journal-pop s x l is in tells-push s x l (before both.0) both.1) j
