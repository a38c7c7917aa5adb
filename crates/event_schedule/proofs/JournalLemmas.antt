-- A journal with the words of two tables is their transcript.
use Rattle.std.proofs.Common.{◌≡◌, ℕ, true, List, [], ◌∷◌, ◌++◌, map, refl, sym, ap, ◌∙◌, append_assoc, append-nil, subst}
use Rattle.std.specs.List.{list_all}
use mathlib.Core.Path.{fun_ext}
use Rattle.std.proofs.lemmas.Bool.{and_from}
use Rattle.event_schedule.specs.declared.Event.{Event}
use Rattle.event_schedule.specs.declared.Line.{Line}
use Rattle.event_schedule.specs.declared.Line.TheVariants.{Send as SendLine, Take as TakeLine, Close as CloseLine, End as EndLine}
use Rattle.group_plan.specs.Plans.{Group}
use Rattle.event_schedule.specs.Schedule.{Shape, is_closed, is_ended, is_announced, is_answer_sent, all_taken, all_answered, lacking, is_opened, survivors}
use Rattle.event_schedule.specs.Tables.{Readings, Masks, IsOfPlan, IsBounded}
use Rattle.event_schedule.specs.Transcript.{shape_of_readings, Contents, contents_of_tables, line, lines_after, transcript}
use Rattle.event_schedule.specs.Events.{event_of}
use Rattle.event_schedule.specs.Frames.{shape_of_lines, contents_of_lines}
use Rattle.event_schedule.specs.Journal.{past_of, IsJournalAfter, HasFramesOf}
use Rattle.event_schedule.proofs.ScheduleLemmas.{after, after-reverse, is_opened-from_taken}
use Rattle.event_schedule.proofs.ListLemmas.{and_first, and_last}
use Rattle.event_schedule.proofs.ShapeLemmas.{announced_agree, reply_agree, survivors_agree}
use Rattle.event_schedule.proofs.TranscriptLemmas.{ending_cases, lines_after-push}
use Rattle.event_schedule.proofs.FrameLemmas.{shapes_agree, totals_told}

map-append : (xs ys : List Line) → map event_of (xs ++ ys) ≡ map event_of xs ++ map event_of ys
map-append [] ys = refl
map-append (x ∷ xs) ys = ap (λ l. event_of x ∷ l) (map-append xs ys)

-- an opened round's plain sum is the frame total of the journal so far
pub total_of_journal : (groups : List Group) (x : Readings) (m : Masks) (journal : List Line) → IsOfPlan groups x → IsBounded groups x → transcript groups x m (map event_of journal) ≡ journal
    → (g r : ℕ) → is_opened (shape_of_readings groups x) g r (past_of journal) ≡ true
    → (contents_of_lines journal).total g r (survivors (shape_of_readings groups x) g r (past_of journal)) ≡ (contents_of_tables groups x m).total g r (survivors (shape_of_readings groups x) g r (past_of journal))
total_of_journal groups x m journal of_plan bounded told g r opened =
    let s1 : Shape = shape_of_readings groups x in
    let s2 : Shape = shape_of_lines groups journal in
    let whole : List Event = after [] (map event_of journal) in
    let agree = shapes_agree groups x m journal of_plan bounded told in
    let same : survivors s1 g r whole ≡ survivors s2 g r whole = survivors_agree groups s1.present s2.present g r whole agree in
    let opened_after : is_opened s1 g r whole ≡ true = ap (λ p. is_opened s1 g r p) (after-reverse (map event_of journal)) ∙ opened in
    let announced : is_announced s2 g r whole ≡ true
    = sym (announced_agree groups s1.present s2.present g r whole agree) ∙ and_first (is_announced s1 g r whole) (all_answered s1 g r whole) opened_after in
    let answered : all_answered s2 g r whole ≡ true
    = ap (list_all (λ i. is_answer_sent s2 g r i whole)) (sym same)
    ∙ ap (λ f. list_all f (survivors s1 g r whole)) (fun_ext (λ i. sym (reply_agree groups s1.present s2.present g r i whole agree)))
    ∙ and_last (is_announced s1 g r whole) (all_answered s1 g r whole) opened_after in
    let both = totals_told groups x m journal of_plan bounded told g r (and_from (is_announced s2 g r whole) (all_answered s2 g r whole) announced answered) in
    let here : survivors s1 g r (past_of journal) ≡ survivors s2 g r whole = ap (λ p. survivors s1 g r p) (sym (after-reverse (map event_of journal))) ∙ same in
    ap ((contents_of_lines journal).total g r) here ∙ sym both ∙ ap ((contents_of_tables groups x m).total g r) (sym here)

told_more : (groups : List Group) (x : Readings) (m : Masks) (journal : List Line) (l : Line)
    → transcript groups x m (map event_of journal) ≡ journal → l ≡ line (shape_of_readings groups x) (contents_of_tables groups x m) (past_of journal) (event_of l)
    → transcript groups x m (map event_of (journal ++ l ∷ [])) ≡ journal ++ l ∷ []
told_more groups x m journal l told is =
    let s : Shape = shape_of_readings groups x in
    let c : Contents = contents_of_tables groups x m in
    ap (λ es. lines_after s c [] es) (map-append journal (l ∷ []))
    ∙ lines_after-push s c [] (map event_of journal) (event_of l)
    ∙ ap (λ p. lines_after s c [] (map event_of journal) ++ line s c p (event_of l) ∷ []) (after-reverse (map event_of journal))
    ∙ ap (λ j. j ++ line s c (past_of journal) (event_of l) ∷ []) told
    ∙ ap (λ z. journal ++ z ∷ []) (sym is)

pub journal_is : (groups : List Group) (x : Readings) (m : Masks) → IsOfPlan groups x → IsBounded groups x → (journal rest : List Line)
    → transcript groups x m (map event_of journal) ≡ journal → IsJournalAfter (shape_of_readings groups x) journal rest → HasFramesOf (shape_of_readings groups x) (contents_of_tables groups x m) journal rest
    → transcript groups x m (map event_of (journal ++ rest)) ≡ journal ++ rest
journal_is groups x m of_plan bounded journal [] told steps words = rw append-nil told
journal_is groups x m of_plan bounded journal (SendLine tag f ∷ rest) told steps words =
    let l : Line = SendLine tag f in
    subst (λ j. transcript groups x m (map event_of j) ≡ j) (append_assoc journal (l ∷ []) rest)
    (journal_is groups x m of_plan bounded (journal ++ l ∷ []) rest (told_more groups x m journal l told (ap (SendLine tag) words.0)) steps.1 words.1)
journal_is groups x m of_plan bounded journal (TakeLine tag v ∷ rest) told steps words =
    let l : Line = TakeLine tag v in
    subst (λ j. transcript groups x m (map event_of j) ≡ j) (append_assoc journal (l ∷ []) rest)
    (journal_is groups x m of_plan bounded (journal ++ l ∷ []) rest (told_more groups x m journal l told steps.0) steps.1 words)
journal_is groups x m of_plan bounded journal (CloseLine g r v ∷ rest) told steps words =
    let l : Line = CloseLine g r v in
    subst (λ j. transcript groups x m (map event_of j) ≡ j) (append_assoc journal (l ∷ []) rest)
    (journal_is groups x m of_plan bounded (journal ++ l ∷ []) rest (told_more groups x m journal l told steps.0) steps.1 words)
journal_is groups x m of_plan bounded journal (EndLine g r v ∷ rest) told steps words =
    let l : Line = EndLine g r v in
    let s : Shape = shape_of_readings groups x in
    let past : List Event = past_of journal in
    subst (λ j. transcript groups x m (map event_of j) ≡ j) (append_assoc journal (l ∷ []) rest)
    (journal_is groups x m of_plan bounded (journal ++ l ∷ []) rest
    (told_more groups x m journal l told
    (steps.0 ∙ ap (EndLine g r) (ending_cases (is_closed g r past) (is_ended g r past) (is_announced s g r past) (all_taken s g r past) _ _ (lacking s g r past)
    (λ announced taken. total_of_journal groups x m journal of_plan bounded told g r (is_opened-from_taken s g r past announced taken)))))
    steps.1 words)
