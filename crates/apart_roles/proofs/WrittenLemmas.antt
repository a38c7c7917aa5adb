-- What the journal of a role has at the start.
use Rattle.std.proofs.Common.{◌≡◌, ℕ, ◌+◌, ◌<◌, ◌≤◌, Bool, true, false, List, [], ◌∷◌, ◌++◌, length, take, drop, refl, sym, ap, ◌∙◌, subst, append_assoc, append-nil, arith, ⊎_elim}
use Rattle.std.proofs.lemmas.Bool.{eqb-true, leb-true}
use Rattle.std.proofs.lemmas.Grind.{flat_map-append}
use Rattle.std.proofs.lemmas.List.{length-drop, length-take, take_all, take_more}
use Rattle.std.proofs.lemmas.List.Quantifiers.{position-Some}
use Rattle.std.proofs.lemmas.Slice.Eq.{bytes_eq-Decides}
use Rattle.std.proofs.Math.ListN.{get_or}
use Rattle.std.proofs.Math.Seq.{take-add}
use Rattle.std.specs.Prelude.{◌==◌, nat_le, min, bytes_eq, codes, if◌then◌else◌, Option, Some, None, Ok}
use Rattle.std.specs.Option.{option_map}
use Rattle.meter_frames.specs.declared.Frame.{Frame}
use Rattle.field_texts.specs.Parts.{parts}
use Rattle.field_texts.proofs.TextLaws.{joined_parts}
use Rattle.transcript_text.specs.Spelling.{ended}
use Rattle.head_end.specs.declared.answers.Logged.{Logged}
use Rattle.head_end.specs.declared.answers.Logged.TheVariants.{Took, Passed}
use Rattle.head_end.specs.Replies as logs
use Rattle.meter_apart.specs.declared.answers.Noted.{Noted}
use Rattle.missing_round.specs.Masks.{Masks}
use Rattle.group_plan.specs.Plans.{PlanView}
use Rattle.meter_apart.specs.declared.part.Part.{Part}
use Rattle.meter_apart.specs.Keys.{part_of}
use Rattle.meter_apart.specs.Meter.{meter_masks, meter_part}
use Rattle.head_end.specs.Journal.{passed as ticks_in}
use Rattle.apart_lines.specs.declared.said.HeadEndSays.TheVariants as head_says
use Rattle.apart_lines.specs.declared.said.MeterSays.{MeterSays}
use Rattle.apart_lines.specs.declared.said.MeterSays.TheVariants as meter_says
use Rattle.apart_lines.specs.Said.{head_end_text, meter_text}
use Rattle.meter_apart.specs.Replies as notes
use Rattle.desk_outside.specs.Wire.{IsFront, IsNext, Source, WireView, after_step, after_steps, coming_by, coming_of, journal_after, newline_in, passed, taken_by, taken_of, text_by, text_of}
use Rattle.desk_outside.specs.declared.wire.Coming.{Coming}
use Rattle.desk_outside.specs.declared.wire.Coming.TheVariants.{Line, TooLong, Rest, End}
use Rattle.desk_outside.specs.declared.wire.WireStep.{WireStep}
use Rattle.desk_outside.specs.declared.wire.WireStep.TheVariants.{Appended, Emptied, Flushed, Heard, Opened, Said, Trimmed}
use Rattle.apart_lines.specs.declared.heads.HeadFound.{HeadFound}
use Rattle.apart_lines.specs.declared.heads.HeadFound.TheVariants.{Whole, Begun, Other}
use Rattle.apart_lines.specs.Frames.{frame_written}
use Rattle.apart_lines.specs.Heads.{head_found, journal_head, line_behind, meter_journal_head}
use Rattle.apart_lines.specs.Journals.{logged_by, logged_fields, logged_of, logged_text, noted_of, noted_text}
use Rattle.apart_lines.proofs.FrameLemmas.{written_back}
use Rattle.apart_lines.proofs.JournalLemmas.{noted_read}
use Rattle.apart_roles.specs.declared.outcome.Start.TheVariants.{Ready}
use Rattle.apart_roles.specs.Inputs.{AreNext, Came, ComesTo, IsEnd, follow_came, if_follows, is_line, journal_of_all, line_by, steps_of_all, with_last}
use Rattle.apart_roles.specs.Starts.{GoesOnBy, IsBegun, IsRead, Opens}
use Rattle.apart_roles.specs.declared.head_end_run.Pause.{Pause}
use Rattle.apart_roles.specs.declared.head_end_run.Pause.TheVariants as pauses_by
use Rattle.apart_roles.specs.HeadEndTurns.{Answer, IsHeadEnd, is_flushed_to, lines_text, logged_to, said_to, steps_flushed, steps_logged, with_logged}
use Rattle.apart_roles.specs.HeadEndTurns.{steps_said as head_steps_said}
use Rattle.apart_roles.specs.HeadEndRuns as heads
use Rattle.apart_roles.specs.MeterTurns.{noted_to, steps_noted, with_noted}
use Rattle.apart_roles.specs.MeterTurns.{said_to as meter_said_to, steps_said as meter_steps_said}
use Rattle.apart_roles.specs.MeterRuns as meters
use Rattle.apart_roles.specs.MeterStarts.{IsMeter}
use Rattle.apart_roles.specs.Written.{HeadEndRunsAreWritten, HeadEndStartsAreWritten, IsWritten, MeterRunsAreWritten, MeterStartsAreWritten, lines_by}
use Rattle.apart_roles.proofs.InputLemmas.{all_journal_join, left, recall_journal, same_source}
use Rattle.apart_roles.proofs.HeadEndRunLemmas.{with_pause}
use Rattle.apart_roles.proofs.RunLemmas.{with_no_line}
use Rattle.apart_roles.proofs.StepLemmas.{steps_join}

-- ---- a line

-- a line that is followed is a line, and the journal behind it has what it says
pub record IsFollowedLine {L : Type 0} (reads : List ℕ → Option L) (journal next : List L) (what : Coming) (text : List ℕ) : Type 0 where
  pub line : L
  pub what_is : what ≡ Line
  pub says : reads text ≡ Some line
  pub next_is : next ≡ journal ++ line ∷ []

followed_can : {L : Type 0} (reads : List ℕ → Option L) (journal next : List L) (text : List ℕ) (line : L) (b : Bool) → reads text ≡ Some line → (if b then Some (journal ++ line ∷ []) else None) ≡ Some next
    → IsFollowedLine reads journal next Line text
followed_can reads journal next text line true says follows = record { line = line; what_is = refl; says = says; next_is = cc }
followed_can reads journal next text line false says follows = absurd cc

pub followed_line : {L : Type 0} (reads : List ℕ → Option L) (can : List L → L → Bool) (journal next : List L) (what : Coming) (text : List ℕ) → if_follows can journal (line_by reads what text) ≡ Some next
    → IsFollowedLine reads journal next what text
followed_line {L} reads can journal next Line text follows = by (reads text) refl follows
  where
    by : (o : Option L) → reads text ≡ o → if_follows can journal o ≡ Some next → IsFollowedLine reads journal next Line text
    by None says follows = absurd cc
    by (Some line) says follows = followed_can reads journal next text line (can journal line) says follows
followed_line reads can journal next TooLong text follows = absurd cc
followed_line reads can journal next Rest text follows = absurd cc
followed_line reads can journal next End text follows = absurd cc

-- where the newline of a line is
pub record IsCut (bytes : List ℕ) : Type 0 where
  pub at : ℕ
  pub newline : newline_in bytes ≡ Some at
  pub short : at ≤ 4096

pub line_cut : (bytes : List ℕ) → coming_of bytes ≡ Line → IsCut bytes
line_cut bytes is = by (newline_in bytes) refl is
  where
    by_short : (at : ℕ) (b : Bool) → newline_in bytes ≡ Some at → nat_le at 4096 ≡ b → (if b then Line else TooLong) ≡ Line → IsCut bytes
    by_short at true newline short is = record { at = at; newline = newline; short = leb-true at 4096 short }
    by_short at false newline short is = absurd cc

    by_empty : (b : Bool) → (if b then End else Rest) ≡ Line → IsCut bytes
    by_empty true is = absurd cc
    by_empty false is = absurd cc

    by : (o : Option ℕ) → newline_in bytes ≡ o → coming_by bytes o ≡ Line → IsCut bytes
    by None newline is = by_empty (length bytes == 0) is
    by (Some at) newline is = by_short at (nat_le at 4096) newline refl is

-- what isn't a line takes nothing
no_line_taken : (bytes : List ℕ) → is_line (coming_of bytes) ≡ false → taken_of bytes ≡ 0
no_line_taken bytes off = by (newline_in bytes) off
  where
    by_short : (at : ℕ) (b : Bool) → is_line (if b then Line else TooLong) ≡ false → at + 1 ≡ 0
    by_short at true off = absurd cc
    by_short at false off = absurd cc

    by : (o : Option ℕ) → is_line (coming_by bytes o) ≡ false → taken_by o ≡ 0
    by None off = refl
    by (Some at) off = by_short at (nat_le at 4096) off

-- the bytes of a line: its text and a newline
line_bytes : (bytes text : List ℕ) (cut : IsCut bytes) → text ≡ text_of bytes → (take (taken_of bytes) bytes ≡ text ++ 10 ∷ []) × (cut.at < length bytes)
line_bytes bytes text cut text_is =
    let found = position-Some (λ c. c == 10) bytes cut.at 0 cut.newline in
    let short = cut.short in
    let min_is : min cut.at 4096 ≡ cut.at = omega (arith, short) in
    let told : text ≡ take cut.at bytes = text_is ∙ ap (text_by bytes) cut.newline ∙ ap (λ n. take n bytes) min_is in
    (ap (λ o. take (taken_by o) bytes) cut.newline ∙ take_more bytes cut.at 0 found.0 ∙ ap (λ t. t ++ get_or bytes cut.at 0 ∷ []) (sym told) ∙ ap (λ c. text ++ c ∷ []) (eqb-true (get_or bytes cut.at 0) 10 found.1), found.0)

-- ---- lines behind the head

-- the head and these lines have been read of the journal
pub record IsAt {L : Type 0} (write : L → List ℕ) (head bytes : List ℕ) (found : Option Source) (journal : List L) : Type 0 where
  pub place : ℕ
  pub is : found ≡ Some (record { bytes = bytes; place = place })
  pub within : place ≤ length bytes
  pub taken : take place bytes ≡ head ++ lines_by write journal

one_line : {L : Type 0} (write : L → List ℕ) (head bytes : List ℕ) (place : ℕ) (journal : List L) (line : L) (text : List ℕ) (cut : IsCut (drop place bytes)) → text ≡ text_of (drop place bytes) → text ≡ write line
    → take place bytes ≡ head ++ lines_by write journal → take (place + taken_of (drop place bytes)) bytes ≡ head ++ lines_by write (journal ++ line ∷ [])
one_line write head bytes place journal line text cut text_is says taken =
    take-add place (taken_of (drop place bytes)) bytes
    ∙ ap (λ t. t ++ take (taken_of (drop place bytes)) (drop place bytes)) taken
    ∙ ap (λ t. (head ++ lines_by write journal) ++ t) ((line_bytes (drop place bytes) text cut text_is).0 ∙ ap ended says)
    ∙ append_assoc head (lines_by write journal) (ended (write line))
    ∙ ap (λ t. head ++ t) (sym (flat_map-append (λ l. ended (write l)) journal (line ∷ []) ∙ ap (λ t. lines_by write journal ++ t) (append-nil (ended (write line)))))

line_within : (bytes : List ℕ) (place : ℕ) (cut : IsCut (drop place bytes)) → cut.at < length (drop place bytes) → place + taken_of (drop place bytes) ≤ length bytes
line_within bytes place cut lt =
    let taken : taken_of (drop place bytes) ≡ cut.at + 1 = ap taken_by cut.newline in
    let dropped = length-drop place bytes in
    omega (arith, lt, taken, dropped)

pub walk : {L : Type 0} (reads : List ℕ → Option L) (can : List L → L → Bool) (write : L → List ℕ) → ((text : List ℕ) (line : L) → reads text ≡ Some line → text ≡ write line) → (head bytes : List ℕ) (place : ℕ)
    (lines : List Came) (journal all : List L) → AreNext (Some (record { bytes = bytes; place = place })) lines → ComesTo (follow_came reads can) journal lines all → place ≤ length bytes
    → take place bytes ≡ head ++ lines_by write journal → IsAt write head bytes (left (Some (record { bytes = bytes; place = place })) lines) all
walk reads can write back head bytes place [] journal all next comes within taken =
    record { place = place; is = refl; within = within; taken = taken ∙ ap (λ j. head ++ lines_by write j) (sym comes) }
walk reads can write back head bytes place (came ∷ others) journal all next comes within taken =
    let line = followed_line reads can journal comes.0 came.what came.text comes.1 in
    let cut = line_cut (drop place bytes) (sym next.0.0 ∙ line.what_is) in
    walk reads can write back head bytes (place + taken_of (drop place bytes)) others comes.0 all next.1 comes.2
    (line_within bytes place cut (line_bytes (drop place bytes) came.text cut next.0.1).1)
    (one_line write head bytes place journal line.line came.text cut next.0.1 (back came.text line.line line.says) taken ∙ ap (λ j. head ++ lines_by write j) (sym line.next_is))

-- ---- the end of the journal

left_join : (source : Option Source) (lines : List Came) (came : Came) → left source (lines ++ came ∷ []) ≡ option_map passed (left source lines)
left_join source [] came = refl
left_join source (first ∷ lines) came = left_join (option_map passed source) lines came

pub next_first : (source : Option Source) (lines : List Came) (last : Option Came) → AreNext source (with_last lines last) → AreNext source lines
next_first source lines None next = next
next_first source [] (Some came) next = tt
next_first source (first ∷ lines) (Some came) next = (next.0, next_first (option_map passed source) lines (Some came) next.1)

next_last : (source : Option Source) (lines : List Came) (came : Came) → AreNext source (lines ++ came ∷ []) → IsNext (left source lines) came.what came.text
next_last source [] came next = next.0
next_last source (first ∷ lines) came next = next_last (option_map passed source) lines came next.1

pub end_left : (source : Option Source) (lines : List Came) (last : Option Came) (bytes : List ℕ) (place : ℕ) → IsEnd lines last → AreNext source (with_last lines last)
    → left source lines ≡ Some (record { bytes = bytes; place = place }) → left source (with_last lines last) ≡ Some (record { bytes = bytes; place = place })
end_left source lines None bytes place ends next is = is
end_left source lines (Some came) bytes place ends next is =
    let now : IsNext (Some (record { bytes = bytes; place = place })) came.what came.text = subst (λ s. IsNext s came.what came.text) is (next_last source lines came next) in
    let none = no_line_taken (drop place bytes) (ap is_line (sym now.0) ∙ ends) in
    left_join source lines came ∙ ap (option_map passed) is ∙ ap (λ n. Some (record { bytes = bytes; place = place + n })) none ∙ ap (λ n. Some (record { bytes = bytes; place = n })) (omega arith)

-- ---- the head

head_whole : (n : ℕ) (head text : List ℕ) → head_found n head text ≡ Whole → take (length head) text ≡ head
head_whole n [] text is = refl
head_whole n (expected ∷ head) [] is = absurd cc
head_whole n (expected ∷ head) (found ∷ text) is = by (head_whole (line_behind expected n) head text) (expected == found) refl is
  where
    by : (head_found (line_behind expected n) head text ≡ Whole → take (length head) text ≡ head) → (b : Bool) → (expected == found) ≡ b
        → (if b then head_found (line_behind expected n) head text else Other n) ≡ Whole → found ∷ take (length head) text ≡ expected ∷ head
    by rest true same whole = ap (λ c. c ∷ take (length head) text) (sym (eqb-true expected found same)) ∙ ap (λ t. expected ∷ t) (rest whole)
    by rest false other whole = absurd cc

pub record IsOpenedAt (head front bytes : List ℕ) : Type 0 where
  pub within : length front ≤ length bytes
  pub taken : take (length front) bytes ≡ head

pub opened_at : (head front bytes : List ℕ) → front ≡ take (min (length bytes) (length head)) bytes → head_found 1 head front ≡ Whole → IsOpenedAt head front bytes
opened_at head front bytes is whole =
    let long : length front ≡ min (min (length bytes) (length head)) (length bytes) = ap length is ∙ length-take (min (length bytes) (length head)) bytes in
    let short : length front ≤ length head = omega (arith, long) in
    let same : length front ≡ min (length bytes) (length head) = omega (arith, long) in
    record {
      within = omega (arith, long);
      taken = ap (λ n. take n bytes) same ∙ sym is ∙ sym (take_all (length head) front short) ∙ head_whole 1 head front whole;
    }

-- ---- a journal that is open

-- it goes on
read_written : {L R : Type 0} (reads : List ℕ → Option L) (can : List L → L → Bool) (write : L → List ℕ) → ((text : List ℕ) (line : L) → reads text ≡ Some line → text ≡ write line) → (is : List L → R → Type 0)
    (head front bytes : List ℕ) (u w : WireView) (new : R) → u.journal ≡ Some (record { bytes = bytes; place = length front }) → IsOpenedAt head front bytes → IsRead (follow_came reads can) is u w new
    → IsWritten write is head w new
unfolding after_step
read_written reads can write back is head front bytes u w new told opened read =
    let ready = read.ready in
    let next = subst (λ s. AreNext s (with_last ready.lines ready.last)) told ready.next in
    let start : Source = record { bytes = bytes; place = length front } in
    let at = walk reads can write back head bytes (length front) ready.lines [] ready.journal (next_first (Some start) ready.lines ready.last next) ready.comes opened.within (opened.taken ∙ sym (append-nil head)) in
    let end = end_left (Some start) ready.lines ready.last bytes at.place ready.ends next at.is in
    let view : read.view.journal ≡ Some (record { bytes = bytes; place = at.place })
    = ap (λ (x : WireView). x.journal) ready.steps ∙ recall_journal u (with_last ready.lines ready.last) ∙ ap (λ s. left s (with_last ready.lines ready.last)) told ∙ end in
    record {
      journal = ready.journal;
      source = record { bytes = take at.place bytes; place = at.place };
      told = ap (λ (x : WireView). x.journal) read.trimmed ∙ ap (option_map (journal_after (Trimmed false))) view;
      bytes = at.taken;
      after = ready.after;
    }

-- it is begun anew
begun_written : {L R : Type 0} (write : L → List ℕ) (is : List L → R → Type 0) (head : List ℕ) (source : Source) (u w : WireView) (new : R) → u.journal ≡ Some source → IsBegun is head u w new
    → IsWritten write is head w new
unfolding after_step
begun_written write is head source u w new told begun = record {
  journal = [];
  source = record { bytes = head; place = length head };
  told = ap (λ (x : WireView). x.journal) begun.steps ∙ ap (λ s. option_map (journal_after (Appended head false)) (option_map (journal_after (Emptied false)) s)) told;
  bytes = sym (append-nil head);
  after = begun.after;
}

opens_written : {L R : Type 0} (reads : List ℕ → Option L) (can : List L → L → Bool) (write : L → List ℕ) → ((text : List ℕ) (line : L) → reads text ≡ Some line → text ≡ write line) → (is : List L → R → Type 0)
    (name head : List ℕ) (v w : WireView) (source : Source) (new : R) → v.journal ≡ Some source → Opens (follow_came reads can) is name head v w (Ok (Ready new)) → IsWritten write is head w new
unfolding after_step
opens_written {L} {R} reads can write back is name head v w source new told opens = ⊎_elim (λ none. absurd none)
    (λ opened.
    let front_is : IsFront (Some source) (length head) opened.front = subst (λ s. IsFront s (length head) opened.front) told opened.is_front in
    let now : opened.view.journal ≡ Some (record { bytes = source.bytes; place = length opened.front })
    = ap (λ (x : WireView). x.journal) opened.step ∙ ap (option_map (journal_after (Opened name opened.front))) told in
    by opened.front opened.view (head_found 1 head opened.front) refl now front_is opened.goes_on)
    opens
  where
    by : (front : List ℕ) (u : WireView) (found : HeadFound) → head_found 1 head front ≡ found → u.journal ≡ Some (record { bytes = source.bytes; place = length front })
        → front ≡ take (min (length source.bytes) (length head)) source.bytes → GoesOnBy found (follow_came reads can) is head u w (Ok (Ready new)) → IsWritten write is head w new
    by front u Whole whole now front_is read = read_written reads can write back is head front source.bytes u w new now (opened_at head front source.bytes front_is whole) read
    by front u Begun whole now front_is begun = begun_written write is head (record { bytes = source.bytes; place = length front }) u w new now begun
    by front u (Other line) whole now front_is (result, left) = absurd cc

-- ---- the lines of both

logged_fields_back : (fields : List (List ℕ)) (logged : Logged) → logged_by fields ≡ Some logged → fields ≡ logged_fields logged
logged_fields_back [] logged is = absurd cc
logged_fields_back (word ∷ []) logged is = by (bytes_eq word (codes "t")) refl is
  where
    by : (b : Bool) → bytes_eq word (codes "t") ≡ b → (if b then Some Passed else None) ≡ Some logged → word ∷ [] ≡ logged_fields logged
    by true same found = let e : Passed ≡ logged = cc in ap (λ w. w ∷ []) ((bytes_eq-Decides word (codes "t")).0 same) ∙ ap logged_fields e
    by false same found = absurd cc
logged_fields_back (word ∷ digits ∷ []) logged is = by (bytes_eq word (codes "f")) refl is
  where
    by_frame : (frame : Option Frame) → frame_written digits ≡ frame → word ≡ codes "f" → option_map Took frame ≡ Some logged → word ∷ digits ∷ [] ≡ logged_fields logged
    by_frame None read same found = absurd cc
    by_frame (Some f) read same found =
        let e : Took f ≡ logged = cc in
        ap (λ w. w ∷ digits ∷ []) same ∙ ap (λ d. codes "f" ∷ d ∷ []) (written_back digits f read) ∙ ap logged_fields e

    by : (b : Bool) → bytes_eq word (codes "f") ≡ b → (if b then option_map Took (frame_written digits) else None) ≡ Some logged → word ∷ digits ∷ [] ≡ logged_fields logged
    by true same found = by_frame (frame_written digits) refl ((bytes_eq-Decides word (codes "f")).0 same) found
    by false same found = absurd cc
logged_fields_back (word ∷ second ∷ third ∷ rest) logged is = absurd cc

pub logged_text_back : (text : List ℕ) (logged : Logged) → logged_of text ≡ Some logged → text ≡ logged_text logged
unfolding logged_of logged_text
logged_text_back text logged is = joined_parts 44 text (logged_fields logged) (logged_fields_back (parts 44 text) logged is)

pub noted_text_back : (text : List ℕ) (noted : Noted) → noted_of text ≡ Some noted → text ≡ noted_text noted
noted_text_back text noted is = (noted_read text (Some noted) (sym is)).1

-- ---- a role that has started

-- the journal is as before
same_written : {L R : Type 0} (write : L → List ℕ) (is : List L → R → Type 0) (head : List ℕ) (v w : WireView) (role : R) → w.journal ≡ v.journal → IsWritten write is head v role → IsWritten write is head w role
same_written write is head v w role same written =
    record { journal = written.journal; source = written.source; told = same ∙ written.told; bytes = written.bytes; after = written.after }

welcomed : (v : WireView) (said : List ℕ) → (after_steps v (Flushed false ∷ Said (10 ∷ []) false ∷ Said said false ∷ [])).journal ≡ v.journal
unfolding after_step
welcomed v said = same_source (option_map (λ s. s) (option_map (λ s. s) v.journal)) ∙ same_source (option_map (λ s. s) v.journal) ∙ same_source v.journal

pub head_end_starts_written : HeadEndStartsAreWritten
head_end_starts_written plan name v w source new told started =
    let opened = opens_written logged_of (logs.can_follow plan) logged_text logged_text_back (IsHeadEnd plan) name (journal_head plan) v started.view source new told started.opens in
    same_written logged_text (IsHeadEnd plan) (journal_head plan) started.view w new
    (ap (λ (x : WireView). x.journal) (started.steps opened.journal opened.after.after) ∙ welcomed started.view (ended (head_end_text plan (head_says.Ready (ticks_in opened.journal))))) opened

pub meter_starts_written : MeterStartsAreWritten
meter_starts_written keys name v w source new told started =
    let opened = opens_written noted_of (notes.can_follow (part_of keys)) noted_text noted_text_back (IsMeter keys) name (meter_journal_head (part_of keys)) v started.view source new told started.opens in
    same_written noted_text (IsMeter keys) (meter_journal_head (part_of keys)) started.view w new
    (ap (λ (x : WireView). x.journal) started.steps ∙ welcomed started.view (ended (meter_text meter_says.Ready))) opened

-- ---- a run

-- the journal has this text
record HasText (text : List ℕ) (journal : Option Source) : Type 0 where
  source : Source
  told : journal ≡ Some source
  bytes : source.bytes ≡ text

text_same : (text : List ℕ) (one two : Option Source) → two ≡ one → HasText text one → HasText text two
text_same text one two same has = record { source = has.source; told = same ∙ has.told; bytes = has.bytes }

text_appended : (text bytes : List ℕ) (v : WireView) → HasText text v.journal → HasText (text ++ bytes) (after_step v (Appended bytes false)).journal
unfolding after_step
text_appended text bytes v has = record {
  source = record { bytes = has.source.bytes ++ bytes; place = length (has.source.bytes ++ bytes) };
  told = ap (option_map (journal_after (Appended bytes false))) has.told;
  bytes = ap (λ t. t ++ bytes) has.bytes;
}

text_flushed : (v : WireView) → (after_step v (Flushed false)).journal ≡ v.journal
unfolding after_step
text_flushed v = same_source v.journal

text_said : (v : WireView) (bytes : List ℕ) → (after_step v (Said bytes false)).journal ≡ v.journal
unfolding after_step
text_said v bytes = same_source v.journal

text_heard : (v : WireView) (came : Came) → (after_step v (Heard came.what came.text)).journal ≡ v.journal
unfolding after_step
text_heard v came = same_source v.journal

-- the head and these lines
abbrev HasLines : {L : Type 0} → (L → List ℕ) → List ℕ → List L → WireView → Type 0
HasLines write head journal v = HasText (head ++ lines_by write journal) v.journal

lines_appended : {L : Type 0} (write : L → List ℕ) (head : List ℕ) (journal : List L) (line : L) (v : WireView) → HasLines write head journal v
    → HasLines write head (journal ++ line ∷ []) (after_step v (Appended (ended (write line)) false))
lines_appended write head journal line v has =
    subst (λ text. HasText text (after_step v (Appended (ended (write line)) false)).journal)
    (append_assoc head (lines_by write journal) (ended (write line))
    ∙ ap (λ t. head ++ t) (sym (flat_map-append (λ l. ended (write l)) journal (line ∷ []) ∙ ap (λ t. lines_by write journal ++ t) (append-nil (ended (write line))))))
    (text_appended (head ++ lines_by write journal) (ended (write line)) v has)

-- the steps of each leave the journal that comes of it
abbrev WriteEach : {L : Type 0} → (L → List ℕ) → List ℕ → (List L → Came → List WireStep) → (List L → Came → List L) → Type 0
WriteEach {L} write head steps next = (v : WireView) (journal : List L) (came : Came) → HasLines write head journal v → HasLines write head (next journal came) (after_steps v (steps journal came))

run_lines : {L : Type 0} (write : L → List ℕ) (head : List ℕ) (steps : List L → Came → List WireStep) (next : List L → Came → List L) → WriteEach write head steps next
    → (v : WireView) (journal : List L) (lines : List Came) → HasLines write head journal v → HasLines write head (journal_of_all next journal lines) (after_steps v (steps_of_all steps next journal lines))
run_lines write head steps next each v journal [] has = has
run_lines write head steps next each v journal (came ∷ lines) has =
    subst (λ x. HasLines write head (journal_of_all next (next journal came) lines) x) (sym (steps_join v (steps journal came) (steps_of_all steps next (next journal came) lines)))
    (run_lines write head steps next each (after_steps v (steps journal came)) (next journal came) lines (each v journal came has))

-- of a head end

head_logged : (head : List ℕ) (journal : List Logged) (logged : Option Logged) (v : WireView) → HasLines logged_text head journal v → HasLines logged_text head (with_logged journal logged) (after_steps v (steps_logged logged))
head_logged head journal None v has = has
head_logged head journal (Some line) v has = lines_appended logged_text head journal line v has

head_flushed : (b : Bool) (v : WireView) → (after_steps v (steps_flushed b)).journal ≡ v.journal
head_flushed true v = text_flushed v
head_flushed false v = refl

head_said : (plan : PlanView) (said : Option Answer) (v : WireView) → (after_steps v (head_steps_said plan said)).journal ≡ v.journal
head_said plan None v = refl
head_said plan (Some answer) v = text_said v (lines_text plan answer.lines ++ ended (head_end_text plan answer.last))

head_came : (plan : PlanView) (head : List ℕ) → WriteEach logged_text head (heads.came_steps plan) (heads.with_came plan)
head_came plan head v journal came has =
    let heard = heads.said_in came in
    let u = after_step v (Heard came.what came.text) in
    let logged = steps_logged (logged_to plan journal heard) in
    let flushed = steps_flushed (is_flushed_to journal heard) in
    let said = head_steps_said plan (said_to plan journal heard) in
    text_same (head ++ lines_by logged_text (heads.with_came plan journal came)) (after_steps u logged).journal (after_steps u (logged ++ flushed ++ said)).journal
    (ap (λ (x : WireView). x.journal) (steps_join u (logged ++ flushed) said) ∙ head_said plan (said_to plan journal heard) (after_steps u (logged ++ flushed))
    ∙ ap (λ (x : WireView). x.journal) (steps_join u logged flushed) ∙ head_flushed (is_flushed_to journal heard) (after_steps u logged))
    (head_logged head journal (logged_to plan journal heard) u (text_same (head ++ lines_by logged_text journal) v.journal u.journal (text_heard v came) has))

-- what comes last is logged no more
last_journal : (plan : PlanView) (journal : List Logged) (pause : Pause) (lines : List Came) (last : Option Came) → heads.PausesAt pause lines last
    → heads.run_journal plan journal (with_last lines last) ≡ heads.run_journal plan journal lines
last_journal plan journal pause lines None pauses = refl
last_journal plan journal pauses_by.Report lines (Some came) is =
    all_journal_join (heads.with_came plan) journal lines came ∙ with_pause plan (heads.run_journal plan journal lines) came.what came.text (ap heads.is_more is)
last_journal plan journal pauses_by.Over lines (Some came) is =
    all_journal_join (heads.with_came plan) journal lines came ∙ with_pause plan (heads.run_journal plan journal lines) came.what came.text (ap heads.is_more is)

pub head_end_runs_written : HeadEndRunsAreWritten
head_end_runs_written plan v w old new pause written runs =
    let run = runs written.journal written.after in
    let heard = run.heard in
    let start : HasLines logged_text (journal_head plan) written.journal v = record { source = written.source; told = written.told; bytes = written.bytes } in
    let all = run_lines logged_text (journal_head plan) (heads.came_steps plan) (heads.with_came plan) (head_came plan (journal_head plan)) v written.journal (with_last heard.lines heard.last) start in
    record {
      journal = heads.run_journal plan written.journal heard.lines;
      source = all.source;
      told = ap (λ (x : WireView). x.journal) run.steps ∙ text_flushed run.view ∙ ap (λ (x : WireView). x.journal) heard.steps ∙ all.told;
      bytes = all.bytes ∙ ap (λ j. journal_head plan ++ lines_by logged_text j) (last_journal plan written.journal pause heard.lines heard.last heard.pauses);
      after = heard.after;
    }

-- of a meter

meter_noted : (head : List ℕ) (journal : List Noted) (noted : Option Noted) (v : WireView) → HasLines noted_text head journal v → HasLines noted_text head (with_noted journal noted) (after_steps v (steps_noted noted))
meter_noted head journal None v has = has
meter_noted head journal (Some line) v has =
    let u = after_step v (Appended (ended (noted_text line)) false) in
    text_same (head ++ lines_by noted_text (journal ++ line ∷ [])) u.journal (after_step u (Flushed false)).journal (text_flushed u) (lines_appended noted_text head journal line v has)

meter_said : (said : Option MeterSays) (v : WireView) → (after_steps v (meter_steps_said said)).journal ≡ v.journal
meter_said None v = refl
meter_said (Some says) v = text_said v (ended (meter_text says))

meter_came : (part : Part) (m : Masks) (head : List ℕ) → WriteEach noted_text head (meters.came_steps part m) (meters.with_came part)
meter_came part m head v journal came has =
    let heard = meters.said_in came in
    let u = after_step v (Heard came.what came.text) in
    let noted = steps_noted (noted_to part journal heard) in
    let said = meter_steps_said (meter_said_to part m journal heard) in
    text_same (head ++ lines_by noted_text (meters.with_came part journal came)) (after_steps u noted).journal (after_steps u (noted ++ said)).journal
    (ap (λ (x : WireView). x.journal) (steps_join u noted said) ∙ meter_said (meter_said_to part m journal heard) (after_steps u noted))
    (meter_noted head journal (noted_to part journal heard) u (text_same (head ++ lines_by noted_text journal) v.journal u.journal (text_heard v came) has))

last_noted : (part : Part) (journal : List Noted) (lines : List Came) (last : Option Came) → IsEnd lines last → meters.run_journal part journal (with_last lines last) ≡ meters.run_journal part journal lines
last_noted part journal lines None ends = refl
last_noted part journal lines (Some came) ends =
    all_journal_join (meters.with_came part) journal lines came ∙ with_no_line part (meters.run_journal part journal lines) came.what came.text ends

pub meter_runs_written : MeterRunsAreWritten
meter_runs_written v w old new written runs =
    let run = runs written.journal written.after in
    let part = meter_part old in
    let head = meter_journal_head part in
    let start : HasLines noted_text head written.journal v = record { source = written.source; told = written.told; bytes = written.bytes } in
    let all = run_lines noted_text head (meters.came_steps part (meter_masks old)) (meters.with_came part) (meter_came part (meter_masks old) head) v written.journal (with_last run.lines run.last) start in
    record {
      journal = meters.run_journal part written.journal run.lines;
      source = all.source;
      told = ap (λ (x : WireView). x.journal) run.steps ∙ all.told;
      bytes = all.bytes ∙ ap (λ j. head ++ lines_by noted_text j) (last_noted part written.journal run.lines run.last run.ends);
      after = run.after;
    }
