-- The first fault of a text.
use Rattle.std.proofs.Common.{◌≡◌, ◌<◌, ◌^◌, ℕ, false, List, [], ◌∷◌, ◌++◌, length, refl, sym, ap, ◌∙◌, arith, Result, Ok, Err, append_assoc, subst}
use Rattle.std.specs.List.{join_with_byte}
use Rattle.event_schedule.specs.declared.Entry.{Entry}
use Rattle.field_texts.specs.Parts.{parts}
use Rattle.field_texts.proofs.Cutting.{parts_some}
use Rattle.field_texts.proofs.TextLaws.{AllClean, joined_parts, parts_at, parts_joined}
use Rattle.transcript_text.specs.declared.version.Version.{Version}
use Rattle.transcript_text.specs.declared.fault.ReadError.{ReadError}
use Rattle.transcript_text.specs.declared.fault.ReadError.TheVariants as fault
use Rattle.event_schedule.specs.Transcripts.{TranscriptView}
use Rattle.transcript_text.specs.ReadBack.{HasText}
use Rattle.transcript_text.specs.Spelling.{ended, text_of}
use Rattle.transcript_text.specs.Reading.{◌>>=◌, Gives, before, entries_from}
use Rattle.transcript_text.specs.Heads.{HeadRead, head_of, next_line, read_of, rounds_of, start_of, title_of, windows_of}
use Rattle.transcript_text.specs.Faults.{IsFaultAfterHead, IsFirstFault, IsText, StopsAt, fault_line, lines_text}
use Rattle.transcript_text.proofs.Choices.{bind_ok}
use Rattle.transcript_text.proofs.EntryFaults.{entries_read, with_plan}
use Rattle.transcript_text.proofs.HeadFaults.{all_located, all_read, behind_head, body_read}
use Rattle.transcript_text.proofs.HeadText.{head_is}
use Rattle.transcript_text.proofs.Located.{Located, is_head}
use Rattle.transcript_text.proofs.ReadAgain.{read_again}
use Rattle.transcript_text.proofs.ReadLemmas.{entries_are, read_is_written}
use Rattle.transcript_text.proofs.WholeLines.{are_lines, back_clean, few_parts, front_clean, joined_lines, one_clean, parts_are_clean, parts_lines}

-- ---- the reading line by line is the reader

two_steps : {A B C E : Type 0} (r : Result A E) (f : A → Result B E) (g : B → Result C E) → ((r >>= f) >>= g) ≡ (r >>= (λ x. f x >>= g))
two_steps (Ok x) f g = refl
two_steps (Err e) f g = refl

same_step : {A B E : Type 0} (r : Result A E) (f g : A → Result B E) → ((x : A) → f x ≡ g x) → (r >>= f) ≡ (r >>= g)
same_step (Ok x) f g same = same x
same_step (Err e) f g same = refl

none_before : (r : Result (List Entry) ReadError) → before [] r ≡ r
none_before (Ok es) = refl
none_before (Err f) = refl

start_so : (version : Version) (ls : List (List ℕ)) → behind_head version (head_of version ls) ≡ all_read version ls
unfolding head_of start_of body_read
start_so version ls =
    two_steps (start_of version ls) _ _ ∙ two_steps (next_line 1 (title_of version 1) ls) _ _
    ∙ same_step (next_line 1 (title_of version 1) ls) _ _ (λ top. two_steps (next_line 2 (rounds_of 2) top.1) _ _
    ∙ same_step (next_line 2 (rounds_of 2) top.1) _ _ (λ rounds. two_steps (next_line 3 (windows_of 3) rounds.1) _ _))

pub reads_so : (version : Version) (bytes : List ℕ) → all_read version (parts 10 bytes) ≡ read_of version bytes
unfolding read_of entries_read
reads_so version bytes =
    sym (start_so version (parts 10 bytes))
    ∙ same_step (head_of version (parts 10 bytes)) _ _ (λ h. ap (with_plan h.plan) (none_before (entries_from version h.plan h.line 0 0 h.rest)))

-- ---- from lines to texts

-- a text that begins with lines is read as these and the parts of the rest
begins_so : (version : Version) (xs : List (List ℕ)) (more text : List ℕ) → AllClean 10 xs → text ≡ lines_text xs ++ more → read_of version text ≡ all_read version (xs ++ parts 10 more)
begins_so version xs more text whole is = sym (reads_so version text) ∙ ap (all_read version) (ap (parts 10) is ∙ parts_lines xs more whole)

-- the text of a transcript is read as it
text_read : (version : Version) (text : List ℕ) (is : IsText version text) → read_of version text ≡ Ok is.transcript
text_read version text is = ap (read_of version) is.is ∙ read_again version is.transcript is.has is.few

-- what is read is the text of a transcript
read_text : (version : Version) (text : List ℕ) (t : TranscriptView) → length t.entries < 2 ^ 64 → read_of version text ≡ Ok t → IsText version text
unfolding read_of
read_text version text t few is =
    let head = bind_ok (head_of version (parts 10 text)) _ t is in
    let h : HeadRead = head.0 in
    let entries = bind_ok (entries_from version h.plan h.line 0 0 h.rest) _ t head.2 in
    let read = head_is version (parts 10 text) h head.1 in
    let made : TranscriptView = record { plan = h.plan; entries = entries.0 } in
    let same : made ≡ t = cc in
    let has : HasText version made = record { transcript = entries_are version h.plan h.line h.rest entries.0 read.plan entries.1; head = read.has } in
    record {
      transcript = t;
      has = subst (HasText version) same has;
      few = few;
      is = read_is_written version text h entries.0 read.plan head.1 entries.1 ∙ ap (text_of version) same;
    }

module _ (version : Version) (bytes : List ℕ) (f : ReadError) (l : Located (all_read version) 1 (parts 10 bytes) f) where
  whole : AllClean 10 (l.xs ++ l.ys)
  whole = subst (AllClean 10) l.is (parts_are_clean 10 bytes)

  clean_lines : AllClean 10 l.xs
  clean_lines = front_clean 10 l.xs l.ys whole

  abbrev rest : List ℕ
  rest = join_with_byte 10 l.ys

  rest_parts : (ys : List (List ℕ)) → 0 < length ys → AllClean 10 ys → parts 10 (join_with_byte 10 ys) ≡ ys
  rest_parts [] some h = absurd (omega arith)
  rest_parts (y ∷ ys) some h = parts_joined 10 y ys h

  first : IsFirstFault version bytes (fault_line f)
  first = record {
    before = l.xs;
    rest = rest;
    lines = are_lines l.xs clean_lines;
    number = omega (arith, l.at);
    bytes_are = joined_parts 10 bytes (l.xs ++ l.ys) l.is ∙ joined_lines l.xs l.ys l.some;
    earlier = λ text g begins e. l.earlier (parts 10 begins.0) g (parts_some 10 begins.0) (sym (begins_so version l.xs begins.0 text clean_lines begins.1) ∙ e);
    later = λ line more text one is of begins.
        (let cut : l.ys ≡ line ∷ parts 10 more = sym (rest_parts l.ys l.some (back_clean 10 l.xs l.ys whole)) ∙ ap (parts 10) (is ∙ append_assoc line (10 ∷ []) more) ∙ parts_at 10 line more (one_clean line one) in
        let spelled : text ≡ lines_text l.xs ++ (line ++ 10 ∷ begins.0) = begins.1 ∙ append_assoc (lines_text l.xs) (ended line) begins.0 ∙ ap (λ q. lines_text l.xs ++ q) (append_assoc line (10 ∷ []) begins.0) in
        let read : all_read version (l.xs ++ line ∷ parts 10 begins.0) ≡ Ok of.transcript =
        ap (λ q. all_read version (l.xs ++ q)) (sym (parts_at 10 line begins.0 (one_clean line one))) ∙ sym (begins_so version l.xs (line ++ 10 ∷ begins.0) text clean_lines spelled) ∙ text_read version text of in
        l.later line (parts 10 more) (parts 10 begins.0) of.transcript cut (parts_some 10 more) (parts_some 10 begins.0) read);
  }

  -- a text that begins with the lines before the fault, where it is behind the head
  after_head : is_head f ≡ false → IsFaultAfterHead version bytes (fault_line f)
  unfolding first
  after_head is =
      let s = l.start is in
      let text : List ℕ = lines_text l.xs ++ s.0 in
      let read : read_of version text ≡ Ok s.1 = begins_so version l.xs s.0 text clean_lines refl ∙ s.3 in
      (first, text, read_text version text s.1 s.2 read, (s.0, refl))

located : (version : Version) (bytes : List ℕ) (f : ReadError) → length bytes < 2 ^ 64 → read_of version bytes ≡ Err f → Located (all_read version) 1 (parts 10 bytes) f
located version bytes f few e = let long = few_parts bytes in all_located version (parts 10 bytes) f (parts_some 10 bytes) (omega (arith, few, long)) (reads_so version bytes ∙ e)

-- what reading gives, in the words of texts
pub stops_at : {T : Type 0} (view : T → TranscriptView) (version : Version) (bytes : List ℕ) (answer : Result T ReadError) → length bytes < 2 ^ 64 → Gives view answer (read_of version bytes) → StopsAt version bytes answer
stops_at view version bytes (Ok t) few h = tt
stops_at view version bytes (Err (fault.Head n)) few h = first version bytes (fault.Head n) (located version bytes (fault.Head n) few h)
stops_at view version bytes (Err (fault.Line n)) few h = after_head version bytes (fault.Line n) (located version bytes (fault.Line n) few h) refl
stops_at view version bytes (Err (fault.Field n k)) few h = after_head version bytes (fault.Field n k) (located version bytes (fault.Field n k) few h) refl
stops_at view version bytes (Err (fault.NoEnd n)) few h = after_head version bytes (fault.NoEnd n) (located version bytes (fault.NoEnd n) few h) refl
stops_at view version bytes (Err (fault.Count n)) few h = after_head version bytes (fault.Count n) (located version bytes (fault.Count n) few h) refl
stops_at view version bytes (Err (fault.After n)) few h = after_head version bytes (fault.After n) (located version bytes (fault.After n) few h) refl
stops_at view version bytes (Err fault.Memory) few h = tt
