-- What a meter says to a reading and to a frame after a journal, and what is appended.
use Rattle.std.specs.Prelude.{◌≡◌, ℕ, ◌^◌, ◌==◌, nat_lt, not, Bool, true, false, if◌then◌else◌, List, [], ◌∷◌, ◌++◌, length, bytes_eq, Option, Some, None, Result, Ok, Err}
use Rattle.missing_round.specs.Masks.{Masks}
use Rattle.missing_round.specs.Sets.{is_member as is_in}
use Rattle.missing_round.specs.Words.{reading_word, answer_word}
use Rattle.group_plan.specs.declared.Kind.TheVariants.{Reading, Answer}
use Rattle.group_plan.specs.Plans.{floor_of}
use Rattle.meter_core.specs.declared.Why.{Why}
use Rattle.meter_core.specs.declared.Why.TheVariants.{OutOfPlan, NotRead, SelfMissing, Thin, OtherSet}
use Rattle.meter_core.specs.declared.Heard.{Heard}
use Rattle.meter_core.specs.declared.Heard.TheVariants as hears
use Rattle.meter_core.specs.Meters.{is_within, survivors}
use Rattle.meter_frames.specs.declared.Frame.{Frame}
use Rattle.meter_apart.specs.declared.answers.Noted.{Noted}
use Rattle.meter_apart.specs.declared.answers.Noted.TheVariants.{Read, Kept}
use Rattle.meter_apart.specs.declared.answers.ReadingRefusal.{ReadingRefusal}
use Rattle.meter_apart.specs.declared.answers.ReadingRefusal.TheVariants as unread
use Rattle.meter_apart.specs.declared.answers.FrameRefusal.{FrameRefusal}
use Rattle.meter_apart.specs.declared.answers.FrameRefusal.TheVariants as unanswered
use Rattle.meter_apart.specs.declared.part.Part.{Part}
use Rattle.meter_apart.specs.Parts.{members_in, takes_part, own_tag, is_to_me}
use Rattle.meter_apart.specs.Journal.{marked, kept}

-- ---- readings

-- the frame of a reading
abbrev pub reading_frame : Part → Masks → ℕ → ℕ → Frame
reading_frame part m r reading = record {
  tag = own_tag part Reading r;
  missing = [];
  word = reading_word (m.own 0 r) (m.pair 0 r) (members_in part r) part.meter reading;
}

-- what stops a reading, or else the one that was marked for the round before
abbrev pub standing : Part → Option ℕ → ℕ → ℕ → Result (Option ℕ) ReadingRefusal
standing part before r reading = if takes_part part r then if nat_lt reading (2 ^ 40) then Ok before else Err unread.Range else Err unread.Round

-- what is said to a reading, by the one that was marked before
abbrev pub said_after : Part → Masks → Result (Option ℕ) ReadingRefusal → ℕ → ℕ → Result Frame ReadingRefusal
said_after part m (Err refusal) r reading = Err refusal
said_after part m (Ok None) r reading = Ok (reading_frame part m r reading)
said_after part m (Ok (Some before)) r reading = if before == reading then Ok (reading_frame part m r reading) else Err unread.Twice

-- what a meter says to a reading
abbrev pub to_reading : Part → Masks → List Noted → ℕ → ℕ → Result Frame ReadingRefusal
to_reading part m journal r reading = said_after part m (standing part (marked journal r) r reading) r reading

-- whether a reading is the first of its round
abbrev pub is_first : Result (Option ℕ) ReadingRefusal → Bool
is_first (Ok None) = true
is_first _ = false

-- whether a reading is said for the first time
abbrev pub is_first_reading : Part → List Noted → ℕ → ℕ → Bool
is_first_reading part journal r reading = is_first (standing part (marked journal r) r reading)

-- the journal after it: a reading that is said first is its next line
abbrev pub after_reading : Part → List Noted → ℕ → ℕ → List Noted
after_reading part journal r reading = if is_first_reading part journal r reading then journal ++ Read r reading ∷ [] else journal

-- ---- announcements

-- the first refusal that applies to a set in a round for which a reading was marked or not, whatever set is kept
abbrev pub refusal_by : Part → Option ℕ → ℕ → List ℕ → Option Why
refusal_by part None r set = Some NotRead
refusal_by part (Some reading) r set =
    if not (is_within set (members_in part r)) then Some OutOfPlan
    else if is_in part.meter set then Some SelfMissing
    else if nat_lt (survivors (members_in part r) set) (floor_of part.home.groups 0) then Some (Thin (survivors (members_in part r) set))
    else None

abbrev pub refusal_of : Part → List Noted → ℕ → List ℕ → Option Why
refusal_of part journal r set = if nat_lt r part.home.rounds then refusal_by part (marked journal r) r set else Some OutOfPlan

-- what is heard of a set, by its refusal and by the set that is kept for the round
abbrev pub heard_by : Option Why → Option (List ℕ) → List ℕ → Heard
heard_by (Some why) before set = hears.Refused why
heard_by None None set = hears.Answer
heard_by None (Some before) set = if bytes_eq before set then hears.AnswerAgain else hears.Refused (OtherSet before)

abbrev pub heard : Part → List Noted → ℕ → List ℕ → Heard
heard part journal r set = heard_by (refusal_of part journal r set) (kept journal r) set

-- the frame of an answer to a set
abbrev pub answer_frame : Part → Masks → ℕ → List ℕ → Frame
answer_frame part m r set = record {
  tag = own_tag part Answer r;
  missing = set;
  word = answer_word (m.own 0 r) (m.pair 0 r) part.meter set;
}

-- what is said to an announcement, by what is heard of its set
abbrev pub said_to : Part → Masks → Heard → ℕ → List ℕ → Result Frame FrameRefusal
said_to part m hears.Answer r set = Ok (answer_frame part m r set)
said_to part m hears.AnswerAgain r set = Ok (answer_frame part m r set)
said_to part m (hears.Refused why) r set = Err (unanswered.Why why)

-- what a meter says to a frame
abbrev pub to_frame : Part → Masks → List Noted → Frame → Result Frame FrameRefusal
to_frame part m journal f =
    if is_to_me part f.tag then said_to part m (heard part journal f.tag.round f.missing) f.tag.round f.missing else Err unanswered.Tag

-- whether a set is answered for the first time
abbrev pub is_answer : Heard → Bool
is_answer hears.Answer = true
is_answer _ = false

abbrev pub is_first_answer : Part → List Noted → ℕ → List ℕ → Bool
is_first_answer part journal r set = is_answer (heard part journal r set)

-- the journal after a set was heard: one that is answered first is its next line
abbrev pub after_set : Part → List Noted → ℕ → List ℕ → List Noted
after_set part journal r set = if is_first_answer part journal r set then journal ++ Kept r set ∷ [] else journal

-- the journal after a frame
abbrev pub after_frame : Part → List Noted → Frame → List Noted
after_frame part journal f = if is_to_me part f.tag then after_set part journal f.tag.round f.missing else journal

-- ---- journals

-- whether a line can follow a journal: its reading is said first, or its set answered first
abbrev pub can_follow : Part → List Noted → Noted → Bool
can_follow part journal (Read r reading) = is_first_reading part journal r reading
can_follow part journal (Kept r set) = is_first_answer part journal r set

-- the first of these lines that can't follow those before it
unfoldable pub first_wrong : Part → List Noted → List Noted → Option ℕ
first_wrong part journal [] = None
first_wrong part journal (l ∷ rest) = if can_follow part journal l then first_wrong part (journal ++ l ∷ []) rest else Some (length journal)

-- each line can follow those before it
abbrev pub IsJournal : Part → List Noted → Type 0
IsJournal part lines = first_wrong part [] lines ≡ None
