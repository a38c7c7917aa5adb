-- What a meter says after it has noted a line is what it says to the journal before.
use Rattle.std.proofs.Common.{◌≡◌, ℕ, ◌^◌, ◌≤◌, ◌&&◌, Bool, true, false, List, [], ◌∷◌, ◌++◌, refl, sym, ap, ◌∙◌, subst}
use Rattle.std.specs.Prelude.{nat_lt, bytes_eq, if◌then◌else◌, Option, Some, None, Result, Ok, Err}
use Rattle.std.proofs.lemmas.Bool.{eq-eqb, le-ltb}
use Rattle.std.proofs.lemmas.Slice.Eq.{bytes_eq-Decides}
use Rattle.missing_round.specs.Masks.{Masks}
use Rattle.group_plan.specs.Plans.{is_member}
use Rattle.meter_core.specs.declared.Heard.{Heard}
use Rattle.meter_core.specs.declared.Heard.TheVariants.{AnswerAgain, Refused}
use Rattle.meter_core.specs.declared.Why.{Why}
use Rattle.meter_core.specs.declared.Why.TheVariants.{OutOfPlan, OtherSet}
use Rattle.meter_frames.specs.declared.Frame.{Frame}
use Rattle.meter_apart.specs.declared.answers.FrameRefusal.{FrameRefusal}
use Rattle.meter_apart.specs.declared.answers.FrameRefusal.TheVariants as unanswered
use Rattle.meter_apart.specs.declared.answers.Noted.{Noted}
use Rattle.meter_apart.specs.declared.answers.Noted.TheVariants.{Read, Kept}
use Rattle.meter_apart.specs.declared.answers.ReadingRefusal.{ReadingRefusal}
use Rattle.meter_apart.specs.declared.answers.ReadingRefusal.TheVariants as unread
use Rattle.meter_apart.specs.declared.keys.MeterKeys.{MeterKeys}
use Rattle.meter_apart.specs.declared.meter.MeterApart.{MeterApart}
use Rattle.meter_apart.specs.declared.part.Part.{Part}
use Rattle.meter_apart.specs.Journal.{marked, kept}
use Rattle.meter_apart.specs.Keys.{part_of, words_of}
use Rattle.meter_apart.specs.Meter.{IsAfter, SaysReading, SaysAnswer, meter_keys, meter_masks, meter_part}
use Rattle.meter_apart.specs.Parts.{is_to_me, takes_part}
use Rattle.meter_apart.specs.Replies.{reading_frame, standing, said_after, to_reading, is_first, after_reading, refusal_by, refusal_of, heard_by, heard, said_to, to_frame, is_answer, after_set, after_frame}
use Rattle.meter_apart.proofs.JournalLemmas.{marked-read_same, kept-kept_same, marked-kept}
use Rattle.apart_lines.specs.declared.heard.ToMeter.{ToMeter}
use Rattle.apart_lines.specs.declared.heard.ToMeter.TheVariants as hears
use Rattle.apart_lines.specs.declared.said.MeterSays.{MeterSays}
use Rattle.apart_lines.specs.declared.said.MeterSays.TheVariants.{Unread}
use Rattle.apart_lines.specs.Said.{meter_text}
use Rattle.desk_outside.specs.Wire.{WireView, after_steps}
use Rattle.apart_roles.specs.declared.outcome.RoleError.{RoleError}
use Rattle.apart_roles.specs.Steps.{Does, Stops, said_steps}
use Rattle.apart_roles.specs.MeterTurns.{Answers, IsNoted, IsPrepared, by_frame, by_reading, noted_frame, noted_line, noted_to, said_to as said_now, steps_noted, steps_said, turn_steps, with_noted}
use Rattle.apart_roles.proofs.StepLemmas.{done_behind, stops_behind, stops_first}

-- ---- readings

-- what stands against a reading, by what is found of its round and size
abbrev pub stands : Bool → Bool → Option ℕ → Result (Option ℕ) ReadingRefusal
stands takes small before = if takes then if small then Ok before else Err unread.Range else Err unread.Round

-- the journal with a reading, where it is the first
abbrev pub with_reading : List Noted → ℕ → ℕ → Result (Option ℕ) ReadingRefusal → List Noted
with_reading j r x found = with_noted j (if is_first found then Some (Read r x) else None)

read_same : (part : Part) (m : Masks) (j : List Noted) (r x : ℕ) (takes small : Bool) (before : Option ℕ) → marked j r ≡ before
    → said_after part m (stands takes small (marked (with_reading j r x (stands takes small before)) r)) r x ≡ said_after part m (stands takes small before) r x
read_same part m j r x true true None is =
    ap (λ k. said_after part m (Ok k) r x) (marked-read_same j r x is) ∙ ap (λ b. if b then Ok (reading_frame part m r x) else Err unread.Twice) (eq-eqb x x refl)
read_same part m j r x true true (Some before) is = ap (λ k. said_after part m (Ok k) r x) is
read_same part m j r x true false before is = refl
read_same part m j r x false small before is = refl

-- the reading that is noted is said as before
pub read_again : (part : Part) (m : Masks) (j : List Noted) (r x : ℕ) → to_reading part m (with_noted j (noted_line part j (Read r x))) r x ≡ to_reading part m j r x
read_again part m j r x = read_same part m j r x (takes_part part r) (nat_lt x (2 ^ 40)) (marked j r) refl

not_first : (j : List Noted) (r x : ℕ) (takes small : Bool) (before : Option ℕ) → marked j r ≡ before
    → is_first (stands takes small (marked (with_reading j r x (stands takes small before)) r)) ≡ false
not_first j r x true true None is = ap (λ k. is_first (Ok k)) (marked-read_same j r x is)
not_first j r x true true (Some before) is = ap (λ k. is_first (Ok k)) is
not_first j r x true false before is = refl
not_first j r x false small before is = refl

-- nothing more is noted of it
pub read_noted : (part : Part) (j : List Noted) (r x : ℕ)
    → after_reading part (with_noted j (noted_line part j (Read r x))) r x ≡ with_noted j (noted_line part j (Read r x))
read_noted part j r x = ap (λ b. if b then with_noted j (noted_line part j (Read r x)) ++ Read r x ∷ [] else with_noted j (noted_line part j (Read r x)))
    (not_first j r x (takes_part part r) (nat_lt x (2 ^ 40)) (marked j r) refl)

-- ---- sets

abbrev pub with_set : List Noted → ℕ → List ℕ → Heard → List Noted
with_set j r set said = with_noted j (if is_answer said then Some (Kept r set) else None)

-- what is heard of a set that is not refused, after it was noted: the same frame is said, and nothing more is noted
pub record IsHeardAgain (part : Part) (m : Masks) (r : ℕ) (set : List ℕ) (now before : Heard) : Type 0 where
  pub says : said_to part m now r set ≡ said_to part m before r set
  pub notes : is_answer now ≡ false

heard_more : (part : Part) (m : Masks) (j : List Noted) (r : ℕ) (set : List ℕ) (refused : Option Why) (before : Option (List ℕ)) → kept j r ≡ before
    → IsHeardAgain part m r set (heard_by refused (kept (with_set j r set (heard_by refused before set)) r) set) (heard_by refused before set)
heard_more part m j r set (Some why) before is = record { says = refl; notes = refl }
heard_more part m j r set None None is =
    let now : heard_by None (kept (j ++ Kept r set ∷ []) r) set ≡ AnswerAgain
    = ap (λ k. heard_by None k set) (kept-kept_same j r set is) ∙ ap (λ b. if b then AnswerAgain else Refused (OtherSet set)) ((bytes_eq-Decides set set).1 refl) in
    record { says = ap (λ h. said_to part m h r set) now; notes = ap is_answer now }
heard_more part m j r set None (Some before) is = by (bytes_eq before set) refl
  where
    by : (b : Bool) → bytes_eq before set ≡ b
        → IsHeardAgain part m r set (heard_by None (kept (with_set j r set (if b then AnswerAgain else Refused (OtherSet before))) r) set) (if b then AnswerAgain else Refused (OtherSet before))
    by true same =
        let now : heard_by None (kept j r) set ≡ AnswerAgain
        = ap (λ k. heard_by None k set) is ∙ ap (λ b. if b then AnswerAgain else Refused (OtherSet before)) same in
        record { says = ap (λ h. said_to part m h r set) now; notes = ap is_answer now }
    by false other =
        let now : heard_by None (kept j r) set ≡ Refused (OtherSet before)
        = ap (λ k. heard_by None k set) is ∙ ap (λ b. if b then AnswerAgain else Refused (OtherSet before)) other in
        record { says = ap (λ h. said_to part m h r set) now; notes = ap is_answer now }

marked_same : (j : List Noted) (r : ℕ) (set : List ℕ) (b : Bool) → marked (with_noted j (if b then Some (Kept r set) else None)) r ≡ marked j r
marked_same j r set true = marked-kept j r set r
marked_same j r set false = refl

set_again : (part : Part) (m : Masks) (j : List Noted) (r : ℕ) (set : List ℕ)
    → IsHeardAgain part m r set (heard part (with_noted j (noted_line part j (Kept r set))) r set) (heard part j r set)
set_again part m j r set =
    let after = with_noted j (noted_line part j (Kept r set)) in
    let same : refusal_of part after r set ≡ refusal_of part j r set
    = ap (λ k. if nat_lt r part.home.rounds then refusal_by part k r set else Some OutOfPlan) (marked_same j r set (is_answer (heard part j r set))) in
    subst (λ o. IsHeardAgain part m r set (heard_by o (kept after r) set) (heard part j r set)) (sym same) (heard_more part m j r set (refusal_of part j r set) (kept j r) refl)

-- the set that is noted is answered as before
pub frame_again : (part : Part) (m : Masks) (j : List Noted) (f : Frame) → to_frame part m (with_noted j (noted_frame part j f)) f ≡ to_frame part m j f
frame_again part m j f = by (is_to_me part f.tag)
  where
    by : (b : Bool)
        → (if b then said_to part m (heard part (with_noted j (if b then noted_line part j (Kept f.tag.round f.missing) else None)) f.tag.round f.missing) f.tag.round f.missing else Err unanswered.Tag)
        ≡ (if b then said_to part m (heard part j f.tag.round f.missing) f.tag.round f.missing else Err unanswered.Tag)
    by true = (set_again part m j f.tag.round f.missing).says
    by false = refl

-- nothing more is noted of it
pub frame_noted : (part : Part) (m : Masks) (j : List Noted) (f : Frame) → after_frame part (with_noted j (noted_frame part j f)) f ≡ with_noted j (noted_frame part j f)
frame_noted part m j f = by (is_to_me part f.tag)
  where
    after : Bool → List Noted
    after b = with_noted j (if b then noted_line part j (Kept f.tag.round f.missing) else None)

    by : (b : Bool) → (if b then after_set part (after b) f.tag.round f.missing else after b) ≡ after b
    by true = ap (λ c. if c then after true ++ Kept f.tag.round f.missing ∷ [] else after true) (set_again part m j f.tag.round f.missing).notes
    by false = refl

-- ---- what is to be said

pub reading_prepared : (old mid new : MeterApart) (j : List Noted) (r x : ℕ) (said : Result Frame ReadingRefusal) (v w : WireView) → meter_keys mid ≡ meter_keys old
    → IsNoted (noted_line (meter_part old) j (Read r x)) j v w mid → SaysReading mid (with_noted j (noted_line (meter_part old) j (Read r x))) r x said new
    → IsPrepared (noted_line (meter_part old) j (Read r x)) (by_reading (to_reading (meter_part old) (meter_masks old) j r x)) j v w (by_reading said) new
reading_prepared old mid new j r x said v w keys noted says =
    let now = with_noted j (noted_line (meter_part old) j (Read r x)) in
    record {
      says_is = ap by_reading (says.said_is ∙ ap (λ (k : MeterKeys). to_reading (part_of k) (words_of k) now r x) keys ∙ read_again (meter_part old) (meter_masks old) j r x);
      steps = noted.steps;
      after = subst (λ l. IsAfter l new) (ap (λ (k : MeterKeys). after_reading (part_of k) now r x) keys ∙ read_noted (meter_part old) j r x) says.after;
    }

pub frame_prepared : (old mid new : MeterApart) (j : List Noted) (f : Frame) (said : Result Frame FrameRefusal) (v w : WireView) → meter_keys mid ≡ meter_keys old
    → IsNoted (noted_frame (meter_part old) j f) j v w mid → SaysAnswer mid (with_noted j (noted_frame (meter_part old) j f)) f said new
    → IsPrepared (noted_frame (meter_part old) j f) (by_frame (to_frame (meter_part old) (meter_masks old) j f)) j v w (by_frame said) new
frame_prepared old mid new j f said v w keys noted says =
    let now = with_noted j (noted_frame (meter_part old) j f) in
    record {
      says_is = ap by_frame (says.said_is ∙ ap (λ (k : MeterKeys). to_frame (part_of k) (words_of k) now f) keys ∙ frame_again (meter_part old) (meter_masks old) j f);
      steps = noted.steps;
      after = subst (λ l. IsAfter l new) (ap (λ (k : MeterKeys). after_frame (part_of k) now f) keys ∙ frame_noted (meter_part old) (meter_masks old) j f) says.after;
    }

-- ---- answers

-- what is to be said is said
pub answered : (old mid : MeterApart) (j : List Noted) (heard : ToMeter) (due says : MeterSays) (v u w : WireView) (result : Result (Unit {0}) RoleError)
    → said_now (meter_part old) (meter_masks old) j heard ≡ Some due → IsPrepared (noted_to (meter_part old) j heard) due j v u says mid
    → Does (said_steps (meter_text says)) u w result → Answers old j heard v w result mid
answered old mid j heard due says v u w result due_is prepared does = by result does
  where
    all : steps_noted (noted_to (meter_part old) j heard) ++ said_steps (meter_text says) ≡ turn_steps (meter_part old) (meter_masks old) j heard
    all = ap (λ o. steps_noted (noted_to (meter_part old) j heard) ++ steps_said o) (ap Some prepared.says_is ∙ sym due_is)

    by : (result : Result (Unit {0}) RoleError) → Does (said_steps (meter_text says)) u w result → Answers old j heard v w result mid
    by (Ok done) does = record {
      steps = done_behind v u w (steps_noted (noted_to (meter_part old) j heard)) (said_steps (meter_text says)) prepared.steps does ∙ ap (after_steps v) all;
      after = prepared.after;
    }
    by (Err error) does =
        subst (λ steps. Stops error steps v w) all (stops_behind error (steps_noted (noted_to (meter_part old) j heard)) (said_steps (meter_text says)) v u w prepared.steps does)

-- what is to be noted is not
pub unprepared : (old new : MeterApart) (j : List Noted) (heard : ToMeter) (v w : WireView) (error : RoleError) → Stops error (steps_noted (noted_to (meter_part old) j heard)) v w
    → Answers old j heard v w (Err error) new
unprepared old new j heard v w error stops =
    stops_first error (steps_noted (noted_to (meter_part old) j heard)) (steps_said (said_now (meter_part old) (meter_masks old) j heard)) v w stops

-- what is said at once
pub said_at_once : (old : MeterApart) (j : List Noted) (heard : ToMeter) (due : MeterSays) (v w : WireView) (result : Result (Unit {0}) RoleError) → IsAfter j old
    → said_now (meter_part old) (meter_masks old) j heard ≡ Some due → noted_to (meter_part old) j heard ≡ None → Does (said_steps (meter_text due)) v w result → Answers old j heard v w result old
said_at_once old j heard due v w result after due_is none does =
    answered old old j heard due due v v w result due_is
    (subst (λ o. IsPrepared o due j v v due old) (sym none) (record { says_is = refl; steps = refl; after = after })) does

-- a round that the plan lacks
no_part : (part : Part) (r : ℕ) → part.home.rounds ≤ r → takes_part part r ≡ false
no_part part r le = ap (λ b. b && is_member part.home.groups 0 r part.meter) (le-ltb r part.home.rounds le)

pub no_round : (old : MeterApart) (j : List Noted) (r x : ℕ) (v w : WireView) (result : Result (Unit {0}) RoleError) → IsAfter j old → (meter_part old).home.rounds ≤ r
    → Does (said_steps (meter_text (Unread unread.Round))) v w result → Answers old j (hears.Reading r x) v w result old
no_round old j r x v w result after le does =
    let found : standing (meter_part old) (marked j r) r x ≡ Err unread.Round
    = ap (λ b. stands b (nat_lt x (2 ^ 40)) (marked j r)) (no_part (meter_part old) r le) in
    said_at_once old j (hears.Reading r x) (Unread unread.Round) v w result after
    (ap (λ s. Some (by_reading (said_after (meter_part old) (meter_masks old) s r x))) found)
    (ap (λ s. if is_first s then Some (Read r x) else None) found) does
