-- What is said, and how it is heard.
use Rattle.std.proofs.Common.{◌≡◌, ◌∙◌, ◌<◌, ℕ, zero, suc, true, false, List, [], ◌∷◌, ◌++◌, map, length, refl, sym, ap, arith, decimal, append_assoc}
use Rattle.std.specs.Prelude.{codes, slice_get, Option, Some, None, Ok}
use Rattle.std.specs.Str.{bytes_eq}
use Rattle.group_plan.specs.Plans.{Group, PlanView, name_of}
use Rattle.group_plan.specs.NewPlans.{stated}
use Rattle.group_plan.specs.declared.plan.GroupPlan.{GroupPlan}
use Rattle.meter_frames.specs.declared.Frame.{Frame}
use Rattle.meter_frames.specs.Frames.{IsFrame, spelling}
use Rattle.field_texts.specs.Parts.{parts}
use Rattle.field_texts.specs.Sets.{numbers_text}
use Rattle.field_texts.proofs.Cutting.{parts_some}
use Rattle.field_texts.proofs.TextLaws.{clean, parts_at, parts_joined}
use Rattle.transcript_text.specs.Spelling.{joined}
use Rattle.totals_report.specs.declared.row.ReportRow.{ReportRow}
use Rattle.totals_report.specs.Texts.{fields_of, outcome_word, total_text, row_line}
use Rattle.head_end.specs.declared.answers.Reply.TheVariants.{Fresh, Again, Differs, Late, Void, Refused}
use Rattle.head_end.specs.declared.answers.TickLine.{TickLine}
use Rattle.head_end.specs.declared.answers.TickLine.TheVariants.{Lacking, Row, Closed, Announce}
use Rattle.apart_lines.specs.declared.said.HeadEndSays.{HeadEndSays}
use Rattle.apart_lines.specs.declared.said.HeadEndSays.TheVariants as head
use Rattle.apart_lines.specs.declared.said.MeterSays.{MeterSays}
use Rattle.apart_lines.specs.declared.said.MeterSays.TheVariants as meter
use Rattle.apart_lines.specs.declared.heard.ToHeadEnd.TheVariants as to_head
use Rattle.apart_lines.specs.declared.heard.ToMeter.TheVariants as to_meters
use Rattle.apart_lines.specs.Frames.{digits_of}
use Rattle.apart_lines.specs.Heard.{is_answer, to_head_end_by, to_head_end, frame_to_head_end, to_meter_by, to_meter, frame_to_meter}
use Rattle.apart_lines.specs.Said.{refusal_name, refused_fields, head_end_text, HasSpelling, head_end_to_meter, meter_text, meter_to_head_end, unread_name, unanswered_name, broken_name, tick_line_fields, closing_word}
use Rattle.apart_lines.proofs.FrameLemmas.{digits_again, clean_digits}

-- ---- names and rows

abbrev name_in : Option GroupPlan → List ℕ
name_in None = []
name_in (Some g) = g.name

names_stated : (groups : List Group) (g : ℕ) → name_in (slice_get (map stated groups) g) ≡ name_of groups g
names_stated [] g = refl
names_stated (x ∷ groups) zero = refl
names_stated (x ∷ groups) (suc g) = names_stated groups g

pub name_found : (groups : List Group) (found : List GroupPlan) (g : ℕ) (group : GroupPlan) → found ≡ map stated groups → slice_get found g ≡ Some group → group.name ≡ name_of groups g
name_found groups found g group is at = ap name_in (sym at) ∙ ap (λ gs. name_in (slice_get gs g)) is ∙ names_stated groups g

pub name_lacking : (groups : List Group) (found : List GroupPlan) (g : ℕ) → found ≡ map stated groups → slice_get found g ≡ None → name_of groups g ≡ []
name_lacking groups found g is at = sym (names_stated groups g) ∙ ap (λ gs. name_in (slice_get gs g)) (sym is) ∙ ap name_in at

pub row_text : (row : ReportRow) (before middle after text : List ℕ) → text ≡ row_line row → middle ≡ before ++ codes "row," → after ≡ middle ++ text → after ≡ before ++ joined (codes "row" ∷ fields_of row)
unfolding row_line
row_text row before middle after text is first last = last ∙ ap (λ t. middle ++ t) is ∙ ap (λ m. m ++ row_line row) first ∙ append_assoc before (codes "row,") (row_line row)

-- ---- answers are passed over

head_end_passes : (word : List ℕ) (fields : List (List ℕ)) → 0 < length fields → bytes_eq word (codes "frame") ≡ false → bytes_eq word (codes "tick") ≡ false → is_answer word ≡ true
    → to_head_end_by (word ∷ fields) ≡ to_head.Nothing
head_end_passes word [] some frame tick answer = absurd (omega (arith, some))
head_end_passes word (x ∷ []) some frame tick answer = rw (frame, tick, answer) refl
head_end_passes word (x ∷ y ∷ rest) some frame tick answer = rw answer refl

meter_passes : (word : List ℕ) (fields : List (List ℕ)) → 0 < length fields → bytes_eq word (codes "frame") ≡ false → bytes_eq word (codes "reading") ≡ false → is_answer word ≡ true
    → to_meter_by (word ∷ fields) ≡ to_meters.Nothing
meter_passes word [] some frame reading answer = absurd (omega (arith, some))
meter_passes word (x ∷ []) some frame reading answer = rw (frame, answer) refl
meter_passes word (x ∷ y ∷ []) some frame reading answer = rw (reading, answer) refl
meter_passes word (x ∷ y ∷ z ∷ rest) some frame reading answer = rw answer refl

-- a line of several fields, the first of which has no comma
pub passed_by_head_end : (word field : List ℕ) (fields : List (List ℕ)) → clean 44 word ≡ true → bytes_eq word (codes "frame") ≡ false → bytes_eq word (codes "tick") ≡ false → is_answer word ≡ true
    → to_head_end (joined (word ∷ field ∷ fields)) ≡ to_head.Nothing
unfolding to_head_end
passed_by_head_end word field fields is frame tick answer =
    ap to_head_end_by (parts_at 44 word (joined (field ∷ fields)) is)
    ∙ head_end_passes word (parts 44 (joined (field ∷ fields))) (parts_some 44 (joined (field ∷ fields))) frame tick answer

pub passed_by_meter : (word field : List ℕ) (fields : List (List ℕ)) → clean 44 word ≡ true → bytes_eq word (codes "frame") ≡ false → bytes_eq word (codes "reading") ≡ false → is_answer word ≡ true
    → to_meter (joined (word ∷ field ∷ fields)) ≡ to_meters.Nothing
unfolding to_meter
passed_by_meter word field fields is frame reading answer =
    ap to_meter_by (parts_at 44 word (joined (field ∷ fields)) is)
    ∙ meter_passes word (parts 44 (joined (field ∷ fields))) (parts_some 44 (joined (field ∷ fields))) frame reading answer

-- ---- frames are heard

frame_cut : (f : Frame) → parts 44 (joined (codes "frame" ∷ digits_of f ∷ [])) ≡ codes "frame" ∷ digits_of f ∷ []
frame_cut f = parts_joined 44 (codes "frame") (digits_of f ∷ []) (refl, (clean_digits 44 (spelling f) refl refl, tt))

frame_at_head_end : (f : Frame) → IsFrame f → to_head_end (joined (codes "frame" ∷ digits_of f ∷ [])) ≡ to_head.Frame (Ok f)
unfolding to_head_end
frame_at_head_end f is = ap to_head_end_by (frame_cut f) ∙ ap frame_to_head_end (digits_again f is)

frame_at_meter : (f : Frame) → IsFrame f → to_meter (joined (codes "frame" ∷ digits_of f ∷ [])) ≡ to_meters.Frame (Ok f)
unfolding to_meter
frame_at_meter f is = ap to_meter_by (frame_cut f) ∙ ap frame_to_meter (digits_again f is)

-- ---- the head end

refused_at_meter : (cause : List ℕ) → to_meter (joined (refused_fields cause)) ≡ to_meters.Nothing
refused_at_meter cause = passed_by_meter (codes "refused") cause [] refl refl refl refl

pub line_at_meter : (plan : PlanView) (line : TickLine) → HasSpelling line → to_meter (joined (tick_line_fields plan line)) ≡ head_end_to_meter (head.Line line)
line_at_meter plan (Lacking g r set) can = passed_by_meter (codes "lacking") (name_of plan.groups g) (decimal r ∷ numbers_text set ∷ []) refl refl refl refl
line_at_meter plan (Row row) can = passed_by_meter (codes "row") row.name (decimal row.round ∷ decimal row.survivors ∷ numbers_text row.missing ∷ outcome_word row.outcome ∷ total_text row.outcome ∷ []) refl refl refl refl
line_at_meter plan (Closed g r survivors missing announced) can =
    passed_by_meter (codes "closed") (name_of plan.groups g) (decimal r ∷ decimal survivors ∷ numbers_text missing ∷ closing_word announced ∷ []) refl refl refl refl
line_at_meter plan (Announce f) can = frame_at_meter f can

-- a line of a tick has a spelling
abbrev pub IsSpelled : HeadEndSays → Type 0
IsSpelled (head.Line line) = HasSpelling line
IsSpelled _ = Unit {0}

pub head_end_heard : (plan : PlanView) (says : HeadEndSays) → IsSpelled says → to_meter (head_end_text plan says) ≡ head_end_to_meter says
unfolding head_end_text to_meter
head_end_heard plan (head.Reply Fresh) can = refl
head_end_heard plan (head.Reply Again) can = refl
head_end_heard plan (head.Reply Differs) can = refl
head_end_heard plan (head.Reply Late) can = refl
head_end_heard plan (head.Reply Void) can = refl
head_end_heard plan (head.Reply (Refused cause)) can = refused_at_meter (refusal_name cause)
head_end_heard plan (head.Broken rule) can = refused_at_meter (broken_name rule)
head_end_heard plan head.UnknownLine can = refused_at_meter (codes "Line")
head_end_heard plan head.WrongTick can = refused_at_meter (codes "Tick")
head_end_heard plan (head.Line line) can = line_at_meter plan line can
head_end_heard plan (head.Ticked tick) can = passed_by_meter (codes "ticked") (decimal tick) [] refl refl refl refl
head_end_heard plan head.Reported can = refl
head_end_heard plan (head.Ready ticks) can = passed_by_meter (codes "ready") (decimal ticks) [] refl refl refl refl

-- ---- the meter

refused_at_head_end : (cause : List ℕ) → to_head_end (joined (refused_fields cause)) ≡ to_head.Nothing
refused_at_head_end cause = passed_by_head_end (codes "refused") cause [] refl refl refl refl

-- a frame that is said has a spelling
abbrev pub IsMeterSpelled : MeterSays → Type 0
IsMeterSpelled (meter.Said f) = IsFrame f
IsMeterSpelled _ = Unit {0}

pub meter_heard : (says : MeterSays) → IsMeterSpelled says → to_head_end (meter_text says) ≡ meter_to_head_end says
unfolding meter_text to_head_end
meter_heard (meter.Said f) can = frame_at_head_end f can
meter_heard (meter.Unread cause) can = refused_at_head_end (unread_name cause)
meter_heard (meter.Unanswered cause) can = refused_at_head_end (unanswered_name cause)
meter_heard (meter.Broken rule) can = refused_at_head_end (broken_name rule)
meter_heard meter.UnknownLine can = refused_at_head_end (codes "Line")
meter_heard meter.Ready can = refl
