-- What a head end says to a frame after a journal, and which lines can follow a journal.
use Rattle.std.specs.Prelude.{◌≡◌, ℕ, ◌==◌, nat_lt, Bool, true, false, not, ◌&&◌, if◌then◌else◌, List, [], ◌∷◌, ◌++◌, length, bytes_eq, Option, Some, None}
use Rattle.group_plan.specs.declared.Kind.{Kind}
use Rattle.group_plan.specs.declared.Kind.TheVariants.{Reading, Announcement, Answer}
use Rattle.group_plan.specs.declared.Tag.{Tag}
use Rattle.group_plan.specs.Plans.{PlanView, is_place, is_member}
use Rattle.meter_frames.specs.declared.Frame.{Frame}
use Rattle.head_end.specs.declared.answers.Logged.{Logged}
use Rattle.head_end.specs.declared.answers.Logged.TheVariants.{Took, Passed}
use Rattle.head_end.specs.declared.answers.Refusal.{Refusal}
use Rattle.head_end.specs.declared.answers.Refusal.TheVariants as refusals
use Rattle.head_end.specs.declared.answers.Reply.{Reply}
use Rattle.head_end.specs.declared.answers.Reply.TheVariants.{Fresh, Again, Differs, Late, Void, Refused}
use Rattle.head_end.specs.Journal.{passed, all_ticks, is_closed, is_ended, is_taken, word_taken, missing, is_announced}

-- whether the plan has the place of a tag, and its meter is a member of the round
abbrev pub is_known : PlanView → Tag → Bool
is_known plan tag = is_place plan tag.group tag.round tag.meter && is_member plan.groups tag.group tag.round tag.meter

-- the missing set of a round, where it is announced
abbrev pub announced_set : PlanView → List Logged → ℕ → ℕ → Option (List ℕ)
announced_set plan journal g r = if is_announced plan journal g r then Some (missing plan journal g r) else None

-- whether the round of a frame is announced with another set than the frame's
abbrev pub has_other_set : PlanView → List Logged → Frame → Bool
has_other_set plan journal f =
    is_announced plan journal f.tag.group f.tag.round && not (bytes_eq (missing plan journal f.tag.group f.tag.round) f.missing)

-- why a frame of this kind is refused, where it is
abbrev pub refusal_by : Kind → PlanView → List Logged → Frame → Option Refusal
refusal_by Announcement plan journal f = Some refusals.Announcement
refusal_by Reading plan journal f = if is_known plan f.tag then None else Some refusals.Plan
refusal_by Answer plan journal f =
    if is_known plan f.tag then (if has_other_set plan journal f then Some refusals.Set else None) else Some refusals.Plan

abbrev pub refusal : PlanView → List Logged → Frame → Option Refusal
refusal plan journal f = refusal_by f.tag.kind plan journal f

-- what is said where a frame of the place and kind was taken before, by its word and the one that came
abbrev pub repeated_by : ℕ → ℕ → Reply
repeated_by taken came = if taken == came then Again else Differs

abbrev pub repeated : List Logged → Frame → Reply
repeated journal f = repeated_by (word_taken f.tag.group f.tag.round f.tag.kind journal f.tag.meter) f.word

-- whether an answer is asked for: its round is announced, and its meter a survivor
abbrev pub is_asked : PlanView → List Logged → Tag → Bool
is_asked plan journal tag = is_announced plan journal tag.group tag.round && is_taken tag.group tag.round Reading journal tag.meter

-- what is said to a frame of this kind that isn't refused
abbrev pub verdict_by : Kind → PlanView → List Logged → Frame → Reply
verdict_by Announcement plan journal f = Void
verdict_by Reading plan journal f =
    if is_taken f.tag.group f.tag.round Reading journal f.tag.meter then repeated journal f else
    if is_closed plan journal f.tag.round then Late else Fresh
verdict_by Answer plan journal f =
    if not (is_asked plan journal f.tag) then Void else
    if is_taken f.tag.group f.tag.round Answer journal f.tag.meter then repeated journal f else
    if is_ended plan journal f.tag.round then Late else Fresh

abbrev pub reply_by : Option Refusal → Reply → Reply
reply_by (Some why) verdict = Refused why
reply_by None verdict = verdict

-- what a head end of this plan says to a frame after this journal
abbrev pub reply : PlanView → List Logged → Frame → Reply
reply plan journal f = reply_by (refusal plan journal f) (verdict_by f.tag.kind plan journal f)

-- the journal after the reply to a frame: a fresh one is its next line
abbrev pub replied : Reply → Frame → List Logged → List Logged
replied Fresh f journal = journal ++ Took f ∷ []
replied _ f journal = journal

-- whether one more tick can pass
abbrev pub can_pass : PlanView → List Logged → Bool
can_pass plan journal = nat_lt (passed journal) (all_ticks plan)

-- ---- journals

abbrev pub is_fresh : Reply → Bool
is_fresh Fresh = true
is_fresh _ = false

-- whether a line can follow a journal: its frame is fresh, or its tick can pass
abbrev pub can_follow : PlanView → List Logged → Logged → Bool
can_follow plan journal (Took f) = is_fresh (reply plan journal f)
can_follow plan journal Passed = can_pass plan journal

-- the first of these lines that can't follow those before it
unfoldable pub first_wrong : PlanView → List Logged → List Logged → Option ℕ
first_wrong plan journal [] = None
first_wrong plan journal (l ∷ rest) =
    if can_follow plan journal l then first_wrong plan (journal ++ l ∷ []) rest else Some (length journal)

-- each line of a journal can follow those before it
abbrev pub IsJournal : PlanView → List Logged → Type 0
IsJournal plan journal = first_wrong plan [] journal ≡ None
