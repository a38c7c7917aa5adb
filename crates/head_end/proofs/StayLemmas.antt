-- The lines of a tick that has passed stay: a line that can follow is no frame that they tell of.
use Rattle.std.proofs.Common.{◌≡◌, ℕ, ◌+◌, ◌-◌, ◌<◌, ◌≤◌, Bool, true, false, not, ◌&&◌, List, [], ◌∷◌, ◌++◌, length, map, refl, sym, ap, ◌∙◌, arith, append_assoc, append-nil}
use Rattle.std.specs.Prelude.{◌==◌, nat_lt, nat_le, if◌then◌else◌, filter, Option, Some, None, is_some}
use Rattle.std.specs.List.{flat_map, range_with_len}
use mathlib.Core.Path.{fun_ext}
use Rattle.std.proofs.Math.Bool.{and-false}
use Rattle.std.proofs.lemmas.Bool.{false≢true, and_parts, lt-ltb, leb-true, ne_eqb}
use Rattle.missing_round.specs.Words.{frame_total}
use Rattle.group_plan.specs.declared.Kind.{Kind}
use Rattle.group_plan.specs.declared.Kind.TheVariants.{Reading, Announcement, Answer}
use Rattle.group_plan.specs.Plans.{PlanView, members, floor_of}
use Rattle.meter_frames.specs.declared.Frame.{Frame}
use Rattle.round_machine.specs.declared.Ending.{Ending}
use Rattle.round_machine.specs.declared.Ending.TheVariants as endings
use Rattle.event_schedule.specs.Events.{same_kind, is_tag}
use Rattle.run_rows.specs.Report.{OpenRow}
use Rattle.totals_report.specs.Reports.{report_row}
use Rattle.head_end.specs.declared.answers.Logged.{Logged}
use Rattle.head_end.specs.declared.answers.Logged.TheVariants.{Took, Passed}
use Rattle.head_end.specs.declared.answers.TickLine.{TickLine}
use Rattle.head_end.specs.declared.answers.TickLine.TheVariants as said
use Rattle.head_end.specs.declared.answers.Refusal.{Refusal}
use Rattle.head_end.specs.declared.answers.Reply.{Reply}
use Rattle.head_end.specs.declared.answers.Reply.TheVariants.{Fresh, Again, Differs, Late, Void}
use Rattle.head_end.specs.Journal.{passed, is_closed, is_ended, is_frame, is_taken, word_taken}
use Rattle.head_end.specs.Replies.{repeated_by, is_asked, refusal_by, verdict_by, reply_by, reply, is_fresh, can_follow, first_wrong}
use Rattle.head_end.specs.Lines.{row_of, announcement, lacking_by, lacking_lines, end_lines, close_lines, by_groups, ended_in, closed_in, tick_lines}
use Rattle.head_end.specs.Statements.{LinesStay}
use Rattle.head_end.proofs.JournalLemmas.{is_taken-same, word_taken-same, passed-took, passed-passed}

-- ---- what a fresh frame is not

stale : (a b : ℕ) → is_fresh (repeated_by a b) ≡ false
stale a b = by (a == b)
  where
    by : (c : Bool) → is_fresh (if c then Again else Differs) ≡ false
    by true = refl
    by false = refl

unrefused : (o : Option Refusal) (r : Reply) → is_fresh r ≡ false → is_fresh (reply_by o r) ≡ false
unrefused (Some why) r is = refl
unrefused None r is = is

late_reading : (taken : Bool) (a b : ℕ) → is_fresh (if taken then repeated_by a b else Late) ≡ false
late_reading true a b = stale a b
late_reading false a b = refl

late_answer : (asked taken : Bool) (a b : ℕ) → is_fresh (if not asked then Void else if taken then repeated_by a b else Late) ≡ false
late_answer false taken a b = refl
late_answer true taken a b = late_reading taken a b

-- a fresh reading's round is open
fresh_reading : (plan : PlanView) (j : List Logged) (f : Frame) → f.tag.kind ≡ Reading → is_fresh (reply plan j f) ≡ true → is_closed plan j f.tag.round ≡ false
fresh_reading plan j f kind fresh = by (is_closed plan j f.tag.round) refl
  where
    word : ℕ
    word = word_taken f.tag.group f.tag.round f.tag.kind j f.tag.meter

    taken : Bool
    taken = is_taken f.tag.group f.tag.round Reading j f.tag.meter

    here : is_fresh (reply_by (refusal_by Reading plan j f) (if taken then repeated_by word f.word else if is_closed plan j f.tag.round then Late else Fresh)) ≡ true
    here = ap (λ k. is_fresh (reply_by (refusal_by k plan j f) (verdict_by k plan j f))) (sym kind) ∙ fresh

    by : (b : Bool) → is_closed plan j f.tag.round ≡ b → is_closed plan j f.tag.round ≡ false
    by true is =
        absurd (false≢true (sym (unrefused (refusal_by Reading plan j f) (if taken then repeated_by word f.word else Late) (late_reading taken word f.word))
        ∙ ap (λ b. is_fresh (reply_by (refusal_by Reading plan j f) (if taken then repeated_by word f.word else if b then Late else Fresh))) (sym is) ∙ here))
    by false is = is

-- a fresh answer's round has not ended
fresh_answer : (plan : PlanView) (j : List Logged) (f : Frame) → f.tag.kind ≡ Answer → is_fresh (reply plan j f) ≡ true → is_ended plan j f.tag.round ≡ false
fresh_answer plan j f kind fresh = by (is_ended plan j f.tag.round) refl
  where
    word : ℕ
    word = word_taken f.tag.group f.tag.round f.tag.kind j f.tag.meter

    taken : Bool
    taken = is_taken f.tag.group f.tag.round Answer j f.tag.meter

    asked : Bool
    asked = is_asked plan j f.tag

    here : is_fresh (reply_by (refusal_by Answer plan j f) (if not asked then Void else if taken then repeated_by word f.word else if is_ended plan j f.tag.round then Late else Fresh)) ≡ true
    here = ap (λ k. is_fresh (reply_by (refusal_by k plan j f) (verdict_by k plan j f))) (sym kind) ∙ fresh

    by : (b : Bool) → is_ended plan j f.tag.round ≡ b → is_ended plan j f.tag.round ≡ false
    by true is =
        absurd (false≢true (sym (unrefused (refusal_by Answer plan j f) (if not asked then Void else if taken then repeated_by word f.word else Late) (late_answer asked taken word f.word))
        ∙ ap (λ b. is_fresh (reply_by (refusal_by Answer plan j f) (if not asked then Void else if taken then repeated_by word f.word else if b then Late else Fresh))) (sym is) ∙ here))
    by false is = is

-- ---- no frame of a round that is over

kind_other : (f : Frame) (g r i : ℕ) (k : Kind) → same_kind f.tag.kind k ≡ false → is_tag g r i k f.tag ≡ false
kind_other f g r i k other =
    ap (λ b. ((f.tag.group == g) && (f.tag.round == r) && (f.tag.meter == i)) && b) other ∙ and-false ((f.tag.group == g) && (f.tag.round == r) && (f.tag.meter == i))

round_other : (f : Frame) (g r i : ℕ) (k : Kind) → (f.tag.round ≡ r → ⊥) → is_tag g r i k f.tag ≡ false
round_other f g r i k other =
    ap (λ b. ((f.tag.group == g) && b) && (f.tag.meter == i) && same_kind f.tag.kind k) (ne_eqb f.tag.round r other)
    ∙ ap (λ b. b && (f.tag.meter == i) && same_kind f.tag.kind k) (and-false (f.tag.group == g))

no_reading : (plan : PlanView) (j : List Logged) (l : Logged) (g r : ℕ) → can_follow plan j l ≡ true → r + plan.w1 < passed j → (i : ℕ) → is_frame g r Reading i l ≡ false
no_reading plan j Passed g r can over i = refl
no_reading plan j (Took f) g r can over i = by (f.tag.kind) refl
  where
    by : (k : Kind) → f.tag.kind ≡ k → is_tag g r i Reading f.tag ≡ false
    by Reading is =
        round_other f g r i Reading (λ same. false≢true (sym (fresh_reading plan j f is can) ∙ ap (is_closed plan j) same ∙ lt-ltb (r + plan.w1) (passed j) over))
    by Announcement is = kind_other f g r i Reading (ap (λ k. same_kind k Reading) is)
    by Answer is = kind_other f g r i Reading (ap (λ k. same_kind k Reading) is)

no_answer : (plan : PlanView) (j : List Logged) (l : Logged) (g r : ℕ) → can_follow plan j l ≡ true → r + plan.w1 + plan.w2 < passed j → (i : ℕ) → is_frame g r Answer i l ≡ false
no_answer plan j Passed g r can over i = refl
no_answer plan j (Took f) g r can over i = by (f.tag.kind) refl
  where
    by : (k : Kind) → f.tag.kind ≡ k → is_tag g r i Answer f.tag ≡ false
    by Answer is =
        round_other f g r i Answer (λ same. false≢true (sym (fresh_answer plan j f is can) ∙ ap (is_ended plan j) same ∙ lt-ltb (r + plan.w1 + plan.w2) (passed j) over))
    by Announcement is = kind_other f g r i Answer (ap (λ k. same_kind k Answer) is)
    by Reading is = kind_other f g r i Answer (ap (λ k. same_kind k Answer) is)

-- ---- what is over stays over

still_passed : (j : List Logged) (l : Logged) (n : ℕ) → n < passed j → n < passed (j ++ l ∷ [])
still_passed j (Took f) n lt = omega (arith, lt, passed-took j f)
still_passed j Passed n lt = omega (arith, lt, passed-passed j)

still : (j : List Logged) (l : Logged) (n : ℕ) → n < passed j → nat_lt n (passed (j ++ l ∷ [])) ≡ nat_lt n (passed j)
still j l n lt = lt-ltb n (passed (j ++ l ∷ [])) (still_passed j l n lt) ∙ sym (lt-ltb n (passed j) lt)

-- ---- the lines of a round, by what its journal says

abbrev announced_by : PlanView → ℕ → ℕ → (ℕ → Bool) → Bool → Bool
announced_by plan g r taken closed = closed && nat_le (floor_of plan.groups g) (length (filter taken (members plan.groups g r)))

abbrev close_by : PlanView → ℕ → ℕ → (ℕ → Bool) → Bool → List TickLine
close_by plan g r taken closed =
    said.Closed g r (length (filter taken (members plan.groups g r))) (filter (λ i. not (taken i)) (members plan.groups g r)) (announced_by plan g r taken closed)
    ∷ (if announced_by plan g r taken closed then map (announcement g r (filter (λ i. not (taken i)) (members plan.groups g r))) (filter taken (members plan.groups g r)) else [])

abbrev ending_by : PlanView → ℕ → ℕ → (ℕ → Bool) → (ℕ → Bool) → (ℕ → ℕ) → (ℕ → ℕ) → Bool → Ending
ending_by plan g r taken answered readings answers closed =
    if not closed then endings.NotClosed else
    if not (announced_by plan g r taken closed) then endings.Thin else
    if length (filter (λ i. not (answered i)) (filter taken (members plan.groups g r))) == 0 then endings.Total (frame_total readings answers (filter taken (members plan.groups g r))) else
    endings.Lacking (filter (λ i. not (answered i)) (filter taken (members plan.groups g r)))

abbrev end_by : PlanView → ℕ → ℕ → (ℕ → Bool) → (ℕ → Bool) → (ℕ → ℕ) → (ℕ → ℕ) → Bool → Bool → List TickLine
end_by plan g r taken answered readings answers closed ended =
    lacking_lines g r (lacking_by (ending_by plan g r taken answered readings answers closed))
    ++ said.Row (report_row plan g r
    (if ended then row_of (filter taken (members plan.groups g r)) (ending_by plan g r taken answered readings answers closed) else OpenRow (filter taken (members plan.groups g r)))) ∷ []

close_stays : (plan : PlanView) (j : List Logged) (l : Logged) (g r : ℕ) → can_follow plan j l ≡ true → r + plan.w1 < passed j → close_lines plan (j ++ l ∷ []) r g ≡ close_lines plan j r g
close_stays plan j l g r can over =
    let taken : is_taken g r Reading (j ++ l ∷ []) ≡ is_taken g r Reading j = is_taken-same g r Reading j l (no_reading plan j l g r can over) in
    let closed : is_closed plan (j ++ l ∷ []) r ≡ is_closed plan j r = still j l (r + plan.w1) over in
    ap (λ t. close_by plan g r t (is_closed plan (j ++ l ∷ []) r)) taken ∙ ap (close_by plan g r (is_taken g r Reading j)) closed

end_stays : (plan : PlanView) (j : List Logged) (l : Logged) (g r : ℕ) → can_follow plan j l ≡ true → r + plan.w1 + plan.w2 < passed j → end_lines plan (j ++ l ∷ []) r g ≡ end_lines plan j r g
end_stays plan j l g r can over =
    let before : r + plan.w1 < passed j = omega (arith, over) in
    let none = no_reading plan j l g r can before in
    let nobody = no_answer plan j l g r can over in
    let taken : is_taken g r Reading (j ++ l ∷ []) ≡ is_taken g r Reading j = is_taken-same g r Reading j l none in
    let answered : is_taken g r Answer (j ++ l ∷ []) ≡ is_taken g r Answer j = is_taken-same g r Answer j l nobody in
    let readings : word_taken g r Reading (j ++ l ∷ []) ≡ word_taken g r Reading j = word_taken-same g r Reading j l none in
    let answers : word_taken g r Answer (j ++ l ∷ []) ≡ word_taken g r Answer j = word_taken-same g r Answer j l nobody in
    let closed : is_closed plan (j ++ l ∷ []) r ≡ is_closed plan j r = still j l (r + plan.w1) before in
    let ended : is_ended plan (j ++ l ∷ []) r ≡ is_ended plan j r = still j l (r + plan.w1 + plan.w2) over in
    λ k. end_by plan g r (taken k) (answered k) (readings k) (answers k) (closed k) (ended k)

-- ---- the lines of a tick

-- the lines of the round that began so many ticks before are the same where those of each group are
by_groups-same : (plan : PlanView) (old new : ℕ → ℕ → List TickLine) (ago t : ℕ) → ((r g : ℕ) → r + ago ≡ t → new r g ≡ old r g)
    → by_groups plan new (if nat_le ago t && nat_lt (t - ago) plan.rounds then Some (t - ago) else None)
    ≡ by_groups plan old (if nat_le ago t && nat_lt (t - ago) plan.rounds then Some (t - ago) else None)
by_groups-same plan old new ago t same = by (nat_le ago t && nat_lt (t - ago) plan.rounds) refl
  where
    by : (b : Bool) → (nat_le ago t && nat_lt (t - ago) plan.rounds) ≡ b → by_groups plan new (if b then Some (t - ago) else None) ≡ by_groups plan old (if b then Some (t - ago) else None)
    by true is =
        let le : ago ≤ t = leb-true ago t (and_parts (nat_le ago t) (nat_lt (t - ago) plan.rounds) is).0 in
        ap (λ f. flat_map f (range_with_len 0 (length plan.groups))) (fun_ext (λ g. same (t - ago) g (omega (arith, le))))
    by false is = refl

one_stays : (plan : PlanView) (j : List Logged) (l : Logged) (t : ℕ) → can_follow plan j l ≡ true → t < passed j → tick_lines plan (j ++ l ∷ []) t ≡ tick_lines plan j t
one_stays plan j l t can over =
    let ends : ended_in plan (j ++ l ∷ []) t ≡ ended_in plan j t
    = by_groups-same plan (end_lines plan j) (end_lines plan (j ++ l ∷ [])) (plan.w1 + plan.w2) t (λ r g is. end_stays plan j l g r can (omega (arith, is, over))) in
    let closes : closed_in plan (j ++ l ∷ []) t ≡ closed_in plan j t
    = by_groups-same plan (close_lines plan j) (close_lines plan (j ++ l ∷ [])) plan.w1 t (λ r g is. close_stays plan j l g r can (omega (arith, is, over))) in
    λ k. ends k ++ closes k

-- ---- any lines that can follow

followed : (b : Bool) (n : ℕ) (o : Option ℕ) → (if b then o else Some n) ≡ None → (b ≡ true) × (o ≡ None)
followed true n o none = (refl, none)
followed false n o none = absurd (false≢true (sym (ap is_some none)))

pub lines_stay : LinesStay
unfolding first_wrong
lines_stay plan j [] t right over = ap (λ x. tick_lines plan x t) (append-nil j)
lines_stay plan j (l ∷ rest) t right over =
    let both = followed (can_follow plan j l) (length j) (first_wrong plan (j ++ l ∷ []) rest) right in
    ap (λ x. tick_lines plan x t) (sym (append_assoc j (l ∷ []) rest)) ∙ lines_stay plan (j ++ l ∷ []) rest t both.1 (still_passed j l t over) ∙ one_stays plan j l t both.0 over
