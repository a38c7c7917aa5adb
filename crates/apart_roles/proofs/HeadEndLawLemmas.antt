-- What a head end announces is backed by its journal.
use Rattle.std.proofs.Common.{◌≡◌, ℕ, ◌+◌, ◌-◌, ◌<◌, ◌≤◌, ◌&&◌, Bool, true, false, List, [], ◌∷◌, ◌++◌, length, refl, sym, ap, ◌∙◌, subst, append_assoc, append-nil, arith, ⊎_elim}
use Rattle.std.proofs.Math.Nat.{eq-or-lt_of_le}
use Rattle.std.proofs.lemmas.Bool.{eqb-true, eqb-false, leb-true, leb-false, ltb-false, le-ltb, ne_eqb}
use Rattle.std.proofs.lemmas.Grind.{flat_map-append}
use Rattle.std.specs.Prelude.{◌==◌, Contains, nat_le, if◌then◌else◌, Option, Some, None, Ok, Err}
use Rattle.group_plan.specs.Plans.{PlanView}
use Rattle.meter_frames.specs.declared.Frame.{Frame}
use Rattle.transcript_text.specs.Spelling.{ended}
use Rattle.head_end.specs.declared.answers.Logged.{Logged}
use Rattle.head_end.specs.declared.answers.Logged.TheVariants.{Took, Passed}
use Rattle.head_end.specs.declared.answers.TickLine.TheVariants.{Announce}
use Rattle.head_end.specs.Journal.{all_ticks, passed}
use Rattle.head_end.specs.Lines.{again_lines, by_groups, close_lines, end_lines, round_before, tick_lines}
use Rattle.head_end.specs.Replies.{can_follow, can_pass, first_wrong, is_fresh, reply}
use Rattle.head_end.proofs.JournalLemmas.{passed-passed, passed-took}
use Rattle.apart_courses.specs.Steps.{IsInTick}
use Rattle.apart_courses.proofs.AgainLemmas.{again_on_disk}
use Rattle.apart_lines.specs.declared.heard.ToHeadEnd.{ToHeadEnd}
use Rattle.apart_lines.specs.declared.heard.ToHeadEnd.TheVariants as hears
use Rattle.apart_lines.specs.declared.said.HeadEndSays.TheVariants.{WrongTick}
use Rattle.apart_lines.specs.Journals.{logged_text}
use Rattle.desk_outside.specs.declared.wire.WireStep.{WireStep}
use Rattle.apart_roles.specs.Inputs.{Came}
use Rattle.apart_roles.specs.HeadEndTurns.{Answer, is_flushed_to, logged_tick, logged_to, only, said_to, steps_flushed, steps_logged, steps_said, tick_answer, turn_steps, with_logged}
use Rattle.apart_roles.specs.HeadEndRuns.{came_steps, run_journal, run_steps, said_in, with_came}
use Rattle.apart_roles.specs.HeadEndBacked.{AnnouncementsAreOnDisk, RunsWriteLines, Texts, disk_with, lines_in_answer, lines_logged, run_disk, texts_after, texts_of}

-- ---- the texts

texts_join : (t : Texts) (first others : List WireStep) → texts_after t (first ++ others) ≡ texts_after (texts_after t first) others
texts_join t [] others = refl
texts_join t (step ∷ first) others = texts_join _ first others

text_logged : (journal disk : List Logged) (logged : Option Logged) → texts_after (texts_of journal disk) (steps_logged logged) ≡ texts_of (with_logged journal logged) disk
text_logged journal disk None = refl
text_logged journal disk (Some line) =
    ap (λ text. record { journal = text; disk = lines_logged disk })
    (sym (flat_map-append (λ l. ended (logged_text l)) journal (line ∷ []) ∙ ap (λ text. lines_logged journal ++ text) (append-nil (ended (logged_text line)))))

text_flushed : (journal disk : List Logged) (b : Bool) → texts_after (texts_of journal disk) (steps_flushed b) ≡ texts_of journal (if b then journal else disk)
text_flushed journal disk true = refl
text_flushed journal disk false = refl

text_said : (t : Texts) (plan : PlanView) (said : Option Answer) → texts_after t (steps_said plan said) ≡ t
text_said t plan None = refl
text_said t plan (Some answer) = refl

text_turn : (plan : PlanView) (journal disk : List Logged) (heard : ToHeadEnd)
    → texts_after (texts_of journal disk) (turn_steps plan journal heard) ≡ texts_of (with_logged journal (logged_to plan journal heard)) (disk_with plan journal disk heard)
text_turn plan journal disk heard =
    let logged = steps_logged (logged_to plan journal heard) in
    let flushed = steps_flushed (is_flushed_to journal heard) in
    let said = steps_said plan (said_to plan journal heard) in
    texts_join (texts_of journal disk) (logged ++ flushed) said
    ∙ text_said (texts_after (texts_of journal disk) (logged ++ flushed)) plan (said_to plan journal heard)
    ∙ texts_join (texts_of journal disk) logged flushed
    ∙ ap (λ t. texts_after t flushed) (text_logged journal disk (logged_to plan journal heard))
    ∙ text_flushed (with_logged journal (logged_to plan journal heard)) disk (is_flushed_to journal heard)

pub runs_write : RunsWriteLines
runs_write plan journal disk [] = refl
runs_write plan journal disk (came ∷ lines) =
    texts_join (texts_of journal disk) (came_steps plan journal came) (run_steps plan (with_came plan journal came) lines)
    ∙ ap (λ t. texts_after t (run_steps plan (with_came plan journal came) lines)) (text_turn plan journal disk (said_in came))
    ∙ runs_write plan (with_came plan journal came) (disk_with plan journal disk (said_in came)) lines

-- ---- what isn't on the disk

wrong_join : (plan : PlanView) (journal more : List Logged) (line : Logged) → first_wrong plan journal more ≡ None → can_follow plan (journal ++ more) line ≡ true → first_wrong plan journal (more ++ line ∷ []) ≡ None
unfolding first_wrong
wrong_join plan journal [] line none can =
    ap (λ b. if b then None else Some (length journal)) (ap (λ j. can_follow plan j line) (sym (append-nil journal)) ∙ can)
wrong_join plan journal (first ∷ more) line none can =
    by (λ rest. wrong_join plan (journal ++ first ∷ []) more line rest (ap (λ j. can_follow plan j line) (append_assoc journal (first ∷ []) more) ∙ can)) (can_follow plan journal first) none
  where
    by : (first_wrong plan (journal ++ first ∷ []) more ≡ None → first_wrong plan (journal ++ first ∷ []) (more ++ line ∷ []) ≡ None) → (b : Bool)
        → (if b then first_wrong plan (journal ++ first ∷ []) more else Some (length journal)) ≡ None
        → (if b then first_wrong plan (journal ++ first ∷ []) (more ++ line ∷ []) else Some (length journal)) ≡ None
    by others true rest = others rest
    by others false rest = absurd cc

-- behind the lines on the disk there are frames that can follow, and no tick
record Behind (plan : PlanView) (journal disk : List Logged) : Type 0 where
  more : List Logged
  is : journal ≡ disk ++ more
  follow : first_wrong plan disk more ≡ None
  ticks : passed journal ≡ passed disk

nothing_behind : (plan : PlanView) (journal : List Logged) → Behind plan journal journal
unfolding first_wrong
nothing_behind plan journal = record { more = []; is = sym (append-nil journal); follow = refl; ticks = refl }

frame_behind : (plan : PlanView) (journal disk : List Logged) (f : Frame) (b : Bool) → is_fresh (reply plan journal f) ≡ b → Behind plan journal disk → Behind plan (with_logged journal (if b then Some (Took f) else None)) disk
frame_behind plan journal disk f true fresh behind = record {
  more = behind.more ++ Took f ∷ [];
  is = ap (λ j. j ++ Took f ∷ []) behind.is ∙ append_assoc disk behind.more (Took f ∷ []);
  follow = wrong_join plan disk behind.more (Took f) behind.follow (ap (λ j. can_follow plan j (Took f)) (sym behind.is) ∙ fresh);
  ticks = passed-took journal f ∙ behind.ticks;
}
frame_behind plan journal disk f false stale behind = behind

-- a tick behind the next one is not logged
far_tick : (plan : PlanView) (journal : List Logged) (t : ℕ) → nat_le t (passed journal) ≡ false → logged_tick plan journal t ≡ None
far_tick plan journal t far =
    let over = leb-false t (passed journal) far in
    ap (λ b. if b && can_pass plan journal then Some Passed else None) (ne_eqb t (passed journal) (λ same. omega (arith, over, same)))

tick_behind : (plan : PlanView) (journal disk : List Logged) (t : ℕ) (b : Bool) → nat_le t (passed journal) ≡ b → Behind plan journal disk
    → Behind plan (with_logged journal (logged_tick plan journal t)) (if b then with_logged journal (logged_tick plan journal t) else disk)
tick_behind plan journal disk t true near behind = nothing_behind plan (with_logged journal (logged_tick plan journal t))
tick_behind plan journal disk t false far behind = subst (λ logged. Behind plan (with_logged journal logged) disk) (sym (far_tick plan journal t far)) behind

turn_behind : (plan : PlanView) (journal disk : List Logged) (heard : ToHeadEnd) → Behind plan journal disk → Behind plan (with_logged journal (logged_to plan journal heard)) (disk_with plan journal disk heard)
turn_behind plan journal disk (hears.Frame (Ok f)) behind = frame_behind plan journal disk f (is_fresh (reply plan journal f)) refl behind
turn_behind plan journal disk (hears.Frame (Err rule)) behind = behind
turn_behind plan journal disk (hears.Tick t) behind = tick_behind plan journal disk t (nat_le t (passed journal)) refl behind
turn_behind plan journal disk hears.Again behind = behind
turn_behind plan journal disk hears.Report behind = behind
turn_behind plan journal disk hears.Nothing behind = behind
turn_behind plan journal disk hears.Unknown behind = behind

run_behind : (plan : PlanView) (journal disk : List Logged) (lines : List Came) → Behind plan journal disk → Behind plan (run_journal plan journal lines) (run_disk plan journal disk lines)
run_behind plan journal disk [] behind = behind
run_behind plan journal disk (came ∷ lines) behind =
    run_behind plan (with_came plan journal came) (disk_with plan journal disk (said_in came)) lines (turn_behind plan journal disk (said_in came) behind)

-- ---- announcements

none_in : (f : Frame) {A : Type 0} → Contains [] (Announce f) → A
none_in f (k, lt, is) = absurd (omega (arith, lt))

no_round : (plan : PlanView) (ago t : ℕ) → ago + plan.rounds ≤ t → round_before plan.rounds ago t ≡ None
no_round plan ago t le = ap (λ b. if nat_le ago t && b then Some (t - ago) else None) (le-ltb (t - ago) plan.rounds (omega (arith, le))) ∙ by (nat_le ago t)
  where
    by : (b : Bool) → (if b && false then Some (t - ago) else None) ≡ None
    by true = refl
    by false = refl

-- after its last tick a plan has no lines of ticks
last_tick : (plan : PlanView) (journal : List Logged) (t : ℕ) → all_ticks plan ≤ t → tick_lines plan journal t ≡ []
last_tick plan journal t le =
    ap (λ r. by_groups plan (end_lines plan journal) r ++ by_groups plan (close_lines plan journal) (round_before plan.rounds plan.w1 t)) (no_round plan (plan.w1 + plan.w2) t (omega (arith, le)))
    ∙ ap (λ r. by_groups plan (close_lines plan journal) r) (no_round plan plan.w1 t (omega (arith, le)))

next_announced : (plan : PlanView) (journal : List Logged) (t : ℕ) (f : Frame) (can : Bool) → can_pass plan journal ≡ can → t ≡ passed journal
    → Contains (tick_lines plan (with_logged journal (if can then Some Passed else None)) t) (Announce f) → IsInTick plan (with_logged journal (if can then Some Passed else None)) f
next_announced plan journal t f true can same found = let more = passed-passed journal in (t, omega (arith, more, same), found)
next_announced plan journal t f false can same found =
    let over = ltb-false (passed journal) (all_ticks plan) can in
    none_in f (subst (λ lines. Contains lines (Announce f)) (last_tick plan journal t (omega (arith, over, same))) found)

below : (t p : ℕ) → t ≤ p → (t ≡ p → ⊥) → t < p
below t p le apart = ⊎_elim (λ same. absurd (apart same)) (λ lt. lt) (eq-or-lt_of_le le)

tick_announced : (plan : PlanView) (journal : List Logged) (t : ℕ) (f : Frame) (is_next : Bool) → (t == passed journal) ≡ is_next → t ≤ passed journal
    → Contains (tick_lines plan (with_logged journal (if is_next && can_pass plan journal then Some Passed else None)) t) (Announce f)
    → IsInTick plan (with_logged journal (if is_next && can_pass plan journal then Some Passed else None)) f
tick_announced plan journal t f true next le found = next_announced plan journal t f (can_pass plan journal) refl (eqb-true t (passed journal) next) found
tick_announced plan journal t f false other le found = let apart = eqb-false t (passed journal) other in (t, below t (passed journal) le apart, found)

due_announced : (plan : PlanView) (journal disk : List Logged) (t : ℕ) (f : Frame) (b : Bool) → nat_le t (passed journal) ≡ b
    → Contains (if b then tick_answer plan (with_logged journal (logged_tick plan journal t)) t else only WrongTick).lines (Announce f)
    → IsInTick plan (if b then with_logged journal (logged_tick plan journal t) else disk) f
due_announced plan journal disk t f true near found = tick_announced plan journal t f (t == passed journal) refl (leb-true t (passed journal) near) found
due_announced plan journal disk t f false far found = none_in f found

turn_announced : (plan : PlanView) (journal disk : List Logged) (heard : ToHeadEnd) (f : Frame) → Behind plan journal disk → Contains (lines_in_answer (said_to plan journal heard)) (Announce f)
    → IsInTick plan (disk_with plan journal disk heard) f
turn_announced plan journal disk (hears.Frame (Ok g)) f behind found = none_in f found
turn_announced plan journal disk (hears.Frame (Err rule)) f behind found = none_in f found
turn_announced plan journal disk (hears.Tick t) f behind found = due_announced plan journal disk t f (nat_le t (passed journal)) refl found
turn_announced plan journal disk hears.Again f behind found =
    again_on_disk plan disk behind.more f behind.follow (ap passed (sym behind.is) ∙ behind.ticks) (subst (λ j. Contains (again_lines plan j) (Announce f)) behind.is found)
turn_announced plan journal disk hears.Report f behind found = none_in f found
turn_announced plan journal disk hears.Nothing f behind found = none_in f found
turn_announced plan journal disk hears.Unknown f behind found = none_in f found

pub announced_on_disk : AnnouncementsAreOnDisk
announced_on_disk plan journal lines heard f found =
    turn_announced plan (run_journal plan journal lines) (run_disk plan journal journal lines) heard f (run_behind plan journal journal lines (nothing_behind plan journal)) found
