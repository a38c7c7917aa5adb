-- Accepted files and journals of roles are done.
use Rattle.std.proofs.Common.{◌≡◌, ℕ, List, [], ◌∷◌, ◌++◌, Ok, Err, Some, None, Option, refl, inl, inr, subst, sym, ap, ◌∙◌, true, length, Result, Bool, false, ◌&&◌}
use Rattle.std.specs.Option.{option_map}
use Rattle.desk_outside.specs.Desk.{View}
use Rattle.desk_outside.specs.Wire.{IsFront, Source, WireView, after_step, journal_after}
use Rattle.desk_outside.specs.declared.wire.Coming.{Coming}
use Rattle.desk_outside.specs.declared.wire.Coming.TheVariants.{Line, TooLong, Rest, End}
use Rattle.desk_outside.specs.declared.wire.WireStep.TheVariants.{Opened}
use Rattle.apart_lines.specs.declared.heads.HeadFound.{HeadFound}
use Rattle.apart_lines.specs.declared.heads.HeadFound.TheVariants.{Whole, Begun, Other}
use Rattle.apart_lines.specs.Heads.{head_found}
use Rattle.apart_roles.specs.declared.outcome.RoleError.{RoleError}
use Rattle.apart_roles.specs.declared.outcome.Start.TheVariants as starts
use Rattle.apart_roles.specs.Inputs.{AreNext, Came, ComesTo, are_lines, follow_came, if_follows, is_line, line_by}
use Rattle.apart_roles.specs.Starts.{GoesOnBy, IsOpened, IsWrong, Opens}
use Rattle.group_plan.specs.Plans.{PlanView}
use Rattle.head_end.specs.Replies.{can_follow as logged_follow}
use Rattle.meter_apart.specs.declared.answers.Noted.{Noted}
use Rattle.meter_apart.specs.declared.keys.MeterKeys.{MeterKeys}
use Rattle.meter_apart.specs.declared.meter.MeterApart.{MeterApart}
use Rattle.meter_apart.specs.Keys.{part_of as part_with}
use Rattle.meter_apart.specs.Replies.{can_follow as noted_follow}
use Rattle.meter_files.specs.PartFiles.{part_of}
use Rattle.plan_files.specs.PlanFiles.{public_of}
use Rattle.apart_lines.specs.Heads.{journal_head, meter_journal_head}
use Rattle.apart_lines.specs.Journals.{logged_of, noted_of}
use Rattle.apart_roles.specs.declared.outcome.Start.{Start}
use Rattle.apart_roles.specs.HeadEndTurns.{IsHeadEnd}
use Rattle.apart_roles.specs.HeadEndStarts.{HeadEndStarts, follow_logged}
use Rattle.apart_roles.specs.MeterStarts.{IsMeter, MeterStarts, follow_noted}
use Rattle.command_words.specs.Words.{CollectNames}
use Rattle.command_words.specs.declared.outcome.Outcome.{Outcome}
use Rattle.command_words.specs.declared.outcome.Outcome.TheVariants.{Done, NoMemory, Unread, Unwritten, BadPlan, BadText}
use Rattle.command_words.specs.declared.unread.Unread.TheVariants as of_unread
use Rattle.command_words.specs.declared.text_fault.TextFault.TheVariants as of_text
use Rattle.command_files.specs.Calls.{IsRead, putting}
use Rattle.command_texts.specs.Inspecting.{PublicTextRefuses}
use Rattle.apart_roles.specs.MeterRuns.{StopsInRun}
use Rattle.apart_roles.specs.Steps.{Stops}
use Rattle.role_commands.specs.CollectEnds.{CollectEnds, CollectsBy, LastTurn, Place, StopsInLines, due_steps}
use Rattle.role_commands.specs.MeterEnds.{AreKeysOf, MeterEnds, MeterRefuses, MetersBy, RunEnds}
use Rattle.role_commands.specs.Told.{NotStarted, Stopped}
use Rattle.commands.specs.Accepted.{CanBeFollowed, CollectAccepts, GoesOnWith, HoldsJournal, MeterAccepts, front_of}
use Rattle.commands.specs.Outside.{OutsideView}
use Rattle.commands.proofs.CalmLemmas.{IsCalm, ok_or_err, ok_same, one_is_short, read_is, unread_calm, unwritable_calm}
use Rattle.commands.proofs.RoleEndings.{head_end_somewhere, meter_somewhere}

-- ---- lines that are followed

followed_is_line : {L : Type 0} (reads : List ℕ → Option L) (can : List L → L → Bool) (journal : List L) (what : Coming) (text : List ℕ) (next : List L)
    → if_follows can journal (line_by reads what text) ≡ Some next → is_line what ≡ true
followed_is_line reads can journal Line text next follows = refl
followed_is_line reads can journal TooLong text next follows = refl
followed_is_line reads can journal Rest text next follows = absurd cc
followed_is_line reads can journal End text next follows = absurd cc

both : (a b : Bool) → a ≡ true → b ≡ true → (a && b) ≡ true
both true b one other = other
both false b one other = one

-- lines that are followed, and one more, are lines
are_lines_with : {L : Type 0} (reads : List ℕ → Option L) (can : List L → L → Bool) (journal : List L) (lines : List Came) (all : List L) (came : Came)
    → ComesTo (follow_came reads can) journal lines all → is_line came.what ≡ true → are_lines (lines ++ came ∷ []) ≡ true
are_lines_with reads can journal [] all came comes is = both (is_line came.what) true is refl
are_lines_with reads can journal (first ∷ lines) all came (next, follows, comes) is =
    both (is_line first.what) (are_lines (lines ++ came ∷ [])) (followed_is_line reads can journal first.what first.text next follows)
    (are_lines_with reads can next lines all came comes is)

-- where they are followed with it, it can follow them
last_follows : {L : Type 0} (follow : List L → Came → Option (List L)) (journal : List L) (lines : List Came) (behind all : List L) (came : Came)
    → ComesTo follow journal lines behind → ComesTo follow journal (lines ++ came ∷ []) all → follow behind came ≡ None → ⊥
last_follows follow journal [] behind all came comes (next, follows, same) none = cc
last_follows follow journal (first ∷ lines) behind all came (next, follows, comes) (other, follows_too, comes_too) none =
    let same : other ≡ next = cc in
    last_follows follow next lines behind all came comes (subst (λ j. ComesTo follow j (lines ++ came ∷ []) all) same comes_too) none

-- ---- a journal by which a role goes on

no_wrong : {L : Type 0} (reads : List ℕ → Option L) (can : List L → L → Bool) (from : ℕ) (source : Source) (v w : WireView) (number : ℕ)
    → v.journal ≡ Some source → CanBeFollowed (follow_came reads can) source → IsWrong (follow_came reads can) from v w number → ⊥
no_wrong reads can from source v w number told can_be wrong =
    let lines = are_lines_with reads can [] wrong.lines wrong.journal wrong.came wrong.comes wrong.line in
    let followed = can_be (wrong.lines ++ wrong.came ∷ []) lines (subst (λ s. AreNext s (wrong.lines ++ wrong.came ∷ [])) told wrong.next) in
    last_follows (follow_came reads can) [] wrong.lines wrong.journal followed.0 wrong.came wrong.comes followed.1 wrong.wrong

no_line_by : {L R : Type 0} (reads : List ℕ → Option L) (can : List L → L → Bool) (is : List L → R → Type 0) (found : HeadFound) (head : List ℕ) (journal : Source) (v w : WireView) (number : ℕ)
    → v.journal ≡ Some (record journal { place = length (front_of head journal) }) → GoesOnWith found (follow_came reads can) head journal
    → GoesOnBy found (follow_came reads can) is head v w (Ok (starts.Line number)) → ⊥
no_line_by reads can is Whole head journal v w number told good wrong = no_wrong reads can _ _ v w number told good wrong
no_line_by reads can is Begun head journal v w number told good begins = begins
no_line_by reads can is (Other line) head journal v w number told good ends = good

no_head_by : {L R : Type 0} (follow : List L → Came → Option (List L)) (is : List L → R → Type 0) (found : HeadFound) (head : List ℕ) (journal : Source) (v w : WireView) (number : ℕ)
    → GoesOnWith found follow head journal → GoesOnBy found follow is head v w (Ok (starts.Head number)) → ⊥
no_head_by follow is Whole head journal v w number good ends = ends
no_head_by follow is Begun head journal v w number good ends = ends
no_head_by follow is (Other line) head journal v w number good ends = good

-- the bytes that were read are the front of the told journal
front_is : (told : Option Source) (journal : Source) (head front : List ℕ) → told ≡ Some journal → IsFront told (length head) front → front ≡ front_of head journal
front_is told journal head front is of =
    let h : IsFront (Some journal) (length head) front = subst (λ t. IsFront t (length head) front) is of in h

-- it was opened, and that many bytes were recalled
opened_at : (v w : WireView) (journal : Source) (name front : List ℕ) → v.journal ≡ Some journal → w ≡ after_step v (Opened name front)
    → w.journal ≡ Some (record journal { place = length front })
unfolding after_step
opened_at v w journal name front told step = ap (λ w. w.journal) step ∙ ap (λ j. option_map (journal_after (Opened name front)) j) told

pub no_line : {L R : Type 0} (reads : List ℕ → Option L) (can : List L → L → Bool) (is : List L → R → Type 0) (name head : List ℕ) (v w : WireView) (number : ℕ)
    → HoldsJournal (follow_came reads can) head v → Opens (follow_came reads can) is name head v w (Ok (starts.Line number)) → ⊥
no_line reads can is name head v w number good (inl none) = none
no_line reads can is name head v w number good (inr opened) =
    let front = front_is v.journal good.journal head opened.front good.told opened.is_front in
    no_line_by reads can is (head_found 1 head opened.front) head good.journal opened.view w number
    (opened_at v opened.view good.journal name opened.front good.told opened.step ∙ ap (λ f. Some (record good.journal { place = length f })) front)
    (subst (λ f. GoesOnWith (head_found 1 head f) (follow_came reads can) head good.journal) (sym front) good.goes_on)
    opened.goes_on

pub no_head : {L R : Type 0} (follow : List L → Came → Option (List L)) (is : List L → R → Type 0) (name head : List ℕ) (v w : WireView) (number : ℕ)
    → HoldsJournal follow head v → Opens follow is name head v w (Ok (starts.Head number)) → ⊥
no_head follow is name head v w number good (inl none) = none
no_head follow is name head v w number good (inr opened) =
    let front = front_is v.journal good.journal head opened.front good.told opened.is_front in
    no_head_by follow is (head_found 1 head opened.front) head good.journal opened.view w number
    (subst (λ f. GoesOnWith (head_found 1 head f) follow head good.journal) (sym front) good.goes_on)
    opened.goes_on

-- ---- ends that are no refusals

stopped_calm : (journal : List ℕ) (stops : RoleError → Type 0) (outcome : Outcome) → Stopped journal stops outcome → IsCalm outcome
stopped_calm journal stops NoMemory ends = inr (inr refl)
stopped_calm journal stops (Unread of_unread.Input) ends = inl tt
stopped_calm journal stops (Unwritten unwritten) ends = inl tt
stopped_calm journal stops _ ends = absurd ends

not_started_calm : {R : Type 0} (journal : List ℕ) (gives : Result (Start R) RoleError → Type 0) (outcome : Outcome)
    → ((number : ℕ) → gives (Ok (starts.Head number)) → ⊥) → ((number : ℕ) → gives (Ok (starts.Line number)) → ⊥) → NotStarted journal gives outcome → IsCalm outcome
not_started_calm journal gives (Unread (of_unread.File name)) head line ends = inl tt
not_started_calm journal gives (BadText name (of_text.JournalHead number)) head line ends = absurd (head number ends.1)
not_started_calm journal gives (BadText name (of_text.JournalLine number)) head line ends = absurd (line number ends.1)
not_started_calm journal gives outcome head line ends = stopped_calm journal (λ error. gives (Err error)) outcome ends

-- ---- `collect`

last_calm : (plan : PlanView) (names : CollectNames) (a : Place) (w : View) (y : WireView) (outcome : Outcome) → LastTurn plan names a w y outcome → IsCalm outcome
last_calm plan names a w y Done ends = inr (inl refl)
last_calm plan names a w y outcome (inl (stopped, kept)) = stopped_calm names.journal (StopsInLines plan a.journal a.wire y) outcome stopped
last_calm plan names a w y outcome (inr (inl unput)) = unwritable_calm (putting names.report [] ∷ []) a.desk w outcome unput.unput
last_calm plan names a w y outcome (inr (inr unsaid)) = stopped_calm names.journal (λ error. Stops error (due_steps plan unsaid.journal unsaid.pause) unsaid.heard y) outcome unsaid.unsaid

collects_calm : (plan : PlanView) (names : CollectNames) (v w : View) (x y : WireView) (outcome : Outcome) → HoldsJournal (follow_logged plan) (journal_head plan) x
    → CollectsBy plan names v w x y outcome → IsCalm outcome
collects_calm plan names v w x y outcome good (inl (stopped, kept)) =
    not_started_calm names.journal (HeadEndStarts plan names.journal x y) outcome
    (λ number opens. no_head (follow_logged plan) (IsHeadEnd plan) names.journal (journal_head plan) x y number good opens)
    (λ number opens. no_line logged_of (logged_follow plan) (IsHeadEnd plan) names.journal (journal_head plan) x y number good opens) stopped
collects_calm plan names v w x y outcome good (inr collects) =
    let some = head_end_somewhere plan names.journal x collects.started collects.head collects.starts in
    let course = collects.course some.0 some.1 in
    last_calm plan names course.last w y outcome course.ends

public_is : (names : CollectNames) (o : OutsideView) (good : CollectAccepts names o) (bytes : List ℕ) → IsRead (o.desk.held names.public) bytes → public_of bytes ≡ Ok good.plan
public_is names o good bytes read = ap public_of (sym (read_is o.desk names.public good.bytes bytes good.file read)) ∙ good.value

public_not_refused : (names : CollectNames) (o : OutsideView) (good : CollectAccepts names o) (bytes : List ℕ) (outcome : Outcome) → IsRead (o.desk.held names.public) bytes
    → PublicTextRefuses names.public bytes outcome → IsCalm outcome
public_not_refused names o good bytes NoMemory read ends = inr (inr refl)
public_not_refused names o good bytes (BadPlan name fault) read ends = absurd (ok_or_err _ _ _ (public_is names o good bytes read) ends.1)
public_not_refused names o good bytes _ read ends = absurd ends

pub collect_calm : (names : CollectNames) (o p : OutsideView) (outcome : Outcome) → CollectAccepts names o → CollectEnds names o.desk p.desk o.wire p.wire outcome → IsCalm outcome
collect_calm names o p outcome good (inl (unread, kept)) =
    unread_calm (names.public ∷ []) o.desk p.desk outcome (one_is_short o.desk p.desk names.public good.bytes good.file) unread
collect_calm names o p outcome good (inr (bytes, read, inl refused)) = public_not_refused names o good bytes outcome read refused.0
collect_calm names o p outcome good (inr (bytes, read, inr (plan, value, ends))) =
    let same : good.plan ≡ plan = ok_same _ _ _ (public_is names o good bytes read) value in
    collects_calm plan names _ p.desk o.wire p.wire outcome (subst (λ plan. HoldsJournal (follow_logged plan) (journal_head plan) o.wire) same good.journal) ends

-- ---- `meter`

run_calm : (meter : MeterApart) (lines : List Noted) (journal : List ℕ) (x y : WireView) (outcome : Outcome) → RunEnds meter lines journal x y outcome → IsCalm outcome
run_calm meter lines journal x y Done ends = inr (inl refl)
run_calm meter lines journal x y outcome ends = stopped_calm journal (λ error. StopsInRun meter lines error x y) outcome ends

meters_calm : (keys : MeterKeys) (journal : List ℕ) (x y : WireView) (outcome : Outcome) → HoldsJournal (follow_noted keys) (meter_journal_head (part_with keys)) x
    → MetersBy keys journal x y outcome → IsCalm outcome
meters_calm keys journal x y outcome good (inl stopped) =
    not_started_calm journal (MeterStarts keys journal x y) outcome
    (λ number opens. no_head (follow_noted keys) (IsMeter keys) journal (meter_journal_head (part_with keys)) x y number good opens)
    (λ number opens. no_line noted_of (noted_follow (part_with keys)) (IsMeter keys) journal (meter_journal_head (part_with keys)) x y number good opens) stopped
meters_calm keys journal x y outcome good (inr meters) =
    let some = meter_somewhere keys journal x meters.started meters.meter meters.starts in
    run_calm meters.meter some.0 journal meters.started y outcome (meters.runs some.0 some.1)

own_is : (meter : List ℕ) (o : OutsideView) (good : MeterAccepts meter o) (bytes : List ℕ) → IsRead (o.desk.held meter) bytes → part_of bytes ≡ Ok good.says
own_is meter o good bytes read = ap part_of (sym (read_is o.desk meter good.bytes bytes good.file read)) ∙ good.value

own_not_refused : (meter : List ℕ) (o : OutsideView) (good : MeterAccepts meter o) (bytes : List ℕ) (outcome : Outcome) → IsRead (o.desk.held meter) bytes
    → MeterRefuses meter bytes outcome → IsCalm outcome
own_not_refused meter o good bytes NoMemory read ends = inr (inr refl)
own_not_refused meter o good bytes (BadPlan name fault) read ends = absurd (ok_or_err _ _ _ (own_is meter o good bytes read) ends.1)
own_not_refused meter o good bytes _ read ends = absurd ends

pub meter_calm : (meter journal : List ℕ) (o p : OutsideView) (outcome : Outcome) → MeterAccepts meter o → MeterEnds meter journal o.desk p.desk o.wire p.wire outcome → IsCalm outcome
meter_calm meter journal o p outcome good (inl (unread, kept)) =
    unread_calm (meter ∷ []) o.desk p.desk outcome (one_is_short o.desk p.desk meter good.bytes good.file) unread
meter_calm meter journal o p outcome good (inr (bytes, read, after, inl refused)) = own_not_refused meter o good bytes outcome read refused.0
meter_calm meter journal o p outcome good (inr (bytes, read, after, inr (file, value, keys, of, ends))) =
    let same : file ≡ good.says = ok_same _ _ _ value (own_is meter o good bytes read) in
    meters_calm keys journal o.wire p.wire outcome (good.journal keys (subst (λ f. AreKeysOf f keys) same of)) ends
