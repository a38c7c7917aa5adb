-- The totals of registers: by their side words they are those of their own transcripts.
use Rattle.std.proofs.Common.{◌≡◌, ◌∙◌, ℕ, ◌+◌, ◌-◌, ◌<◌, ◌≤◌, ◌^◌, ◌&&◌, ◌==◌, Bool, true, false, if◌then◌else◌, List, [], ◌∷◌, length, drop, reverse, map, Option, Some, None, is_some, unwrap_or, refl, sym, ap, arith}
use mathlib.Core.Path.{fun_ext}
use Rattle.std.proofs.lemmas.Bool.{and_parts}
use Rattle.group_plan.specs.declared.Kind.{Kind}
use Rattle.group_plan.specs.declared.Kind.TheVariants.{Reading, Announcement, Answer}
use Rattle.group_plan.specs.declared.Tag.{Tag}
use Rattle.group_plan.specs.Plans.{PlanView, size}
use Rattle.group_plan.specs.Tables.{IsReadingTable, Table, reading}
use Rattle.missing_round.specs.Words.{frame_total}
use Rattle.pair_keys.specs.Keys.{Keys}
use Rattle.event_schedule.specs.declared.Event.{Event}
use Rattle.event_schedule.specs.declared.Event.TheVariants.{Send, Take, Close, End}
use Rattle.event_schedule.specs.declared.Line.{Line}
use Rattle.event_schedule.specs.declared.Line.TheVariants.{Send as SendLine}
use Rattle.event_schedule.specs.Events.{event_of, is_tag, same_kind}
use Rattle.event_schedule.specs.Frames.{contents_of_lines, first_word, word_or_zero}
use Rattle.event_schedule.specs.Journal.{past_of}
use Rattle.event_schedule.specs.Schedule.{Shape, is_opened, may_send, survivors}
use Rattle.event_schedule.specs.Tables.{IsBounded, plain_sum}
use Rattle.event_schedule.specs.Transcript.{lines_after, shape_of_readings, transcript}
use Rattle.event_schedule.proofs.EventLemmas.{events-lines}
use Rattle.event_schedule.proofs.JournalLemmas.{total_of_journal}
use Rattle.event_schedule.proofs.TranscriptLemmas.{shape-same}
use Rattle.plan_files.specs.Registers.{RegistersView, table}
use Rattle.register_words.specs.declared.row.SideRow.{SideRow}
use Rattle.register_words.specs.SideReports.{first_side_word, first_word_of, row_count, side_total}
use Rattle.register_words.specs.Sides.{and_rows, has_words, register_contents, side_frame, side_rows}
use Rattle.register_words.specs.Statements.{SideTotalsArePlain}
use Rattle.register_words.specs.Words.{register_streams}
use Rattle.register_words.proofs.WorldLemmas.{first_register, sent, side_word_at}

-- ---- first words

-- the line of a Send by what register k says
abbrev send_line : RegistersView → Keys → Shape → List Event → ℕ → Tag → Bool → Line
send_line registers keys s past k tag b = SendLine tag (if b then Some (sent s (register_contents registers keys k) tag past) else None)

one_first : (registers : RegistersView) (keys : Keys) (s : Shape) (past : List Event) (n k tg tr ti : ℕ) (kind : Kind) (b is : Bool) (rows : List SideRow) (mine theirs : ℕ) (later : List SideRow → ℕ) → 1 ≤ k → k < length registers.tables
    → (is ≡ true → has_words kind ≡ true) → later rows ≡ theirs
    → (if is && is_some (if b then Some (sent s (register_contents registers keys 0) (record { group = tg; round = tr; meter = ti; kind = kind }) past) else None)
    then first_word_of (k - 1) (and_rows registers keys n (side_frame (send_line registers keys s past 0 (record { group = tg; round = tr; meter = ti; kind = kind }) b)) rows)
    else later (drop (row_count (send_line registers keys s past 0 (record { group = tg; round = tr; meter = ti; kind = kind }) b)) (and_rows registers keys n (side_frame (send_line registers keys s past 0 (record { group = tg; round = tr; meter = ti; kind = kind }) b)) rows)))
    ≡ (if is && is_some (if b then Some (sent s (register_contents registers keys k) (record { group = tg; round = tr; meter = ti; kind = kind }) past) else None)
    then word_or_zero (if b then Some (sent s (register_contents registers keys k) (record { group = tg; round = tr; meter = ti; kind = kind }) past) else None)
    else theirs)
one_first registers keys s past n k tg tr ti kind false true rows mine theirs later some few words same = same
one_first registers keys s past n k tg tr ti kind false false rows mine theirs later some few words same = same
one_first registers keys s past n k tg tr ti Reading true false rows mine theirs later some few words same = same
one_first registers keys s past n k tg tr ti Announcement true false rows mine theirs later some few words same = same
one_first registers keys s past n k tg tr ti Answer true false rows mine theirs later some few words same = same
one_first registers keys s past n k tg tr ti Reading true true rows mine theirs later some few words same =
    side_word_at registers keys n k (sent s (register_contents registers keys 0) (record { group = tg; round = tr; meter = ti; kind = Reading }) past) some few
one_first registers keys s past n k tg tr ti Announcement true true rows mine theirs later some few words same = absurd (let h = words refl in cc)
one_first registers keys s past n k tg tr ti Answer true true rows mine theirs later some few words same =
    side_word_at registers keys n k (sent s (register_contents registers keys 0) (record { group = tg; round = tr; meter = ti; kind = Answer }) past) some few

-- a Send of a kind that has words has words
kinds : (one other : Kind) → has_words other ≡ true → same_kind one other ≡ true → has_words one ≡ true
kinds Reading other h e = refl
kinds Announcement Reading h e = e
kinds Announcement Announcement h e = h
kinds Announcement Answer h e = e
kinds Answer other h e = refl

sent_kind : (g r i : ℕ) (kind : Kind) (tag : Tag) → has_words kind ≡ true → is_tag g r i kind tag ≡ true → has_words tag.kind ≡ true
sent_kind g r i kind tag h e = kinds tag.kind kind h (and_parts ((tag.group == g) && (tag.round == r) && (tag.meter == i)) (same_kind tag.kind kind) e).1

-- the first word of a tag by the side words of register k is that in its own transcript
firsts_are : (registers : RegistersView) (keys : Keys) (s : Shape) (past events : List Event) (n k g r i : ℕ) (kind : Kind) → 1 ≤ k → k < length registers.tables → has_words kind ≡ true
    → first_side_word (k - 1) g r i kind (lines_after s (register_contents registers keys 0) past events) (side_rows registers keys n (lines_after s (register_contents registers keys 0) past events))
    ≡ first_word g r i kind (lines_after s (register_contents registers keys k) past events)
unfolding side_rows lines_after
firsts_are registers keys s past [] n k g r i kind some few words = refl
firsts_are registers keys s past (Send tag ∷ rest) n k g r i kind some few words =
    one_first registers keys s past n k tag.group tag.round tag.meter tag.kind (may_send s tag.kind tag.group tag.round tag.meter past) (is_tag g r i kind tag)
    (side_rows registers keys (n + 1) (lines_after s (register_contents registers keys 0) (Send tag ∷ past) rest)) 0 (first_word g r i kind (lines_after s (register_contents registers keys k) (Send tag ∷ past) rest))
    (first_side_word (k - 1) g r i kind (lines_after s (register_contents registers keys 0) (Send tag ∷ past) rest)) some few (sent_kind g r i kind tag words)
    (firsts_are registers keys s (Send tag ∷ past) rest (n + 1) k g r i kind some few words)
firsts_are registers keys s past (Take tag ∷ rest) n k g r i kind some few words = firsts_are registers keys s (Take tag ∷ past) rest (n + 1) k g r i kind some few words
firsts_are registers keys s past (Close h q ∷ rest) n k g r i kind some few words = firsts_are registers keys s (Close h q ∷ past) rest (n + 1) k g r i kind some few words
firsts_are registers keys s past (End h q ∷ rest) n k g r i kind some few words = firsts_are registers keys s (End h q ∷ past) rest (n + 1) k g r i kind some few words

-- ---- totals

is_small : (o : Option ℕ) → ((v : ℕ) → o ≡ Some v → v < 2 ^ 40) → unwrap_or o 0 < 2 ^ 40
is_small None small = omega arith
is_small (Some v) small = small v refl

bounded : (plan : PlanView) (t : Table (Option ℕ)) → ((h : ℕ) → size plan.groups h ≤ 256) → IsReadingTable plan t → IsBounded plan.groups (reading t)
bounded plan t few fits = record {
  meters = few;
  readings = λ g r i. is_small (reading t g r i) (fits.small g r i);
}

-- the frame totals by the side words are those of the register's own transcript
totals_are : (registers : RegistersView) (keys : Keys) (s : Shape) (events : List Event) (n k g r : ℕ) (meters : List ℕ) → 1 ≤ k → k < length registers.tables
    → side_total (lines_after s (register_contents registers keys 0) [] events) (side_rows registers keys n (lines_after s (register_contents registers keys 0) [] events)) g r meters (k - 1)
    ≡ (contents_of_lines (lines_after s (register_contents registers keys k) [] events)).total g r meters
totals_are registers keys s events n k g r meters some few =
    ap (λ (f : ℕ → ℕ). frame_total f (λ i. first_side_word (k - 1) g r i Answer (lines_after s (register_contents registers keys 0) [] events) (side_rows registers keys n (lines_after s (register_contents registers keys 0) [] events))) meters)
    (fun_ext (λ i. firsts_are registers keys s [] events n k g r i Reading some few refl))
    ∙ ap (λ (f : ℕ → ℕ). frame_total (λ i. first_word g r i Reading (lines_after s (register_contents registers keys k) [] events)) f meters)
    (fun_ext (λ i. firsts_are registers keys s [] events n k g r i Answer some few refl))

pub side_totals_are_plain : SideTotalsArePlain
side_totals_are_plain registers keys events n k g r are limits some few opened =
    let groups = registers.plan.groups in
    let x = reading (table registers 0) in
    let y = reading (table registers k) in
    let s = shape_of_readings groups x in
    let whole = reverse events in
    let one : s ≡ shape_of_readings groups y = shape-same groups x y (λ g r i. are.presence 0 k g r i (omega (arith, few)) few) in
    let ls = transcript groups y (register_streams k keys) events in
    let told : map event_of ls ≡ events = events-lines (shape_of_readings groups y) (register_contents registers keys k) [] events in
    let again : transcript groups y (register_streams k keys) (map event_of ls) ≡ ls = ap (transcript groups y (register_streams k keys)) told in
    let past : past_of ls ≡ whole = ap reverse told in
    let opened_here : is_opened (shape_of_readings groups y) g r (past_of ls) ≡ true = ap (is_opened (shape_of_readings groups y) g r) past ∙ ap (λ (z : Shape). is_opened z g r whole) (sym one) ∙ opened in
    let total = total_of_journal groups y (register_streams k keys) ls (are.tables k few).of_members (bounded registers.plan (table registers k) limits (are.tables k few)) again g r opened_here in
    let same : survivors (shape_of_readings groups y) g r (past_of ls) ≡ survivors s g r whole =
    ap (survivors (shape_of_readings groups y) g r) past ∙ ap (λ (z : Shape). survivors z g r whole) (sym one) in
    ap (λ m. side_total (transcript groups x m events) (side_rows registers keys n (transcript groups x m events)) g r (survivors s g r whole) (k - 1)) (sym (first_register keys))
    ∙ totals_are registers keys s events n k g r (survivors s g r whole) some few
    ∙ ap (λ (z : Shape). (contents_of_lines (lines_after z (register_contents registers keys k) [] events)).total g r (survivors s g r whole)) one
    ∙ ap (λ (ms : List ℕ). (contents_of_lines ls).total g r ms) (sym same)
    ∙ total
    ∙ ap (λ (ms : List ℕ). plain_sum y g r ms) same
