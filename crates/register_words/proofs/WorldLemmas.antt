-- Registers, one by one: their worlds and their isolation.
use Rattle.std.proofs.Common.{◌≡◌, ◌∙◌, ℕ, ◌+◌, ◌-◌, ◌<◌, ◌≤◌, Bool, true, false, if◌then◌else◌, List, [], ◌∷◌, length, map, get_or, replicate, reverse, Option, Some, None, is_some, refl, sym, ap, ap₂, arith}
use Rattle.std.specs.List.{range_with_len}
use Rattle.std.specs.Prelude.{slice_index}
use Rattle.std.proofs.lemmas.List.{get_or_append_left}
use Rattle.std.proofs.lemmas.List.FromFn.{get_or-map-range_with_len, length-map-range_with_len}
use mathlib.Core.Path.{fun_ext}
use Rattle.group_plan.specs.declared.Kind.{Kind}
use Rattle.group_plan.specs.declared.Kind.TheVariants.{Reading, Announcement, Answer}
use Rattle.group_plan.specs.declared.Tag.{Tag}
use Rattle.group_plan.specs.Plans.{Group}
use Rattle.group_plan.specs.Tables.{reading}
use Rattle.meter_frames.specs.declared.Frame.{Frame}
use Rattle.pair_keys.specs.Keys.{Keys}
use Rattle.pair_keys.specs.declared.KeyId.TheVariants.{Own, Pair}
use Rattle.mask_stream.specs.KeyStreams.{streams}
use Rattle.mask_stream.specs.KeyStreams as first
use Rattle.event_schedule.specs.declared.Event.{Event}
use Rattle.event_schedule.specs.declared.Event.TheVariants.{Send, Take, Close, End}
use Rattle.event_schedule.specs.declared.Line.{Line}
use Rattle.event_schedule.specs.declared.Line.TheVariants.{Send as SendLine}
use Rattle.event_schedule.specs.Tables.{Readings, Masks, IsOfPlan, IsBounded}
use Rattle.event_schedule.specs.Schedule.{Shape, may_send}
use Rattle.event_schedule.specs.Transcript.{Contents, lines_after, set_sent, shape_of_readings, transcript, word_sent}
use Rattle.event_schedule.proofs.ScheduleLemmas.{after-reverse}
use Rattle.ideal_masks.specs.Offsets.{offsets, shift, Agree}
use Rattle.ideal_masks.proofs.Converse.{converse}
use Rattle.ideal_masks.proofs.Isolation.{isolated}
use Rattle.ideal_masks.proofs.TwoWorlds.{shift-unshift, two_worlds, unshift-shift}
use Rattle.event_schedule.proofs.TranscriptLemmas.{shape-same}
use Rattle.plan_files.specs.Registers.{RegistersView, table}
use Rattle.register_words.specs.declared.row.SideRow.{SideRow}
use Rattle.register_words.specs.Sides.{and_rows, register_contents, side_frame, side_row, side_rows, side_words, word_for}
use Rattle.register_words.specs.Statements.{EachIsolated, FirstRegister, RegistersConverse, RegistersIsolated, RegistersUndone, SideWordsAreWorld, register_offsets}
use Rattle.chacha_lanes.specs.Stream.{word_of_block}
use Rattle.register_words.specs.Words.{word_of}
use Rattle.register_words.specs.Worlds.{and_words, row_words, sent_words}
use Rattle.chacha_lanes.proofs.BlockLemmas.{map_range}

-- ---- isolation

carried : (groups : List Group) (x y : Readings) (m : Masks) (events : List Event) → IsOfPlan groups x → Agree groups x y (reverse events)
    → transcript groups y (shift (offsets groups x y (reverse events)) m) events ≡ transcript groups x m events
carried groups x y m events of_plan = rw (← after-reverse events) (two_worlds groups x y m events of_plan)

pub registers_isolated : RegistersIsolated
registers_isolated n groups x y m events of_plan agree =
    map_range (λ k. transcript groups (y k) (shift (register_offsets groups x y (reverse events) k) (m k)) events) (λ k. transcript groups (x k) (m k) events) 0 n
    (λ k low high. carried groups (x k) (y k) (m k) events (of_plan k (omega (arith, high))) (agree k (omega (arith, high))))

pub registers_undone : RegistersUndone
registers_undone n o m fits k lt = (unshift-shift (o k) (m k) (fits k lt), shift-unshift (o k) (m k) (fits k lt))

agreed : (groups : List Group) (x y : Readings) (m c : Masks) (events : List Event) → ((g r i : ℕ) → is_some (x g r i) ≡ is_some (y g r i)) → IsBounded groups x → IsBounded groups y
    → transcript groups x m events ≡ transcript groups y c events → Agree groups x y (reverse events)
agreed groups x y m c events presence x_bounded y_bounded = rw (← after-reverse events) (converse groups x y m c events presence x_bounded y_bounded)

range_at : {X : Type 0} (f : ℕ → List X) (n k : ℕ) → k < n → get_or (map f (range_with_len 0 n)) k [] ≡ f k
range_at f n k lt = get_or-map-range_with_len f 0 n k k [] lt (omega arith)

pub registers_converse : RegistersConverse
registers_converse n groups x y m c events presence x_bounded y_bounded same k lt =
    agreed groups (x k) (y k) (m k) (c k) events (presence k lt) (x_bounded k lt) (y_bounded k lt)
    (sym (range_at (λ k. transcript groups (x k) (m k) events) n k lt) ∙ ap (λ (l : List (List Line)). get_or l k []) same ∙ range_at (λ k. transcript groups (y k) (c k) events) n k lt)

pub each_isolated : EachIsolated
each_isolated registers events are k lt = isolated registers.plan (table registers k) events (are.tables k lt)

-- ---- register 0

first_word : (key : Option (List ℕ)) (r : ℕ) → word_of key r 0 ≡ first.word_of key r
unfolding word_of_block
first_word None r = refl
first_word (Some key) r = refl

pub first_register : FirstRegister
first_register keys =
    λ j. record {
      own = fun_ext (λ g. fun_ext (λ r. fun_ext (λ i. first_word (keys.key (Own g i)) r))) j;
      pair = fun_ext (λ g. fun_ext (λ r. fun_ext (λ i. fun_ext (λ h. first_word (keys.key (Pair g i h)) r)))) j;
    }

-- ---- side words

pub side_word_at : (registers : RegistersView) (keys : Keys) (n k : ℕ) (f : Frame) → 1 ≤ k → k < length registers.tables
    → slice_index (side_row registers keys n f).words (k - 1) ≡ word_for (register_contents registers keys k) f
side_word_at registers keys n k f some few =
    let count = length registers.tables - 1 in
    let words = side_words registers keys count f in
    let long = length-map-range_with_len (λ k. word_for (register_contents registers keys k) f) 1 count in
    get_or_append_left words (replicate (8 - length registers.tables) 0) 0 (k - 1) (omega (arith, long, some, few))
    ∙ get_or-map-range_with_len (λ k. word_for (register_contents registers keys k) f) 1 count (k - 1) k 0 (omega (arith, some, few)) (omega (arith, some))

-- the frame of a Send under some contents
abbrev pub sent : Shape → Contents → Tag → List Event → Frame
sent s c tag past = record {
  tag = tag;
  missing = set_sent s tag.kind tag.group tag.round past;
  word = word_sent s c tag.kind tag.group tag.round tag.meter past;
}

one_send : (registers : RegistersView) (keys : Keys) (s : Shape) (past : List Event) (n k g r i : ℕ) (kind : Kind) (b : Bool) (rows : List SideRow) (words : List ℕ) → 1 ≤ k → k < length registers.tables
    → row_words k rows ≡ words
    → row_words k (and_rows registers keys n (side_frame (SendLine (record { group = g; round = r; meter = i; kind = kind }) (if b then Some (sent s (register_contents registers keys 0) (record { group = g; round = r; meter = i; kind = kind }) past) else None))) rows)
    ≡ and_words (side_frame (SendLine (record { group = g; round = r; meter = i; kind = kind }) (if b then Some (sent s (register_contents registers keys k) (record { group = g; round = r; meter = i; kind = kind }) past) else None))) words
one_send registers keys s past n k g r i kind false rows words some few same = same
one_send registers keys s past n k g r i Reading true rows words some few same =
    ap₂ (λ (w : ℕ) (l : List ℕ). w ∷ l) (side_word_at registers keys n k (sent s (register_contents registers keys 0) (record { group = g; round = r; meter = i; kind = Reading }) past) some few) same
one_send registers keys s past n k g r i Announcement true rows words some few same = same
one_send registers keys s past n k g r i Answer true rows words some few same =
    ap₂ (λ (w : ℕ) (l : List ℕ). w ∷ l) (side_word_at registers keys n k (sent s (register_contents registers keys 0) (record { group = g; round = r; meter = i; kind = Answer }) past) some few) same

rows_are : (registers : RegistersView) (keys : Keys) (s : Shape) (past events : List Event) (n k : ℕ) → 1 ≤ k → k < length registers.tables
    → row_words k (side_rows registers keys n (lines_after s (register_contents registers keys 0) past events)) ≡ sent_words (lines_after s (register_contents registers keys k) past events)
unfolding side_rows lines_after
rows_are registers keys s past [] n k some few = refl
rows_are registers keys s past (Send tag ∷ rest) n k some few =
    one_send registers keys s past n k tag.group tag.round tag.meter tag.kind (may_send s tag.kind tag.group tag.round tag.meter past)
    (side_rows registers keys (n + 1) (lines_after s (register_contents registers keys 0) (Send tag ∷ past) rest)) (sent_words (lines_after s (register_contents registers keys k) (Send tag ∷ past) rest)) some few
    (rows_are registers keys s (Send tag ∷ past) rest (n + 1) k some few)
rows_are registers keys s past (Take tag ∷ rest) n k some few = rows_are registers keys s (Take tag ∷ past) rest (n + 1) k some few
rows_are registers keys s past (Close g r ∷ rest) n k some few = rows_are registers keys s (Close g r ∷ past) rest (n + 1) k some few
rows_are registers keys s past (End g r ∷ rest) n k some few = rows_are registers keys s (End g r ∷ past) rest (n + 1) k some few

pub side_words_are_world : SideWordsAreWorld
side_words_are_world registers keys events n k are some few =
    let groups = registers.plan.groups in
    let x = reading (table registers 0) in
    let y = reading (table registers k) in
    let one : shape_of_readings groups x ≡ shape_of_readings groups y = shape-same groups x y (λ g r i. are.presence 0 k g r i (omega (arith, few)) few) in
    ap (λ m. row_words k (side_rows registers keys n (transcript groups x m events))) (sym (first_register keys))
    ∙ rows_are registers keys (shape_of_readings groups x) [] events n k some few
    ∙ ap (λ s. sent_words (lines_after s (register_contents registers keys k) [] events)) one
