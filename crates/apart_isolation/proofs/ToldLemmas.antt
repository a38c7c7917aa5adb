-- Frames that are those of two tables tell the same of both.
use Rattle.std.proofs.Common.{◌≡◌, ℕ, List, [], ◌∷◌, ◌++◌, map, length, refl, sym, ap, ◌∙◌}
use Rattle.std.specs.Prelude.{Option, Some, None, is_some, if◌then◌else◌}
use Rattle.std.specs.List.{range_with_len}
use Rattle.std.proofs.lemmas.Bool.{false≢true}
use Rattle.group_plan.specs.declared.Kind.{Kind}
use Rattle.group_plan.specs.declared.Kind.TheVariants.{Reading, Announcement, Answer}
use Rattle.group_plan.specs.declared.Tag.{Tag}
use Rattle.group_plan.specs.Plans.{PlanView}
use Rattle.event_schedule.specs.declared.Event.{Event}
use Rattle.event_schedule.specs.declared.Event.TheVariants.{Send, Take, Close, End}
use Rattle.event_schedule.specs.declared.Line.TheVariants.{Send as SendLine}
use Rattle.event_schedule.specs.Events.{once}
use Rattle.event_schedule.specs.Tables.{Readings, Masks, IsBounded}
use Rattle.event_schedule.specs.Schedule.{Shape, is_reading_taken, may_send}
use Rattle.event_schedule.specs.Transcript.{Contents, set_sent, word_sent, frame, line, lines_after, shape_of_readings, contents_of_tables}
use Rattle.head_end.specs.declared.answers.Logged.TheVariants.{Took, Passed}
use Rattle.head_end.specs.Journal.{passed}
use Rattle.meter_apart.specs.declared.answers.Noted.TheVariants.{Read, Kept}
use Rattle.ideal_masks.specs.Pools.{nobody}
use Rattle.apart_courses.specs.Courses.{Happening, Headed, Noticed, Said, told_tag, past, head_journal, and_then, of_groups, ends, closes}
use Rattle.apart_courses.specs.Statements.{AreLines}
use Rattle.event_schedule.proofs.ScheduleLemmas.{after}
use Rattle.event_schedule.proofs.MemberLemmas.{plain_sum_fits}
use Rattle.event_schedule.proofs.TranscriptLemmas.{shape-same}
use Rattle.ideal_masks.proofs.Converse.{Told, told_after, word-plain_sum}
use Rattle.ideal_masks.proofs.PoolLemmas.{nobody-shares}
use Rattle.apart_courses.proofs.PastLemmas.{then_both}
use Rattle.apart_isolation.specs.Statements.{AgreeAfter}

-- what frames say, and no totals
words_of : Contents → Contents
words_of c = record { reading = c.reading; answer = c.answer; total = λ g r set. 0 }

word_of_frame : (s : Shape) (c : Contents) (kind : Kind) (g r i : ℕ) (p : List Event) → word_sent s (words_of c) kind g r i p ≡ word_sent s c kind g r i p
unfolding words_of
word_of_frame s c Reading g r i p = refl
word_of_frame s c Announcement g r i p = refl
word_of_frame s c Answer g r i p = refl

frame_of_words : (s : Shape) (c : Contents) (tag : Tag) (p : List Event) → frame s (words_of c) tag p ≡ frame s c tag p
frame_of_words s c tag p =
    ap (λ w. if may_send s tag.kind tag.group tag.round tag.meter p then Some (record { tag = tag; missing = set_sent s tag.kind tag.group tag.round p; word = w }) else None)
    (word_of_frame s c tag.kind tag.group tag.round tag.meter p)

-- ---- event by event

ToldBy : Shape → Contents → Contents → List Event → Type 0
ToldBy s c d p = Told s (words_of c) (words_of d) p

told_more : (s : Shape) (c d : Contents) (p : List Event) (e : Event) → line s (words_of c) p e ≡ line s (words_of d) p e → ToldBy s c d p → ToldBy s c d (e ∷ p)
unfolding after lines_after ToldBy
told_more s c d p e same told = told_after s (words_of c) (words_of d) p (e ∷ []) (ap (λ l. l ∷ []) same) told

told_none : (s : Shape) (c d : Contents) → ToldBy s c d []
unfolding once ToldBy
told_none s c d = record { readings = λ g r i h. absurd (false≢true h); answers = λ g r i h. absurd (false≢true h) }

-- an event of each group that says no more than the shape
told_groups : (s : Shape) (c d : Contents) (event : ℕ → ℕ → Event) → ((g r : ℕ) (p : List Event) → line s (words_of c) p (event g r) ≡ line s (words_of d) p (event g r))
    → (plan : PlanView) (round : Option ℕ) (p : List Event) → ToldBy s c d p → ToldBy s c d (and_then p (of_groups plan event round))
told_groups s c d event same plan None p told = told
told_groups s c d event same plan (Some r) p told = all (range_with_len 0 (length plan.groups)) p told
  where
    all : (groups : List ℕ) (p : List Event) → ToldBy s c d p → ToldBy s c d (and_then p (map (λ g. event g r) groups))
    all [] p told = told
    all (g ∷ groups) p told = all groups (event g r ∷ p) (told_more s c d p (event g r) (same g r p) told)

told_tick : (s : Shape) (c d : Contents) (plan : PlanView) (t : ℕ) (p : List Event) → ToldBy s c d p → ToldBy s c d (and_then p (ends plan t ++ closes plan t))
unfolding words_of
told_tick s c d plan t p told =
    rw (then_both p (ends plan t) (closes plan t))
    (told_groups s c d Close (λ g r q. refl) plan _ (and_then p (ends plan t)) (told_groups s c d End (λ g r q. refl) plan _ p told))

-- ---- what happens

told_log : (plan : PlanView) (x y : Readings) (m k : Masks) (log : List Happening) → shape_of_readings plan.groups x ≡ shape_of_readings plan.groups y → AreLines plan x m log → AreLines plan y k log
    → ToldBy (shape_of_readings plan.groups x) (contents_of_tables plan.groups x m) (contents_of_tables plan.groups y k) (past plan log)
told_log plan x y m k [] shape x_are y_are = told_none _ _ _
told_log plan x y m k (Said f ∷ log) shape x_are y_are =
    told_more _ _ _ (past plan log) (Send f.tag)
    (ap (SendLine f.tag)
    (frame_of_words (shape_of_readings plan.groups x) (contents_of_tables plan.groups x m) f.tag (past plan log)
    ∙ x_are.0 ∙ sym y_are.0
    ∙ sym (ap (λ s. frame s (contents_of_tables plan.groups y k) f.tag (past plan log)) shape)
    ∙ sym (frame_of_words (shape_of_readings plan.groups x) (contents_of_tables plan.groups y k) f.tag (past plan log))))
    (told_log plan x y m k log shape x_are.1 y_are.1)
told_log plan x y m k (Headed (Took f) ∷ log) shape x_are y_are = told_more _ _ _ (past plan log) (Take f.tag) refl (told_log plan x y m k log shape x_are.1 y_are.1)
told_log plan x y m k (Headed Passed ∷ log) shape x_are y_are = told_tick _ _ _ plan (passed (head_journal log)) (past plan log) (told_log plan x y m k log shape x_are.1 y_are.1)
told_log plan x y m k (Noticed g i (Read r reading) ∷ log) shape x_are y_are = told_log plan x y m k log shape x_are.1 y_are.1
told_log plan x y m k (Noticed g i (Kept r set) ∷ log) shape x_are y_are = told_more _ _ _ (past plan log) (Take (told_tag g r i)) refl (told_log plan x y m k log shape x_are.1 y_are.1)

-- ---- totals

told_back : (s : Shape) (c d : Contents) (p : List Event) → ToldBy s c d p → Told s c d p
unfolding ToldBy words_of
told_back s c d p told = record { readings = told.readings; answers = told.answers }

pub tell_totals : (plan : PlanView) (x y : Readings) (m k : Masks) (log : List Happening) → ((g r i : ℕ) → is_some (x g r i) ≡ is_some (y g r i)) → IsBounded plan.groups x → IsBounded plan.groups y
    → AreLines plan x m log → AreLines plan y k log → AgreeAfter plan x y log
tell_totals plan x y m k log presence x_bounded y_bounded x_are y_are =
    let told = told_back _ _ _ (past plan log) (told_log plan x y m k log (shape-same plan.groups x y presence) x_are y_are) in
    record {
      presence = presence;
      readings = λ g r i inside. absurd (false≢true inside);
      totals = λ g r open_to.
          sym (plain_sum_fits plan.groups x g r (λ i. is_reading_taken (shape_of_readings plan.groups x) g r i (past plan log)) x_bounded)
          ∙ word-plain_sum nobody plan.groups x y m k (past plan log) (nobody-shares m k) told g r open_to
          ∙ plain_sum_fits plan.groups y g r (λ i. is_reading_taken (shape_of_readings plan.groups x) g r i (past plan log)) y_bounded;
    }
