-- The announcements that a run sends in a tick are those of the round that closes in it.
use Rattle.std.proofs.Common.{◌≡◌, ℕ, zero, suc, ◌+◌, ◌<◌, ◌≤◌, Bool, true, false, ◌&&◌, List, [], ◌∷◌, ◌++◌, length, map, refl, sym, ap, ◌∙◌, ⊎_elim, inl, inr, arith}
use Rattle.std.specs.Prelude.{◌==◌, nat_lt, if◌then◌else◌, Some}
use mathlib.Core.List.{reverse}
use Rattle.std.specs.List.{filter, flat_map, range_with_len}
use Rattle.std.proofs.lemmas.Bool.{eq-eqb, ne_eqb, cases_eq}
use Rattle.std.proofs.lemmas.Grind.{flat_map-append}
use Rattle.group_plan.specs.declared.Kind.{Kind}
use Rattle.group_plan.specs.declared.Kind.TheVariants.{Reading, Announcement, Answer}
use Rattle.group_plan.specs.declared.Tag.{Tag}
use Rattle.meter_frames.specs.declared.Frame.{Frame}
use Rattle.event_schedule.specs.declared.Event.{Event}
use Rattle.event_schedule.specs.declared.Event.TheVariants.{Send}
use Rattle.event_schedule.specs.declared.Line.{Line}
use Rattle.event_schedule.specs.declared.Line.TheVariants as lines
use Rattle.event_schedule.specs.declared.Entry.{Entry}
use Rattle.event_schedule.specs.Events.{is_send, events_of, lines_of, event_of}
use Rattle.event_schedule.specs.Schedule.{Shape, is_announced, survivors, members_of}
use Rattle.event_schedule.specs.Transcript.{Contents, lines_after}
use Rattle.event_schedule.proofs.EventLemmas.{is_send-itself}
use Rattle.event_schedule.proofs.ListLemmas.{flat_map_same}
use Rattle.run_rows.specs.Ticks.{Clock, IsRunPlan, tag_of, tags, tags_of, sent_at, takes_at, due_of}
use Rattle.run_rows.proofs.TickLemmas.{Member}
use Rattle.run_rows.proofs.TickRun.{IsRunBy, run_facts, events-reverse}
use Rattle.apart_runs.specs.Carried.{is_from_head, announced_by, announced_at}
use Rattle.apart_runs.proofs.FrameLemmas.{whole_frame, sent_line}

-- ---- lists of lists

pub flat_flat : {X Y Z : Type 0} (f : Y → List Z) (h : X → List Y) (xs : List X) → flat_map f (flat_map h xs) ≡ flat_map (λ x. flat_map f (h x)) xs
flat_flat f h [] = refl
flat_flat f h (x ∷ xs) = flat_map-append f (h x) (flat_map h xs) ∙ ap (λ l. flat_map f (h x) ++ l) (flat_flat f h xs)

pub flat_none : {X Y : Type 0} (f : X → List Y) (xs : List X) → ((x : X) → f x ≡ []) → flat_map f xs ≡ []
flat_none f [] none = refl
flat_none f (x ∷ xs) none = ap (λ l. l ++ flat_map f xs) (none x) ∙ flat_none f xs none

nothing_after : {X : Type 0} (xs : List X) → xs ++ [] ≡ xs
nothing_after [] = refl
nothing_after (x ∷ xs) = ap (λ l. x ∷ l) (nothing_after xs)

-- of rounds that begin at each tick, the one that began so many ticks before
abbrev at_round : {X : Type 0} → (ℕ → Bool) → (ℕ → List X) → ℕ → ℕ → ℕ → List X
at_round may f w t r = if (r + w == t) && may r then f r else []

pick_none : {X : Type 0} (may : ℕ → Bool) (f : ℕ → List X) (w t n b : ℕ) → ((r : ℕ) → b ≤ r → r < b + n → r + w ≡ t → ⊥) → flat_map (at_round may f w t) (range_with_len b n) ≡ []
pick_none may f w t zero b none = refl
pick_none may f w t (suc n) b none =
    ap (λ c. (if c && may b then f b else []) ++ flat_map (at_round may f w t) (range_with_len (b + 1) n)) (ne_eqb (b + w) t (none b (omega arith) (omega arith)))
    ∙ pick_none may f w t n (b + 1) (λ r le lt. none r (omega (arith, le)) (omega (arith, lt)))

pick_one : {X : Type 0} (may : ℕ → Bool) (f : ℕ → List X) (w t q n b : ℕ) → q + w ≡ t → b ≤ q → q < b + n → flat_map (at_round may f w t) (range_with_len b n) ≡ (if may q then f q else [])
pick_one may f w t q zero b is le lt = absurd (omega (arith, le, lt))
pick_one may f w t q (suc n) b is le lt = ⊎_elim
    (λ (here : q ≡ b).
    let at : b + w ≡ t = omega (arith, is, here) in
    ap (λ c. (if c && may b then f b else []) ++ flat_map (at_round may f w t) (range_with_len (b + 1) n)) (eq-eqb (b + w) t at)
    ∙ ap (λ l. (if may b then f b else []) ++ l) (pick_none may f w t n (b + 1) (λ r above below now. omega (arith, above, now, at)))
    ∙ nothing_after (if may b then f b else [])
    ∙ ap (λ r. if may r then f r else []) (sym here))
    (λ (there : q ≡ b → ⊥).
    let other : b + w ≡ t → ⊥ = λ now. there (omega (arith, is, now)) in
    ap (λ c. (if c && may b then f b else []) ++ flat_map (at_round may f w t) (range_with_len (b + 1) n)) (ne_eqb (b + w) t other)
    ∙ pick_one may f w t q n (b + 1) is (omega (arith, le, there)) (omega (arith, lt)))
    (cases_eq q b)

-- ---- the announcements among tags

module _ (whole : Tag → Frame) where
  -- the frame of a tag, where it is an announcement
  abbrev tell : Tag → List Frame
  tell tag = if is_from_head tag.kind then whole tag ∷ [] else []

  silent : (k : Kind) (g r : ℕ) (ms : List ℕ) → is_from_head k ≡ false → flat_map tell (tags k g r ms) ≡ []
  silent k g r [] other = refl
  silent k g r (i ∷ ms) other = ap (λ b. (if b then whole (tag_of k g r i) ∷ [] else []) ++ flat_map tell (tags k g r ms)) other ∙ silent k g r ms other

  told : (g r : ℕ) (ms : List ℕ) → flat_map tell (tags Announcement g r ms) ≡ map (λ i. whole (tag_of Announcement g r i)) ms
  told g r [] = refl
  told g r (i ∷ ms) = ap (λ l. whole (tag_of Announcement g r i) ∷ l) (told g r ms)

  told_where : (b : Bool) (g r : ℕ) (ms : List ℕ) → flat_map tell (if b then tags Announcement g r ms else []) ≡ (if b then map (λ i. whole (tag_of Announcement g r i)) ms else [])
  told_where true g r ms = told g r ms
  told_where false g r ms = refl

  -- what a line announces is what its tag does
  line_told : (l : Line) → ((tag : Tag) → event_of l ≡ Send tag → l ≡ lines.Send tag (Some (whole tag))) → announced_by l ≡ flat_map tell (tags_of (event_of l))
  line_told (lines.Send tag f) each = ap announced_by (each tag refl) ∙ by (is_from_head tag.kind)
    where
      by : (b : Bool) → (if b then whole tag ∷ [] else []) ≡ ((if b then whole tag ∷ [] else []) ++ [])
      by true = refl
      by false = refl
  line_told (lines.Take tag v) each = refl
  line_told (lines.Close g r v) each = refl
  line_told (lines.End g r v) each = refl

  entries_told : (t : ℕ) (ys : List Entry) → ((e : Entry) → Member e ys → (tag : Tag) → event_of e.line ≡ Send tag → e.line ≡ lines.Send tag (Some (whole tag)))
      → flat_map (λ e. if e.tick == t then announced_by e.line else []) ys ≡ flat_map tell (sent_at ys t)
  entries_told t [] each = refl
  entries_told t (e ∷ ys) each =
      ap (λ l. l ++ flat_map (λ z. if z.tick == t then announced_by z.line else []) ys) (here (e.tick == t))
      ∙ ap (λ l. flat_map tell (if e.tick == t then tags_of (event_of e.line) else []) ++ l) (entries_told t ys (λ z at. each z (inr at)))
      ∙ sym (flat_map-append tell (if e.tick == t then tags_of (event_of e.line) else []) (sent_at ys t))
    where
      here : (b : Bool) → (if b then announced_by e.line else []) ≡ flat_map tell (if b then tags_of (event_of e.line) else [])
      here true = line_told e.line (each e (inl refl))
      here false = refl

  -- what is due in a tick
  module _ (s : Shape) (c : Clock) (xs : List Entry) (t : ℕ) where
    abbrev past : List Event
    past = reverse (events_of xs)

    abbrev firsts : ℕ → List Tag
    firsts g = tags Reading g t (if nat_lt t c.rounds then filter (λ i. s.present g t i) (members_of s g t) else [])

    abbrev second : ℕ → ℕ → List Tag
    second g r = if (r + c.w1 == t) && is_announced s g r past then tags Announcement g r (survivors s g r past) else []

    abbrev third : ℕ → ℕ → List Tag
    third g r = tags Answer g r (filter (λ i. nat_lt 0 (takes_at xs (tag_of Announcement g r i) t)) (members_of s g r))

    -- the announcements of a round that is announced
    abbrev pub in_round : ℕ → ℕ → List Frame
    in_round g r = map (λ i. whole (tag_of Announcement g r i)) (survivors s g r past)

    due_told : (g : ℕ) → flat_map tell (due_of s c xs t g) ≡ flat_map (at_round (λ r. is_announced s g r past) (in_round g) c.w1 t) (range_with_len 0 c.rounds)
    due_told g =
        flat_map-append tell (firsts g ++ flat_map (second g) (range_with_len 0 c.rounds)) (flat_map (third g) (range_with_len 0 c.rounds))
        ∙ ap (λ l. flat_map tell (firsts g ++ flat_map (second g) (range_with_len 0 c.rounds)) ++ l)
        (flat_flat tell (third g) (range_with_len 0 c.rounds) ∙ flat_none (λ r. flat_map tell (third g r)) (range_with_len 0 c.rounds) (λ r. silent Answer g r (filter (λ i. nat_lt 0 (takes_at xs (tag_of Announcement g r i) t)) (members_of s g r)) refl))
        ∙ nothing_after (flat_map tell (firsts g ++ flat_map (second g) (range_with_len 0 c.rounds)))
        ∙ flat_map-append tell (firsts g) (flat_map (second g) (range_with_len 0 c.rounds))
        ∙ ap (λ l. l ++ flat_map tell (flat_map (second g) (range_with_len 0 c.rounds))) (silent Reading g t (if nat_lt t c.rounds then filter (λ i. s.present g t i) (members_of s g t) else []) refl)
        ∙ flat_flat tell (second g) (range_with_len 0 c.rounds)
        ∙ flat_map_same c.rounds 0 (λ r. flat_map tell (second g r)) (at_round (λ r. is_announced s g r past) (in_round g) c.w1 t)
        (λ r above below. told_where ((r + c.w1 == t) && is_announced s g r past) g r (survivors s g r past))

-- ---- a run

module _ (s : Shape) (c : Clock) (fate : ℕ → Tag → List ℕ) (w : Contents) (xs : List Entry) (plan : IsRunPlan s c) (run : IsRunBy s c fate xs) (same : lines_of xs ≡ lines_after s w [] (events_of xs)) where
  abbrev whole_of : Tag → Frame
  whole_of tag = whole_frame s w (events_of (reverse xs)) tag

  told_by_due : (t : ℕ) → announced_at xs t ≡ flat_map (λ g. flat_map (tell whole_of) (due_of s c xs t g)) (range_with_len 0 (length s.groups))
  told_by_due t =
      entries_told whole_of t xs (λ e at tag is.
      sent_line s c fate w xs (run_facts s c fate xs plan run) same tag.group tag.round tag.meter tag.kind e at
      (ap (is_send tag.group tag.round tag.meter tag.kind) is ∙ is_send-itself tag.group tag.round tag.meter tag.kind))
      ∙ ap (flat_map (tell whole_of)) (run.sent t)
      ∙ flat_flat (tell whole_of) (due_of s c xs t) (range_with_len 0 (length s.groups))

  -- the round that closes in the tick
  pub announced_then : (t r : ℕ) → r + c.w1 ≡ t → r < c.rounds
      → announced_at xs t ≡ flat_map (λ g. if is_announced s g r (events_of (reverse xs)) then map (λ i. whole_of (tag_of Announcement g r i)) (survivors s g r (events_of (reverse xs))) else []) (range_with_len 0 (length s.groups))
  announced_then t r is lt =
      told_by_due t
      ∙ flat_map_same (length s.groups) 0 (λ g. flat_map (tell whole_of) (due_of s c xs t g))
      (λ g. if is_announced s g r (reverse (events_of xs)) then map (λ i. whole_of (tag_of Announcement g r i)) (survivors s g r (reverse (events_of xs))) else [])
      (λ g above below.
      due_told whole_of s c xs t g
      ∙ pick_one (λ q. is_announced s g q (reverse (events_of xs))) (in_round whole_of s c xs t g) c.w1 t r c.rounds 0 is (omega arith) (omega (arith, lt)))
      ∙ ap (λ (p : List Event). flat_map (λ g. if is_announced s g r p then map (λ i. whole_of (tag_of Announcement g r i)) (survivors s g r p) else []) (range_with_len 0 (length s.groups))) (sym (events-reverse xs))

  -- no round closes in it
  pub announced_never : (t : ℕ) → ((r : ℕ) → r < c.rounds → r + c.w1 ≡ t → ⊥) → announced_at xs t ≡ []
  announced_never t none =
      told_by_due t
      ∙ flat_none (λ g. flat_map (tell whole_of) (due_of s c xs t g)) (range_with_len 0 (length s.groups))
      (λ g. due_told whole_of s c xs t g ∙ pick_none (λ q. is_announced s g q (reverse (events_of xs))) (in_round whole_of s c xs t g) c.w1 t c.rounds 0 (λ r above below. none r (omega (arith, below))))
