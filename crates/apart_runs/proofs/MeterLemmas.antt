-- What a meter that is given a run says are its frames of the run.
use Rattle.std.proofs.Common.{◌≡◌, ℕ, zero, suc, ◌^◌, ◌<◌, Bool, true, false, not, ◌&&◌, List, [], ◌∷◌, ◌++◌, map, ◌⊎◌, refl, sym, ap, ◌∙◌, subst, ⊎_elim, inl, inr}
use Rattle.std.specs.Prelude.{◌==◌, All, Contains, if◌then◌else◌, unwrap_or, Option, Some, None, is_some}
use mathlib.Core.List.{reverse}
use Rattle.std.proofs.lemmas.Bool.{false≢true, and_from, and_parts, eqb-true, eq-eqb}
use Rattle.std.proofs.lemmas.List.Elements.{All-nil, All-cons, All-contains, Contains-append_left, Contains-append_right, Contains-push}
use Rattle.missing_round.specs.Masks.{Masks}
use Rattle.missing_round.specs.Words.{reading_word}
use Rattle.group_plan.specs.declared.Kind.{Kind}
use Rattle.group_plan.specs.declared.Kind.TheVariants.{Reading, Announcement, Answer}
use Rattle.group_plan.specs.declared.Tag.{Tag}
use Rattle.group_plan.specs.Plans.{PlanView, members}
use Rattle.meter_frames.specs.declared.Frame.{Frame}
use Rattle.event_schedule.specs.declared.Event.{Event}
use Rattle.event_schedule.specs.declared.Event.TheVariants.{Send, Take, Close, End}
use Rattle.event_schedule.specs.declared.Line.{Line}
use Rattle.event_schedule.specs.declared.Line.TheVariants as lines
use Rattle.event_schedule.specs.declared.Entry.{Entry}
use Rattle.event_schedule.specs.Events.{same_kind, is_tag, is_send, is_take, events_of, lines_of, event_of}
use Rattle.event_schedule.specs.Tables.{Readings, reading_at}
use Rattle.event_schedule.specs.Schedule.{Shape}
use Rattle.event_schedule.specs.Transcript.{Contents, shape_of_readings, contents_of_tables, lines_after}
use Rattle.event_schedule.proofs.EventLemmas.{is_send-itself}
use Rattle.run_rows.specs.Ticks.{clock_of, IsRunPlan, tag_of}
use Rattle.run_rows.proofs.TickLemmas.{Member, Stands, TickFacts}
use Rattle.run_rows.proofs.TickRun.{member_from_append, member_flat_map, member_from_flat_map, member_map, member_from_map}
use Rattle.meter_apart.specs.declared.answers.Noted.{Noted}
use Rattle.meter_apart.specs.declared.part.Part.{Part}
use Rattle.meter_apart.specs.Parts.{members_in}
use Rattle.meter_apart.proofs.LawLemmas.{own_words}
use Rattle.apart_courses.specs.Steps.{IsPartOf, HasOwnWords}
use Rattle.apart_runs.specs.Carried.{is_from_head, frames_in, frames_sent, is_of_meter, told_by, told_at, own_by, own_at}
use Rattle.apart_runs.specs.MeterRuns.{Asked, ToRead, ToHear, to_read, asked_at, after_asked, says_all, after_all, notes_after, said_at, frame_for, IsMeterOf}
use Rattle.apart_runs.proofs.FrameLemmas.{whole_frame, member_of, stands, sent_line, taken_frame}
use Rattle.apart_runs.proofs.HeadLemmas.{tag_is}
use Rattle.apart_runs.proofs.NoteLemmas.{IsNoted, noted_first, noted_none, Says, reads_so, hears_so, members_are, lacks}

-- ---- lists

either_part : {X : Type 0} (e : X) (xs ys : List X) → Member e xs ⊎ Member e ys → Member e (xs ++ ys)
either_part e [] ys at = ⊎_elim (λ none. absurd none) (λ there. there) at
either_part e (x ∷ xs) ys at =
    ⊎_elim (λ first. ⊎_elim (λ here. inl here) (λ there. inr (either_part e xs ys (inl there))) first) (λ second. inr (either_part e xs ys (inr second))) at

each_of : {X : Type 0} (P : X → Type 0) (xs : List X) → ((e : X) → Member e xs → P e) → All P xs
each_of P [] each = All-nil P
each_of P (x ∷ xs) each = All-cons P x xs (each x (inl refl)) (each_of P xs (λ e at. each e (inr at)))

member_from : {X : Type 0} (xs : List X) (e : X) → Contains xs e → Member e xs
member_from xs e has = All-contains (λ y. Member y xs) xs e (each_of (λ y. Member y xs) xs (λ y at. at)) has

contains_from : {X : Type 0} (xs : List X) (e : X) → Member e xs → Contains xs e
contains_from [] e at = absurd at
contains_from (x ∷ xs) e at = ⊎_elim
    (λ here. subst (Contains (x ∷ xs)) here (Contains-append_left (x ∷ []) xs x (Contains-push [] x)))
    (λ there. Contains-append_right (x ∷ []) xs e (contains_from xs e there))
    at

in_where : {X : Type 0} (e : X) (b : Bool) (xs : List X) → Member e (if b then xs else []) → (b ≡ true) × Member e xs
in_where e true xs at = (refl, at)
in_where e false xs at = absurd at

where_in : {X : Type 0} (e : X) (b : Bool) (xs : List X) → b ≡ true → Member e xs → Member e (if b then xs else [])
where_in e b xs is at = subst (λ c. Member e (if c then xs else [])) (sym is) at

of_option : {X : Type 0} (o : Option X) (x : X) → o ≡ Some x → is_some o ≡ true
of_option o x is = ap is_some is

-- ---- kinds and tags

announcing : (k : Kind) → is_from_head k ≡ true → same_kind k Announcement ≡ true
announcing Reading is = absurd (false≢true is)
announcing Announcement is = refl
announcing Answer is = absurd (false≢true is)

unannouncing : (b : Bool) → not b ≡ true → b ≡ false
unannouncing true is = absurd (false≢true is)
unannouncing false is = refl

take_is : (g r i : ℕ) (k : Kind) (v : Event) → is_take g r i k v ≡ true → v ≡ Take (tag_of k g r i)
take_is g r i k (Take tag) is = ap Take (tag_is g r i k tag is)
take_is g r i k (Send tag) is = absurd (false≢true is)
take_is g r i k (Close a b) is = absurd (false≢true is)
take_is g r i k (End a b) is = absurd (false≢true is)

own_tag_is : (g i : ℕ) (tag : Tag) → is_of_meter g i tag ≡ true → tag ≡ tag_of tag.kind g tag.round i
own_tag_is g i tag is =
    let both = and_parts (tag.group == g) (tag.meter == i) is in
    let group : tag.group ≡ g = eqb-true tag.group g both.0 in
    let meter : tag.meter ≡ i = eqb-true tag.meter i both.1 in
    λ j. record { group = group j; round = tag.round; meter = meter j; kind = tag.kind }

module _ (plan : PlanView) (x : Readings) (m : Masks) (fate : ℕ → Tag → List ℕ) (xs : List Entry)
    (can : IsRunPlan (shape_of_readings plan.groups x) (clock_of plan)) (facts : TickFacts (shape_of_readings plan.groups x) (clock_of plan) fate (reverse xs))
    (same : lines_of xs ≡ lines_after (shape_of_readings plan.groups x) (contents_of_tables plan.groups x m) [] (events_of xs))
    (small : (g r i : ℕ) → reading_at x g r i < 2 ^ 40) (part : Part) (own : Masks) (is_part : IsPartOf plan part.group part.meter part) (has_own : HasOwnWords part.group part.meter own m) where
  abbrev s : Shape
  s = shape_of_readings plan.groups x

  abbrev w : Contents
  w = contents_of_tables plan.groups x m

  -- the run's frame of the meter, in a round
  abbrev whole : Kind → ℕ → Frame
  whole k r = whole_frame s w (events_of (reverse xs)) (tag_of k part.group r part.meter)

  abbrev Took : ℕ → ℕ → Type 0
  Took r t = Stands (is_take part.group r part.meter Announcement) t (reverse xs)

  -- ---- the announcements that reach it

  record IsTold (t : ℕ) (f : Frame) : Type 0 where
    round : ℕ
    frame_is : f ≡ whole Announcement round
    take : Took round t

  -- those that an event brings
  told_line : (t : ℕ) (f : Frame) (e : Entry) → Member e xs → e.tick ≡ t → (v : Event) → event_of e.line ≡ v → Member f (told_by part.group part.meter (lines_of xs) v) → IsTold t f
  told_line t f e member now (Take tag) event at =
      let inside = in_where f (is_from_head tag.kind && is_of_meter part.group part.meter tag) (frames_sent (lines_of xs) tag) at in
      let parts = and_parts (is_from_head tag.kind) (is_of_meter part.group part.meter tag) inside.0 in
      let here : is_tag part.group tag.round part.meter Announcement tag ≡ true
      = and_from ((tag.group == part.group) && (tag.round == tag.round) && (tag.meter == part.meter)) (same_kind tag.kind Announcement)
      (let both = and_parts (tag.group == part.group) (tag.meter == part.meter) parts.1 in
      and_from ((tag.group == part.group) && (tag.round == tag.round)) (tag.meter == part.meter) (and_from (tag.group == part.group) (tag.round == tag.round) both.0 (eq-eqb tag.round tag.round refl)) both.1)
      (announcing tag.kind parts.0) in
      let takes : is_take part.group tag.round part.meter Announcement (event_of e.line) ≡ true = ap (is_take part.group tag.round part.meter Announcement) event ∙ here in
      let sent : frames_sent (lines_of xs) tag ≡ whole Announcement tag.round ∷ []
      = ap (frames_sent (lines_of xs)) (tag_is part.group tag.round part.meter Announcement tag here)
      ∙ ap frames_in (taken_frame s (clock_of plan) fate w xs facts same part.group tag.round part.meter Announcement e member takes) in
      record {
        round = tag.round;
        frame_is = ⊎_elim (λ is. sym is) (λ none. absurd none) (subst (Member f) sent inside.1);
        take = subst (λ u. Stands (is_take part.group tag.round part.meter Announcement) u (reverse xs)) now (stands (is_take part.group tag.round part.meter Announcement) e xs member takes);
      }
  told_line t f e member now (Send tag) event at = absurd at
  told_line t f e member now (Close g r) event at = absurd at
  told_line t f e member now (End g r) event at = absurd at

  told_from : (t : ℕ) (f : Frame) → Member f (told_at part.group part.meter xs t) → IsTold t f
  told_from t f at =
      let found = member_from_flat_map (λ e. if e.tick == t then told_by part.group part.meter (lines_of xs) (event_of e.line) else []) f xs at in
      let inside = in_where f (found.0.tick == t) (told_by part.group part.meter (lines_of xs) (event_of found.0.line)) found.2 in
      told_line t f found.0 found.1 (eqb-true found.0.tick t inside.0) (event_of found.0.line) refl inside.1

  told_to : (t r : ℕ) → Took r t → Member (whole Announcement r) (told_at part.group part.meter xs t)
  told_to t r st =
      let e = st.entry in
      let member = member_of (is_take part.group r part.meter Announcement) t xs st in
      let mine : is_of_meter part.group part.meter (tag_of Announcement part.group r part.meter) ≡ true
      = and_from (part.group == part.group) (part.meter == part.meter) (eq-eqb part.group part.group refl) (eq-eqb part.meter part.meter refl) in
      let one : told_by part.group part.meter (lines_of xs) (event_of e.line) ≡ whole Announcement r ∷ []
      = ap (told_by part.group part.meter (lines_of xs)) (take_is part.group r part.meter Announcement (event_of e.line) st.passes)
      ∙ ap (λ b. if b then frames_sent (lines_of xs) (tag_of Announcement part.group r part.meter) else []) mine
      ∙ ap frames_in (taken_frame s (clock_of plan) fate w xs facts same part.group r part.meter Announcement e member st.passes) in
      member_flat_map (λ z. if z.tick == t then told_by part.group part.meter (lines_of xs) (event_of z.line) else []) (whole Announcement r) e xs member
      (where_in (whole Announcement r) (e.tick == t) (told_by part.group part.meter (lines_of xs) (event_of e.line)) (eq-eqb e.tick t st.when)
      (subst (Member (whole Announcement r)) (sym one) (inl refl)))

  -- ---- the frames that it sends in the run

  record IsSent (t : ℕ) (f : Frame) : Type 0 where
    kind : Kind
    round : ℕ
    is_own : is_from_head kind ≡ false
    frame_is : f ≡ whole kind round
    send : Stands (is_send part.group round part.meter kind) t (reverse xs)

  sent_one : (t : ℕ) (f : Frame) (e : Entry) → Member e xs → e.tick ≡ t → (l : Line) → e.line ≡ l → Member f (own_by part.group part.meter l) → IsSent t f
  sent_one t f e member now (lines.Send tag None) is at = absurd at
  sent_one t f e member now (lines.Send tag (Some h)) is at =
      let inside = in_where f (not (is_from_head tag.kind) && is_of_meter part.group part.meter tag) (h ∷ []) at in
      let parts = and_parts (not (is_from_head tag.kind)) (is_of_meter part.group part.meter tag) inside.0 in
      let tagged : tag ≡ tag_of tag.kind part.group tag.round part.meter = own_tag_is part.group part.meter tag parts.1 in
      let sends : is_send part.group tag.round part.meter tag.kind (event_of e.line) ≡ true
      = ap (λ z. is_send part.group tag.round part.meter tag.kind (event_of z)) is ∙ ap (λ z. is_send part.group tag.round part.meter tag.kind (Send z)) tagged ∙ is_send-itself part.group tag.round part.meter tag.kind in
      let line : e.line ≡ lines.Send (tag_of tag.kind part.group tag.round part.meter) (Some (whole tag.kind tag.round)) = sent_line s (clock_of plan) fate w xs facts same part.group tag.round part.meter tag.kind e member sends in
      record {
        kind = tag.kind;
        round = tag.round;
        is_own = unannouncing (is_from_head tag.kind) parts.0;
        frame_is = ⊎_elim (λ (here : h ≡ f). sym here) (λ none. absurd none) inside.1 ∙ ap (frame_or h) (sym is ∙ line);
        send = subst (λ u. Stands (is_send part.group tag.round part.meter tag.kind) u (reverse xs)) now (stands (is_send part.group tag.round part.meter tag.kind) e xs member sends);
      }
    where
      frame_or : Frame → Line → Frame
      frame_or d (lines.Send z (Some k)) = k
      frame_or d z = d
  sent_one t f e member now (lines.Take tag v) is at = absurd at
  sent_one t f e member now (lines.Close g r v) is at = absurd at
  sent_one t f e member now (lines.End g r v) is at = absurd at

  sent_from : (t : ℕ) (f : Frame) → Member f (own_at part.group part.meter xs t) → IsSent t f
  sent_from t f at =
      let found = member_from_flat_map (λ e. if e.tick == t then own_by part.group part.meter e.line else []) f xs at in
      let inside = in_where f (found.0.tick == t) (own_by part.group part.meter found.0.line) found.2 in
      sent_one t f found.0 found.1 (eqb-true found.0.tick t inside.0) found.0.line refl inside.1

  sent_to : (t r : ℕ) (k : Kind) → is_from_head k ≡ false → Stands (is_send part.group r part.meter k) t (reverse xs) → Member (whole k r) (own_at part.group part.meter xs t)
  sent_to t r k own_kind st =
      let e = st.entry in
      let member = member_of (is_send part.group r part.meter k) t xs st in
      let mine : (not (is_from_head k) && is_of_meter part.group part.meter (tag_of k part.group r part.meter)) ≡ true
      = and_from (not (is_from_head k)) (is_of_meter part.group part.meter (tag_of k part.group r part.meter)) (ap not own_kind)
      (and_from (part.group == part.group) (part.meter == part.meter) (eq-eqb part.group part.group refl) (eq-eqb part.meter part.meter refl)) in
      let one : own_by part.group part.meter e.line ≡ whole k r ∷ []
      = ap (own_by part.group part.meter) (sent_line s (clock_of plan) fate w xs facts same part.group r part.meter k e member st.passes)
      ∙ ap (λ b. if b then whole k r ∷ [] else []) mine in
      member_flat_map (λ z. if z.tick == t then own_by part.group part.meter z.line else []) (whole k r) e xs member
      (where_in (whole k r) (e.tick == t) (own_by part.group part.meter e.line) (eq-eqb e.tick t st.when) (subst (Member (whole k r)) (sym one) (inl refl)))

  -- ---- the frames that it is asked for

  for_reading : (t v : ℕ) → x part.group t part.meter ≡ Some v → frame_for part own (ToRead t v) ≡ whole Reading t
  for_reading t v is =
      let words = own_words part.meter (own.own 0 t) (own.pair 0 t) (m.own part.group t) (m.pair part.group t) (has_own t) (members plan.groups part.group t) [] v in
      let word : reading_word (own.own 0 t) (own.pair 0 t) (members_in part t) part.meter v ≡ reading_word (m.own part.group t) (m.pair part.group t) (members plan.groups part.group t) part.meter (reading_at x part.group t part.meter)
      = ap (λ ms. reading_word (own.own 0 t) (own.pair 0 t) ms part.meter v) (members_are plan x m fate xs can facts small part is_part t)
      ∙ words.0
      ∙ ap (reading_word (m.own part.group t) (m.pair part.group t) (members plan.groups part.group t) part.meter) (sym (ap (λ o. unwrap_or o 0) is)) in
      ap (λ n. record { tag = tag_of Reading part.group t part.meter; missing = []; word = n }) word

  for_answer : (r : ℕ) → frame_for part own (ToHear (whole Announcement r)) ≡ whole Answer r
  for_answer r =
      let set = lacks plan x m fate xs can facts small part is_part r in
      let words = own_words part.meter (own.own 0 r) (own.pair 0 r) (m.own part.group r) (m.pair part.group r) (has_own r) [] set 0 in
      ap (λ n. record { tag = tag_of Answer part.group r part.meter; missing = set; word = n }) words.1

  -- ---- what it says

  record SaysAll (b : ℕ) (j : List Noted) (given : List Asked) : Type 0 where
    said : says_all part own j given ≡ map (frame_for part own) given
    noted : IsNoted plan x m fate xs can facts small part is_part b (after_all part j given)

  hear_all : (t : ℕ) (j : List Noted) (fs : List Frame) → ((f : Frame) → Member f fs → IsTold t f) → IsNoted plan x m fate xs can facts small part is_part (suc t) j → SaysAll (suc t) j (map ToHear fs)
  unfolding says_all after_all
  hear_all t j [] told is = record { said = refl; noted = is }
  hear_all t j (f ∷ fs) told is =
      let here = told f (inl refl) in
      let first : Says plan x m fate xs can facts small part is_part own (suc t) j (ToHear f)
      = subst (λ (h : Frame). Says plan x m fate xs can facts small part is_part own (suc t) j (ToHear h)) (sym here.frame_is)
      (hears_so plan x m fate xs can facts small part is_part own here.round t j is here.take) in
      let rest = hear_all t (after_asked part j (ToHear f)) fs (λ h at. told h (inr at)) first.noted in
      record {
        said = ap (λ l. l ++ says_all part own (after_asked part j (ToHear f)) (map ToHear fs)) first.said ∙ ap (λ l. frame_for part own (ToHear f) ∷ l) rest.said;
        noted = rest.noted;
      }

  tick_said : (t : ℕ) (j : List Noted) (o : Option ℕ) → x part.group t part.meter ≡ o → IsNoted plan x m fate xs can facts small part is_part t j → SaysAll (suc t) j (to_read t o ++ map ToHear (told_at part.group part.meter xs t))
  unfolding says_all after_all
  tick_said t j None none is = hear_all t j (told_at part.group part.meter xs t) (told_from t) (noted_none plan x m fate xs can facts small part is_part t j none is)
  tick_said t j (Some v) some is =
      let first = reads_so plan x m fate xs can facts small part is_part own t v j is some in
      let rest = hear_all t (after_asked part j (ToRead t v)) (told_at part.group part.meter xs t) (told_from t) first.noted in
      record {
        said = ap (λ l. l ++ says_all part own (after_asked part j (ToRead t v)) (map ToHear (told_at part.group part.meter xs t))) first.said ∙ ap (λ l. frame_for part own (ToRead t v) ∷ l) rest.said;
        noted = rest.noted;
      }

  noted_at : (t : ℕ) → IsNoted plan x m fate xs can facts small part is_part t (notes_after part x xs t)
  noted_at zero = noted_first plan x m fate xs can facts small part is_part
  noted_at (suc t) = (tick_said t (notes_after part x xs t) (x part.group t part.meter) refl (noted_at t)).noted

  answers_so : (t : ℕ) → said_at part own x xs t ≡ map (frame_for part own) (asked_at part x xs t)
  answers_so t = (tick_said t (notes_after part x xs t) (x part.group t part.meter) refl (noted_at t)).said

  -- ---- as sets

  asked_reading : (t v : ℕ) (o : Option ℕ) → o ≡ Some v → Member (ToRead t v) (to_read t o)
  asked_reading t v None is = absurd (false≢true (ap is_some is))
  asked_reading t v (Some u) is = inl (ap (ToRead t) (ap (λ o. unwrap_or o 0) is))

  read_from : (t : ℕ) (a : Asked) (o : Option ℕ) → x part.group t part.meter ≡ o → Member a (to_read t o) → Member (frame_for part own a) (own_at part.group part.meter xs t)
  read_from t a None is at = absurd at
  read_from t a (Some v) is at =
      let here : ToRead t v ≡ a = ⊎_elim (λ same. same) (λ none. absurd none) at in
      subst (λ (h : Frame). Member h (own_at part.group part.meter xs t)) (sym (for_reading t v is) ∙ ap (frame_for part own) here)
      (sent_to t t Reading refl (facts.reading_of part.group t part.meter (ap is_some is)))

  heard_from : (t : ℕ) (a : Asked) → Member a (map ToHear (told_at part.group part.meter xs t)) → Member (frame_for part own a) (own_at part.group part.meter xs t)
  heard_from t a at =
      let found = member_from_map ToHear a (told_at part.group part.meter xs t) at in
      let told = told_from t found.0 found.1 in
      subst (λ (h : Frame). Member h (own_at part.group part.meter xs t)) (sym (ap (λ h. frame_for part own (ToHear h)) told.frame_is ∙ for_answer told.round) ∙ ap (frame_for part own) found.2)
      (sent_to t told.round Answer refl (facts.answer_of part.group told.round part.meter t told.take))

  said_sent : (t : ℕ) (f : Frame) → Member f (map (frame_for part own) (asked_at part x xs t)) → Member f (own_at part.group part.meter xs t)
  said_sent t f at =
      let found = member_from_map (frame_for part own) f (asked_at part x xs t) at in
      subst (λ (h : Frame). Member h (own_at part.group part.meter xs t)) found.2
      (⊎_elim (read_from t found.0 (x part.group t part.meter) refl) (heard_from t found.0)
      (member_from_append found.0 (to_read t (x part.group t part.meter)) (map ToHear (told_at part.group part.meter xs t)) found.1))

  sent_said : (t : ℕ) (f : Frame) → IsSent t f → Member f (map (frame_for part own) (asked_at part x xs t))
  sent_said t f is = subst (λ (h : Frame). Member h (map (frame_for part own) (asked_at part x xs t))) (sym is.frame_is) (by is.kind is.round is.is_own is.send)
    where
      value_in : (r : ℕ) (o : Option ℕ) → is_some o ≡ true → (v : ℕ) × (o ≡ Some v)
      value_in r None is = absurd (false≢true is)
      value_in r (Some v) is = (v, refl)

      by : (k : Kind) (r : ℕ) → is_from_head k ≡ false → Stands (is_send part.group r part.meter k) t (reverse xs) → Member (whole k r) (map (frame_for part own) (asked_at part x xs t))
      by Reading r own_kind st =
          let now : t ≡ r = facts.reading_tick part.group r part.meter t st in
          let value = value_in r (x part.group t part.meter) (ap (λ q. is_some (x part.group q part.meter)) now ∙ facts.reading_present part.group r part.meter t st) in
          subst (λ (h : Frame). Member h (map (frame_for part own) (asked_at part x xs t))) (for_reading t value.0 value.1 ∙ ap (whole Reading) now)
          (member_map (frame_for part own) (ToRead t value.0) (asked_at part x xs t)
          (either_part (ToRead t value.0) (to_read t (x part.group t part.meter)) (map ToHear (told_at part.group part.meter xs t)) (inl (asked_reading t value.0 (x part.group t part.meter) value.1))))
      by Announcement r own_kind st = absurd (false≢true (sym own_kind))
      by Answer r own_kind st =
          subst (λ (h : Frame). Member h (map (frame_for part own) (asked_at part x xs t))) (for_answer r)
          (member_map (frame_for part own) (ToHear (whole Announcement r)) (asked_at part x xs t)
          (either_part (ToHear (whole Announcement r)) (to_read t (x part.group t part.meter)) (map ToHear (told_at part.group part.meter xs t))
          (inr (member_map ToHear (whole Announcement r) (told_at part.group part.meter xs t) (told_to t r (facts.answer_from part.group r part.meter t st))))))

  pub meter_so : IsMeterOf part own x xs
  meter_so = record {
    answers = answers_so;
    sent = λ t f has.
        contains_from (own_at part.group part.meter xs t) f (said_sent t f (subst (Member f) (answers_so t) (member_from (said_at part own x xs t) f has)));
    said = λ t f has.
        contains_from (said_at part own x xs t) f (subst (Member f) (sym (answers_so t)) (sent_said t f (sent_from t f (member_from (own_at part.group part.meter xs t) f has))));
  }
