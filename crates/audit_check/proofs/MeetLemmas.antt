-- Who has a reading, with one line more.
use Rattle.std.proofs.Common.{◌≡◌, ℕ, Bool, true, false, not, ◌&&◌, ◌||◌, List, [], ◌∷◌, ◌++◌, refl, sym, ap, ◌∙◌, subst, inl, inr}
use Rattle.std.specs.Prelude.{◌==◌, if◌then◌else◌, is_some, Option, None}
use Rattle.std.specs.List.{list_any}
use mathlib.Core.Path.{fun_ext}
use Rattle.std.proofs.lemmas.Bool.{false≢true, cases_Bool, and_parts, and_from, eqb-true, eq-eqb}
use Rattle.std.proofs.Math.Bool.{and-false}
use Rattle.group_plan.specs.declared.Kind.TheVariants.{Reading}
use Rattle.group_plan.specs.declared.Tag.{Tag}
use Rattle.group_plan.specs.Plans.{Group, PlanView, is_member}
use Rattle.group_plan.specs.Tables.{PresenceView, is_present, is_same_place, NotesReading}
use Rattle.meter_frames.specs.declared.Frame.{Frame}
use Rattle.event_schedule.specs.declared.Event.{Event}
use Rattle.event_schedule.specs.declared.Event.TheVariants.{Send}
use Rattle.event_schedule.specs.declared.Line.{Line}
use Rattle.event_schedule.specs.Events.{once, event_of, frame_of, is_send}
use Rattle.event_schedule.specs.Schedule.{shape_of_presence}
use Rattle.event_schedule.specs.Frames.{first_frame, shape_of_lines}
use Rattle.event_schedule.specs.Journal.{past_of}
use Rattle.event_schedule.proofs.EventLemmas.{is_send-true, is_send-itself}
use Rattle.event_schedule.proofs.ScheduleLemmas.{once-cons}
use Rattle.group_book.specs.Books.{BookView}
use Rattle.group_book.proofs.LineLemmas.{past_of-push}
use Rattle.frame_presence.specs.Presence.{IsPresenceOf}
use Rattle.audit_check.specs.Following.{is_met, AreSeen, Meets}
use Rattle.audit_check.proofs.PrefixLemmas.{once-any}

-- ---- one line more

met-push : (g r i : ℕ) (j : List Line) (l : Line) → is_met (j ++ l ∷ []) g r i ≡ (is_send g r i Reading (event_of l) || is_met j g r i)
met-push g r i j l = ap (once (λ e _. is_send g r i Reading e)) (past_of-push j l) ∙ once-cons (λ e _. is_send g r i Reading e) (event_of l) (past_of j)

first-any : (g r i : ℕ) (j : List Line) (l : Line)
    → first_frame g r i (j ++ l ∷ []) ≡ (if not (list_any (λ x. is_send g r i Reading (event_of x)) j) && is_send g r i Reading (event_of l) then frame_of l else first_frame g r i j)
first-any g r i [] l = refl
first-any g r i (x ∷ j) l = by_case (is_send g r i Reading (event_of x)) (first-any g r i j l)
  where
    by_case : (q : Bool) → first_frame g r i (j ++ l ∷ []) ≡ (if not (list_any (λ x. is_send g r i Reading (event_of x)) j) && is_send g r i Reading (event_of l) then frame_of l else first_frame g r i j)
        → (if q then frame_of x else first_frame g r i (j ++ l ∷ []))
        ≡ (if not (q || list_any (λ x. is_send g r i Reading (event_of x)) j) && is_send g r i Reading (event_of l) then frame_of l else (if q then frame_of x else first_frame g r i j))
    by_case true later = refl
    by_case false later = later

first-push : (g r i : ℕ) (j : List Line) (l : Line) → first_frame g r i (j ++ l ∷ []) ≡ (if not (is_met j g r i) && is_send g r i Reading (event_of l) then frame_of l else first_frame g r i j)
first-push g r i j l =
    first-any g r i j l ∙ ap (λ q. if not q && is_send g r i Reading (event_of l) then frame_of l else first_frame g r i j) (sym (once-any (is_send g r i Reading) j))

-- no Send, no frame
none-any : (g r i : ℕ) (j : List Line) → list_any (λ x. is_send g r i Reading (event_of x)) j ≡ false → first_frame g r i j ≡ None
none-any g r i [] none = refl
none-any g r i (x ∷ j) none = by_case (is_send g r i Reading (event_of x)) none (none-any g r i j)
  where
    by_case : (q : Bool) → (q || list_any (λ x. is_send g r i Reading (event_of x)) j) ≡ false → (list_any (λ x. is_send g r i Reading (event_of x)) j ≡ false → first_frame g r i j ≡ None)
        → (if q then frame_of x else first_frame g r i j) ≡ None
    by_case true none later = absurd (false≢true (sym none))
    by_case false none later = later none

first-none : (g r i : ℕ) (j : List Line) → is_met j g r i ≡ false → first_frame g r i j ≡ None
first-none g r i j none = none-any g r i j (sym (once-any (is_send g r i Reading) j) ∙ none)

-- ---- a line that is the first Send of no member's reading

same_present : (m s t : Bool) (f h : Option Frame) → (s && m && not t) ≡ false → (m && is_some f) ≡ (m && is_some (if not t && s then h else f))
same_present true true true f h old = refl
same_present true true false f h old = absurd (false≢true (sym old))
same_present true false true f h old = refl
same_present true false false f h old = refl
same_present false s t f h old = refl

same_seen : (m s t : Bool) → (s && m && not t) ≡ false → (m && t) ≡ (m && (s || t))
same_seen true true true old = refl
same_seen true true false old = absurd (false≢true (sym old))
same_seen true false t old = refl
same_seen false s t old = refl

same_shape : (p : PresenceView) (groups : List Group) (present : ℕ → ℕ → ℕ → Bool) → p.plan.groups ≡ groups → ((g r i : ℕ) → is_present p.table g r i ≡ present g r i) → shape_of_presence p ≡ record { groups = groups; present = present }
same_shape p groups present same is = λ k. record {
  groups = same k;
  present = fun_ext (λ g. fun_ext (λ r. fun_ext (λ i. is g r i))) k;
}

module _ (b : BookView) (l : Line) (seen : PresenceView) (shape : shape_of_presence b.presence ≡ shape_of_lines b.presence.plan.groups b.journal) (are : AreSeen b.presence.plan b.journal seen) where
  abbrev groups : List Group
  groups = b.presence.plan.groups

  abbrev member : ℕ → ℕ → ℕ → Bool
  member g r i = is_member groups g r i

  abbrev sends : ℕ → ℕ → ℕ → Bool
  sends g r i = is_send g r i Reading (event_of l)

  abbrev met : ℕ → ℕ → ℕ → Bool
  met g r i = is_met b.journal g r i

  present_is : (g r i : ℕ) → is_present b.presence.table g r i ≡ (member g r i && is_some (first_frame g r i b.journal))
  present_is g r i = ap (λ s. s.present g r i) shape

  -- elsewhere than at the first Send of a member's reading
  present_stays : (g r i : ℕ) → (sends g r i && member g r i && not (met g r i)) ≡ false → is_present b.presence.table g r i ≡ (member g r i && is_some (first_frame g r i (b.journal ++ l ∷ [])))
  present_stays g r i old =
      present_is g r i ∙ same_present (member g r i) (sends g r i) (met g r i) (first_frame g r i b.journal) (frame_of l) old
      ∙ ap (λ f. member g r i && is_some f) (sym (first-push g r i b.journal l))

  seen_stays : (g r i : ℕ) → (sends g r i && member g r i && not (met g r i)) ≡ false → is_present seen.table g r i ≡ (member g r i && is_met (b.journal ++ l ∷ []) g r i)
  seen_stays g r i old =
      are.seen_is g r i ∙ same_seen (member g r i) (sends g r i) (met g r i) old ∙ ap (λ q. member g r i && q) (sym (met-push g r i b.journal l))

  all_stay : ((g r i : ℕ) → (sends g r i && member g r i && not (met g r i)) ≡ false) → Meets b l b seen
  all_stay old = record {
    plan = refl;
    journal = refl;
    spare = refl;
    shape = same_shape b.presence groups (λ g r i. member g r i && is_some (first_frame g r i (b.journal ++ l ∷ []))) refl (λ g r i. present_stays g r i (old g r i));
    seen = record { plan_is = are.plan_is; seen_is = λ g r i. seen_stays g r i (old g r i) };
  }

  -- a line that sends no reading
  pub none_met : ((g r i : ℕ) → sends g r i ≡ false) → Meets b l b seen
  none_met none = all_stay (λ g r i. ap (λ q. q && member g r i && not (met g r i)) (none g r i))

  module _ (tag : Tag) (reading : tag.kind ≡ Reading) (event : event_of l ≡ Send tag) where
    abbrev here : ℕ → ℕ → ℕ → Bool
    here g r i = is_same_place tag.group tag.round tag.meter g r i

    -- it sends the reading of its tag alone
    sends_elsewhere : (g r i : ℕ) → here g r i ≡ false → sends g r i ≡ false
    sends_elsewhere g r i other =
        elim (cases_Bool (sends g r i)) [
          | inl now ↦
              let same : event_of l ≡ Send (record { group = g; round = r; meter = i; kind = Reading }) = is_send-true g r i Reading (event_of l) now in
              let tags : ◌≡◌ {A = Event} (Send tag) (Send (record { group = g; round = r; meter = i; kind = Reading })) = sym event ∙ same in
              absurd (false≢true (sym other ∙ at_tag tag (record { group = g; round = r; meter = i; kind = Reading }) tags))
          | inr none ↦ none
        ]
      where
        tag_same : (a c : Tag) → ◌≡◌ {A = Event} (Send a) (Send c) → a ≡ c
        tag_same a c e = cc

        at_tag : (a c : Tag) → ◌≡◌ {A = Event} (Send a) (Send c) → is_same_place a.group a.round a.meter c.group c.round c.meter ≡ true
        at_tag a c e =
            let same : a ≡ c = tag_same a c e in
            and_from _ _ (and_from _ _ (eq-eqb c.group a.group (ap (λ (x : Tag). x.group) (sym same))) (eq-eqb c.round a.round (ap (λ (x : Tag). x.round) (sym same)))) (eq-eqb c.meter a.meter (ap (λ (x : Tag). x.meter) (sym same)))

    sends_here : sends tag.group tag.round tag.meter ≡ true
    sends_here =
        ap (is_send tag.group tag.round tag.meter Reading) event
        ∙ ap (λ k. is_send tag.group tag.round tag.meter k (Send tag)) (sym reading) ∙ is_send-itself tag.group tag.round tag.meter tag.kind

    -- a place is the tag's or another
    at_place : (P : ℕ → ℕ → ℕ → Type 0) → P tag.group tag.round tag.meter → ((g r i : ℕ) → here g r i ≡ false → P g r i) → (g r i : ℕ) → P g r i
    at_place P own others g r i =
        elim (cases_Bool (here g r i)) [
          | inl same ↦
              let last = and_parts ((g == tag.group) && (r == tag.round)) (i == tag.meter) same in
              let first = and_parts (g == tag.group) (r == tag.round) last.0 in
              subst (λ x. P x r i) (sym (eqb-true g tag.group first.0)) (subst (λ y. P tag.group y i) (sym (eqb-true r tag.round first.1)) (subst (λ z. P tag.group tag.round z) (sym (eqb-true i tag.meter last.1)) own))
          | inr other ↦ others g r i other
        ]

    abbrev first : Bool
    first = member tag.group tag.round tag.meter && not (is_present seen.table tag.group tag.round tag.meter)

    first_is : first ≡ (member tag.group tag.round tag.meter && not (met tag.group tag.round tag.meter))
    first_is = ap (λ q. member tag.group tag.round tag.meter && not q) (are.seen_is tag.group tag.round tag.meter) ∙ once_more (member tag.group tag.round tag.meter) (met tag.group tag.round tag.meter)
      where
        once_more : (m t : Bool) → (m && not (m && t)) ≡ (m && not t)
        once_more true t = refl
        once_more false t = refl

    -- one that isn't the first Send of a member's reading
    pub old_met : first ≡ false → Meets b l b seen
    old_met isnt = all_stay (at_place (λ g r i. (sends g r i && member g r i && not (met g r i)) ≡ false) own (λ g r i other. ap (λ q. q && member g r i && not (met g r i)) (sends_elsewhere g r i other)))
      where
        own : (sends tag.group tag.round tag.meter && member tag.group tag.round tag.meter && not (met tag.group tag.round tag.meter)) ≡ false
        own = ap (λ q. q && member tag.group tag.round tag.meter && not (met tag.group tag.round tag.meter)) sends_here ∙ sym first_is ∙ isnt

    module _ (is : first ≡ true) where
      parts : (member tag.group tag.round tag.meter ≡ true) × (not (met tag.group tag.round tag.meter) ≡ true)
      parts = and_parts (member tag.group tag.round tag.meter) (not (met tag.group tag.round tag.meter)) (sym first_is ∙ is)

      -- no Send of it came
      pub unmet : met tag.group tag.round tag.meter ≡ false
      unmet = turned (met tag.group tag.round tag.meter) parts.1
        where
          turned : (q : Bool) → not q ≡ true → q ≡ false
          turned true isnt = absurd (false≢true isnt)
          turned false isnt = refl

      old_elsewhere : (g r i : ℕ) → here g r i ≡ false → (sends g r i && member g r i && not (met g r i)) ≡ false
      old_elsewhere g r i other = ap (λ q. q && member g r i && not (met g r i)) (sends_elsewhere g r i other)

      seen_now : (new : PresenceView) → NotesReading seen tag.group tag.round tag.meter new → AreSeen b.presence.plan (b.journal ++ l ∷ []) new
      seen_now new notes = record {
        plan_is = notes.plan ∙ are.plan_is;
        seen_is = at_place (λ g r i. is_present new.table g r i ≡ (member g r i && is_met (b.journal ++ l ∷ []) g r i))
            (notes.here ∙ sym (ap (λ q. q && is_met (b.journal ++ l ∷ []) tag.group tag.round tag.meter) parts.0
            ∙ met-push tag.group tag.round tag.meter b.journal l ∙ ap (λ q. q || met tag.group tag.round tag.meter) sends_here))
            (λ g r i other. notes.elsewhere g r i other ∙ seen_stays g r i (old_elsewhere g r i other));
      }

      -- what the first Send shows
      first_shows : first_frame tag.group tag.round tag.meter (b.journal ++ l ∷ []) ≡ frame_of l
      first_shows =
          first-push tag.group tag.round tag.meter b.journal l
          ∙ ap (λ q. if not q && sends tag.group tag.round tag.meter then frame_of l else first_frame tag.group tag.round tag.meter b.journal) unmet
          ∙ ap (λ q. if q then frame_of l else first_frame tag.group tag.round tag.meter b.journal) sends_here

      shown : (q : Bool) → is_some (frame_of l) ≡ q → (member tag.group tag.round tag.meter && is_some (first_frame tag.group tag.round tag.meter (b.journal ++ l ∷ []))) ≡ q
      shown q has = ap (λ m. m && is_some (first_frame tag.group tag.round tag.meter (b.journal ++ l ∷ []))) parts.0 ∙ ap is_some first_shows ∙ has

      -- it has a frame
      pub present_met : (c : BookView) (new : PresenceView) → NotesReading seen tag.group tag.round tag.meter new → is_some (frame_of l) ≡ true → NotesReading b.presence tag.group tag.round tag.meter c.presence → c.journal ≡ b.journal
          → c.spare ≡ b.spare → Meets b l c new
      present_met c new sees has notes journal spare = record {
        plan = notes.plan;
        journal = journal;
        spare = spare;
        shape = same_shape c.presence groups (λ g r i. member g r i && is_some (first_frame g r i (b.journal ++ l ∷ []))) (ap (λ (p : PlanView). p.groups) notes.plan)
            (at_place (λ g r i. is_present c.presence.table g r i ≡ (member g r i && is_some (first_frame g r i (b.journal ++ l ∷ []))))
            (notes.here ∙ sym (shown true has)) (λ g r i other. notes.elsewhere g r i other ∙ present_stays g r i (old_elsewhere g r i other)));
        seen = seen_now new sees;
      }

      -- it has none
      pub absent_met : (new : PresenceView) → NotesReading seen tag.group tag.round tag.meter new → is_some (frame_of l) ≡ false → Meets b l b new
      absent_met new sees has = record {
        plan = refl;
        journal = refl;
        spare = refl;
        shape = same_shape b.presence groups (λ g r i. member g r i && is_some (first_frame g r i (b.journal ++ l ∷ []))) refl
            (at_place (λ g r i. is_present b.presence.table g r i ≡ (member g r i && is_some (first_frame g r i (b.journal ++ l ∷ []))))
            (present_is tag.group tag.round tag.meter
            ∙ ap (λ f. member tag.group tag.round tag.meter && is_some f) (first-none tag.group tag.round tag.meter b.journal unmet) ∙ and-false (member tag.group tag.round tag.meter) ∙ sym (shown false has))
            (λ g r i other. present_stays g r i (old_elsewhere g r i other)));
        seen = seen_now new sees;
      }

-- ---- no line

none_met_yet : (g r i : ℕ) → is_met [] g r i ≡ false
unfolding once
none_met_yet g r i = refl

-- nobody has a reading, and no Send came
pub none_seen : (plan : PlanView) (p : PresenceView) → IsPresenceOf plan [] p → AreSeen plan [] p
none_seen plan p is = record {
  plan_is = is.plan_is;
  seen_is = λ g r i. ap (λ s. s.present g r i) is.shape_is ∙ ap (λ q. is_member plan.groups g r i && q) (sym (none_met_yet g r i));
}
