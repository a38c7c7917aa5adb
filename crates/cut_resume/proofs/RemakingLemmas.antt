-- Entries written down one after another.
use Rattle.std.proofs.Common.{◌≡◌, ℕ, ◌+◌, ◌-◌, ◌<◌, ◌≤◌, List, [], ◌∷◌, ◌++◌, length, take, drop, get_or, refl, sym, ap, ◌∙◌, subst, inl, inr, arith, append-nil, append_assoc}
use Rattle.std.specs.List.{All}
use Rattle.std.proofs.lemmas.List.{take_more, drop_more, take-append-drop, get_or-drop, length-drop}
use Rattle.group_plan.specs.Plans.{PlanView}
use Rattle.event_schedule.specs.declared.Entry.{Entry}
use Rattle.event_schedule.specs.Events.{lines_of}
use Rattle.event_schedule.specs.Transcripts.{Fits, NeverFalls, TranscriptView, last_tick_from, no_entries}
use Rattle.run_course.proofs.Members.{all_in, all_from_in, in_append}
use Rattle.cut_resume.specs.declared.remaking.RemadeRun.{RemadeRun}
use Rattle.cut_resume.specs.Left.{at_places}
use Rattle.cut_resume.specs.Remaking.{CanGoOn, GoesOn}
use Rattle.cut_resume.proofs.LeftLemmas.{places_at}

-- ---- ticks

never_falls_at : (a : ℕ) (xs : List Entry) (x : Entry) (ys : List Entry) → NeverFalls a (xs ++ x ∷ ys) → last_tick_from a xs ≤ x.tick
never_falls_at a [] x ys is = is.0
never_falls_at a (z ∷ xs) x ys is = never_falls_at z.tick xs x ys is.1

never_falls_first : (a : ℕ) (xs ys : List Entry) → NeverFalls a (xs ++ ys) → NeverFalls a xs
never_falls_first a [] ys is = tt
never_falls_first a (z ∷ xs) ys is = (is.0, never_falls_first z.tick xs ys is.1)

never_falls_rest : (a : ℕ) (xs ys : List Entry) → NeverFalls a (xs ++ ys) → NeverFalls (last_tick_from a xs) ys
never_falls_rest a [] ys is = is
never_falls_rest a (z ∷ xs) ys is = never_falls_rest z.tick xs ys is.1

last_tick-append : (a : ℕ) (xs ys : List Entry) → last_tick_from a (xs ++ ys) ≡ last_tick_from (last_tick_from a xs) ys
last_tick-append a [] ys = refl
last_tick-append a (z ∷ xs) ys = last_tick-append z.tick xs ys

-- ---- entries that can be written

pub starts : (m : RemadeRun) (plan : PlanView) (entries : List Entry) → m.journal.items ≡ [] → m.draft ≡ no_entries plan → All (Fits plan) entries → NeverFalls 0 entries → CanGoOn m entries
starts m plan entries none empty fits ticks = record {
  made = none ∙ sym (ap (λ (t : TranscriptView). lines_of t.entries) empty);
  fits = subst (λ (t : TranscriptView). All (Fits t.plan) entries) (sym empty) fits;
  ticks = subst (λ (t : TranscriptView). NeverFalls (last_tick_from 0 t.entries) entries) (sym empty) ticks;
}

pub can_first : (m : RemadeRun) (xs ys : List Entry) → CanGoOn m (xs ++ ys) → CanGoOn m xs
can_first m xs ys can = record {
  made = can.made;
  fits = all_from_in (Fits m.draft.plan) xs (λ x at. all_in (Fits m.draft.plan) (xs ++ ys) can.fits x (in_append x xs ys (inl at)));
  ticks = never_falls_first (last_tick_from 0 m.draft.entries) xs ys can.ticks;
}

pub can_rest : (old m : RemadeRun) (xs ys : List Entry) → CanGoOn old (xs ++ ys) → GoesOn old xs m → CanGoOn m ys
can_rest old m xs ys can goes = record {
  made = goes.made;
  fits = subst (λ (t : TranscriptView). All (Fits t.plan) ys) (sym goes.draft) (all_from_in (Fits old.draft.plan) ys (λ y at. all_in (Fits old.draft.plan) (xs ++ ys) can.fits y (in_append y xs ys (inr at))));
  ticks = subst (λ (t : TranscriptView). NeverFalls (last_tick_from 0 t.entries) ys) (sym goes.draft)
      (subst (λ n. NeverFalls n ys) (sym (last_tick-append 0 old.draft.entries xs)) (never_falls_rest (last_tick_from 0 old.draft.entries) xs ys can.ticks));
}

pub can_next : (old m : RemadeRun) (entries xs ys : List Entry) (x : Entry) → entries ≡ xs ++ x ∷ ys → CanGoOn old entries → GoesOn old xs m → CanGoOn m (x ∷ [])
can_next old m entries xs ys x is can goes = can_first m (x ∷ []) ys (can_rest old m xs (x ∷ ys) (subst (CanGoOn old) is can) goes)

pub goes_both : (old m new : RemadeRun) (xs ys : List Entry) → GoesOn old xs m → GoesOn m ys new → GoesOn old (xs ++ ys) new
goes_both old m new xs ys one two = record {
  draft = two.draft ∙ ap (λ (t : TranscriptView). with_more t) one.draft ∙ ap (λ es. made_of old.draft.plan es) (append_assoc old.draft.entries xs ys);
  made = two.made;
}
  where
    made_of : PlanView → List Entry → TranscriptView
    made_of plan entries = record { plan = plan; entries = entries }

    with_more : TranscriptView → TranscriptView
    with_more t = record { plan = t.plan; entries = t.entries ++ ys }

-- ---- at places of a run

pub places_next : (old m : RemadeRun) (run : List Entry) (places : List ℕ) (at d : ℕ) (x : Entry) → at < length places → All (λ k. k < length run) places → x ≡ get_or run (get_or places at d) x
    → CanGoOn old (at_places run places) → GoesOn old (at_places run (take at places)) m → CanGoOn m (x ∷ [])
places_next old m run places at d x lt within is can goes =
    can_next old m (at_places run places) (at_places run (take at places)) (at_places run (drop (at + 1) places) ++ []) x (sym (append-nil (at_places run places)) ∙ places_at run places at d x [] lt within is) can goes

-- ---- from a place on

from_at : (entries : List Entry) (from at : ℕ) (x : Entry) → from ≤ at → at < length entries → x ≡ get_or entries at x
    → (get_or (drop from entries) (at - from) x ≡ x) × (at - from < length (drop from entries))
from_at entries from at x low lt is = (
  get_or-drop from entries (at - from) x ∙ ap (λ k. get_or entries k x) (omega (arith, low)) ∙ sym is,
  omega (arith, low, lt, length-drop from entries),
)

pub from_next : (old m : RemadeRun) (entries : List Entry) (from at : ℕ) (x : Entry) → from ≤ at → at < length entries → x ≡ get_or entries at x
    → CanGoOn old (drop from entries) → GoesOn old (take (at - from) (drop from entries)) m → CanGoOn m (x ∷ [])
from_next old m entries from at x low lt is can goes =
    let es = drop from entries in
    let here = from_at entries from at x low lt is in
    can_next old m es (take (at - from) es) (drop (at - from + 1) es) x
    (sym (take-append-drop (at - from) es) ∙ ap (λ l. take (at - from) es ++ l) (drop_more es (at - from) x here.1 ∙ ap (λ z. z ∷ drop (at - from + 1) es) here.0)) can goes

pub from_more : (old m new : RemadeRun) (entries : List Entry) (from at : ℕ) (x : Entry) → from ≤ at → at < length entries → x ≡ get_or entries at x
    → GoesOn old (take (at - from) (drop from entries)) m → GoesOn m (x ∷ []) new → GoesOn old (take (at + 1 - from) (drop from entries)) new
from_more old m new entries from at x low lt is goes more =
    let es = drop from entries in
    let here = from_at entries from at x low lt is in
    let next : at + 1 - from ≡ at - from + 1 = omega (arith, low) in
    subst (λ l. GoesOn old l new) (sym (ap (λ n. take n es) next ∙ take_more es (at - from) x here.1 ∙ ap (λ z. take (at - from) es ++ z ∷ []) here.0))
    (goes_both old m new (take (at - from) es) (x ∷ []) goes more)
