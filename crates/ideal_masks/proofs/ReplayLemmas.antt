-- The loop that makes the events of a transcript again.
use Rattle.std.proofs.Common.{◌≡◌, ℕ, ◌+◌, ◌<◌, ◌≤◌, List, [], ◌∷◌, ◌++◌, length, get_or, take, sym, ap, ◌∙◌, subst, arith}
use Rattle.std.specs.Prelude.{reverse, Some, None, nat_lt}
use Rattle.std.proofs.lemmas.Bool.{and_from, lt-ltb}
use Rattle.std.proofs.lemmas.List.{map-append, reverse-append, reverse-reverse, take_more, take_all}
use Rattle.std.proofs.lemmas.List.Elements.{All-get_or}
use Rattle.group_plan.specs.declared.Tag.{Tag}
use Rattle.group_plan.specs.Plans.{PlanView}
use Rattle.group_plan.specs.Tables.{ReadingsView, presence_of}
use Rattle.meter_frames.specs.declared.Frame.{Frame}
use Rattle.event_schedule.specs.declared.Event.{Event}
use Rattle.event_schedule.specs.declared.Line.{Line}
use Rattle.event_schedule.specs.declared.Line.TheVariants.{Send as SendLine, Take as TakeLine, Close as CloseLine, End as EndLine}
use Rattle.event_schedule.specs.declared.Entry.{Entry}
use Rattle.event_schedule.specs.Events.{event_of, events_of}
use Rattle.event_schedule.specs.Transcripts.{TranscriptView, FitsLine, Fits, IsTranscript}
use Rattle.group_book.specs.Books.{BookView, shape_of, past, posted, posted_in}
use Rattle.event_schedule.specs.Journal.{past_of, HasFramesOf}
use Rattle.ideal_masks.specs.Replaying.{no_contents, IsOfBook, IsBlank, MakesEvent, HasEvents, events_in}

-- a book after the first k entries, with room for the rest
pub record Replaying (x : ReadingsView) (entries : List Entry) (k : ℕ) (b : BookView) : Type 0 where
  pub presence : b.presence ≡ presence_of x
  pub past : past b ≡ reverse (events_of (take k entries))
  pub spare : length entries ≤ b.spare + k
  pub blank : IsBlank b

none_posted : (tag : Tag) (f : Frame) → posted_in tag [] ≡ Some f → ⊥
unfolding posted
none_posted tag f h = cc h

pub replaying-none : (x : ReadingsView) (entries : List Entry) (made room : BookView) → made.presence ≡ presence_of x → made.journal ≡ [] → room.presence ≡ made.presence → room.journal ≡ made.journal
    → length entries ≤ room.spare → Replaying x entries 0 room
replaying-none x entries made room presence journal presence_kept journal_kept spare = record {
  presence = presence_kept ∙ presence;
  past = ap past_of (journal_kept ∙ journal);
  spare = omega (arith, spare);
  blank = record {
    sent = subst (λ j. HasFramesOf (shape_of room) no_contents [] j) (sym (journal_kept ∙ journal)) tt;
    posted = λ tag f h. absurd (none_posted tag f (sym (ap (posted_in tag) (journal_kept ∙ journal)) ∙ h));
  };
}

events-push : (xs : List Entry) (e : Entry) → reverse (events_of (xs ++ e ∷ [])) ≡ event_of e.line ∷ reverse (events_of xs)
events-push xs e = ap reverse (map-append (λ (z : Entry). event_of z.line) xs (e ∷ [])) ∙ reverse-append (events_of xs) (event_of e.line ∷ [])

pub replaying-more : (x : ReadingsView) (entries : List Entry) (k : ℕ) (e : Entry) (event : Event) (b c : BookView) → e ≡ get_or entries k e → k < length entries → event ≡ event_of e.line
    → Replaying x entries k b → MakesEvent b event c → Replaying x entries (k + 1) c
replaying-more x entries k e event b c is lt of before makes =
    let at : take (k + 1) entries ≡ take k entries ++ e ∷ [] = take_more entries k e lt ∙ ap (λ z. take k entries ++ z ∷ []) (sym is) in
    record {
      presence = makes.presence ∙ before.presence;
      past = makes.past ∙ ap (λ z. z ∷ past b) of ∙ ap (λ p. event_of e.line ∷ p) before.past ∙ sym (ap (λ l. reverse (events_of l)) at ∙ events-push (take k entries) e);
      spare = let room = before.spare in let kept = makes.spare in omega arith;
      blank = makes.blank;
    }

-- an entry that fits the plan is of an event of the book
pub of_book : (plan : PlanView) (fate : List ℕ) (l : Line) (b : BookView) → b.presence.plan ≡ plan → FitsLine plan fate l → IsOfBook b (event_of l)
of_book plan fate (SendLine tag None) b same fits = rw same fits.0
of_book plan fate (SendLine tag (Some frame)) b same fits = rw same fits.0
of_book plan fate (TakeLine tag v) b same fits = rw same fits.0
of_book plan fate (CloseLine g r closing) b same fits = rw same (and_from (nat_lt g (length plan.groups)) (nat_lt r plan.rounds) (lt-ltb g (length plan.groups) fits.0.group) (lt-ltb r plan.rounds fits.0.round))
of_book plan fate (EndLine g r ending) b same fits = rw same (and_from (nat_lt g (length plan.groups)) (nat_lt r plan.rounds) (lt-ltb g (length plan.groups) fits.0.group) (lt-ltb r plan.rounds fits.0.round))

pub replaying-event : (x : ReadingsView) (t : TranscriptView) (k : ℕ) (e : Entry) (event : Event) (b : BookView) → IsTranscript t → t.plan ≡ x.plan → e ≡ get_or t.entries k e → k < length t.entries → event ≡ event_of e.line
    → Replaying x t.entries k b → IsOfBook b event
replaying-event x t k e event b fits plan is lt of before =
    let here : Fits t.plan e = rw (sym is) at (All-get_or (Fits t.plan) t.entries k e lt fits.fit) in
    rw of (of_book t.plan e.fate e.line b (ap (λ p. p.plan) before.presence ∙ sym plan) here)

pub replayed : (x : ReadingsView) (entries : List Entry) (k : ℕ) (b : BookView) → length entries ≤ k → Replaying x entries k b → HasEvents x (events_of entries) b
replayed x entries k b past_end made = record {
  presence = made.presence;
  past = made.past ∙ ap (λ l. reverse (events_of l)) (take_all k entries past_end);
}

-- the book's events are these
pub events-same : (x : ReadingsView) (events : List Event) (b : BookView) → HasEvents x events b → events_in b ≡ events
events-same x events b has = sym (reverse-reverse (events_in b)) ∙ ap reverse has.past ∙ reverse-reverse events
