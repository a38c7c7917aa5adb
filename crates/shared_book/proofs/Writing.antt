-- What the calls of pages write, as requests.
use Rattle.std.proofs.Common.{◌≡◌, ◌≤◌, ◌<◌, ◌+◌, ℕ, Bool, ◌&&◌, if◌then◌else◌, List, [], ◌∷◌, ◌++◌, length, Ok, Err, refl, sym, ap, ◌∙◌, subst, append-nil, arith}
use Rattle.std.specs.Prelude.{Option, Some, None, nat_lt}
use Rattle.std.specs.List.{All}
use Rattle.std.proofs.lemmas.Bool.{le-ltb, lt-ltb}
use Rattle.std.proofs.lemmas.List.{append_cancel_left}
use Rattle.std.proofs.lemmas.List.Elements.{All-head}
use Rattle.group_plan.specs.Tables.{PresenceView}
use Rattle.meter_frames.specs.declared.Frame.{Frame}
use Rattle.round_machine.specs.declared.Verdict.{Verdict}
use Rattle.round_machine.specs.declared.Closing.{Closing}
use Rattle.round_machine.specs.declared.Ending.{Ending}
use Rattle.event_schedule.specs.declared.Event.{Event}
use Rattle.event_schedule.specs.declared.Event.TheVariants.{Take, Close, End}
use Rattle.event_schedule.specs.declared.Line.{Line}
use Rattle.event_schedule.specs.Events.{event_of}
use Rattle.event_schedule.specs.Journal.{core_line}
use Rattle.transcript_log.specs.Lines.{LinesView}
use Rattle.event_schedule.specs.Schedule.{shape_of_presence}
use Rattle.group_book.specs.declared.answers.TakeError.{TakeError}
use Rattle.group_book.specs.declared.answers.TakeError.TheVariants.{Unknown, Forged}
use Rattle.group_book.specs.Books.{BookView, posted_of, TakeEnds, CloseEnds, EndEnds}
use Rattle.event_schedule.specs.ByGroup.{group_of}
use Rattle.group_book.specs.Groups.{GroupView}
use Rattle.group_book.specs.Replay.{Replays, PagesEnd, book_at}
use Rattle.shared_book.specs.declared.parcel.Reply.{Reply}
use Rattle.shared_book.specs.declared.parcel.Reply.TheVariants.{Took, Closed, Ended}
use Rattle.shared_book.specs.declared.parcel.Request.{Request}
use Rattle.shared_book.specs.declared.parcel.Request.TheVariants.{Take as TakeRequest, Close as CloseRequest, End as EndRequest}
use Rattle.shared_book.specs.declared.parcel.CommitError.TheVariants.{Take as NotTaken, Place}
use Rattle.shared_book.specs.Parcels.{Judged, Accepted, RefusedFrame, Outside, judged_request, judged_beside, reply_of}
use Rattle.shared_book.specs.Writes.{Writes, Leaves, WriteEnds}
use Rattle.shared_book.proofs.Judging.{known-judged, beside-free, beside-other}

-- one line was added to pages
wrote : (p : PresenceView) (j added : List Line) (request : Request) (g : ℕ) (before after : LinesView) (reply : Reply) (v : GroupView) (e : Event) → judged_request p.plan j request ≡ Accepted e
    → reply_of (core_line (shape_of_presence p) j e None) ≡ Some reply → added ≡ core_line (shape_of_presence p) j e None ∷ [] → Replays p (j ++ added) v → v.group ≡ g → All (λ l. group_of (event_of l) ≡ g) added
    → after.items ≡ before.items ++ added → before.spare ≤ after.spare + 1 → Writes p j request g before reply v after
wrote p j added request g before after reply v e accepted replied one pages group own lines spare =
    let line : Line = core_line (shape_of_presence p) j e None in record {
      event = e;
      line = line;
      accepted = accepted;
      core = refl;
      replied = replied;
      own = All-head (λ l. group_of (event_of l) ≡ g) line [] (subst (All (λ l. group_of (event_of l) ≡ g)) one own);
      pages = record { group = group; replays = subst (λ (ls : List Line). Replays p (j ++ ls) v) one pages };
      lines = lines ∙ ap (λ (ls : List Line). before.items ++ ls) one;
      spare = spare;
    }

-- none was added
left : (p : PresenceView) (j added : List Line) (request : Request) (g : ℕ) (before after : LinesView) (why : Judged) (v : GroupView) → judged_request p.plan j request ≡ why
    → j ++ added ≡ j → Replays p (j ++ added) v → v.group ≡ g → after.items ≡ before.items ++ added → after.spare ≡ before.spare → Leaves p j request g before why v after
left p j added request g before after why v judged same pages group lines spare =
    let none : added ≡ [] = append_cancel_left j added [] (same ∙ sym (append-nil j)) in record {
      judged = judged;
      pages = record { group = group; replays = subst (λ (ls : List Line). Replays p ls v) same pages };
      lines = lines ∙ ap (λ (ls : List Line). before.items ++ ls) none ∙ append-nil before.items;
      spare = (let e = spare in omega arith);
    }

journal_same : (b c : BookView) → c ≡ b → c.journal ≡ b.journal
journal_same b c e = ap (λ (x : BookView). x.journal) e

spare_same : (b c : BookView) → c ≡ b → c.spare ≡ b.spare
spare_same b c e = ap (λ (x : BookView). x.spare) e

pub took : (p : PresenceView) (j : List Line) (f : Frame) (before : LinesView) (g : ℕ) (v : GroupView) (after : LinesView) (verdict : Verdict)
    → PagesEnd p j (λ b c. TakeEnds b f (Ok verdict) c) before g v after → WriteEnds p j (TakeRequest f) g before (Ok (Took verdict)) v after
took p j f before g v after verdict end =
    let h = end.ends in
    let b : BookView = book_at p j before.spare in
    let one = append_cancel_left j end.added _ h.3.journal in
    wrote p j end.added (TakeRequest f) g before after (Took verdict) v (Take f.tag) (known-judged b f h.0 ∙ beside-free (posted_of b f.tag) f h.1) (ap (λ (x : Verdict). Some (Took x)) (sym h.2)) one end.pages end.group end.own end.lines h.3.spare

pub not_taken : (p : PresenceView) (j : List Line) (f : Frame) (before : LinesView) (g : ℕ) (v : GroupView) (after : LinesView) (e : TakeError)
    → PagesEnd p j (λ b c. TakeEnds b f (Err e) c) before g v after → WriteEnds p j (TakeRequest f) g before (Err (NotTaken e)) v after
not_taken p j f before g v after Unknown end =
    let h = end.ends in
    let b : BookView = book_at p j before.spare in
    left p j end.added (TakeRequest f) g before after (RefusedFrame Unknown) v (ap (λ (x : Bool). if x then judged_beside (posted_of b f.tag) f else RefusedFrame Unknown) h.0) (journal_same b _ h.1) end.pages end.group end.lines (spare_same b _ h.1)
not_taken p j f before g v after (Forged q came) end =
    let h = end.ends in
    let b : BookView = book_at p j before.spare in
    left p j end.added (TakeRequest f) g before after (RefusedFrame (Forged q came)) v
    (known-judged b f h.0 ∙ ap (λ (x : Option Frame). judged_beside x f) h.1 ∙ beside-other q f h.2 ∙ ap (λ (x : Frame). RefusedFrame (Forged q x)) (sym h.3)) (journal_same b _ h.4) end.pages end.group end.lines (spare_same b _ h.4)

-- whether the plan has the round of a group whose pages are kept
has_round : (p : PresenceView) (j : List Line) (v : GroupView) (r : ℕ) (e : Event) → Replays p j v → r < v.rounds → (if nat_lt v.group (length p.plan.groups) && nat_lt r p.plan.rounds then Accepted e else Outside) ≡ Accepted e
has_round p j v r e rep lt =
    ap (λ (x : Bool). if x && nat_lt r p.plan.rounds then Accepted e else Outside) (lt-ltb v.group (length p.plan.groups) rep.inside)
    ∙ ap (λ (x : Bool). if x then Accepted e else Outside) (lt-ltb r p.plan.rounds (let k = rep.rounds in omega arith))

no_round : (p : PresenceView) (j : List Line) (v : GroupView) (r : ℕ) (e : Event) → Replays p j v → v.rounds ≤ r → (if nat_lt v.group (length p.plan.groups) && nat_lt r p.plan.rounds then Accepted e else Outside) ≡ Outside
no_round p j v r e rep le =
    ap (λ (x : Bool). if x && nat_lt r p.plan.rounds then Accepted e else Outside) (lt-ltb v.group (length p.plan.groups) rep.inside)
    ∙ ap (λ (x : Bool). if x then Accepted e else Outside) (le-ltb r p.plan.rounds (let k = rep.rounds in omega arith))

pub closed_one : (p : PresenceView) (j : List Line) (r : ℕ) (before : LinesView) (u v : GroupView) (after : LinesView) (said : Closing) → Replays p j u → r < u.rounds
    → PagesEnd p j (λ b c. CloseEnds b u.group r said c) before u.group v after → WriteEnds p j (CloseRequest u.group r) u.group before (Ok (Closed said)) v after
closed_one p j r before u v after said rep lt end =
    wrote p j end.added (CloseRequest u.group r) u.group before after (Closed said) v (Close u.group r) (has_round p j u r (Close u.group r) rep lt) (ap (λ (x : Closing). Some (Closed x)) (sym end.ends.is))
    (append_cancel_left j end.added _ end.ends.adds.journal) end.pages end.group end.own end.lines end.ends.adds.spare

pub ended_one : (p : PresenceView) (j : List Line) (r : ℕ) (before : LinesView) (u v : GroupView) (after : LinesView) (said : Ending) → Replays p j u → r < u.rounds
    → PagesEnd p j (λ b c. EndEnds b u.group r said c) before u.group v after → WriteEnds p j (EndRequest u.group r) u.group before (Ok (Ended said)) v after
ended_one p j r before u v after said rep lt end =
    wrote p j end.added (EndRequest u.group r) u.group before after (Ended said) v (End u.group r) (has_round p j u r (End u.group r) rep lt) (ap (λ (x : Ending). Some (Ended x)) (sym end.ends.is))
    (append_cancel_left j end.added _ end.ends.adds.journal) end.pages end.group end.own end.lines end.ends.adds.spare

pub no_close : (p : PresenceView) (j : List Line) (r : ℕ) (lines : LinesView) (u : GroupView) → Replays p j u → u.rounds ≤ r → WriteEnds p j (CloseRequest u.group r) u.group lines (Err Place) u lines
no_close p j r lines u rep le = record { judged = no_round p j u r (Close u.group r) rep le; pages = record { group = refl; replays = rep }; lines = refl; spare = omega arith }

pub no_end : (p : PresenceView) (j : List Line) (r : ℕ) (lines : LinesView) (u : GroupView) → Replays p j u → u.rounds ≤ r → WriteEnds p j (EndRequest u.group r) u.group lines (Err Place) u lines
no_end p j r lines u rep le = record { judged = no_round p j u r (End u.group r) rep le; pages = record { group = refl; replays = rep }; lines = refl; spare = omega arith }
