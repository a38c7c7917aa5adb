-- What checking pages out and in owes and gives.
use Rattle.std.proofs.Common.{◌≡◌, ◌≤◌, ℕ, Bool, true, false, ◌&&◌, if◌then◌else◌, List, [], ◌∷◌, ◌++◌, ◌+◌, length, drop, Ok, Err, Result, refl, sym, ap, ◌∙◌, subst, append_assoc, append-nil, arith}
use Rattle.std.specs.Prelude.{Option, Some, None, nat_lt}
use Rattle.std.proofs.lemmas.Bool.{le-ltb}
use Rattle.std.specs.List.{All}
use Rattle.std.proofs.lemmas.List.Elements.{All-nil, All-cons}
use Rattle.group_plan.specs.Plans.{is_place}
use Rattle.group_plan.specs.Tables.{PresenceView}
use Rattle.group_plan.proofs.Limits.{past}
use Rattle.meter_frames.specs.declared.Frame.{Frame as FrameView}
use Rattle.event_schedule.specs.declared.Event.TheVariants.{Send, Take as TakeEvent, Close, End}
use Rattle.event_schedule.specs.declared.Line.{Line}
use Rattle.event_schedule.specs.declared.Event.{Event}
use Rattle.event_schedule.specs.Events.{event_of}
use Rattle.event_schedule.specs.Journal.{core_line}
use Rattle.transcript_log.specs.Lines.{LinesView}
use Rattle.event_schedule.specs.Schedule.{Shape}
use Rattle.group_book.specs.declared.answers.TakeError.TheVariants.{Unknown}
use Rattle.group_book.specs.Books.{BookView, shape_of, posted, posted_in}
use Rattle.event_schedule.specs.ByGroup.{group_of, lines_in}
use Rattle.group_book.specs.Groups.{GroupView}
use Rattle.group_book.specs.Replay.{IsGroup}
use Rattle.group_book.proofs.LinesByGroup.{posted-in, lines_of_groups}
use Rattle.shared_book.specs.declared.handed.Handed.{Handed}
use Rattle.shared_book.specs.declared.parcel.Reply.{Reply}
use Rattle.shared_book.specs.declared.parcel.Request.{Request}
use Rattle.shared_book.specs.declared.parcel.Request.TheVariants.{Take as TakeRequest, Close as CloseRequest, End as EndRequest}
use Rattle.shared_book.specs.declared.parcel.CommitError.{CommitError}
use Rattle.shared_book.specs.declared.parcel.CommitError.TheVariants.{Frame, Take, Place}
use Rattle.shared_book.specs.declared.turn.Turn.{Turn}
use Rattle.shared_book.specs.Parcels.{Judged, Accepted, RefusedFrame, Outside, judged_beside, judged_request, group_in, IsOutside}
use Rattle.shared_book.specs.Turns.{IsLegal, StartsWith, journal_after, turn, turns_of, turns_by}
use Rattle.shared_book.specs.Law.{Stands, Mine, Takes, IsOwn, holding}
use Rattle.shared_book.specs.Rests.{Rests, PutsBack}
use Rattle.shared_book.specs.Passes.{PassView, known, ChecksOut, ChecksIn, IsUnchanged, Sees, Refuses, CommitEnds, SamePass}
use Rattle.shared_book.specs.Writes.{Writes, Leaves, WriteEnds}
use Rattle.shared_book.proofs.Ledgers.{SameOf, journal-turns}
use Rattle.shared_book.proofs.Steps.{turns_more}

-- ---- out and in

pub checked_out : (o : BookView) (g : ℕ) (m m1 m2 : Mine) (handed : Handed) → Rests m → m.0.opening ≡ o → Takes m g m1
    → ((h : Handed) → m1.1 ≡ (g, Some h) ∷ [] → (handed ≡ h) × (m2 ≡ (m1.0, (g, None) ∷ [])))
    → Rests m2 × (m2.0.opening ≡ o) × ChecksOut o (known m.0) g handed.pages (known m2.0) × (IsOwn m.0.number handed.last → IsUnchanged o (known m.0) g (known m2.0))
checked_out o g m m1 m2 handed rests opens t f =
    let found = f t.1 (ap (λ (x : Mine). x.1) t.2) in
    let x : Mine = (holding m.0 g t.0, (g, None) ∷ []) in
    let is : m2 ≡ x = found.1 ∙ ap (λ (y : Mine). let z : Mine = (y.0, (g, None) ∷ []) in z) t.2 in
    let pages : GroupView = handed.pages in
    let P : Mine → Type 0 = λ y. Rests y × (y.0.opening ≡ o) × ChecksOut o (known m.0) g pages (known y.0) × (IsOwn m.0.number handed.last → IsUnchanged o (known m.0) g (known y.0)) in
    let stands : Stands o t.0 g pages = subst (λ (b : BookView). Stands b t.0 g pages) opens (subst (λ (k : Handed). Stands m.0.opening t.0 g k.pages) (sym found.0) t.5) in
    subst P (sym is) (
      (refl, rests.1, rests.2),
      opens,
      record {
        seen = t.3;
        mine = refl;
        own = t.4;
        same = record { number = refl; made = refl; out = refl; joined = refl };
        held = refl;
        stands = stands;
        alone = λ z. t.6 (z.0, z.1, rests.2);
      },
      λ own. subst (λ (b : BookView). SameOf b g t.0 m.0.seen) opens (t.7 (subst (λ (k : Handed). IsOwn m.0.number k.last) found.0 own)),
    )

pub checked_in : (o : BookView) (g : ℕ) (m m1 : Mine) (lines : List Line) → Rests m → m.0.opening ≡ o → PutsBack m.0 g lines m1
    → Rests m1 × (m1.0.opening ≡ o) × ChecksIn o (known m.0) g lines (known m1.0)
checked_in o g m m1 lines rests opens p =
    let before : List Turn = p.0 in
    let seen : List Turn = before ++ turns_of m.0.number lines in
    let P : Mine → Type 0 = λ y. Rests y × (y.0.opening ≡ o) × ChecksIn o (known m.0) g lines (known y.0) in
    subst P (sym p.1) (
      (refl, rests.1, rests.2),
      opens,
      record {
        before = before;
        grew = p.2.grew;
        group = subst (λ (b : BookView). SameOf b g before m.0.seen) opens p.2.group;
        seen = refl;
        mine = turns_more m.0.number before lines ∙ ap (λ (ts : List Turn). ts ++ turns_of m.0.number lines) p.2.earlier;
        own = refl;
        legal = subst (λ (b : BookView). IsLegal b seen) opens p.2.legal;
        same = record { number = refl; made = refl; out = refl; joined = refl };
        held = refl;
        alone = λ z. p.2.alone (z.0, z.1, rests.2);
      },
    )

-- ---- a commit

drop_length : {A : Type 0} (xs ys : List A) → drop (length xs) (xs ++ ys) ≡ ys
drop_length [] ys = refl
drop_length (x ∷ xs) ys = drop_length xs ys

-- the lines that were added to these
abbrev pub more : LinesView → LinesView → List Line
more before after = drop (length before.items) after.items

more_is : (before after : LinesView) (lines : List Line) → after.items ≡ before.items ++ lines → more before after ≡ lines
more_is before after lines e = ap (drop (length before.items)) e ∙ drop_length before.items lines

-- what is handed back after a request
abbrev pub IsNext : BookView → List Turn → ℕ → ℕ → LinesView → GroupView → LinesView → Type 0
IsNext o seen n g before v after = (v.group ≡ g) × All (λ l. group_of (event_of l) ≡ g) (more before after) × Stands o (seen ++ turns_of n (more before after)) g v

next_none : (o : BookView) (seen : List Turn) (n g : ℕ) (request : Request) (before after : LinesView) (why : Judged) (v : GroupView) → Leaves o.presence (journal_after o seen) request g before why v after → IsNext o seen n g before v after
next_none o seen n g request before after why v w =
    let none : more before after ≡ [] = more_is before after [] (w.lines ∙ sym (append-nil before.items)) in (
      w.pages.group,
      subst (All (λ l. group_of (event_of l) ≡ g)) (sym none) (All-nil (λ l. group_of (event_of l) ≡ g)),
      subst (λ (ls : List Line). Stands o (seen ++ turns_of n ls) g v) (sym none) (subst (λ (ts : List Turn). Stands o ts g v) (sym (append-nil seen)) w.pages),
    )

pub next_pages : (o : BookView) (seen : List Turn) (n g : ℕ) (request : Request) (before after : LinesView) (came : Result Reply CommitError) (v : GroupView)
    → WriteEnds o.presence (journal_after o seen) request g before came v after → IsNext o seen n g before v after
next_pages o seen n g request before after (Ok reply) v w =
    let one : more before after ≡ w.line ∷ [] = more_is before after (w.line ∷ []) w.lines in (
      w.pages.group,
      subst (All (λ l. group_of (event_of l) ≡ g)) (sym one) (All-cons (λ l. group_of (event_of l) ≡ g) w.line [] w.own (All-nil (λ l. group_of (event_of l) ≡ g))),
      subst (λ (ls : List Line). Stands o (seen ++ turns_of n ls) g v) (sym one)
          (subst (λ (j : List Line). IsGroup o.presence j g v) (sym (journal-turns o seen n (w.line ∷ []))) w.pages),
    )
next_pages o seen n g request before after (Err (Frame e)) v w = absurd w
next_pages o seen n g request before after (Err (Take e)) v w = next_none o seen n g request before after (RefusedFrame e) v w
next_pages o seen n g request before after (Err Place) v w = next_none o seen n g request before after Outside v w

-- room for one line less at most
pub write_spare : (p : PresenceView) (j : List Line) (request : Request) (g : ℕ) (before after : LinesView) (came : Result Reply CommitError) (v : GroupView) → WriteEnds p j request g before came v after → before.spare ≤ after.spare + 1
write_spare p j request g before after (Ok reply) v w = w.spare
write_spare p j request g before after (Err (Frame e)) v w = absurd w
write_spare p j request g before after (Err (Take e)) v w = w.spare
write_spare p j request g before after (Err Place) v w = w.spare

-- ---- what a commit comes to

pub starts_on : (a b c : List Turn) → StartsWith a b → StartsWith b c → StartsWith a c
starts_on a b c s t = (t.0 ++ s.0, s.1 ∙ ap (λ (l : List Turn). l ++ s.0) t.1 ∙ append_assoc c t.0 s.0)

same_on : (v u w : PassView) → SamePass v u → SamePass u w → SamePass v w
same_on v u w a b = record { number = b.number ∙ a.number; made = b.made ∙ a.made; out = b.out ∙ a.out; joined = b.joined ∙ a.joined }

-- what becomes of a request depends on the lines of its group alone
judged_same : (p : PresenceView) (one other : List Line) (request : Request) → lines_in (group_in request) one ≡ lines_in (group_in request) other → judged_request p.plan one request ≡ judged_request p.plan other request
judged_same p one other (TakeRequest f) same =
    ap (λ (x : Option FrameView). if is_place p.plan f.tag.group f.tag.round f.tag.meter then judged_beside x f else RefusedFrame Unknown)
    (sym (posted-in f.tag.group f.tag.round f.tag.meter f.tag.kind one) ∙ ap (posted f.tag.group f.tag.round f.tag.meter f.tag.kind) same ∙ posted-in f.tag.group f.tag.round f.tag.meter f.tag.kind other)
judged_same p one other (CloseRequest g r) same = refl
judged_same p one other (EndRequest g r) same = refl

pub event_of-core : (s : Shape) (j : List Line) (e : Event) → event_of (core_line s j e None) ≡ e
event_of-core s j (Send tag) = refl
event_of-core s j (TakeEvent tag) = refl
event_of-core s j (Close g r) = refl
event_of-core s j (End g r) = refl

-- the core's line of an event depends on the lines of its group alone
core_same : (s : Shape) (g : ℕ) (one other : List Line) (e : Event) → group_of e ≡ g → lines_in g one ≡ lines_in g other → core_line s one e None ≡ core_line s other e None
core_same s g one other e is same =
    lines_of_groups s one e None ∙ ap (λ (j : List Line). core_line s j e None) (subst (λ (n : ℕ). lines_in n one ≡ lines_in n other) (sym is) same) ∙ sym (lines_of_groups s other e None)

module _ (o : BookView) (v u w : PassView) (request : Request) (pages : GroupView) (before after : LinesView)
    (out : ChecksOut o v (group_in request) pages u) (back : ChecksIn o u (group_in request) (more before after) w) where
  abbrev pub g : ℕ
  g = group_in request

  number : u.number ≡ v.number
  number = out.same.number

  made_line : (reply : Reply) (pages' : GroupView) → Writes o.presence (journal_after o u.seen) request g before reply pages' after → CommitEnds o v (Ok request) before.items (Ok reply) after.items w
  made_line reply pages' wr =
      let line : Line = wr.line in
      let one : more before after ≡ line ∷ [] = more_is before after (line ∷ []) wr.lines in
      let turns : turns_of u.number (more before after) ≡ turn v.number line ∷ [] = (λ i. turns_of (number i) (one i)) in
      let of_event : group_of wr.event ≡ g = ap group_of (sym (ap event_of wr.core ∙ event_of-core (shape_of o) (journal_after o u.seen) wr.event)) ∙ wr.own in (
        line,
        wr.lines,
        record {
          before = back.before;
          event = wr.event;
          grew = starts_on back.before u.seen v.seen back.grew out.seen;
          seen = back.seen ∙ ap (λ (ts : List Turn). back.before ++ ts) turns;
          mine = back.mine ∙ (λ i. out.mine i ++ turns i);
          own = ap (λ (n : ℕ). turns_by n w.seen) (sym number) ∙ back.own;
          accepted = judged_same o.presence (journal_after o back.before) (journal_after o u.seen) request back.group ∙ wr.accepted;
          core = wr.core ∙ sym (core_same (shape_of o) g (journal_after o back.before) (journal_after o u.seen) wr.event of_event back.group);
          replied = wr.replied;
          legal = back.legal;
          same = same_on v u w out.same back.same;
          held = back.held;
          alone = λ z. back.alone (number ∙ z.0, out.same.out ∙ z.1) ∙ out.alone z;
        },
      )

  refused : (why : Judged) (pages' : GroupView) → Leaves o.presence (journal_after o u.seen) request g before why pages' after → Refuses o v (Ok request) before.items why after.items w
  refused why pages' l =
      let none : more before after ≡ [] = more_is before after [] (l.lines ∙ sym (append-nil before.items)) in
      let seen : w.seen ≡ back.before = back.seen ∙ ap (λ (ls : List Line). back.before ++ turns_of u.number ls) none ∙ append-nil back.before in record {
        judged = ap (λ (ts : List Turn). judged_request o.presence.plan (journal_after o ts) request) seen ∙ judged_same o.presence (journal_after o back.before) (journal_after o u.seen) request back.group ∙ l.judged;
        sees = record {
          seen = subst (λ (ts : List Turn). StartsWith ts v.seen) (sym seen) (starts_on back.before u.seen v.seen back.grew out.seen);
          mine = back.mine ∙ ap (λ (ls : List Line). u.mine ++ turns_of u.number ls) none ∙ append-nil u.mine ∙ out.mine;
          own = λ _. ap (λ (n : ℕ). turns_by n w.seen) (sym number) ∙ back.own;
          same = same_on v u w out.same back.same;
          held = back.held;
          alone = λ z. seen ∙ back.alone (number ∙ z.0, out.same.out ∙ z.1) ∙ out.alone z;
        };
        lines = l.lines;
      }

  pub made : (came : Result Reply CommitError) (pages' : GroupView) → WriteEnds o.presence (journal_after o u.seen) request g before came pages' after → CommitEnds o v (Ok request) before.items came after.items w
  made (Ok reply) pages' wr = made_line reply pages' wr
  made (Err (Frame e)) pages' wr = absurd wr
  made (Err (Take e)) pages' wr = refused (RefusedFrame e) pages' wr
  made (Err Place) pages' wr = refused Outside pages' wr

-- ---- a request of no group of the plan

not_a_group : (n m : ℕ) (b : Bool) → m ≤ n → (nat_lt n m && b) ≡ false
not_a_group n m b le = ap (λ (x : Bool). x && b) (le-ltb n m le)

not_place : (o : BookView) (g r m : ℕ) → length o.presence.plan.groups ≤ g → is_place o.presence.plan g r m ≡ false
not_place o g r m le =
    ap (λ (n : ℕ). nat_lt r o.presence.plan.rounds && nat_lt m n) (past o.presence.plan.groups g le).0
    ∙ ap (λ (x : Bool). nat_lt r o.presence.plan.rounds && x) (le-ltb m 0 (omega arith)) ∙ never (nat_lt r o.presence.plan.rounds)
  where
    never : (b : Bool) → (b && false) ≡ false
    never true = refl
    never false = refl

sees_same : (v : PassView) → v.held ≡ None → Sees v v
sees_same v free = record { seen = ([], sym (append-nil v.seen)); mine = refl; own = λ q. q; same = record { number = refl; made = refl; out = refl; joined = refl }; held = free; alone = λ _. refl }

pub outside_ends : (o : BookView) (v : PassView) (request : Request) (e : CommitError) (lines : List Line) → v.held ≡ None → length o.presence.plan.groups ≤ group_in request → IsOutside request e → CommitEnds o v (Ok request) lines (Err e) lines v
outside_ends o v (TakeRequest f) e lines free le is = subst (λ (x : CommitError). CommitEnds o v (Ok (TakeRequest f)) lines (Err x) lines v) (sym is) record {
  judged = ap (λ (b : Bool). if b then judged_beside (posted_in f.tag (journal_after o v.seen)) f else RefusedFrame Unknown) (not_place o f.tag.group f.tag.round f.tag.meter le);
  sees = sees_same v free;
  lines = refl;
}
outside_ends o v (CloseRequest g r) e lines free le is = subst (λ (x : CommitError). CommitEnds o v (Ok (CloseRequest g r)) lines (Err x) lines v) (sym is) record {
  judged = ap (λ (b : Bool). if b then Accepted (Close g r) else Outside) (not_a_group g (length o.presence.plan.groups) (nat_lt r o.presence.plan.rounds) le);
  sees = sees_same v free;
  lines = refl;
}
outside_ends o v (EndRequest g r) e lines free le is = subst (λ (x : CommitError). CommitEnds o v (Ok (EndRequest g r)) lines (Err x) lines v) (sym is) record {
  judged = ap (λ (b : Bool). if b then Accepted (End g r) else Outside) (not_a_group g (length o.presence.plan.groups) (nat_lt r o.presence.plan.rounds) le);
  sees = sees_same v free;
  lines = refl;
}
