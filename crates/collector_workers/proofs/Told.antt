-- What one commit tells, and what several do.
use Rattle.std.proofs.Common.{◌≡◌, ◌<◌, ◌+◌, ℕ, zero, suc, map, take, length, get_or, arith, List, [], ◌∷◌, ◌++◌, Ok, Err, Result, refl, sym, ap, ◌∙◌, subst, append_assoc, append-nil}
use Rattle.std.specs.Prelude.{Option, Some, None, Vec}
use Rattle.std.specs.declared.alloc.Global.{Global}
use Rattle.std.specs.List.{All, AllZip}
use Rattle.std.proofs.lemmas.List.Elements.{All-nil, All-cons, All-head, All-tail}
use Rattle.transcript_log.specs.Lines.{HasOwnTag}
use Rattle.std.proofs.lemmas.List.{map-append, take_more}
use Rattle.meter_frames.specs.declared.FrameError.{FrameError}
use Rattle.event_schedule.specs.declared.Line.{Line}
use Rattle.event_schedule.specs.Events.{event_of}
use Rattle.group_book.specs.Books.{BookView, shape_of}
use Rattle.shared_book.specs.declared.parcel.Parcel.{Parcel}
use Rattle.shared_book.specs.declared.parcel.Request.{Request}
use Rattle.shared_book.specs.declared.parcel.Reply.{Reply}
use Rattle.shared_book.specs.declared.parcel.CommitError.{CommitError}
use Rattle.shared_book.specs.declared.parcel.CommitError.TheVariants.{Frame, Take, Place}
use Rattle.shared_book.specs.declared.turn.Turn.{Turn}
use Rattle.shared_book.specs.Ends.{view}
use Rattle.shared_book.specs.Parcels.{Judged, RefusedFrame, Outside, judged_if_read, request_of}
use Rattle.shared_book.specs.Turns.{StartsWith, turn, turns_of, journal_after}
use Rattle.shared_book.specs.Passes.{PassView, Refuses, CommitEnds}
use Rattle.shared_book.proofs.Turning.{starts_on, event_of-core}
use Rattle.collector_workers.specs.declared.mark.Mark.{Mark}
use Rattle.collector_workers.specs.declared.mark.Mark.TheVariants.{Bad, Refused, OutOfPlan}
use Rattle.collector_workers.specs.declared.worker.Worker.{Worker}
use Rattle.collector_workers.specs.declared.outcome.Outcome.{Outcome}
use Rattle.collector_workers.specs.Outcomes.{IsOutcome, Becomes, IsTold, lines_told, line_before, with_line, without_line}
use Rattle.collector_workers.specs.Gathering.{Commits, Does}

-- ---- histories that grow

pub starts_same : (a : List Turn) → StartsWith a a
starts_same a = ([], sym (append-nil a))

-- a parcel that was judged between two histories was so between wider ones
pub wider : (o : BookView) (from from' to to' : List Turn) (p : Parcel) (x : Outcome) → StartsWith from from' → StartsWith to' to → Becomes o from to p x → Becomes o from' to' p x
wider o from from' to to' p x s t b = record { at = b.at; since = starts_on b.at from from' b.since s; until = starts_on to' to b.at t b.until; is = b.is }

pub all_wider : (o : BookView) (from from' to to' : List Turn) (ps : List Parcel) (xs : List Outcome) → StartsWith from from' → StartsWith to' to → AllZip (Becomes o from to) ps xs → AllZip (Becomes o from' to') ps xs
all_wider o from from' to to' [] [] s t all = tt
all_wider o from from' to to' [] (x ∷ xs) s t all = absurd all
all_wider o from from' to to' (p ∷ ps) [] s t all = absurd all
all_wider o from from' to to' (p ∷ ps) (x ∷ xs) s t all = (wider o from from' to to' p x s t all.0, all_wider o from from' to to' ps xs s t all.1)

-- one more of each of two lists side by side
pub zip_push : (R : Parcel → Outcome → Type 0) (ps : List Parcel) (xs : List Outcome) (p : Parcel) (x : Outcome) → AllZip R ps xs → R p x → AllZip R (ps ++ p ∷ []) (xs ++ x ∷ [])
zip_push R [] [] p x all new = (new, tt)
zip_push R [] (y ∷ xs) p x all new = absurd all
zip_push R (q ∷ ps) [] p x all new = absurd all
zip_push R (q ∷ ps) (y ∷ xs) p x all new = (all.0, zip_push R ps xs p x all.1 new)

-- ---- one commit

-- what one commit of a pass came to
pub record Comes (o : BookView) (v : PassView) (p : Parcel) (x : Outcome) (w : PassView) : Type 0 where
  pub becomes : Becomes o v.seen w.seen p x
  pub seen : StartsWith w.seen v.seen
  pub mine : w.mine ≡ v.mine ++ turns_of v.number (lines_told (x ∷ []))
  pub number : w.number ≡ v.number
  pub held : w.held ≡ None

-- a parcel without a line leaves a pass's turns as they were
no_turn : (v : PassView) (mark : Mark) (x : Outcome) → x ≡ without_line mark → v.mine ++ turns_of v.number (lines_told (x ∷ [])) ≡ v.mine
no_turn v mark x is = ap (λ (y : Outcome). v.mine ++ turns_of v.number (lines_told (y ∷ []))) is ∙ append-nil v.mine

came_refused : (o : BookView) (v w : PassView) (p : Parcel) (mark : Mark) (x : Outcome) (before after : List Line) (why : Judged) → Refuses o v (request_of p) before why after w → IsOutcome why x → x ≡ without_line mark
    → Comes o v p x w
came_refused o v w p mark x before after why r is no_line = record {
  becomes = record { at = w.seen; since = r.sees.seen; until = starts_same w.seen; is = subst (λ (j : Judged). IsOutcome j x) (sym r.judged) is };
  seen = r.sees.seen;
  mine = r.sees.mine ∙ sym (no_turn v mark x no_line);
  number = r.sees.same.number;
  held = r.sees.held;
}

pub came : (o : BookView) (v w : PassView) (p : Parcel) (x : Outcome) (before after : List Line) (r : Result Reply CommitError) → v.held ≡ None → CommitEnds o v (request_of p) before r after w → IsTold r after x → Comes o v p x w
came o v w p x before after (Ok reply) free h told =
    let line : Line = h.0 in
    let c = h.2 in
    let is : x ≡ with_line reply line = told before line h.1 in
    let event : event_of line ≡ c.event = ap event_of c.core ∙ event_of-core (shape_of o) (journal_after o c.before) c.event in record {
      becomes = record {
        at = c.before;
        since = c.grew;
        until = (turn v.number line ∷ [], c.seen);
        is = subst (λ (j : Judged). IsOutcome j x) (sym c.accepted) (line, reply, is, event, c.replied);
      };
      seen = starts_on w.seen c.before v.seen (turn v.number line ∷ [], c.seen) c.grew;
      mine = c.mine ∙ ap (λ (y : Outcome). v.mine ++ turns_of v.number (lines_told (y ∷ []))) (sym is);
      number = c.same.number;
      held = c.held;
    }
came o v w p x before after (Err (Frame e)) free h told = subst (Comes o v p x) (sym h.2) record {
  becomes = record {
    at = v.seen;
    since = starts_same v.seen;
    until = starts_same v.seen;
    is = subst (λ (a : Result Request FrameError). IsOutcome (judged_if_read o.presence.plan (journal_after o v.seen) a) x) (sym h.0) told;
  };
  seen = starts_same v.seen;
  mine = sym (no_turn v (Bad e) x told);
  number = refl;
  held = free;
}
came o v w p x before after (Err (Take e)) free h told = came_refused o v w p (Refused e) x before after (RefusedFrame e) h told told
came o v w p x before after (Err Place) free h told = came_refused o v w p OutOfPlan x before after Outside h told told

-- ---- several

line_before-append : (line : Option Line) (xs ys : List Line) → line_before line xs ++ ys ≡ line_before line (xs ++ ys)
line_before-append None xs ys = refl
line_before-append (Some line) xs ys = refl

pub told-append : (xs ys : List Outcome) → lines_told (xs ++ ys) ≡ lines_told xs ++ lines_told ys
told-append [] ys = refl
told-append (x ∷ xs) ys = ap (line_before x.line) (told-append xs ys) ∙ sym (line_before-append x.line (lines_told xs) (lines_told ys))

pub does_none : (o : BookView) (a : Worker) → a.workload.outcomes.items ≡ [] → (view a.pass).held ≡ None → Does o a [] a
does_none o a none free = record {
  parcels_same = refl;
  told = subst (λ (xs : List Outcome). AllZip (Becomes o (view a.pass).seen (view a.pass).seen) [] xs) (sym none) tt;
  seen = starts_same (view a.pass).seen;
  mine = sym (ap (λ (xs : List Outcome). (view a.pass).mine ++ turns_of (view a.pass).number (lines_told xs)) none ∙ append-nil (view a.pass).mine);
  number = refl;
  held = free;
}

-- one parcel more
pub does_more : (o : BookView) (a b c : Worker) (ps : List Parcel) (p : Parcel) → Does o a ps b → Commits o b p c → Does o a (ps ++ p ∷ []) c
does_more o a b c ps p d m =
    let from : List Turn = (view a.pass).seen in
    let n : ℕ = (view a.pass).number in
    let xs : List Outcome = b.workload.outcomes.items in
    let one : List Outcome = m.outcome ∷ [] in
    let R : Parcel → Outcome → Type 0 = Becomes o from (view c.pass).seen in
    let old = all_wider o from from (view b.pass).seen (view c.pass).seen ps xs (starts_same from) m.seen d.told in
    let new : R p m.outcome = wider o (view b.pass).seen from (view c.pass).seen (view c.pass).seen p m.outcome d.seen (starts_same (view c.pass).seen) m.becomes in
    let turns : turns_of n (lines_told (xs ++ one)) ≡ turns_of n (lines_told xs) ++ turns_of n (lines_told one) = ap (turns_of n) (told-append xs one) ∙ map-append (turn n) (lines_told xs) (lines_told one) in
    let all : AllZip R (ps ++ p ∷ []) (xs ++ one) = zip_push R ps xs p m.outcome old new in record {
      parcels_same = m.parcels ∙ d.parcels_same;
      told = subst (λ (ys : List Outcome). AllZip R (ps ++ p ∷ []) ys) (sym m.outcomes) all;
      seen = starts_on (view c.pass).seen (view b.pass).seen from m.seen d.seen;
      mine = m.mine
          ∙ ap (λ (k : ℕ). (view b.pass).mine ++ turns_of k (lines_told one)) d.number
          ∙ ap (λ (ts : List Turn). ts ++ turns_of n (lines_told one)) d.mine
          ∙ append_assoc (view a.pass).mine (turns_of n (lines_told xs)) (turns_of n (lines_told one))
          ∙ ap (λ (ts : List Turn). (view a.pass).mine ++ ts) (sym turns)
          ∙ ap (λ (ys : List Outcome). (view a.pass).mine ++ turns_of n (lines_told ys)) (sym m.outcomes);
      number = m.number ∙ d.number;
      held = m.held;
    }

-- the next of a worker's parcels
pub worked_more : (o : BookView) (a b c : Worker) (at : ℕ) → at < length a.workload.parcels.items → Does o a (take at a.workload.parcels.items) b → ((d : Parcel) → Commits o b (get_or b.workload.parcels.items at d) c) → Does o a (take (at + 1) a.workload.parcels.items) c
worked_more o a b c at lt d m = next a.workload.parcels.items refl lt
  where
    next : (ps : List Parcel) → a.workload.parcels.items ≡ ps → at < length a.workload.parcels.items → Does o a (take (at + 1) a.workload.parcels.items) c
    next [] e lt = absurd (let z = ap length e in omega arith)
    next (p ∷ ps) e lt =
        let same : get_or b.workload.parcels.items at p ≡ get_or a.workload.parcels.items at p = ap (λ (x : Vec Parcel Global). get_or x.items at p) d.parcels_same in
        let one : Commits o b (get_or a.workload.parcels.items at p) c = subst (λ (q : Parcel). Commits o b q c) same (m p) in
        subst (λ (qs : List Parcel). Does o a qs c) (sym (take_more a.workload.parcels.items at p lt)) (does_more o a b c (take at a.workload.parcels.items) (get_or a.workload.parcels.items at p) d one)

-- ---- in the order of the batch

-- the line of one of some outcomes
pub own_line : (xs : List Outcome) (at : ℕ) (x : Outcome) → at < length xs → All HasOwnTag (lines_told xs) → All HasOwnTag (line_before (get_or xs at x).line [])
own_line [] at x lt all = absurd (omega arith)
own_line (y ∷ ys) zero x lt all = here y.line all
  where
    here : (line : Option Line) → All HasOwnTag (line_before line (lines_told ys)) → All HasOwnTag (line_before line [])
    here None rest = All-nil HasOwnTag
    here (Some line) rest = All-cons HasOwnTag line [] (All-head HasOwnTag line (lines_told ys) rest) (All-nil HasOwnTag)
own_line (y ∷ ys) (suc at) x lt all = own_line ys at x (omega arith) (rest y.line all)
  where
    rest : (line : Option Line) → All HasOwnTag (line_before line (lines_told ys)) → All HasOwnTag (lines_told ys)
    rest None more = more
    rest (Some line) more = All-tail HasOwnTag line (lines_told ys) more

pub told_next : (xs : List Outcome) (at : ℕ) (x : Outcome) → at < length xs → lines_told (take (at + 1) xs) ≡ lines_told (take at xs) ++ line_before (get_or xs at x).line []
told_next xs at x lt = ap lines_told (take_more xs at x lt) ∙ told-append (take at xs) (get_or xs at x ∷ [])

pub marks_next : (xs : List Outcome) (at : ℕ) (x : Outcome) → at < length xs → map (λ (y : Outcome). y.mark) (take (at + 1) xs) ≡ map (λ (y : Outcome). y.mark) (take at xs) ++ (get_or xs at x).mark ∷ []
marks_next xs at x lt = ap (map (λ (y : Outcome). y.mark)) (take_more xs at x lt) ∙ map-append (λ (y : Outcome). y.mark) (take at xs) (get_or xs at x ∷ [])
