-- The pass over the text of a transcript, one entry after another.
use Rattle.std.proofs.Common.{◌≡◌, ℕ, suc, ◌+◌, ◌<◌, ◌≤◌, List, [], ◌∷◌, ◌++◌, All, length, take, drop, drop-cons, get_or, refl, sym, ap, ◌∙◌, subst, arith, length-append, append-nil, append_assoc}
use Rattle.std.specs.Prelude.{false, Option, Some, None, is_some, Result, Ok, Err}
use Rattle.std.proofs.lemmas.Bool.{and_from, lt-ltb}
use Rattle.std.proofs.lemmas.List.{take-append-le, take_all}
use Rattle.std.proofs.lemmas.List.Elements.{All-cons, All-head, All-nil, All-tail}
use Rattle.group_plan.specs.Plans.{PlanView}
use Rattle.event_schedule.specs.declared.Entry.{Entry}
use Rattle.event_schedule.specs.declared.Line.{Line}
use Rattle.event_schedule.specs.declared.Line.TheVariants.{Send as SendLine, Take as TakeLine, Close as CloseLine, End as EndLine}
use Rattle.event_schedule.specs.Events.{lines_of}
use Rattle.event_schedule.specs.Frames.{IsPossible, shape_of_lines}
use Rattle.event_schedule.specs.Transcripts.{TranscriptView, Fits, IsTranscript, FitsLine}
use Rattle.transcript_text.specs.declared.version.Version.TheVariants.{Two}
use Rattle.transcript_text.specs.declared.fault.ReadError.{ReadError}
use Rattle.transcript_text.specs.declared.fault.ReadError.TheVariants as fault
use Rattle.transcript_text.specs.Reading.{Fails, before}
use Rattle.transcript_text.specs.Heads.{read_of}
use Rattle.transcript_text.specs.Readers.{IsTextOfWhatIsRead, with_entries}
use Rattle.group_book.specs.Books.{BookView}
use Rattle.audit_check.specs.Steps.{MayFollow}
use Rattle.audit_check.specs.Ends.{LinesEnd}
use Rattle.audit_check.specs.Replays.{FitsPlan}
use Rattle.audit_check.specs.Following.{IsReplay, Follows}
use Rattle.audit_check.specs.declared.passing.Pass.{Pass}
use Rattle.audit_check.specs.Passes.{AreJudged, AreReplayed, CanJudge, IsPassOver, Judges, PassEnds, IsLineOf, IsReplayOf, ReadsAs}
use Rattle.audit_check.proofs.EndLemmas.{holds, none_possible, lines_long, more_possible, not_possible, first_found, all_replayed}

-- ---- an entry's line

pub fits_plan : (plan : PlanView) (fate : List ℕ) (l : Line) → FitsLine plan fate l → FitsPlan plan l
fits_plan plan fate (SendLine tag None) fits = fits.0
fits_plan plan fate (SendLine tag (Some f)) fits = (fits.0, fits.1.same, fits.1.fits)
fits_plan plan fate (TakeLine tag v) fits = fits.0
fits_plan plan fate (CloseLine g r v) fits = and_from _ _ (lt-ltb g (length plan.groups) fits.0.group) (lt-ltb r plan.rounds fits.0.round)
fits_plan plan fate (EndLine g r v) fits = and_from _ _ (lt-ltb g (length plan.groups) fits.0.group) (lt-ltb r plan.rounds fits.0.round)

lines_more : (xs ys : List Entry) → lines_of (xs ++ ys) ≡ lines_of xs ++ lines_of ys
lines_more [] ys = refl
lines_more (x ∷ xs) ys = ap (λ ls. x.line ∷ ls) (lines_more xs ys)

-- ---- judging

pub none_judged : (plan : PlanView) (p : Pass) → p.impossible ≡ None → p.count ≡ 0 → p.replay.rounds.presence.plan ≡ plan → p.replay.rounds.journal ≡ []
    → IsReplay p.replay.rounds.presence p.replay.rounds.journal p.replay.seen p.replay.answered.items → IsPassOver plan [] p
none_judged plan p none count same journal is =
    subst (AreJudged plan [] p) (sym none) (record { count = sym count; plan_is = same; journal = journal; replay = is; possible = none_possible plan.groups })

-- the entries that come next behind some others
module _ (plan : PlanView) (front es : List Entry) where
  both : lines_of (front ++ es) ≡ lines_of front ++ lines_of es
  both = lines_more front es

  up_to : (n : ℕ) → n ≤ length (lines_of front) → take n (lines_of (front ++ es)) ≡ take n (lines_of front)
  up_to n le = ap (take n) both ∙ take-append-le n (lines_of front) (lines_of es) le

-- one entry that comes next
module _ (plan : PlanView) (front : List Entry) (e : Entry) (p : Pass) (are : AreReplayed plan front p) where
  with_it : lines_of (front ++ e ∷ []) ≡ lines_of front ++ e.line ∷ []
  with_it = lines_more front (e ∷ [])

  pub one_replayed : (q : Pass) → Follows p.replay.rounds.presence p.replay.rounds.journal e.line q.replay.rounds q.replay.seen q.replay.answered.items → q.count ≡ p.count + 1 → AreReplayed plan (front ++ e ∷ []) q
  one_replayed q follows count = record {
    count = length-append front (e ∷ []) ∙ ap (λ n. n + 1) are.count ∙ sym count;
    plan_is = follows.plan ∙ are.plan_is;
    journal = follows.journal ∙ ap (λ j. j ++ e.line ∷ []) are.journal ∙ sym with_it;
    replay = follows.replay;
    possible = subst (IsPossible plan.groups) (sym with_it) (more_possible plan p.replay.rounds.presence.plan (lines_of front) p.replay.rounds.journal e.line are.plan_is are.journal are.possible follows.may);
  }

  pub one_stops : (c : BookView) → (¬ MayFollow (shape_of_lines p.replay.rounds.presence.plan.groups (p.replay.rounds.journal ++ e.line ∷ [])) p.replay.rounds.journal e.line)
      → LinesEnd plan (lines_of (front ++ e ∷ [])) (Some p.count) c
  one_stops c may_not =
      let long : length (lines_of front) ≡ p.count = lines_long front ∙ are.count in
      let all : length (lines_of (front ++ e ∷ [])) ≡ length (lines_of front) + 1 = ap length with_it ∙ length-append (lines_of front) (e.line ∷ []) in
      let before = up_to plan front (e ∷ []) p.count (omega (arith, long)) ∙ take_all p.count (lines_of front) (omega (arith, long)) in
      let whole = take_all (p.count + 1) (lines_of (front ++ e ∷ [])) (omega (arith, all, long)) ∙ with_it in (
        omega (arith, all, long),
        subst (IsPossible plan.groups) (sym before) are.possible,
        λ possible. not_possible plan p.replay.rounds.presence.plan (lines_of front) p.replay.rounds.journal e.line are.plan_is are.journal may_not (subst (IsPossible plan.groups) whole possible),
      )

pub one_may : (p q : Pass) (e : Entry) → p.impossible ≡ None → q.impossible ≡ None
    → Follows p.replay.rounds.presence p.replay.rounds.journal e.line q.replay.rounds q.replay.seen q.replay.answered.items → q.count ≡ p.count + 1 → Judges p (e ∷ []) q
one_may p q e none still follows count = λ plan front over.
    subst (AreJudged plan (front ++ e ∷ []) q) (sym still) (one_replayed plan front e p (subst (AreJudged plan front p) none over) q follows count)

pub one_may_not : (p q : Pass) (e : Entry) → p.impossible ≡ None → q.impossible ≡ Some p.count
    → (¬ MayFollow (shape_of_lines p.replay.rounds.presence.plan.groups (p.replay.rounds.journal ++ e.line ∷ [])) p.replay.rounds.journal e.line) → Judges p (e ∷ []) q
one_may_not p q e none stops may_not = λ plan front over.
    subst (AreJudged plan (front ++ e ∷ []) q) (sym stops) (one_stops plan front e p (subst (AreJudged plan front p) none over) q.replay.rounds may_not)

pub not_some : (o : Option ℕ) → is_some o ≡ false → o ≡ None
not_some None is = refl
not_some (Some k) is = absurd cc

-- ---- entries one after another

-- the one at a place, and those behind it
pub next_of : {X : Type 0} (xs : List X) (at : ℕ) (x : X) → at < length xs → get_or xs at x ≡ x → drop at xs ≡ x ∷ drop (at + 1) xs
next_of xs at x within is =
    let one : suc at ≡ at + 1 = omega arith in
    drop-cons xs at x within ∙ ap (λ y. y ∷ drop (suc at) xs) is ∙ ap (λ n. x ∷ drop n xs) one

all_before : (P : Entry → Type 0) (xs ys : List Entry) → All P (xs ++ ys) → All P xs
all_before P [] ys all = All-nil P
all_before P (x ∷ xs) ys all = All-cons P x xs (All-head P x (xs ++ ys) all) (all_before P xs ys (All-tail P x (xs ++ ys) all))

all_behind : (P : Entry → Type 0) (xs ys : List Entry) → All P (xs ++ ys) → All P ys
all_behind P [] ys all = all
all_behind P (x ∷ xs) ys all = all_behind P xs ys (All-tail P x (xs ++ ys) all)

-- of all these entries those are left to judge
pub record IsOn (first : Pass) (all : List Entry) (p : Pass) (left : List Entry) : Type 0 where
  pub can : CanJudge p left
  pub so_far : (last : Pass) → Judges p left last → Judges first all last

pub is_on : (p : Pass) (es : List Entry) → CanJudge p es → IsOn p es p es
is_on p es can = record { can = can; so_far = λ last judges. judges }

pub all_judged : (first p : Pass) (all left : List Entry) → IsOn first all p left → left ≡ [] → Judges first all p
all_judged first p all left on none = on.so_far p (λ plan front over. subst (λ es. IsPassOver plan es p) (sym (append-nil front) ∙ ap (λ q. front ++ q) (sym none)) over)

module _ (first p : Pass) (all left xs ys : List Entry) (on : IsOn first all p left) (is : left ≡ xs ++ ys) where
  fit : All (Fits on.can.plan) (xs ++ ys)
  fit = subst (All (Fits on.can.plan)) is on.can.fits

  pub can_now : CanJudge p xs
  can_now = record { plan = on.can.plan; front = on.can.front; over = on.can.over; fits = all_before (Fits on.can.plan) xs ys fit }

  pub goes_on : (q : Pass) → Judges p xs q → IsOn first all q ys
  goes_on q judges = record {
    can = record { plan = on.can.plan; front = on.can.front ++ xs; over = judges on.can.plan on.can.front on.can.over; fits = all_behind (Fits on.can.plan) xs ys fit };
    so_far = λ last rest. on.so_far last (λ plan front over.
        subst (λ es. IsPassOver plan es last) (append_assoc front xs ys ∙ ap (λ q. front ++ q) (sym is)) (rest plan (front ++ xs) (judges plan front over)));
  }

-- ---- passes one after another

pub judges_none : (p : Pass) → Judges p [] p
judges_none p = λ plan front over. subst (λ es. IsPassOver plan es p) (sym (append-nil front)) over

pub judges_both : (p q last : Pass) (xs ys : List Entry) → Judges p xs q → Judges q ys last → Judges p (xs ++ ys) last
judges_both p q last xs ys one other = λ plan front over. subst (λ es. IsPassOver plan es last) (append_assoc front xs ys) (other plan (front ++ xs) (one plan front over))

pub judged_ends : (plan : PlanView) (es : List Entry) (p : Pass) → IsPassOver plan es p → LinesEnd plan (lines_of es) p.impossible p.replay.rounds
judged_ends plan es p over = by_line p.impossible over
  where
    by_line : (o : Option ℕ) → AreJudged plan es p o → LinesEnd plan (lines_of es) o p.replay.rounds
    by_line None are = (holds plan (lines_of es) p.replay.rounds p.replay.seen p.replay.answered.items are.plan_is are.journal are.replay, are.possible)
    by_line (Some k) are = are

-- after some entries that were judged before, and those of a pass, none is left, or a fault stands there
module _ (plan : PlanView) (judged es : List Entry) (left end : Result (List Entry) ReadError) (so : before es end ≡ left) where
  pub pass_ends : (p q : Pass) → end ≡ Ok [] → Judges p es q → IsPassOver plan judged p → PassEnds plan (before judged left) (Ok q)
  pass_ends p q none judges over =
      (judged ++ es, ap (before judged) (sym so ∙ ap (before es) none) ∙ ap (λ xs. Ok (judged ++ xs)) (append-nil es), judged_ends plan (judged ++ es) q (judges plan judged over))

  wrong : (f : ReadError) → end ≡ Err f → before judged left ≡ Err f
  wrong f is = ap (before judged) (sym so ∙ ap (before es) is)

  pub pass_fails : (f : ReadError) → Fails f end → Fails f (before judged left)
  pass_fails fault.Memory fails = tt
  pass_fails (fault.Head n) fails = wrong (fault.Head n) fails
  pass_fails (fault.Line n) fails = wrong (fault.Line n) fails
  pass_fails (fault.Field n k) fails = wrong (fault.Field n k) fails
  pass_fails (fault.NoEnd n) fails = wrong (fault.NoEnd n) fails
  pass_fails (fault.Count n) fails = wrong (fault.Count n) fails
  pass_fails (fault.After n) fails = wrong (fault.After n) fails

-- ---- the whole text

pub text_replayed : (text : List ℕ) (plan : PlanView) (left : Result (List Entry) ReadError) (p : Pass) (number : Option ℕ) (b : BookView) → read_of Two text ≡ with_entries plan left
    → IsTextOfWhatIsRead Two text → PassEnds plan left (Ok p) → b ≡ p.replay.rounds → IsLineOf plan p.impossible number → ReadsAs text (record { rounds = b; impossible = number })
unfolding IsTextOfWhatIsRead
text_replayed text plan left p number b begun is ends same line =
    let t : TranscriptView = record { plan = plan; entries = ends.0 } in
    let read : read_of Two text ≡ Ok t = begun ∙ ap (with_entries plan) ends.1 in
    let both = is t read in
    record { transcript = t; read = read; sound = both.0; is = both.1; kept = kept t both.0 p.impossible number (subst (LinesEnd t.plan (lines_of t.entries) p.impossible) (sym same) ends.2) line }
  where
    kept : (t : TranscriptView) → IsTranscript t → (found number : Option ℕ) → LinesEnd t.plan (lines_of t.entries) found b → IsLineOf t.plan found number → IsReplayOf t (record { rounds = b; impossible = number })
    kept t sound None number ends line = subst (λ n. IsReplayOf t (record { rounds = b; impossible = n })) (sym line) (all_replayed t b sound ends)
    kept t sound (Some k) number ends line = subst (λ n. IsReplayOf t (record { rounds = b; impossible = n })) (sym line) (k, refl, first_found t k b sound ends)

-- the fault of what is left is the text's
module _ (text : List ℕ) (plan : PlanView) (left : Result (List Entry) ReadError) (read : read_of Two text ≡ with_entries plan left) where
  is_wrong : (f : ReadError) → left ≡ Err f → read_of Two text ≡ Err f
  is_wrong f is = read ∙ ap (with_entries plan) is

  pub text_fails : (f : ReadError) → Fails f left → Fails f (read_of Two text)
  text_fails fault.Memory fails = tt
  text_fails (fault.Head n) fails = is_wrong (fault.Head n) fails
  text_fails (fault.Line n) fails = is_wrong (fault.Line n) fails
  text_fails (fault.Field n k) fails = is_wrong (fault.Field n k) fails
  text_fails (fault.NoEnd n) fails = is_wrong (fault.NoEnd n) fails
  text_fails (fault.Count n) fails = is_wrong (fault.Count n) fails
  text_fails (fault.After n) fails = is_wrong (fault.After n) fails
