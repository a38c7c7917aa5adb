-- Entries of a run that may change places: the run stays a run.
use Rattle.std.proofs.Common.{◌≡◌, ℕ, ◌+◌, ◌<◌, ◌≤◌, Bool, true, false, cond, ◌&&◌, List, [], ◌∷◌, ◌++◌, length, map, refl, sym, ap, ◌∙◌, subst, arith, append_assoc}
use Rattle.std.specs.Prelude.{◌==◌, nat_lt, reverse, if◌then◌else◌}
use Rattle.std.specs.List.{filter, sum_by, flat_map, range_with_len, All}
use mathlib.Core.Path.{fun_ext}
use Rattle.std.proofs.lemmas.Bool.{true≢false, eqb-true}
use Rattle.std.proofs.lemmas.List.{map-append, reverse-append}
use Rattle.std.proofs.lemmas.List.Sums.{sum_by-append, sum_by-cons}
use Rattle.std.proofs.lemmas.List.Elements.{All-head, All-tail, All-cons, filter-append}
use Rattle.std.proofs.lemmas.Grind.{flat_map-append}
use Rattle.group_plan.specs.declared.Kind.TheVariants.{Reading, Announcement, Answer}
use Rattle.group_plan.specs.declared.Tag.{Tag}
use Rattle.link_lanes.specs.declared.Post.{Post}
use Rattle.link_lanes.specs.Lanes.{Slot, fates_after}
use Rattle.event_schedule.specs.declared.Event.{Event}
use Rattle.event_schedule.specs.declared.Event.TheVariants.{Send, Take, Close, End}
use Rattle.event_schedule.specs.declared.Entry.{Entry}
use Rattle.event_schedule.specs.Events.{event_of, events_of, lines_of, is_take, is_close, is_end}
use Rattle.event_schedule.specs.Schedule.{Shape, members_of, survivors, is_announced}
use Rattle.event_schedule.specs.Transcript.{Contents, line, lines_after}
use Rattle.run_rows.specs.Runs.{IsRun}
use Rattle.run_rows.specs.Ticks.{Clock, NoneBefore, IsOrdered, StandsOnce, last_tick, moment, phase, takes_at, copies, tag_of, tags, tags_of, sent_at, due_of, posts_of}
use Rattle.cut_resume.specs.Left.{Leaves}
use Rattle.cut_resume.specs.Order.{are_apart, may_pass}
use Rattle.cut_resume.proofs.OnCourse.{first, rest}
use Rattle.cut_resume.proofs.Swapped.{apart_turned, quiet, survivors-swap, announced-swap, lines_after-swap}

-- ---- what apart events are

pub no_tags : (a b : Event) → are_apart a b ≡ true → tags_of a ≡ []
no_tags (Take x) b apart = refl
no_tags (Close g r) b apart = refl
no_tags (End g r) b apart = refl
no_tags (Send x) (Take y) apart = absurd (true≢false (sym apart))
no_tags (Send x) (Send y) apart = absurd (true≢false (sym apart))
no_tags (Send x) (Close h q) apart = absurd (true≢false (sym apart))
no_tags (Send x) (End h q) apart = absurd (true≢false (sym apart))

same_phase : (a b : Event) → are_apart a b ≡ true → phase a ≡ phase b
same_phase (Take x) (Take y) apart = refl
same_phase (Close g r) (Close h q) apart = refl
same_phase (Close g r) (End h q) apart = refl
same_phase (End g r) (Close h q) apart = refl
same_phase (End g r) (End h q) apart = refl
same_phase (Take x) (Send y) apart = absurd (true≢false (sym apart))
same_phase (Take x) (Close h q) apart = absurd (true≢false (sym apart))
same_phase (Take x) (End h q) apart = absurd (true≢false (sym apart))
same_phase (Send x) (Take y) apart = absurd (true≢false (sym apart))
same_phase (Send x) (Send y) apart = absurd (true≢false (sym apart))
same_phase (Send x) (Close h q) apart = absurd (true≢false (sym apart))
same_phase (Send x) (End h q) apart = absurd (true≢false (sym apart))
same_phase (Close g r) (Take y) apart = absurd (true≢false (sym apart))
same_phase (Close g r) (Send y) apart = absurd (true≢false (sym apart))
same_phase (End g r) (Take y) apart = absurd (true≢false (sym apart))
same_phase (End g r) (Send y) apart = absurd (true≢false (sym apart))

-- ---- the past of entries

pub reverse-two : (xs ys : List Event) (a b : Event) → reverse (xs ++ a ∷ b ∷ ys) ≡ reverse ys ++ b ∷ a ∷ reverse xs
reverse-two xs ys a b =
    reverse-append xs (a ∷ b ∷ ys) ∙ ap (λ l. l ++ reverse xs) (reverse-append (a ∷ b ∷ []) ys) ∙ append_assoc (reverse ys) (b ∷ a ∷ []) (reverse xs)

pub past_of_two : (xs ys : List Entry) (x e : Entry)
    → reverse (events_of (xs ++ x ∷ e ∷ ys)) ≡ reverse (events_of ys) ++ event_of e.line ∷ event_of x.line ∷ reverse (events_of xs)
past_of_two xs ys x e = ap reverse (map-append (λ (z : Entry). event_of z.line) xs (x ∷ e ∷ ys)) ∙ reverse-two (events_of xs) (events_of ys) (event_of x.line) (event_of e.line)

-- ---- lists in which two change places

sum-two : {X : Type 0} (f : X → ℕ) (xs ys : List X) (x e : X) → sum_by f (xs ++ x ∷ e ∷ ys) ≡ sum_by f (xs ++ e ∷ x ∷ ys)
sum-two f xs ys x e =
    omega (arith, sum_by-append f xs (x ∷ e ∷ ys), sum_by-append f xs (e ∷ x ∷ ys), sum_by-cons f x (e ∷ ys), sum_by-cons f e ys, sum_by-cons f e (x ∷ ys), sum_by-cons f x ys)

pub all-two : {X : Type 0} (P : X → Type 0) (xs ys : List X) (x e : X) → All P (xs ++ x ∷ e ∷ ys) → All P (xs ++ e ∷ x ∷ ys)
all-two P [] ys x e all =
    let tail = All-tail P x (e ∷ ys) all in
    All-cons P e (x ∷ ys) (All-head P e ys tail) (All-cons P x ys (All-head P x (e ∷ ys) all) (All-tail P e ys tail))
all-two P (z ∷ xs) ys x e all = All-cons P z (xs ++ e ∷ x ∷ ys) (All-head P z (xs ++ x ∷ e ∷ ys) all) (all-two P xs ys x e (All-tail P z (xs ++ x ∷ e ∷ ys) all))

none_before-two : (m : ℕ) (xs ys : List Entry) (x e : Entry) → NoneBefore m (xs ++ x ∷ e ∷ ys) → NoneBefore m (xs ++ e ∷ x ∷ ys)
none_before-two m [] ys x e none = (none.1.0, (none.0, none.1.1))
none_before-two m (z ∷ xs) ys x e none = (none.0, none_before-two m xs ys x e none.1)

flat_map-two : {X Y : Type 0} (f : X → List Y) (xs ys : List X) (x e : X) → f x ≡ [] → f e ≡ [] → flat_map f (xs ++ x ∷ e ∷ ys) ≡ flat_map f (xs ++ e ∷ x ∷ ys)
flat_map-two f xs ys x e none_x none_e =
    flat_map-append f xs (x ∷ e ∷ ys)
    ∙ ap (λ l. flat_map f xs ++ l) (ap (λ l. l ++ (f e ++ flat_map f ys)) none_x ∙ ap (λ l. l ++ flat_map f ys) none_e ∙ sym (ap (λ l. l ++ flat_map f ys) none_x) ∙ sym (ap (λ l. l ++ (f x ++ flat_map f ys)) none_e))
    ∙ sym (flat_map-append f xs (e ∷ x ∷ ys))

module _ (s : Shape) (c : Clock) (xs ys : List Entry) (x e : Entry) (may : may_pass e x ≡ true) where
  abbrev one : List Entry
  one = xs ++ x ∷ e ∷ ys

  abbrev other : List Entry
  other = xs ++ e ∷ x ∷ ys

  same_tick : x.tick ≡ e.tick
  same_tick = eqb-true x.tick e.tick (left (x.tick == e.tick) (are_apart (event_of x.line) (event_of e.line)) may)
    where
      left : (p q : Bool) → (p && q) ≡ true → p ≡ true
      left true q is = refl
      left false q is = is

  apart : are_apart (event_of x.line) (event_of e.line) ≡ true
  apart = right (x.tick == e.tick) (are_apart (event_of x.line) (event_of e.line)) may
    where
      right : (p q : Bool) → (p && q) ≡ true → q ≡ true
      right true q is = is
      right false q is = absurd (true≢false (sym is))

  no_tags_x : tags_of (event_of x.line) ≡ []
  no_tags_x = no_tags (event_of x.line) (event_of e.line) apart

  no_tags_e : tags_of (event_of e.line) ≡ []
  no_tags_e = no_tags (event_of e.line) (event_of x.line) (apart_turned (event_of x.line) (event_of e.line) apart)

  same_moment : moment x ≡ moment e
  same_moment = omega (arith, same_tick, same_phase (event_of x.line) (event_of e.line) apart)

  pub ordered : (zs : List Entry) → IsOrdered (zs ++ x ∷ e ∷ ys) → IsOrdered (zs ++ e ∷ x ∷ ys)
  ordered [] is = (
    (omega (arith, same_moment), subst (λ m. NoneBefore m ys) same_moment is.0.1),
    (subst (λ m. NoneBefore m ys) (sym same_moment) is.1.0, is.1.1),
  )
  ordered (z ∷ zs) is = (none_before-two (moment z) zs ys x e is.0, ordered zs is.1)

  takes : (tag : Tag) (t : ℕ) → takes_at one tag t ≡ takes_at other tag t
  takes tag t = sum-two (λ (z : Entry). cond (is_take tag.group tag.round tag.meter tag.kind (event_of z.line) && (z.tick == t)) 1 0) xs ys x e

  once : (test : Event → Bool) (due : Bool) (tick : ℕ) → StandsOnce test due tick one → StandsOnce test due tick other
  once test due tick is = sym same ∙ is
    where
      here : (p q : Bool) (zs : List Entry) → map (λ (z : Entry). z.tick) (cond p (x ∷ cond q (e ∷ zs) zs) (cond q (e ∷ zs) zs)) ≡ map (λ (z : Entry). z.tick) (cond q (e ∷ cond p (x ∷ zs) zs) (cond p (x ∷ zs) zs))
      here true true zs = ap (λ t. t ∷ e.tick ∷ map (λ (z : Entry). z.tick) zs) same_tick ∙ ap (λ t. e.tick ∷ t ∷ map (λ (z : Entry). z.tick) zs) (sym same_tick)
      here true false zs = refl
      here false true zs = refl
      here false false zs = refl

      same : map (λ (z : Entry). z.tick) (filter (λ z. test (event_of z.line)) one) ≡ map (λ (z : Entry). z.tick) (filter (λ z. test (event_of z.line)) other)
      same = ap (map (λ (z : Entry). z.tick)) (filter-append (λ (z : Entry). test (event_of z.line)) xs (x ∷ e ∷ ys))
          ∙ map-append (λ (z : Entry). z.tick) (filter (λ z. test (event_of z.line)) xs) (filter (λ z. test (event_of z.line)) (x ∷ e ∷ ys))
          ∙ ap (λ l. map (λ (z : Entry). z.tick) (filter (λ z. test (event_of z.line)) xs) ++ l) (here (test (event_of x.line)) (test (event_of e.line)) (filter (λ z. test (event_of z.line)) ys))
          ∙ sym (map-append (λ (z : Entry). z.tick) (filter (λ z. test (event_of z.line)) xs) (filter (λ z. test (event_of z.line)) (e ∷ x ∷ ys)))
          ∙ sym (ap (map (λ (z : Entry). z.tick)) (filter-append (λ (z : Entry). test (event_of z.line)) xs (e ∷ x ∷ ys)))

  sent : (t : ℕ) → sent_at one t ≡ sent_at other t
  sent t = flat_map-two (λ (z : Entry). if z.tick == t then tags_of (event_of z.line) else []) xs ys x e (none x no_tags_x) (none e no_tags_e)
    where
      quiet_at : (q : Bool) (l : List Tag) → l ≡ [] → cond q l [] ≡ []
      quiet_at true l is = is
      quiet_at false l is = refl

      none : (z : Entry) → tags_of (event_of z.line) ≡ [] → (if z.tick == t then tags_of (event_of z.line) else []) ≡ []
      none z is = quiet_at (z.tick == t) (tags_of (event_of z.line)) is

  posts : posts_of one ≡ posts_of other
  posts = flat_map-two (λ (z : Entry). map (λ tag. record { tick = z.tick; tag = tag; fate = z.fate }) (tags_of (event_of z.line))) xs ys x e (none x no_tags_x) (none e no_tags_e)
    where
      to_post : Entry → Tag → Post
      to_post z tag = record { tick = z.tick; tag = tag; fate = z.fate }

      none : (z : Entry) → tags_of (event_of z.line) ≡ [] → map (to_post z) (tags_of (event_of z.line)) ≡ []
      none z is = ap (map (to_post z)) is

  due : (t g : ℕ) → due_of s c one t g ≡ due_of s c other t g
  due t g =
      ap (λ p. readings ++ flat_map (announced p) rounds ++ flat_map (answered one) rounds) (past_of_two xs ys x e)
      ∙ ap (λ f. readings ++ flat_map f rounds ++ flat_map (answered one) rounds) (fun_ext (λ r.
      ap (λ b. if (r + c.w1 == t) && b then tags Announcement g r (survivors s g r (later ++ event_of e.line ∷ event_of x.line ∷ before)) else []) (announced-swap s before (event_of x.line) (event_of e.line) apart g r later)
      ∙ ap (λ set. if (r + c.w1 == t) && is_announced s g r (later ++ event_of x.line ∷ event_of e.line ∷ before) then tags Announcement g r set else []) (survivors-swap s before (event_of x.line) (event_of e.line) apart g r later)))
      ∙ ap (λ p. readings ++ flat_map (announced p) rounds ++ flat_map (answered one) rounds) (sym (past_of_two xs ys e x))
      ∙ ap (λ f. readings ++ flat_map (announced (reverse (events_of other))) rounds ++ flat_map f rounds) (fun_ext (λ r.
      ap (λ test. tags Answer g r (filter test (members_of s g r))) (fun_ext (λ i. ap (nat_lt 0) (takes (tag_of Announcement g r i) t)))))
    where
      before : List Event
      before = reverse (events_of xs)

      later : List Event
      later = reverse (events_of ys)

      rounds : List ℕ
      rounds = range_with_len 0 c.rounds

      readings : List Tag
      readings = tags Reading g t (if nat_lt t c.rounds then filter (λ i. s.present g t i) (members_of s g t) else [])

      announced : List Event → ℕ → List Tag
      announced p r = if (r + c.w1 == t) && is_announced s g r p then tags Announcement g r (survivors s g r p) else []

      answered : List Entry → ℕ → List Tag
      answered es r = tags Answer g r (filter (λ i. nat_lt 0 (takes_at es (tag_of Announcement g r i) t)) (members_of s g r))

  lines : (words : Contents) (zs : List Entry) (past : List Event) → lines_of (zs ++ x ∷ e ∷ ys) ≡ lines_after s words past (events_of (zs ++ x ∷ e ∷ ys))
      → lines_of (zs ++ e ∷ x ∷ ys) ≡ lines_after s words past (events_of (zs ++ e ∷ x ∷ ys))
  unfolding lines_after
  lines words [] past same =
      let a = event_of x.line in
      let b = event_of e.line in
      let later = rest _ _ _ _ same in
      ap (λ l. l ∷ x.line ∷ lines_of ys) (first e.line _ _ _ _ later ∙ (quiet s past a b apart).says words)
      ∙ ap (λ l. line s words past b ∷ l ∷ lines_of ys) (first x.line _ _ _ _ same ∙ sym ((quiet s past b a (apart_turned a b apart)).says words))
      ∙ ap (λ ls. line s words past b ∷ line s words (b ∷ past) a ∷ ls) (rest _ _ _ _ later ∙ lines_after-swap s past a b apart words [] (events_of ys))
  lines words (z ∷ zs) past same =
      ap (λ l. l ∷ lines_of (zs ++ e ∷ x ∷ ys)) (first z.line _ _ _ _ same) ∙ ap (λ ls. line s words past (event_of z.line) ∷ ls) (lines words zs (event_of z.line ∷ past) (rest _ _ _ _ same))

  pub run_moved : (slots : List Slot) (words : Contents) → IsRun s c slots words one → IsRun s c slots words other
  run_moved slots words is = record {
    run = record {
      ordered = ordered xs is.run.ordered;
      within = all-two (λ z. z.tick ≤ last_tick c) xs ys x e is.run.within;
      taken = λ tag t. sym (takes tag t) ∙ is.run.taken tag t ∙ sum-two (copies tag t) xs ys x e;
      closed = λ g r. once (is_close g r) _ _ (is.run.closed g r);
      ended = λ g r. once (is_end g r) _ _ (is.run.ended g r);
      sent = λ t. sym (sent t) ∙ is.run.sent t ∙ ap (λ f. flat_map f (range_with_len 0 (length s.groups))) (fun_ext (λ g. due t g));
      fates = subst (λ ps. map (λ (p : Post). p.fate) ps ≡ fates_after slots [] ps) posts is.run.fates;
      others = all-two (λ z. tags_of (event_of z.line) ≡ [] → z.fate ≡ []) xs ys x e is.run.others;
    };
    delays = all-two (λ z. All (λ d. 0 < d) z.fate) xs ys x e is.delays;
    lines = lines words xs [] is.lines;
  }

-- ---- an entry moves to the front of those that it may pass

pub moved : (Q : List Entry → Type 0) → ((xs ys : List Entry) (x e : Entry) → may_pass e x ≡ true → Q (xs ++ x ∷ e ∷ ys) → Q (xs ++ e ∷ x ∷ ys))
    → (e : Entry) (passed before more : List Entry) → All (λ x. may_pass e x ≡ true) passed → Q (before ++ (passed ++ e ∷ more)) → Q (before ++ e ∷ (passed ++ more))
moved Q step e [] before more may is = is
moved Q step e (x ∷ passed) before more may is =
    let here = All-head (λ x. may_pass e x ≡ true) x passed may in
    let all : Q ((before ++ x ∷ []) ++ e ∷ (passed ++ more)) = moved Q step e passed (before ++ x ∷ []) more (All-tail (λ x. may_pass e x ≡ true) x passed may)
    (subst Q (sym (append_assoc before (x ∷ []) (passed ++ e ∷ more))) is) in
    step before (passed ++ more) x e here (subst Q (append_assoc before (x ∷ []) (e ∷ (passed ++ more))) all)

-- entries stay in order
pub ordered_moved : (xs ys : List Entry) (x e : Entry) → may_pass e x ≡ true → IsOrdered (xs ++ x ∷ e ∷ ys) → IsOrdered (xs ++ e ∷ x ∷ ys)
ordered_moved xs ys x e may is = ordered (record { groups = []; present = λ g r i. false }) (record { rounds = 0; w1 = 0; w2 = 0 }) xs ys x e may xs is

-- what stays where two entries change places holds where a cut's entries are picked out of a run's
pub leaves_keep : (Q : List Entry → Type 0) → ((xs ys : List Entry) (x e : Entry) → may_pass e x ≡ true → Q (xs ++ x ∷ e ∷ ys) → Q (xs ++ e ∷ x ∷ ys))
    → (cut before run left : List Entry) → Leaves cut run left → Q (before ++ run) → Q (before ++ (cut ++ left))
leaves_keep Q step [] before run left is q = subst (λ l. Q (before ++ l)) is q
leaves_keep Q step (e ∷ cut) before run left is q =
    let picked = is.1 in
    let front : Q (before ++ e ∷ is.0) = subst (λ l. Q (before ++ e ∷ l)) (sym picked.others) (moved Q step e picked.passed before picked.after picked.may (subst (λ l. Q (before ++ l)) picked.stands q)) in
    subst Q (append_assoc before (e ∷ []) (cut ++ left))
    (leaves_keep Q step cut (before ++ e ∷ []) is.0 left is.2 (subst Q (sym (append_assoc before (e ∷ []) is.0)) front))
