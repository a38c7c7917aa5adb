-- The head: what is read is its text.
use Rattle.std.proofs.Common.{◌≡◌, ◌∙◌, ◌+◌, ◌≤◌, ◌==◌, ◌&&◌, nat_le, ℕ, zero, suc, true, false, List, [], ◌∷◌, ◌++◌, length, map, refl, sym, ap, arith, decimal, Option, Some, None, Result, Ok, Err, append_assoc, append-nil, subst, inl, inr}
use Rattle.std.specs.Prelude.{codes, IsTrue, slice_get}
use Rattle.std.specs.Str.{bytes_eq}
use Rattle.std.specs.List.{join_with_byte, range_with_len}
use Rattle.std.proofs.lemmas.Bool.Decides.{nat_tests}
use Rattle.std.proofs.lemmas.List.Elements.{All-cons, All-nil}
use Rattle.std.proofs.lemmas.List.FromFn.{length-map-range_with_len}
use Rattle.group_plan.specs.declared.plan.GroupPlan.{GroupPlan}
use Rattle.group_plan.specs.declared.plan.PlanError.{PlanError}
use Rattle.group_plan.specs.declared.plan.members.Span.{Span}
use Rattle.group_plan.specs.Plans.{Group, PlanView, floor_of, floor_or, name_of, name_or, size, size_or}
use Rattle.group_plan.specs.Names.{is_name}
use Rattle.group_plan.specs.NewPlans.{AreNamed, first_fault, plan_of, stated}
use Rattle.group_plan.specs.Spans.{group_with, rounds_given, with_spans}
use Rattle.group_plan.proofs.Groups.{stated-group_of}
use Rattle.transcript_text.specs.declared.version.Version.{Version}
use Rattle.transcript_text.specs.declared.version.Version.TheVariants.{One, Two}
use Rattle.transcript_text.specs.declared.head.Start.{Start}
use Rattle.transcript_text.specs.declared.head.HeadRow.{HeadRow}
use Rattle.transcript_text.specs.declared.head.HeadRow.TheVariants as row
use Rattle.transcript_text.specs.declared.fault.ReadError.{ReadError}
use Rattle.transcript_text.specs.declared.fault.ReadError.TheVariants as fault
use Rattle.field_texts.specs.Parts.{parts}
use Rattle.transcript_text.specs.Parts.{at}
use Rattle.transcript_text.specs.Spelling.{ended, group_fields, groups_text, head_text, joined, member_fields, members_text, rounds_fields, start_text, stated_spans, title, windows_fields}
use Rattle.transcript_text.specs.Heads.{AreStated, HeadRead, after_head_row, at_begin, has_version, head_from, head_number, head_of, head_row, is_two, next_line, plan_at, rounds_of, span_fits, start_of, title_of, two_numbers, unless_fault, windows_of, with_rest}
use Rattle.transcript_text.specs.ReadBack.{HasHead}
use Rattle.event_schedule.specs.Transcripts.{IsPlan}
use Rattle.field_texts.proofs.Choices.{is_word, pick}
use Rattle.transcript_text.proofs.Choices.{bind_ok, long_of, spell_one, spell_three, spell_two, test_of}
use Rattle.field_texts.proofs.TextLaws.{joined_parts}
use Rattle.transcript_text.proofs.HeadBack.{begin_back, group_back, member_back, number_back}
use Rattle.transcript_text.proofs.PlanIs.{plan_is}
use Rattle.transcript_text.proofs.SpanWalk.{spans_stated}

-- ---- the first three lines

title_back : (version : Version) (n : ℕ) (fs : List (List ℕ)) (u : Unit {0}) → title_of version n fs ≡ Ok u → fs ≡ title version ∷ []
unfolding title_of
title_back version n fs u h = elim (pick ((length fs == 1) && bytes_eq (at fs 0) (title version)) (Ok tt) (Err (fault.Head n)) (Ok u) h) [
  | inl w ↦ let t = test_of (length fs == 1) (bytes_eq (at fs 0) (title version)) w.0 in spell_one fs (long_of fs 1 t.0) (is_word (at fs 0) (title version) t.1)
  | inr w ↦ absurd (let o = w.1 in cc)
]

rounds_back : (n : ℕ) (fs : List (List ℕ)) (rounds : ℕ) → rounds_of n fs ≡ Ok rounds → fs ≡ rounds_fields rounds
unfolding rounds_of
rounds_back n fs rounds h = elim (pick ((length fs == 2) && bytes_eq (at fs 0) (codes "rounds")) (head_number n (at fs 1)) (Err (fault.Head n)) (Ok rounds) h) [
  | inl w ↦
      let t = test_of (length fs == 2) (bytes_eq (at fs 0) (codes "rounds")) w.0 in
      spell_two fs (long_of fs 2 t.0) (is_word (at fs 0) (codes "rounds") t.1) (number_back n rounds (at fs 1) w.1).0
  | inr w ↦ absurd (let o = w.1 in cc)
]

windows_back : (n : ℕ) (fs : List (List ℕ)) (w : ℕ × ℕ) → windows_of n fs ≡ Ok w → fs ≡ windows_fields w.0 w.1
unfolding windows_of
windows_back n fs w h = elim (pick ((length fs == 3) && bytes_eq (at fs 0) (codes "windows")) (two_numbers n fs) (Err (fault.Head n)) (Ok w) h) [
  | inl v ↦
      let t = test_of (length fs == 3) (bytes_eq (at fs 0) (codes "windows")) v.0 in
      let a = bind_ok (head_number n (at fs 1)) _ w v.1 in
      let b = bind_ok (head_number n (at fs 2)) _ w a.2 in
      let same : (a.0, b.0) ≡ w = (let o = b.2 in cc) in
      spell_three fs (long_of fs 3 t.0) (is_word (at fs 0) (codes "windows") t.1) ((number_back n a.0 (at fs 1) a.1).0 ∙ ap (λ (x : ℕ × ℕ). decimal x.0) same) ((number_back n b.0 (at fs 2) b.1).0 ∙ ap (λ (x : ℕ × ℕ). decimal x.1) same)
  | inr v ↦ absurd (let o = v.1 in cc)
]

rest_back : {A : Type 0} (rest : List (List ℕ)) (r : Result A ReadError) (x : A) (more : List (List ℕ)) → with_rest rest r ≡ Ok (x, more) → (r ≡ Ok x) × (rest ≡ more)
rest_back {A = A} rest (Ok y) x more h =
    let e : (y, rest) ≡ (x, more) = cc in
    (ap (λ (p : A × List (List ℕ)). Ok p.0) e, ap (λ (p : A × List (List ℕ)). p.1) e)
rest_back rest (Err f) x more h = absurd cc

-- a line that was read, and what follows it
line_back : {A : Type 0} (n : ℕ) (read : List (List ℕ) → Result A ReadError) (ps : List (List ℕ)) (x : A) (more : List (List ℕ)) → next_line n read ps ≡ Ok (x, more)
    → (line : List ℕ) × (read (parts 44 line) ≡ Ok x) × (join_with_byte 10 ps ≡ ended line ++ join_with_byte 10 more)
line_back n read [] x more h = absurd cc
line_back n read (line ∷ []) x more h = absurd cc
line_back n read (line ∷ next ∷ rest) x more h =
    let b = rest_back (next ∷ rest) (read (parts 44 line)) x more h in
    (line, b.0, ap (λ q. line ++ 10 ∷ join_with_byte 10 q) b.1 ∙ sym (append_assoc line (10 ∷ []) (join_with_byte 10 more)))

start_back : (version : Version) (ps : List (List ℕ)) (s : Start) (more : List (List ℕ)) → start_of version ps ≡ Ok (s, more)
    → join_with_byte 10 ps ≡ (ended (title version) ++ ended (joined (rounds_fields s.rounds)) ++ ended (joined (windows_fields s.w1 s.w2))) ++ join_with_byte 10 more
unfolding start_of
start_back version ps s more h =
    let a = bind_ok (next_line 1 (title_of version 1) ps) _ (s, more) h in
    let b = bind_ok (next_line 2 (rounds_of 2) a.0.1) _ (s, more) a.2 in
    let c = bind_ok (next_line 3 (windows_of 3) b.0.1) _ (s, more) b.2 in
    let made : Start = record { rounds = b.0.0; w1 = c.0.0.0; w2 = c.0.0.1 } in
    let same : (made, c.0.1) ≡ (s, more) = (let o = c.2 in cc) in
    let l1 = line_back 1 (title_of version 1) ps a.0.0 a.0.1 a.1 in
    let l2 = line_back 2 (rounds_of 2) a.0.1 b.0.0 b.0.1 b.1 in
    let l3 = line_back 3 (windows_of 3) b.0.1 c.0.0 c.0.1 c.1 in
    let t1 : l1.0 ≡ title version = joined_parts 44 l1.0 (title version ∷ []) (title_back version 1 (parts 44 l1.0) a.0.0 l1.1) in
    let t2 : l2.0 ≡ joined (rounds_fields b.0.0) = joined_parts 44 l2.0 (rounds_fields b.0.0) (rounds_back 2 (parts 44 l2.0) b.0.0 l2.1) in
    let t3 : l3.0 ≡ joined (windows_fields c.0.0.0 c.0.0.1) = joined_parts 44 l3.0 (windows_fields c.0.0.0 c.0.0.1) (windows_back 3 (parts 44 l3.0) c.0.0 l3.1) in
    let x : List ℕ = ended (title version) in
    let y : List ℕ = ended (joined (rounds_fields b.0.0)) in
    let z : List ℕ = ended (joined (windows_fields c.0.0.0 c.0.0.1)) in
    let text : join_with_byte 10 ps ≡ (x ++ y ++ z) ++ join_with_byte 10 c.0.1 =
    l1.2 ∙ ap (λ q. ended q ++ join_with_byte 10 a.0.1) t1
    ∙ ap (λ q. x ++ q) (l2.2 ∙ ap (λ q. ended q ++ join_with_byte 10 b.0.1) t2
    ∙ ap (λ q. y ++ q) (l3.2 ∙ ap (λ q. ended q ++ join_with_byte 10 c.0.1) t3))
    ∙ sym (append_assoc (x ++ y) z (join_with_byte 10 c.0.1) ∙ append_assoc x y (z ++ join_with_byte 10 c.0.1)) in
    text ∙ ap (λ (p : Start × List (List ℕ)). (x ++ ended (joined (rounds_fields p.0.rounds)) ++ ended (joined (windows_fields p.0.w1 p.0.w2))) ++ join_with_byte 10 p.1) same

-- ---- the lines after them

ended_text : (line rest more : List ℕ) → line ++ 10 ∷ (rest ++ more) ≡ (ended line ++ rest) ++ more
ended_text line rest more = sym (append_assoc (ended line) rest more ∙ append_assoc line (10 ∷ []) (rest ++ more))

-- the groups and spans of the rest of a head
record HeadRest (version : Version) (start : Start) (last : Option Span) (groups : List GroupPlan) (spans : List Span) (ps : List (List ℕ)) (h : HeadRead) : Type 0 where
  more_groups : List GroupPlan
  more_spans : List Span
  at_line : ℕ
  text : join_with_byte 10 ps ≡ groups_text more_groups ++ (members_text more_spans ++ (ended (codes "begin") ++ join_with_byte 10 h.rest))
  plan : plan_at version at_line start (groups ++ more_groups) (spans ++ more_spans) ≡ Ok h.plan
  no_group : (s : Span) → last ≡ Some s → more_groups ≡ []
  stated : AreStated start.rounds (groups ++ more_groups) last more_spans
  no_span : is_two version ≡ false → more_spans ≡ []
  named : AreNamed more_groups

begin_is : (n : ℕ) (rest : List (List ℕ)) (r : Result PlanView ReadError) (h : HeadRead) → at_begin n rest r ≡ Ok h → (r ≡ Ok h.plan) × (rest ≡ h.rest)
begin_is n rest (Ok plan) h e = let same : record { plan = plan; line = n + 1; rest = rest } ≡ h = cc in (ap (λ (x : HeadRead). Ok x.plan) same, ap (λ (x : HeadRead). x.rest) same)
begin_is n rest (Err f) h e = absurd cc

head_back : (version : Version) (start : Start) (n : ℕ) (last : Option Span) (groups : List GroupPlan) (spans : List Span) (ps : List (List ℕ)) (h : HeadRead) → head_from version start n last groups spans ps ≡ Ok h
    → HeadRest version start last groups spans ps h
unfolding head_from
head_back version start n last groups spans [] h is = absurd cc
head_back version start n last groups spans (x ∷ []) h is = absurd cc
head_back version start n last groups spans (line ∷ next ∷ more) h is =
    by_row (head_row version n start.rounds groups last (parts 44 line)) refl is (λ l gs ss. head_back version start (n + 1) l gs ss (next ∷ more) h)
  where
    by_row : (r : Result HeadRow ReadError) → head_row version n start.rounds groups last (parts 44 line) ≡ r
        → after_head_row version start n last groups spans (next ∷ more) (λ l gs ss. head_from version start (n + 1) l gs ss (next ∷ more)) r ≡ Ok h
        → ((l : Option Span) (gs : List GroupPlan) (ss : List Span) → head_from version start (n + 1) l gs ss (next ∷ more) ≡ Ok h → HeadRest version start l gs ss (next ∷ more) h)
        → HeadRest version start last groups spans (line ∷ next ∷ more) h
    by_row (Ok (row.Group g)) r is ih =
        let b = group_back version n start.rounds groups last (parts 44 line) g r in
        let rest = ih last (groups ++ g ∷ []) spans is in
        let all : (groups ++ g ∷ []) ++ rest.more_groups ≡ groups ++ g ∷ rest.more_groups = append_assoc groups (g ∷ []) rest.more_groups in
        let text : line ≡ joined (group_fields g) = joined_parts 44 line (group_fields g) b.fields in
        let tail : List ℕ = members_text rest.more_spans ++ (ended (codes "begin") ++ join_with_byte 10 h.rest) in
        record {
          more_groups = g ∷ rest.more_groups;
          more_spans = rest.more_spans;
          at_line = rest.at_line;
          text = ap (λ q. line ++ 10 ∷ q) rest.text ∙ ap (λ q. q ++ 10 ∷ (groups_text rest.more_groups ++ tail)) text
              ∙ ended_text (joined (group_fields g)) (groups_text rest.more_groups) tail;
          plan = subst (λ gs. plan_at version rest.at_line start gs (spans ++ rest.more_spans) ≡ Ok h.plan) all rest.plan;
          no_group = λ s e. absurd (let none = b.first in let o : None ≡ Some s = sym none ∙ e in cc);
          stated = subst (λ gs. AreStated start.rounds gs last rest.more_spans) all rest.stated;
          no_span = rest.no_span;
          named = All-cons (λ x. IsTrue (is_name x.name)) g rest.more_groups b.name rest.named;
        }
    by_row (Ok (row.Member s)) r is ih =
        let b = member_back version n start.rounds groups last (parts 44 line) s r in
        let rest = ih (Some s) groups (spans ++ s ∷ []) is in
        let none : rest.more_groups ≡ [] = rest.no_group s refl in
        let all : (spans ++ s ∷ []) ++ rest.more_spans ≡ spans ++ s ∷ rest.more_spans = append_assoc spans (s ∷ []) rest.more_spans in
        let same : groups ++ rest.more_groups ≡ groups ++ [] = ap (λ q. groups ++ q) none in
        let text : line ≡ joined (member_fields s) = joined_parts 44 line (member_fields s) b.fields in
        let tail : List ℕ = ended (codes "begin") ++ join_with_byte 10 h.rest in
        record {
          more_groups = [];
          more_spans = s ∷ rest.more_spans;
          at_line = rest.at_line;
          text = ap (λ q. line ++ 10 ∷ q) (rest.text ∙ ap (λ gs. groups_text gs ++ (members_text rest.more_spans ++ tail)) none) ∙ ap (λ q. q ++ 10 ∷ (members_text rest.more_spans ++ tail)) text
              ∙ ended_text (joined (member_fields s)) (members_text rest.more_spans) tail;
          plan = subst (λ ss. plan_at version rest.at_line start (groups ++ []) ss ≡ Ok h.plan) all (subst (λ gs. plan_at version rest.at_line start gs ((spans ++ s ∷ []) ++ rest.more_spans) ≡ Ok h.plan) same rest.plan);
          no_group = λ t e. refl;
          stated = (subst (λ gs. IsTrue (span_fits start.rounds gs last s)) (sym (append-nil groups)) b.fits, subst (λ gs. AreStated start.rounds gs (Some s) rest.more_spans) same rest.stated);
          no_span = λ no. absurd (let two = b.version_2 in let o : false ≡ true = sym no ∙ two in cc);
          named = All-nil (λ x. IsTrue (is_name x.name));
        }
    by_row (Ok row.Begin) r is ih =
        let b = begin_back version n start.rounds groups last (parts 44 line) r in
        let e = begin_is n (next ∷ more) (plan_at version n start groups spans) h is in
        let text : line ≡ codes "begin" = joined_parts 44 line (codes "begin" ∷ []) b in
        record {
          more_groups = [];
          more_spans = [];
          at_line = n;
          text = ap (λ q. line ++ 10 ∷ join_with_byte 10 q) e.1 ∙ ap (λ q. q ++ 10 ∷ join_with_byte 10 h.rest) text;
          plan = subst (λ ss. plan_at version n start (groups ++ []) ss ≡ Ok h.plan) (sym (append-nil spans)) (subst (λ gs. plan_at version n start gs spans ≡ Ok h.plan) (sym (append-nil groups)) e.0);
          no_group = λ t e. refl;
          stated = tt;
          no_span = λ no. refl;
          named = All-nil (λ x. IsTrue (is_name x.name));
        }
    by_row (Err f) r is ih = absurd cc

-- ---- the plan

-- what `begin` makes of groups and spans
pub record IsPlanAt (version : Version) (start : Start) (groups : List GroupPlan) (spans : List Span) (plan : PlanView) : Type 0 where
  pub version_has : has_version version groups ≡ true
  pub sound : first_fault groups start.rounds start.w1 start.w2 ≡ None
  pub made : plan ≡ with_spans (plan_of groups start.rounds start.w1 start.w2) spans

unless_back : (n : ℕ) (plan made : PlanView) (o : Option PlanError) → unless_fault n made o ≡ Ok plan → (o ≡ None) × (plan ≡ made)
unless_back n plan made None h = (refl, cc)
unless_back n plan made (Some e) h = absurd cc

pub plan_back : (version : Version) (n : ℕ) (start : Start) (groups : List GroupPlan) (spans : List Span) (plan : PlanView) → plan_at version n start groups spans ≡ Ok plan → IsPlanAt version start groups spans plan
unfolding plan_at
plan_back version n start groups spans plan h =
    elim (pick (has_version version groups) (unless_fault n (with_spans (plan_of groups start.rounds start.w1 start.w2) spans) (first_fault groups start.rounds start.w1 start.w2)) (Err (fault.Head n)) (Ok plan) h) [
      | inl w ↦
          let u = unless_back n plan (with_spans (plan_of groups start.rounds start.w1 start.w2) spans) (first_fault groups start.rounds start.w1 start.w2) w.1 in
          record { version_has = w.0; sound = u.0; made = u.1 }
      | inr w ↦ absurd (let o = w.1 in cc)
    ]

-- groups that state the same
same_stated : (xs : List Group) (f : ℕ → Group) (a : ℕ) → ((k : ℕ) (x : Group) → slice_get xs k ≡ Some x → stated (f (a + k)) ≡ stated x) → map stated (map f (range_with_len a (length xs))) ≡ map stated xs
same_stated [] f a h = refl
same_stated (x ∷ xs) f a h =
    let zero_is : a + 0 ≡ a = omega arith in
    let first : stated (f a) ≡ stated x = ap (λ k. stated (f k)) (sym zero_is) ∙ h 0 x refl in
    ap (λ q. q ∷ map stated (map f (range_with_len (a + 1) (length xs)))) first
    ∙ ap (λ q. stated x ∷ q) (same_stated xs f (a + 1) (λ k y e. let next : a + 1 + k ≡ a + suc k = omega arith in ap (λ k. stated (f k)) next ∙ h (suc k) y e))

with_stated : (plan : PlanView) (spans : List Span) → map stated (with_spans plan spans).groups ≡ map stated plan.groups
with_stated plan spans = same_stated plan.groups (group_with plan spans) 0 (λ k x e. same k x e)
  where
    same : (k : ℕ) (x : Group) → slice_get plan.groups k ≡ Some x → stated (group_with plan spans (0 + k)) ≡ stated x
    same k x e =
        let z : 0 + k ≡ k = omega arith in
        let n : length (map (rounds_given plan.rounds spans k) (range_with_len 0 (size plan.groups k))) ≡ size plan.groups k = length-map-range_with_len (rounds_given plan.rounds spans k) 0 (size plan.groups k) in
        let made : List ℕ → ℕ → ℕ → GroupPlan = λ name meters floor. record { name = name; meters = meters; floor = floor } in
        ap (λ j. stated (group_with plan spans j)) z ∙ ap (λ m. made (name_of plan.groups k) m (floor_of plan.groups k)) n
        ∙ ap (λ (o : Option Group). made (name_or o) (size_or o) (floor_or o)) e

pub groups_stated : (groups : List GroupPlan) (rounds w1 w2 : ℕ) (spans : List Span) → map stated (with_spans (plan_of groups rounds w1 w2) spans).groups ≡ groups
groups_stated groups rounds w1 w2 spans = with_stated (plan_of groups rounds w1 w2) spans ∙ stated-group_of rounds groups

-- ---- what a version asks of plans

few_meters : (gs : List Group) → has_version One (map stated gs) ≡ true → (g : ℕ) → size gs g ≤ 64
few_meters [] h g = omega arith
few_meters (x ∷ xs) h zero = let few = (test_of (nat_le (length x.spans) 64) (has_version One (map stated xs)) h).0 in grind (arith, nat_tests, few)
few_meters (x ∷ xs) h (suc g) = few_meters xs (test_of (nat_le (length x.spans) 64) (has_version One (map stated xs)) h).1 g

head_has : (version : Version) (plan : PlanView) → has_version version (map stated plan.groups) ≡ true → (is_two version ≡ false → stated_spans plan ≡ []) → HasHead version plan
head_has One plan few none = record { meters = few_meters plan.groups few; spans = none refl }
head_has Two plan few none = tt

-- what is read of a head
pub record IsHeadRead (version : Version) (ps : List (List ℕ)) (h : HeadRead) : Type 0 where
  pub text : join_with_byte 10 ps ≡ head_text version h.plan ++ join_with_byte 10 h.rest
  pub has : HasHead version h.plan
  pub plan : IsPlan h.plan

pub head_is : (version : Version) (ps : List (List ℕ)) (h : HeadRead) → head_of version ps ≡ Ok h → IsHeadRead version ps h
unfolding head_of head_text
head_is version ps h is =
    let s = bind_ok (start_of version ps) _ h is in
    let start : Start = s.0.0 in
    let rest = head_back version start 4 None [] [] s.0.1 h s.2 in
    let groups : List GroupPlan = rest.more_groups in
    let spans : List Span = rest.more_spans in
    let p = plan_back version rest.at_line start groups spans h.plan rest.plan in
    let made : PlanView = with_spans (plan_of groups start.rounds start.w1 start.w2) spans in
    let gs : map stated made.groups ≡ groups = groups_stated groups start.rounds start.w1 start.w2 spans in
    let ss : stated_spans made ≡ spans = spans_stated groups start.rounds start.w1 start.w2 spans rest.stated in
    let first = start_text version made in
    let tail = ended (codes "begin") in
    let last = join_with_byte 10 h.rest in
    let text : join_with_byte 10 ps ≡ (first ++ groups_text (map stated made.groups) ++ members_text (stated_spans made) ++ tail) ++ last =
    start_back version ps start s.0.1 s.1 ∙ ap (λ q. first ++ q) rest.text
    ∙ ap (λ q. first ++ (groups_text q ++ (members_text spans ++ (tail ++ last)))) (sym gs) ∙ ap (λ q. first ++ (groups_text (map stated made.groups) ++ (members_text q ++ (tail ++ last)))) (sym ss)
    ∙ sym (append_assoc (first ++ groups_text (map stated made.groups) ++ members_text (stated_spans made)) tail last
    ∙ append_assoc (first ++ groups_text (map stated made.groups)) (members_text (stated_spans made)) (tail ++ last)
    ∙ append_assoc first (groups_text (map stated made.groups)) (members_text (stated_spans made) ++ (tail ++ last))) in
    let has : HasHead version made = head_has version made (rw gs p.version_has) (λ no. ss ∙ rest.no_span no) in
    record {
      text = text ∙ ap (λ (plan : PlanView). (start_text version plan ++ groups_text (map stated plan.groups) ++ members_text (stated_spans plan) ++ tail) ++ last) (sym p.made);
      has = subst (λ (plan : PlanView). HasHead version plan) (sym p.made) has;
      plan = subst IsPlan (sym p.made) (plan_is groups start.rounds start.w1 start.w2 spans p.sound rest.named rest.stated gs);
    }
