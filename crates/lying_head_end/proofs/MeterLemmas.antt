-- After any calls a meter keeps what the rule of the acts says.
use Rattle.std.proofs.Common.{◌≡◌, ℕ, ◌<◌, ◌≤◌, Bool, true, false, not, ◌&&◌, ◌||◌, List, [], ◌∷◌, map, length, replicate, refl, sym, ap, ◌∙◌, ⊎_elim, subst, arith}
use Rattle.std.specs.Prelude.{◌==◌, nat_lt, Option, Some, None, is_some, if◌then◌else◌, bytes_eq}
use Rattle.std.specs.Option.{option_or}
use Rattle.std.specs.List.{AllByRecursion}
use Rattle.std.proofs.lemmas.Bool.{false≢true, cases_eq, cases_lt, eq-eqb, ne_eqb, both_ways, lt-ltb}
use Rattle.std.proofs.lemmas.List.{get_or-replicate, get_or_past, length-replicate}
use Rattle.std.proofs.lemmas.Slice.Eq.{bytes_eq-Decides}
use Rattle.meter_core.specs.Notes.{Note}
use Rattle.meter_core.specs.declared.Why.{Why}
use Rattle.meter_core.specs.declared.Why.TheVariants.{OutOfPlan, NotRead, SelfMissing, Thin, OtherSet}
use Rattle.meter_core.specs.declared.Heard.{Heard}
use Rattle.meter_core.specs.declared.Heard.TheVariants.{Answer, AnswerAgain, Refused}
use Rattle.meter_core.specs.Meters.{MeterView, blank, note_at, new_meter, marked, refusal, refusal_over, kept_set, keeping, Hears}
use Rattle.meter_core.specs.Calls.{Call, Marked, Announced, Step, Run, IsAnswer}
use Rattle.meter_core.proofs.CallLemmas.{kept_set-keeping_same, kept_set-marked, members-marked, note_at-keeping_other, note_at-marked_other, note_at-same, one_set, within-rounds}
use Rattle.event_schedule.specs.Schedule.{Shape, members_of, floor_of}
use Rattle.lying_head_end.specs.Acts.{Act, Read, Tell, has_read, meter_of, may_answer, set_heard, set_answered, is_set, does_answer}
use Rattle.lying_head_end.specs.Meters.{act_of, past_of, MarksReading, AnswersItsSet}
use Rattle.lying_head_end.proofs.ActLemmas.{after, after-reverse, passed}

-- ---- what a meter notes

pub record Notes (s : Shape) (g i : ℕ) (t : MeterView) (past : List Act) : Type 0 where
  pub meter : t.meter ≡ i
  pub floor : t.floor ≡ floor_of s g
  pub members : (r : ℕ) → (note_at t r).members ≡ (if has_read s g r i past then Some (members_of s g r) else None)
  pub kept : (r : ℕ) → kept_set t r ≡ set_answered s g r i past

option_or-none : (o : Option (List ℕ)) → option_or o None ≡ o
option_or-none None = refl
option_or-none (Some set) = refl

-- a place is another one where the round is
other_round : (g i q r : ℕ) → (q ≡ r → ⊥) → ((g == g) && (q == r) && (i == i)) ≡ false
other_round g i q r ne = ap (λ b. b && (q == r) && (i == i)) (eq-eqb g g refl) ∙ ap (λ b. b && (i == i)) (ne_eqb q r ne)

same_round : (g i r : ℕ) → ((g == g) && (r == r) && (i == i)) ≡ true
same_round g i r = ap (λ b. b && (r == r) && (i == i)) (eq-eqb g g refl) ∙ ap (λ b. b && (i == i)) (eq-eqb r r refl) ∙ eq-eqb i i refl

-- the refusal of a meter is that of its number and the floor alone
refusal_over-same : (t u : MeterView) (set : List ℕ) (members : Option (List ℕ)) → t.meter ≡ u.meter → t.floor ≡ u.floor → refusal_over t set members ≡ refusal_over u set members
refusal_over-same t u set None e f = refl
refusal_over-same t u set (Some members) e f =
    ap (λ m. refusal_over (record { meter = m; floor = t.floor; notes = t.notes }) set (Some members)) e
    ∙ ap (λ k. refusal_over (record { meter = u.meter; floor = k; notes = t.notes }) set (Some members)) f

-- ---- a mark

mark-notes : (s : Shape) (g i : ℕ) (t u : MeterView) (past : List Act) (q : ℕ) → Notes s g i t past → q < length t.notes → s.present g q i ≡ true
    → u ≡ marked t q (members_of s g q) → Notes s g i u (Read g q i ∷ past)
mark-notes s g i t u past q n below present is =
    subst (λ z. Notes s g i z (Read g q i ∷ past)) (sym is)
    (record {
      meter = same_meter (is_some (note_at t q).members) ∙ n.meter;
      floor = same_floor (is_some (note_at t q).members) ∙ n.floor;
      members = λ r. ⊎_elim (λ e. subst (λ z. (note_at (marked t q (members_of s g q)) z).members ≡ (if has_read s g z i (Read g q i ∷ past) then Some (members_of s g z) else None)) e here) (λ ne. there r ne) (cases_eq q r);
      kept = λ r. kept_set-marked t q r (members_of s g q) below ∙ n.kept r ∙ sym (option_or-none (set_answered s g r i past));
    })
  where
    same_meter : (b : Bool) → (if b then t else record t { notes = Rattle.std.specs.Prelude.slice_set t.notes q (record { members = Some (members_of s g q); kept = (note_at t q).kept }) }).meter ≡ t.meter
    same_meter true = refl
    same_meter false = refl

    same_floor : (b : Bool) → (if b then t else record t { notes = Rattle.std.specs.Prelude.slice_set t.notes q (record { members = Some (members_of s g q); kept = (note_at t q).kept }) }).floor ≡ t.floor
    same_floor true = refl
    same_floor false = refl

    old_or_new : (b : Bool) (ms : List ℕ) → (if is_some (if b then Some ms else None) then (if b then Some ms else None) else Some ms) ≡ Some ms
    old_or_new true ms = refl
    old_or_new false ms = refl

    here : (note_at (marked t q (members_of s g q)) q).members ≡ (if has_read s g q i (Read g q i ∷ past) then Some (members_of s g q) else None)
    here =
        members-marked t q (members_of s g q) below
        ∙ ap (λ (o : Option (List ℕ)). if is_some o then o else Some (members_of s g q)) (n.members q)
        ∙ old_or_new (has_read s g q i past) (members_of s g q)
        ∙ sym (ap (λ b. if (b && s.present g q i) || has_read s g q i past then Some (members_of s g q) else None) (same_round g i q) ∙ ap (λ b. if b || has_read s g q i past then Some (members_of s g q) else None) present)

    there : (r : ℕ) → (q ≡ r → ⊥) → (note_at (marked t q (members_of s g q)) r).members ≡ (if has_read s g r i (Read g q i ∷ past) then Some (members_of s g r) else None)
    there r ne =
        ap (λ (k : Note). k.members) (note_at-marked_other t q r (members_of s g q) (λ e. ne (sym e)))
        ∙ n.members r
        ∙ sym (ap (λ b. if (b && s.present g r i) || has_read s g r i past then Some (members_of s g r) else None) (other_round g i q r ne))

-- ---- what refuses

some≢none : {A : Type 0} (x : A) → Some x ≡ None → ⊥
some≢none x h = false≢true (sym (ap is_some h))

over-same : (s : Shape) (g i : ℕ) (t : MeterView) (past : List Act) (r : ℕ) (set : List ℕ) → Notes s g i t past → has_read s g r i past ≡ true
    → refusal_over t set (note_at t r).members ≡ refusal_over (meter_of s g i) set (Some (members_of s g r))
over-same s g i t past r set n read =
    ap (refusal_over t set) (n.members r ∙ ap (λ b. if b then Some (members_of s g r) else None) read)
    ∙ refusal_over-same t (meter_of s g i) set (Some (members_of s g r)) n.meter n.floor

-- where nothing is refused the meter read the round, and the set meets the rule
no_refusal : (s : Shape) (g i : ℕ) (t : MeterView) (past : List Act) (r : ℕ) (set : List ℕ) → Notes s g i t past → refusal t r set ≡ None
    → (has_read s g r i past ≡ true) × (may_answer s g r i set ≡ true)
no_refusal s g i t past r set n none = step (has_read s g r i past) refl
  where
    over : refusal_over t set (note_at t r).members ≡ None
    over = ap (λ b. if b then refusal_over t set (note_at t r).members else Some OutOfPlan) (sym (lt-ltb r (length t.notes) (within-rounds t r set none))) ∙ none

    step : (b : Bool) → has_read s g r i past ≡ b → (b ≡ true) × (may_answer s g r i set ≡ true)
    step true is = (refl, ap (λ o. not (is_some o)) (sym (over-same s g i t past r set n is) ∙ over))
    step false is = absurd (some≢none NotRead (sym (ap (refusal_over t set) (n.members r ∙ ap (λ b. if b then Some (members_of s g r) else None) is)) ∙ over))

-- and where something is, one of the two is not so
some_refusal : (s : Shape) (g i : ℕ) (t : MeterView) (past : List Act) (r : ℕ) (set : List ℕ) (why : Why) → Notes s g i t past → refusal t r set ≡ Some why
    → has_read s g r i past ≡ true → may_answer s g r i set ≡ true → ⊥
some_refusal s g i t past r set why n refused read may = step (nat_lt r (length t.notes)) refl refused
  where
    none : is_some (refusal_over (meter_of s g i) set (Some (members_of s g r))) ≡ false
    none = not_true (is_some (refusal_over (meter_of s g i) set (Some (members_of s g r)))) may
      where
        not_true : (b : Bool) → not b ≡ true → b ≡ false
        not_true true e = absurd (false≢true e)
        not_true false e = refl

    step : (b : Bool) → nat_lt r (length t.notes) ≡ b → (if b then refusal_over t set (note_at t r).members else Some OutOfPlan) ≡ Some why → ⊥
    step true e f = false≢true (sym none ∙ ap is_some (sym (over-same s g i t past r set n read) ∙ f))
    step false e f =
        let past_end : length t.notes ≤ r = ⊎_elim (λ lt. absurd (both_ways (nat_lt r (length t.notes)) e (lt-ltb r (length t.notes) lt))) (λ ge. ge) (cases_lt r (length t.notes)) in
        some≢none (members_of s g r)
        (sym (n.members r ∙ ap (λ b. if b then Some (members_of s g r) else None) read) ∙ ap (λ (k : Note). k.members) (get_or_past t.notes r blank past_end))

-- ---- a set is heard

abbrev pub heard_at : Shape → ℕ → ℕ → List Act → ℕ → List ℕ → ℕ → Option (List ℕ)
heard_at s g i past q set r = set_heard s g r i past (Tell g q i set)

heard-other : (s : Shape) (g i : ℕ) (past : List Act) (q : ℕ) (set : List ℕ) (r : ℕ) → (q ≡ r → ⊥) → heard_at s g i past q set r ≡ None
heard-other s g i past q set r ne = ap (λ b. if b && has_read s g r i past && may_answer s g r i set then Some set else None) (other_round g i q r ne)

heard-same : (s : Shape) (g i : ℕ) (past : List Act) (r : ℕ) (set : List ℕ) → heard_at s g i past r set r ≡ (if has_read s g r i past && may_answer s g r i set then Some set else None)
heard-same s g i past r set = ap (λ b. if b && has_read s g r i past && may_answer s g r i set then Some set else None) (same_round g i r)

-- where the meter stays as it is, and the set is refused, or one is kept
stays-notes : (s : Shape) (g i : ℕ) (t u : MeterView) (past : List Act) (q : ℕ) (set : List ℕ) → Notes s g i t past → u ≡ t
    → option_or (set_answered s g q i past) (heard_at s g i past q set q) ≡ set_answered s g q i past → Notes s g i u (Tell g q i set ∷ past)
stays-notes s g i t u past q set n is same =
    subst (λ z. Notes s g i z (Tell g q i set ∷ past)) (sym is)
    (record {
      meter = n.meter;
      floor = n.floor;
      members = n.members;
      kept = λ r. n.kept r ∙ ⊎_elim
          (λ e. subst (λ z. set_answered s g z i past ≡ option_or (set_answered s g z i past) (heard_at s g i past q set z)) e (sym same))
          (λ ne. sym (ap (option_or (set_answered s g r i past)) (heard-other s g i past q set r ne) ∙ option_or-none (set_answered s g r i past)))
          (cases_eq q r);
    })

kept-stays : (s : Shape) (g i : ℕ) (past : List Act) (q : ℕ) (set kept : List ℕ) → set_answered s g q i past ≡ Some kept
    → option_or (set_answered s g q i past) (heard_at s g i past q set q) ≡ set_answered s g q i past
kept-stays s g i past q set kept e = ap (λ o. option_or o (heard_at s g i past q set q)) e ∙ sym e

refused-stays : (s : Shape) (g i : ℕ) (t : MeterView) (past : List Act) (q : ℕ) (set : List ℕ) (why : Why) → Notes s g i t past → refusal t q set ≡ Some why
    → option_or (set_answered s g q i past) (heard_at s g i past q set q) ≡ set_answered s g q i past
refused-stays s g i t past q set why n refused =
    ap (option_or (set_answered s g q i past)) (heard-same s g i past q set ∙ never (has_read s g q i past) (may_answer s g q i set) refl refl)
    ∙ option_or-none (set_answered s g q i past)
  where
    never : (b c : Bool) → has_read s g q i past ≡ b → may_answer s g q i set ≡ c → (if b && c then Some set else None) ≡ None
    never true true e f = absurd (some_refusal s g i t past q set why n refused e f)
    never true false e f = refl
    never false true e f = refl
    never false false e f = refl

keeps-notes : (s : Shape) (g i : ℕ) (t u : MeterView) (past : List Act) (q : ℕ) (set : List ℕ) → Notes s g i t past → refusal t q set ≡ None → kept_set t q ≡ None → u ≡ keeping t q set
    → Notes s g i u (Tell g q i set ∷ past)
keeps-notes s g i t u past q set n none blank_ is =
    let below : q < length t.notes = within-rounds t q set none in
    let both = no_refusal s g i t past q set n none in
    subst (λ z. Notes s g i z (Tell g q i set ∷ past)) (sym is)
    (record {
      meter = n.meter;
      floor = n.floor;
      members = λ r. ⊎_elim
          (λ e. subst (λ z. (note_at (keeping t q set) z).members ≡ (if has_read s g z i past then Some (members_of s g z) else None)) e
          (ap (λ (k : Note). k.members) (note_at-same t q (record { members = (note_at t q).members; kept = Some set }) below) ∙ n.members q))
          (λ ne. ap (λ (k : Note). k.members) (note_at-keeping_other t q r set (λ e. ne (sym e))) ∙ n.members r)
          (cases_eq q r);
      kept = λ r. ⊎_elim
          (λ e. subst (λ z. kept_set (keeping t q set) z ≡ option_or (set_answered s g z i past) (heard_at s g i past q set z)) e
          (kept_set-keeping_same t q set below
          ∙ sym (ap (λ o. option_or o (heard_at s g i past q set q)) (sym (n.kept q) ∙ blank_)
          ∙ heard-same s g i past q set
          ∙ ap (λ b. if b && may_answer s g q i set then Some set else None) both.0
          ∙ ap (λ b. if b then Some set else None) both.1)))
          (λ ne.
          ap (λ (k : Note). k.kept) (note_at-keeping_other t q r set (λ e. ne (sym e)))
          ∙ n.kept r
          ∙ sym (ap (option_or (set_answered s g r i past)) (heard-other s g i past q set r ne) ∙ option_or-none (set_answered s g r i past)))
          (cases_eq q r);
    })

hears-notes : (s : Shape) (g i : ℕ) (t u : MeterView) (past : List Act) (q : ℕ) (set : List ℕ) (said : Heard) → Notes s g i t past → Hears t q set said u → Notes s g i u (Tell g q i set ∷ past)
hears-notes s g i t u past q set Answer n h = keeps-notes s g i t u past q set n h.0 h.1 h.2
hears-notes s g i t u past q set AnswerAgain n h = stays-notes s g i t u past q set n h.2 (kept-stays s g i past q set set (sym (n.kept q) ∙ h.1))
hears-notes s g i t u past q set (Refused (OtherSet kept)) n h = stays-notes s g i t u past q set n h.3 (kept-stays s g i past q set kept (sym (n.kept q) ∙ h.1))
hears-notes s g i t u past q set (Refused OutOfPlan) n h = stays-notes s g i t u past q set n h.1 (refused-stays s g i t past q set OutOfPlan n h.0)
hears-notes s g i t u past q set (Refused NotRead) n h = stays-notes s g i t u past q set n h.1 (refused-stays s g i t past q set NotRead n h.0)
hears-notes s g i t u past q set (Refused SelfMissing) n h = stays-notes s g i t u past q set n h.1 (refused-stays s g i t past q set SelfMissing n h.0)
hears-notes s g i t u past q set (Refused (Thin left)) n h = stays-notes s g i t u past q set n h.1 (refused-stays s g i t past q set (Thin left) n h.0)

-- ---- any calls

call-notes : (s : Shape) (g i : ℕ) (t u : MeterView) (past : List Act) (call : Call) → Notes s g i t past → MarksReading s g i call → Step t call u → Notes s g i u (act_of g i call ∷ past)
call-notes s g i t u past (Marked r members) n marks h = mark-notes s g i t u past r n h.0 marks.1 (h.1 ∙ ap (marked t r) marks.0)
call-notes s g i t u past (Announced r set said) n marks h = hears-notes s g i t u past r set said n h

run-notes : (s : Shape) (g i : ℕ) (t u : MeterView) (past : List Act) (calls : List Call) → AllByRecursion (MarksReading s g i) calls → Notes s g i t past → Run t calls u
    → Notes s g i u (after past (map (act_of g i) calls))
unfolding Run after
run-notes s g i t u past [] marks n run = subst (λ z. Notes s g i z past) (sym run) n
run-notes s g i t u past (call ∷ calls) marks n run = run-notes s g i run.0 u (act_of g i call ∷ past) calls marks.1 (call-notes s g i t run.0 past call n marks.0 run.1) run.2

new-notes : (s : Shape) (g i rounds : ℕ) → Notes s g i (new_meter i (floor_of s g) rounds) []
new-notes s g i rounds = record {
  meter = refl;
  floor = refl;
  members = λ r. ap (λ (n : Note). n.members) (at r);
  kept = λ r. ap (λ (n : Note). n.kept) (at r);
}
  where
    at : (r : ℕ) → note_at (new_meter i (floor_of s g) rounds) r ≡ blank
    at r = ⊎_elim (λ lt. get_or-replicate rounds r blank blank lt) (λ ge. get_or_past (replicate rounds blank) r blank (omega (arith, ge, length-replicate rounds blank))) (cases_lt r rounds)

-- ---- what it says

says : (s : Shape) (g i : ℕ) (t u : MeterView) (past : List Act) (r : ℕ) (set : List ℕ) → Notes s g i u (Tell g r i set ∷ past) → kept_set u r ≡ Some set → does_answer s g r i set past ≡ true
says s g i t u past r set n kept = ap (λ o. is_set o set) (sym (n.kept r) ∙ kept) ∙ (bytes_eq-Decides set set).1 refl

-- a set that is kept is refused for no cause but another set
refuses : (s : Shape) (g i : ℕ) (t u : MeterView) (past : List Act) (r : ℕ) (set : List ℕ) (why : Why) → Notes s g i t past → Notes s g i u (Tell g r i set ∷ past) → refusal t r set ≡ Some why → u ≡ t
    → does_answer s g r i set past ≡ true → ⊥
refuses s g i t u past r set why n m refused is does =
    let kept : set_answered s g r i past ≡ Some set = sym (n.kept r) ∙ ap (λ z. kept_set z r) (sym is) ∙ m.kept r ∙ told (set_answered s g r i (Tell g r i set ∷ past)) does in
    let both = passed s g r i past set kept in
    some_refusal s g i t past r set why n refused both.0 both.1
  where
    told : (o : Option (List ℕ)) → is_set o set ≡ true → o ≡ Some set
    told None e = absurd (false≢true e)
    told (Some kept) e = ap Some ((bytes_eq-Decides kept set).0 e)

other-set : (s : Shape) (g i : ℕ) (t u : MeterView) (past : List Act) (r : ℕ) (set kept : List ℕ) → Notes s g i u (Tell g r i set ∷ past) → kept_set t r ≡ Some kept → bytes_eq kept set ≡ false → u ≡ t
    → does_answer s g r i set past ≡ true → ⊥
other-set s g i t u past r set kept n is differs same does =
    both_ways (bytes_eq kept set) differs (ap (λ o. is_set o set) (sym is ∙ ap (λ z. kept_set z r) (sym same) ∙ n.kept r) ∙ does)

said-is : (s : Shape) (g i : ℕ) (t u : MeterView) (past : List Act) (r : ℕ) (set : List ℕ) (said : Heard) → Notes s g i t past → Notes s g i u (Tell g r i set ∷ past) → Hears t r set said u
    → (IsAnswer said → does_answer s g r i set past ≡ true) × (does_answer s g r i set past ≡ true → IsAnswer said)
said-is s g i t u past r set Answer n m h =
    (λ _. says s g i t u past r set m (ap (λ z. kept_set z r) h.2 ∙ kept_set-keeping_same t r set (within-rounds t r set h.0)), λ _. tt)
said-is s g i t u past r set AnswerAgain n m h = (λ _. says s g i t u past r set m (ap (λ z. kept_set z r) h.2 ∙ h.1), λ _. tt)
said-is s g i t u past r set (Refused (OtherSet kept)) n m h = (λ x. absurd x, λ does. other-set s g i t u past r set kept m h.1 h.2 h.3 does)
said-is s g i t u past r set (Refused OutOfPlan) n m h = (λ x. absurd x, λ does. refuses s g i t u past r set OutOfPlan n m h.0 h.1 does)
said-is s g i t u past r set (Refused NotRead) n m h = (λ x. absurd x, λ does. refuses s g i t u past r set NotRead n m h.0 h.1 does)
said-is s g i t u past r set (Refused SelfMissing) n m h = (λ x. absurd x, λ does. refuses s g i t u past r set SelfMissing n m h.0 h.1 does)
said-is s g i t u past r set (Refused (Thin left)) n m h = (λ x. absurd x, λ does. refuses s g i t u past r set (Thin left) n m h.0 h.1 does)

pub answers_its_set : (s : Shape) (g i rounds : ℕ) (calls : List Call) (t : MeterView) → AllByRecursion (MarksReading s g i) calls → Run (new_meter i (floor_of s g) rounds) calls t → AnswersItsSet s g i calls t
answers_its_set s g i rounds calls t marks run =
    let n : Notes s g i t (past_of g i calls) = subst (Notes s g i t) (after-reverse (map (act_of g i) calls)) (run-notes s g i (new_meter i (floor_of s g) rounds) t [] calls marks (new-notes s g i rounds) run) in
    record {
      kept = n.kept;
      passed = λ r. sym (one_set i (floor_of s g) rounds calls t run r).kept ∙ n.kept r;
      said = λ r set said u h. said-is s g i t u (past_of g i calls) r set said n (hears-notes s g i t u (past_of g i calls) r set said n h) h;
    }
