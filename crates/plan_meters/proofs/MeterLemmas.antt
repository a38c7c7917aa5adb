-- What a meter keeps as it reads and hears, and that it never refuses.
use Rattle.std.proofs.Common.{◌≡◌, ℕ, ◌+◌, ◌-◌, ◌<◌, ◌≤◌, Bool, true, false, not, ◌&&◌, List, [], ◌∷◌, length, refl, sym, ap, ◌∙◌, subst, arith, ⊎_elim}
use Rattle.std.specs.Prelude.{◌==◌, nat_lt, if◌then◌else◌, slice_set, replicate, Option, Some, None, is_some, bytes_eq}
use Rattle.std.specs.List.{filter}
use Rattle.std.proofs.lemmas.Bool.{false≢true, cases_eq, cases_lt, and_parts, and_from, and_left, and_right, false_from_ne_true, lt-ltb, leb-true, le-ltb, cond_both}
use Rattle.std.proofs.lemmas.List.{length-set, length-replicate, get_or-replicate, get_or_past}
use Rattle.std.proofs.lemmas.List.Filters.{length-filter_both}
use Rattle.std.proofs.lemmas.Slice.Eq.{bytes_eq-Decides}
use Rattle.missing_round.specs.Sets.{is_member}
use Rattle.missing_round.proofs.SetLemmas.{is_member-filter, same_filter}
use Rattle.meter_core.specs.Notes.{Note}
use Rattle.meter_core.specs.declared.Heard.{Heard}
use Rattle.meter_core.specs.declared.Heard.TheVariants.{Answer, AnswerAgain, Refused}
use Rattle.meter_core.specs.declared.Why.{Why}
use Rattle.meter_core.specs.declared.Why.TheVariants.{OutOfPlan, NotRead, SelfMissing, Thin, OtherSet}
use Rattle.meter_core.specs.Meters.{MeterView, blank, note_at, new_meter, marked, is_within, survivors, refusal, refusal_over, kept_set, keeping, Hears}
use Rattle.meter_core.proofs.CallLemmas.{note_at-marked_other, members-marked, kept_set-marked, kept_set-keeping_same, note_at-keeping_other, note_at-same, within-rounds}
use Rattle.event_schedule.specs.declared.Event.{Event}
use Rattle.event_schedule.specs.Schedule.{Shape, members_of, floor_of, is_closed, is_reading_taken, reaches_floor, missing, is_announced, is_announcement_taken, survivors as survivors_of}
use Rattle.event_schedule.proofs.ScheduleLemmas.{is_announced-from_sent, is_announcement_sent-from_taken, present-from_taken}
use Rattle.plan_meters.specs.Meters.{AreMembers, IsKept, IsMeter, is_answer}
use Rattle.plan_meters.proofs.RangeLemmas.{lt-other}
use Rattle.plan_meters.proofs.GroupLemmas.{told_survives, told-not_missing}

-- ---- a new meter

note_at-new : (i floor n r : ℕ) → note_at (new_meter i floor n) r ≡ record { members = None; kept = None }
note_at-new i floor n r = ⊎_elim
    (λ lt. get_or-replicate n r blank blank lt)
    (λ ge. get_or_past (replicate n blank) r blank (omega (arith, ge, length-replicate n blank)))
    (cases_lt r n)

pub new-is : (s : Shape) (n : ℕ) (past : List Event) (g i floor : ℕ) → floor ≡ floor_of s g → IsMeter s n 0 past g i (new_meter i floor n)
new-is s n past g i floor is = record {
  number = refl;
  floor = is;
  notes = length-replicate n blank;
  read = λ r here. ap (λ (note : Note). is_some note.members) (note_at-new i floor n r) ∙ sym (and_left (nat_lt r 0) (s.present g r i) (le-ltb r 0 (omega arith)));
  members = λ r. subst (λ (note : Note). AreMembers (members_of s g r) note.members) (sym (note_at-new i floor n r)) tt;
  kept = λ r. subst (λ (note : Note). IsKept s past g r i note.kept) (sym (note_at-new i floor n r)) tt;
}

-- ---- a round that is read

-- what holds of a meter before a mark and after a new one
by_mark : (P : MeterView → Type 0) (m : MeterView) (r : ℕ) (set : List ℕ) → P m → P (record m { notes = slice_set m.notes r (record { members = Some set; kept = (note_at m r).kept }) }) → P (marked m r set)
by_mark P m r set same new = cond_both (is_some (note_at m r).members) m (record m { notes = slice_set m.notes r (record { members = Some set; kept = (note_at m r).kept }) }) P (λ _. same) (λ _. new)

is_some-marked : (o : Option (List ℕ)) (set : List ℕ) → is_some (if is_some o then o else Some set) ≡ true
is_some-marked None set = refl
is_some-marked (Some old) set = refl

members-kept : (o : Option (List ℕ)) (set : List ℕ) → AreMembers set o → AreMembers set (if is_some o then o else Some set)
members-kept None set is = refl
members-kept (Some old) set is = is

pub read-marked : (s : Shape) (n t : ℕ) (past : List Event) (g i : ℕ) (m : MeterView) → t < n → s.present g t i ≡ true → IsMeter s n t past g i m → IsMeter s n (t + 1) past g i (marked m t (members_of s g t))
read-marked s n t past g i m in_plan present is =
    let set : List ℕ = members_of s g t in
    let fits : t < length m.notes = omega (arith, is.notes) in
    record {
      number = by_mark (λ x. x.meter ≡ m.meter) m t set refl refl ∙ is.number;
      floor = by_mark (λ x. x.floor ≡ m.floor) m t set refl refl ∙ is.floor;
      notes = by_mark (λ x. length x.notes ≡ length m.notes) m t set refl (length-set m.notes t (record { members = Some set; kept = (note_at m t).kept })) ∙ is.notes;
      read = λ r here. ⊎_elim
          (λ same. subst (λ q. is_some (note_at (marked m t set) q).members ≡ (nat_lt q (t + 1) && s.present g q i)) (sym same)
          (ap is_some (members-marked m t set fits) ∙ is_some-marked (note_at m t).members set ∙ sym (and_from (nat_lt t (t + 1)) (s.present g t i) (lt-ltb t (t + 1) (omega arith)) present)))
          (λ other. ap (λ (note : Note). is_some note.members) (note_at-marked_other m t r set other) ∙ is.read r here ∙ ap (λ b. b && s.present g r i) (lt-other t r other))
          (cases_eq r t);
      members = λ r. ⊎_elim
          (λ same. subst (λ q. AreMembers (members_of s g q) (note_at (marked m t set) q).members) (sym same)
          (subst (AreMembers set) (sym (members-marked m t set fits)) (members-kept (note_at m t).members set (is.members t))))
          (λ other. subst (λ (note : Note). AreMembers (members_of s g r) note.members) (sym (note_at-marked_other m t r set other)) (is.members r))
          (cases_eq r t);
      kept = λ r. subst (IsKept s past g r i) (sym (kept_set-marked m t r set fits)) (is.kept r);
    }

-- where it has no reading at the tick it has nothing to read
pub read-none : (s : Shape) (n t : ℕ) (past : List Event) (g i : ℕ) (m : MeterView) → (t < n → s.present g t i ≡ true → ⊥) → IsMeter s n t past g i m → IsMeter s n (t + 1) past g i m
read-none s n t past g i m none is = record {
  number = is.number;
  floor = is.floor;
  notes = is.notes;
  read = λ r here. ⊎_elim
      (λ same.
      let absent : s.present g r i ≡ false = ap (λ q. s.present g q i) same ∙ false_from_ne_true (s.present g t i) (none (omega arith)) in
      is.read r here ∙ and_right (nat_lt r t) (s.present g r i) absent ∙ sym (and_right (nat_lt r (t + 1)) (s.present g r i) absent))
      (λ other. is.read r here ∙ ap (λ b. b && s.present g r i) (lt-other t r other))
      (cases_eq r t);
  members = is.members;
  kept = is.kept;
}

-- ---- announced sets stay

-- what was taken by one past is so by the other, with the same missing set
abbrev pub KeepTold : Shape → List Event → List Event → Type 0
KeepTold s before after = (g r i : ℕ) → is_announcement_taken s g r i before ≡ true → (is_announcement_taken s g r i after ≡ true) × (missing s g r after ≡ missing s g r before)

pub stays : (s : Shape) (n t : ℕ) (before after : List Event) (g i : ℕ) (m : MeterView) → KeepTold s before after → IsMeter s n t before g i m → IsMeter s n t after g i m
stays s n t before after g i m told is = record {
  number = is.number;
  floor = is.floor;
  notes = is.notes;
  read = is.read;
  members = is.members;
  kept = λ r. still r (kept_set m r) (is.kept r);
}
  where
    still : (r : ℕ) (o : Option (List ℕ)) → IsKept s before g r i o → IsKept s after g r i o
    still r None kept = tt
    still r (Some set) kept =
        let same = told g r i kept.0 in
        (same.0, kept.1 ∙ sym same.1)

-- ---- a round that is heard of

-- the members that are none of the missing are as many as the survivors
survivors-many : (s : Shape) (g r : ℕ) (past : List Event) → length (members_of s g r) - length (missing s g r past) ≡ length (survivors_of s g r past)
survivors-many s g r past =
    let both : length (survivors_of s g r past) + length (missing s g r past) ≡ length (members_of s g r)
    = length-filter_both (λ i. is_reading_taken s g r i past) (λ i. not (is_reading_taken s g r i past)) (λ i. refl) (members_of s g r) in
    omega arith

-- the missing are members
missing-are_members : (s : Shape) (g r : ℕ) (past : List Event) → is_within (missing s g r past) (members_of s g r) ≡ true
missing-are_members s g r past =
    let ms : List ℕ = members_of s g r in
    let lost : ℕ → Bool = λ i. not (is_reading_taken s g r i past) in
    ap (λ (l : List ℕ). length l == 0) (same_filter (λ j. not (is_member j ms)) (λ j. false) (filter lost ms) (λ j there. outside (is_member j ms) (lost j) (sym (is_member-filter lost j ms) ∙ there)) ∙ off (filter lost ms))
  where
    outside : (a b : Bool) → (a && b) ≡ true → not a ≡ false
    outside true b h = refl
    outside false b h = absurd (false≢true h)

    off : (xs : List ℕ) → filter (λ x. false) xs ≡ []
    off [] = refl
    off (x ∷ xs) = off xs

-- an announced round leaves as many survivors as the floor
not_thin : (s : Shape) (g r : ℕ) (past : List Event) → is_announced s g r past ≡ true → nat_lt (survivors (members_of s g r) (missing s g r past)) (floor_of s g) ≡ false
not_thin s g r past announced =
    let reaches : reaches_floor s g r past ≡ true = (and_parts (is_closed g r past) (reaches_floor s g r past) announced).1 in
    let enough : floor_of s g ≤ length (survivors_of s g r past) = leb-true (floor_of s g) (length (survivors_of s g r past)) reaches in
    le-ltb (survivors (members_of s g r) (missing s g r past)) (floor_of s g) (omega (arith, survivors-many s g r past, enough))

known : (o : Option (List ℕ)) (set : List ℕ) → is_some o ≡ true → AreMembers set o → o ≡ Some set
known None set some is = absurd (false≢true some)
known (Some old) set some is = ap Some is

-- the missing set is not refused
no-refusal : (s : Shape) (n t : ℕ) (past : List Event) (g r i : ℕ) (m : MeterView) → IsMeter s n t past g i m → r < n → r < t → is_announcement_taken s g r i past ≡ true → refusal m r (missing s g r past) ≡ None
no-refusal s n t past g r i m is in_plan early told =
    let set : List ℕ = missing s g r past in
    let ms : List ℕ = members_of s g r in
    let many : ℕ = survivors ms set in
    let present : s.present g r i ≡ true = present-from_taken s g r i past (told_survives s g r i past told) in
    let announced : is_announced s g r past ≡ true = is_announced-from_sent s g r i past (is_announcement_sent-from_taken s g r i past told) in
    let members : (note_at m r).members ≡ Some ms = known (note_at m r).members ms (is.read r in_plan ∙ and_from (nat_lt r t) (s.present g r i) (lt-ltb r t early) present) (is.members r) in
    let alive : is_member m.meter set ≡ false = ap (λ j. is_member j set) is.number ∙ told-not_missing s g r i past told in
    let thick : nat_lt many m.floor ≡ false = ap (nat_lt many) is.floor ∙ not_thin s g r past announced in
    let last : Option Why = if nat_lt many m.floor then Some (Thin many) else None in
    ap (λ b. if b then refusal_over m set (note_at m r).members else Some OutOfPlan) (lt-ltb r (length m.notes) (omega (arith, is.notes)))
    ∙ ap (refusal_over m set) members
    ∙ ap (λ b. if not b then Some OutOfPlan else if is_member m.meter set then Some SelfMissing else last) (missing-are_members s g r past)
    ∙ ap (λ b. if b then Some SelfMissing else last) alive
    ∙ ap (λ b. if b then Some (Thin many) else None) thick

-- so a meter that was told of it answers
pub told-answers : (s : Shape) (n t : ℕ) (past : List Event) (g r i : ℕ) (m after : MeterView) (said : Heard) → IsMeter s n t past g i m → r < n → r < t → is_announcement_taken s g r i past ≡ true
    → Hears m r (missing s g r past) said after → is_answer said ≡ true
told-answers s n t past g r i m after said is in_plan early told hears = by said hears
  where
    none : refusal m r (missing s g r past) ≡ None
    none = no-refusal s n t past g r i m is in_plan early told

    other : (kept : List ℕ) → kept_set m r ≡ Some kept → bytes_eq kept (missing s g r past) ≡ false → ⊥
    other kept has differs =
        let same : IsKept s past g r i (Some kept) = subst (IsKept s past g r i) has (is.kept r) in
        false≢true (sym differs ∙ (bytes_eq-Decides kept (missing s g r past)).1 same.1)

    by : (said : Heard) → Hears m r (missing s g r past) said after → is_answer said ≡ true
    by Answer h = refl
    by AnswerAgain h = refl
    by (Refused (OtherSet kept)) h = absurd (other kept h.1 h.2)
    by (Refused OutOfPlan) h = absurd (false≢true (ap is_some (sym none ∙ h.0)))
    by (Refused NotRead) h = absurd (false≢true (ap is_some (sym none ∙ h.0)))
    by (Refused SelfMissing) h = absurd (false≢true (ap is_some (sym none ∙ h.0)))
    by (Refused (Thin k)) h = absurd (false≢true (ap is_some (sym none ∙ h.0)))

-- a meter that hears of an announced set keeps no other
pub heard-is : (s : Shape) (n t : ℕ) (past : List Event) (g r i : ℕ) (m after : MeterView) (said : Heard) → IsMeter s n t past g i m → is_announcement_taken s g r i past ≡ true
    → Hears m r (missing s g r past) said after → IsMeter s n t past g i after
heard-is s n t past g r i m after said is told hears = by said hears
  where
    keeps : r < length m.notes → IsMeter s n t past g i (keeping m r (missing s g r past))
    keeps fits =
        let set : List ℕ = missing s g r past in
        let new : Note = record { members = (note_at m r).members; kept = Some set } in
        record {
          number = is.number;
          floor = is.floor;
          notes = length-set m.notes r new ∙ is.notes;
          read = λ q here. ⊎_elim
              (λ same. subst (λ x. is_some (note_at (keeping m r set) x).members ≡ is_some (note_at m x).members) (sym same) (ap (λ (note : Note). is_some note.members) (note_at-same m r new fits)))
              (λ other. ap (λ (note : Note). is_some note.members) (note_at-keeping_other m r q set other))
              (cases_eq q r)
              ∙ is.read q here;
          members = λ q. ⊎_elim
              (λ same. subst (λ x. AreMembers (members_of s g x) (note_at (keeping m r set) x).members) (sym same)
              (subst (λ (note : Note). AreMembers (members_of s g r) note.members) (sym (note_at-same m r new fits)) (is.members r)))
              (λ other. subst (λ (note : Note). AreMembers (members_of s g q) note.members) (sym (note_at-keeping_other m r q set other)) (is.members q))
              (cases_eq q r);
          kept = λ q. ⊎_elim
              (λ same. subst (λ x. IsKept s past g x i (kept_set (keeping m r set) x)) (sym same) (subst (IsKept s past g r i) (sym (kept_set-keeping_same m r set fits)) (told, refl)))
              (λ other. subst (λ (note : Note). IsKept s past g q i note.kept) (sym (note_at-keeping_other m r q set other)) (is.kept q))
              (cases_eq q r);
        }

    same : after ≡ m → IsMeter s n t past g i after
    same e = subst (IsMeter s n t past g i) (sym e) is

    by : (said : Heard) → Hears m r (missing s g r past) said after → IsMeter s n t past g i after
    by Answer h = subst (IsMeter s n t past g i) (sym h.2) (keeps (within-rounds m r (missing s g r past) h.0))
    by AnswerAgain h = same h.2
    by (Refused (OtherSet kept)) h = same h.3
    by (Refused OutOfPlan) h = same h.1
    by (Refused NotRead) h = same h.1
    by (Refused SelfMissing) h = same h.1
    by (Refused (Thin k)) h = same h.1

-- the set that it answers is kept
pub kept-now : (m after : MeterView) (r : ℕ) (set : List ℕ) (said : Heard) → Hears m r set said after → is_answer said ≡ true → kept_set after r ≡ Some set
kept-now m after r set Answer h is = ap (λ x. kept_set x r) h.2 ∙ kept_set-keeping_same m r set (within-rounds m r set h.0)
kept-now m after r set AnswerAgain h is = ap (λ x. kept_set x r) h.2 ∙ h.1
kept-now m after r set (Refused why) h is = absurd (false≢true is)

-- and a set that was kept stays
pub kept-still : (m after : MeterView) (r q : ℕ) (set old : List ℕ) (said : Heard) → Hears m r set said after → kept_set m q ≡ Some old → kept_set after q ≡ Some old
kept-still m after r q set old said hears kept = by said hears
  where
    stays : after ≡ m → kept_set after q ≡ Some old
    stays e = ap (λ x. kept_set x q) e ∙ kept

    by : (said : Heard) → Hears m r set said after → kept_set after q ≡ Some old
    by Answer h = ap (λ x. kept_set x q) h.2 ∙ ⊎_elim
        (λ here. absurd (false≢true (ap is_some (sym h.1 ∙ ap (kept_set m) (sym here) ∙ kept))))
        (λ other. ap (λ (note : Note). note.kept) (note_at-keeping_other m r q set other) ∙ kept)
        (cases_eq q r)
    by AnswerAgain h = stays h.2
    by (Refused (OtherSet set)) h = stays h.3
    by (Refused OutOfPlan) h = stays h.1
    by (Refused NotRead) h = stays h.1
    by (Refused SelfMissing) h = stays h.1
    by (Refused (Thin k)) h = stays h.1
