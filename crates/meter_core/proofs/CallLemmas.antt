-- What a meter keeps of a round, over calls.
use Rattle.std.proofs.Common.{◌≡◌, ℕ, ◌<◌, ◌==◌, ◌&&◌, Bool, true, false, List, [], ◌∷◌, length, Option, Some, None, is_some, refl, ap, ◌∙◌, sym, ltb, ⊎_elim, arith, replicate}
use Rattle.std.specs.Prelude.{if◌then◌else◌, slice_set}
use Rattle.std.proofs.lemmas.Bool.{false≢true, cases_eq, cases_lt, cases_Bool, eq-eqb, ne_eqb, ltb-true}
use Rattle.std.proofs.lemmas.List.{get_or-set_same, get_or-set_other, get_or-replicate, get_or_past, length-replicate}
use Rattle.meter_core.specs.Notes.{Note}
use Rattle.meter_core.specs.declared.Why.TheVariants.{OutOfPlan, NotRead, SelfMissing, Thin, OtherSet}
use Rattle.meter_core.specs.declared.Heard.TheVariants.{Answer, AnswerAgain, Refused}
use Rattle.meter_core.specs.Meters.{MeterView, blank, note_at, new_meter, marked, refusal, refusal_over, kept_set, keeping, Hears}
use Rattle.meter_core.specs.Calls.{Call, Marked, Announced, Step, Run, Answers, HasAnswered, has_passed, first_passed, OneSetARound}

some≢none : {A : Type 0} (x : A) → Some x ≡ None → ⊥
some≢none x h = false≢true (sym (ap is_some h))

some-injective : {A : Type 0} (x y : A) → Some x ≡ Some y → x ≡ y
some-injective x y h = cc

-- ---- notes

-- the note of a round after one is written
pub note_at-other : (s : MeterView) (q r : ℕ) (n : Note) → (r ≡ q → ⊥) → note_at (record s { notes = slice_set s.notes q n }) r ≡ note_at s r
note_at-other s q r n ne = get_or-set_other s.notes q r n blank ne

pub note_at-same : (s : MeterView) (r : ℕ) (n : Note) → r < length s.notes → note_at (record s { notes = slice_set s.notes r n }) r ≡ n
note_at-same s r n h = get_or-set_same s.notes r n blank h

-- a round that is marked keeps its members, and one that is not has those of the mark
pub members-marked : (s : MeterView) (r : ℕ) (members : List ℕ) → r < length s.notes
    → (note_at (marked s r members) r).members ≡ (if is_some (note_at s r).members then (note_at s r).members else Some members)
members-marked s r members h = ⊎_elim
    (λ old. ap (λ b. (note_at (if b then s else record s { notes = slice_set s.notes r (record { members = Some members; kept = (note_at s r).kept }) }) r).members) old
    ∙ ap (λ b. if b then (note_at s r).members else Some members) (sym old))
    (λ new. ap (λ b. (note_at (if b then s else record s { notes = slice_set s.notes r (record { members = Some members; kept = (note_at s r).kept }) }) r).members) new
    ∙ ap (λ (n : Note). n.members) (note_at-same s r (record { members = Some members; kept = (note_at s r).kept }) h)
    ∙ ap (λ b. if b then (note_at s r).members else Some members) (sym new))
    (cases_Bool (is_some (note_at s r).members))

-- a mark is of its round alone
pub note_at-marked_other : (s : MeterView) (q r : ℕ) (members : List ℕ) → (r ≡ q → ⊥) → note_at (marked s q members) r ≡ note_at s r
note_at-marked_other s q r members ne = ⊎_elim
    (λ old. ap (λ b. note_at (if b then s else record s { notes = slice_set s.notes q (record { members = Some members; kept = (note_at s q).kept }) }) r) old)
    (λ new. ap (λ b. note_at (if b then s else record s { notes = slice_set s.notes q (record { members = Some members; kept = (note_at s q).kept }) }) r) new
    ∙ note_at-other s q r (record { members = Some members; kept = (note_at s q).kept }) ne)
    (cases_Bool (is_some (note_at s q).members))

-- a mark changes no kept set
pub kept_set-marked : (s : MeterView) (q r : ℕ) (members : List ℕ) → q < length s.notes → kept_set (marked s q members) r ≡ kept_set s r
kept_set-marked s q r members h = ⊎_elim
    (λ same. ap (kept_set (marked s q members)) same ∙ here ∙ ap (kept_set s) (sym same))
    (λ ne. ap (λ (n : Note). n.kept) (note_at-marked_other s q r members ne))
    (cases_eq r q)
  where
    here : kept_set (marked s q members) q ≡ kept_set s q
    here = ⊎_elim
        (λ old. ap (λ b. kept_set (if b then s else record s { notes = slice_set s.notes q (record { members = Some members; kept = (note_at s q).kept }) }) q) old)
        (λ new. ap (λ b. kept_set (if b then s else record s { notes = slice_set s.notes q (record { members = Some members; kept = (note_at s q).kept }) }) q) new
        ∙ ap (λ (n : Note). n.kept) (note_at-same s q (record { members = Some members; kept = (note_at s q).kept }) h))
        (cases_Bool (is_some (note_at s q).members))

pub kept_set-keeping_same : (s : MeterView) (r : ℕ) (set : List ℕ) → r < length s.notes → kept_set (keeping s r set) r ≡ Some set
kept_set-keeping_same s r set h = ap (λ (n : Note). n.kept) (note_at-same s r (record { members = (note_at s r).members; kept = Some set }) h)

pub note_at-keeping_other : (s : MeterView) (q r : ℕ) (set : List ℕ) → (r ≡ q → ⊥) → note_at (keeping s q set) r ≡ note_at s r
note_at-keeping_other s q r set ne = note_at-other s q r (record { members = (note_at s q).members; kept = Some set }) ne

-- a set that no refusal stops is of a round of the meter
pub within-rounds : (s : MeterView) (r : ℕ) (set : List ℕ) → refusal s r set ≡ None → r < length s.notes
within-rounds s r set h = ⊎_elim
    (λ is. ltb-true r (length s.notes) is)
    (λ isnt. absurd (some≢none OutOfPlan (ap (λ b. if b then refusal_over s set (note_at s r).members else Some OutOfPlan) (sym isnt) ∙ h)))
    (cases_Bool (ltb r (length s.notes)))

-- ---- one call

-- the set that is kept, or else the first of later ones
abbrev or_else : Option (List ℕ) → Option (List ℕ) → Option (List ℕ)
or_else None later = later
or_else (Some set) later = Some set

abbrev first_of : ℕ → Call → Option (List ℕ) → Option (List ℕ)
first_of r (Marked q members) later = later
first_of r (Announced q set said) later = if (q == r) && has_passed said then Some set else later

-- where nothing changes and the call has not passed, the first is a later one
idle : (s t : MeterView) (r : ℕ) (later : Option (List ℕ)) → t ≡ s → or_else (kept_set t r) later ≡ or_else (kept_set s r) later
idle s t r later e = ap (λ x. or_else (kept_set x r) later) e

-- where a set is kept, nothing later comes first
settled : (s t : MeterView) (q r : ℕ) (set kept : List ℕ) (passed : Bool) (later : Option (List ℕ)) → t ≡ s → kept_set s q ≡ Some kept
    → or_else (kept_set t r) later ≡ or_else (kept_set s r) (if (q == r) && passed then Some set else later)
settled s t q r set kept passed later e k = idle s t r later e ∙ ⊎_elim
    (λ same.
    let here : kept_set s r ≡ Some kept = ap (kept_set s) (sym same) ∙ k in
    ap (λ o. or_else o later) here ∙ sym (ap (λ o. or_else o (if (q == r) && passed then Some set else later)) here))
    (λ ne. ap (λ b. or_else (kept_set s r) (if b && passed then Some set else later)) (sym (ne_eqb q r ne)))
    (cases_eq q r)

-- where a refusal applies, a later one is the first
refused : (s t : MeterView) (q r : ℕ) (set : List ℕ) (later : Option (List ℕ)) → t ≡ s → or_else (kept_set t r) later ≡ or_else (kept_set s r) (if (q == r) && false then Some set else later)
refused s t q r set later e = idle s t r later e ∙ ap (λ b. or_else (kept_set s r) (if b then Some set else later)) (never (q == r))
  where
    never : (b : Bool) → false ≡ (b && false)
    never true = refl
    never false = refl

-- a first answer keeps its set
answers : (s t : MeterView) (q r : ℕ) (set : List ℕ) (later : Option (List ℕ)) → Hears s q set Answer t → or_else (kept_set t r) later ≡ or_else (kept_set s r) (if (q == r) && true then Some set else later)
answers s t q r set later h = ap (λ x. or_else (kept_set x r) later) h.2 ∙ ⊎_elim
    (λ same.
    let new : kept_set (keeping s q set) r ≡ Some set = ap (kept_set (keeping s q set)) (sym same) ∙ kept_set-keeping_same s q set (within-rounds s q set h.0) in
    let old : kept_set s r ≡ None = ap (kept_set s) (sym same) ∙ h.1 in
    ap (λ o. or_else o later) new ∙ sym (ap (λ o. or_else o (if (q == r) && true then Some set else later)) old ∙ ap (λ b. if b && true then Some set else later) (eq-eqb q r same)))
    (λ ne.
    let new : kept_set (keeping s q set) r ≡ kept_set s r = ap (λ (n : Note). n.kept) (note_at-keeping_other s q r set (λ e. ne (sym e))) in
    ap (λ o. or_else o later) new ∙ ap (λ b. or_else (kept_set s r) (if b && true then Some set else later)) (sym (ne_eqb q r ne)))
    (cases_eq q r)

step : (s t : MeterView) (call : Call) (r : ℕ) (later : Option (List ℕ)) → Step s call t → or_else (kept_set t r) later ≡ or_else (kept_set s r) (first_of r call later)
step s t (Marked q members) r later h = ap (λ x. or_else (kept_set x r) later) h.1 ∙ ap (λ o. or_else o later) (kept_set-marked s q r members h.0)
step s t (Announced q set Answer) r later h = answers s t q r set later h
step s t (Announced q set AnswerAgain) r later h = settled s t q r set set true later h.2 h.1
step s t (Announced q set (Refused (OtherSet kept))) r later h = settled s t q r set kept true later h.3 h.1
step s t (Announced q set (Refused OutOfPlan)) r later h = refused s t q r set later h.1
step s t (Announced q set (Refused NotRead)) r later h = refused s t q r set later h.1
step s t (Announced q set (Refused SelfMissing)) r later h = refused s t q r set later h.1
step s t (Announced q set (Refused (Thin n))) r later h = refused s t q r set later h.1

-- ---- any calls

first_passed-cons : (r : ℕ) (call : Call) (rest : List Call) → first_passed r (call ∷ rest) ≡ first_of r call (first_passed r rest)
unfolding first_passed
first_passed-cons r (Marked q members) rest = refl
first_passed-cons r (Announced q set said) rest = refl

or_else-none : (o : Option (List ℕ)) → or_else o None ≡ o
or_else-none None = refl
or_else-none (Some set) = refl

kept_set-run : (s t : MeterView) (calls : List Call) (r : ℕ) → Run s calls t → kept_set t r ≡ or_else (kept_set s r) (first_passed r calls)
unfolding Run first_passed
kept_set-run s t [] r run = ap (λ x. kept_set x r) run ∙ sym (or_else-none (kept_set s r))
kept_set-run s t (call ∷ rest) r run =
    kept_set-run run.0 t rest r run.2 ∙ step s run.0 call r (first_passed r rest) run.1 ∙ ap (or_else (kept_set s r)) (sym (first_passed-cons r call rest))

-- an answer is to the set that is then kept
kept_set-answered : (s t : MeterView) (call : Call) (r : ℕ) (a : List ℕ) → Step s call t → Answers r a call → kept_set t r ≡ Some a
kept_set-answered s t (Announced q set Answer) r a h x =
    ap (kept_set t) (sym x.0) ∙ ap (λ y. kept_set y q) h.2 ∙ kept_set-keeping_same s q set (within-rounds s q set h.0) ∙ ap Some x.1
kept_set-answered s t (Announced q set AnswerAgain) r a h x = ap (kept_set t) (sym x.0) ∙ ap (λ y. kept_set y q) h.2 ∙ h.1 ∙ ap Some x.1
kept_set-answered s t (Announced q set (Refused why)) r a h x = absurd x.2
kept_set-answered s t (Marked q members) r a h x = absurd x

kept_set-run_answered : (s t : MeterView) (calls : List Call) (r : ℕ) (a : List ℕ) → Run s calls t → HasAnswered r a calls → kept_set t r ≡ Some a
unfolding Run HasAnswered
kept_set-run_answered s t [] r a run x = absurd x
kept_set-run_answered s t (call ∷ rest) r a run x = ⊎_elim
    (λ now. kept_set-run run.0 t rest r run.2 ∙ ap (λ o. or_else o (first_passed r rest)) (kept_set-answered s run.0 call r a run.1 now))
    (λ later. kept_set-run_answered run.0 t rest r a run.2 later)
    x

kept_set-new : (meter floor rounds r : ℕ) → kept_set (new_meter meter floor rounds) r ≡ None
kept_set-new meter floor rounds r = ap (λ (n : Note). n.kept) (⊎_elim
    (λ lt. get_or-replicate rounds r blank blank lt)
    (λ ge. get_or_past (replicate rounds blank) r blank (omega (arith, ge, length-replicate rounds blank)))
    (cases_lt r rounds))

pub one_set : OneSetARound
one_set meter floor rounds calls t run r =
    let start : MeterView = new_meter meter floor rounds in
    let first : kept_set t r ≡ first_passed r calls = kept_set-run start t calls r run ∙ ap (λ o. or_else o (first_passed r calls)) (kept_set-new meter floor rounds r) in
    record {
      kept = first;
      answered = λ set x. sym first ∙ kept_set-run_answered start t calls r set run x;
      only = λ a b x y. some-injective a b (sym (kept_set-run_answered start t calls r a run x) ∙ kept_set-run_answered start t calls r b run y);
    }
