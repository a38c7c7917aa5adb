-- How `load` ends, from how its parts do.
use Rattle.std.proofs.Common.{List, ℕ, ◌≡◌, inl, inr, [], ◌∷◌, subst, sym, ap, ◌∙◌, Ok, refl, Result, Err}
use Rattle.link_lanes.specs.Lanes.{Meaning}
use Rattle.command_words.specs.declared.outcome.Outcome.{Outcome}
use Rattle.command_words.specs.declared.outcome.Outcome.TheVariants.{NoMemory, BadPlan, BadReadings, BadLane}
use Rattle.command_words.specs.Words.{Size}
use Rattle.run_commands.specs.LoadEnds.{made_file_of, made_plan_text, made_readings_text, IsMade, LoadRefuses, LoadEnds, put_where}
use Rattle.command_texts.specs.Refusals.{FilesRefused}
use Rattle.desk_outside.specs.Desk.{View}
use Rattle.command_files.specs.Calls.{Unwritable, PutsEnd}
use Rattle.command_texts.specs.Runs.{AreValues, Values, Texts, RefusesReadings, Makes, HasValues}
use Rattle.command_texts.proofs.RunLemmas.{is_only}
use Rattle.load_maker.specs.Made.{made_plan, made_file, made_readings}
use Rattle.plan_files.specs.declared.fault.FileFault.{FileFault}
use Rattle.plan_files.specs.PlanFiles.{plan_of}
use Rattle.plan_files.specs.Readings.{readings_of}
use Rattle.load_maker.specs.MadeFiles.{AreRead}
use Rattle.link_lanes.specs.Fits.{hung_by}
use Rattle.std.specs.Prelude.{Option, Some}
use Rattle.command_texts.specs.declared.sharing.Sharing.TheVariants.{WithEach}

-- the made files are read as what they were made of, so no run refuses them

plan_of_made : (size : Size) → (made_file_of size).plan ≡ made_plan size.groups size.meters size.rounds
unfolding made_file
plan_of_made size = refl

not_both : {A E : Type 0} (r : Result A E) (a : A) (e : E) → r ≡ Ok a → r ≡ Err e → ⊥
not_both r a e well bad = cc

readings_not_refused : (cupboard : List Meaning) (size : Size) (p r : List ℕ) (fault : FileFault) → p ≡ made_plan_text size → r ≡ made_readings_text size
    → AreRead size.seed size.groups size.meters size.rounds → RefusesReadings cupboard p r fault → ⊥
readings_not_refused cupboard size p r fault p_is r_is made (file, slots, plan_is, lanes_are, bad) =
    let well : plan_of p ≡ Ok (made_file_of size) = ap plan_of p_is ∙ made.plan in
    let same : made_file_of size ≡ file = cc in
    let plan : file.plan ≡ made_plan size.groups size.meters size.rounds = ap (λ f. f.plan) (sym same) ∙ plan_of_made size in
    not_both (readings_of file.plan r) (made_readings size.seed size.groups size.meters size.rounds) fault (ap (λ plan. readings_of plan r) plan ∙ ap (readings_of (made_plan size.groups size.meters size.rounds)) r_is ∙ made.readings) bad

-- so a load is refused for its lane row alone
load_refuses : (cupboard : List Meaning) (size : Size) (plan readings p r : List ℕ) (outcome : Outcome) → IsMade size p r → FilesRefused cupboard plan readings p r outcome → LoadRefuses cupboard size outcome
load_refuses cupboard size plan readings p r (BadPlan name fault) made (named, bad) = absurd (not_both (plan_of p) (made_file_of size) fault (ap plan_of made.plan ∙ made.read.plan) bad)
load_refuses cupboard size plan readings p r (BadLane fault) made refuses =
    let well : plan_of p ≡ Ok (made_file_of size) = ap plan_of made.plan ∙ made.read.plan in
    let file : made_file_of size ≡ refuses.0 = (let is = refuses.1 in cc) in
    ap (λ f. hung_by cupboard f.lanes) file ∙ refuses.2
load_refuses cupboard size plan readings p r (BadReadings name fault) made (named, bad) = absurd (readings_not_refused cupboard size p r fault made.plan made.readings made.read bad)
load_refuses cupboard size plan readings p r NoMemory made refused = tt
load_refuses cupboard size plan readings p r _ made refused = absurd refused

pub load_refused : (cupboard : List Meaning) (size : Size) (name : Option (List ℕ)) (v w : View) (outcome : Outcome) (plan readings p r : List ℕ) → IsMade size p r → w ≡ v
    → FilesRefused cupboard plan readings p r outcome → LoadEnds cupboard size name v w outcome
load_refused cupboard size name v w outcome plan readings p r made same refused = inl (load_refuses cupboard size plan readings p r outcome made refused, same)

-- the values of the made bytes are those of the texts that they are made as
made_values : (P : List ℕ → List ℕ → Type 0) (size : Size) (p r : List ℕ) → IsMade size p r → P p r → P (made_plan_text size) (made_readings_text size)
made_values P size p r made holds = subst (λ bytes. P (made_plan_text size) bytes) made.readings (subst (λ bytes. P bytes r) made.plan holds)

-- the texts of a load are put, where there is a name, and said
pub load_ends : (cupboard : List Meaning) (size : Size) (name given : Option (List ℕ)) (u v w : View) (texts : Texts) (outcome : Outcome) (p r transcript summary : List ℕ)
    → name ≡ given → IsMade size p r → Makes cupboard p r texts → transcript ≡ texts.transcript → summary ≡ texts.summary → u ≡ v
    → PutsEnd (put_where given transcript) summary u w outcome → LoadEnds cupboard size name v w outcome
load_ends cupboard size name given u v w texts outcome p r transcript summary name_is made makes t_is s_is same ends =
    let here : Makes cupboard (made_plan_text size) (made_readings_text size) texts = made_values (λ p r. Makes cupboard p r texts) size p r made makes in
    let by_transcript : PutsEnd (put_where given texts.transcript) summary u w outcome = subst (λ t. PutsEnd (put_where given t) summary u w outcome) t_is ends in
    let by_summary : PutsEnd (put_where given texts.transcript) texts.summary u w outcome =
    subst (λ s. PutsEnd (put_where given texts.transcript) s u w outcome) s_is by_transcript
    in
    let by_name : PutsEnd (put_where name texts.transcript) texts.summary u w outcome = subst (λ n. PutsEnd (put_where n texts.transcript) texts.summary u w outcome) (sym name_is) by_summary in
    inr (inr (
      texts,
      here,
      is_only WithEach cupboard (made_plan_text size) (made_readings_text size) texts here,
      subst (λ v. PutsEnd (put_where name texts.transcript) texts.summary v w outcome) same by_name,
    ))

-- the lane row of a load gets its lane, but the name can't be written
pub load_unwritable : (cupboard : List Meaning) (size : Size) (given : Option (List ℕ)) (n name : List ℕ) (u v w : View) (outcome : Outcome) (p r : List ℕ) (values : Values)
    → given ≡ Some name → IsMade size p r → AreValues cupboard p r values → n ≡ name → u ≡ v → Unwritable (n ∷ []) u w outcome → LoadEnds cupboard size given v w outcome
load_unwritable cupboard size given n name u v w outcome p r values given_is made are n_is same unwritable =
    let here : HasValues cupboard (made_plan_text size) (made_readings_text size) = made_values (HasValues cupboard) size p r made (values, are) in
    let by_name : Unwritable (name ∷ []) u w outcome = subst (λ x. Unwritable (x ∷ []) u w outcome) n_is unwritable in
    subst (λ given. LoadEnds cupboard size given v w outcome) (sym given_is) (inr (inl (here, subst (λ v. Unwritable (name ∷ []) v w outcome) same by_name)))
