-- Accepted files are done: those of `parts`.
use Rattle.std.proofs.Common.{◌≡◌, List, [], refl, ℕ, sym, inl, inr, ◌∷◌, ◌∙◌, ap, Ok, ◌⊎◌, Err}
use Rattle.std.specs.Prelude.{length, false, nat_lt, true}
use Rattle.group_plan.specs.Plans.{size}
use Rattle.desk_outside.specs.Desk.{View, Step}
use Rattle.meter_files.specs.Putting.{files_below}
use Rattle.command_words.specs.declared.outcome.Outcome.{Outcome}
use Rattle.command_words.specs.declared.outcome.Outcome.TheVariants.{Done, NoMemory, Unwritten, BadPlan}
use Rattle.command_files.specs.Calls.{IsRead, after_fetches}
use Rattle.file_commands.specs.PartsEnds.{FilesPut, PartsRefuses, PartsEnds}
use Rattle.pair_keys.specs.declared.KeyError.TheVariants.{Range}
use Rattle.plan_files.specs.Faults.{in_row}
use Rattle.plan_files.specs.declared.fault.FileCause.TheVariants.{Key}
use Rattle.plan_files.specs.PlanFiles.{PlanFileView, plan_of}
use Rattle.commands.proofs.CalmLemmas.{IsCalm, ok_or_err, ok_same, read_is, one_is_short, unread_calm}
use Rattle.std.proofs.lemmas.Bool.{false≢true}
use Rattle.plan_files.specs.declared.fault.FileFault.{FileFault}
use Rattle.commands.specs.Accepted.{PartsAccepts}
use Rattle.meter_files.specs.Names.{names_below}
use Rattle.command_texts.specs.Lines.{parts_line}

-- the ends of the puts
files_calm : (prefix : List ℕ) (names : List (List ℕ)) (files : List Step) (line : List ℕ) (v w : View) (outcome : Outcome) → FilesPut prefix names files line v w outcome → IsCalm outcome
files_calm prefix names files line v w Done ends = inr (inl refl)
files_calm prefix names files line v w NoMemory ends = inr (inr refl)
files_calm prefix names files line v w (Unwritten unwritten) ends = inl tt
files_calm prefix names files line v w _ ends = absurd ends

-- an accepted plan has no fault
no_fault : (plan : List ℕ) (g : ℕ) (v : View) (bytes : List ℕ) (fault : FileFault) → PartsAccepts plan g v → IsRead (v.held plan) bytes
    → ((plan_of bytes ≡ Err fault) ⊎ ((file : PlanFileView) × (plan_of bytes ≡ Ok file) × (nat_lt g (length file.plan.groups) ≡ false) × (fault ≡ in_row 0 (Key Range)))) → ⊥
no_fault plan g v bytes fault good is (inl refused) = ok_or_err _ _ _ (ap plan_of (sym (read_is v plan good.bytes bytes good.file is)) ∙ good.value) refused
no_fault plan g v bytes fault good is (inr (file, value, outside, fault_is)) =
    let same : good.says ≡ file = ok_same _ _ _ (ap plan_of (sym (read_is v plan good.bytes bytes good.file is)) ∙ good.value) value in
    false≢true (sym outside ∙ ap (λ (f : PlanFileView). nat_lt g (length f.plan.groups)) (sym same) ∙ good.group)

not_refused : (plan : List ℕ) (g : ℕ) (v : View) (bytes : List ℕ) (outcome : Outcome) → PartsAccepts plan g v → IsRead (v.held plan) bytes → PartsRefuses plan g bytes outcome → IsCalm outcome
not_refused plan g v bytes NoMemory good is ends = inr (inr refl)
not_refused plan g v bytes (BadPlan name fault) good is ends = absurd (no_fault plan g v bytes fault good is ends.1)
not_refused plan g v bytes _ good is ends = absurd ends

-- `parts` of an accepted plan is done, or finds no memory, or a fault of the desk
pub parts_calm : (plan : List ℕ) (g : ℕ) (prefix : List ℕ) (v w : View) (outcome : Outcome) → PartsAccepts plan g v → PartsEnds plan g prefix v w outcome → IsCalm outcome
parts_calm plan g prefix v w outcome good (inl unread) = unread_calm (plan ∷ []) v w outcome (one_is_short v w plan good.bytes good.file) unread
parts_calm plan g prefix v w outcome good (inr (bytes, is, inl refused)) = not_refused plan g v bytes outcome good is refused.0
parts_calm plan g prefix v w outcome good (inr (bytes, is, inr (file, value, inside, ends))) =
    files_calm prefix (names_below prefix (size file.keys.plan.groups g)) (files_below file.keys g prefix (size file.keys.plan.groups g)) (parts_line (size file.keys.plan.groups g)) (after_fetches (plan ∷ []) v)
    w outcome ends
