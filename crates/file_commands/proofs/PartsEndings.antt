-- How `parts` ends: the files of meters are put, or the plan is refused.
use Rattle.std.proofs.Common.{◌≡◌, List, [], refl, ℕ, sym, append-nil, inl, inr, subst, ◌∷◌, ◌∙◌, ap, Ok}
use Rattle.std.specs.Prelude.{length, map, false, nat_lt, true}
use Rattle.std.proofs.lemmas.List.{length-map}
use Rattle.group_plan.specs.NewPlans.{stated}
use Rattle.group_plan.specs.Plans.{Group}
use Rattle.desk_outside.specs.Desk.{View, Step, after_steps}
use Rattle.meter_files.specs.Putting.{PutsSome, IsFree}
use Rattle.std.specs.List.{All}
use Rattle.command_words.specs.declared.outcome.Outcome.{Outcome}
use Rattle.command_words.specs.declared.outcome.Outcome.TheVariants.{Done, NoMemory, Unwritten, BadPlan}
use Rattle.command_words.specs.declared.unwritten.Unwritten.TheVariants as of_unwritten
use Rattle.command_files.specs.Calls.{PutsEnd, IsRead, after_fetches}
use Rattle.file_commands.specs.PartsEnds.{FilesPut, PartsRefuses, PartsEnds, PartsPut}
use Rattle.command_texts.specs.Refusals.{PublicRefuses}
use Rattle.std.specs.Borrow.{Bor}
use Rattle.pair_keys.specs.declared.KeyError.TheVariants.{Range}
use Rattle.plan_files.specs.Faults.{in_row}
use Rattle.plan_files.specs.declared.fault.FileCause.TheVariants.{Key}
use Rattle.plan_files.specs.PlanFiles.{PlanFileView, plan_of}

pub groups_counted : (groups : List Group) → length (map stated groups) ≡ length groups
groups_counted groups = length-map groups stated

-- nothing is put
pub nothing_put : (files : List Step) (v : View) → PutsSome files v v
nothing_put files v = record { front = []; rest = files; split = refl; left = refl }

-- by how the say ends
said_by : (prefix : List ℕ) (names : List (List ℕ)) (files : List Step) (line : List ℕ) (v w : View) (outcome : Outcome) → All (IsFree v) names → PutsEnd [] line (after_steps v files) w outcome
    → FilesPut prefix names files line v w outcome
said_by prefix names files line v w Done free ends = (free, ends)
said_by prefix names files line v w NoMemory free ends = record { front = files; rest = []; split = sym (append-nil files); left = ends }
said_by prefix names files line v w (Unwritten (of_unwritten.File name)) free ends = elim ends [ inl h ↦ absurd h | inr h ↦ absurd h.0 ]
said_by prefix names files line v w (Unwritten of_unwritten.Output) free ends = (free, ends)
said_by prefix names files line v w _ free ends = absurd ends

-- the line is said behind files that are put
pub line_said : (prefix : List ℕ) (names : List (List ℕ)) (files : List Step) (line given : List ℕ) (v u w : View) (outcome : Outcome) → All (IsFree v) names → u ≡ after_steps v files → given ≡ line
    → PutsEnd [] given u w outcome → FilesPut prefix names files line v w outcome
line_said prefix names files line given v u w outcome free put line_is ends =
    said_by prefix names files line v w outcome free (subst (λ x. PutsEnd [] line x w outcome) put (subst (λ x. PutsEnd [] x u w outcome) line_is ends))

-- a plan file that is refused
pub plan_refused : (plan : List ℕ) (g : ℕ) (bytes : List ℕ) (outcome : Outcome) → PublicRefuses plan bytes outcome → PartsRefuses plan g bytes outcome
plan_refused plan g bytes NoMemory ends = tt
plan_refused plan g bytes (BadPlan name fault) ends = (ends.0, inl ends.1)
plan_refused plan g bytes _ ends = absurd ends

-- how the command ends, where the plan is refused
pub parts_refused : (plan : List ℕ) (g : ℕ) (prefix : List ℕ) (v w : View) (outcome : Outcome) (bytes given : List ℕ) → IsRead (v.held plan) bytes → w ≡ after_fetches (plan ∷ []) v → given ≡ bytes
    → PublicRefuses plan given outcome → PartsEnds plan g prefix v w outcome
parts_refused plan g prefix v w outcome bytes given is after given_is refused =
    inr (bytes, is, inl (plan_refused plan g bytes outcome (subst (λ b. PublicRefuses plan b outcome) given_is refused), after))

-- where it hasn't the group
pub no_group : (plan : List ℕ) (g : ℕ) (prefix : List ℕ) (v w : View) (name : Bor (List ℕ)) (file : PlanFileView) (bytes given : List ℕ) → IsRead (v.held plan) bytes → w ≡ after_fetches (plan ∷ []) v → given ≡ bytes
    → plan_of given ≡ Ok file → name.now ≡ plan → nat_lt g (length file.plan.groups) ≡ false → PartsEnds plan g prefix v w (BadPlan name (in_row 0 (Key Range)))
no_group plan g prefix v w name file bytes given is after given_is value named outside =
    inr (bytes, is, inl ((named, inr (file, ap plan_of (sym given_is) ∙ value, outside, refl)), after))

-- and where the files are put
pub parts_ends : (plan : List ℕ) (g : ℕ) (prefix : List ℕ) (v u w : View) (outcome : Outcome) (file : PlanFileView) (bytes given : List ℕ) → IsRead (v.held plan) bytes → u ≡ after_fetches (plan ∷ []) v
    → given ≡ bytes → plan_of given ≡ Ok file → nat_lt g (length file.plan.groups) ≡ true → PartsPut file.keys g prefix u w outcome → PartsEnds plan g prefix v w outcome
parts_ends plan g prefix v u w outcome file bytes given is after given_is value inside ends =
    inr (bytes, is, inr (file, ap plan_of (sym given_is) ∙ value, inside, subst (λ x. PartsPut file.keys g prefix x w outcome) after ends))
