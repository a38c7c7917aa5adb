-- How `parts PLAN G PREFIX` ends.
use Rattle.std.specs.Prelude.{◌≡◌, ◌⊎◌, ℕ, false, nat_lt, List, length, Ok, Err, ⊤, true, [], ◌∷◌}
use Rattle.pair_keys.specs.declared.KeyError.TheVariants.{Range}
use Rattle.plan_files.specs.Faults.{in_row}
use Rattle.plan_files.specs.PlanFiles.{PlanFileView, plan_of}
use Rattle.plan_files.specs.declared.fault.FileCause.TheVariants.{Key}
use Rattle.command_words.specs.declared.outcome.Outcome.{Outcome}
use Rattle.command_words.specs.declared.outcome.Outcome.TheVariants.{Done, NoMemory, Unwritten, BadPlan}
use Rattle.command_words.specs.declared.unwritten.Unwritten.TheVariants as of_unwritten
use Rattle.std.specs.List.{All}
use Rattle.desk_outside.specs.Desk.{View, Step, IsPrefixOf, Said, after_step, after_steps}
use Rattle.meter_files.specs.Names.{part_name, names_below}
use Rattle.meter_files.specs.Putting.{IsFree, StopsAtName, StopsAtFile, PutsSome, files_below}
use Rattle.group_plan.specs.Plans.{size}
use Rattle.pair_keys.specs.Keys.{Keys}
use Rattle.command_texts.specs.Lines.{parts_line}
use Rattle.command_files.specs.Calls.{IsRead, Unread, after_fetches}

-- the plan file is refused, or its plan has no such group; want of memory is free
abbrev pub PartsRefuses : (plan : List ℕ) (g : ℕ) (bytes : List ℕ) → Outcome → Type 0
PartsRefuses plan g bytes (BadPlan name fault) =
    (name.now ≡ plan)
    × ((plan_of bytes ≡ Err fault)
    ⊎ ((file : PlanFileView) × (plan_of bytes ≡ Ok file) × (nat_lt g (length file.plan.groups) ≡ false) × (fault ≡ in_row 0 (Key Range))))
PartsRefuses plan g bytes NoMemory = ⊤
PartsRefuses plan g bytes _ = ⊥

-- these files are put, whose names were free, and the line is said, up to this end
abbrev pub FilesPut : (prefix : List ℕ) (names : List (List ℕ)) (files : List Step) (line : List ℕ) → View → View → Outcome → Type 0
FilesPut prefix names files line v w Done = All (IsFree v) names × (w ≡ after_step (after_steps v files) (Said line false))
FilesPut prefix names files line v w NoMemory = PutsSome files v w
FilesPut prefix names files line v w (Unwritten (of_unwritten.Part before i file)) =
    (before.now ≡ prefix) × (StopsAtName names v w (part_name prefix i file) ⊎ (All (IsFree v) names × StopsAtFile files v w (part_name prefix i file)))
FilesPut prefix names files line v w (Unwritten of_unwritten.Output) =
    All (IsFree v) names × ((front : List ℕ) × IsPrefixOf front line × (w ≡ after_step (after_steps v files) (Said front true)))
FilesPut prefix names files line v w _ = ⊥

-- the files of the meters of group g are put, by the keys of its plan
abbrev pub PartsPut : Keys → (g : ℕ) (prefix : List ℕ) → View → View → Outcome → Type 0
PartsPut keys g prefix v w outcome =
    FilesPut prefix (names_below prefix (size keys.plan.groups g)) (files_below keys g prefix (size keys.plan.groups g)) (parts_line (size keys.plan.groups g)) v w outcome

-- how it ends: PLAN is not read, or what it says is refused, or the files of the meters are put
abbrev pub PartsEnds : (plan : List ℕ) (g : ℕ) (prefix : List ℕ) → View → View → Outcome → Type 0
PartsEnds plan g prefix v w outcome =
    Unread (plan ∷ []) v w outcome
    ⊎ ((bytes : List ℕ) × IsRead (v.held plan) bytes
    × ((PartsRefuses plan g bytes outcome × (w ≡ after_fetches (plan ∷ []) v))
    ⊎ ((file : PlanFileView) × (plan_of bytes ≡ Ok file) × (nat_lt g (length file.plan.groups) ≡ true) × PartsPut file.keys g prefix (after_fetches (plan ∷ []) v) w outcome)))
