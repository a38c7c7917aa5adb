-- A meter file that is read is whole.
use Rattle.std.proofs.Common.{◌≡◌, ◌+◌, ◌<◌, ℕ, Bool, true, false, List, [], ◌∷◌, length, Option, Some, None, Result, Ok, Err, IfOk, refl, sym, ap, ◌∙◌, subst, arith}
use Rattle.std.specs.Prelude.{nat_lt, if◌then◌else◌}
use Rattle.std.proofs.lemmas.Bool.{ltb-true}
use Rattle.group_plan.specs.Plans.{PlanView, size}
use Rattle.group_plan.specs.NewPlans as new
use Rattle.group_plan.specs.NewPlans.{first_fault}
use Rattle.group_plan.specs.declared.plan.PlanError.TheVariants.{TooManyGroups}
use Rattle.pair_keys.specs.declared.KeyError.TheVariants.{Range}
use Rattle.std.specs.Option.{option_map}
use Rattle.group_plan.specs.Spans.{span_fault}
use Rattle.group_plan.specs.declared.plan.members.Span.{Span}
use Rattle.group_plan.specs.declared.plan.members.SpanError.{SpanError}
use Rattle.group_plan.proofs.WithSpans.{length-with, size-with}
use Rattle.pair_keys.specs.declared.KeyId.{KeyId}
use Rattle.plan_files.specs.Faults.{◌>>=◌, in_row, unless}
use Rattle.plan_files.specs.Gathering.{settled, settled_by}
use Rattle.plan_files.specs.PlanFiles.{stated_plan}
use Rattle.plan_files.specs.declared.fault.Failed.{Failed}
use Rattle.plan_files.specs.declared.fault.FileCause.TheVariants as cause
use Rattle.plan_files.specs.declared.fault.FileFault.{FileFault}
use Rattle.meter_files.specs.PartRows.{behind, entries_from, head_of}
use Rattle.meter_files.specs.PartFiles.{MeterFileView, OwnerView, PartEnds, completed, completed_by, filled_in, gather, missing_pair, nothing, owner_of, part_from, spans_of, stated_home, unless_missing, view_of, with_entries}
use Rattle.meter_files.specs.Whole.{IsWhole, owner_in}
use Rattle.meter_files.specs.declared.part_file.MeterFile.{MeterFile}
use Rattle.meter_files.specs.declared.part_row.HomeGroup.{HomeGroup}
use Rattle.meter_files.specs.declared.part_row.PartEntry.{PartEntry}

-- ---- a step after one that went well

record Went {A B : Type 0} (first : Result A FileFault) (next : A → Result B FileFault) (value : B) : Type 0 where
  before : A
  first_is : first ≡ Ok before
  next_is : next before ≡ Ok value

went : {A B : Type 0} (first : Result A FileFault) (next : A → Result B FileFault) (value : B) → (first >>= next) ≡ Ok value → Went first next value
went (Ok before) next value is = record { before = before; first_is = refl; next_is = is }
went (Err fault) next value is = absurd cc

-- ---- the plan

settled_long : (home : PlanView) (spans : List Span) → (length (settled home spans).groups ≡ length home.groups) × (size (settled home spans).groups 0 ≡ size home.groups 0)
settled_long home spans = by (span_fault home spans)
  where
    by : (fault : Option SpanError) → (length (settled_by home spans fault).groups ≡ length home.groups) × (size (settled_by home spans fault).groups 0 ≡ size home.groups 0)
    by None = (length-with home spans, size-with home spans 0)
    by (Some fault) = (refl, refl)

unless_one : (fault : Option FileFault) (plan home : PlanView) → length plan.groups ≡ 1 → unless fault plan ≡ Ok home → length home.groups ≡ 1
unless_one None plan home one is = let same : plan ≡ home = cc in ap (λ (p : PlanView). length p.groups) (sym same) ∙ one
unless_one (Some fault) plan home one is = absurd cc

stated_one : (rounds : ℕ) (group : HomeGroup) (home : PlanView) → stated_home rounds group ≡ Ok home → length home.groups ≡ 1
unfolding stated_home stated_plan
stated_one rounds group home is = by (nat_lt 255 group.number) (in_row 0 (cause.Plan (TooManyGroups (group.number + 1)))) is
  where
    by : (b : Bool) (fault : FileFault) → (if b then Err fault else stated_plan (record { rounds = rounds; windows = record { reading = 1; recovery = 2 } }) (group.group ∷ [])) ≡ Ok home → length home.groups ≡ 1
    by true fault is = absurd cc
    by false fault is = unless_one (option_map (λ e. in_row 0 (cause.Plan e)) (first_fault (group.group ∷ []) rounds 1 2)) (new.plan_of (group.group ∷ []) rounds 1 2) home refl is

-- ---- the file

-- what is gathered makes this file
record Completes (home : PlanView) (owner : OwnerView) (file : MeterFileView) : Type 0 where
  home_is : file.home ≡ home
  meter_is : file.meter ≡ owner.meter
  group_is : file.group ≡ owner.group
  pairs : missing_pair owner file.pairs ≡ None

completes : (home : PlanView) (owner : OwnerView) (own : List ℕ) (pairs : List (Option (List ℕ))) (file : MeterFileView) (which : Option KeyId) → missing_pair owner pairs ≡ which
    → unless_missing home owner own pairs which ≡ Ok file → Completes home owner file
completes home owner own pairs file None none is =
    let same : record { home = home; group = owner.group; meter = owner.meter; own = own; pairs = pairs } ≡ file = cc in
    subst (λ (f : MeterFileView). Completes home owner f) same (record { home_is = refl; meter_is = refl; group_is = refl; pairs = none })
completes home owner own pairs file (Some which) none is = absurd cc

completed_whole : (home : PlanView) (owner : OwnerView) (own : Option (List ℕ)) (pairs : List (Option (List ℕ))) (file : MeterFileView) → completed_by home owner own pairs ≡ Ok file → Completes home owner file
completed_whole home owner None pairs file is = absurd cc
completed_whole home owner (Some own) pairs file is = completes home owner own pairs file (missing_pair owner pairs) refl is

abbrev owner_by : (group meter meters : ℕ) → OwnerView
owner_by group meter meters = record { group = group; meter = meter; meters = meters }

whole : (home : PlanView) (spans : List Span) (owner : OwnerView) (file : MeterFileView) → length home.groups ≡ 1 → owner.meters ≡ size home.groups 0 → owner.meter < owner.meters → Completes (settled home spans) owner file
    → IsWhole file
whole home spans owner file one meters inside makes =
    let long = settled_long home spans in
    let groups : size file.home.groups 0 ≡ owner.meters = ap (λ (p : PlanView). size p.groups 0) makes.home_is ∙ long.1 ∙ sym meters in
    let meter = makes.meter_is in
    let same : owner ≡ owner_in file
    = ap (λ n. owner_by n owner.meter owner.meters) (sym makes.group_is) ∙ ap (λ n. owner_by file.group n owner.meters) (sym meter) ∙ ap (λ n. owner_by file.group file.meter n) (sym groups) in
    record {
      one = ap (λ (p : PlanView). length p.groups) makes.home_is ∙ long.0 ∙ one;
      is_meter = omega (arith, groups, meter, inside);
      pairs = subst (λ (o : OwnerView). missing_pair o file.pairs ≡ None) same makes.pairs;
    }

entries_whole : (home : PlanView) (owner : OwnerView) (entries : List PartEntry) (file : MeterFileView) → length home.groups ≡ 1 → owner.meters ≡ size home.groups 0 → with_entries home owner entries ≡ Ok file → IsWhole file
unfolding with_entries
entries_whole home owner entries file one meters is = by (nat_lt owner.meter owner.meters) (in_row 4 (cause.Key Range)) refl is
  where
    by : (b : Bool) (fault : FileFault) → nat_lt owner.meter owner.meters ≡ b → (if b then filled_in (settled home (spans_of entries)) owner (span_fault home (spans_of entries)) entries else Err fault) ≡ Ok file → IsWhole file
    by true fault inside is =
        let made = went (gather owner (span_fault home (spans_of entries)) 5 (nothing owner.meters) entries) (completed (settled home (spans_of entries)) owner) file is in
        whole home (spans_of entries) owner file one meters (ltb-true owner.meter owner.meters inside)
        (completed_whole (settled home (spans_of entries)) owner made.before.own made.before.pairs file made.next_is)
    by false fault inside is = absurd cc

rows_whole : (rows : List (List (List ℕ))) (file : MeterFileView) → part_from rows ≡ Ok file → IsWhole file
unfolding part_from
rows_whole rows file is =
    let head = went (head_of rows) _ file is in
    let entries = went (entries_from 5 (behind (behind (behind (behind rows))))) _ file head.next_is in
    let home = went (stated_home head.before.rounds head.before.home) _ file entries.next_is in
    entries_whole home.before (owner_of head.before (size home.before.groups 0)) entries.before file (stated_one head.before.rounds head.before.home home.before home.first_is) refl home.next_is

pub ends_whole : (rows : List (List (List ℕ))) (r : Result MeterFile (Failed FileFault)) → PartEnds (part_from rows) r → IfOk r (λ file. IsWhole (view_of file))
ends_whole rows (Ok file) ends = rows_whole rows (view_of file) ends
ends_whole rows (Err fault) ends = tt
