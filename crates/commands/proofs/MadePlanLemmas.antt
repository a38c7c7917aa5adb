-- The full cupboard has the lane of each made plan.
use Rattle.std.proofs.Common.{◌≡◌, List, [], ◌∷◌, None, Ok, refl, ℕ, Some, ◌∙◌, ap, Option, arith, Result, Err, sym, subst, inl, inr}
use Rattle.link_lanes.specs.Counts.{slot}
use Rattle.link_lanes.specs.Fits.{hung_by}
use Rattle.link_lanes.specs.Kinds.{seeded_by}
use Rattle.link_lanes.specs.Lanes.{Slot, loaded}
use Rattle.load_maker.specs.Made.{made_file, made_lane, made_plan, made_readings}
use Rattle.load_maker.proofs.MadeLane.{made_lane_fits}
use Rattle.command_words.specs.Words.{Size, RunNames, Command, Run, Ring, RingTwin, Audit, Twin, Pooled, Make, Load, Convert, Public, Parts, Collect, Meter, Inspect, Bill, Hide, Help, Version, Registers, Resume}
use Rattle.commands.specs.Cupboard.{full_cupboard, IsMade, RunsMadeFiles, MadeFilesAreDone, RunsMadePlan, MadePlansGetLanes}
use Rattle.run_commands.specs.LoadEnds.{made_file_of, made_plan_text, made_readings_text}
use Rattle.commands.specs.Ends.{Ends}
use Rattle.load_maker.specs.MadeFiles.{AreRead}
use Rattle.load_maker.proofs.MadeReads.{made_files}
use Rattle.desk_outside.specs.Desk.{View, Rose}
use Rattle.desk_outside.specs.Wire.{WireView}
use Rattle.commands.specs.Outside.{OutsideView, FaultsRose, with_wire}
use Rattle.commands.specs.Accepted.{HoldsFile, RunAccepts, Accepts, AcceptedIsDone}
use Rattle.plan_files.specs.Readings.{readings_of}
use Rattle.link_lanes.specs.declared.cupboard.RackError.{RackError}
use Rattle.command_words.specs.declared.outcome.Outcome.{Outcome}
use Rattle.command_words.specs.declared.outcome.Outcome.TheVariants.{BadLane}
use Rattle.command_words.specs.Outcomes.{status_of}
use Rattle.plan_files.specs.PlanFiles.{plan_of}
use Rattle.command_texts.specs.Runs.{RefusesLane}
use Rattle.commands.proofs.CalmLemmas.{read_is}
use Rattle.commands.specs.Promise.{EndsAndTells}

-- ---- the lane

made_hung : (size : Size) → IsMade size → (slots : List Slot) × (hung_by full_cupboard (made_file_of size).lanes ≡ Ok slots)
unfolding made_file
made_hung size is =
    let lane = made_lane size.seed (made_plan size.groups size.meters size.rounds) in
    (slot (loaded (seeded_by 0 None) lane.arg) lane.from lane.to ∷ [], rw (made_lane_fits size.seed is.seed) refl)

read_as : (size : Size) → IsMade size → AreRead size.seed size.groups size.meters size.rounds
read_as size is = made_files size.seed size.groups size.meters size.rounds is.seed is.within

plan_held : (size : Size) → IsMade size → (name : List ℕ) (v : View) → v.held name ≡ Some (Some (made_plan_text size)) → HoldsFile v name (made_plan_text size)
plan_held size is name v held = record { held = held; short = (read_as size is).short_plan }

plan_is : (size : Size) → (made_file_of size).plan ≡ made_plan size.groups size.meters size.rounds
unfolding made_file
plan_is size = refl

run_accepted : (size : Size) → IsMade size → (names : RunNames) (v : View) → v.held names.plan ≡ Some (Some (made_plan_text size))
    → v.held names.readings ≡ Some (Some (made_readings_text size)) → RunAccepts full_cupboard names v
run_accepted size is names v plan readings =
    let read = read_as size is in
    let hung = made_hung size is in
    record {
      plan_bytes = made_plan_text size;
      readings_bytes = made_readings_text size;
      plan = plan_held size is names.plan v plan;
      readings = record { held = readings; short = read.short_readings };
      values = record { file = made_file_of size; slots = hung.0; readings = made_readings size.seed size.groups size.meters size.rounds };
      of_bytes = record {
        plan = read.plan;
        lanes = hung.1;
        readings = ap (λ plan. readings_of plan (made_readings_text size)) (plan_is size) ∙ read.readings;
      };
    }

made_accepted : (command : Command) (o : OutsideView) → RunsMadeFiles command o.desk → Accepts full_cupboard command o
made_accepted (Load size workers transcript) o is = let hung = made_hung size is in record { slots = hung.0; lanes = hung.1 }
made_accepted (Run names workers) o (size, is, plan, readings) = run_accepted size is names o.desk plan readings
made_accepted (Ring width names workers) o (size, is, plan, readings) = run_accepted size is names o.desk plan readings
made_accepted (Resume names workers) o is = absurd is
made_accepted (Registers count names workers) o is = absurd is
made_accepted (Audit transcript report) o is = absurd is
made_accepted (Twin names) o is = absurd is
made_accepted (RingTwin width names) o is = absurd is
made_accepted (Pooled known names) o is = absurd is
made_accepted (Make size plan readings) o is = absurd is
made_accepted (Convert old transcript) o is = absurd is
made_accepted (Public plan public) o is = absurd is
made_accepted (Parts plan g prefix) o is = absurd is
made_accepted (Collect names) o is = absurd is
made_accepted (Meter meter journal) o is = absurd is
made_accepted (Inspect names) o is = absurd is
made_accepted (Bill names period) o is = absurd is
made_accepted (Hide names period place) o is = absurd is
made_accepted Help o is = absurd is
made_accepted Version o is = absurd is

-- a command that runs made files hears no line
desk_rose : (command : Command) (v : View) (before now : ℕ) (found left : WireView) → RunsMadeFiles command v → FaultsRose (Some command) before now found left → Rose before now
desk_rose (Collect names) v before now found left is rose = absurd is
desk_rose (Meter meter journal) v before now found left is rose = absurd is
desk_rose _ v before now found left is rose = rose

pub made_files_are_done : (asked : Option Command) (o p : OutsideView) (before now status : ℕ) → AcceptedIsDone full_cupboard asked o p before now status → MadeFilesAreDone asked o.desk before now status
made_files_are_done asked o p before now status accepted command by made calm =
    accepted command by (made_accepted command o made) (λ rose. calm (desk_rose command o.desk before now o.wire p.wire made rose))

-- ---- status 10

-- only a lane row that is refused has status 10
by_lane : (outcome : Outcome) → status_of outcome ≡ 10 → (fault : RackError) × (outcome ≡ BadLane fault)
by_lane (BadLane fault) is = (fault, refl)
by_lane _ is = absurd (omega (arith, is))

not_both : {A E : Type 0} (r : Result A E) (a : A) (e : E) → r ≡ Ok a → r ≡ Err e → ⊥
not_both r a e well bad = cc

same_value : {A E : Type 0} (r : Result A E) (a b : A) → r ≡ Ok a → r ≡ Ok b → a ≡ b
same_value r a b first second = cc

run_hung : (size : Size) → IsMade size → (fault : RackError) → RefusesLane full_cupboard (made_plan_text size) fault → ⊥
run_hung size is fault (file, plan, refused) =
    let hung = made_hung size is in
    let same : made_file_of size ≡ file = same_value (plan_of (made_plan_text size)) (made_file_of size) file (read_as size is).plan plan in
    not_both (hung_by full_cupboard file.lanes) hung.0 fault (ap (λ f. hung_by full_cupboard f.lanes) (sym same) ∙ hung.1) refused

no_lane : (command : Command) (o p : OutsideView) (fault : RackError) → RunsMadePlan command o.desk → Ends full_cupboard (Some command) o p (BadLane fault) → ⊥
no_lane (Load size workers transcript) o p fault is (inl refused, kept) = let hung = made_hung size is in not_both (hung_by full_cupboard (made_file_of size).lanes) hung.0 fault hung.1 refused.0
no_lane (Load size workers None) o p fault is (inr (inl unwritable), kept) = unwritable
no_lane (Load size workers (Some name)) o p fault is (inr (inl (values, ends)), kept) = ends
no_lane (Load size workers transcript) o p fault is (inr (inr (texts, made, only, ends)), kept) = ends
no_lane (Run names workers) o p fault is (inl unread, kept) = unread
no_lane (Run names workers) o q fault (size, is, held) (inr (p, r, p_read, r_read, inl refused), kept) =
    let same = read_is o.desk names.plan (made_plan_text size) p (plan_held size is names.plan o.desk held) p_read in
    run_hung size is fault (subst (λ bytes. RefusesLane full_cupboard bytes fault) (sym same) refused.0)
no_lane (Run names workers) o q fault is (inr (p, r, p_read, r_read, inr (inl (values, ends))), kept) = ends
no_lane (Run names workers) o q fault is (inr (p, r, p_read, r_read, inr (inr (texts, made, only, ends))), kept) = ends
no_lane (Ring width names workers) o p fault is (inl unread, kept) = unread
no_lane (Ring width names workers) o q fault (size, is, held) (inr (p, r, p_read, r_read, inl refused), kept) =
    let same = read_is o.desk names.plan (made_plan_text size) p (plan_held size is names.plan o.desk held) p_read in
    run_hung size is fault (subst (λ bytes. RefusesLane full_cupboard bytes fault) (sym same) refused.0)
no_lane (Ring width names workers) o q fault is (inr (p, r, p_read, r_read, inr (inl (values, ends))), kept) = ends
no_lane (Ring width names workers) o q fault is (inr (p, r, p_read, r_read, inr (inr (texts, made, only, ends))), kept) = ends
no_lane (Resume names workers) o p fault is (inl unread, kept) = unread
no_lane (Resume names workers) o p fault (size, is, held) (inr (bytes, read, inl refused), kept) =
    let same = read_is o.desk names.plan (made_plan_text size) bytes.plan (plan_held size is names.plan o.desk held) read.plan in
    run_hung size is fault (subst (λ p. RefusesLane full_cupboard p fault) (sym same) refused.0)
no_lane (Resume names workers) o p fault is (inr (bytes, read, inr (inl (values, ends))), kept) = ends
no_lane (Resume names workers) o p fault is (inr (bytes, read, inr (inr (texts, make, only, ends))), kept) = ends
no_lane (Registers count names workers) o p fault is (inl unread, kept) = unread
no_lane (Registers count names workers) o q fault (size, is, held) (inr (p, r, p_read, r_read, inl refused), kept) =
    let same = read_is o.desk names.plan (made_plan_text size) p (plan_held size is names.plan o.desk held) p_read in
    run_hung size is fault (subst (λ bytes. RefusesLane full_cupboard bytes fault) (sym same) refused.0)
no_lane (Registers count names workers) o q fault is (inr (p, r, p_read, r_read, inr (inl (values, ends))), kept) = ends
no_lane (Registers count names workers) o q fault is (inr (p, r, p_read, r_read, inr (inr (texts, make, ends))), kept) = ends
no_lane (Audit transcript report) o p fault is ends = absurd is
no_lane (Twin names) o p fault is ends = absurd is
no_lane (RingTwin width names) o p fault is ends = absurd is
no_lane (Pooled known names) o p fault is ends = absurd is
no_lane (Make size plan readings) o p fault is ends = absurd is
no_lane (Convert old transcript) o p fault is ends = absurd is
no_lane (Public plan public) o p fault is ends = absurd is
no_lane (Parts plan g prefix) o p fault is ends = absurd is
no_lane (Collect names) o p fault is ends = absurd is
no_lane (Meter meter journal) o p fault is ends = absurd is
no_lane (Inspect names) o p fault is ends = absurd is
no_lane (Bill names period) o p fault is ends = absurd is
no_lane (Hide names period place) o p fault is ends = absurd is
no_lane Help o p fault is ends = absurd is
no_lane Version o p fault is ends = absurd is

pub made_plans_get_lanes : (asked : Option Command) (o p : OutsideView) (before now status : ℕ) → EndsAndTells full_cupboard asked o p before now status → MadePlansGetLanes asked o.desk status
made_plans_get_lanes asked o p before now status (outcome, middle, ends, tells, cause, status_is) command by made ten =
    let lane = by_lane outcome (sym status_is ∙ ten) in
    let here : Ends full_cupboard asked o (with_wire middle p.wire) (BadLane lane.0) = subst (λ outcome. Ends full_cupboard asked o (with_wire middle p.wire) outcome) lane.1 ends in
    no_lane command o (with_wire middle p.wire) lane.0 made (subst (λ c. Ends full_cupboard c o (with_wire middle p.wire) (BadLane lane.0)) by here)
