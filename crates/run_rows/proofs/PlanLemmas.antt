-- A plan within the limits and a presence of it can run.
use Rattle.std.proofs.Common.{◌≡◌, ℕ, ◌<◌, ◌≤◌, Bool, true, false, List, [], length, get_or, sym, ◌∙◌, ⊎_elim, arith}
use Rattle.std.proofs.lemmas.List.{get_or_past}
use Rattle.std.proofs.lemmas.Bool.{false≢true, cases_lt}
use Rattle.group_plan.specs.Plans.{PlanView, is_member, IsWithinLimits}
use Rattle.group_plan.specs.Tables.{PresenceView, IsPresenceTable, is_present}
use Rattle.event_schedule.specs.Schedule.{shape_of_presence}
use Rattle.run_rows.specs.Ticks.{clock_of, IsRunPlan}

none_past : (row : List Bool) (i : ℕ) → length row ≤ i → get_or row i false ≡ true → ⊥
none_past row i past there = false≢true (sym (get_or_past row i false past) ∙ there)

-- a reading that is there is in the plan
present_in_plan : (plan : PlanView) (t : List (List (List Bool))) → IsPresenceTable plan t → (g r i : ℕ) → is_present t g r i ≡ true
    → (g < length plan.groups) × (r < plan.rounds) × (is_member plan.groups g r i ≡ true)
present_in_plan plan t fits g r i there =
    let g_in : g < length plan.groups = ⊎_elim (λ lt. lt)
    (λ past. absurd (none_past (get_or (get_or t g []) r []) i
    (rw (get_or_past t g [] (let e = fits.shape.groups in omega arith)) (omega arith)) there))
    (cases_lt g (length plan.groups)) in
    let r_in : r < plan.rounds = ⊎_elim (λ lt. lt)
    (λ past. absurd (none_past (get_or (get_or t g []) r []) i
    (rw (get_or_past (get_or t g []) r [] (let e = fits.shape.rounds g g_in in omega arith)) (omega arith)) there))
    (cases_lt r plan.rounds) in
    (g_in, r_in, fits.of_members g r i there)

pub can_run : (p : PresenceView) → IsWithinLimits p.plan → IsPresenceTable p.plan p.table → IsRunPlan (shape_of_presence p) (clock_of p.plan)
can_run p limits fits = record {
  places = present_in_plan p.plan p.table fits;
  first_window = let h = limits.w1_from in omega arith;
  open_window = let h = limits.w2_from in omega arith;
}
