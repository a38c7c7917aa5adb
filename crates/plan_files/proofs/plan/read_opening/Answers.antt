use Rattle.std.proofs.Common.{◌≡◌, ◌∙◌, ◌+◌, Err, Ok, ap, arith, drop, drop-drop, length, length-drop, rules, subst, sym}
use Rattle.plan_files.specs.Faults.{Fails}
use Rattle.plan_files.specs.PlanFiles.{OpeningEnds, opened_from, stated_plan}
use Rattle.plan_files.specs.PlanForms.{entries_from, groups_from}
use Rattle.plan_files.specs.RowsLeft.{rows_left}
use Rattle.plan_files.proofs.PlanLemmas.{IsBegun, IsFormed, bad_groups, bad_head, bad_plan, bad_rows, well_opened}
use Rattle.plan_files.proofs.plan.read_opening.Goals as goal

pub returns-in_err-head-clause-opened : goal.returns-in_err-head-clause-opened
returns-in_err-head-clause-opened c =
    let rows = rows_left c.args.rows.now in
    let error = c.in_err-head.field-0.0 in
    let wrong = bad_head c.args.form rows error c.in_err-head.ensures.fault in
    let answered : Err error ≡ c.from_residual.result = search rules in
    subst (λ r. OpeningEnds (opened_from c.args.form rows) r) answered wrong

pub returns-in_err-groups-clause-opened : goal.returns-in_err-groups-clause-opened
returns-in_err-groups-clause-opened c =
    let rows = rows_left c.args.rows.now in
    let error = c.in_err-groups.field-0.0 in
    let wrong = bad_groups c.args.form rows (rows_left c.read_head.new.rows) c.in_ok-head.head error c.in_ok-head.ensures.read c.in_ok-head.ensures.rest c.in_err-groups.ensures.fault in
    let answered : Err error ≡ c.from_residual-in_err-groups.result = search rules in
    subst (λ r. OpeningEnds (opened_from c.args.form rows) r) answered wrong

pub returns-in_err-entries-clause-opened : goal.returns-in_err-entries-clause-opened
returns-in_err-entries-clause-opened c =
    let rows = rows_left c.args.rows.now in
    let groups = c.in_ok-groups.groups.items in
    let begun : IsBegun c.args.form rows c.in_ok-head.head groups = record {
      head = c.in_ok-head.ensures.read;
      groups = ap (groups_from 4) (sym c.in_ok-head.ensures.rest) ∙ c.in_ok-groups.ensures.read;
    } in
    let number : 4 + c.len.result ≡ 4 + length groups = omega (arith, c.in_ok-groups.groups.ok.0) in
    let others = rows_left c.read_groups.new.rows in
    let rest : others ≡ drop (3 + length groups) rows =
    c.in_ok-groups.ensures.rest ∙ ap (drop (length groups)) c.in_ok-head.ensures.rest ∙ drop-drop (length groups) 3 rows in
    let error = c.in_err-entries.field-0.0 in
    let wrong = bad_rows c.args.form rows others (4 + c.len.result) c.in_ok-head.head groups error begun number rest c.in_err-entries.ensures.fault in
    let answered : Err error ≡ c.from_residual-in_err-entries.result = search rules in
    subst (λ r. OpeningEnds (opened_from c.args.form rows) r) answered wrong

pub returns-in_err-plan-clause-opened : goal.returns-in_err-plan-clause-opened
returns-in_err-plan-clause-opened c =
    let rows = rows_left c.args.rows.now in
    let groups = c.in_ok-groups.groups.items in
    let begun : IsBegun c.args.form rows c.in_ok-head.head groups = record {
      head = c.in_ok-head.ensures.read;
      groups = ap (groups_from 4) (sym c.in_ok-head.ensures.rest) ∙ c.in_ok-groups.ensures.read;
    } in
    let number : 4 + c.len.result ≡ 4 + length groups = omega (arith, c.in_ok-groups.groups.ok.0) in
    let others = rows_left c.read_groups.new.rows in
    let rest : others ≡ drop (3 + length groups) rows =
    c.in_ok-groups.ensures.rest ∙ ap (drop (length groups)) c.in_ok-head.ensures.rest ∙ drop-drop (length groups) 3 rows in
    let entries = c.in_ok-entries.entries.items in
    let read : entries_from c.args.form (4 + length groups) (drop (3 + length groups) rows) ≡ Ok entries =
    ap (entries_from c.args.form (4 + length groups)) (sym rest) ∙ (ap (λ n. entries_from c.args.form n others) (sym number) ∙ c.in_ok-entries.ensures.read) in
    let formed : IsFormed c.args.form rows c.in_ok-head.head groups entries = record { begun = begun; entries = read } in
    let error = c.in_err-plan.field-0.0 in
    let refused : Fails (stated_plan c.in_ok-head.head groups) error =
    subst (λ g. Fails (stated_plan c.in_ok-head.head g) error) c.deref.ensures.value c.in_err-plan.ensures in
    let wrong = bad_plan c.args.form rows c.in_ok-head.head groups entries error formed refused in
    let answered : Err error ≡ c.from_residual-in_err-plan.result = search rules in
    subst (λ r. OpeningEnds (opened_from c.args.form rows) r) answered wrong

pub returns-clause-few : goal.returns-clause-few
returns-clause-few c =
    let groups = c.in_ok-groups.groups.items in
    let number : c.len.result ≡ length groups = omega (arith, c.in_ok-groups.groups.ok.0) in
    let long = ap length c.in_ok-groups.ensures.rest ∙ length-drop (length groups) (rows_left c.read_head.new.rows) in
    let all = ap length c.in_ok-head.ensures.rest ∙ length-drop 3 (rows_left c.args.rows.now) in
    omega (arith, c.in_ok-groups.ensures.few, c.in_ok-entries.ensures.few)

pub returns-clause-opened : goal.returns-clause-opened
returns-clause-opened c =
    let rows = rows_left c.args.rows.now in
    let groups = c.in_ok-groups.groups.items in
    let begun : IsBegun c.args.form rows c.in_ok-head.head groups = record {
      head = c.in_ok-head.ensures.read;
      groups = ap (groups_from 4) (sym c.in_ok-head.ensures.rest) ∙ c.in_ok-groups.ensures.read;
    } in
    let number : 4 + c.len.result ≡ 4 + length groups = omega (arith, c.in_ok-groups.groups.ok.0) in
    let others = rows_left c.read_groups.new.rows in
    let rest : others ≡ drop (3 + length groups) rows =
    c.in_ok-groups.ensures.rest ∙ ap (drop (length groups)) c.in_ok-head.ensures.rest ∙ drop-drop (length groups) 3 rows in
    let entries = c.in_ok-entries.entries.items in
    let read : entries_from c.args.form (4 + length groups) (drop (3 + length groups) rows) ≡ Ok entries =
    ap (entries_from c.args.form (4 + length groups)) (sym rest) ∙ (ap (λ n. entries_from c.args.form n others) (sym number) ∙ c.in_ok-entries.ensures.read) in
    let formed : IsFormed c.args.form rows c.in_ok-head.head groups entries = record { begun = begun; entries = read } in
    let made : stated_plan c.in_ok-head.head groups ≡ Ok c.in_ok-plan.plan = ap (stated_plan c.in_ok-head.head) (sym c.deref.ensures.value) ∙ c.in_ok-plan.ensures in
    well_opened c.args.form rows (4 + c.len.result) c.in_ok-head.head groups entries c.in_ok-plan.plan formed number made
