use Rattle.std.proofs.Common.{◌≡◌, ◌∙◌, ◌+◌, ℕ, Bool, [], Some, Ok, Err, arith, rules, get_or, length, subst}
use Rattle.std.specs.Result.{result_err}
use Rattle.group_plan.specs.Plans.{is_member}
use Rattle.plan_files.specs.KeptRows.{fields_in}
use Rattle.plan_files.specs.RegisterParts.{of_register}
use Rattle.plan_files.specs.Registers.{register_of}
use Rattle.plan_files.proofs.ReadingLemmas.{fault_found, fault_more, fault_none}
use Rattle.plan_files.proofs.TableLemmas.{reads_each, tables_more}
use Rattle.plan_files.proofs.readings.put_fields.Goals as goal

pub returns-in_err-values-clause-fault : goal.returns-in_err-values-clause-fault
returns-in_err-values-clause-fault c =
    let plan = c.args.plan.now in
    let fields = fields_in c.args.row.now in
    let text = get_or fields (2 + c.loop-meter.meter) [] in
    let what = c.in_err-values.field-0.0 in
    let sized = c.meters-meter-end.ensures.meters in
    let lt = c.loop-meter-test.true in
    let read : register_of (length c.args.tables.now) 0 (is_member plan.groups c.args.group c.args.round c.loop-meter.meter) text ≡ Err what =
    subst (λ (n : ℕ). register_of n 0 (is_member plan.groups c.args.group c.args.round c.loop-meter.meter) text ≡ Err what) c.loop-meter.invariant.filled.long
    (subst (λ (b : Bool). register_of (length c.loop-meter.tables) 0 b text ≡ Err what) c.is_member-is_member.ensures (c.in_err-values.ensures 0)) in
    let answered : Some what ≡ result_err c.from_residual.result = search rules in
    c.loop-meter.invariant.fault
    ∙ fault_found (register_of (length c.args.tables.now) 0) plan c.args.group c.args.round c.loop-meter.meter fields what (omega (arith, sized, lt, c.requires.long)) read ∙ answered

pub loop-meter-preserved : goal.loop-meter-preserved
loop-meter-preserved c =
    let plan = c.args.plan.now in
    let fields = fields_in c.args.row.now in
    let text = get_or fields (2 + c.loop-meter.meter) [] in
    let values = c.in_ok-values.values in
    let sized = c.meters-meter-end.ensures.meters in
    let lt = c.loop-meter-test.true in
    let read : (k : ℕ) → register_of (length c.args.tables.now) k (is_member plan.groups c.args.group c.args.round c.loop-meter.meter) text ≡ Ok (of_register values k) = λ k.
    subst (λ (n : ℕ). register_of n k (is_member plan.groups c.args.group c.args.round c.loop-meter.meter) text ≡ Ok (of_register values k)) c.loop-meter.invariant.filled.long
    (subst (λ (b : Bool). register_of (length c.loop-meter.tables) k b text ≡ Ok (of_register values k)) c.is_member-is_member.ensures
    (reads_each (length c.loop-meter.tables) c.is_member-is_member.result text values c.in_ok-values.ensures k)) in
    record {
      fault = c.loop-meter.invariant.fault
          ∙ fault_more (register_of (length c.args.tables.now) 0) plan c.args.group c.args.round c.loop-meter.meter fields (of_register values 0) (omega (arith, sized, lt, c.requires.long)) (read 0);
      filled = tables_more plan c.args.group c.args.round c.loop-meter.meter fields values c.args.tables.now c.loop-meter.tables c.put_each.new.tables read c.loop-meter.invariant.filled c.put_each.ensures;
    }

pub returns-clause-fault : goal.returns-clause-fault
returns-clause-fault c =
    let sized = c.meters-meter-end.ensures.meters in
    let over = c.loop-meter-test.false in
    c.loop-meter.invariant.fault
    ∙ fault_none (register_of (length c.args.tables.now) 0) c.args.plan.now c.args.group c.args.round c.loop-meter.meter (fields_in c.args.row.now) (omega (arith, sized, over, c.requires.long))
