use Rattle.std.proofs.Common.{◌≡◌, ◌∙◌, Err, rules, arith, subst}
use Rattle.plan_files.specs.declared.fault.Failed.TheVariants.{Fault}
use Rattle.meter_files.specs.PartFiles.{PartEnds, gathered_by, owner_view, with_entries}
use Rattle.meter_files.proofs.PartLemmas.{bad_entries, good_entries}
use Rattle.meter_files.proofs.part_file.with_entries.Goals as goal

pub returns-in_err-keys : goal.returns-in_err-keys
returns-in_err-keys c =
    let failed = c.in_err-keys.field-0.0 in
    let answered : Err failed ≡ c.from_residual-in_err-keys.result = search rules in
    subst (λ r. PartEnds (with_entries c.args.home (owner_view c.args.owner) c.args.entries.items) r) answered
    (bad_entries c.args.home c.in_ok-home.home (owner_view c.args.owner) c.in_ok-home.fault c.args.entries.items c.in_ok-spans.spans.items failed (omega arith) (search rules) (search rules) c.in_err-keys.ensures.refused)

pub returns-in_err-complete : goal.returns-in_err-complete
returns-in_err-complete c =
    let fault = c.in_err-complete.field-0.0 in
    let answered : Err (Fault fault) ≡ c.from_residual-in_err-complete.result = search rules in
    subst (λ r. PartEnds (with_entries c.args.home (owner_view c.args.owner) c.args.entries.items) r) answered
    (good_entries c.args.home c.in_ok-home.home (owner_view c.args.owner) c.in_ok-home.fault c.args.entries.items c.in_ok-spans.spans.items (gathered_by c.in_ok-keys.keys) (omega arith) (search rules)
    (search rules) (search rules) ∙ c.in_err-complete.ensures.missing)

pub returns : goal.returns
returns c =
    good_entries c.args.home c.in_ok-home.home (owner_view c.args.owner) c.in_ok-home.fault c.args.entries.items c.in_ok-spans.spans.items (gathered_by c.in_ok-keys.keys) (omega arith) (search rules)
    (search rules) (search rules) ∙ c.in_ok-complete.ensures.file
