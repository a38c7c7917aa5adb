use Rattle.std.proofs.Common.{◌≡◌, rules, refl, sym, subst, inr}
use Rattle.std.specs.Prelude.{Err, Result}
use Rattle.apart_roles.specs.declared.head_end_run.Pause.{Pause}
use Rattle.apart_roles.specs.declared.outcome.RoleError.{RoleError}
use Rattle.apart_roles.specs.HeadEndRuns.{Runs}
use Rattle.apart_roles.proofs.HeadEndRunLemmas.{heard_somewhere}
use Rattle.apart_roles.proofs.head_end_run.run_head_end.Goals as goal

pub returns-in_err-flush-clause-runs : goal.returns-in_err-flush-clause-runs
returns-in_err-flush-clause-runs g c plan journal after =
    let error = c.in_err-flush.field-0.0 in
    let is : c.from_residual-in_err-flush.result ≡ Err error = search rules in
    subst (λ (r : Result Pause RoleError). Runs plan journal (g.W.Wire.view c.args.wire.now) (g.W.Wire.view c.flush.new.wire) r c.hear_lines.new.head) (sym is)
    (inr (record {
      pause = c.in_ok-pause.pause;
      head = c.hear_lines.new.head;
      view = g.W.Wire.view c.hear_lines.new.wire;
      heard = c.in_ok-pause.ensures plan journal after;
      stops = c.in_err-flush.ensures;
    }))

pub returns-clause-onward : goal.returns-clause-onward
returns-clause-onward g c =
    let plan = c.args.head.now.plan in
    heard_somewhere plan c.requires.journal (g.W.Wire.view c.args.wire.now) (g.W.Wire.view c.hear_lines.new.wire) c.in_ok-pause.pause c.hear_lines.new.head
    (c.in_ok-pause.ensures plan c.requires.journal (record { plan_is = refl; after = c.requires.after }))
