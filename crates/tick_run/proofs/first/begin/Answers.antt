use Rattle.std.proofs.Common.{ap, ◌∙◌}
use Rattle.event_schedule.specs.Transcripts.{no_entries}
use Rattle.tick_run.proofs.FirstLemmas.{first-runs}
use Rattle.tick_run.proofs.first.begin.Goals as goal

pub returns-clause-runs : goal.returns-clause-runs
returns-clause-runs c = λ m.
    let made = c.in_ok-shared.ensures in
    let groups = c.in_ok-groups.ensures in
    first-runs c.args.readings.now m _
    (record { presence = made.shares.0; empty = made.shares.1; pass = groups.pass.0; leads = groups.pass.1 })
    c.in_ok-no_lines.ensures (c.in_ok-with_room.ensures ∙ ap no_entries c.plan-plan.ensures.plan) groups.groups
