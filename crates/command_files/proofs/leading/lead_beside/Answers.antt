use Rattle.std.proofs.Common.{◌<◌, ◌^◌, subst, sym, length}
use Rattle.std.proofs.lemmas.Result.{IfOk-at_ok}
use Rattle.rtrb.specs.Ring.{sent, received}
use Rattle.tick_run.specs.Runs.{HaveMet, told_by}
use Rattle.command_files.specs.Ahead.{AreNext, MakesMore}
use Rattle.command_files.proofs.AheadLemmas.{ahead-ticks, next-first}
use Rattle.command_files.proofs.leading.lead_beside.Goals as goal

pub returns-clause-met : goal.returns-clause-met
returns-clause-met g c = λ first met. IfOk-at_ok (λ led. HaveMet first led _ _) c.in_ok-run.was (c.write_beside-file.ensures.leads.met first met)

pub returns-clause-ahead : goal.returns-clause-ahead
returns-clause-ahead g c =
    let led = c.in_ok-run.run' in
    let leads = c.write_beside-file.ensures.leads in
    let given = sent c.write_beside-file.result.3.ring in
    let came = received c.write_beside-file.result.1.ring in
    let makes = IfOk-at_ok (MakesMore c.args.run) c.in_ok-run.was leads.makes in
    let few = IfOk-at_ok (λ run. length run.entries < 2 ^ 64) c.in_ok-run.was leads.few in
    let next = IfOk-at_ok (λ run. AreNext c.args.file.entries (told_by run) given) c.in_ok-run.was leads.next in
    let first : AreNext c.args.file.entries (told_by led) came =
    next-first c.args.file.entries (told_by led) came c.all_came.ensures.left (subst (AreNext c.args.file.entries (told_by led)) (sym c.all_came.ensures.is) next) in
    c.write_beside-file.ensures.ahead (told_by led) few first (ahead-ticks g.B.BegunFile.has c.args.file.begun.file c.args.file.entries c.args.run led makes c.requires.ahead)
