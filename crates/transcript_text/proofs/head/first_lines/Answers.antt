use Rattle.transcript_text.proofs.HeadLoop.{rounds_wrong, start_is, title_wrong, windows_wrong}
use Rattle.transcript_text.proofs.head.first_lines.Goals as goal

pub returns-in-Err-clause-given : goal.returns-in-Err-clause-given
returns-in-Err-clause-given c = title_wrong c.args.version c.args.bytes.now c.in-Some.line.now c.in-Some.rest.now c.in-Some.ensures.0 c.in-Err.fault c.in-Err.ensures

pub returns-in-Err-rounds-clause-given : goal.returns-in-Err-rounds-clause-given
returns-in-Err-rounds-clause-given c =
    rounds_wrong c.args.version c.args.bytes.now c.in-Some.line.now c.in-Some.rest.now c.in-Some.ensures.0 c.in_default-title.field-0 c.in_default-title.ensures
    c.in-Some-cut_far.line.now c.in-Some-cut_far.rest.now c.in-Some-cut_far.ensures.0 c.in-Err-rounds.fault c.in-Err-rounds.ensures

pub returns-in-Err-windows-clause-given : goal.returns-in-Err-windows-clause-given
returns-in-Err-windows-clause-given c =
    windows_wrong c.args.version c.args.bytes.now c.in-Some.line.now c.in-Some.rest.now c.in-Some.ensures.0 c.in_default-title.field-0 c.in_default-title.ensures
    c.in-Some-cut_far.line.now c.in-Some-cut_far.rest.now c.in-Some-cut_far.ensures.0 c.in-Ok.rounds c.in-Ok.ensures
    c.in-Some-cut_far-2.line.now c.in-Some-cut_far-2.rest.now c.in-Some-cut_far-2.ensures.0 c.in-Err-windows.fault c.in-Err-windows.ensures

pub returns-clause-given : goal.returns-clause-given
returns-clause-given c =
    start_is c.args.version c.args.bytes.now c.in-Some.line.now c.in-Some.rest.now c.in-Some.ensures.0 c.in_default-title.field-0 c.in_default-title.ensures
    c.in-Some-cut_far.line.now c.in-Some-cut_far.rest.now c.in-Some-cut_far.ensures.0 c.in-Ok.rounds c.in-Ok.ensures
    c.in-Some-cut_far-2.line.now c.in-Some-cut_far-2.rest.now c.in-Some-cut_far-2.ensures.0 c.in-Ok-windows.windows c.in-Ok-windows.ensures
