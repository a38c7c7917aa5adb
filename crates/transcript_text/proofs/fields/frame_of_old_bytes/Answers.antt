use Rattle.transcript_text.proofs.FrameTexts.{old_frame_decoded, old_frame_refused}
use Rattle.transcript_text.proofs.fields.frame_of_old_bytes.Goals as goal

pub returns-in-Ok : goal.returns-in-Ok
returns-in-Ok c = old_frame_decoded c.args.bytes.now c.in-Ok.frame c.in-Ok.ensures.decodes

pub returns-in-Err : goal.returns-in-Err
returns-in-Err c = old_frame_refused c.args.bytes.now c.in-Err.field-0 c.in-Err.ensures.decodes
