use Rattle.std.proofs.Common.{rules}
use Rattle.command_texts.proofs.hide.transcript_of.Goals as goal

pub returns-in-Err-Transcript-clause-refused : goal.returns-in-Err-Transcript-clause-refused
returns-in-Err-Transcript-clause-refused c = λ text read. search (rules, c.in-Err-Transcript.ensures.ends text read, c.in-Err-Transcript.field-0-is, c.in-Err-Transcript.fault-is)

pub returns-in-Err-Head-clause-refused : goal.returns-in-Err-Head-clause-refused
returns-in-Err-Head-clause-refused c = λ text read. search (rules, c.in-Err-Head.ensures.ends text read, c.in-Err-Head.field-0-is)
