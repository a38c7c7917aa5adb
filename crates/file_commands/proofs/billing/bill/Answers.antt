use Rattle.std.proofs.Common.{◌∙◌}
use Rattle.command_words.specs.Commands.{bill_names_of}
use Rattle.file_commands.proofs.BillingEndings.{bill_refused, bill_ends}
use Rattle.file_commands.proofs.billing.bill.Goals as goal

pub returns-in-Err-bills_of_files-clause-ends : goal.returns-in-Err-bills_of_files-clause-ends
returns-in-Err-bills_of_files-clause-ends g c =
    bill_refused (bill_names_of c.args.words.files) c.args.words.period _ _ _ _ _ _ _ c.in-Ok.ensures.ends.0 c.in-Ok.ensures.ends.1 c.in-Ok.ensures.ends.2
    c.deref.ensures.value c.deref-2.ensures.value c.in-Err-bills_of_files.ensures.refused

pub returns-clause-ends : goal.returns-clause-ends
returns-clause-ends g c =
    bill_ends (bill_names_of c.args.words.files) c.args.words.period _ _ _ _ c.in-Ok-bills_of_files.value _ _ _ _ _ _ c.in-Ok.ensures.ends.0 c.in-Ok.ensures.ends.1 c.in-Ok.ensures.ends.2
    c.deref.ensures.value c.deref-2.ensures.value c.in-Ok-bills_of_files.ensures.made c.as_slice.ensures.value (c.as_bytes.ensures.value ∙ c.in-Ok-bills_line.ensures) c.put_one.ensures.ends
