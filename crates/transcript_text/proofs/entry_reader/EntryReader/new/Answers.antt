use Rattle.std.proofs.Common.{arith, refl}
use Rattle.field_texts.specs.Parts.{parts}
use Rattle.transcript_text.specs.Heads.{HeadRead}
use Rattle.transcript_text.proofs.HeadText.{head_is}
use Rattle.transcript_text.proofs.MoreText.{read_goes_on}
use Rattle.transcript_text.proofs.ReaderLemmas.{head_fails, head_then_entries}
use Rattle.transcript_text.proofs.entry_reader.EntryReader.new.Goals as goal

pub returns-in-Err-clause-begins : goal.returns-in-Err-clause-begins
returns-in-Err-clause-begins c = head_fails c.args.version c.args.bytes.now c.in-Err.fault c.in-Err.ensures.given

pub returns-clause-begins : goal.returns-clause-begins
returns-clause-begins c =
    let h : HeadRead = record { plan = c.in-Ok.head.plan; line = c.in-Ok.head.line; rest = parts 10 c.in-Ok.head.rest.now } in
    let is = head_is c.args.version (parts 10 c.args.bytes.now) h c.in-Ok.ensures.given in
    record {
      read = head_then_entries c.args.version c.args.bytes.now h c.in-Ok.ensures.given;
      last = refl;
      plan = is.plan;
      head = is.has;
      goes_on = read_goes_on c.args.version c.args.bytes.now c.in-Ok.head.rest.now c.in-Ok.head.plan c.in-Ok.head.line c.in-Ok.ensures.given;
    }

pub invariant_of-result : goal.invariant_of-result
invariant_of-result c =
    let h : HeadRead = record { plan = c.in-Ok.head.plan; line = c.in-Ok.head.line; rest = parts 10 c.in-Ok.head.rest.now } in
    let few = c.in-Ok.ensures.few in
    (omega (arith, few), omega arith, (head_is c.args.version (parts 10 c.args.bytes.now) h c.in-Ok.ensures.given).has)
