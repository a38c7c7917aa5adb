use Rattle.transcript_text.specs.Heads.{read_of}
use Rattle.transcript_text.proofs.ReaderLemmas.{gives_all, plan_read, text_found}
use Rattle.transcript_text.proofs.reader.read_in_pieces.Goals as goal

pub returns : goal.returns
returns g c =
    let reader = c.in-Ok.reader in
    let begun = c.in-Ok.ensures.begins in
    let read = c.entries.ensures in
    let exact = gives_all reader.plan reader.left (read_of c.args.version c.args.bytes.now) begun.read c.entries.result read.entries read.plan in
    record {
      exact = exact;
      found = text_found c.args.version c.args.bytes.now c.entries.result c.in-Ok.ensures.text exact;
      sound = read.sound;
      plan = plan_read c.args.version reader.plan c.entries.result begun.head read.plan;
    }
