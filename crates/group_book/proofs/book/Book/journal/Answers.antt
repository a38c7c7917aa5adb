use Rattle.std.proofs.Common.{ap, sym, subst}
use Rattle.group_book.specs.Tables.{IsTranscriptUnder}
use Rattle.group_book.proofs.TableLemmas.{transcript_under}
use Rattle.group_book.proofs.book.Book.journal.Goals as goal

pub returns-clause-tables : goal.returns-clause-tables
returns-clause-tables c =
    subst (IsTranscriptUnder c.args.self.now.presence) (sym (ap (λ b. b.journal) c.self.view_is))
    (subst (λ b. IsTranscriptUnder b.presence b.journal) c.self.view_is
    (transcript_under c.self.inside.presence c.self.inside.journal.items c.self.invariant.ledger.limits c.self.invariant.ledger.table c.self.invariant.ledger.journal))
