use Rattle.shared_book.proofs.Openings.{closes_full, closes_groups, closes_numbers}
use Rattle.shared_book.proofs.parts.SharedBook.shut.Goals as goal

pub take_all-requires-clause-some : goal.take_all-requires-clause-some
take_all-requires-clause-some c = let r = c.args.pass.rests in closes_full _ _ _ _ _ c.close_with-closed.ensures.values.2 r.1 c.requires.free c.requires.first c.requires.none_out r.2

pub returns-clause-ends : goal.returns-clause-ends
returns-clause-ends c =
    let r = c.args.pass.rests in
    let f = c.close_with-closed.ensures.values.2 in record {
      presence = c.args.self.presence_is;
      journal = c.args.self.journal_is;
      groups = closes_groups _ _ _ _ _ f r.1 c.requires.free c.requires.first c.requires.none_out r.2 _ c.take_all.ensures.pages;
      numbers = closes_numbers _ _ _ _ _ f r.1 c.requires.free c.requires.first c.requires.none_out r.2;
    }
