use Rattle.std.proofs.Common.{refl}
use Rattle.shared_book.proofs.Steps.{carries_one}
use Rattle.shared_book.proofs.Turning.{checked_in}
use Rattle.shared_book.proofs.shared.put_pages.Goals as goal

pub put_back-requires-clause-slot : goal.put_back-requires-clause-slot
put_back-requires-clause-slot c = let r = c.requires.rests in (carries_one _ _ _ r.1 r.0.0, r.1, r.0.1)

pub returns-clause-rests : goal.returns-clause-rests
returns-clause-rests c = (checked_in c.args.seat.now.me.0.opening c.args.group c.args.seat.now.me c.put_back.new.seat.me _ c.requires.rests.0 refl c.put_back.ensures.given).0

pub returns-clause-opening : goal.returns-clause-opening
returns-clause-opening c = (checked_in c.args.seat.now.me.0.opening c.args.group c.args.seat.now.me c.put_back.new.seat.me _ c.requires.rests.0 refl c.put_back.ensures.given).1

pub returns-clause-ends : goal.returns-clause-ends
returns-clause-ends c = (checked_in c.args.seat.now.me.0.opening c.args.group c.args.seat.now.me c.put_back.new.seat.me _ c.requires.rests.0 refl c.put_back.ensures.given).2
