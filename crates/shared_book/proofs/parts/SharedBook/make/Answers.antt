use Rattle.std.proofs.Common.{◌≡◌, ℕ, drop, subst}
use Rattle.shared_book.specs.Parcels.{group_in}
use Rattle.shared_book.specs.Turns.{journal_after}
use Rattle.shared_book.specs.Passes.{ChecksOut, ChecksIn}
use Rattle.shared_book.specs.Writes.{WriteEnds}
use Rattle.shared_book.specs.Ends.{opening, view}
use Rattle.shared_book.proofs.Turning.{next_pages, made, write_spare}
use Rattle.shared_book.proofs.parts.SharedBook.make.Goals as goal

pub returns-clause-ends : goal.returns-clause-ends
returns-clause-ends g c =
    let o = opening c.args.self.now in
    let v = view c.args.pass.now in
    let u = view c.check_out-pages.new.pass in
    let w = view c.check_in.new.pass in
    let request = c.args.request.now in
    let before = c.args.lines.now in
    let after = c.write-came.new.lines in
    let pages = c.check_out-pages.result in
    let new = c.write-came.new.pages in
    let out = subst (λ (n : ℕ). ChecksOut o v n pages u) c.group.ensures c.check_out-pages.ensures.ends in
    let written = subst (λ (n : ℕ). WriteEnds o.presence (journal_after o u.seen) request n before c.write-came.result new after) out.stands.group (c.write-came.ensures o.presence (journal_after o u.seen) out.stands.replays) in
    let same : new.group ≡ group_in request = (next_pages o u.seen 0 (group_in request) request before after c.write-came.result new written).0 in
    let back = subst (λ (x : ℕ × ℕ). ChecksIn o u x.0 (drop x.1 after.items) w) (λ i. (same i, c.len-from.ensures.len i)) c.check_in.ensures.ends in
    made o v u w request pages before after out back c.write-came.result new written

pub returns-clause-spare : goal.returns-clause-spare
returns-clause-spare g c =
    let o = opening c.args.self.now in
    let u = view c.check_out-pages.new.pass in
    let pages = c.check_out-pages.result in
    let written = c.write-came.ensures o.presence (journal_after o u.seen) c.check_out-pages.ensures.ends.stands.replays in
    write_spare o.presence (journal_after o u.seen) c.args.request.now pages.group c.args.lines.now c.write-came.new.lines c.write-came.result c.write-came.new.pages written
