use Rattle.std.proofs.Common.{[], subst}
use Rattle.event_schedule.specs.Journal.{IsJournalAfter}
use Rattle.group_book.specs.Books.{shape_of}
use Rattle.twin_worlds.proofs.FilledLines.{book-lines, book-tells}
use Rattle.twin_worlds.proofs.comparing.confirm_under.Goals as goal

pub confirm-requires-after_bounds : goal.confirm-requires-after_bounds
confirm-requires-after_bounds g c κs within =
    let x = c.args.first.now in
    let b = c.args.book.now in
    let t = c.args.transcript.now in
    record {
      world_of = record {
        known = record { masks = c.requires.masks; hidden = c.in_ok-new.ensures };
        presence = c.requires.events.presence;
        groups = c.in_ok-new-2.ensures.groups;
        answers = c.in_ok-new-2.ensures.rows;
      };
      lines = book-lines x t b c.len-entries.ensures.sound c.requires.transcript c.requires.events c.requires.frames;
      are = book-tells x (g.M.Masks.table c.args.masks.now) t b c.requires.events c.requires.frames (subst (IsJournalAfter (shape_of b) []) c.journal-lines.ensures.lines c.journal-lines.ensures.journal.lines);
    }
