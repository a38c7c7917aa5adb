use Rattle.book_rows.proofs.twin_worlds_table_rows.shift_by.Goals as goal

pub shift-requires : goal.shift-requires
shift-requires c = rw c.requires.same c.requires.places
