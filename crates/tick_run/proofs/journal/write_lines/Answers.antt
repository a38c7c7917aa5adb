use Rattle.tick_run.proofs.JournalLemmas.{on_ok, quiet-fits, quiet-script, quiet-lines}
use Rattle.tick_run.proofs.journal.write_lines.Goals as goal

pub push_all-requires-clause-fits : goal.push_all-requires-clause-fits
push_all-requires-clause-fits c =
    quiet-fits c.args.tick c.args.transcript.now c.args.groups.now c.args.journal.now.items c.add_taken.new.journal.items c.add_closed.new.journal.items
    c.requires.journal c.in_ok-add_taken.ensures c.in_ok-add_closed.ensures c.requires.fits

pub returns-clause-transcript : goal.returns-clause-transcript
returns-clause-transcript c =
    on_ok c.add_sent.result
    (λ is. quiet-script c.args.tick c.args.transcript.now c.args.groups.now c.args.journal.now.items c.add_taken.new.journal.items c.add_closed.new.journal.items
    c.requires.journal c.in_ok-add_taken.ensures c.in_ok-add_closed.ensures c.push_all.new.self c.in_ok-push_all.ensures.ok)
    c.add_sent.ensures

pub returns-clause-journal : goal.returns-clause-journal
returns-clause-journal c =
    on_ok c.add_sent.result
    (λ is. quiet-lines c.args.tick c.args.transcript.now c.args.groups.now c.args.journal.now.items c.add_taken.new.journal.items c.add_closed.new.journal.items
    c.requires.journal c.in_ok-add_taken.ensures c.in_ok-add_closed.ensures c.push_all.new.self c.in_ok-push_all.ensures.ok c.add_sent.new.journal.items is)
    c.add_sent.ensures
