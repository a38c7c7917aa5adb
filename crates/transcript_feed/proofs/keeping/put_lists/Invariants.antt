use Rattle.std.proofs.Common.{drop}
use Rattle.transcript_text.specs.Ahead.{entries_of}
use Rattle.transcript_feed.proofs.KeptLemmas.{IsPut}
use Rattle.transcript_feed.proofs.keeping.put_lists.Given as goal

abbrev pub invariant-loop-entries : goal.invariant-loop-entries
invariant-loop-entries l = IsPut l.fn.transcript (entries_of l.lists) l.transcript (entries_of (drop l.entries-index l.lists))
