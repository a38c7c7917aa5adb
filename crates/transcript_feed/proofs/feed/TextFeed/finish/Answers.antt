use Rattle.std.proofs.Common.{subst}
use Rattle.transcript_feed.specs.declared.feed.TextState.{TextState}
use Rattle.transcript_feed.specs.Feeds.{IsStateOf}
use Rattle.transcript_feed.proofs.feed.TextFeed.finish.Goals as goal

pub finish-requires-after_bounds : goal.finish-requires-after_bounds
finish-requires-after_bounds g c κs within =
    let (version, text, taken) = c.requires in
    (version, text, subst (λ (s : TextState g.row.R.Denot g.row.S.Denot). IsStateOf g.S.EntrySink.has version text s) c.in-AtEntries.is taken.1)

pub returns-in-AtEntries-clause-ends : goal.returns-in-AtEntries-clause-ends
returns-in-AtEntries-clause-ends g c = λ version text taken.
    c.finish.ensures.ends version text (subst (λ (s : TextState g.row.R.Denot g.row.S.Denot). IsStateOf g.S.EntrySink.has version text s) c.in-AtEntries.is taken.1)
