use Rattle.std.proofs.Common.{subst, List, ℕ, ◌++◌}
use Rattle.transcript_feed.specs.Feeds.{FeedEnds}
use Rattle.transcript_feed.proofs.IntakeLemmas.{last_wait}
use Rattle.transcript_feed.proofs.intake.Intake.finish.Goals as goal

pub returns-clause-ends : goal.returns-clause-ends
returns-clause-ends g c = λ version text is.
    let has = g.S.EntrySink.has in
    let ends = subst (λ (xs : List ℕ). FeedEnds has version (is.0 ++ xs) c.finish.result) c.deref.ensures.value (c.finish.ensures.ends version is.0 is.2) in
    last_wait has version text c.args.self c.finish.result is ends
