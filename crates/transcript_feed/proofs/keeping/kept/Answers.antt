use Rattle.transcript_feed.proofs.KeptLemmas.{has_head, is_read}
use Rattle.transcript_feed.proofs.keeping.kept.Goals as goal

pub returns-clause-exact : goal.returns-clause-exact
returns-clause-exact g c = λ version text taken. is_read version text c.finish.result (c.finish.ensures.ends version text taken)

pub returns-clause-head : goal.returns-clause-head
returns-clause-head g c = λ version text taken. has_head version text c.finish.result (c.finish.ensures.ends version text taken)
