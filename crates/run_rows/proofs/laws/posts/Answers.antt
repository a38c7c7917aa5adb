use Rattle.run_rows.proofs.PostLemmas.{posts_are}
use Rattle.run_rows.proofs.laws.posts.Goals as goal

pub returns : goal.returns
returns c = posts_are
