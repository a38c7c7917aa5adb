use Rattle.std.proofs.Common.{[], ◌∷◌}
use Rattle.command_files.proofs.CallLemmas.{then_unread, two_read}
use Rattle.command_files.proofs.desk_calls.fetch_two.Goals as goal

pub returns-in-Err-fetch-clause-ends : goal.returns-in-Err-fetch-clause-ends
returns-in-Err-fetch-clause-ends g c =
    then_unread (c.args.first.now ∷ []) (c.args.second.now ∷ []) _ _ _ _ c.in-Ok.ensures.ends.1 c.in-Err-fetch.ensures.ends

pub returns-clause-ends : goal.returns-clause-ends
returns-clause-ends g c =
    two_read _ _ _ _ _ _ _ c.in-Ok.ensures.ends.0 c.in-Ok.ensures.ends.1 c.in-Ok-fetch.ensures.ends.0 c.in-Ok-fetch.ensures.ends.1
