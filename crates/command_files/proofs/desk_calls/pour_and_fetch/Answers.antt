use Rattle.std.proofs.Common.{[], ◌∷◌, ◌∙◌, ap}
use Rattle.command_files.specs.Calls.{after_fetches}
use Rattle.command_files.proofs.CallLemmas.{read_after, then_unread}
use Rattle.command_files.proofs.desk_calls.pour_and_fetch.Goals as goal

pub returns-in-Err-fetch-clause-ends : goal.returns-in-Err-fetch-clause-ends
returns-in-Err-fetch-clause-ends g c =
    then_unread (c.args.first.now ∷ []) (c.args.second.now ∷ []) _ _ _ _ c.in-Ok.ensures.ends.2 c.in-Err-fetch.ensures.ends

pub returns-clause-ends : goal.returns-clause-ends
returns-clause-ends g c =
    let poured = c.in-Ok.ensures.ends in
    let fetched = c.in-Ok-fetch.ensures.ends in (
      poured.0,
      poured.1,
      read_after (c.args.first.now ∷ []) c.args.second.now _ _ _ poured.2 fetched.0,
      fetched.1 ∙ ap (after_fetches (c.args.second.now ∷ [])) poured.2,
      poured.3,
    )
