use Rattle.std.proofs.Common.{[], ◌∷◌, ◌∙◌, ap}
use Rattle.transcript_text.specs.declared.version.Version.TheVariants.{Two}
use Rattle.command_files.specs.Calls.{after_fetches}
use Rattle.command_files.proofs.CallLemmas.{read_after, then_unread}
use Rattle.file_commands.proofs.PouringLemmas.{was_read}
use Rattle.file_commands.proofs.pouring.fetch_and_pour.Goals as goal

pub returns-in-Err-pour-clause-ends : goal.returns-in-Err-pour-clause-ends
returns-in-Err-pour-clause-ends g c =
    then_unread (c.args.first.now ∷ []) (c.args.second.now ∷ []) _ _ _ _ c.in-Ok.ensures.ends.1 c.in-Err-pour.ensures.ends

pub kept-requires-after_bounds : goal.kept-requires-after_bounds
kept-requires-after_bounds g c κs within =
    let poured = c.in-Ok-pour.ensures.ends in
    (Two, poured.0, (poured.3 [] (search (c.type_bounds), c.new.ensures)).1)

pub returns-clause-ends : goal.returns-clause-ends
returns-clause-ends g c =
    let fetched = c.in-Ok.ensures.ends in
    let poured = c.in-Ok-pour.ensures.ends in
    let taken = (poured.3 [] (search (c.type_bounds), c.new.ensures)).1 in (
      poured.0,
      fetched.0,
      read_after (c.args.first.now ∷ []) c.args.second.now _ _ _ fetched.1 poured.1,
      poured.2 ∙ ap (after_fetches (c.args.second.now ∷ [])) fetched.1,
      was_read poured.0 c.kept.result (c.kept.ensures.exact Two poured.0 taken) (c.kept.ensures.law Two poured.0 taken),
    )
