use Rattle.std.proofs.Common.{◌≡◌, length, sym, ◌∙◌, rules}
use denote.Ref.{NamedLft}
use denote.Param.Send.{sendable}
use Rattle.std.proofs.Crossing.{crosses}
use Rattle.std.specs.Prelude.{slice_index_or}
use Rattle.tick_run.proofs.ByGroupsLemmas.{all-tick, stand-can, changed}
use Rattle.tick_run.proofs.Crossings.{group_send, book_sync, context_sync}
use Rattle.tick_run.proofs.by_groups.tick_all.Goals as goal

pub for_each_mut-requires-send-T : goal.for_each_mut-requires-send-T
for_each_mut-requires-send-T g c κs within = search (sendable, crosses, group_send) depth 60

pub for_each_mut-requires-sync-F : goal.for_each_mut-requires-sync-F
for_each_mut-requires-sync-F g c κs within =
    let here = λ (κ : NamedLft). context_sync κ _ _ _ c.type_bounds.sync-R c.type_bounds.sync-M c.type_bounds.sync-G in
    search (sendable, crosses, book_sync, here) depth 60

pub for_each_mut-requires-clause-accepts : goal.for_each_mut-requires-clause-accepts
for_each_mut-requires-clause-accepts g c κs within = λ i p lt is.
    let context = c.args.context.now in (
      c.requires.context,
      (
        c.requires.presence,
        (
          stand-can c.args.shared.now context.known.readings.now (g.M.Masks.table context.known.masks.now) c.args.tick c.requires.can.entries c.args.groups.now i p.now is lt c.requires.can.stand,
          c.requires.tick,
        ),
      ),
    )

pub returns : goal.returns
returns g c = λ entries stand.
    let readings = c.args.context.now.known.readings.now in
    let m = g.M.Masks.table c.args.context.now.known.masks.now in
    let t = c.args.tick in
    let works = c.args.groups.now in
    let after = c.for_each_mut.new.s in
    let long : length after ≡ length works = search rules in
    all-tick c.args.shared.now readings m t 0 (length readings.plan.groups) entries works after long stand
    (λ k d lt es h at none.
    let change = (c.for_each_mut.ensures k d lt).1 in
    changed c.args.shared.now readings m t (slice_index_or works k d) change.argument.now (slice_index_or after k d) change.after_call.now change.argument_is change.left change.call es h at none)
    (sym c.any_failed.ensures ∙ c.if-any_failed.false)
