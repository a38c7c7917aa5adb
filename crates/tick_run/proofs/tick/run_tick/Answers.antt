use Rattle.std.proofs.Common.{◌≡◌, List, length, sym, ap, subst, ◌∙◌, arith}
use Rattle.std.specs.Prelude.{ℕ, All}
use Rattle.std.specs.List.{AllZip}
use Rattle.std.specs.Vec.{with_items}
use Rattle.std.proofs.lemmas.List.{with_items_is}
use Rattle.tick_run.specs.ByGroups.{AllStand, AllMade, Fated, IsButFates, frames_by, fates_by}
use Rattle.shared_book.specs.declared.parts.SharedBook.{SharedBook}
use Rattle.shared_book.specs.declared.parts.Pass.{Pass}
use Rattle.tick_run.specs.Progress.{IsDelay}
use Rattle.tick_run.specs.Whole.{IsShared}
use Rattle.tick_run.proofs.ByGroupsLemmas.{ticks-of}
use Rattle.tick_run.proofs.JournalLemmas.{on_ok, made-later, all-lines, whole-script, whole-lines}
use Rattle.tick_run.proofs.PassLemmas.{fates-long}
use Rattle.tick_run.proofs.SendingLemmas.{keeps-retired}
use Rattle.tick_run.proofs.TickLemmas.{last-whole, ticks-fit, all-fit, run-ticked, fates-ticked, extends-whole}
use Rattle.tick_run.proofs.tick.run_tick.Goals as goal

pub tick_all-requires-clause-can : goal.tick_all-requires-clause-can
tick_all-requires-clause-can g c κs within = record {
  entries = c.args.run.now.transcript.entries;
  stand = subst (AllStand c.args.run.now.shared c.args.context.now.known.readings.now (g.M.Masks.table c.args.context.now.known.masks.now) c.args.tick c.args.run.now.transcript.entries) (sym c.deref_mut.ensures.value) c.requires.runs.stand;
}

pub pass_and_write-requires-clause-later : goal.pass_and_write-requires-clause-later
pass_and_write-requires-clause-later g c κs within = last-whole (length c.args.context.now.known.readings.now.plan.groups) c.args.tick c.args.run.now.transcript.entries c.requires.runs.whole

pub pass_and_write-requires-clause-fits : goal.pass_and_write-requires-clause-fits
pass_and_write-requires-clause-fits g c κs within =
    let readings = c.args.context.now.known.readings.now in
    let m = g.M.Masks.table c.args.context.now.known.masks.now in
    let t = c.args.tick in
    let script = c.args.run.now.transcript in
    let works = c.args.run.now.groups in
    let ticked = with_items works c.tick_all.new.groups in
    let ticked_are : ticked.items ≡ c.tick_all.new.groups = with_items_is works c.tick_all.new.groups (omega (arith, c.tick_all.auto.groups, c.deref_mut.ensures.len)) in
    let book = c.args.run.now.shared in
    let stand = subst (AllStand book readings m t script.entries) (sym c.deref_mut.ensures.value) c.requires.runs.stand in
    let made = subst (AllMade book readings m t script.entries) (sym ticked_are) (c.in_ok-tick_all.ensures script.entries stand) in
    ticks-fit readings m t script.entries script.plan ticked.items (ticks-of book readings m t script.entries ticked.items made) c.requires.runs.plan

pub give_all_fates-requires-clause-long : goal.give_all_fates-requires-clause-long
give_all_fates-requires-clause-long g c =
    let to_give : c.deref_mut-2.result.now ≡ (with_items c.args.run.now.groups c.tick_all.new.groups).items = c.deref_mut-2.ensures.value ∙ ap (λ v. v.items) c.pass_and_write.ensures.groups in
    ap length c.deref-2.ensures.value ∙ fates-long c.args.tick _ _ _ _ _ _ c.in_ok-pass_and_write.ensures.passes ∙ sym (ap (λ ws. length (frames_by ws)) to_give)

pub give_all_fates-requires-clause-delays : goal.give_all_fates-requires-clause-delays
give_all_fates-requires-clause-delays g c = subst (λ (es : List (List ℕ)). All (All IsDelay) es) (sym c.deref-2.ensures.value) c.in_ok-pass_and_write.ensures.passes.delays

pub stamp_all-requires-clause-later : goal.stamp_all-requires-clause-later
stamp_all-requires-clause-later g c =
    let works = (with_items c.args.run.now.groups c.tick_all.new.groups).items in
    made-later c.args.tick c.args.run.now.transcript c.pass_and_write.new.run.transcript works c.deref-3.result.now c.in_ok-pass_and_write.ensures.transcript
    (last-whole (length c.args.context.now.known.readings.now.plan.groups) c.args.tick c.args.run.now.transcript.entries c.requires.runs.whole)

pub stamp_all-requires-clause-fits : goal.stamp_all-requires-clause-fits
stamp_all-requires-clause-fits g c =
    let readings = c.args.context.now.known.readings.now in
    let m = g.M.Masks.table c.args.context.now.known.masks.now in
    let t = c.args.tick in
    let script = c.args.run.now.transcript in
    let works = c.args.run.now.groups in
    let ticked = with_items works c.tick_all.new.groups in
    let ticked_are : ticked.items ≡ c.tick_all.new.groups = with_items_is works c.tick_all.new.groups (omega (arith, c.tick_all.auto.groups, c.deref_mut.ensures.len)) in
    let book = c.args.run.now.shared in
    let stand = subst (AllStand book readings m t script.entries) (sym c.deref_mut.ensures.value) c.requires.runs.stand in
    let made = subst (AllMade book readings m t script.entries) (sym ticked_are) (c.in_ok-tick_all.ensures script.entries stand) in
    let before = ticked.items in
    let after = c.deref-3.result.now in
    let mid = c.pass_and_write.new.run in
    let to_give : c.deref_mut-2.result.now ≡ before = c.deref_mut-2.ensures.value ∙ ap (λ v. v.items) c.pass_and_write.ensures.groups in
    let given : after ≡ c.give_all_fates.new.groups = c.deref-3.ensures.value ∙ with_items_is mid.groups c.give_all_fates.new.groups (omega (arith, c.give_all_fates.auto.groups, c.deref_mut-2.ensures.len)) in
    let same = subst (λ ws. AllZip IsButFates ws after) to_give (subst (AllZip IsButFates c.deref_mut-2.result.now) (sym given) c.in_ok-give_all_fates.ensures.same) in
    let fated = subst (All Fated) (sym given) c.in_ok-give_all_fates.ensures.fated in
    let written = c.in_ok-pass_and_write.ensures.transcript in
    all-fit book readings m t script before after made same fated mid.transcript.plan (ap (λ z. z.plan) written ∙ c.requires.runs.plan)

pub stamp_all-requires-clause-fated : goal.stamp_all-requires-clause-fated
stamp_all-requires-clause-fated g c =
    let mid = c.pass_and_write.new.run in
    let given : c.deref-3.result.now ≡ c.give_all_fates.new.groups = c.deref-3.ensures.value ∙ with_items_is mid.groups c.give_all_fates.new.groups (omega (arith, c.give_all_fates.auto.groups, c.deref_mut-2.ensures.len)) in
    subst (All Fated) (sym given) c.in_ok-give_all_fates.ensures.fated

pub stamp_all-requires-clause-lines : goal.stamp_all-requires-clause-lines
stamp_all-requires-clause-lines g c =
    let readings = c.args.context.now.known.readings.now in
    let m = g.M.Masks.table c.args.context.now.known.masks.now in
    let t = c.args.tick in
    let script = c.args.run.now.transcript in
    let works = c.args.run.now.groups in
    let ticked = with_items works c.tick_all.new.groups in
    let ticked_are : ticked.items ≡ c.tick_all.new.groups = with_items_is works c.tick_all.new.groups (omega (arith, c.tick_all.auto.groups, c.deref_mut.ensures.len)) in
    let book = c.args.run.now.shared in
    let stand = subst (AllStand book readings m t script.entries) (sym c.deref_mut.ensures.value) c.requires.runs.stand in
    let made = subst (AllMade book readings m t script.entries) (sym ticked_are) (c.in_ok-tick_all.ensures script.entries stand) in
    let before = ticked.items in
    let after = c.deref-3.result.now in
    let mid = c.pass_and_write.new.run in
    let to_give : c.deref_mut-2.result.now ≡ before = c.deref_mut-2.ensures.value ∙ ap (λ v. v.items) c.pass_and_write.ensures.groups in
    let given : after ≡ c.give_all_fates.new.groups = c.deref-3.ensures.value ∙ with_items_is mid.groups c.give_all_fates.new.groups (omega (arith, c.give_all_fates.auto.groups, c.deref_mut-2.ensures.len)) in
    let same = subst (λ ws. AllZip IsButFates ws after) to_give (subst (AllZip IsButFates c.deref_mut-2.result.now) (sym given) c.in_ok-give_all_fates.ensures.same) in
    let fated = subst (All Fated) (sym given) c.in_ok-give_all_fates.ensures.fated in
    let written = c.in_ok-pass_and_write.ensures.transcript in
    let fits = all-fit book readings m t script before after made same fated mid.transcript.plan (ap (λ z. z.plan) written ∙ c.requires.runs.plan) in
    all-lines t script mid.transcript before after written mid.journal.items c.in_ok-pass_and_write.ensures.journal same fits fated

pub returns-clause-runs : goal.returns-clause-runs
returns-clause-runs g c =
    let readings = c.args.context.now.known.readings.now in
    let m = g.M.Masks.table c.args.context.now.known.masks.now in
    let t = c.args.tick in
    let script = c.args.run.now.transcript in
    let works = c.args.run.now.groups in
    let ticked = with_items works c.tick_all.new.groups in
    let ticked_are : ticked.items ≡ c.tick_all.new.groups = with_items_is works c.tick_all.new.groups (omega (arith, c.tick_all.auto.groups, c.deref_mut.ensures.len)) in
    let book = c.args.run.now.shared in
    let stand = subst (AllStand book readings m t script.entries) (sym c.deref_mut.ensures.value) c.requires.runs.stand in
    let made = subst (AllMade book readings m t script.entries) (sym ticked_are) (c.in_ok-tick_all.ensures script.entries stand) in
    let before = ticked.items in
    let after = c.deref-3.result.now in
    let mid = c.pass_and_write.new.run in
    let to_give : c.deref_mut-2.result.now ≡ before = c.deref_mut-2.ensures.value ∙ ap (λ v. v.items) c.pass_and_write.ensures.groups in
    let given : after ≡ c.give_all_fates.new.groups = c.deref-3.ensures.value ∙ with_items_is mid.groups c.give_all_fates.new.groups (omega (arith, c.give_all_fates.auto.groups, c.deref_mut-2.ensures.len)) in
    let same = subst (λ ws. AllZip IsButFates ws after) to_give (subst (AllZip IsButFates c.deref_mut-2.result.now) (sym given) c.in_ok-give_all_fates.ensures.same) in
    let fated = subst (All Fated) (sym given) c.in_ok-give_all_fates.ensures.fated in
    let written = c.in_ok-pass_and_write.ensures.transcript in
    let fits = all-fit book readings m t script before after made same fated mid.transcript.plan (ap (λ z. z.plan) written ∙ c.requires.runs.plan) in
    let lines = all-lines t script mid.transcript before after written mid.journal.items c.in_ok-pass_and_write.ensures.journal same fits fated in
    on_ok c.stamp_all.result
    (λ stamped.
    let done = c.stamp_all.new.transcript in
    run-ticked book readings m t script before after made same fated _ c.pass_and_write.ensures.shared.0
    (subst (λ (x : SharedBook × Pass). IsShared readings x.0 x.1) (λ i. (sym c.pass_and_write.ensures.shared.0 i, sym c.pass_and_write.ensures.shared.1 i)) c.requires.runs.shared) c.requires.runs.plan c.requires.runs.whole (sym c.deref-3.ensures.value)
    (whole-script t script mid.transcript before after written done stamped same) (whole-lines t script mid.transcript before after written done stamped mid.journal.items lines))
    c.stamp_all.ensures

pub returns-clause-fates : goal.returns-clause-fates
returns-clause-fates g c = λ hung kept.
    let readings = c.args.context.now.known.readings.now in
    let m = g.M.Masks.table c.args.context.now.known.masks.now in
    let t = c.args.tick in
    let script = c.args.run.now.transcript in
    let works = c.args.run.now.groups in
    let ticked = with_items works c.tick_all.new.groups in
    let ticked_are : ticked.items ≡ c.tick_all.new.groups = with_items_is works c.tick_all.new.groups (omega (arith, c.tick_all.auto.groups, c.deref_mut.ensures.len)) in
    let book = c.args.run.now.shared in
    let stand = subst (AllStand book readings m t script.entries) (sym c.deref_mut.ensures.value) c.requires.runs.stand in
    let made = subst (AllMade book readings m t script.entries) (sym ticked_are) (c.in_ok-tick_all.ensures script.entries stand) in
    let before = ticked.items in
    let after = c.deref-3.result.now in
    let mid = c.pass_and_write.new.run in
    let to_give : c.deref_mut-2.result.now ≡ before = c.deref_mut-2.ensures.value ∙ ap (λ v. v.items) c.pass_and_write.ensures.groups in
    let given : after ≡ c.give_all_fates.new.groups = c.deref-3.ensures.value ∙ with_items_is mid.groups c.give_all_fates.new.groups (omega (arith, c.give_all_fates.auto.groups, c.deref_mut-2.ensures.len)) in
    let same = subst (λ ws. AllZip IsButFates ws after) to_give (subst (AllZip IsButFates c.deref_mut-2.result.now) (sym given) c.in_ok-give_all_fates.ensures.same) in
    let fated = subst (All Fated) (sym given) c.in_ok-give_all_fates.ensures.fated in
    let written = c.in_ok-pass_and_write.ensures.transcript in
    let fates : fates_by after ≡ mid.fates.items = ap fates_by given ∙ c.in_ok-give_all_fates.ensures.fates ∙ c.deref-2.ensures.value in
    let keeps = keeps-retired hung t script.entries _ _ _ _ kept (c.reserve_posts.ensures.lanes ∙ c.retire.ensures.lanes) (c.reserve_posts.ensures.posts_same ∙ c.retire.ensures.posts) in
    on_ok c.stamp_all.result
    (λ stamped.
    fates-ticked book readings m t script before after made same fated mid.fates.items c.stamp_all.new.transcript hung _ _ _ _ fates (whole-script t script mid.transcript before after written c.stamp_all.new.transcript stamped same) keeps c.in_ok-pass_and_write.ensures.passes)
    c.stamp_all.ensures

pub returns-clause-grows : goal.returns-clause-grows
returns-clause-grows g c =
    let readings = c.args.context.now.known.readings.now in
    let m = g.M.Masks.table c.args.context.now.known.masks.now in
    let t = c.args.tick in
    let script = c.args.run.now.transcript in
    let works = c.args.run.now.groups in
    let ticked = with_items works c.tick_all.new.groups in
    let ticked_are : ticked.items ≡ c.tick_all.new.groups = with_items_is works c.tick_all.new.groups (omega (arith, c.tick_all.auto.groups, c.deref_mut.ensures.len)) in
    let book = c.args.run.now.shared in
    let stand = subst (AllStand book readings m t script.entries) (sym c.deref_mut.ensures.value) c.requires.runs.stand in
    let made = subst (AllMade book readings m t script.entries) (sym ticked_are) (c.in_ok-tick_all.ensures script.entries stand) in
    let before = ticked.items in
    let after = c.deref-3.result.now in
    let mid = c.pass_and_write.new.run in
    let to_give : c.deref_mut-2.result.now ≡ before = c.deref_mut-2.ensures.value ∙ ap (λ v. v.items) c.pass_and_write.ensures.groups in
    let given : after ≡ c.give_all_fates.new.groups = c.deref-3.ensures.value ∙ with_items_is mid.groups c.give_all_fates.new.groups (omega (arith, c.give_all_fates.auto.groups, c.deref_mut-2.ensures.len)) in
    let same = subst (λ ws. AllZip IsButFates ws after) to_give (subst (AllZip IsButFates c.deref_mut-2.result.now) (sym given) c.in_ok-give_all_fates.ensures.same) in
    let fated = subst (All Fated) (sym given) c.in_ok-give_all_fates.ensures.fated in
    let written = c.in_ok-pass_and_write.ensures.transcript in
    on_ok c.stamp_all.result
    (λ stamped.
    let done = c.stamp_all.new.transcript in
    extends-whole t script done after (whole-script t script mid.transcript before after written done stamped same))
    c.stamp_all.ensures
