use Rattle.std.proofs.Common.{◌≡◌, ◌<◌, ℕ, length, sym, ap, subst, ◌∙◌}
use Rattle.std.specs.Prelude.{Some}
use Rattle.group_plan.specs.Tables.{PresenceView}
use Rattle.shared_book.specs.Ends.{opening, view}
use Rattle.shared_book.specs.Passes.{ChecksOut, IsUnchanged}
use Rattle.tick_run.specs.GroupRuns.{GroupTicks}
use Rattle.tick_run.proofs.CheckLemmas.{group-out, stands-in, own-in, turns-in}
use Rattle.tick_run.proofs.by_groups.tick_shared.Goals as goal

pub check_out_own-pages-requires-clause-group : goal.check_out_own-pages-requires-clause-group
check_out_own-pages-requires-clause-group g c =
    let at = c.requires.can.at in
    subst (λ (n : ℕ). n < length (opening c.args.shared.now).presence.plan.groups) (sym at.number)
    (subst (λ (p : PresenceView). c.requires.can.group < length p.plan.groups) (sym c.requires.presence) at.stands.inside)

pub group_tick-requires-clause-can : goal.group_tick-requires-clause-can
group_tick-requires-clause-can g c =
    let book = c.args.shared.now in
    let readings = c.args.known.now.readings.now in
    let m = g.M.Masks.table c.args.known.now.masks.now in
    let t = c.args.tick in
    let before = c.args.group.now in
    let out = c.check_out_own-pages.new.pass in
    let pages = c.check_out_own-pages.result.0 in
    let es = c.requires.can.entries in
    let h = c.requires.can.group in
    let at = c.requires.can.at in
    let checks = subst (λ (k : ℕ). ChecksOut (opening book) (view before.pass) k pages (view out)) at.number c.check_out_own-pages.ensures.ends in
    let own = subst (λ (k : ℕ). IsUnchanged (opening book) (view before.pass) k (view out)) at.number (c.check_out_own-pages.ensures.own c.if-not-own.false) in
    record { entries = es; stands = group-out book readings m t h es before out pages c.requires.presence at c.check_out_own-pages.ensures.pass own checks }

pub check_in-requires-clause-held : goal.check_in-requires-clause-held
check_in-requires-clause-held g c =
    let book = c.args.shared.now in
    let readings = c.args.known.now.readings.now in
    let m = g.M.Masks.table c.args.known.now.masks.now in
    let t = c.args.tick in
    let before = c.args.group.now in
    let out = c.check_out_own-pages.new.pass in
    let pages = c.check_out_own-pages.result.0 in
    let es = c.requires.can.entries in
    let h = c.requires.can.group in
    let at = c.requires.can.at in
    let checks = subst (λ (k : ℕ). ChecksOut (opening book) (view before.pass) k pages (view out)) at.number c.check_out_own-pages.ensures.ends in
    let own = subst (λ (k : ℕ). IsUnchanged (opening book) (view before.pass) k (view out)) at.number (c.check_out_own-pages.ensures.own c.if-not-own.false) in
    let kept = c.group_tick.new.pages in
    let work = c.group_tick.new.work in
    let stood = group-out book readings m t h es before out pages c.requires.presence at c.check_out_own-pages.ensures.pass own checks in
    let tick = subst (λ (k : ℕ). GroupTicks readings m t es k kept work) checks.stands.group (c.in_ok-group_tick.ensures es stood) in
    checks.held ∙ ap Some (sym tick.group)

pub check_in-requires-clause-own : goal.check_in-requires-clause-own
check_in-requires-clause-own g c =
    let book = c.args.shared.now in
    let readings = c.args.known.now.readings.now in
    let m = g.M.Masks.table c.args.known.now.masks.now in
    let t = c.args.tick in
    let before = c.args.group.now in
    let out = c.check_out_own-pages.new.pass in
    let pages = c.check_out_own-pages.result.0 in
    let es = c.requires.can.entries in
    let h = c.requires.can.group in
    let at = c.requires.can.at in
    let checks = subst (λ (k : ℕ). ChecksOut (opening book) (view before.pass) k pages (view out)) at.number c.check_out_own-pages.ensures.ends in
    let own = subst (λ (k : ℕ). IsUnchanged (opening book) (view before.pass) k (view out)) at.number (c.check_out_own-pages.ensures.own c.if-not-own.false) in
    let kept = c.group_tick.new.pages in
    let work = c.group_tick.new.work in
    let stood = group-out book readings m t h es before out pages c.requires.presence at c.check_out_own-pages.ensures.pass own checks in
    let tick = subst (λ (k : ℕ). GroupTicks readings m t es k kept work) checks.stands.group (c.in_ok-group_tick.ensures es stood) in
    own-in book readings m t h es before out pages c.requires.presence at c.check_out_own-pages.ensures.pass own checks kept work tick

pub check_in-requires-clause-pages : goal.check_in-requires-clause-pages
check_in-requires-clause-pages g c =
    let book = c.args.shared.now in
    let readings = c.args.known.now.readings.now in
    let m = g.M.Masks.table c.args.known.now.masks.now in
    let t = c.args.tick in
    let before = c.args.group.now in
    let out = c.check_out_own-pages.new.pass in
    let pages = c.check_out_own-pages.result.0 in
    let es = c.requires.can.entries in
    let h = c.requires.can.group in
    let at = c.requires.can.at in
    let checks = subst (λ (k : ℕ). ChecksOut (opening book) (view before.pass) k pages (view out)) at.number c.check_out_own-pages.ensures.ends in
    let own = subst (λ (k : ℕ). IsUnchanged (opening book) (view before.pass) k (view out)) at.number (c.check_out_own-pages.ensures.own c.if-not-own.false) in
    let kept = c.group_tick.new.pages in
    let work = c.group_tick.new.work in
    let stood = group-out book readings m t h es before out pages c.requires.presence at c.check_out_own-pages.ensures.pass own checks in
    let tick = subst (λ (k : ℕ). GroupTicks readings m t es k kept work) checks.stands.group (c.in_ok-group_tick.ensures es stood) in
    stands-in book readings m t h es before out pages c.requires.presence at c.check_out_own-pages.ensures.pass own checks kept work tick

pub returns : goal.returns
returns g c = λ es h at.
    let book = c.args.shared.now in
    let readings = c.args.known.now.readings.now in
    let m = g.M.Masks.table c.args.known.now.masks.now in
    let t = c.args.tick in
    let before = c.args.group.now in
    let out = c.check_out_own-pages.new.pass in
    let pages = c.check_out_own-pages.result.0 in
    let checks = subst (λ (k : ℕ). ChecksOut (opening book) (view before.pass) k pages (view out)) at.number c.check_out_own-pages.ensures.ends in
    let own = subst (λ (k : ℕ). IsUnchanged (opening book) (view before.pass) k (view out)) at.number (c.check_out_own-pages.ensures.own c.if-not-own.false) in
    let kept = c.group_tick.new.pages in
    let work = c.group_tick.new.work in
    let stood = group-out book readings m t h es before out pages c.requires.presence at c.check_out_own-pages.ensures.pass own checks in
    let tick = subst (λ (k : ℕ). GroupTicks readings m t es k kept work) checks.stands.group (c.in_ok-group_tick.ensures es stood) in
    record {
      kept = kept;
      number = at.number;
      ticks = tick;
      turns = turns-in book readings m t h es before out pages c.requires.presence at c.check_out_own-pages.ensures.pass own checks kept work tick c.check_in.new.pass c.check_in.ensures.pass c.check_in.ensures.ends;
    }
