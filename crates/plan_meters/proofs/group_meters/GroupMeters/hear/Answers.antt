use Rattle.std.proofs.Common.{ℕ, List, sym, subst, ◌∙◌, arith}
use Rattle.meter_core.specs.Meters.{Hears}
use Rattle.event_schedule.specs.Schedule.{shape_of_presence}
use Rattle.plan_meters.proofs.MeterLemmas.{told-answers}
use Rattle.plan_meters.proofs.MetersLemmas.{own-meter, own-meter-at, heard-own, heard-own_now, heard-own_still}
use Rattle.plan_meters.proofs.group_meters.GroupMeters.hear.Goals as goal

pub index_mut-meter-requires : goal.index_mut-meter-requires
index_mut-meter-requires c =
    let told = c.requires.told (sym c.is_announcement.ensures ∙ c.if-not-is_announcement.false) in
    omega (arith, own-meter c.requires.presence c.requires.past c.requires.until c.args.self.now.meters.items c.args.frame.now c.requires.are told)

pub returns-clause-meters : goal.returns-clause-meters
returns-clause-meters c = λ p past t are told_of.
    let f = c.args.frame.now in
    let told = told_of (sym c.is_announcement.ensures ∙ c.if-not-is_announcement.false) in
    let hears = subst (λ (set : List ℕ). Hears c.index_mut-meter.result.now f.tag.round set c.hear.result c.hear.new.self) told.set c.hear.ensures in
    heard-own p past t f.tag.group f.tag.meter f.tag.round c.args.self.now.meters.items c.index_mut-meter.result.now c.hear.new.self c.hear.result are
    (own-meter p past t c.args.self.now.meters.items f are told) c.index_mut-meter.ensures.value told.taken hears

pub returns-clause-answered : goal.returns-clause-answered
returns-clause-answered c =
    let p = c.requires.presence in
    let past = c.requires.past in
    let u = c.requires.until in
    let f = c.args.frame.now in
    let is = sym c.is_announcement.ensures ∙ c.if-not-is_announcement.false in
    let told = c.requires.told is in
    let hears = subst (λ (set : List ℕ). Hears c.index_mut-meter.result.now f.tag.round set c.hear.result c.hear.new.self) told.set c.hear.ensures in
    let meter = own-meter-at p past u f.tag.group f.tag.meter c.args.self.now.meters.items c.index_mut-meter.result.now c.requires.are
    (own-meter p past u c.args.self.now.meters.items f c.requires.are told) c.index_mut-meter.ensures.value in
    c.is_answer.ensures
    ∙ told-answers (shape_of_presence p) p.plan.rounds u past f.tag.group f.tag.round f.tag.meter c.index_mut-meter.result.now c.hear.new.self c.hear.result meter told.round told.early told.taken hears
    ∙ sym is

pub returns-clause-heard : goal.returns-clause-heard
returns-clause-heard c = λ is.
    let f = c.args.frame.now in
    let told = c.requires.told is in
    heard-own_now c.args.self.now.meters.items f c.index_mut-meter.result.now c.hear.new.self c.hear.result
    (own-meter c.requires.presence c.requires.past c.requires.until c.args.self.now.meters.items f c.requires.are told) c.hear.ensures (sym c.is_answer.ensures ∙ returns-clause-answered c ∙ is)

pub returns-clause-kept : goal.returns-clause-kept
returns-clause-kept c = λ other kept.
    let f = c.args.frame.now in
    let told = c.requires.told (sym c.is_announcement.ensures ∙ c.if-not-is_announcement.false) in
    heard-own_still c.args.self.now.meters.items f other c.index_mut-meter.result.now c.hear.new.self c.hear.result
    (own-meter c.requires.presence c.requires.past c.requires.until c.args.self.now.meters.items f c.requires.are told) c.index_mut-meter.ensures.value c.hear.ensures kept
