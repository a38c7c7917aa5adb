use Rattle.std.proofs.Common.{◌∙◌, sym}
use Rattle.plan_meters.proofs.HearerLemmas.{hearers-more, hearers-same}
use Rattle.plan_meters.proofs.group.add_heard.Goals as goal

pub returns-then-is_announcement : goal.returns-then-is_announcement
returns-then-is_announcement c = λ came are.
    hearers-more c.args.group c.args.round c.args.hearers.now c.with_meter.result c.args.frame.now (sym c.is_announcement.ensures ∙ c.if-is_announcement.true) c.with_meter.ensures came are

pub returns-else-is_announcement : goal.returns-else-is_announcement
returns-else-is_announcement c = hearers-same c.args.group c.args.round c.args.hearers.now c.args.frame.now (sym c.is_announcement.ensures ∙ c.if-is_announcement.false)
