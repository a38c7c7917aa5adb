use Rattle.std.proofs.Common.{List, [], ℕ, Option, subst}
use Rattle.std.specs.Prelude.{IfSome}
use Rattle.group_plan.specs.Plans.{PlanView}
use Rattle.transcript_text.specs.Feeds.{FeedView, IsFeedOf}
use Rattle.transcript_feed.specs.declared.body.Body.{Body}
use Rattle.transcript_feed.proofs.FeedLemmas.{begun}
use Rattle.transcript_feed.proofs.feed.begin.Goals as goal

pub returns-in-Some : goal.returns-in-Some
returns-in-Some g c =
    let has = g.S.EntrySink.has in
    let version = c.args.version in
    let feed = c.in-Some.feed in
    let sink = c.in_ok-sink-in-Some.sink in
    let found = subst (λ (o : Option FeedView). IfSome o (IsFeedOf version c.deref.result.now)) c.in-Some.is c.in_ok-feed.ensures in
    let fed = subst (λ (t : List ℕ). IsFeedOf version t feed) c.deref.ensures.value found in
    let body : Body g.row.R.Denot g.row.S.Denot = record { feed = feed; sink = sink; read = c.new.result } in
    let is = begun has version c.args.bytes.items body fed (subst (λ (p : PlanView). has sink p []) c.plan.ensures c.in_ok-sink-in-Some.ensures) c.new.ensures.items in
    c.new-in-Some.ensures version c.args.bytes.items is
