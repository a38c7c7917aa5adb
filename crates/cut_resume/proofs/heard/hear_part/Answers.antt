use Rattle.std.proofs.Common.{ap, drop, subst}
use Rattle.event_schedule.specs.Transcripts.{TranscriptView}
use Rattle.cut_resume.specs.Heard.{AreAllFirst}
use Rattle.cut_resume.proofs.HeardLemmas.{more_first}
use Rattle.cut_resume.proofs.heard.hear_part.Goals as goal

pub returns : goal.returns
returns g c =
    more_first c.args.cut.now.entries c.args.run.now.entries c.args.heard c.first_same-more.result c.requires
    (subst (λ es. AreAllFirst (drop c.args.heard c.args.cut.now.entries) es c.first_same-more.result) (ap (λ (t : TranscriptView). t.entries) c.in_ok-part.ensures) c.first_same-more.ensures.same)
