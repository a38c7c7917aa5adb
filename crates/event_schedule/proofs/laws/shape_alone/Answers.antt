use Rattle.std.proofs.Common.{ap}
use Rattle.event_schedule.specs.Schedule.{is_effective, verdict, survivors, answered, is_opened, is_published}
use Rattle.event_schedule.proofs.TranscriptLemmas.{shape-same}
use Rattle.event_schedule.proofs.laws.shape_alone.Goals as goal

pub returns : goal.returns
returns c = λ groups x y same past.
    let e = shape-same groups x y same in
    record {
      effects = λ event. ap (λ s. is_effective s event past) e;
      verdicts = λ tag. ap (λ s. verdict s tag.kind tag.group tag.round tag.meter past) e;
      survivors = λ g r. ap (λ s. survivors s g r past) e;
      answered = λ g r. ap (λ s. answered s g r past) e;
      opened = λ g r. ap (λ s. is_opened s g r past) e;
      published = λ g r. ap (λ s. is_published s g r past) e;
    }
