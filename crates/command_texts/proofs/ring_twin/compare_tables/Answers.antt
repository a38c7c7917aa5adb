use Rattle.std.proofs.Common.{ap, sym, subst, ◌∙◌}
use Rattle.group_plan.specs.Plans.{PlanView}
use Rattle.ideal_masks.specs.Order.{AreOfPlan}
use Rattle.mask_stream.specs.KeyStreams.{streams}
use Rattle.pair_keys.specs.Keys.{table_of}
use Rattle.plan_files.specs.PlanFiles.{view_of}
use Rattle.sparse_masks.specs.Neighbours.{ring}
use Rattle.command_texts.specs.Twins.{TwinValues}
use Rattle.command_texts.proofs.RingTwinLemmas.{ring_compared, ring_disagreed, ring_unrecorded}
use Rattle.command_texts.proofs.ring_twin.compare_tables.Goals as goal

pub returns-in-Err-clause-ends : goal.returns-in-Err-clause-ends
returns-in-Err-clause-ends g c tb read names bytes named text_is are =
    let v : TwinValues = record { file = view_of c.args.file.now; first = c.args.tables.now.first; second = c.args.tables.now.second } in
    c.world_refusal.ensures.ring c.args.width names bytes named
    (ring_unrecorded c.args.width bytes v _ tb c.in-Err.error
    (record {
      are = are;
      words = c.new-masks.ensures.words
          ∙ ap (ring c.args.width c.args.file.now.plan.groups) c.new-words.ensures.words
          ∙ ap (λ (plan : PlanView). ring c.args.width plan.groups (streams (table_of c.args.file.now.keys))) (sym c.requires.first);
      text_is = text_is;
    })
    (c.in-Err.ensures.ends tb read))

pub ring_offsets-requires-clause-first : goal.ring_offsets-requires-clause-first
ring_offsets-requires-clause-first g c = sym c.in-Ok.ensures.plan

pub ring_offsets-requires-clause-second : goal.ring_offsets-requires-clause-second
ring_offsets-requires-clause-second g c = c.requires.second ∙ sym c.requires.first ∙ sym c.in-Ok.ensures.plan

pub returns-in-Err-ring_offsets-clause-ends : goal.returns-in-Err-ring_offsets-clause-ends
returns-in-Err-ring_offsets-clause-ends g c tb read names bytes named text_is are =
    let v : TwinValues = record { file = view_of c.args.file.now; first = c.args.tables.now.first; second = c.args.tables.now.second } in
    ring_disagreed c.args.width names bytes v _ tb c.in-Ok.recorded c.in-Err-ring_offsets.cause _
    (record {
      are = are;
      words = c.new-masks.ensures.words
          ∙ ap (ring c.args.width c.args.file.now.plan.groups) c.new-words.ensures.words
          ∙ ap (λ (plan : PlanView). ring c.args.width plan.groups (streams (table_of c.args.file.now.keys))) (sym c.requires.first);
      text_is = text_is;
    })
    (c.in-Ok.ensures.ends tb read) c.in-Err-ring_offsets.ensures.ends c.in-Err-ring_offsets.ensures.converse c.disagreement.ensures.ends

pub moved_rows-requires-clause-places : goal.moved_rows-requires-clause-places
moved_rows-requires-clause-places g c =
    subst (λ (plan : PlanView). AreOfPlan plan c.in-Ok-ring_offsets.offsets)
    (c.requires.first ∙ sym c.requires.keys ∙ sym c.new-words.ensures.plan ∙ sym c.new-masks.ensures.plan) c.in-Ok-ring_offsets.ensures.places

pub returns-in-Ok-moved_rows-clause-ends : goal.returns-in-Ok-moved_rows-clause-ends
returns-in-Ok-moved_rows-clause-ends g c tb read names bytes named text_is are =
    let v : TwinValues = record { file = view_of c.args.file.now; first = c.args.tables.now.first; second = c.args.tables.now.second } in
    ring_compared c.args.width bytes v _ _ tb c.in-Ok.recorded c.in-Ok-ring_offsets.offsets c.in-Ok-moved_rows.moved
    (record {
      are = are;
      words = c.new-masks.ensures.words
          ∙ ap (ring c.args.width c.args.file.now.plan.groups) c.new-words.ensures.words
          ∙ ap (λ (plan : PlanView). ring c.args.width plan.groups (streams (table_of c.args.file.now.keys))) (sym c.requires.first);
      text_is = text_is;
    })
    (c.requires.second ∙ sym c.requires.first) (c.new-masks.ensures.plan ∙ c.new-words.ensures.plan ∙ c.requires.keys ∙ sym c.requires.first) (c.in-Ok.ensures.ends tb read)
    c.in-Ok-ring_offsets.ensures.ends c.in-Ok-ring_offsets.ensures.two_worlds c.in-Ok-moved_rows.ensures.moved
