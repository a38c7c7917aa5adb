use Rattle.std.proofs.Common.{ap, sym, refl, [], ◌∙◌}
use Rattle.plan_files.specs.PlanFiles.{plan_of, view_of}
use Rattle.command_words.specs.Commands.{twin_names_of}
use Rattle.command_texts.specs.TwinTexts.{bytes_with}
use Rattle.command_texts.proofs.RingTwinLemmas.{ring_tables_refused}
use Rattle.command_texts.proofs.RunLemmas.{plan_of_readings}
use Rattle.command_texts.proofs.ring_twin.ring_words_moved.Goals as goal

pub compare_tables-requires-clause-first : goal.compare_tables-requires-clause-first
compare_tables-requires-clause-first g c κs within = plan_of_readings _ _ _ (c.in-Ok-read_tables.ensures.ends []).0

pub compare_tables-requires-clause-second : goal.compare_tables-requires-clause-second
compare_tables-requires-clause-second g c κs within = plan_of_readings _ _ _ (c.in-Ok-read_tables.ensures.ends []).1

pub returns-in-Err-read_tables-clause-ends : goal.returns-in-Err-read_tables-clause-ends
returns-in-Err-read_tables-clause-ends g c = λ tb read.
    ring_tables_refused c.args.width (twin_names_of c.args.files) (bytes_with c.args.texts.now tb) (view_of c.in-Ok.value) _
    (ap plan_of (sym c.deref.ensures.value) ∙ c.in-Ok.ensures.value) (c.in-Err-read_tables.ensures.ends tb)

pub returns-clause-ends : goal.returns-clause-ends
returns-clause-ends g c = λ tb read.
    c.compare_tables.ensures.ends tb read (twin_names_of c.args.files) (bytes_with c.args.texts.now tb) refl refl
    (record {
      plan = ap plan_of (sym c.deref.ensures.value) ∙ c.in-Ok.ensures.value;
      first = (c.in-Ok-read_tables.ensures.ends tb).0;
      second = (c.in-Ok-read_tables.ensures.ends tb).1;
    })
