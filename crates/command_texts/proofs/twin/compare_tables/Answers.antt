use Rattle.std.proofs.Common.{ℕ, List, [], refl, sym, ◌∙◌, Ok, Err}
use Rattle.plan_files.specs.PlanFiles.{view_of}
use Rattle.command_words.specs.Commands.{twin_names_of}
use Rattle.command_texts.specs.TwinTexts.{bytes_with}
use Rattle.command_texts.proofs.RunLemmas.{plan_of_readings}
use Rattle.command_texts.proofs.TwinLemmas.{tables_refused_for, pooled_compared}
use Rattle.command_texts.proofs.twin.compare_tables.Goals as goal

pub returns-in-Err-clause-ends : goal.returns-in-Err-clause-ends
returns-in-Err-clause-ends g c tb known read is =
    tables_refused_for known (twin_names_of c.args.files) (bytes_with c.args.texts.now tb) (view_of c.args.file.now) c.args.sets.now _ is (c.in-Err.ensures.ends tb)

pub pooled_twin_of_read-requires-clause-keys : goal.pooled_twin_of_read-requires-clause-keys
pooled_twin_of_read-requires-clause-keys g c κs within = c.requires.keys ∙ sym (plan_of_readings _ _ _ (c.in-Ok.ensures.ends []).0)

pub pooled_twin_of_read-requires-clause-second : goal.pooled_twin_of_read-requires-clause-second
pooled_twin_of_read-requires-clause-second g c κs within = plan_of_readings _ _ _ (c.in-Ok.ensures.ends []).1 ∙ sym (plan_of_readings _ _ _ (c.in-Ok.ensures.ends []).0)

pub returns-in-Ok-pooled_twin_of_read-clause-ends : goal.returns-in-Ok-pooled_twin_of_read-clause-ends
returns-in-Ok-pooled_twin_of_read-clause-ends g c tb known read is =
    pooled_compared known (bytes_with c.args.texts.now tb) (view_of c.args.file.now) c.args.sets.now _ _ (Ok c.in-Ok-pooled_twin_of_read.moved) is (c.in-Ok.ensures.ends tb).0
    (c.in-Ok.ensures.ends tb).1 (c.in-Ok-pooled_twin_of_read.ensures tb read)

pub returns-clause-ends : goal.returns-clause-ends
returns-clause-ends g c tb known read is =
    c.refusal.ensures.ends known (twin_names_of c.args.files) (bytes_with c.args.texts.now tb) refl
    (pooled_compared known (bytes_with c.args.texts.now tb) (view_of c.args.file.now) c.args.sets.now _ _ (Err c.in-Err-pooled_twin_of_read.error) is (c.in-Ok.ensures.ends tb).0
    (c.in-Ok.ensures.ends tb).1 (c.in-Err-pooled_twin_of_read.ensures tb read))
