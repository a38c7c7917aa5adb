use Rattle.std.proofs.Common.{◌∙◌, ap, sym, subst, Some}
use Rattle.plan_files.specs.PlanFiles.{plan_of}
use Rattle.command_words.specs.Known.{AreSetsOf, GivesSets, known_in}
use Rattle.command_texts.proofs.twin.words_moved.Goals as goal

pub returns-clause-ends : goal.returns-clause-ends
returns-clause-ends g c = λ tb read.
    let known = known_in c.args.known.now in
    let sets : GivesSets c.in-Ok.value.plan known (Some c.in-Ok-Some.sets) = subst (GivesSets c.in-Ok.value.plan known) c.in-Ok-Some.field-0-is c.in-Ok-Some.ensures in
    c.compare_tables.ensures.ends tb known read
    (record {
      plan = ap plan_of (sym c.deref.ensures.value) ∙ c.in-Ok.ensures.value;
      within = sets.0;
      sets_are = subst (AreSetsOf known) (sym c.deref-2.ensures.value) sets.1;
    })
