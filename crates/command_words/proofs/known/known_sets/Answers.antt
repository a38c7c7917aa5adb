use Rattle.std.proofs.Common.{◌||◌, sym, ap, ◌∙◌, refl}
use Rattle.field_texts.specs.Parts.{parts}
use Rattle.command_words.specs.Known.{is_known, are_in_plan, is_in_set}
use Rattle.command_words.proofs.KnownLemmas.{all-read, all-named, known-named, sets-long, sets-init}
use Rattle.command_words.proofs.known.known_sets.Goals as goal

pub loop-part-init : goal.loop-part-init
loop-part-init c =
    let word = c.args.word.now in
    let sets = c.in_ok-sets.sets.items in
    let named = known-named word c.requires (sym c.if-eq.ensures) in
    record {
      long = sets-long sets _ c.args.plan.now.groups c.groups.result.now c.in_ok-sets.ensures refl c.groups.ensures.groups;
      read = ap (λ t. all-read (parts 43 t)) c.as_bytes-rest.ensures.value ∙ named.0;
      sets = λ g i. ap (λ t. is_known (all-named (parts 43 t)) g i || is_in_set sets g i) c.as_bytes-rest.ensures.value ∙ sets-init word sets _ g i c.requires (sym c.if-eq.ensures) c.in_ok-sets.ensures;
      within = ap (λ t. are_in_plan c.args.plan.now (all-named (parts 43 t))) c.as_bytes-rest.ensures.value ∙ ap (are_in_plan c.args.plan.now) (sym named.1);
    }
