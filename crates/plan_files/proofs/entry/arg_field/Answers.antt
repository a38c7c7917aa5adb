use Rattle.std.proofs.Common.{◌∙◌, List, ℕ, ap, sym, subst, take_all}
use Rattle.plan_files.specs.Faults.{Ends}
use Rattle.plan_files.specs.KeptRows.{fields_in}
use Rattle.plan_files.proofs.KeptLemmas.{same_arg}
use Rattle.plan_files.proofs.entry.arg_field.Goals as goal

pub returns-then-not-is_quoted : goal.returns-then-not-is_quoted
returns-then-not-is_quoted c =
    let fields = fields_in c.args.row.now in
    let text = ap (λ (f : List ℕ × List ℕ). f.0) (sym c.plain_end.ensures.field) ∙ c.requires.kept.third c.requires.long in
    subst (λ v. Ends v c.arg_of.result) (same_arg fields _ text) c.arg_of.ensures

pub returns : goal.returns
returns c =
    let fields = fields_in c.args.row.now in
    let read = c.in_ok-read_quoted.ensures in
    let text = c.deref.ensures.value ∙ read.cut ∙ take_all _ read.text read.short ∙ ap (λ (f : List ℕ × List ℕ). f.0) (sym read.field) ∙ c.requires.kept.third c.requires.long in
    subst (λ v. Ends v c.arg_of-2.result) (same_arg fields _ text) c.arg_of-2.ensures
