use Rattle.std.proofs.Common.{◌≡◌, ◌∙◌, ap, length, ℕ, List, Bool}
use Rattle.std.specs.Prelude.{is_some}
use Rattle.missing_round.specs.Sets.{less}
use Rattle.missing_round.proofs.SetLemmas.{less-filter}
use Rattle.group_plan.specs.declared.Kind.TheVariants.{Reading}
use Rattle.group_plan.specs.Plans.{PlanView, members}
use Rattle.head_end.specs.declared.answers.TickLine.{TickLine}
use Rattle.head_end.specs.declared.answers.TickLine.TheVariants as said
use Rattle.head_end.specs.Journal.{is_taken}
use Rattle.head_end.proofs.LineLemmas.{announced_is_some}
use Rattle.head_end.proofs.head.HeadEnd.closing.Goals as goal

same_line : {g r n k : ℕ} {set other : List ℕ} {b d : Bool} → n ≡ k → set ≡ other → b ≡ d → ◌≡◌ {A = TickLine} (said.Closed g r n set b) (said.Closed g r k other d)
same_line a e h = cc

pub returns : goal.returns
returns c = λ journal after.
    let plan = c.args.self.now.plan in
    let g = c.args.group in
    let r = c.args.round in
    let are = c.survivors-survivors.ensures journal after in
    same_line (c.len.ensures ∙ ap length are)
    (c.minus.ensures ∙ ap (λ m. less m c.survivors-survivors.result) (c.members.ensures ∙ ap (λ (p : PlanView). members p.groups g r) c.plan.ensures) ∙ ap (less (members plan.groups g r)) are
    ∙ less-filter (is_taken g r Reading journal) (members plan.groups g r))
    (c.is_some.ensures ∙ ap is_some (c.announced.ensures journal after) ∙ announced_is_some plan journal g r)
