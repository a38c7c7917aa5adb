use Rattle.std.proofs.Common.{◌∙◌, ◌++◌, List, ℕ, IsTrue, ap, sym, subst}
use Rattle.std.specs.List.{list_all}
use Rattle.group_plan.specs.Plans.{is_place}
use Rattle.missing_round.specs.Sets.{less}
use Rattle.register_words.proofs.ReportLemmas.{other_line, survivors_places, total_line}
use Rattle.register_words.proofs.report.Firsts.put_line.Goals as goal
use Rattle.register_words.proofs.report.Firsts.put_line.Goals.{in-Total+in_ok-put_totals, in_default}

pub put_totals-requires-clause-meters : goal.put_totals-requires-clause-meters
put_totals-requires-clause-meters c =
    subst (λ (l : List ℕ). IsTrue (list_all (is_place c.args.plan.now c.args.group c.args.round) l)) (sym (c.minus-survivors.ensures ∙ ap (λ (l : List ℕ). less l c.args.row.now.missing) c.members.ensures))
    (survivors_places c.args.plan.now c.args.group c.args.round c.args.row.now.missing c.requires.round.round)

pub returns : goal.returns
returns c = λ ls knows.
    let plan = c.args.plan.now in
    let row = c.args.row.now in
    let out = c.args.out.now.items in
    let begun = c.in_ok-extend_from_slice.ensures.items ∙ ap (λ (l : List ℕ). out ++ l) (c.deref.ensures.value ∙ c.in_ok-row_text.ensures) in
    elim c.match-row.branch [
      | in-Total+in_ok-put_totals w ↦
          total_line plan ls c.args.sides.now c.args.group c.args.round w.in-Total.field-0 row w.minus-survivors.result out c.extend_from_slice.new.self.items c.match-row.out.items c.push.new.self.items w.in-Total.is
          (w.minus-survivors.ensures ∙ ap (λ (l : List ℕ). less l row.missing) w.members.ensures) begun (ap (λ o. o.items) w.out-is ∙ w.in_ok-put_totals.ensures ls knows) c.in_ok-push.ensures.items
      | in_default w ↦ other_line plan ls c.args.sides.now c.args.group c.args.round row out c.match-row.out.items c.push.new.self.items w.in_default.not-Total (ap (λ o. o.items) w.out-is ∙ begun) c.in_ok-push.ensures.items
    ]
