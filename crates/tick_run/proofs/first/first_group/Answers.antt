use Rattle.std.proofs.Common.{◌≡◌, ◌+◌, ℕ, [], refl, ap, ◌∙◌, arith}
use Rattle.shared_book.specs.Passes.{PassView, new_pass}
use Rattle.tick_run.specs.GroupRuns.{past_in}
use Rattle.tick_run.proofs.first.first_group.Goals as goal

pub split-pass-requires-clause-few : goal.split-pass-requires-clause-few
split-pass-requires-clause-few c =
    let made : ℕ = c.args.number in
    let is = ap (λ (v : PassView). v.made) c.requires.leads in
    let range = c.ranges.number.fits in
    omega arith

pub returns-clause-pass : goal.returns-clause-pass
returns-clause-pass c =
    let ends = c.split-pass.ensures.ends in
    (c.split-pass.ensures.passes.0, ends.first ∙ ap (λ (v : PassView). record v { made = v.made + 1; out = v.out + 1 }) c.requires.leads)

pub returns-clause-group : goal.returns-clause-group
returns-clause-group c =
    let ends = c.split-pass.ensures.ends in
    record {
      number = refl;
      pass = c.split-pass.ensures.passes.1;
      new = ends.second ∙ ap (λ (v : PassView). new_pass (v.made + 1) v.seen) c.requires.leads;
      meters = c.in_ok-new.ensures (past_in []);
      link = c.new-2.ensures;
      frames = c.new-3.ensures.items;
      fates = c.new-4.ensures.items;
    }
