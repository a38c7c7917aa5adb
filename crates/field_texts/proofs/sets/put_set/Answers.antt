use Rattle.std.proofs.Common.{rules, ◌≡◌, ◌++◌, ◌∷◌, [], ◌∙◌, ap, decimal, sym, append_assoc}
use Rattle.field_texts.proofs.Plus.{plus_more}
use Rattle.field_texts.proofs.sets.put_set.Goals as goal

pub loop-meter-preserved : goal.loop-meter-preserved
loop-meter-preserved c =
    let s = c.loop-meter.invariant in
    let pushed : c.push-in-loop-meter.new.self.items ≡ c.loop-meter.out.items ++ 43 ∷ [] = search rules in
    let put : c.put_number-in-loop-meter.new.out.items ≡ c.push-in-loop-meter.new.self.items ++ decimal c.in-Some-meter.meter = search rules in
    let next : c.loop-meter.meter-iterator ≡ c.in-Some-meter.meter ∷ c.next-in-loop-meter.new.self = search rules in
    record {
      all = s.all ∙ ap (λ q. c.in-Some.first ∷ (c.loop-meter.yielded ++ q)) next ∙ ap (λ q. c.in-Some.first ∷ q) (sym (append_assoc c.loop-meter.yielded (c.in-Some-meter.meter ∷ []) c.next-in-loop-meter.new.self));
      out = plus_more c.loop-meter.out.items c.args.out.now.items c.in-Some.first c.loop-meter.yielded _ c.in-Some-meter.meter s.out (put ∙ ap (λ q. q ++ decimal c.in-Some-meter.meter) pushed);
    }
