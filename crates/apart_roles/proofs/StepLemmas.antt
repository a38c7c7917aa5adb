-- Steps behind steps, and where they stop.
use Rattle.std.proofs.Common.{◌≡◌, List, [], ◌∷◌, ◌++◌, refl, sym, ap, ◌∙◌, subst, append_assoc}
use Rattle.std.specs.Prelude.{Result, Ok, Err}
use Rattle.desk_outside.specs.Wire.{WireView, after_step, after_steps}
use Rattle.desk_outside.specs.declared.wire.WireStep.{WireStep}
use Rattle.desk_outside.specs.declared.wire.WireStep.TheVariants.{Emptied, Trimmed, Appended, Flushed, Heard, Said}
use Rattle.apart_roles.specs.declared.outcome.RoleError.{RoleError}
use Rattle.apart_roles.specs.declared.outcome.RoleError.TheVariants.{Input, Journal, Output, Memory}
use Rattle.apart_roles.specs.Steps.{Does, FailsAt, Stops}

-- ---- steps that are done

pub steps_join : (v : WireView) (first others : List WireStep) → after_steps v (first ++ others) ≡ after_steps (after_steps v first) others
steps_join v [] others = refl
steps_join v (step ∷ first) others = steps_join (after_step v step) first others

pub done_behind : (v u w : WireView) (first others : List WireStep) → u ≡ after_steps v first → w ≡ after_steps u others → w ≡ after_steps v (first ++ others)
done_behind v u w first others one two = two ∙ ap (λ x. after_steps x others) one ∙ sym (steps_join v first others)

-- ---- steps that stop

fails_more : (error : RoleError) (due more : List WireStep) (v w : WireView) → FailsAt error due v w → FailsAt error (due ++ more) v w
fails_more Memory due more v w fails = fails
fails_more Journal (Appended bytes failed ∷ due) more v w fails = fails
fails_more Journal (Flushed failed ∷ due) more v w fails = fails
fails_more Journal (Emptied failed ∷ due) more v w fails = fails
fails_more Journal (Trimmed failed ∷ due) more v w fails = fails
fails_more Output (Said bytes failed ∷ due) more v w fails = fails
fails_more Input (Heard what text ∷ due) more v w fails = fails
fails_more error due more v w fails = absurd fails

-- the first step that is due is not done
pub stops_here : (error : RoleError) (due : List WireStep) (v w : WireView) → FailsAt error due v w → Stops error due v w
stops_here error due v w fails = record { first = []; others = due; are_due = refl; fails = fails }

-- steps stop where others are due behind them
pub stops_first : (error : RoleError) (due more : List WireStep) (v w : WireView) → Stops error due v w → Stops error (due ++ more) v w
stops_first error due more v w stops = record {
  first = stops.first;
  others = stops.others ++ more;
  are_due = ap (λ steps. steps ++ more) stops.are_due ∙ append_assoc stops.first stops.others more;
  fails = fails_more error stops.others more (after_steps v stops.first) w stops.fails;
}

-- steps stop behind others that are done
pub stops_behind : (error : RoleError) (done due : List WireStep) (v u w : WireView) → u ≡ after_steps v done → Stops error due u w → Stops error (done ++ due) v w
stops_behind error done due v u w one stops = record {
  first = done ++ stops.first;
  others = stops.others;
  are_due = ap (λ steps. done ++ steps) stops.are_due ∙ sym (append_assoc done stops.first stops.others);
  fails = subst (λ x. FailsAt error stops.others x w) (ap (λ x. after_steps x stops.first) one ∙ sym (steps_join v done stops.first)) stops.fails;
}

-- ---- calls behind calls

pub does_behind : {A : Type 0} (first others : List WireStep) (v u w : WireView) (result : Result A RoleError) → u ≡ after_steps v first → Does others u w result → Does (first ++ others) v w result
does_behind first others v u w (Ok done) one does = done_behind v u w first others one does
does_behind first others v u w (Err error) one stops = stops_behind error first others v u w one stops

pub does_not : {A : Type 0} (first others : List WireStep) (v w : WireView) (error : RoleError) (result : Result A RoleError) → result ≡ Err error → Stops error first v w → Does (first ++ others) v w result
does_not first others v w error result is stops = subst (λ (r : Result _ RoleError). Does (first ++ others) v w r) (sym is) (stops_first error first others v w stops)
