use Rattle.std.proofs.Common.{◌≡◌, sym, subst}
use Rattle.event_schedule.proofs.ScheduleLemmas.{after-reverse}
use Rattle.event_schedule.specs.Transcript.{transcript}
use Rattle.ideal_masks.specs.Offsets.{shift}
use Rattle.ideal_masks.proofs.TwoWorlds.{unshift-shift, shift-unshift}
use Rattle.sparse_masks.specs.Neighbours.{ring}
use Rattle.sparse_masks.specs.Offsets.{RingAgree, ring_offsets}
use Rattle.sparse_masks.proofs.ConverseLemmas.{ring_converse}
use Rattle.sparse_masks.proofs.WorldLemmas.{ring_worlds, ring-shifts}
use Rattle.sparse_masks.proofs.laws.isolated.Goals as goal

pub returns-clause-two_worlds : goal.returns-clause-two_worlds
returns-clause-two_worlds c = λ w groups x y m events of_plan x_bounded y_bounded agree.
    subst (λ whole. transcript groups y (ring w groups (shift (ring_offsets w groups x y whole) m)) events ≡ transcript groups x (ring w groups m) events) (after-reverse events)
    (ring_worlds w groups x y m events of_plan x_bounded y_bounded (subst (RingAgree w groups x y) (sym (after-reverse events)) agree))

pub returns-clause-undone : goal.returns-clause-undone
returns-clause-undone c = λ o m fits. (unshift-shift o m fits, shift-unshift o m fits)

pub returns-clause-converse : goal.returns-clause-converse
returns-clause-converse c = λ w groups x y m k events presence x_bounded y_bounded same.
    subst (RingAgree w groups x y) (after-reverse events) (ring_converse w groups x y m k events presence x_bounded y_bounded same)

pub returns-clause-shifts : goal.returns-clause-shifts
returns-clause-shifts c = ring-shifts
