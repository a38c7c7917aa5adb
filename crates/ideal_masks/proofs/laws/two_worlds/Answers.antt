use Rattle.event_schedule.proofs.ScheduleLemmas.{after-reverse}
use Rattle.ideal_masks.proofs.Converse.{converse}
use Rattle.ideal_masks.proofs.TwoWorlds.{two_worlds, unshift-shift, shift-unshift}
use Rattle.ideal_masks.proofs.laws.two_worlds.Goals as goal

pub returns-clause-two_worlds : goal.returns-clause-two_worlds
returns-clause-two_worlds c = λ groups x y m events of_plan. rw (← after-reverse events) (two_worlds groups x y m events of_plan)

pub returns-clause-undone : goal.returns-clause-undone
returns-clause-undone c = λ o m fits. (unshift-shift o m fits, shift-unshift o m fits)

pub returns-clause-converse : goal.returns-clause-converse
returns-clause-converse c = λ groups x y m k events presence x_bounded y_bounded. rw (← after-reverse events) (converse groups x y m k events presence x_bounded y_bounded)
