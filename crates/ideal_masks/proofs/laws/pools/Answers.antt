use Rattle.event_schedule.proofs.ScheduleLemmas.{after-reverse}
use Rattle.ideal_masks.proofs.Converse.{converse_for}
use Rattle.ideal_masks.proofs.Isolation.{isolated_from}
use Rattle.ideal_masks.proofs.TwoWorlds.{two_worlds_for, words_stay}
use Rattle.ideal_masks.proofs.laws.pools.Goals as goal

pub returns-clause-two_worlds : goal.returns-clause-two_worlds
returns-clause-two_worlds c = λ pool groups x y m events of_plan. rw (← after-reverse events) (two_worlds_for pool groups x y m events of_plan)

pub returns-clause-words_stay : goal.returns-clause-words_stay
returns-clause-words_stay c = λ pool groups x y m events. words_stay pool groups x y m _

pub returns-clause-converse : goal.returns-clause-converse
returns-clause-converse c = λ pool groups x y m k events presence known x_bounded y_bounded shared. rw (← after-reverse events) (converse_for pool groups x y m k events presence known x_bounded y_bounded shared)

pub returns-clause-isolated : goal.returns-clause-isolated
returns-clause-isolated c = isolated_from
