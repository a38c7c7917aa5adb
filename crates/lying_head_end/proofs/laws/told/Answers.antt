use mathlib.Core.List.{reverse}
use Rattle.ideal_masks.proofs.TwoWorlds.{unshift-shift, shift-unshift}
use Rattle.lying_head_end.proofs.ActLemmas.{after-reverse, sets-reversed}
use Rattle.lying_head_end.proofs.WorldLemmas.{two_worlds_told, words_stay_told}
use Rattle.lying_head_end.proofs.ConverseLemmas.{converse_told}
use Rattle.lying_head_end.proofs.laws.told.Goals as goal

pub returns-clause-two_worlds : goal.returns-clause-two_worlds
returns-clause-two_worlds c = λ pool groups x y m acts of_plan sets. rw (← after-reverse acts) (two_worlds_told pool groups x y m acts of_plan (sets-reversed acts sets))

pub returns-clause-words_stay : goal.returns-clause-words_stay
returns-clause-words_stay c = λ pool groups x y m acts. words_stay_told pool groups x y m (reverse acts)

pub returns-clause-undone : goal.returns-clause-undone
returns-clause-undone c = λ o m fits. (unshift-shift o m fits, shift-unshift o m fits)

pub returns-clause-converse : goal.returns-clause-converse
returns-clause-converse c = λ pool groups x y m k acts presence known of_plan x_bounded y_bounded sets shared.
    rw (← after-reverse acts) (converse_told pool groups x y m k acts presence known of_plan x_bounded y_bounded (sets-reversed acts sets) shared)
