-- The mask words that meters share are below 2^64.
use Rattle.std.proofs.Common.{ℕ, ◌^◌, ◌<◌, List, arith, Bool, true, false}
use Rattle.std.specs.Prelude.{Option, Some, None, if◌then◌else◌}
use Rattle.chacha_lanes.proofs.WordBounds.{mask_word_small}
use Rattle.mask_stream.specs.KeyStreams.{word_of, streams}
use Rattle.pair_keys.specs.Keys.{Keys}
use Rattle.event_schedule.specs.Tables.{IsMasks}
use Rattle.group_plan.specs.Plans.{PlanView, size}
use Rattle.sparse_masks.specs.Neighbours.{are_neighbours}
use Rattle.command_texts.specs.declared.sharing.Sharing.{Sharing}
use Rattle.command_texts.specs.declared.sharing.Sharing.TheVariants.{WithEach, WithNeighbours}
use Rattle.command_texts.specs.Runs.{words_by}

word_small : (key : Option (List ℕ)) (round : ℕ) → word_of key round < 2 ^ 64
word_small None round = omega arith
word_small (Some key) round = mask_word_small key round

streams_small : (keys : Keys) → IsMasks (streams keys)
streams_small keys = record { own = λ g r i. word_small _ r; pair = λ g r i j. word_small _ r }

or_zero_small : (is_near : Bool) (word : ℕ) → word < 2 ^ 64 → (if is_near then word else 0) < 2 ^ 64
or_zero_small true word small = small
or_zero_small false word small = omega arith

pub words_small : (sharing : Sharing) (plan : PlanView) (keys : Keys) → IsMasks (words_by sharing plan keys)
words_small WithEach plan keys = streams_small keys
words_small (WithNeighbours w) plan keys = record {
  own = (streams_small keys).own;
  pair = λ g r i j. or_zero_small (are_neighbours w (size plan.groups g) i j) ((streams keys).pair g r i j) ((streams_small keys).pair g r i j);
}
