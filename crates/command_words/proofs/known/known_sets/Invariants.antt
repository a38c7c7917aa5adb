use Rattle.std.proofs.Common.{◌≡◌, ◌||◌, ℕ, true, length}
use Rattle.field_texts.specs.Parts.{parts}
use Rattle.command_words.specs.Known.{is_known, are_in_plan, is_in_set, known_in}
use Rattle.command_words.proofs.KnownLemmas.{all-read, all-named}
use Rattle.command_words.proofs.known.known_sets.Given as goal

-- each part of the rest names a meter; these and the sets have all meters, and the plan has all where it has these
abbrev pub invariant-loop-part : goal.invariant-loop-part
invariant-loop-part l = record {
  long : length l.sets.items ≡ length l.plan.groups;
  read : all-read (parts 43 l.rest) ≡ true;
  sets : (g i : ℕ) → (is_known (all-named (parts 43 l.rest)) g i || is_in_set l.sets.items g i) ≡ is_known (known_in l.fn.word) g i;
  within : are_in_plan l.plan (all-named (parts 43 l.rest)) ≡ are_in_plan l.plan (known_in l.fn.word);
}

abbrev pub decreases-loop-part : goal.decreases-loop-part
decreases-loop-part l = length l.rest
