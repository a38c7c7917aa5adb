-- What a book keeps of one group, and where it keeps the words of its tags.
use Rattle.std.specs.Prelude.{ℕ, ◌+◌, ◌*◌, nat_lt, Bool, ◌&&◌, List, map, replicate, Option, None}
use Rattle.std.specs.List.{range_with_len}
use Rattle.group_plan.specs.declared.Kind.{Kind}
use Rattle.group_plan.specs.declared.Tag.{Tag}
use Rattle.group_plan.specs.Plans.{PlanView, size}
use Rattle.group_book.specs.Places.{kind_number}
use Rattle.group_book.specs.Pages.{PageView}
use Rattle.group_book.specs.Start.{first_page}

-- the number of a group, its rounds and meters, the page of each round, and the word of each tag, where there is one
pub record GroupView : Type 0 where
  pub group : ℕ
  pub rounds : ℕ
  pub meters : ℕ
  pub pages : List PageView
  pub words : List (Option ℕ)

-- whether the group has the round and the meter of a tag
abbrev pub holds : GroupView → Tag → Bool
holds v tag = nat_lt tag.round v.rounds && nat_lt tag.meter v.meters

-- how many tags a group of so many rounds and meters has
abbrev pub group_tags : ℕ → ℕ → ℕ
group_tags rounds meters = meters * (rounds * 3)

-- the number of a tag in its group: kinds one after another, in each the rounds, and in each of these the meters
abbrev pub word_in : ℕ → ℕ → ℕ → ℕ → Kind → ℕ
word_in rounds meters r i k = (kind_number k * rounds + r) * meters + i

-- a group of which nothing was taken yet, and with no word
abbrev pub first_group : PlanView → ℕ → GroupView
first_group plan g = record {
  group = g;
  rounds = plan.rounds;
  meters = size plan.groups g;
  pages = map (first_page plan g) (range_with_len 0 plan.rounds);
  words = replicate (group_tags plan.rounds (size plan.groups g)) None;
}
