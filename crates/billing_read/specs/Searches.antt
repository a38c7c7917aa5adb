-- The search for a partner: by round, in each round by meter, and at each meter plus before minus.
use Rattle.std.specs.Prelude.{◌≡◌, ℕ, ◌<◌, ◌≤◌, true, IsTrue, List, Option, Some, None}
use Rattle.missing_round.specs.Sets.{is_member}
use Rattle.group_plan.specs.Plans.{is_place}
use Rattle.group_plan.specs.Tables.{reading}
use Rattle.group_book.specs.Books.{shape_of, past}
use Rattle.ideal_masks.specs.Chains.{IsOpened}
use Rattle.billing_read.specs.declared.partners.Partner.{Partner}
use Rattle.billing_read.specs.declared.search.Search.{Search}
use Rattle.billing_read.specs.Partners.{IsPartner}
use Rattle.billing_read.specs.PartnerEnds.{comes_before, IsFirst}

-- the readings are of the book's plan, the place is in it, its round lies in the period, and these are its survivors where it is opened
pub record IsSearch (q : Search) : Type 0 where
  pub plan : q.readings.now.plan ≡ q.book.now.presence.plan
  pub place : IsTrue (is_place q.readings.now.plan q.place.group q.place.round q.place.meter)
  pub period : (q.from ≤ q.place.round) × (q.place.round < q.until)
  pub opened : IsOpened (shape_of q.book.now) q.place.group q.place.round (past q.book.now) q.survivors

-- a partner of what is looked for, after the events of the book
abbrev pub PartnerOf : Search → Partner → Type 0
PartnerOf q p =
    IsPartner (shape_of q.book.now) (reading q.readings.now.table) (past q.book.now) q.from q.until q.place.group q.place.round q.place.meter p

-- none with the property comes before plus at meter j in round s
abbrev pub HasNoneBefore : (Partner → Type 0) → (s j : ℕ) → Type 0
HasNoneBefore P s j = (q : Partner) → P q → comes_before q (record { round = s; meter = j; plus = true }) ≡ true → ⊥

-- the first with the property, or none comes before meter j in round s
abbrev pub IsFirstBefore : (Partner → Type 0) → (s j : ℕ) → Option Partner → Type 0
IsFirstBefore P s j None = HasNoneBefore P s j
IsFirstBefore P s j (Some p) = IsFirst P (Some p)

-- both meters are among a round's survivors, or neither is; or the round isn't opened
abbrev pub Keeps : Option (List ℕ) → (i j : ℕ) → Type 0
Keeps None i j = Unit {0}
Keeps (Some survivors) i j = is_member i survivors ≡ is_member j survivors
