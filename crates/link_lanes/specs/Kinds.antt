-- The lanes that a cupboard holds: their arguments and their answers.
use Rattle.std.specs.Prelude.{ℕ, ◌+◌, ◌*◌, ◌%◌, ◌^◌, ◌==◌, nat_le, nat_lt, min, Bool, true, false, ◌&&◌, if◌then◌else◌, List, [], ◌∷◌, ◌++◌, length, replicate, Option, Some, None, is_some, codes, bytes_eq}
use Rattle.std.specs.Option.{option_map, option_and_then}
use Rattle.std.specs.Int.{w64, to_le_bytes}
use Rattle.rand_chacha.specs.ChaCha.{ChaCha, word_at, key_of}
use Rattle.group_plan.specs.declared.tag.Kind.{Kind}
use Rattle.group_plan.specs.declared.tag.Kind.TheVariants.{Reading, Announcement, Answer as AnswerKind}
use Rattle.group_plan.specs.declared.tag.Tag.{Tag}
use Rattle.link_lanes.specs.Lanes.{Answer, Meaning}
use Rattle.field_texts.specs.Numbers.{number_of, within}
use Rattle.field_texts.specs.Parts.{parts}
use Rattle.link_lanes.specs.Texts.{two, four, each, passing, fate_of}

-- a lane that was not loaded answers what came
abbrev pub unloaded : Answer
unloaded k tag coming = coming

-- the answer by what a lane was loaded with
abbrev pub answer_by : {X : Type 0} → (X → Answer) → Option X → Answer
answer_by answer None = unloaded
answer_by answer (Some x) = answer x

-- a lane that reads its argument and answers by it, after this many posts
abbrev pub lane_by : {X : Type 0} → List ℕ → (List ℕ → Option X) → (X → Answer) → ℕ → Option X → Meaning
lane_by name read answer count given = record {
  called = name;
  fits = λ arg. is_some (read arg);
  count = count;
  answer = answer_by answer given;
  given = λ arg. answer_by answer (read arg);
}

-- ---- clear: one copy with delay 1, whatever came

-- the empty argument
abbrev pub is_empty : List ℕ → Bool
is_empty [] = true
is_empty (b ∷ bs) = false

-- one copy with delay 1
abbrev pub clear_answer : Answer
clear_answer k tag coming = 1 ∷ []

-- the lane `clear` after so many posts
abbrev pub clear_by : ℕ → Meaning
clear_by count = record { called = codes "clear"; fits = is_empty; count = count; answer = clear_answer; given = λ arg. clear_answer }

-- ---- every: N:FATE, the fate of the posts numbered N, 2N, 3N and so on from 1

-- each post whose number the step divides, and its fate
pub record Nth : Type 0 where
  pub step : ℕ
  pub fate : List ℕ

-- of both parts
abbrev pub nth_by : Option ℕ → Option (List ℕ) → Option Nth
nth_by (Some step) (Some fate) = Some (record { step = step; fate = fate })
nth_by _ _ = None

-- the step, from 1 to 1000000, and the fate that an argument writes
abbrev pub nth_of : List ℕ → Option Nth
nth_of arg = option_and_then (λ p. nth_by (within 1 1000001 (number_of p.0)) (fate_of p.1)) (two (parts 58 arg))

-- post number k from 0 is the post number k + 1 from 1
abbrev pub every_answer : Nth → Answer
every_answer nth k tag coming = if (k + 1) % nth.step == 0 then nth.fate else coming

-- the lane `every` after so many posts
abbrev pub every_by : ℕ → Option Nth → Meaning
every_by count given = lane_by (codes "every") nth_of every_answer count given

-- ---- burst: N:M, in turns N posts that pass and M posts that are lost

-- how many posts pass in a turn, and how many are then lost
pub record Turns : Type 0 where
  pub passed : ℕ
  pub lost : ℕ

-- of both parts
abbrev pub turns_by : Option ℕ → Option ℕ → Option Turns
turns_by (Some passed) (Some lost) = Some (record { passed = passed; lost = lost })
turns_by _ _ = None

-- the turns that an argument writes, each from 1 to 1000000
abbrev pub turns_of : List ℕ → Option Turns
turns_of arg = option_and_then (λ p. turns_by (within 1 1000001 (number_of p.0)) (within 1 1000001 (number_of p.1))) (two (parts 58 arg))

-- lost from the place in its turn at which no more posts pass
abbrev pub burst_answer : Turns → Answer
burst_answer turns k tag coming = if nat_le turns.passed (k % (turns.passed + turns.lost)) then [] else coming

-- the lane `burst` after so many posts
abbrev pub burst_by : ℕ → Option Turns → Meaning
burst_by count given = lane_by (codes "burst") turns_of burst_answer count given

-- ---- rules: up to 64 of G.R.K.I=FATE joined by `;`, of which the first that matches the tag gives its fate

-- what a tag has to have, where None stands for any
pub record Rule : Type 0 where
  pub group : Option ℕ
  pub round : Option ℕ
  pub kind : Option Kind
  pub meter : Option ℕ
  pub fate : List ℕ

-- `*`, or what is read
abbrev pub any_or : {X : Type 0} → (List ℕ → Option X) → List ℕ → Option (Option X)
any_or read text = if bytes_eq text (codes "*") then Some None else option_map (λ x. Some x) (read text)

-- `r` for a reading, `m` for an announcement, `a` for an answer
abbrev pub kind_of : List ℕ → Option Kind
kind_of text =
    if bytes_eq text (codes "r") then Some Reading else
    if bytes_eq text (codes "m") then Some Announcement else
    if bytes_eq text (codes "a") then Some AnswerKind else None

-- a number below 2 ^ 32, or any
abbrev pub index_of : List ℕ → Option (Option ℕ)
index_of text = any_or (λ t. within 0 (2 ^ 32) (number_of t)) text

-- of all five parts
abbrev pub rule_by : Option (Option ℕ) → Option (Option ℕ) → Option (Option Kind) → Option (Option ℕ) → Option (List ℕ) → Option Rule
rule_by (Some g) (Some r) (Some k) (Some i) (Some fate) = Some (record { group = g; round = r; kind = k; meter = i; fate = fate })
rule_by _ _ _ _ _ = None

-- the rule that what stands before and after `=` writes
abbrev pub rule_of_sides : List ℕ × List ℕ → Option Rule
rule_of_sides sides =
    option_and_then (λ p. rule_by (index_of p.0) (index_of p.1) (any_or kind_of p.2) (index_of p.3) (fate_of sides.1)) (four (parts 46 sides.0))

-- the rule that a text writes
abbrev pub rule_of : List ℕ → Option Rule
rule_of text = option_and_then rule_of_sides (two (parts 61 text))

-- the 1 to 64 rules that an argument writes
abbrev pub rules_of : List ℕ → Option (List Rule)
rules_of arg = passing (λ rules. nat_le (length rules) 64) (each rule_of (parts 59 arg))

-- the kinds by number
abbrev pub kind_number : Kind → ℕ
kind_number Reading = 1
kind_number Announcement = 2
kind_number AnswerKind = 3

-- a number that is wanted, or any
abbrev pub is_or_any : Option ℕ → ℕ → Bool
is_or_any None n = true
is_or_any (Some m) n = m == n

-- whether a tag has all that a rule wants
abbrev pub matches : Rule → Tag → Bool
matches rule tag =
    is_or_any rule.group tag.group && is_or_any rule.round tag.round && is_or_any (option_map kind_number rule.kind) (kind_number tag.kind) && is_or_any rule.meter tag.meter

-- the fate of the first rule that matches
abbrev pub first_fate : List Rule → Tag → List ℕ → List ℕ
first_fate [] tag coming = coming
first_fate (rule ∷ rules) tag coming = if matches rule tag then rule.fate else first_fate rules tag coming

-- the same for each post, whatever its number
abbrev pub rules_answer : List Rule → Answer
rules_answer rules k tag coming = first_fate rules tag coming

-- the lane `rules` after so many posts
abbrev pub rules_by : ℕ → Option (List Rule) → Meaning
rules_by count given = lane_by (codes "rules") rules_of rules_answer count given

-- ---- seeded: SEED:LOSS:REPEAT:SPREAD, the fates that four words of a ChaCha20 stream draw for each post

-- the seed, in how many of 1000 posts all copies are lost, in how many a second copy is made, and how far delays spread
pub record Chances : Type 0 where
  pub seed : ℕ
  pub loss : ℕ
  pub again : ℕ
  pub spread : ℕ

-- of all four parts
abbrev pub chances_by : Option ℕ → Option ℕ → Option ℕ → Option ℕ → Option Chances
chances_by (Some seed) (Some loss) (Some again) (Some spread) = Some (record { seed = seed; loss = loss; again = again; spread = spread })
chances_by _ _ _ _ = None

-- the seed below 2 ^ 64 and the chances that an argument writes: two from 0 to 1000, and a spread from 1 to 16
abbrev pub chances_of : List ℕ → Option Chances
chances_of arg =
    option_and_then (λ p. chances_by (number_of p.0) (within 0 1001 (number_of p.1)) (within 0 1001 (number_of p.2)) (within 1 17 (number_of p.3))) (four (parts 58 arg))

-- the seed's 8 bytes, the lowest first, and 24 zero bytes
abbrev pub key_of_seed : ℕ → List ℕ
key_of_seed seed = to_le_bytes w64 seed ++ replicate 24 0

-- stream 0 of the seed's key, at the words of a post
abbrev pub stream_at : ℕ → ℕ → ChaCha
stream_at seed number = record { key = key_of (key_of_seed seed); stream = 0; word_pos = 4 * number }

-- the word at a place of stream 0 of the seed's key
abbrev pub seed_word : ℕ → ℕ → ℕ
seed_word seed place = word_at 10 (key_of (key_of_seed seed)) 0 place

-- what four words draw: no copy, one, or two
abbrev pub drawn : Chances → ℕ → ℕ → ℕ → ℕ → List ℕ
drawn chances w0 w1 w2 w3 =
    if nat_lt (w0 % 1000) chances.loss then [] else
    let first = 1 + w1 % chances.spread in
    if nat_lt (w2 % 1000) chances.again then first ∷ min 16 (first + w3 % chances.spread) ∷ [] else first ∷ []

-- a post that comes without a copy stays so
abbrev pub drawn_unless_lost : Chances → ℕ → ℕ → ℕ → ℕ → List ℕ → List ℕ
drawn_unless_lost chances w0 w1 w2 w3 [] = []
drawn_unless_lost chances w0 w1 w2 w3 (d ∷ coming) = drawn chances w0 w1 w2 w3

-- post number k has the four words from place 4 * k on
abbrev pub seeded_answer : Chances → Answer
seeded_answer chances k tag coming =
    drawn_unless_lost chances (seed_word chances.seed (4 * k)) (seed_word chances.seed (4 * k + 1)) (seed_word chances.seed (4 * k + 2)) (seed_word chances.seed (4 * k + 3)) coming

-- the lane `seeded` after so many posts
abbrev pub seeded_by : ℕ → Option Chances → Meaning
seeded_by count given = lane_by (codes "seeded") chances_of seeded_answer count given
