-- Boxes of lanes that are put into a cupboard.
use Rattle.std.proofs.Common.{◌≡◌, refl, ℕ, ◌+◌, List, [], ◌∷◌, ◌++◌, ◌∙◌, ap, sym, map, replicate, None, Option, subst}
use denote.Param.Object.{read_made}
use denote.Param.Table.{Table}
use Rattle.link_lanes.specs.declared.lane.Lane.{Ghosts}
use Rattle.link_lanes.specs.Lanes.{Meaning}
use Rattle.std.proofs.lemmas.List.{map-append, append_assoc}
use Rattle.std.proofs.lemmas.Grind.{replicate_next}
use Rattle.link_lanes.specs.Kinds.{clear_by, rules_by, seeded_by, every_by, burst_by}
use Rattle.commands.specs.Cupboard.{four, full_cupboard}
use Rattle.command_words.specs.Words.{Command}
use Rattle.commands.specs.Outside.{OutsideView}
use Rattle.commands.specs.Promise.{EndsAndTells}
use Rattle.commands.specs.Accepted.{AcceptedIsDone}

-- a box means what the lane means of which it was made: the two are of one type, and alike in it
pub boxed : {C : Type 0} (T : Table Ghosts C) (i at : T.I) → i ≡ at → (y : (T.entry i).0.Denot) (x : (T.entry at).0.Denot) →
    (T.entry i).0.coded.code y ≡ (T.entry at).0.coded.code x → (T.entry i).1.meaning y ≡ (T.entry at).1.meaning x
boxed T i at same y x alike = read_made T (T.entry at) at refl Meaning (λ j v. j.1.meaning v) i y x (record { index = same; codes = alike })

-- one more box of a lane, behind n of them
pub one_more : {B : Type 0} (f : B → Meaning) (start : List Meaning) (lane : Meaning) (n : ℕ) (before after : List B) (b : B) →
    map f before ≡ start ++ replicate n lane → after ≡ before ++ b ∷ [] → f b ≡ lane → map f after ≡ start ++ replicate (n + 1) lane
one_more f start lane n before after b so_far put box =
    ap (map f) put ∙ map-append f before (b ∷ []) ∙ ap (λ m. map f before ++ m ∷ []) box ∙ ap (λ ms. ms ++ lane ∷ []) so_far
    ∙ append_assoc start (replicate n lane) (lane ∷ []) ∙ ap (λ ms. start ++ ms) (sym (replicate_next n lane))

-- the lanes of a cupboard, of whose last lane it has so many boxes
abbrev filled : ℕ → List Meaning
filled n = four (clear_by 0) ++ four (rules_by 0 None) ++ four (seeded_by 0 None) ++ four (every_by 0 None) ++ replicate n (burst_by 0 None)

-- with four of those it is full
full : (lanes : List Meaning) (n : ℕ) → lanes ≡ filled n → n ≡ 4 → lanes ≡ full_cupboard
full lanes n so_far whole = so_far ∙ ap filled whole

-- the end of a command with these lanes is its end with the full cupboard
pub ends_with_full : (lanes : List Meaning) (n : ℕ) (asked : Option Command) (o p : OutsideView) (before now status : ℕ) → lanes ≡ filled n → n ≡ 4 →
    EndsAndTells lanes asked o p before now status → EndsAndTells full_cupboard asked o p before now status
ends_with_full lanes n asked o p before now status so_far whole =
    subst (λ cupboard. EndsAndTells cupboard asked o p before now status) (full lanes n so_far whole)

-- a command that is done with these lanes is done with the full cupboard
pub done_with_full : (lanes : List Meaning) (n : ℕ) (asked : Option Command) (o p : OutsideView) (before now status : ℕ) → lanes ≡ filled n → n ≡ 4 →
    AcceptedIsDone lanes asked o p before now status → AcceptedIsDone full_cupboard asked o p before now status
done_with_full lanes n asked o p before now status so_far whole =
    subst (λ cupboard. AcceptedIsDone cupboard asked o p before now status) (full lanes n so_far whole)
