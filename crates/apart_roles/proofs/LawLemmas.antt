-- What a meter says is backed by its journal.
use Rattle.std.proofs.Common.{◌≡◌, ℕ, ◌^◌, Bool, true, false, List, [], ◌∷◌, ◌++◌, refl, sym, ap, ◌∙◌, append_assoc}
use Rattle.std.proofs.lemmas.Bool.{and_from, and_parts, eqb-true}
use Rattle.std.proofs.lemmas.Slice.Eq.{bytes_eq-Decides}
use Rattle.std.specs.Prelude.{◌==◌, nat_lt, bytes_eq, if◌then◌else◌, Option, Some, None, Ok, Err}
use Rattle.missing_round.specs.Masks.{Masks}
use Rattle.meter_core.specs.declared.Heard.TheVariants.{AnswerAgain, Refused}
use Rattle.meter_core.specs.declared.Why.{Why}
use Rattle.meter_core.specs.declared.Why.TheVariants.{OtherSet}
use Rattle.meter_apart.specs.declared.answers.FrameRefusal.TheVariants as unanswered
use Rattle.meter_apart.specs.declared.answers.Noted.{Noted}
use Rattle.meter_apart.specs.declared.answers.Noted.TheVariants.{Kept}
use Rattle.meter_apart.specs.declared.answers.ReadingRefusal.TheVariants as unread
use Rattle.meter_apart.specs.declared.part.Part.{Part}
use Rattle.meter_apart.specs.Journal.{kept, marked}
use Rattle.meter_apart.specs.Parts.{is_to_me, takes_part}
use Rattle.meter_apart.specs.Replies.{heard, heard_by, reading_frame, refusal_of, said_after, said_to as says_to}
use Rattle.meter_apart.proofs.JournalLemmas.{kept-kept_same, marked-read_same}
use Rattle.apart_lines.specs.declared.heard.ToMeter.{ToMeter}
use Rattle.apart_lines.specs.declared.said.MeterSays.{MeterSays}
use Rattle.desk_outside.specs.declared.wire.WireStep.{WireStep}
use Rattle.desk_outside.specs.declared.wire.WireStep.TheVariants.{Opened, Unopened, Recalled, Unrecalled, Emptied, Trimmed, Appended, Flushed, Heard, Unheard, Said}
use Rattle.apart_roles.specs.Backed.{ReadingsAreMarked, RunsSayFlushed, SetsAreKept, says_flushed}
use Rattle.apart_roles.specs.Inputs.{Came}
use Rattle.apart_roles.specs.MeterRuns.{run_steps, said_in, with_came}
use Rattle.apart_roles.specs.MeterTurns.{noted_line, noted_to, said_to, steps_noted, steps_said, turn_steps, with_noted}
use Rattle.apart_roles.proofs.TurnLemmas.{stands, with_reading, with_set}

-- ---- readings

pub readings_marked : ReadingsAreMarked
readings_marked part m journal r x f says = by (takes_part part r) (nat_lt x (2 ^ 40)) (marked journal r) refl says
  where
    again : (before : ℕ) (b : Bool) → (before == x) ≡ b → (if b then Ok (reading_frame part m r x) else Err unread.Twice) ≡ Ok f → Some before ≡ Some x
    again before true same h = ap Some (eqb-true before x same)
    again before false other h = absurd cc

    by : (takes small : Bool) (before : Option ℕ) → marked journal r ≡ before → said_after part m (stands takes small before) r x ≡ Ok f
        → marked (with_reading journal r x (stands takes small before)) r ≡ Some x
    by true true None is h = marked-read_same journal r x is
    by true true (Some before) is h = is ∙ again before (before == x) refl h
    by true false before is h = absurd cc
    by false small before is h = absurd cc

-- ---- sets

pub sets_kept : SetsAreKept
sets_kept part m journal g f says = by_tag (is_to_me part g.tag) says
  where
    again : (before : List ℕ) (b : Bool) → bytes_eq before g.missing ≡ b → kept journal g.tag.round ≡ Some before
        → says_to part m (if b then AnswerAgain else Refused (OtherSet before)) g.tag.round g.missing ≡ Ok f
        → kept (with_set journal g.tag.round g.missing (if b then AnswerAgain else Refused (OtherSet before))) g.tag.round ≡ Some g.missing
    again before true same is h = is ∙ ap Some ((bytes_eq-Decides before g.missing).0 same)
    again before false other is h = absurd cc

    by_set : (refused : Option Why) (before : Option (List ℕ)) → kept journal g.tag.round ≡ before → says_to part m (heard_by refused before g.missing) g.tag.round g.missing ≡ Ok f
        → kept (with_set journal g.tag.round g.missing (heard_by refused before g.missing)) g.tag.round ≡ Some g.missing
    by_set (Some why) before is h = absurd cc
    by_set None None is h = kept-kept_same journal g.tag.round g.missing is
    by_set None (Some before) is h = again before (bytes_eq before g.missing) refl is h

    by_tag : (b : Bool) → (if b then says_to part m (heard part journal g.tag.round g.missing) g.tag.round g.missing else Err unanswered.Tag) ≡ Ok f
        → kept (with_noted journal (if b then noted_line part journal (Kept g.tag.round g.missing) else None)) g.tag.round ≡ Some g.missing
    by_tag true h = by_set (refusal_of part journal g.tag.round g.missing) (kept journal g.tag.round) refl h
    by_tag false h = absurd cc

-- ---- steps

flushed_said : (says : Option MeterSays) (others : List WireStep) → says_flushed true (steps_said says ++ others) ≡ says_flushed true others
flushed_said None others = refl
flushed_said (Some says) others = refl

flushed_noted : (noted : Option Noted) (others : List WireStep) → says_flushed true (steps_noted noted ++ others) ≡ says_flushed true others
flushed_noted None others = refl
flushed_noted (Some line) others = refl

flushed_turn : (part : Part) (m : Masks) (journal : List Noted) (told : ToMeter) (others : List WireStep) → says_flushed true (turn_steps part m journal told ++ others) ≡ says_flushed true others
flushed_turn part m journal told others =
    ap (says_flushed true) (append_assoc (steps_noted (noted_to part journal told)) (steps_said (said_to part m journal told)) others)
    ∙ flushed_noted (noted_to part journal told) (steps_said (said_to part m journal told) ++ others)
    ∙ flushed_said (said_to part m journal told) others

flushed_run : (part : Part) (m : Masks) (journal : List Noted) (lines : List Came) → says_flushed true (run_steps part m journal lines) ≡ true
flushed_run part m journal [] = refl
flushed_run part m journal (came ∷ lines) =
    flushed_turn part m journal (said_in came) (run_steps part m (with_came part journal came) lines) ∙ flushed_run part m (with_came part journal came) lines

flushed_first : (clean : Bool) (first others : List WireStep) → says_flushed clean (first ++ others) ≡ true → says_flushed clean first ≡ true
flushed_first clean [] others all = refl
flushed_first clean (Opened name front ∷ first) others all = flushed_first clean first others all
flushed_first clean (Unopened name ∷ first) others all = flushed_first clean first others all
flushed_first clean (Recalled what text ∷ first) others all = flushed_first clean first others all
flushed_first clean (Unrecalled ∷ first) others all = flushed_first clean first others all
flushed_first clean (Emptied failed ∷ first) others all = flushed_first false first others all
flushed_first clean (Trimmed failed ∷ first) others all = flushed_first false first others all
flushed_first clean (Appended bytes failed ∷ first) others all = flushed_first false first others all
flushed_first clean (Flushed true ∷ first) others all = flushed_first clean first others all
flushed_first clean (Flushed false ∷ first) others all = flushed_first true first others all
flushed_first clean (Heard what text ∷ first) others all = flushed_first clean first others all
flushed_first clean (Unheard ∷ first) others all = flushed_first clean first others all
flushed_first clean (Said bytes failed ∷ first) others all =
    let both = and_parts clean (says_flushed clean (first ++ others)) all in
    and_from clean (says_flushed clean first) both.0 (flushed_first clean first others both.1)

pub runs_flushed : RunsSayFlushed
runs_flushed part m journal lines first others is = flushed_first true first others (ap (says_flushed true) (sym is) ∙ flushed_run part m journal lines)
