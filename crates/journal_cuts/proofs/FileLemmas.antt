-- What a crash leaves of a journal's file.
use Rattle.std.proofs.Common.{◌≡◌, ℕ, zero, suc, ◌+◌, ◌<◌, ◌≤◌, Bool, true, false, List, [], ◌∷◌, ◌++◌, length, take, drop, refl, sym, ap, ◌∙◌, subst, arith, ⊎_elim, length-append, inl, inr}
use Rattle.std.proofs.lemmas.Bool.{and_parts}
use Rattle.std.proofs.lemmas.List.{length-take}
use Rattle.std.specs.Prelude.{slice_index}
use Rattle.std.specs.List.{list_all}
use Rattle.sqlite_disk.specs.History.{Reaches, Step}
use Rattle.desk_outside.specs.declared.wire.WireStep.{WireStep}
use Rattle.desk_outside.specs.declared.wire.WireStep.TheVariants.{Opened, Unopened, Recalled, Unrecalled, Emptied, Trimmed, Appended, Flushed, Heard, Unheard, Said}
use Rattle.journal_cuts.specs.Files.{BeginsWith, CrashLeaves, IsSettled, JournalFile, SpareAll, Spares, file_after, file_behind, is_onward}
use Rattle.sqlite_disk.specs.Disk.{Cut, Torn}
use Rattle.journal_cuts.specs.Statements.{AnyBytesMayStand, CrashesKeepFlushed, CrashesLeaveNoMore, TrimsKeepFirst}

-- ---- bytes at places

index_taken : (n i : ℕ) (bytes : List ℕ) → i < n → slice_index (take n bytes) i ≡ slice_index bytes i
index_taken zero i bytes lt = absurd (omega (arith, lt))
index_taken (suc n) i [] lt = refl
index_taken (suc n) zero (byte ∷ bytes) lt = refl
index_taken (suc n) (suc i) (byte ∷ bytes) lt = index_taken n i bytes (omega (arith, lt))

index_first : (i : ℕ) (bytes more : List ℕ) → i < length bytes → slice_index (bytes ++ more) i ≡ slice_index bytes i
index_first i [] more lt = absurd (omega (arith, lt))
index_first zero (byte ∷ bytes) more lt = refl
index_first (suc i) (byte ∷ bytes) more lt = index_first i bytes more (omega (arith, lt))

-- a file has the bytes that were flushed at its beginning
record Keeps (flushed file : List ℕ) : Type 0 where
  long : length flushed ≤ length file
  each : (i : ℕ) → i < length flushed → slice_index file i ≡ slice_index flushed i

keeps_itself : (flushed file : List ℕ) → flushed ≡ file → Keeps flushed file
keeps_itself flushed file is = record { long = (let l = ap length is in omega (arith, l)); each = λ i lt. ap (λ bytes. slice_index bytes i) (sym is) }

begins : (flushed file : List ℕ) → length flushed ≤ length file → ((i : ℕ) → i < length flushed → slice_index file i ≡ slice_index flushed i) → file ≡ flushed ++ drop (length flushed) file
begins [] file long each = refl
begins (byte ∷ flushed) [] long each = absurd (omega (arith, long))
begins (byte ∷ flushed) (other ∷ file) long each =
    ap (λ c. c ∷ file) (each 0 (omega arith)) ∙ ap (λ t. byte ∷ t) (begins flushed file (omega (arith, long)) (λ i lt. each (suc i) (omega (arith, lt))))

-- ---- what the disk was asked for

-- nothing of it is below this place
AreAbove : ℕ → List Step → Type 0
AreAbove place [] = Unit {0}
AreAbove place (inl write ∷ since) = (place ≤ write.0) × AreAbove place since
AreAbove place (inr n ∷ since) = (place ≤ n) × AreAbove place since

-- all of it is writes, and none goes beyond this place
AreWithin : ℕ → List Step → Type 0
AreWithin place [] = Unit {0}
AreWithin place (inl write ∷ since) = (write.0 + write.1 ≤ place) × AreWithin place since
AreWithin place (inr n ∷ since) = ⊥

further : (place more : ℕ) (since : List Step) → place ≤ more → AreWithin place since → AreWithin more since
unfolding AreWithin
further place more [] le within = tt
further place more (inl write ∷ since) le within = (let first = within.0 in omega (arith, le, first), further place more since le within.1)
further place more (inr n ∷ since) le within = absurd within

reaches_keep : (mixes : Bool) (flushed : List ℕ) (since : List Step) (left : List ℕ) → AreAbove (length flushed) since → Reaches mixes flushed since left → Keeps flushed left
unfolding AreAbove
reaches_keep mixes flushed [] left above reaches = keeps_itself flushed left (sym reaches)
reaches_keep mixes flushed (inl write ∷ since) left above (before, reaches, takes) =
    let kept = reaches_keep mixes flushed since before above.1 reaches in
    let torn = takes.0 in
    let long = kept.long in
    let at = above.0 in
    let longer = torn.no_shorter in
    record {
      long = omega (arith, long, longer);
      each = λ i lt. torn.below i (omega (arith, lt, long)) (omega (arith, lt, at)) ∙ kept.each i lt;
    }
reaches_keep mixes flushed (inr n ∷ since) left above (before, reaches, cut) =
    let kept = reaches_keep mixes flushed since before above.1 reaches in
    let long = kept.long in
    let at = above.0 in
    let longer = cut.no_shorter in
    record {
      long = omega (arith, long, longer, at);
      each = λ i lt. cut.below i (omega (arith, lt, long)) (omega (arith, lt, at)) ∙ kept.each i lt;
    }

reaches_short : (mixes : Bool) (place : ℕ) (flushed : List ℕ) (since : List Step) (left : List ℕ) → length flushed ≤ place → AreWithin place since → Reaches mixes flushed since left → length left ≤ place
unfolding AreWithin
reaches_short mixes place flushed [] left le within reaches = let l = ap length reaches in omega (arith, l, le)
reaches_short mixes place flushed (inl write ∷ since) left le within (before, reaches, takes) =
    let short = reaches_short mixes place flushed since before le within.1 reaches in
    let end = within.0 in
    let longer = takes.0.no_longer in
    omega (arith, short, end, longer)
reaches_short mixes place flushed (inr n ∷ since) left le within reaches = absurd within

-- ---- the file of a journal

record Stands (file : JournalFile) : Type 0 where
  above : AreAbove (length file.flushed) file.since
  keeps : Keeps file.flushed file.source.bytes

stands_settled : (file : JournalFile) → IsSettled file → Stands file
unfolding AreAbove
stands_settled file settled = record {
  above = subst (λ since. AreAbove (length file.flushed) since) (sym settled.since) tt;
  keeps = keeps_itself file.flushed file.source.bytes settled.flushed;
}

appended_keeps : (flushed bytes more : List ℕ) → Keeps flushed bytes → Keeps flushed (bytes ++ more)
appended_keeps flushed bytes more keeps =
    let long = keeps.long in
    let all = length-append bytes more in
    record {
      long = omega (arith, long, all);
      each = λ i lt. index_first i bytes more (omega (arith, lt, long)) ∙ keeps.each i lt;
    }

trimmed_keeps : (flushed bytes : List ℕ) (place : ℕ) → length flushed ≤ place → Keeps flushed bytes → Keeps flushed (take place bytes)
trimmed_keeps flushed bytes place le keeps =
    let long = keeps.long in
    let all = length-take place bytes in
    record {
      long = omega (arith, long, all, le);
      each = λ i lt. index_taken place i bytes (omega (arith, lt, le)) ∙ keeps.each i lt;
    }

stands_after : (file : JournalFile) (step : WireStep) → Stands file → Spares file step → Stands (file_after file step)
unfolding AreAbove
stands_after file (Opened name front) stands spares = record { above = stands.above; keeps = stands.keeps }
stands_after file (Unopened name) stands spares = record { above = stands.above; keeps = stands.keeps }
stands_after file (Recalled what text) stands spares = record { above = stands.above; keeps = stands.keeps }
stands_after file Unrecalled stands spares = record { above = stands.above; keeps = stands.keeps }
stands_after file (Emptied failed) stands spares = absurd spares
stands_after file (Trimmed true) stands spares = record { above = (spares, stands.above); keeps = stands.keeps }
stands_after file (Trimmed false) stands spares = record { above = (spares, stands.above); keeps = trimmed_keeps file.flushed file.source.bytes file.source.place spares stands.keeps }
stands_after file (Appended bytes failed) stands spares = record { above = (stands.keeps.long, stands.above); keeps = appended_keeps file.flushed file.source.bytes bytes stands.keeps }
stands_after file (Flushed true) stands spares = record { above = stands.above; keeps = stands.keeps }
stands_after file (Flushed false) stands spares = record { above = tt; keeps = keeps_itself file.source.bytes file.source.bytes refl }
stands_after file (Heard what text) stands spares = record { above = stands.above; keeps = stands.keeps }
stands_after file Unheard stands spares = record { above = stands.above; keeps = stands.keeps }
stands_after file (Said bytes failed) stands spares = record { above = stands.above; keeps = stands.keeps }

stands_behind : (file : JournalFile) (steps : List WireStep) → Stands file → SpareAll file steps → Stands (file_behind file steps)
stands_behind file [] stands spare = stands
stands_behind file (step ∷ steps) stands spare = stands_behind (file_after file step) steps (stands_after file step stands spare.0) spare.1

-- what a crash leaves of it
left_keeps : (file : JournalFile) (left : List ℕ) → Stands file → CrashLeaves file left → Keeps file.flushed left
left_keeps file left stands (mixes, leaves) = ⊎_elim
    (λ seen. subst (λ bytes. Keeps file.flushed bytes) (sym seen) stands.keeps)
    (λ reaches. reaches_keep mixes file.flushed file.since left stands.above reaches)
    leaves

has_flushed : (file : JournalFile) (left : List ℕ) → Stands file → CrashLeaves file left → BeginsWith file.flushed left
has_flushed file left stands leaves =
    let keeps = left_keeps file left stands leaves in
    record { behind = drop (length file.flushed) left; is = begins file.flushed left keeps.long keeps.each }

pub kept_flushed : CrashesKeepFlushed
kept_flushed file steps settled spare =
    let now = file_behind file steps in
    let stands = stands_behind file steps (stands_settled file settled) spare in
    record {
      bytes = record { behind = drop (length now.flushed) now.source.bytes; is = begins now.flushed now.source.bytes stands.keeps.long stands.keeps.each };
      left = λ left leaves. has_flushed now left stands leaves;
    }

-- ---- a file that is only appended to

onward_spares : (file : JournalFile) (step : WireStep) → is_onward step ≡ true → Spares file step
onward_spares file (Opened name front) on = tt
onward_spares file (Unopened name) on = tt
onward_spares file (Recalled what text) on = tt
onward_spares file Unrecalled on = tt
onward_spares file (Emptied failed) on = absurd cc
onward_spares file (Trimmed failed) on = absurd cc
onward_spares file (Appended bytes failed) on = tt
onward_spares file (Flushed failed) on = tt
onward_spares file (Heard what text) on = tt
onward_spares file Unheard on = tt
onward_spares file (Said bytes failed) on = tt

pub onward_spare : (file : JournalFile) (steps : List WireStep) → list_all is_onward steps ≡ true → SpareAll file steps
onward_spare file [] on = tt
onward_spare file (step ∷ steps) on =
    let both = and_parts (is_onward step) (list_all is_onward steps) on in
    (onward_spares file step both.0, onward_spare (file_after file step) steps both.1)

within_after : (file : JournalFile) (step : WireStep) → is_onward step ≡ true → AreWithin (length file.source.bytes) file.since → AreWithin (length (file_after file step).source.bytes) (file_after file step).since
unfolding AreWithin
within_after file (Opened name front) on within = within
within_after file (Unopened name) on within = within
within_after file (Recalled what text) on within = within
within_after file Unrecalled on within = within
within_after file (Emptied failed) on within = absurd cc
within_after file (Trimmed failed) on within = absurd cc
within_after file (Appended bytes failed) on within =
    let all = length-append file.source.bytes bytes in
    (omega (arith, all), further (length file.source.bytes) (length (file.source.bytes ++ bytes)) file.since (omega (arith, all)) within)
within_after file (Flushed true) on within = within
within_after file (Flushed false) on within = tt
within_after file (Heard what text) on within = within
within_after file Unheard on within = within
within_after file (Said bytes failed) on within = within

within_behind : (file : JournalFile) (steps : List WireStep) → list_all is_onward steps ≡ true → AreWithin (length file.source.bytes) file.since
    → AreWithin (length (file_behind file steps).source.bytes) (file_behind file steps).since
within_behind file [] on within = within
within_behind file (step ∷ steps) on within =
    let both = and_parts (is_onward step) (list_all is_onward steps) on in
    within_behind (file_after file step) steps both.1 (within_after file step both.0 within)

within_settled : (file : JournalFile) → IsSettled file → AreWithin (length file.source.bytes) file.since
unfolding AreWithin
within_settled file settled = subst (λ since. AreWithin (length file.source.bytes) since) (sym settled.since) tt

left_short : (file : JournalFile) (left : List ℕ) → Stands file → AreWithin (length file.source.bytes) file.since → CrashLeaves file left → length left ≤ length file.source.bytes
left_short file left stands within (mixes, leaves) = ⊎_elim
    (λ seen. let l = ap length seen in omega (arith, l))
    (λ reaches. reaches_short mixes (length file.source.bytes) file.flushed file.since left stands.keeps.long within reaches)
    leaves

pub no_more_left : CrashesLeaveNoMore
no_more_left file steps left settled on leaves =
    let stands = stands_behind file steps (stands_settled file settled) (onward_spare file steps on) in
    (has_flushed (file_behind file steps) left stands leaves, left_short (file_behind file steps) left stands (within_behind file steps on (within_settled file settled)) leaves)

-- ---- other bytes

torn_behind : (flushed others : List ℕ) (n : ℕ) → length others ≤ n → Torn (length flushed) n flushed (flushed ++ others)
torn_behind flushed others n le =
    let all = length-append flushed others in
    record {
      no_shorter = omega (arith, all);
      no_longer = omega (arith, all, le);
      below = λ i lt under. index_first i flushed others lt;
      above = λ i lt over. absurd (omega (arith, lt, over));
    }

pub any_bytes : AnyBytesMayStand
any_bytes mixes file appended others settled le =
    let flushed = file.flushed in
    let at = ap length settled.flushed in
    let torn : Torn (length file.source.bytes) (length appended) flushed (flushed ++ others)
    = subst (λ n. Torn n (length appended) flushed (flushed ++ others)) at (torn_behind flushed others (length appended) le) in
    inr (flushed, subst (λ since. Reaches mixes flushed since flushed) (sym settled.since) refl, (torn, λ mixing. record { torn = torn; each = λ i lt under. absurd (omega (arith, under, at)) }))

-- ---- a journal that is trimmed

begins_keeps : (first bytes : List ℕ) → BeginsWith first bytes → Keeps first bytes
begins_keeps first bytes begins_with =
    let long = ap length begins_with.is ∙ length-append first begins_with.behind in
    record {
      long = omega (arith, long);
      each = λ i lt. ap (λ b. slice_index b i) begins_with.is ∙ index_first i first begins_with.behind lt;
    }

keeps_begins : (first bytes : List ℕ) → Keeps first bytes → BeginsWith first bytes
keeps_begins first bytes keeps = record { behind = drop (length first) bytes; is = begins first bytes keeps.long keeps.each }

cut_keeps : (first before left : List ℕ) (place : ℕ) → length first ≤ place → Cut place before left → Keeps first before → Keeps first left
cut_keeps first before left place le cut kept =
    let long = kept.long in
    let longer = cut.no_shorter in
    record {
      long = omega (arith, long, longer, le);
      each = λ i lt. cut.below i (omega (arith, lt, long)) (omega (arith, lt, le)) ∙ kept.each i lt;
    }

pub trimmed_first : TrimsKeepFirst
trimmed_first first file keeps le =
    let now = trimmed_keeps first file.source.bytes file.source.place le (begins_keeps first file.source.bytes keeps.bytes) in
    record {
      bytes = keeps_begins first (take file.source.place file.source.bytes) now;
      left = λ left (leaves : CrashLeaves (file_after file (Trimmed false)) left). ⊎_elim
          (λ seen. keeps_begins first left (subst (λ bytes. Keeps first bytes) (sym seen) now))
          (λ reaches. keeps_begins first left (cut_keeps first reaches.0 left file.source.place le reaches.2 (begins_keeps first reaches.0 (keeps.left reaches.0 (leaves.0, inr reaches.1)))))
          leaves.1;
    }
