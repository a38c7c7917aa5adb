-- The bytes of a text before its `end` line.
use Rattle.std.proofs.Common.{◌≡◌, ℕ, ◌+◌, ◌-◌, ◌<◌, ◌≤◌, ◌^◌, ◌==◌, Bool, true, false, List, [], ◌∷◌, ◌++◌, length, length-append, length-take, take, drop, refl, sym, ap, ◌∙◌, subst, arith, append-nil, append_assoc}
use Rattle.std.specs.Prelude.{codes, decimal}
use Rattle.std.specs.List.{list_any}
use Rattle.std.proofs.lemmas.Bool.Decides.{nat_tests}
use Rattle.std.proofs.lemmas.List.{append_cancel_right, drop_all, take-append-drop, take_all}
use Rattle.std.proofs.Math.Seq.{take-append_seam}
use Rattle.field_texts.specs.Parts.{parts}
use Rattle.field_texts.proofs.Cutting.{parts_some}
use Rattle.field_texts.proofs.TextLaws.{clean, clean_append, clean_decimal, parts_clean}
use Rattle.event_schedule.specs.Transcripts.{TranscriptView}
use Rattle.transcript_text.specs.Faults.{lines_text as all_lines}
use Rattle.transcript_text.specs.Spelling.{ended, entries_text, head_text, text_of, transcript_text}
use Rattle.transcript_text.specs.Writing.{begun_text, lines_text}
use Rattle.transcript_text.specs.declared.version.Version.TheVariants.{Two}
use Rattle.cut_resume.specs.Cut.{after_begin, completed, end_line, is_end, whole_lines}
use Rattle.cut_resume.proofs.Ended.{few_after, is_ended, is_more}
use Rattle.cut_resume.proofs.LastLine.{last_push, onto_append}
use Rattle.cut_resume.proofs.WholeLines.{last_part}

-- a text and its `end` line
pub text_is_ended : (t : TranscriptView) → transcript_text t ≡ begun_text t.plan t.entries ++ ended (end_line (length t.entries))
unfolding text_of entries_text
text_is_ended t =
    let count : 0 + length t.entries ≡ length t.entries = omega arith in
    ap (λ n. head_text Two t.plan ++ (lines_text t.entries ++ ended (end_line n))) count ∙ sym (append_assoc (head_text Two t.plan) (lines_text t.entries) (ended (end_line (length t.entries))))

-- a text is cut at its last stop
parts_last : (stop : ℕ) (a b : List ℕ) → clean stop b ≡ true → parts stop (a ++ stop ∷ b) ≡ parts stop a ++ b ∷ []
parts_last stop [] b h = let t : (stop == stop) ≡ true = grind (arith, nat_tests) in rw (t, parts_clean stop b h) refl
parts_last stop (c ∷ cs) b h = by_test (c == stop) refl (parts_last stop cs b h)
  where
    by_test : (q : Bool) → (c == stop) ≡ q → parts stop (cs ++ stop ∷ b) ≡ parts stop cs ++ b ∷ [] → parts stop ((c ∷ cs) ++ stop ∷ b) ≡ parts stop (c ∷ cs) ++ b ∷ []
    by_test true t r = rw (t, r) refl
    by_test false t r = rw (t, r) (onto_append c (parts stop cs) (b ∷ []) (parts_some stop cs))

-- what an `end` line has behind its comma
abbrev behind : ℕ → List ℕ
behind n = decimal n ++ 10 ∷ []

behind_last : (xs : List ℕ) (n : ℕ) → n < 2 ^ 64 → last_part (parts 44 (xs ++ ended (end_line n))) ≡ behind n
behind_last xs n few =
    let is : xs ++ ended (end_line n) ≡ (xs ++ codes "end") ++ 44 ∷ behind n = sym (append_assoc xs (codes "end") (44 ∷ behind n)) in
    let no_comma : clean 44 (behind n) ≡ true = clean_append 44 (decimal n) (10 ∷ []) (clean_decimal 44 n (omega arith) few) refl in
    ap (λ z. last_part (parts 44 z)) is ∙ ap last_part (parts_last 44 (xs ++ codes "end") (behind n) no_comma) ∙ last_push (parts 44 (xs ++ codes "end")) (behind n)

-- two texts that are the same with an `end` line are the same without
pub same_begun : (xs ys : List ℕ) (m n : ℕ) → m < 2 ^ 64 → n < 2 ^ 64 → xs ++ ended (end_line m) ≡ ys ++ ended (end_line n) → xs ≡ ys
same_begun xs ys m n few_m few_n same =
    let numbers : behind m ≡ behind n = sym (behind_last xs m few_m) ∙ ap (λ z. last_part (parts 44 z)) same ∙ behind_last ys n few_n in
    let ends : ended (end_line m) ≡ ended (end_line n) = ap (λ d. codes "end," ++ d) numbers in
    append_cancel_right xs ys (ended (end_line n)) (ap (λ e. xs ++ e) (sym ends) ∙ same)

-- the first bytes of a text that goes on with an `end` line, without it
module _ (bytes begun end : List ℕ) (n : ℕ) (within : n ≤ length bytes) (is : take n bytes ≡ begun ++ end) where
  pub long : n ≡ length begun + length end
  long = let all = length-take n bytes in let parts = length-append begun end in let same = ap length is in omega (arith, all, parts, same, within)

  pub begun_is : take (n - length end) bytes ≡ begun
  begun_is =
      let count : n - length end ≡ length begun = (let l = long in omega (arith, l)) in
      let all : bytes ≡ begun ++ (end ++ drop n bytes) = sym (take-append-drop n bytes) ∙ ap (λ l. l ++ drop n bytes) is ∙ append_assoc begun end (drop n bytes) in
      ap (λ k. take k bytes) count ∙ ap (take (length begun)) all ∙ take-append_seam begun (end ++ drop n bytes)

-- ---- the bytes of a text that is completed to that of a transcript

module _ (bytes : List ℕ) (t : TranscriptView) (n : ℕ) (few : length bytes < 2 ^ 63) (whole : take n bytes ≡ all_lines (whole_lines bytes)) (completes : completed bytes ≡ transcript_text t) where
  pub with_its_end : list_any is_end (whole_lines bytes) ≡ true → take n bytes ≡ begun_text t.plan t.entries ++ ended (end_line (length t.entries))
  with_its_end any = whole ∙ sym (is_ended bytes few any) ∙ completes ∙ text_is_ended t

  pub without_end : length t.entries < 2 ^ 64 → list_any is_end (whole_lines bytes) ≡ false → take n bytes ≡ begun_text t.plan t.entries
  without_end few_entries none =
      same_begun (take n bytes) (begun_text t.plan t.entries) (after_begin (whole_lines bytes)) (length t.entries) (few_after bytes few) few_entries
      (ap (λ l. l ++ ended (end_line (after_begin (whole_lines bytes)))) whole ∙ sym (is_more bytes few none) ∙ completes ∙ text_is_ended t)
