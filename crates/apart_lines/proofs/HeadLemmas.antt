-- The head of a journal, out of the text of a transcript that has no entries.
use Rattle.std.proofs.Common.{◌≡◌, ◌∙◌, ◌+◌, ◌-◌, ◌≤◌, ℕ, List, [], ◌∷◌, ◌++◌, length, take, drop, refl, sym, ap, arith, length-append}
use Rattle.std.specs.Prelude.{codes}
use Rattle.std.proofs.Math.Seq.{take-append_seam}
use Rattle.group_plan.specs.Plans.{PlanView}
use Rattle.field_texts.proofs.SmallNumbers.{one_digit}
use Rattle.event_schedule.specs.Transcripts.{no_entries}
use Rattle.transcript_text.specs.Spelling.{ended, head_text, entries_text, text_of, transcript_text}
use Rattle.transcript_text.specs.declared.version.Version.TheVariants.{Two}
use Rattle.apart_lines.specs.Heads.{plan_lines, journal_head}

abbrev first_line : List ℕ
first_line = ended (codes "meteragg transcript 2")

abbrev last_line : List ℕ
last_line = ended (codes "end," ++ 48 ∷ [])

whole_text : (plan : PlanView) → transcript_text (no_entries plan) ≡ first_line ++ (plan_lines plan ++ last_line)
unfolding text_of head_text entries_text plan_lines
whole_text plan = ap (λ (digits : List ℕ). head_text Two plan ++ ended (codes "end," ++ digits)) (sym (one_digit 0 48 [] (48 ∷ []) (omega arith) refl refl))

long : (body : List ℕ) → length (first_line ++ (body ++ last_line)) ≡ 28 + length body
long body = let both = length-append body last_line in omega (arith, both)

text_length : (plan : PlanView) (text : List ℕ) → text ≡ transcript_text (no_entries plan) → length text ≡ 28 + length (plan_lines plan)
text_length plan text is = ap length (is ∙ whole_text plan) ∙ long (plan_lines plan)

pub long_text : (plan : PlanView) (text : List ℕ) → text ≡ transcript_text (no_entries plan) → 28 ≤ length text
long_text plan text is = let n = text_length plan text is in omega (arith, n)

between : (plan : PlanView) (text : List ℕ) → text ≡ transcript_text (no_entries plan) → take (length text - 28) (drop 22 text) ≡ plan_lines plan
between plan text is =
    let n = text_length plan text is in
    let same : length text - 28 ≡ length (plan_lines plan) = omega (arith, n) in
    ap (λ k. take k (drop 22 text)) same
    ∙ ap (λ (t : List ℕ). take (length (plan_lines plan)) (drop 22 t)) (is ∙ whole_text plan)
    ∙ take-append_seam (plan_lines plan) last_line

pub journal_text : (plan : PlanView) (text inside before after : List ℕ) → text ≡ transcript_text (no_entries plan) → inside ≡ take (length text - 28) (drop 22 text) → before ≡ ended (codes "meteragg journal 1")
    → after ≡ before ++ inside → after ≡ journal_head plan
unfolding journal_head
journal_text plan text inside before after is cut first whole = whole ∙ ap (λ b. b ++ inside) first ∙ ap (λ i. ended (codes "meteragg journal 1") ++ i) (cut ∙ between plan text is)
