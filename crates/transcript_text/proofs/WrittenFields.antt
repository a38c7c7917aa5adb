-- Fields as they are written, one after another.
use Rattle.std.proofs.Common.{◌≡◌, ℕ, ◌+◌, ◌*◌, ◌/◌, ◌%◌, ◌<◌, ◌≤◌, ◌^◌, List, [], ◌∷◌, ◌++◌, length, get_or, take, drop, ◌-◌, decimal, refl, sym, ap, ◌∙◌, append_assoc, arith}
use Rattle.std.specs.List.{join_with_byte}
use Rattle.std.proofs.lemmas.Fmt.{decimal_digit, decimal_step}
use Rattle.std.proofs.lemmas.List.{take_all}
use Rattle.field_texts.specs.Parts.{parts}
use Rattle.field_texts.proofs.Cutting.{parts_some}
use Rattle.field_texts.proofs.TextLaws.{joined_parts}
use Rattle.transcript_text.specs.Written.{ahead_of}

-- ---- numbers

-- a text is its first byte and the others
pub opened : (text : List ℕ) → 1 ≤ length text → text ≡ get_or text 0 0 ∷ take (length text - 1) (drop 1 text)
opened [] some = absurd (omega arith)
opened (x ∷ xs) some =
    let others : length (x ∷ xs) - 1 ≡ length xs = omega arith in
    ap (λ q. x ∷ q) (sym (ap (λ n. take n xs) others ∙ take_all (length xs) xs (omega arith)))

pub one_digit : (text : List ℕ) (n : ℕ) → 1 ≤ length text → n < 10 → get_or text 0 0 ≡ 48 + n → text ≡ decimal n ++ take (length text - 1) (drop 1 text)
one_digit text n some few is =
    opened text some ∙ ap (λ b. b ∷ take (length text - 1) (drop 1 text)) is ∙ ap (λ q. q ++ take (length text - 1) (drop 1 text)) (sym (decimal_digit n few))

-- one digit more at the end
pub one_more : (n digit byte more : ℕ) → 1 ≤ n → digit < 10 → byte ≡ 48 + digit → more ≡ n * 10 + digit → more < 2 ^ 64 → decimal more ≡ decimal n ++ byte ∷ []
one_more n digit byte more some few is sum fits =
    let front : more / 10 ≡ n = omega (arith, sum, few) in
    let last : 48 + more % 10 ≡ byte = omega (arith, sum, few, is) in
    decimal_step more (omega (arith, sum, some)) fits ∙ ap (λ q. decimal q ++ (48 + more % 10) ∷ []) front ∙ ap (λ b. decimal n ++ b ∷ []) last

pub goes_on : (text rest : List ℕ) (n more : ℕ) → text ≡ decimal n ++ rest → 1 ≤ length rest → decimal more ≡ decimal n ++ get_or rest 0 0 ∷ [] → text ≡ decimal more ++ take (length rest - 1) (drop 1 rest)
goes_on text rest n more so some is =
    let after : List ℕ = take (length rest - 1) (drop 1 rest) in
    so ∙ ap (λ q. decimal n ++ q) (opened rest some) ∙ sym (append_assoc (decimal n) (get_or rest 0 0 ∷ []) after) ∙ ap (λ q. q ++ after) (sym is)

-- a comma stands behind the number
pub ends : (text rest : List ℕ) (n : ℕ) → text ≡ decimal n ++ rest → 1 ≤ length rest → get_or rest 0 0 ≡ 44 → text ≡ decimal n ++ 44 ∷ take (length rest - 1) (drop 1 rest)
ends text rest n so some is = so ∙ ap (λ q. decimal n ++ q) (opened rest some ∙ ap (λ b. b ∷ take (length rest - 1) (drop 1 rest)) is)

-- ---- texts that are cut

pub cut_text : (stop : ℕ) (text field rest : List ℕ) → parts stop text ≡ field ∷ parts stop rest → text ≡ field ++ stop ∷ rest
cut_text stop text field rest is = joined_parts stop text (field ∷ parts stop rest) is ∙ by_parts (parts stop rest) (parts_some stop rest) refl
  where
    by_parts : (ps : List (List ℕ)) → 0 < length ps → parts stop rest ≡ ps → join_with_byte stop (field ∷ ps) ≡ field ++ stop ∷ rest
    by_parts [] some is = absurd (omega arith)
    by_parts (p ∷ ps) some is = ap (λ q. field ++ stop ∷ q) (sym (joined_parts stop rest (p ∷ ps) is))

-- ---- a line of fields

pub joined_ahead : (fs : List (List ℕ)) (last : List ℕ) → join_with_byte 44 (fs ++ last ∷ []) ≡ ahead_of fs last
joined_ahead [] last = refl
joined_ahead (f ∷ []) last = refl
joined_ahead (f ∷ g ∷ fs) last = ap (λ q. f ++ 44 ∷ q) (joined_ahead (g ∷ fs) last)
