-- Words, keys and readings, drawn one after another.
use Rattle.std.proofs.Common.{◌≡◌, ◌∙◌, ◌<◌, ◌+◌, ◌-◌, ◌*◌, ◌%◌, ◌^◌, ℕ, zero, suc, List, [], ◌∷◌, ◌++◌, length, take, Some, sym, ap, arith, append_assoc, add-one, add-zero, length-append, length-drop, length-take-le, drop}
use Rattle.std.proofs.lemmas.List.{append-nil, take_all}
use Rattle.std.proofs.lemmas.Slice.{take-put_mid}
use borrow.Rule.Slice.PartMut.{post_of, put_mid}
use Rattle.std.proofs.lemmas.Grind.{flat_map-append}
use Rattle.std.specs.Int.{w32, to_le_bytes}
use Rattle.std.specs.List.{flat_map, range_with_len}
use Rattle.pair_keys.specs.declared.KeyId.{KeyId}
use Rattle.plan_files.specs.PlainRows.{row_text}
use Rattle.plan_files.specs.Spelling.{key_fields}
use Rattle.rand_chacha.specs.ChaCha.{ChaCha, next_word}
use Rattle.load_maker.specs.Drawing.{ahead, key_drawn, word_ahead}
use Rattle.load_maker.specs.Writing.{after_keys, keys_text}

-- ---- streams

pub ahead_none : (stream : ChaCha) → stream ≡ ahead stream 0
ahead_none stream = ap (λ p. record stream { word_pos = p }) (sym (add-zero stream.word_pos))

pub ahead_more : (stream : ChaCha) (a b c : ℕ) → a + b ≡ c → ahead (ahead stream a) b ≡ ahead stream c
ahead_more stream a b c sum = ap (λ p. record stream { word_pos = p }) (let e : stream.word_pos + a + b ≡ stream.word_pos + c = omega (arith, sum) in e)

-- the word that is drawn, and the stream after it
pub word_drawn : (start now next : ChaCha) (word k : ℕ) → start.word_pos + 8 < 2 ^ 68 → k < 8 → now ≡ ahead start k → (word, next) ≡ next_word 10 now
    → (word ≡ word_ahead start k) × (next ≡ ahead start (k + 1))
word_drawn start now next word k room lt here drawn =
    let at = drawn ∙ ap (next_word 10) here in
    let place : (start.word_pos + k + 1) % 2 ^ 68 ≡ start.word_pos + (k + 1) = omega (arith, room, lt) in
    (ap (λ p. p.0) at, ap (λ p. p.1) at ∙ ap (λ p. record start { word_pos = p }) place)

-- ---- ranges

range_last : (a n j : ℕ) → a + n ≡ j → range_with_len a (suc n) ≡ range_with_len a n ++ j ∷ []
range_last a zero j e = ap (λ k. k ∷ []) (let s : a ≡ j = omega (arith, e) in s)
range_last a (suc n) j e = ap (λ l. a ∷ l) (range_last (a + 1) n j (omega (arith, e)))

pub flat_more : {X : Type 0} (f : ℕ → List X) (a n j : ℕ) → a + n ≡ j → flat_map f (range_with_len a (n + 1)) ≡ flat_map f (range_with_len a n) ++ f j
flat_more f a n j e =
    ap (λ k. flat_map f (range_with_len a k)) (add-one n)
    ∙ (ap (flat_map f) (range_last a n j e) ∙ (flat_map-append f (range_with_len a n) (j ∷ []) ∙ ap (λ l. flat_map f (range_with_len a n) ++ l) (append-nil (f j))))

-- what is written behind what was written
pub written_more : (old mid new xs ys zs : List ℕ) → mid ≡ old ++ xs → new ≡ mid ++ ys → zs ≡ xs ++ ys → new ≡ old ++ zs
written_more old mid new xs ys zs before now all =
    now ∙ (ap (λ l. l ++ ys) before ∙ (append_assoc old xs ys ∙ ap (λ l. old ++ l) (sym all)))

-- ---- the bytes of a key

-- the bytes of the words so far
abbrev pub bytes_drawn : ChaCha → ℕ → List ℕ
bytes_drawn start n = flat_map (λ k. to_le_bytes w32 (word_ahead start k)) (range_with_len 0 n)

pub bytes_more : (start : ChaCha) (key mid : List ℕ) (place : ℕ) → length key ≡ 32 → place < 8 → mid ≡ to_le_bytes w32 (word_ahead start place)
    → take (4 * place) key ≡ bytes_drawn start place
    → take (4 * (place + 1)) (put_mid (4 * place) (4 * place + 4 - 4 * place) key mid) ≡ bytes_drawn start (place + 1)
bytes_more start key mid place long lt is before =
    let four : length mid ≡ 4 = ap length is in
    take-put_mid (4 * place) (4 * place + 4 - 4 * place) key mid (4 * (place + 1)) (omega (arith, four)) (omega (arith, long, lt))
    ∙ (ap (λ l. l ++ mid) before ∙ (ap (λ l. bytes_drawn start place ++ l) is
    ∙ sym (flat_more (λ k. to_le_bytes w32 (word_ahead start k)) 0 place place (omega arith))))

pub mid_long : (key mid : List ℕ) (place : ℕ) → length key ≡ 32 → place < 8 → length mid ≡ 4 → length (put_mid (4 * place) (4 * place + 4 - 4 * place) key mid) ≡ 32
mid_long key mid place long lt four =
    let a = 4 * place in
    let k = 4 * place + 4 - 4 * place in
    let left = length-take-le a key (omega (arith, long, lt)) in
    let right = length-drop a key in
    let after = length-drop k (drop a key) in
    let both = length-append (take a key) (mid ++ post_of a k key) in
    let more = length-append mid (post_of a k key) in
    omega (arith, left, right, after, both, more, long, four, lt)

pub bytes_all : (start : ChaCha) (key : List ℕ) (place : ℕ) → length key ≡ 32 → place ≡ 8 → take (4 * place) key ≡ bytes_drawn start place → key ≡ key_drawn start
unfolding key_drawn
bytes_all start key place long end is =
    sym (take_all (4 * place) key (omega (arith, long, end))) ∙ (is ∙ ap (bytes_drawn start) end)

-- ---- keys

pub keys_append : (stream : ChaCha) (xs ys : List KeyId) → keys_text stream (xs ++ ys) ≡ keys_text stream xs ++ keys_text (after_keys stream xs) ys
unfolding keys_text
keys_append stream [] ys = ap (λ s. keys_text s ys) (ahead_none stream)
keys_append stream (x ∷ xs) ys =
    ap (λ l. row_text (key_fields x (Some (key_drawn stream))) ++ l)
    (keys_append (ahead stream 8) xs ys
    ∙ ap (λ s. keys_text (ahead stream 8) xs ++ keys_text s ys) (ahead_more stream 8 (8 * length xs) (8 * suc (length xs)) (omega arith)))
    ∙ sym (append_assoc (row_text (key_fields x (Some (key_drawn stream)))) (keys_text (ahead stream 8) xs) (keys_text (after_keys stream (x ∷ xs)) ys))

pub key_more : (stream now : ChaCha) (xs : List KeyId) (x : KeyId) → now ≡ after_keys stream xs
    → keys_text stream (xs ++ x ∷ []) ≡ keys_text stream xs ++ row_text (key_fields x (Some (key_drawn now)))
unfolding keys_text
key_more stream now xs x here =
    keys_append stream xs (x ∷ [])
    ∙ ap (λ l. keys_text stream xs ++ l)
    (append-nil (row_text (key_fields x (Some (key_drawn (after_keys stream xs))))) ∙ ap (λ s. row_text (key_fields x (Some (key_drawn s)))) (sym here))

pub keys_more : (stream now : ChaCha) (xs ys : List KeyId) → now ≡ after_keys stream xs → keys_text stream (xs ++ ys) ≡ keys_text stream xs ++ keys_text now ys
keys_more stream now xs ys here = keys_append stream xs ys ∙ ap (λ s. keys_text stream xs ++ keys_text s ys) (sym here)

length_append : (xs ys : List KeyId) → length (xs ++ ys) ≡ length xs + length ys
length_append [] ys = omega arith
length_append (x ∷ xs) ys = let e = length_append xs ys in omega (arith, e)

pub after_more : (stream now next : ChaCha) (xs ys : List KeyId) → now ≡ after_keys stream xs → next ≡ after_keys now ys → next ≡ after_keys stream (xs ++ ys)
after_more stream now next xs ys here there =
    let long = length_append xs ys in
    there ∙ (ap (λ s. after_keys s ys) here ∙ ahead_more stream (8 * length xs) (8 * length ys) (8 * length (xs ++ ys)) (omega (arith, long)))
