use Rattle.std.proofs.Common.{◌≡◌, ◌∙◌, ◌<◌, ◌+◌, ◌++◌, ◌∷◌, [], List, ℕ, zero, suc, ap, sym, length, get_or, take, add-one, arith, append-nil, append_assoc}
use Rattle.command_words.specs.Outcomes.{shown_byte, shown_name}
use Rattle.command_words.proofs.complaints.named.Goals as goal

-- one byte more is shown
shown_more : (name : List ℕ) (i : ℕ) → i < length name → shown_name (take (i + 1) name) ≡ shown_name (take i name) ++ shown_byte (get_or name i 0)
unfolding shown_name
shown_more [] i h = absurd (omega arith)
shown_more (c ∷ cs) zero h = append-nil (shown_byte c)
shown_more (c ∷ cs) (suc i) h = simp add-one (ap (λ (l : List ℕ). shown_byte c ++ l) (simp add-one at (shown_more cs i (omega arith))) ∙ sym (append_assoc (shown_byte c) (shown_name (take i cs)) (shown_byte (get_or cs i 0))))

pub loop-byte-init : goal.loop-byte-init
unfolding shown_name
loop-byte-init c = c.in_ok-text.ensures.items ∙ c.as_bytes.ensures.value ∙ sym (append-nil c.args.before.now)

pub loop-byte-preserved : goal.loop-byte-preserved
loop-byte-preserved c =
    let name = c.args.name.now in
    let at = c.loop-byte.byte-index in
    let inside : at < length name = let long = ap length c.as_bytes-byte-items.ensures.value in omega (arith, long, c.loop-byte-test.true) in
    c.in_ok-push_shown.ensures ∙ ap (λ (l : List ℕ). c.loop-byte.text.items ++ shown_byte (get_or l at 0)) c.as_bytes-byte-items.ensures.value ∙ ap (λ (l : List ℕ). l ++ shown_byte (get_or name at 0)) c.loop-byte.invariant
    ∙ append_assoc c.args.before.now (shown_name (take at name)) (shown_byte (get_or name at 0))
    ∙ ap (λ (l : List ℕ). c.args.before.now ++ l) (sym (shown_more name at inside))
