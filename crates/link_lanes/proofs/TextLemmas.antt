-- The parts of a text, and what is read of them.
use Rattle.std.proofs.Common.{◌≡◌, ◌∙◌, sym, ap, refl, ℕ, zero, suc, ◌+◌, ◌<◌, ◌==◌, Bool, true, false, cond, List, [], ◌∷◌, ◌++◌, length, take, get_or, Option, Some, None, arith, add-one, take-suc}
use Rattle.std.proofs.lemmas.List.Splits.{slice_split-cons_no, slice_split-cons_yes}
use Rattle.std.specs.List.{slice_split, onto_first}
use Rattle.std.specs.Option.{option_map, option_zip}
use Rattle.field_texts.specs.Parts.{parts}
use Rattle.link_lanes.specs.Texts.{two, four, each, passing}

-- ---- parts

-- there is a first part
pub first_part : {X : Type 0} (p : X → Bool) (xs : List X) → (a : List X) × (rest : List (List X)) × (slice_split p xs ≡ a ∷ rest)
first_part p [] = ([], [], refl)
first_part {X} p (x ∷ xs) = by_case (p x) refl (first_part p xs)
  where
    by_case : (b : Bool) → p x ≡ b → (a : List X) × (rest : List (List X)) × (slice_split p xs ≡ a ∷ rest) → (a : List X) × (rest : List (List X)) × (slice_split p (x ∷ xs) ≡ a ∷ rest)
    by_case true is h = ([], slice_split p xs, slice_split-cons_yes p x xs is)
    by_case false is h = (x ∷ h.0, h.1, slice_split-cons_no p x xs is ∙ ap (onto_first x) h.2)

-- three parts or more are not two
pub more_than_two : (a b : List ℕ) (mark : ℕ) (text : List ℕ) → two (a ∷ b ∷ parts mark text) ≡ None
more_than_two a b mark text =
    let h = first_part (λ c. c == mark) text in
    ap (λ ps. two (a ∷ b ∷ ps)) h.2

-- two parts behind two others
pub four_parts : (a b c d : List ℕ) (ps : List (List ℕ)) → Some (c, d) ≡ two ps → Some (a, b, c, d) ≡ four (a ∷ b ∷ ps)
four_parts a b c d [] e = absurd cc
four_parts a b c d (p ∷ []) e = absurd cc
four_parts a b c d (p ∷ q ∷ []) e =
    let same : ◌≡◌ {A = List ℕ × List ℕ} (c, d) (p, q) = cc in
    ap (λ (x : List ℕ × List ℕ). Some (a, b, x.0, x.1)) same
four_parts a b c d (p ∷ q ∷ r ∷ ps) e = absurd cc

-- ---- what is read of each part

abbrev joined : {X : Type 0} → Option X → Option (List X) → Option (List X)
joined a b = option_map (λ both. both.0 ∷ both.1) (option_zip a b)

both_there : {X : Type 0} (a : Option X) (b : Option (List X)) (xs : List X) → joined a b ≡ Some xs → (y : X) × (ys : List X) × (a ≡ Some y) × (b ≡ Some ys) × (xs ≡ y ∷ ys)
both_there (Some y) (Some ys) xs e = (y, ys, refl, refl, cc)
both_there (Some y) None xs e = absurd cc
both_there None b xs e = absurd cc

no_rest : {X : Type 0} (a : Option X) → joined a None ≡ None
no_rest None = refl
no_rest (Some y) = refl

-- one part more
pub each-more : {X : Type 0} (read : List ℕ → Option X) (ps : List (List ℕ)) (p : List ℕ) (xs : List X) (x : X) → each read ps ≡ Some xs → read p ≡ Some x → each read (ps ++ p ∷ []) ≡ Some (xs ++ x ∷ [])
each-more read [] p xs x e h =
    let none : xs ≡ [] = cc in
    ap (λ o. joined o (Some [])) h ∙ ap (λ l. Some (l ++ x ∷ [])) (sym none)
each-more read (q ∷ ps) p xs x e h =
    let s = both_there (read q) (each read ps) xs e in
    ap (λ o. joined o (each read (ps ++ p ∷ []))) s.2 ∙ ap (λ o. joined (Some s.0) o) (each-more read ps p s.1 x s.3 h) ∙ ap (λ l. Some (l ++ x ∷ [])) (sym s.4)

-- a part that can't be read
pub each-none : {X : Type 0} (read : List ℕ → Option X) (ps : List (List ℕ)) (i : ℕ) (d : List ℕ) → i < length ps → read (get_or ps i d) ≡ None → each read ps ≡ None
each-none read [] i d lt e = absurd (omega arith)
each-none read (q ∷ ps) zero d lt e = ap (λ o. joined o (each read ps)) e
each-none read (q ∷ ps) (suc i) d lt e = ap (joined (read q)) (each-none read ps i d (omega arith) e) ∙ no_rest (read q)

pub each-length : {X : Type 0} (read : List ℕ → Option X) (ps : List (List ℕ)) (xs : List X) → each read ps ≡ Some xs → length xs ≡ length ps
each-length read [] xs e = let none : xs ≡ [] = cc in ap length none
each-length read (q ∷ ps) xs e =
    let s = both_there (read q) (each read ps) xs e in
    ap length s.4 ∙ ap suc (each-length read ps s.1 s.3)

-- where no list as long as the parts passes, nothing is read of them
pub too_long : {X : Type 0} (read : List ℕ → Option X) (test : List X → Bool) (ps : List (List ℕ)) → ((xs : List X) → length xs ≡ length ps → test xs ≡ false) → passing test (each read ps) ≡ None
too_long {X} read test ps h = by_case (each read ps) refl
  where
    by_case : (o : Option (List X)) → each read ps ≡ o → passing test o ≡ None
    by_case None e = refl
    by_case (Some xs) e = ap (λ b. cond b (Some xs) None) (h xs (each-length read ps xs e))

-- the part at i is read too
pub each-next : {X : Type 0} (read : List ℕ → Option X) (ps : List (List ℕ)) (i : ℕ) (p : List ℕ) (xs : List X) (x : X) → each read (take i ps) ≡ Some xs → (i < length ps) × (p ≡ get_or ps i p) → read p ≡ Some x → each read (take (i + 1) ps) ≡ Some (xs ++ x ∷ [])
each-next read ps i p xs x e at h =
    let more : take (i + 1) ps ≡ take i ps ++ p ∷ [] = rw add-one (take-suc ps i p at.0) ∙ ap (λ z. take i ps ++ z ∷ []) (sym at.1) in
    ap (each read) more ∙ each-more read (take i ps) p xs x e h
