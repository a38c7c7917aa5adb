use Rattle.std.proofs.Common.{◌≡◌, ◌∙◌, ◌++◌, ◌∷◌, [], List, ℕ, true, ap, nat_lt, length, min, take, arith}
use Rattle.std.proofs.lemmas.Bool.{lt-ltb}
use Rattle.csv.specs.Records.{fields_of}
use Rattle.plan_files.specs.KeptRows.{most_bytes, most_fields}
use Rattle.plan_files.proofs.KeptLemmas.{take_few}
use Rattle.plan_files.proofs.kept_row.keep.Goals as goal

pub returns-in_ok-push_field-clause-kept : goal.returns-in_ok-push_field-clause-kept
returns-in_ok-push_field-clause-kept c =
    let before = fields_of c.args.kept.now in
    let few : nat_lt (length before) most_fields ≡ true = lt-ltb _ _ (let l = c.len.ensures in let t = c.if-len-lt-MOST_FIELDS.true in omega (arith, l, t)) in
    let least : c.min.result ≡ min (length c.args.text.now) most_bytes = c.min.ensures in
    rw few (c.in_ok-push_field.ensures.fields ∙ ap (λ (p : List ℕ). before ++ ((p ++ take c.min.result c.args.text.now) ∷ [])) c.requires ∙ ap (λ (t : List ℕ). before ++ (t ∷ [])) (ap (λ n. take n c.args.text.now) least ∙ take_few most_bytes c.args.text.now))
