use Rattle.std.proofs.Common.{get_or, length, arith}
use Rattle.plan_files.proofs.FieldLemmas.{no_end_byte, plain_field}
use Rattle.plan_files.proofs.fields.plain_end.Goals as goal

pub returns-in-Some-clause-field : goal.returns-in-Some-clause-field
returns-in-Some-clause-field c =
    let f = c.in-Some.ensures in
    let inside = f.0.high in
    plain_field c.args.bytes.now c.in-Some.end c.requires (omega (arith, inside)) (λ lt. f.1) (λ k lt. no_end_byte (get_or c.args.bytes.now k 0) (f.0.before k (omega arith) lt))

pub returns-in-None-clause-field : goal.returns-in-None-clause-field
returns-in-None-clause-field c =
    let bytes = c.args.bytes.now in
    plain_field bytes (length bytes) c.requires (omega arith) (λ lt. absurd (omega (arith, lt))) (λ k lt. no_end_byte (get_or bytes k 0) (c.in-None.ensures k (omega arith) lt))
