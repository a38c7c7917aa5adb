use Rattle.std.proofs.Common.{◌∙◌, [], refl}
use Rattle.file_commands.proofs.AuditEndings.{audit_ends, audit_refused}
use Rattle.file_commands.proofs.auditing.audit.Goals as goal

pub finish-requires-after_bounds : goal.finish-requires-after_bounds
finish-requires-after_bounds g c κs within =
    let read = c.in-Ok.ensures.ends in
    (read.0, (read.4 [] (search (c.type_bounds), c.new.ensures)).1)

pub returns-in-Err-audit_texts-clause-ends : goal.returns-in-Err-audit_texts-clause-ends
returns-in-Err-audit_texts-clause-ends g c =
    let read = c.in-Ok.ensures.ends in
    let taken = (read.4 [] (search (c.type_bounds), c.new.ensures)).1 in
    audit_refused _ _ _ _ _ read.0 _ _ _ read.1 read.2 read.3 refl c.deref.ensures.value (c.in-Err-audit_texts.ensures.ends read.0 (c.finish.ensures read.0 taken))

pub returns-clause-ends : goal.returns-clause-ends
returns-clause-ends g c =
    let read = c.in-Ok.ensures.ends in
    let taken = (read.4 [] (search (c.type_bounds), c.new.ensures)).1 in
    audit_ends _ _ _ _ _ _ _ read.0 _ _ _ _ read.1 read.2 read.3 refl c.deref.ensures.value
    (c.in-Ok-audit_texts.ensures.ends read.0 (c.finish.ensures read.0 taken)) (c.as_bytes.ensures.value ∙ c.in-Ok-audited_line.ensures) c.say.ensures.ends
