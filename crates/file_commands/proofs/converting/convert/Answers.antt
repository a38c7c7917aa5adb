use Rattle.std.proofs.Common.{refl, [], ◌∙◌}
use Rattle.transcript_text.specs.declared.version.Version.TheVariants.{One}
use Rattle.file_commands.proofs.ConvertEndings.{convert_ends, convert_refused, old_text}
use Rattle.file_commands.proofs.converting.convert.Goals as goal

pub kept-requires-after_bounds : goal.kept-requires-after_bounds
kept-requires-after_bounds g c κs within =
    let poured = c.in-Ok.ensures.ends in
    (One, poured.0, (poured.3 [] (search (c.type_bounds), c.new.ensures)).1)

pub returns-in-Err-old_transcript-clause-ends : goal.returns-in-Err-old_transcript-clause-ends
returns-in-Err-old_transcript-clause-ends g c =
    let poured = c.in-Ok.ensures.ends in
    let taken = (poured.3 [] (search (c.type_bounds), c.new.ensures)).1 in
    convert_refused _ _ _ _ _ poured.0 poured.1 poured.2 (c.in-Err-old_transcript.ensures.refused poured.0 (c.kept.ensures.exact One poured.0 taken))

pub returns-clause-ends : goal.returns-clause-ends
returns-clause-ends g c =
    let poured = c.in-Ok.ensures.ends in
    let taken = (poured.3 [] (search (c.type_bounds), c.new.ensures)).1 in
    let kept = c.kept.ensures in
    let text = old_text poured.0 _ c.kept.result c.in-Ok-old_transcript.ensures.same (kept.exact One poured.0 taken) (kept.head One poured.0 taken) (kept.law One poured.0 taken) in
    convert_ends _ _ _ _ _ _ _ _ _ _ _ _ poured.1 poured.2 refl text.0 text.1
    refl (c.as_bytes.ensures.value ∙ c.in-Ok-converted_line.ensures) c.len.ensures.len
    c.put_one.ensures.ends
