use Rattle.std.proofs.lemmas.Result.{on_ok_weaker}
use Rattle.transcript_text.proofs.LinesText.{all_written}
use Rattle.transcript_text.proofs.writing.put_entries.Goals as goal

pub returns : goal.returns
returns c =
    on_ok_weaker c.put_end.result (λ put. all_written _ _ _ _ _ c.len-entries.ensures.len c.in_ok-put_lines.ensures.lines put) c.put_end.ensures
