-- From what the crates below say of a run that goes on from a cut to what the program says of it.
use Rattle.std.proofs.Common.{Ok, ◌≡◌, ◌∙◌, List, ap, sym, ◌≤◌, ℕ, length, length-append, take, arith}
use Rattle.event_schedule.specs.Transcripts.{TranscriptView}
use Rattle.tick_run.specs.declared.finished.Finished.{Finished}
use Rattle.cut_resume.specs.Resumed.{IsResumed}
use Rattle.command_texts.specs.declared.sharing.Sharing.TheVariants.{WithEach}
use Rattle.command_texts.specs.declared.run.RunTexts.{RunTexts}
use Rattle.command_texts.specs.ResumeRuns.{ResumeTextsEnd, BeginsWith}
use Rattle.command_texts.specs.RunTexts.{AreTextsOf, texts_of}
use Rattle.command_texts.specs.Runs.{Values}
use Rattle.command_texts.proofs.RunLemmas.{all_told}
use Rattle.group_plan.specs.Tables.{ReadingsView}
use Rattle.link_lanes.specs.Lanes.{Slot}
use Rattle.pair_keys.specs.Keys.{Keys}
use Rattle.std.proofs.Math.Seq.{take-append_seam}
use Rattle.transcript_text.specs.Writing.{begun_text}

pub resumes : (v : Values) (cut : TranscriptView) (f : Finished) (kept : RunTexts) → IsResumed v.readings v.file.keys v.slots cut f → AreTextsOf WithEach f.book f.transcript (texts_of kept) → ResumeTextsEnd v cut (Ok kept)
resumes v cut f kept resumed written = λ cupboard bytes are of_plan.
    let all = all_told WithEach cupboard bytes.plan bytes.readings v f.book f.transcript (texts_of kept) are resumed.finished written in
    record {
      made = record { values = v; entries = f.transcript.entries; of_bytes = are; sound = all.0; run = all.1; told = all.2 };
      cut = cut;
      of_plan = of_plan;
      more = resumed.more;
      begins = resumed.begins;
    }

-- its transcript begins with the cut's entries
pub begins_with : (readings : ReadingsView) (keys : Keys) (slots : List Slot) (cut : TranscriptView) (f : Finished) (t : TranscriptView) → cut.plan ≡ readings.plan → IsResumed readings keys slots cut f → t ≡ f.transcript
    → BeginsWith cut t
begins_with readings keys slots cut f t plan resumed same = record {
  of_plan = ap (λ (t : TranscriptView). t.plan) same ∙ resumed.finished.plan ∙ sym plan;
  more = resumed.more;
  begins = ap (λ (t : TranscriptView). t.entries) same ∙ resumed.begins;
}

-- so its text begins with the text of the cut's entries
pub begun_with : (cut t : TranscriptView) (text : List ℕ) (n : ℕ) → BeginsWith cut t → n ≡ length cut.entries → text ≡ begun_text cut.plan cut.entries
    → (n ≤ length t.entries) × (text ≡ begun_text t.plan (take n t.entries))
begun_with cut t text n begins n_is is =
    let long = ap length begins.begins in
    let both = length-append cut.entries begins.more in
    let first : take (length cut.entries) t.entries ≡ cut.entries = ap (take (length cut.entries)) begins.begins ∙ take-append_seam cut.entries begins.more in (
      omega (arith, long, both, n_is),
      is ∙ ap (λ p. begun_text p cut.entries) (sym begins.of_plan) ∙ ap (begun_text t.plan) (sym first) ∙ ap (λ k. begun_text t.plan (take k t.entries)) (sym n_is),
    )
