-- Faults as answers.
use Rattle.std.proofs.Common.{◌≡◌, Result, Err}
use Rattle.transcript_text.specs.declared.fault.ReadError.{ReadError}
use Rattle.transcript_text.specs.declared.fault.ReadError.TheVariants as fault
use Rattle.transcript_text.specs.Reading.{Fails}

-- the fault that there is may be answered
pub failed : {Y : Type 0} (e : ReadError) (read : Result Y ReadError) → read ≡ Err e → Fails e read
failed (fault.Head n) read h = h
failed (fault.Line n) read h = h
failed (fault.Field n k) read h = h
failed (fault.NoEnd n) read h = h
failed (fault.Count n) read h = h
failed (fault.After n) read h = h
failed fault.Memory read h = tt
