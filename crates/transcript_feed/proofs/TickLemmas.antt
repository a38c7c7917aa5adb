-- Ticks that don't fall, over entries and then more entries.
use Rattle.std.proofs.Common.{◌≡◌, ℕ, List, [], ◌∷◌, ◌++◌, refl}
use Rattle.event_schedule.specs.declared.Entry.{Entry}
use Rattle.event_schedule.specs.Transcripts.{NeverFalls, last_tick_from}

-- the last tick of entries and then more entries
pub last_of_both : (last : ℕ) (es more : List Entry) → last_tick_from last (es ++ more) ≡ last_tick_from (last_tick_from last es) more
last_of_both last [] more = refl
last_of_both last (e ∷ es) more = last_of_both e.tick es more

-- ticks that don't fall over both don't fall over the first ones
pub first_rise : (last : ℕ) (es more : List Entry) → NeverFalls last (es ++ more) → NeverFalls last es
first_rise last [] more rise = tt
first_rise last (e ∷ es) more rise = (rise.0, first_rise e.tick es more rise.1)

-- and not behind them
pub others_rise : (last : ℕ) (es more : List Entry) → NeverFalls last (es ++ more) → NeverFalls (last_tick_from last es) more
others_rise last [] more rise = rise
others_rise last (e ∷ es) more rise = others_rise e.tick es more rise.1
