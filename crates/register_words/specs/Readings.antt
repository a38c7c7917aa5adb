-- The words of readings in the further registers.
use Rattle.std.specs.Prelude.{◌≡◌, ℕ, IfSome, length}
use Rattle.group_plan.specs.Tables.{ReadingsView}
use Rattle.pair_keys.specs.Keys.{Keys}
use Rattle.plan_files.specs.Registers.{RegistersView, table}
use Rattle.plan_meters.specs.Hidden.{AreHidden}
use Rattle.plan_meters.specs.declared.hidden.HiddenReadings.{HiddenReadings}
use Rattle.register_words.specs.Hidden.{IsHidden}
use Rattle.register_words.specs.Words.{register_streams}
use Rattle.register_words.specs.declared.readings.ReadingWords.{ReadingWords}
use Rattle.register_words.specs.declared.readings.ReadingWords.TheVariants.{Made, Kept}

-- the readings of register k
abbrev pub readings_in : RegistersView → ℕ → ReadingsView
readings_in registers k = record { plan = registers.plan; table = table registers k }

-- there are two registers, and these words hide the readings of register 1
pub record AreMade (registers : RegistersView) (keys : Keys) (hidden : HiddenReadings) : Type 0 where
  pub two : length registers.tables ≡ 2
  pub hides : AreHidden (readings_in registers 1) (register_streams 1 keys) hidden

-- the words are those of these registers and keys
abbrev pub AreReady : RegistersView → Keys → ReadingWords → Type 0
AreReady registers keys (Made hidden) = AreMade registers keys hidden
AreReady registers keys (Kept kept) = IfSome kept (IsHidden registers keys)
