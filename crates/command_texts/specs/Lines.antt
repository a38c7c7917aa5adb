-- The line that each command says at its end; that of a run is its summary.
use Rattle.std.specs.Prelude.{ℕ, List, ◌++◌, codes, decimal, unwrap_or}
use Rattle.audit_check.specs.declared.answers.Inspected.{Inspected}
use Rattle.transcript_text.specs.Spelling.{ended}

-- `audit` says how many rows and totals the report has
unfoldable pub audited_line : (rows totals : ℕ) → List ℕ
audited_line rows totals = codes "audit: rows=" ++ (decimal rows ++ (codes " totals=" ++ (decimal totals ++ codes "\n")))

-- `inspect` says how many rows and totals the report has, how many opened rounds have none, and how few survivors an opened round has
unfoldable pub inspected_line : (rows totals opened least : ℕ) → List ℕ
inspected_line rows totals opened least =
    codes "inspect: rows=" ++ (decimal rows ++ (codes " totals=" ++ (decimal totals ++ (codes " opened=" ++ (decimal opened ++ (codes " least=" ++ (decimal least ++ codes "\n")))))))

-- the same of what was found; where no round is opened, the fewest survivors are told as 0
abbrev pub line_of : Inspected → List ℕ
line_of found = inspected_line found.counts.rows found.counts.totals found.opened.without_total (unwrap_or found.opened.fewest 0)

-- `twin` says how many words move
unfoldable pub moved_line : ℕ → List ℕ
moved_line rows = ended (codes "twin: moved=" ++ decimal rows)

-- so does a command of this name
unfoldable pub counted_line : List ℕ → ℕ → List ℕ
counted_line verb rows = verb ++ (codes ": moved=" ++ (decimal rows ++ codes "\n"))

-- `make` says how many readings there are, present or not
unfoldable pub made_line : ℕ → List ℕ
made_line readings = ended (codes "made: readings=" ++ decimal readings)

-- `convert` says how many entries the transcript has
unfoldable pub converted_line : ℕ → List ℕ
converted_line lines = ended (codes "converted: lines=" ++ decimal lines)

-- `public` says how many groups and rounds the plan has
unfoldable pub public_line : (groups rounds : ℕ) → List ℕ
public_line groups rounds = codes "public: groups=" ++ (decimal groups ++ (codes " rounds=" ++ (decimal rounds ++ codes "\n")))

-- `parts` says how many meters the group has
unfoldable pub parts_line : ℕ → List ℕ
parts_line meters = ended (codes "parts: meters=" ++ decimal meters)

-- `bill` says how many bills there are
unfoldable pub bills_line : ℕ → List ℕ
bills_line count = ended (codes "bills=" ++ decimal count)

-- `hide` says where the partner is
unfoldable pub hidden_line : (round meter : ℕ) → List ℕ
hidden_line round meter = codes "hidden: round=" ++ (decimal round ++ (codes " meter=" ++ (decimal meter ++ codes "\n")))
