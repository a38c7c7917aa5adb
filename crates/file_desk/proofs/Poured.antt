-- What a sink has taken once it takes one piece more, and sources that can't be read.
use Rattle.std.proofs.Common.{◌≡◌, ◌+◌, ◌∙◌, ℕ, List, ◌++◌, length, Err, subst, append_assoc, length-append, arith}
use Rattle.desk_outside.specs.Sink.{Takes}
use Rattle.desk_outside.specs.declared.desk.FetchError.{FetchError}
use Rattle.desk_outside.specs.declared.desk.FetchError.TheVariants.{Failed, TooLong, Memory}
use Rattle.file_desk.specs.Pouring.{TakesCount, PoursAtMost, IsUnreadable}

-- a sink that has taken so many bytes, and then a piece
pub piece_taken : {S : Type 0} (has : S → List ℕ → Type 0) (before between now : S) (count more all : ℕ) (piece : List ℕ) → TakesCount has before count between → Takes has between piece now → length piece ≡ more → all ≡ count + more → TakesCount has before all now
piece_taken has before between now count more all piece (bytes, is_count, first) then_piece is_more is_all =
    (bytes ++ piece, length-append bytes piece ∙ omega (arith, is_count, is_more, is_all), λ taken it_has. let P = has now in subst P (append_assoc taken bytes piece) (then_piece (taken ++ bytes) (first taken it_has)))

-- a source that can't be read pours nothing
pub unreadable_pours : {S : Type 0} (has : S → List ℕ → Type 0) (most : ℕ) (sink : S) (error : FetchError) → IsUnreadable error → PoursAtMost has most sink (Err error)
unreadable_pours has most sink Failed is = tt
unreadable_pours has most sink (TooLong seen) is = absurd is
unreadable_pours has most sink Memory is = tt
