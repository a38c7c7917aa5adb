-- Entries that are read, and those that are left.
use Rattle.std.proofs.Common.{◌≡◌, List, [], ◌++◌, refl, sym, ap, ◌∙◌, append_assoc}
use Rattle.std.specs.Prelude.{Result, Ok, Err}
use Rattle.event_schedule.specs.declared.Entry.{Entry}
use Rattle.transcript_text.specs.declared.fault.ReadError.{ReadError}
use Rattle.transcript_text.specs.Reading.{before}

-- entries and then more entries
pub before_both : (xs ys : List Entry) (z : Result (List Entry) ReadError) → before xs (before ys z) ≡ before (xs ++ ys) z
before_both xs ys (Ok zs) = ap Ok (sym (append_assoc xs ys zs))
before_both xs ys (Err f) = refl

pub nothing_before : (left : Result (List Entry) ReadError) → before [] left ≡ left
nothing_before (Ok es) = refl
nothing_before (Err f) = refl

-- some entries and those that are left are all
module _ (front : List Entry) (left all : Result (List Entry) ReadError) (so : before front left ≡ all) where
  pub some_more : (es : List Entry) (more : Result (List Entry) ReadError) → left ≡ before es more → before (front ++ es) more ≡ all
  some_more es more is = sym (before_both front es more) ∙ ap (before front) (sym is) ∙ so
