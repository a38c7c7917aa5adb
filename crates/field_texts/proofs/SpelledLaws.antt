-- What is read is what a text writes.
use Rattle.std.proofs.Common.{◌≡◌, ◌≤◌, ℕ, List, Option, Some, None, sym, ap, ◌∙◌}
use Rattle.field_texts.specs.Numbers.{number_of}
use Rattle.field_texts.specs.Sets.{set_of}
use Rattle.field_texts.specs.Spelled.{IsNumberOf, IsSetOf}
use Rattle.field_texts.proofs.NumberLaws.{number_again, number_back}
use Rattle.field_texts.proofs.SetLaws.{rising_within, set_again, set_back, set_rising}

number_is_of : (text : List ℕ) (read : Option ℕ) → number_of text ≡ read → IsNumberOf text read
number_is_of text (Some n) is = (number_back text n is).0
number_is_of text None is = λ n small same.
    let read : None ≡ Some n = sym is ∙ ap number_of same ∙ number_again n small in
    absurd cc

pub number_read : (text : List ℕ) (read : Option ℕ) → read ≡ number_of text → IsNumberOf text read
number_read text read is = number_is_of text read (sym is)

set_is_of : (high : ℕ) (text : List ℕ) (read : Option (List ℕ)) → high ≤ 256 → set_of high text ≡ read → IsSetOf high text read
set_is_of high text (Some set) fits is = let b = set_back high text set is in (b.0, rising_within 0 high set b.1)
set_is_of high text None fits is = λ set ascends small same.
    let read : None ≡ Some set = sym is ∙ ap (set_of high) same ∙ set_again high set fits (set_rising high set ascends small) in
    absurd cc

pub set_read : (high : ℕ) (text : List ℕ) (read : Option (List ℕ)) → high ≤ 256 → read ≡ set_of high text → IsSetOf high text read
set_read high text read fits is = set_is_of high text read fits (sym is)
