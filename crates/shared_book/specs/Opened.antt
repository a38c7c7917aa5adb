-- The views of passes: what a book opens with, and how passes are cut in two and joined.
use Rattle.std.specs.Prelude.{ℕ, ◌+◌, ◌-◌, true, false, List, [], ◌∷◌, ◌++◌, None}
use Rattle.group_book.specs.Books.{BookView}
use Rattle.shared_book.specs.declared.turn.Turn.{Turn}
use Rattle.shared_book.specs.declared.turn.View.{View}

-- a pass that has done nothing
abbrev pub newcomer : BookView → ℕ → List Turn → View
newcomer o number seen = record {
  opening = o;
  live = true;
  number = number;
  made = 0;
  out = 0;
  joined = [];
  held = None;
  seen = seen;
  mine = [];
  pending = false;
  told = [];
  told_by = 0;
  told_mine = [];
  told_out = 0;
}

-- the book of an empty plan, with no line
abbrev no_book : BookView
no_book = record { presence = record { plan = record { groups = []; rounds = 0; w1 = 0; w2 = 0 }; table = [] }; journal = []; spare = 0 }

-- a pass that was joined
abbrev pub spent : View
spent = record (newcomer no_book 0 []) { live = false }

-- the first pass, which counts one more that is split from it
abbrev pub parent : View → View
parent v = record v { made = v.made + 1; out = v.out + 1 }

-- the pass split from it, which has the next number, has seen as much and has done nothing
abbrev pub child : View → View
child v = newcomer v.opening (v.made + 1) v.seen

-- the first pass, told of what another has seen and done
abbrev pub met : View → View → View
met v w = record v {
  out = v.out - 1;
  joined = v.joined ++ w.number ∷ [];
  pending = true;
  told = w.seen;
  told_by = w.number;
  told_mine = w.mine;
  told_out = v.out;
}
