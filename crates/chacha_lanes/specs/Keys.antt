-- Keys in the lanes of vectors.
use Rattle.std.specs.Prelude.{ℕ, List, [], ◌∷◌}
use Rattle.rand_chacha.specs.Lanes.{lane_at}

-- the key whose eight words stand in lane j
abbrev pub key_lane : ℕ → List (List ℕ) → List ℕ
key_lane j x =
    lane_at x 0 j ∷ lane_at x 1 j ∷ lane_at x 2 j ∷ lane_at x 3 j
    ∷ lane_at x 4 j ∷ lane_at x 5 j ∷ lane_at x 6 j ∷ lane_at x 7 j ∷ []
