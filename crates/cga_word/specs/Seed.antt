-- The seeds of children and the random words of a shape, by the generator PCG XSH RR 64/32 of `rand_pcg`.
use Rattle.std.specs.Prelude.{ℕ, ◌+◌, ◌*◌, ◌^◌}
use Rattle.rand_pcg.specs.Lcg.{started, advance, increment_of}
use Rattle.rand_pcg.specs.Pcg.{multiplier_64, pcg32}

-- word number n, from 0, of the generator that starts at this state on this stream
unfoldable pub word_of : ℕ → ℕ → ℕ → ℕ
word_of state stream n = (pcg32 (advance 64 multiplier_64 n (started 64 multiplier_64 state (increment_of 64 stream)))).0

-- the seed of child i: the first two words of stream i + 1 of its parent's seed, the low half first
abbrev pub child_seed_of : ℕ → ℕ → ℕ
child_seed_of seed i = word_of seed (i + 1) 0 + 2 ^ 32 * word_of seed (i + 1) 1

-- word number n of a shape: that of stream 0 of its seed
abbrev pub shape_word_of : ℕ → ℕ → ℕ
shape_word_of seed n = word_of seed 0 n
