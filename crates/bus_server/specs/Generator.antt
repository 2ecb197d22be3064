-- The packets that decoders miss, as they are drawn.
use Rattle.std.specs.Prelude.{ℕ, zero, suc, ◌%◌, ◌==◌, Bool, List, nat_lt, slice_index_or}
use Rattle.std.specs.List.{list_all}
use Rattle.rand_core.specs.Pcg32Seed.{pcg32_seed}
use Rattle.rand_pcg.specs.Lcg.{Lcg}
use Rattle.rand_pcg.specs.Pcg.{pcg32, pcg32_of_seed}

-- PCG's 32-bit generator of a seed
unfoldable pub first_generator : ℕ → Lcg
first_generator seed = pcg32_of_seed (pcg32_seed 16 seed)

-- the word that it gives next, and the generator after it
unfoldable pub word_of : Lcg → ℕ
word_of generator = (pcg32 generator).0

unfoldable pub next_generator : Lcg → Lcg
next_generator generator = (pcg32 generator).1

-- the generator after a number of words, and the next word
unfoldable pub generator_after : ℕ → Lcg → Lcg
generator_after zero generator = generator
generator_after (suc n) generator = next_generator (generator_after n generator)

unfoldable pub word_at : ℕ → Lcg → ℕ
word_at n generator = word_of (generator_after n generator)

-- a decoder misses a packet if its word, modulo 100, is below its share
abbrev pub is_missed : (share word : ℕ) → Bool
is_missed share word = nat_lt (word % 100) share

-- the share of a decoder, of those of all in their order; 0 if it has none
abbrev pub share_at : (shares : List ℕ) → (node : ℕ) → ℕ
share_at shares node = slice_index_or shares node 0

-- no decoder is to miss anything
abbrev pub loses_none : (shares : List ℕ) → Bool
loses_none shares = list_all (λ share. share == 0) shares
