-- What is drawn for one turn.
use Rattle.std.specs.Prelude.{ℕ, ◌≡◌, ◌&&◌, List, nat_lt, if◌then◌else◌, true}
use Rattle.std.specs.Int.{bit_at}
use Rattle.bus_server.specs.declared.losses.Losses.{Losses}
use Rattle.bus_server.specs.Generator.{first_generator, generator_after, is_missed, loses_none, share_at, word_at}

-- new losses: the decoders miss these shares of 100 packets, drawn by the generator of this seed
pub record IsSeeded (shares : List ℕ) (seed : ℕ) (losses : Losses) : Type 0 where
  pub each : losses.shares.items ≡ shares
  pub generator : losses.generator ≡ first_generator seed

-- The decoders that miss the turn are those that the generator draws, one after another, each by its share. If none is to miss
-- anything, none misses it and nothing is drawn.
pub record IsDraw (nodes missed : ℕ) (old new : Losses) : Type 0 where
  pub drawn : (node : ℕ) → bit_at missed node ≡ (if nat_lt node nodes && is_missed (share_at old.shares.items node) (word_at node old.generator) then 1 else 0)
  pub none : loses_none old.shares.items ≡ true → missed ≡ 0
  pub shares : new.shares ≡ old.shares
  pub generator : new.generator ≡ (if loses_none old.shares.items then old.generator else generator_after nodes old.generator)
