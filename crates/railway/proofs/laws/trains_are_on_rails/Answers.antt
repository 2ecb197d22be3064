use Rattle.std.proofs.lemmas.Bool.{and_parts}
use Rattle.std.specs.List.{list_all}
use Rattle.std.specs.List.{slice_index_or}
use Rattle.railway.specs.Network.{is_sound}
use Rattle.railway.specs.Railway.{is_train}
use Rattle.railway.proofs.Placing.{all-at}
use Rattle.railway.proofs.Runs.{on-rails}
use Rattle.railway.proofs.laws.trains_are_on_rails.Goals as goal

pub returns : goal.returns
returns c = record {
  rails = λ railway i none h less.
      let parts = and_parts (is_sound railway.network) (list_all (is_train railway.network) railway.trains) h in
      on-rails railway.network (slice_index_or railway.trains i none) parts.0 (all-at (is_train railway.network) railway.trains i none parts.1 less);
}
