use Rattle.std.proofs.Common.{ℕ, Option, ap, length, ◌∙◌}
use Rattle.std.specs.Prelude.{unwrap_or}
use Rattle.bus_server.proofs.Naming.{first_or_length}
use Rattle.bus_server.proofs.placement.train_named.Goals as goal

pub returns : goal.returns
returns c = c.unwrap_or.ensures ∙ ap (λ (found : Option ℕ). unwrap_or found (length c.args.trains.now)) c.first_train.ensures ∙ first_or_length _ c.args.trains.now
