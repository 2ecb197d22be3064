use Rattle.std.proofs.Common.{sym}
use Rattle.bus.proofs.Telling.{bystander, is_connected_after, goes_on, is_disconnected_after, joins, leaves, stayed}
use Rattle.bus.proofs.There.{who_is_there}
use Rattle.bus.proofs.laws.text_since_connecting.Goals as goal

pub returns : goal.returns
returns c = record {
  joins = joins;
  leaves = leaves;
  goes_on = goes_on;
  connected = is_connected_after;
  disconnected = is_disconnected_after;
  stayed = stayed;
  there = λ options i events legal. sym (who_is_there options events i legal);
  bystander = bystander;
}
