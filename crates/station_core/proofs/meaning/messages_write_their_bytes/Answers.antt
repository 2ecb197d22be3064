use Rattle.station_core.proofs.Shown.{messages_write_their_bytes}
use Rattle.station_core.proofs.meaning.messages_write_their_bytes.Goals as goal

pub returns : goal.returns
returns c powered slot desk is = messages_write_their_bytes powered slot desk is (c.rows_are_legal.ensures powered.desk desk) (c.others_stay.ensures powered.desk slot desk) (c.own_slots.ensures powered.desk desk)
