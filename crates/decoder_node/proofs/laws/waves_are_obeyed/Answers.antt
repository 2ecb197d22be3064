use Rattle.std.proofs.Common.{refl}
use Rattle.decoder_node.specs.Hearing.{heard_all}
use Rattle.decoder_node.specs.Obey.{obeyed}
use Rattle.decoder_node.specs.Switched.{switched}
use Rattle.decoder_node.proofs.Decoders.{hears}
use Rattle.decoder_node.proofs.Waves.{Laws}
use Rattle.decoder_node.proofs.laws.waves_are_obeyed.Goals as goal

laws : goal.After-settles → Laws
laws c = record { reads = c.complete.ensures.wave; skips = c.complete.ensures.wrong; settles = c.settles.ensures.between }

pub returns-clause-loco : goal.returns-clause-loco
returns-clause-loco c old halves = hears obeyed (laws c) old (heard_all obeyed old halves) halves refl

pub returns-clause-accessory : goal.returns-clause-accessory
returns-clause-accessory c old halves = hears switched (laws c) old (heard_all switched old halves) halves refl
