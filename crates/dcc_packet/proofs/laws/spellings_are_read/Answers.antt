use Rattle.std.proofs.Common.{refl}
use Rattle.dcc_packet.specs.Reading.{instruction_of}
use Rattle.dcc_packet.proofs.Spelling.{exact, spelled_checked}
use Rattle.dcc_packet.proofs.laws.spellings_are_read.Goals as goal

pub returns-clause-packet : goal.returns-clause-packet
returns-clause-packet c = spelled_checked

pub returns-clause-read : goal.returns-clause-read
returns-clause-read c = λ bytes. exact bytes (instruction_of bytes) refl
