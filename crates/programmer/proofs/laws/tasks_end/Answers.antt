use Rattle.std.proofs.Common.{◌∙◌}
use Rattle.programmer.specs.Machine.{bit_value}
use Rattle.programmer.proofs.Wholes.{begun_bit_read, begun_bit_write, begun_read, begun_write, bit_reads, bit_status, bit_status_is, bit_writes, found, noticed, later, questions, questions_are, read_is, read_status, reads, write_is, write_status, writes}
use Rattle.programmer.proofs.laws.tasks_end.Goals as goal

pub returns-clause-read : goal.returns-clause-read
returns-clause-read c = λ q bits b e. (found q bits, read_status q bits, read_is q bits, begun_read q bits b e ∙ reads q bits)

pub returns-clause-written : goal.returns-clause-written
returns-clause-written c = λ q bits b e. (write_status q bits, write_is q bits, begun_write q bits b e ∙ writes q bits)

pub returns-clause-read_bit : goal.returns-clause-read_bit
returns-clause-read_bit c = λ q bits b e.
    let on = noticed bits in
    let off = noticed (later bits) in
    (bit_value q.value on, bit_status q bits on off, questions q bits on, bit_status_is q bits on off, questions_are q bits on, begun_bit_read q bits b e ∙ bit_reads q bits)

pub returns-clause-written_bit : goal.returns-clause-written_bit
returns-clause-written_bit c = λ q bits b e. (write_status q bits, write_is q bits, begun_bit_write q bits b e ∙ bit_writes q bits)
