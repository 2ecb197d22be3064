use Rattle.std.proofs.Common.{refl, ◌∙◌, arith}
use Rattle.bus_log.proofs.Taking.{takes_all, takes_more, takes_most, takes_none, takes_until}
use Rattle.bus_log.proofs.Writing.{writes_more, writes_none, writes_nothing, writes_reported, writes_zero}
use Rattle.bus_log.proofs.log_output.write_queued.Goals as goal

pub loop-write-init : goal.loop-write-init
loop-write-init g c = record { written = writes_none c.args.log.now (g.T.LogOutput.written c.args.output.now); taken = takes_none (g.T.LogOutput.counts c.args.output.now); failed = refl }

pub returns-in_err-count-clause-written : goal.returns-in_err-count-clause-written
returns-in_err-count-clause-written g c =
    let written = g.T.LogOutput.written in
    let old = c.args.log.now in
    let mid = c.report_left_out.new.self in
    let before = written c.args.output.now in
    let held = written c.loop-write.output in
    writes_nothing old mid before held (written c.write_ready.new.self) c.in_err-count.ensures.bytes
    (writes_reported old c.loop-write.log mid before held c.report_left_out.ensures.kept c.report_left_out.ensures.reported c.loop-write.invariant.written)

pub returns-then-not-has_queued-clause-written : goal.returns-then-not-has_queued-clause-written
returns-then-not-has_queued-clause-written g c =
    let written = g.T.LogOutput.written in
    writes_reported c.args.log.now c.loop-write.log c.report_left_out.new.self (written c.args.output.now) (written c.loop-write.output) c.report_left_out.ensures.kept c.report_left_out.ensures.reported c.loop-write.invariant.written

pub returns-then-count-eq0-clause-written : goal.returns-then-count-eq0-clause-written
returns-then-count-eq0-clause-written g c =
    let written = g.T.LogOutput.written in
    let old = c.args.log.now in
    let mid = c.report_left_out.new.self in
    let before = written c.args.output.now in
    let held = written c.loop-write.output in
    writes_zero old mid before held (written c.write_ready.new.self) c.front.result.now c.in_ok-count.count c.if-count-eq0.true c.in_ok-count.ensures.bytes
    (writes_reported old c.loop-write.log mid before held c.report_left_out.ensures.kept c.report_left_out.ensures.reported c.loop-write.invariant.written)

pub loop-write-preserved : goal.loop-write-preserved
loop-write-preserved g c =
    let written = g.T.LogOutput.written in
    let old = c.args.log.now in
    let mid = c.report_left_out.new.self in
    let before = written c.args.output.now in
    let held = written c.loop-write.output in
    record {
      written = writes_more old mid c.consume.new.self before held (written c.write_ready.new.self) c.front.result.now c.in_ok-count.count c.front.ensures.front c.in_ok-count.ensures.bound c.in_ok-count.ensures.bytes c.consume.ensures
          (writes_reported old c.loop-write.log mid before held c.report_left_out.ensures.kept c.report_left_out.ensures.reported c.loop-write.invariant.written);
      taken = takes_more (g.T.LogOutput.counts c.args.output.now) (g.T.LogOutput.counts c.loop-write.output) (g.T.LogOutput.counts c.write_ready.new.self) c.loop-write._write c.in_ok-count.count c.if-count-eq0.false c.in_ok-count.ensures.counts c.loop-write.invariant.taken;
      failed = c.in_ok-count.ensures.failed ∙ c.loop-write.invariant.failed;
    }

pub returns-then-not-has_queued-clause-progress : goal.returns-then-not-has_queued-clause-progress
returns-then-not-has_queued-clause-progress g c =
    takes_all c.report_left_out.new.self (g.T.LogOutput.counts c.args.output.now) (g.T.LogOutput.counts c.loop-write.output) c.loop-write._write (c.has_queued.ensures.none c.if-not-has_queued.true) c.loop-write.invariant.taken

pub returns-then-count-eq0-clause-progress : goal.returns-then-count-eq0-clause-progress
returns-then-count-eq0-clause-progress g c =
    takes_until c.report_left_out.new.self (g.T.LogOutput.counts c.args.output.now) (g.T.LogOutput.counts c.loop-write.output) (g.T.LogOutput.counts c.write_ready.new.self) c.loop-write._write c.in_ok-count.count c.if-count-eq0.true c.in_ok-count.ensures.counts c.loop-write.invariant.taken

pub returns-clause-progress : goal.returns-clause-progress
returns-clause-progress g c =
    takes_most c.loop-write.log (g.T.LogOutput.counts c.args.output.now) (g.T.LogOutput.counts c.loop-write.output) c.loop-write._write (omega (arith, c.loop-write.auto._write-end, c.loop-write-test.false)) c.loop-write.invariant.taken
