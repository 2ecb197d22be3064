use Rattle.std.proofs.Common.{◌≡◌, length, ◌≤◌, ◌⊎◌, inl, inr}
use Rattle.trace.proofs.Turns.{empty, full, made, nonempty, read_all, read_fails, read_more}
use Rattle.trace.proofs.line.packet_of.Goals as goal
use Rattle.trace.proofs.line.packet_of.Goals.{then-loop-bytes-test+else-not-is_full, else-loop-bytes-test}

pub returns-in_err-byte : goal.returns-in_err-byte
returns-in_err-byte c = λ packet is w.
    absurd (read_fails c.args.words.now c.loop-bytes.bytes.items c.loop-bytes.rest.now c.loop-bytes.invariant (nonempty c.loop-bytes.rest.now c.is_empty.result c.is_empty.ensures c.loop-bytes-test.true) c.in_err-byte.ensures.byte packet is w)

pub loop-bytes-preserved : goal.loop-bytes-preserved
loop-bytes-preserved c = read_more c.args.words.now c.loop-bytes.bytes.items c.loop-bytes.rest.now c.in_ok-byte.byte c.in_ok-byte.after.now c.push.new.self.items c.loop-bytes.invariant (nonempty c.loop-bytes.rest.now c.is_empty.result c.is_empty.ensures c.loop-bytes-test.true) c.in_ok-byte.ensures.byte c.push.ensures.items

pub returns : goal.returns
returns c = λ packet is w.
    let end = elim c.loop-bytes-test.branch as (λ _. (length c.loop-bytes.rest.now ≡ 0) ⊎ (6 ≤ length c.loop-bytes.bytes.items)) [
      | then-loop-bytes-test+else-not-is_full w ↦ inr (full c.loop-bytes.bytes.items w.is_full.result w.is_full.ensures.value w.if-not-is_full.false)
      | else-loop-bytes-test w ↦ inl (empty c.loop-bytes.rest.now c.is_empty.result c.is_empty.ensures w.loop-bytes-test.false)
    ] in
    let all = read_all c.args.words.now c.loop-bytes.bytes.items c.loop-bytes.rest.now c.loop-bytes.invariant end packet is w in
    made c.of.result c.as_slice.result.now c.loop-bytes.bytes.items packet c.of.ensures c.as_slice.ensures.value all.0 all.1
