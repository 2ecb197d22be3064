use Rattle.std.proofs.Common.{◌≡◌, ◌∙◌, Some, length, sym, ap, arith, get_or, refl}
use Rattle.std.proofs.lemmas.Bool.{and_from, lt-ltb}
use Rattle.ln_frame.specs.Message.{message_len}
use Rattle.ln_ops.specs.declared.reply.Reply.TheVariants.{SlotData}
use Rattle.ln_ops.specs.Reply.{reply_bytes}
use Rattle.ln_ops.proofs.Replies.{ack-whole, data-whole}
use Rattle.ln_ops.proofs.reply.read_reply.Goals as goal

pub returns-in-180-clause-found : goal.returns-in-180-clause-found
returns-in-180-clause-found c =
    let m = c.bytes-bytes.result.now in
    let size : Some 4 ≡ Some (length c.bytes-bytes.result.now) =
    sym (ap (λ op. message_len op (get_or m 1 0)) c.in-180.is) ∙ c.bytes-bytes.ensures.length in
    let four : length c.bytes-bytes.result.now ≡ 4 = cc in (
      and_from _ _ (lt-ltb (get_or m 1 0) 128 (c.bytes-bytes.ensures.data 1 (omega arith))) (lt-ltb (get_or m 2 0) 128 (c.bytes-bytes.ensures.data 2 (omega arith))),
      sym c.bytes-bytes.ensures.value ∙ ack-whole m four c.in-180.is c.bytes-bytes.ensures.check,
    )

pub returns-in-231-clause-found : goal.returns-in-231-clause-found
returns-in-231-clause-found c =
    let m = c.bytes-bytes.result.now in
    let count = c.if-bytes-eq-SLOT_DATA_COUNT.true in
    let said : message_len 231 14 ≡ Some (length c.bytes-bytes.result.now) =
    sym (ap (λ op. message_len op (get_or m 1 0)) c.in-231.is ∙ ap (message_len 231) count) ∙ c.bytes-bytes.ensures.length in
    let fourteen : length c.bytes-bytes.result.now ≡ 14 = cc in (
      refl,
      sym c.bytes-bytes.ensures.value ∙ data-whole m fourteen c.in-231.is count c.bytes-bytes.ensures.check
          ∙ ap (λ f. reply_bytes (SlotData f)) (sym c.read_fields.ensures),
    )
