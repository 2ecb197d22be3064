use Rattle.std.proofs.Common.{rules, ◌≡◌, ◌==◌, ◌&&◌, ◌∷◌, ℕ, List, length, ap, sym, ◌∙◌, arith}
use Rattle.ln_frame.specs.Message.{are_data, check_of}
use Rattle.ln_ops.specs.declared.op.Op.TheVariants.{SlotWrite}
use Rattle.station_c.specs.Messages.{message_with}
use Rattle.station_c.proofs.Fields.{is_eleven, without_check}
use Rattle.station_c.proofs.builders.station_opc_wr_sl_data.Goals as goal

pub returns-in-len11 : goal.returns-in-len11
returns-in-len11 c =
    let count : length c.args.fields.now ≡ 11 = omega (arith, c.in-len11.len_at_least, c.in-len11.len_below) in
    let eleven = is_eleven c.args.fields.now count in
    record {
      done = c.seal.ensures.done ∙ sym (ap (λ (fields : List ℕ). length fields == 11 && are_data fields) eleven);
      message = λ is. (
        c.seal.ensures.message is ∙ sym (ap (λ (fields : List ℕ). message_with (239 ∷ 14 ∷ fields)) eleven),
        ap SlotWrite (without_check c.args.fields.now (check_of (239 ∷ 14 ∷ c.args.fields.now)) count),
      );
      untouched = search rules;
    }
