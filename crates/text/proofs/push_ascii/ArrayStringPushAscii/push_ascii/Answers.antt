use Rattle.std.proofs.Common.{◌<◌, arith}
use Rattle.std.proofs.lemmas.Str.{encode_ascii}
use Rattle.text.proofs.push_ascii.ArrayStringPushAscii.push_ascii.Goals as goal

pub push-requires : goal.push-requires
push-requires g c =
    let small : c.from.result < 128 = omega arith in
    (omega arith, rw (encode_ascii c.from.result small) (omega arith))
