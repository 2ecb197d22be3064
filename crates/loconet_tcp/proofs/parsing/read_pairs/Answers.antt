use Rattle.std.proofs.Common.{◌++◌, ◌∷◌, [], length, length-append, ap, sym, ◌∙◌, arith}
use Rattle.loconet_tcp.specs.Requests.{are_pairs, leading_bytes}
use Rattle.loconet_tcp.proofs.Words.{lead-word, lead-no_pair, lead-all, are-word, are-no_pair, are-all, pair-length}
use Rattle.loconet_tcp.proofs.parsing.read_pairs.Goals as goal

pub returns-in_default-read_hex_pair-clause-bytes : goal.returns-in_default-read_hex_pair-clause-bytes
returns-in_default-read_hex_pair-clause-bytes c =
    let bytes = c.loop-word.bytes.items in
    sym (ap (λ words. bytes ++ leading_bytes words) c.in-Some.ensures.word ∙ lead-no_pair bytes c.in-Some.word.now _ (sym c.read_hex_pair.ensures ∙ c.in_default-read_hex_pair.is))
    ∙ c.loop-word.invariant.led

pub returns-in_default-read_hex_pair-clause-all : goal.returns-in_default-read_hex_pair-clause-all
returns-in_default-read_hex_pair-clause-all c =
    sym (ap are_pairs c.in-Some.ensures.word ∙ are-no_pair c.in-Some.word.now _ (sym c.read_hex_pair.ensures ∙ c.in_default-read_hex_pair.is))
    ∙ c.loop-word.invariant.are

pub push-requires : goal.push-requires
push-requires c =
    let pair = sym c.read_hex_pair.ensures ∙ c.in-Some-read_hex_pair.is in
    omega (arith, pair-length c.in-Some.word.now c.in-Some-read_hex_pair.byte pair, c.in-Some.ensures.within, c.loop-word.invariant.room, c.requires)

pub loop-word-preserved : goal.loop-word-preserved
loop-word-preserved c =
    let bytes = c.loop-word.bytes.items in
    let word = c.in-Some.word.now in
    let byte = c.in-Some-read_hex_pair.byte in
    let pair = sym c.read_hex_pair.ensures ∙ c.in-Some-read_hex_pair.is in
    record {
      led = rw c.push.ensures.items (sym (ap (λ words. bytes ++ leading_bytes words) c.in-Some.ensures.word ∙ lead-word bytes word _ byte pair) ∙ c.loop-word.invariant.led);
      are = sym (ap are_pairs c.in-Some.ensures.word ∙ are-word word _ byte pair) ∙ c.loop-word.invariant.are;
      room = omega (arith, ap length c.push.ensures.items, length-append bytes (byte ∷ []), pair-length word byte pair, c.in-Some.ensures.within, c.loop-word.invariant.room);
    }

pub returns-clause-bytes : goal.returns-clause-bytes
returns-clause-bytes c =
    let bytes = c.loop-word.bytes.items in
    sym (ap (λ words. bytes ++ leading_bytes words) c.in_default.ensures.word ∙ lead-all bytes) ∙ c.loop-word.invariant.led

pub returns-clause-all : goal.returns-clause-all
returns-clause-all c = sym (ap are_pairs c.in_default.ensures.word ∙ are-all) ∙ c.loop-word.invariant.are
