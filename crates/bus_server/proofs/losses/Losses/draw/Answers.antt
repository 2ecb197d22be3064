use Rattle.std.proofs.Common.{◌≡◌, ℕ, ◌<◌, ◌^◌, Bool, ap, ap₂, sym, ◌∙◌, arith, bit_or, rules}
use Rattle.std.specs.Int.{bit_at}
use Rattle.bus_server.specs.Generator.{is_missed, share_at, word_at}
use Rattle.bus_server.proofs.Missed.{first_word, next_word, none_marked, none_more, one_marked, one_shifted, word_here}
use Rattle.bus_server.proofs.losses.Losses.draw.Goals.{then-misses, else-misses}
use Rattle.bus_server.proofs.losses.Losses.draw.Goals as goal

pub loop-node-init : goal.loop-node-init
loop-node-init c =
    let first = c.args.self.now in
    record {
      shares = search rules;
      generator = first_word first.generator;
      drawn = none_marked (λ node. is_missed (share_at first.shares.items node) (word_at node first.generator));
    }

pub loop-node-preserved : goal.loop-node-preserved
loop-node-preserved c =
    let first = c.args.self.now in
    let told = c.loop-node.invariant in
    let node = c.loop-node.node in
    let passes : ℕ → Bool = λ node. is_missed (share_at first.shares.items node) (word_at node first.generator) in
    let drawn : c.misses.result ≡ passes node = c.misses.ensures.drawn ∙ ap₂ is_missed (ap (λ shares. share_at shares.items node) told.shares) (word_here node first.generator c.loop-node.self.generator told.generator) in
    record {
      shares = c.misses.ensures.shares ∙ told.shares;
      generator = next_word node first.generator c.loop-node.self.generator c.misses.new.self.generator told.generator c.misses.ensures.generator;
      drawn = elim c.if-misses.branch [
        | then-misses w ↦
            let within : node < 64 = omega arith in
            let is : c.if-misses.missed ≡ bit_or c.loop-node.missed (2 ^ node) = w.missed-is ∙ ap (bit_or c.loop-node.missed) (one_shifted node within) in
            λ k. ap (λ (mask : ℕ). bit_at mask k) is ∙ one_marked passes c.loop-node.missed node told.drawn (sym drawn ∙ w.if-misses.true) k
        | else-misses w ↦ λ k. ap (λ (mask : ℕ). bit_at mask k) w.missed-is ∙ none_more passes c.loop-node.missed node told.drawn (sym drawn ∙ w.if-misses.false) k
      ];
    }
