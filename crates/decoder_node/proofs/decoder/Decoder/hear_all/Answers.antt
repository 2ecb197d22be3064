use Rattle.std.proofs.Common.{refl, ◌≡◌, ◌∙◌}
use Rattle.std.proofs.iter.Next as it
use Rattle.decoder_node.specs.Hearing.{heard, heard_all}
use Rattle.decoder_node.proofs.Decoders.{heard_next, hears}
use Rattle.decoder_node.proofs.Waves.{Laws}
use Rattle.decoder_node.proofs.decoder.Decoder.hear_all.Goals as goal

pub loop-first-init : goal.loop-first-init
loop-first-init g c = it.begun c.requires.can c.requires.ends refl

pub loop-first-preserved : goal.loop-first-preserved
loop-first-preserved g c =
    let does = g.Settings.Obeys.does in
    let i = c.loop-first.invariant in
    let old = c.args.self.now in
    let after_first = heard_next does old c.loop-first.self i.seen c.in-Some.first i.holds in
    let j = it.again i {Q = λ xs. heard does c.loop-first.self c.in-Some.first ≡ heard_all does old xs} c.in-Some.first c.in-Some.is (c.next.ensures.steps, c.next.ensures.goes) after_first in
    it.again j c.in-Some-next.second c.in-Some-next.is (c.next-in-Some.ensures.steps, c.next-in-Some.ensures.goes) (◌∙◌ {b = heard does (heard does c.loop-first.self c.in-Some.first) c.in-Some-next.second} c.hear_two.ensures (heard_next does old (heard does c.loop-first.self c.in-Some.first) j.seen c.in-Some-next.second j.holds))

pub returns-in_default-next : goal.returns-in_default-next
returns-in_default-next g c =
    let laws : Laws = record { reads = c.complete.ensures.wave; skips = c.complete.ensures.wrong; settles = c.settles.ensures.between } in
    let does = g.Settings.Obeys.does in
    let i = c.loop-first.invariant in
    let j = it.again i {Q = λ xs. heard does c.loop-first.self c.in-Some.first ≡ heard_all does c.args.self.now xs} c.in-Some.first c.in-Some.is (c.next.ensures.steps, c.next.ensures.goes) (heard_next does c.args.self.now c.loop-first.self i.seen c.in-Some.first i.holds) in
    (j.seen, it.drained j c.in_default-next.is c.next-in-Some.ensures.steps, hears does laws c.args.self.now c.hear.new.self j.seen (◌∙◌ {b = heard does c.loop-first.self c.in-Some.first} c.hear.ensures.heard j.holds))

pub returns : goal.returns
returns g c =
    let laws : Laws = record { reads = c.complete.ensures.wave; skips = c.complete.ensures.wrong; settles = c.settles.ensures.between } in
    let i = c.loop-first.invariant in
    (i.seen, it.drained i c.in_default.is c.next.ensures.steps, hears g.Settings.Obeys.does laws c.args.self.now c.loop-first.self i.seen i.holds)
