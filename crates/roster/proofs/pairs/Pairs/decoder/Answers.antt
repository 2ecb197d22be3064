use Rattle.std.proofs.Common.{◌≡◌, map, true, ◌∙◌, ap, sym}
use Rattle.std.specs.List.{list_all}
use Rattle.toml.specs.View.{view}
use Rattle.decoder_cv.specs.Listed.{listed}
use Rattle.roster.specs.Decoder.{loco_of}
use Rattle.roster.specs.Pairs.{has_byte, pairs_of}
use Rattle.roster.proofs.Cvs.{bytes_wrong, have_bytes_view, list_refused, list_taken}
use Rattle.roster.proofs.pairs.Pairs.decoder.Goals as goal

pub returns-then-not-have_bytes : goal.returns-then-not-have_bytes
returns-then-not-have_bytes c =
    let values = c.self.inside.values.now in
    rw (← c.self.view_is) (sym (bytes_wrong (pairs_of (map view values)) (have_bytes_view values ∙ sym c.have_bytes.ensures ∙ c.if-not-have_bytes.true)))

pub returns-in-Some : goal.returns-in-Some
returns-in-Some c =
    let values = c.self.inside.values.now in
    let bytes : list_all has_byte (pairs_of (map view values)) ≡ true = have_bytes_view values ∙ sym c.have_bytes.ensures ∙ c.if-not-have_bytes.false in
    rw (← c.self.view_is) (c.loco.ensures ∙ ap loco_of (c.of_list.ensures ∙ ap listed c.as_slice.ensures.value) ∙ sym (list_taken (pairs_of (map view values)) c.in-Some.pairs.items bytes (sym c.in-Some.ensures)))

pub returns-in-None : goal.returns-in-None
returns-in-None c =
    let values = c.self.inside.values.now in
    let bytes : list_all has_byte (pairs_of (map view values)) ≡ true = have_bytes_view values ∙ sym c.have_bytes.ensures ∙ c.if-not-have_bytes.false in
    rw (← c.self.view_is) (sym (list_refused (pairs_of (map view values)) bytes (sym c.in-None.ensures) c.long_lists_are_refused.ensures))
