use Rattle.bus.proofs.Own.{own, visit_so_far, whole_visit}
use Rattle.bus.proofs.laws.own_lines.Goals as goal

pub returns : goal.returns
returns c = record {
  lines = λ bus i events legal eight. own events bus i legal eight;
  so_far = visit_so_far c.any_cut.ensures;
  visit = whole_visit c.any_cut.ensures;
}
