use Rattle.std.proofs.Common.{◌∙◌, ap, map, sym}
use Rattle.layout_core.specs.Nodes.{spec_of}
use Rattle.layout_core.proofs.Hearing.{all_made_from}
use mathlib.Core.Bool.{true≢false}
use Rattle.layout_core.proofs.Making.{refused_err, refused_ok, refused_so}
use Rattle.layout_core.proofs.world.World.new.Goals as goal

pub returns-in_err-station-clause-lines : goal.returns-in_err-station-clause-lines
returns-in_err-station-clause-lines c none = refused_so c.new.result c.from_residual.result c.in_err-station.field-0.0 _ c.from_residual.ensures.1 c.in_err-station.was (c.new.ensures.lines none)

pub returns-in_err-station-clause-station : goal.returns-in_err-station-clause-station
returns-in_err-station-clause-station c = refused_ok c.from_residual.result c.in_err-station.field-0.0 _ c.from_residual.ensures.1

pub returns-in_err-station-clause-nodes : goal.returns-in_err-station-clause-nodes
returns-in_err-station-clause-nodes c = refused_ok c.from_residual.result c.in_err-station.field-0.0 _ c.from_residual.ensures.1

pub returns-in_err-station-clause-specs : goal.returns-in_err-station-clause-specs
returns-in_err-station-clause-specs c = refused_ok c.from_residual.result c.in_err-station.field-0.0 _ c.from_residual.ensures.1

pub returns-in_err-station-clause-memory : goal.returns-in_err-station-clause-memory
returns-in_err-station-clause-memory c = refused_err c.from_residual.result c.in_err-station.field-0.0 _ c.from_residual.ensures.1 c.in_err-station.ensures.memory

pub returns-clause-lines : goal.returns-clause-lines
returns-clause-lines c none = absurd (true≢false (sym c.in_ok-station.ensures.made.0 ∙ none))

pub returns-clause-station : goal.returns-clause-station
returns-clause-station c = c.in_ok-station.ensures.made

pub returns-clause-nodes : goal.returns-clause-nodes
returns-clause-nodes c = c.new-nodes.ensures.made

pub returns-clause-specs : goal.returns-clause-specs
returns-clause-specs c = ap (map spec_of) c.new-nodes.ensures.made ∙ all_made_from c.args.nodes.items
