use Rattle.std.proofs.Common.{ℕ, List, Option, Bor, ◌++◌, length, option_copied, ap, ap₂, sym, ◌∙◌, arith}
use Rattle.std.specs.List.{slice_index_or}
use Rattle.loconet_tcp.specs.ClientLines.{state_text, states_ok_text}
use Rattle.loconet_tcp.specs.declared.request.Things.TheVariants.{Turnouts}
use Rattle.railway.specs.Railway.{RailwayState}
use Rattle.railway_text.specs.Turnouts.{turnout_line}
use Rattle.bus_server.specs.Answers.{turnout_lines}
use Rattle.bus_server.proofs.Answering.{listed}
use Rattle.bus_server.proofs.answers.turnout.Goals as goal

pub returns-in-Some-clause-line : goal.returns-in-Some-clause-line
returns-in-Some-clause-line c =
    let railway = c.in-Some.railway.now in
    c.push_state.ensures.text
    ∙ ap₂ (λ (text line : List ℕ). text ++ state_text line) c.new-text.ensures (c.as_bytes.ensures.value ∙ c.as_str.ensures.value)
    ∙ listed turnout_line railway.network.turnouts c.args.i c.line_of_turnout.result.bytes (states_ok_text Turnouts)
    (omega (arith, c.if-i-turnouts.true, ap length c.turnouts.ensures.turnouts))
    (omega (arith, ap length c.as_str.ensures.value, c.as_str.ensures.fits))
    c.line_of_turnout.ensures
    ∙ ap (λ (beside : Option (Bor RailwayState)). slice_index_or (turnout_lines (option_copied beside)) c.args.i (states_ok_text Turnouts)) (sym c.in-Some.is)
