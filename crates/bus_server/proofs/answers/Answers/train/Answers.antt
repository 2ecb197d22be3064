use Rattle.std.proofs.Common.{ℕ, List, Option, Bor, ◌++◌, length, option_copied, ap, ap₂, sym, ◌∙◌, arith}
use Rattle.std.specs.List.{slice_index_or}
use Rattle.loconet_tcp.specs.ClientLines.{state_text, states_ok_text}
use Rattle.loconet_tcp.specs.declared.request.Things.TheVariants.{Trains}
use Rattle.railway.specs.Railway.{RailwayState}
use Rattle.bus_server.specs.Answers.{text_of_train, train_lines}
use Rattle.bus_server.specs.NamedNodes.{names_of}
use Rattle.bus_server.proofs.Answering.{listed}
use Rattle.bus_server.proofs.answers.Answers.train.Goals as goal

pub returns-in-Some-clause-line : goal.returns-in-Some-clause-line
returns-in-Some-clause-line c =
    let railway = c.in-Some.railway.now in
    let names = names_of c.args.self.now.nodes.items in
    c.push_state.ensures.text
    ∙ ap₂ (λ (text line : List ℕ). text ++ state_text line) c.new-text.ensures (c.as_bytes.ensures.value ∙ c.as_str.ensures.value)
    ∙ listed (text_of_train names railway.network) railway.trains c.args.i c.train_line.result.bytes (states_ok_text Trains)
    (omega (arith, c.if-i-trains.true, ap length c.trains.ensures.trains))
    (omega (arith, ap length c.as_str.ensures.value, c.as_str.ensures.fits))
    c.train_line.ensures
    ∙ ap (λ (beside : Option (Bor RailwayState)). slice_index_or (train_lines names (option_copied beside)) c.args.i (states_ok_text Trains)) (sym c.in-Some.is)
