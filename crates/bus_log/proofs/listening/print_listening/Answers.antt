use Rattle.std.proofs.Common.{rules, Option, OnOk, subst, sym}
use Rattle.std.proofs.lemmas.Result.{on_ok_weaker}
use Rattle.std.specs.declared.net.socket_addr.SocketAddr.{SocketAddr}
use Rattle.std.specs.Io.KnownBytes.{Appends}
use Rattle.std.proofs.KnownBytes.{Appends-trans}
use Rattle.console.specs.Printed.{ended, lines_text}
use Rattle.bus_log.specs.Listening.{bus_line, page_lines}
use Rattle.bus_log.proofs.listening.print_listening.Goals as goal

pub returns-in-Some : goal.returns-in-Some
returns-in-Some g c =
    let contents = g.O.Write.contents in
    let old = contents c.args.output.now in
    let middle = contents c.print_address.new.output in
    let new = contents c.print_address-in-Some.new.output in
    let bus : Appends old middle (ended (bus_line c.args.bus)) = search rules in
    let page = subst (λ (page : Option SocketAddr). OnOk c.print_address-in-Some.result (Appends middle new (lines_text (page_lines page)))) (sym c.in-Some.is) c.print_address-in-Some.ensures in
    on_ok_weaker c.print_address-in-Some.result
    (λ more. Appends-trans old middle new (ended (bus_line c.args.bus)) (lines_text (page_lines c.args.page)) bus more)
    page
