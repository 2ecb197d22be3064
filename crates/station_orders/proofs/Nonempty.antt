-- The order of arguments that are passed to clap: of all but an empty list.
use Rattle.std.proofs.Common.{◌≡◌, ◌==◌, false, List, [], ◌∷◌, Option, Result, Ok, Err, inl, inr, length, map, refl, subst, sym}
use Rattle.std.specs.Prelude.{IfErr, IfOk, IsErrAnd}
use Rattle.std.specs.Borrow.{Bor}
use Rattle.clap.specs.Words.{Row, Text, fault_of, subcommand_of}
use Rattle.command_line.specs.declared.fault.OrderFault.{OrderFault}
use Rattle.command_line.specs.Fault.{IsRejectedBy, IsUnmatched}
use Rattle.station_orders.specs.declared.words.Order.{Order}
use Rattle.station_orders.specs.Fault.{IsOrderFault, refusals}
use Rattle.station_orders.specs.Order.{IsMatched, IsOrderOf}
use Rattle.station_orders.specs.StationLine.{station_app}

pub put_to_clap : (words : List (Bor Text)) → (length words == 0) ≡ false → fault_of station_app (map (λ word. word.now) words) ≡ refusals (map (λ word. word.now) words)
put_to_clap [] some = cc
put_to_clap (word ∷ words) some = refl

pub of_order : (words : List (Bor Text)) (rows : Option (Text × List Row)) (r : Result Order OrderFault) → (length words == 0) ≡ false → rows ≡ subcommand_of station_app (map (λ word. word.now) words)
    → IfOk r (IsMatched rows) → IfOk r (IsOrderOf (map (λ word. word.now) words))
of_order [] rows r some are is = cc
of_order (word ∷ words) rows r some are is = subst (λ (rows : Option (Text × List Row)). IfOk r (IsMatched rows)) are is

pub of_fault : (words : List (Bor Text)) (rows : Option (Text × List Row)) (r : Result Order OrderFault) → (length words == 0) ≡ false → rows ≡ subcommand_of station_app (map (λ word. word.now) words)
    → IfErr r (IsUnmatched (IsMatched rows)) → IfErr r (IsOrderFault (map (λ word. word.now) words))
of_fault words rows (Ok order) some are is = tt
of_fault [] rows (Err fault) some are is = cc
of_fault (word ∷ words) rows (Err fault) some are is = inr (subst (λ (rows : Option (Text × List Row)). IsUnmatched (IsMatched rows) fault) are is)

pub of_rejection : (words : List (Bor Text)) (fault : OrderFault) (r : Result Order OrderFault) → (length words == 0) ≡ false → IsErrAnd r (λ actual. actual ≡ fault)
    → IsRejectedBy (fault_of station_app (map (λ word. word.now) words)) fault → IfErr r (IsOrderFault (map (λ word. word.now) words))
of_rejection words fault (Ok order) some same rejected = tt
of_rejection [] fault (Err actual) some same rejected = cc
of_rejection (word ∷ words) fault (Err actual) some same rejected = inl (subst (IsRejectedBy (fault_of station_app (map (λ word. word.now) (word ∷ words)))) (sym same) rejected)
