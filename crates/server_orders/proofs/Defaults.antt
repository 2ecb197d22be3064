-- The defaults of the options of `lbserver`.
use Rattle.std.proofs.Common.{◌≡◌, ℕ, Bool, true, false, String, Global, string_bytes, List, [], ◌∷◌, Option, Some, None, codes, refl, ap, sym, subst, ◌∙◌, map, lit<, lit≤, decimal, ◌++◌}
use Rattle.std.specs.Prelude.{Result, Ok, Err, IfOk}
use Rattle.std.specs.Borrow.{Bor}
use Rattle.std.specs.Net.Addr.{ipv4_octets}
use Rattle.std.specs.Net.Text.{dotted_text}
use Rattle.std.proofs.lemmas.Fmt.{decimal_digit, decimal_step}
use Rattle.std.specs.Net.Grammar.{IsDotted}
use Rattle.std.specs.declared.net.ipv4_addr.Ipv4Addr.{Ipv4Addr}
use Rattle.std.proofs.NetLemmas.Theorems.{IsIpv4Text_unique}
use Rattle.clap.specs.Words.{Row, Text, all_of, first_of, matches_of, one_of}
use Rattle.command_line.specs.Values.{IsAddress, IsFlag, IsNumber, Writes, number_of}
use Rattle.server_orders.specs.declared.words.ServerOrder.{ServerOrder}
use Rattle.server_orders.specs.Shares.{AreShares}
use Rattle.server_orders.specs.declared.share.Share.{Share}
use Rattle.server_orders.specs.ServerLine.{AreHosts, IsDefaultOrder, IsNumberIfGiven, IsServerOrder, server_app, server_rules}

-- clap's matches of no arguments
record HasDefaults (rows : List Row) : Type 0 where
  pub address : one_of (codes "address") rows ≡ Some (codes "127.0.0.1")
  pub port : one_of (codes "port") rows ≡ Some (codes "1234")
  pub roster : first_of (codes "roster") rows ≡ None
  pub plan : first_of (codes "plan") rows ≡ None
  pub programmer : first_of (codes "programmer") rows ≡ None
  pub turns : one_of (codes "turns") rows ≡ None
  pub rate : one_of (codes "rate") rows ≡ None
  pub clients : one_of (codes "clients") rows ≡ None
  pub track : one_of (codes "track") rows ≡ Some (codes "false")
  pub quiet : one_of (codes "quiet") rows ≡ Some (codes "false")
  pub times : one_of (codes "times") rows ≡ Some (codes "false")
  pub page : one_of (codes "page") rows ≡ None
  pub page_file : first_of (codes "page-file") rows ≡ None
  pub hosts : all_of (codes "host") rows ≡ None
  pub lose : all_of (codes "lose") rows ≡ None
  pub seed : one_of (codes "seed") rows ≡ Some (codes "0")

no_words : HasDefaults (matches_of server_app [])
unfolding server_rules server_app
no_words = record { address = refl; port = refl; roster = refl; plan = refl; programmer = refl; turns = refl; rate = refl; clients = refl; track = refl; quiet = refl; times = refl; page = refl; page_file = refl; hosts = refl; lose = refl; seed = refl }

number_is : (read : Option Text) (text : Text) (least most n : ℕ) → IsNumber read least most n → read ≡ Some text → n ≡ number_of text
number_is read text least most n is same =
    let P : Option Text → Type 0 = λ o. Writes o n in
    (subst P same is.written).1

number_is_none : (read : Option Text) (least most : ℕ) (given : Option ℕ) → IsNumberIfGiven read least most given → read ≡ None → given ≡ None
number_is_none read least most given is same =
    let P : Option Text → Type 0 = λ o. IsNumberIfGiven o least most given in
    subst P same is

hosts_are_none : (read : Option (List Text)) (hosts : List (String Global)) → AreHosts read (map (λ host. string_bytes host) hosts) → read ≡ None → hosts ≡ []
hosts_are_none read [] is same = refl
hosts_are_none None (host ∷ hosts) is same = absurd cc
hosts_are_none (Some names) (host ∷ hosts) is same = absurd cc

shares_are_none : (read : Option (List Text)) (shares : List Share) → AreShares read shares → read ≡ None → shares ≡ []
shares_are_none None shares is same = is
shares_are_none (Some values) shares is same = absurd cc

flag_is : (read : Option Text) (flag : Bool) → IsFlag read flag → read ≡ Some (codes "false") → flag ≡ false
flag_is read false is same = refl
flag_is read true is same = let bad : Some (codes "false") ≡ Some (codes "true") = sym same ∙ is in cc

localhost : Ipv4Addr
localhost = record { octets = 127 ∷ 0 ∷ 0 ∷ 1 ∷ [] }

decimal_127 : decimal 127 ≡ codes "127"
decimal_127 = decimal_step 127 (lit≤ tt) (lit< tt) ∙ ap (λ (bs : List ℕ). bs ++ 55 ∷ []) (decimal_step 12 (lit≤ tt) (lit< tt) ∙ ap (λ (bs : List ℕ). bs ++ 50 ∷ []) (decimal_digit 1 (lit< tt)))

localhost_text : dotted_text 127 0 0 1 ≡ codes "127.0.0.1"
localhost_text = rw (decimal_127, decimal_digit 0 (lit< tt), decimal_digit 1 (lit< tt)) refl

localhost_written : IsDotted (codes "127.0.0.1") (127 ∷ 0 ∷ 0 ∷ 1 ∷ [])
localhost_written = record { a = 127; b = 0; c = 0; d = 1; fit = (lit< tt, lit< tt, lit< tt, lit< tt); value = refl; spelled = sym localhost_text }

address_is : (read : Option Text) (address : Ipv4Addr) → IsAddress read address → read ≡ Some (codes "127.0.0.1") → ipv4_octets address ≡ 127 ∷ 0 ∷ 0 ∷ 1 ∷ []
unfolding localhost
address_is read address is same =
    let P : Option Text → Type 0 = λ o. IsAddress o address in
    ap ipv4_octets (IsIpv4Text_unique (codes "127.0.0.1") address localhost (subst P same is) localhost_written)

defaults : (rows : List Row) (order : ServerOrder) → HasDefaults rows → IsServerOrder rows order → IsDefaultOrder order
defaults rows order has is = record {
  at_address = address_is _ order.address is.at_address has.address;
  at_port = number_is _ (codes "1234") 0 65535 order.port is.at_port has.port;
  without_roster = is.with_roster ∙ has.roster;
  without_plan = is.with_plan ∙ has.plan;
  without_programmer = is.with_programmer ∙ has.programmer;
  in_real_time = number_is_none _ 0 255 order.turns is.each_turns has.turns;
  without_rate = number_is_none _ 1 100 order.rate is.at_rate has.rate;
  for_ever = number_is_none _ 0 4294967295 order.clients is.most_clients has.clients;
  shows_no_track = flag_is _ order.track is.shows_track has.track;
  prints_log = flag_is _ order.quiet is.keeps_quiet has.quiet;
  without_times = flag_is _ order.times is.has_times has.times;
  without_page = number_is_none _ 0 65535 order.page is.at_page has.page;
  without_page_file = is.with_page ∙ has.page_file;
  without_hosts = hosts_are_none _ order.hosts.items is.by_hosts has.hosts;
  loses_none = shares_are_none _ order.lose.items is.shares_lost has.lose;
  with_seed = number_is _ (codes "0") 0 4294967295 order.seed is.with_seed has.seed;
}

of_rows : (words : List (Bor Text)) (rows : List Row) (order : ServerOrder) → rows ≡ matches_of server_app (map (λ word. word.now) words) → words ≡ []
    → IsServerOrder rows order → IsDefaultOrder order
of_rows [] rows order are none is = defaults (matches_of server_app []) order no_words (subst (λ (rows : List Row). IsServerOrder rows order) are is)
of_rows (word ∷ words) rows order are none is = cc

-- of an order, if there is one
pub of_no_words : {E : Type 0} (words : List (Bor Text)) (rows : List Row) (r : Result ServerOrder E) → rows ≡ matches_of server_app (map (λ word. word.now) words)
    → IfOk r (IsServerOrder rows) → words ≡ [] → IfOk r IsDefaultOrder
of_no_words words rows (Ok order) are is none = of_rows words rows order are none is
of_no_words words rows (Err e) are is none = tt
