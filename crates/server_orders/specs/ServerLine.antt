-- The command line of `lbserver`, as clap reads it, and its order: what clap's matches of its
-- arguments hold.
use Rattle.std.specs.Prelude.{◌≡◌, ◌≢◌, ◌==◌, ◌&&◌, ◌||◌, ℕ, List, codes, length, map, nat_lt, string_bytes, Bool, IsTrue, Option, Some, None, false, [], ◌∷◌}
use Rattle.std.specs.List.{list_all}
use Rattle.std.specs.Char.{is_ascii_alphanumeric}
use Rattle.std.specs.Net.Addr.{ipv4_octets}
use Rattle.clap.specs.Words.{App, Row, Rule, Text, all_of, fault_of, first_of, matches_of, one_of}
use Rattle.command_line.specs.declared.fault.OrderFault.{OrderFault}
use Rattle.command_line.specs.CommandLine.{flag, named_app, number, option, or_else, repeated, with_rules}
use Rattle.command_line.specs.Fault.{IsFaultOf}
use Rattle.command_line.specs.Requests.{AsksForText}
use Rattle.command_line.specs.Values.{IsAddress, IsFlag, IsNumber}
use Rattle.server_orders.specs.Shares.{AreShares}
use Rattle.server_orders.specs.declared.words.ServerOrder.{ServerOrder}
use Rattle.server_orders.specs.declared.words.Settings.{Settings}

-- The options. An option that is not given has its default, if there is one.
unfoldable pub server_rules : List Rule
server_rules =
    or_else (option (codes "address")) (codes "127.0.0.1")
    ∷ or_else (number (codes "port") 0 65535) (codes "1234")
    ∷ option (codes "roster")
    ∷ option (codes "plan")
    ∷ option (codes "programmer")
    ∷ number (codes "turns") 0 255
    ∷ number (codes "rate") 1 100
    ∷ number (codes "clients") 0 4294967295
    ∷ flag (codes "track")
    ∷ flag (codes "quiet")
    ∷ flag (codes "times")
    ∷ number (codes "page") 0 65535
    ∷ option (codes "page-file")
    ∷ repeated (codes "host")
    ∷ repeated (codes "lose")
    ∷ or_else (number (codes "seed") 0 4294967295) (codes "0")
    ∷ []

-- The program.
unfoldable pub server_app : App
server_app = with_rules (named_app (codes "lbserver") false) server_rules

-- The order of the arguments.

-- the number of an optional option
abbrev pub IsNumberIfGiven : Option Text → (least most : ℕ) → Option ℕ → Type 0
IsNumberIfGiven None least most given = given ≡ None
IsNumberIfGiven (Some text) least most None = ⊥
IsNumberIfGiven (Some text) least most (Some n) = IsNumber (Some text) least most n

-- a host name: letters, digits, hyphens and dots (RFC 952, RFC 1123, section 2.1)
abbrev pub is_host_byte : ℕ → Bool
is_host_byte b = is_ascii_alphanumeric b || b == 45 || b == 46

abbrev pub is_host_name : Text → Bool
is_host_name name = nat_lt 0 (length name) && list_all is_host_byte name

-- the names that the values of a repeated option are
abbrev pub AreHosts : Option (List Text) → List Text → Type 0
AreHosts None hosts = hosts ≡ []
AreHosts (Some names) hosts = (hosts ≡ names) × IsTrue (list_all is_host_name names)

-- options that need another have it: a plan a roster, and the file of a page a page; a rate is not
-- given with turns
pub record AreCompatible (rows : List Row) : Type 0 where
  pub roster : first_of (codes "plan") rows ≢ None → first_of (codes "roster") rows ≢ None
  pub page : first_of (codes "page-file") rows ≢ None → one_of (codes "page") rows ≢ None
  pub rate : first_of (codes "rate") rows ≢ None → first_of (codes "turns") rows ≡ None

-- the same of whatever value
abbrev pub AreCompatibleFor : {A : Type 0} → List Row → A → Type 0
AreCompatibleFor rows value = AreCompatible rows

-- the parts of an order that are no texts
pub record AreSettings (rows : List Row) (settings : Settings) : Type 0 where
  pub at_address : IsAddress (one_of (codes "address") rows) settings.address
  pub at_port : IsNumber (one_of (codes "port") rows) 0 65535 settings.port
  pub each_turns : IsNumberIfGiven (one_of (codes "turns") rows) 0 255 settings.turns
  pub at_rate : IsNumberIfGiven (one_of (codes "rate") rows) 1 100 settings.rate
  pub most_clients : IsNumberIfGiven (one_of (codes "clients") rows) 0 4294967295 settings.clients
  pub shows_track : IsFlag (one_of (codes "track") rows) settings.track
  pub keeps_quiet : IsFlag (one_of (codes "quiet") rows) settings.quiet
  pub has_times : IsFlag (one_of (codes "times") rows) settings.times
  pub at_page : IsNumberIfGiven (one_of (codes "page") rows) 0 65535 settings.page
  pub with_seed : IsNumber (one_of (codes "seed") rows) 0 4294967295 settings.seed

pub record IsServerOrder (rows : List Row) (order : ServerOrder) : Type 0 where
  pub at_address : IsAddress (one_of (codes "address") rows) order.address
  pub at_port : IsNumber (one_of (codes "port") rows) 0 65535 order.port
  pub with_roster : order.roster ≡ first_of (codes "roster") rows
  pub with_plan : order.plan ≡ first_of (codes "plan") rows
  pub with_programmer : order.programmer ≡ first_of (codes "programmer") rows
  pub each_turns : IsNumberIfGiven (one_of (codes "turns") rows) 0 255 order.turns
  pub at_rate : IsNumberIfGiven (one_of (codes "rate") rows) 1 100 order.rate
  pub most_clients : IsNumberIfGiven (one_of (codes "clients") rows) 0 4294967295 order.clients
  pub shows_track : IsFlag (one_of (codes "track") rows) order.track
  pub keeps_quiet : IsFlag (one_of (codes "quiet") rows) order.quiet
  pub has_times : IsFlag (one_of (codes "times") rows) order.times
  pub at_page : IsNumberIfGiven (one_of (codes "page") rows) 0 65535 order.page
  pub with_page : order.page_file ≡ first_of (codes "page-file") rows
  pub compatible : AreCompatible rows
  pub by_hosts : AreHosts (all_of (codes "host") rows) (map (λ host. string_bytes host) order.hosts.items)
  pub shares_lost : AreShares (all_of (codes "lose") rows) order.lose.items
  pub with_seed : IsNumber (one_of (codes "seed") rows) 0 4294967295 order.seed

abbrev pub IsServerOrderOf : List Text → ServerOrder → Type 0
IsServerOrderOf words order = IsServerOrder (matches_of server_app words) order

abbrev pub IsServerFault : List Text → OrderFault → Type 0
IsServerFault words fault = IsFaultOf (fault_of server_app words) (IsServerOrderOf words) fault

-- clap answers the arguments with help or the version
abbrev pub AsksServer : List Text → Type 0
AsksServer words = AsksForText (fault_of server_app words)

-- the defaults: only this machine can connect, in real time and without end
pub record IsDefaultOrder (order : ServerOrder) : Type 0 where
  pub at_address : ipv4_octets order.address ≡ 127 ∷ 0 ∷ 0 ∷ 1 ∷ []
  pub at_port : order.port ≡ 1234
  pub without_roster : order.roster ≡ None
  pub without_plan : order.plan ≡ None
  pub without_programmer : order.programmer ≡ None
  pub in_real_time : order.turns ≡ None
  pub without_rate : order.rate ≡ None
  pub for_ever : order.clients ≡ None
  pub shows_no_track : order.track ≡ false
  pub prints_log : order.quiet ≡ false
  pub without_times : order.times ≡ false
  pub without_page : order.page ≡ None
  pub without_page_file : order.page_file ≡ None
  pub without_hosts : order.hosts.items ≡ []
  pub loses_none : order.lose.items ≡ []
  pub with_seed : order.seed ≡ 0
