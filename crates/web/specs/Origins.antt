-- Which requests are for this server, by the host that they name (RFC 9110, section 7.2), and which
-- page may connect: one that it served, by the origin that its browser sends (RFC 6454, section 7).
use Rattle.std.specs.Prelude.{◌≡◌, ◌⊎◌, ℕ, Bool, ◌&&◌, ◌||◌, ◌==◌, if◌then◌else◌, nat_le, nat_lt, IsTrue, true, List, [], ◌∷◌, ◌++◌, length, take, drop, codes, Option, Some, None}
use Rattle.std.specs.List.{list_all, list_any}
use Rattle.std.specs.Char.{is_ascii_digit}
use Rattle.std.specs.Net.Grammar.{IsIpv4Text, IsSocketV4Text}
use Rattle.std.specs.declared.net.ipv4_addr.Ipv4Addr.{Ipv4Addr}
use Rattle.std.specs.declared.net.socket_addr.SocketAddrV4.{SocketAddrV4}
use Rattle.websocket.specs.Headers.{Fields, eq_ignore_case}

-- The values of the fields of a name, in order. Field names are case-insensitive (RFC 9110, section
-- 5.1).
abbrev pub values_of : List ℕ → Fields → List (List ℕ)
values_of name [] = []
values_of name (f ∷ fields) =
    if eq_ignore_case f.0 name then f.1 ∷ values_of name fields else values_of name fields

-- the item of a list of one
abbrev pub only : {A : Type 0} → List A → Option A
only [] = None
only (x ∷ []) = Some x
only (x ∷ y ∷ more) = None

-- one to five digits
abbrev pub is_port : List ℕ → Bool
is_port digits = nat_lt 0 (length digits) && nat_le (length digits) 5 && list_all is_ascii_digit digits

-- nothing, or a colon and a port
abbrev pub may_be_port : List ℕ → Bool
may_be_port [] = true
may_be_port (b ∷ digits) = b == 58 && is_port digits

-- This name, in capitals or not (RFC 9110, section 4.2.3), with an optional port.
abbrev pub is_name : (name host : List ℕ) → Bool
is_name name host = eq_ignore_case (take (length name) host) name && may_be_port (drop (length name) host)

-- localhost, or one of these names
abbrev pub is_named : (names : List (List ℕ)) → (host : List ℕ) → Bool
is_named names host = is_name (codes "localhost") host || list_any (λ name. is_name name host) names

-- A host of this server: an IPv4 address, localhost, or a name that it was given, with an optional
-- port. The owner of any other name can make it resolve to this computer.
abbrev pub IsOwnHost : (names : List (List ℕ)) → List ℕ → Type 0
IsOwnHost names host =
    ((a : Ipv4Addr) × IsIpv4Text host a) ⊎ ((a : SocketAddrV4) × IsSocketV4Text host a) ⊎ IsTrue (is_named names host)

-- the one Host of a request (RFC 9112, section 3.2)
abbrev pub host_of : Fields → Option (List ℕ)
host_of fields = only (values_of (codes "Host") fields)

-- exactly one Origin, which has this host and port
abbrev pub IsSameOrigin : (host : List ℕ) → Fields → Type 0
IsSameOrigin host fields = only (values_of (codes "Origin") fields) ≡ Some (codes "http://" ++ host)
