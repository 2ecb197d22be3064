-- The decoders that an order's shares of packets name, and what each decoder of a roster misses.
use Rattle.std.specs.Prelude.{ℕ, ◌≡◌, ◌⊎◌, Bool, find, not, List, map, Option, Some, string_bytes}
use Rattle.std.specs.List.{filter_map, list_any}
use Rattle.std.specs.Str.{bytes_eq}
use Rattle.console.specs.declared.fault.RunFault.TheVariants.{NoMemory}
use Rattle.server_orders.specs.declared.share.Share.{Share}
use Rattle.server_orders.specs.Shares.{decoder_of, share_for}
use Rattle.lbserver.specs.declared.fault.ServerFault.{ServerFault}
use Rattle.lbserver.specs.declared.fault.ServerFault.TheVariants.{NoDecoder, Run}

-- the shares of the decoders of these names, in their order
abbrev pub shares_of : List Share → (names : List (List ℕ)) → List ℕ
shares_of shares names = map (share_for shares) names

-- a decoder has this name
abbrev pub is_known : (names : List (List ℕ)) → List ℕ → Bool
is_known names name = list_any (bytes_eq name) names

-- the first name in shares that is that of no decoder
abbrev pub first_unknown : (names : List (List ℕ)) → List Share → Option (List ℕ)
first_unknown names shares = find (λ name. not (is_known names name)) (filter_map decoder_of shares)

-- The fault of shares that name a decoder that the roster lacks: memory ran out, or it has the name, the first.
abbrev pub NamesUnknown : (names : List (List ℕ)) → List Share → ServerFault → Type 0
NamesUnknown names shares fault =
    (fault ≡ Run NoMemory) ⊎ ((name : _) × (first_unknown names shares ≡ Some (string_bytes name)) × (fault ≡ NoDecoder name))
