-- The shares of packets that decoders miss, as the values of `--lose` say them: N, or NAME=N.
use Rattle.std.specs.Prelude.{ℕ, ◌≡◌, ◌==◌, ◌&&◌, Bool, true, false, find, if◌then◌else◌, not, List, [], ◌∷◌, map, Option, Some, None, option_map, string_bytes}
use Rattle.std.specs.List.{AllZip, after_first, before_first, list_any}
use Rattle.std.specs.Option.{unwrap_or}
use Rattle.std.specs.Str.{bytes_eq}
use Rattle.clap.specs.Words.{Text, all_of, found_of, rows_of}
use Rattle.clap.specs.declared.parser.matches.ArgMatches.{ArgMatches}
use Rattle.command_line.specs.Values.{IsNumber}
use Rattle.server_orders.specs.declared.share.Share.{Share}

-- the values of a repeated option, if it is given
abbrev pub all_given : ArgMatches → Text → Option (List Text)
all_given found id = all_of id (rows_of (found_of found))

abbrev pub is_equals_sign : ℕ → Bool
is_equals_sign b = b == 61

-- the name before the first `=` of a value; none without one
abbrev pub decoder_in : Text → Option Text
decoder_in value = if list_any is_equals_sign value then Some (before_first is_equals_sign value) else None

-- the number after it; without one the whole value
abbrev pub number_in : Text → Text
number_in value = if list_any is_equals_sign value then after_first is_equals_sign value else value

-- the decoder that a share names, if it names one
abbrev pub decoder_of : Share → Option Text
decoder_of share = option_map (λ name. string_bytes name) share.decoder

-- a value says this share
pub record IsShare (value : Text) (share : Share) : Type 0 where
  pub decoder : decoder_of share ≡ decoder_in value
  pub lost : IsNumber (Some (number_in value)) 0 99 share.lose

-- the same name, or none twice
abbrev pub is_same_decoder : Option Text → Option Text → Bool
is_same_decoder None None = true
is_same_decoder (Some a) (Some b) = bytes_eq a b
is_same_decoder None (Some b) = false
is_same_decoder (Some a) None = false

-- no name stands twice, nor is one left out twice
abbrev pub are_distinct : List (Option Text) → Bool
are_distinct [] = true
are_distinct (decoder ∷ decoders) = not (list_any (is_same_decoder decoder) decoders) && are_distinct decoders

-- each value says a share
abbrev pub AreSharesOf : List Text → List Share → Type 0
AreSharesOf values shares = AllZip IsShare values shares

-- the shares that the values of a repeated option say
abbrev pub AreShares : Option (List Text) → List Share → Type 0
AreShares None shares = shares ≡ []
AreShares (Some values) shares = AreSharesOf values shares × (are_distinct (map decoder_in values) ≡ true)

-- what the share of this decoder is, or that without a name
abbrev pub share_of : List Share → Option Text → Option ℕ
share_of shares decoder = option_map (λ share. share.lose) (find (λ share. is_same_decoder (decoder_of share) decoder) shares)

-- how many of 100 packets the decoder of this name misses: its share, else that of all others, else none
abbrev pub share_for : List Share → Text → ℕ
share_for shares name = unwrap_or (share_of shares (Some name)) (unwrap_or (share_of shares None) 0)
