-- The names of the decoders of a roster, one after another.
use Rattle.std.proofs.Common.{◌≡◌, ◌<◌, ◌+◌, ◌++◌, ◌∙◌, ℕ, Bool, true, List, [], ◌∷◌, map, take, drop, length, ap, sym, refl, arith}
use Rattle.std.specs.Prelude.{◌||◌, find, is_some, not, slice_index_or, Option, Some, None}
use Rattle.std.specs.List.{cons_option, filter_map}
use Rattle.std.specs.Str.{bytes_eq}
use Rattle.std.proofs.lemmas.List.{drop_more, get_or-map, length-map, map_more}
use Rattle.roster.specs.Entry.{Entry, name_of}
use Rattle.roster.specs.Decoders.{names_of}
use Rattle.server_orders.specs.declared.share.Share.{Share}
use Rattle.server_orders.specs.Shares.{decoder_of, share_for}
use Rattle.lbserver.specs.Sharing.{first_unknown, is_known, shares_of}
use Rattle.lbserver.specs.Execution.{names_decoder}

-- the first of entries of which there are some, for indices past them
pub first_of : (entries : List Entry) (i : ℕ) → i < length entries → Entry
first_of [] i within = absurd (omega (arith, within))
first_of (entry ∷ entries) i within = entry

-- the next name is this one, or it is among the others
pub next_known : (entries : List Entry) (i : ℕ) (name : List ℕ) (none : Entry) → i < length entries
    → is_known (map name_of (drop i entries)) name ≡ (bytes_eq name (name_of (slice_index_or entries i none)) || is_known (map name_of (drop (i + 1) entries)) name)
next_known entries i name none within = ap (λ (rest : List Entry). is_known (map name_of rest) name) (drop_more entries i none within)

-- the shares of one decoder more
pub next_share : (shares : List Share) (entries : List Entry) (i : ℕ) (so_far after : List ℕ) (name : List ℕ) (none : Entry) → i < length entries → so_far ≡ shares_of shares (take i (names_of entries))
    → name ≡ name_of (slice_index_or entries i none) → after ≡ so_far ++ share_for shares name ∷ [] → after ≡ shares_of shares (take (i + 1) (names_of entries))
next_share shares entries i so_far after name none within are is more =
    let inside : i < length (names_of entries) = omega (arith, within, length-map entries name_of) in
    let of_name : name ≡ slice_index_or (names_of entries) i [] = is ∙ sym (get_or-map name_of entries i none [] within) in
    more ∙ ap (λ (front : List ℕ). front ++ share_for shares name ∷ []) are
    ∙ ap (λ (name : List ℕ). shares_of shares (take i (names_of entries)) ++ share_for shares name ∷ []) of_name
    ∙ sym (map_more (share_for shares) (names_of entries) i [] inside)

-- a share that names no decoder of the roster names one
one_named : (names : List (List ℕ)) (decoder : Option (List ℕ)) (others : List (List ℕ)) (any : Bool) (name : List ℕ) → find (λ name. not (is_known names name)) (cons_option decoder others) ≡ Some name
    → (find (λ name. not (is_known names name)) others ≡ Some name → any ≡ true) → (is_some decoder || any) ≡ true
one_named names None others any name unknown later = later unknown
one_named names (Some decoder) others any name unknown later = refl

pub are_named : (names : List (List ℕ)) (shares : List Share) (name : List ℕ) → first_unknown names shares ≡ Some name → names_decoder shares ≡ true
are_named names [] name unknown = absurd cc
are_named names (share ∷ shares) name unknown = one_named names (decoder_of share) (filter_map decoder_of shares) (names_decoder shares) name unknown (are_named names shares name)
