-- The values of clap's matches.
use Rattle.std.specs.Prelude.{ℕ, ◌≡◌, ◌≤◌, ◌<◌, ◌^◌, Bool, codes, if◌then◌else◌, Option, Some, None}
use Rattle.std.specs.Str.Parse.{IsNumeral, digits_value, without_leading_plus}
use Rattle.std.specs.Net.Grammar.{IsIpv4Text}
use Rattle.std.specs.declared.net.ipv4_addr.Ipv4Addr.{Ipv4Addr}
use Rattle.clap.specs.Words.{Text}

-- there is none of this kind
abbrev pub HasNone : {A : Type 0} → (A → Type 0) → Type 0
HasNone {A} Is = (a : A) → Is a → ⊥

-- the number that a text writes
abbrev pub number_of : Text → ℕ
number_of text = digits_value 10 (without_leading_plus text)

-- the text is a numeral with this value
abbrev pub Writes : Option Text → ℕ → Type 0
Writes (Some text) n = IsNumeral 10 (without_leading_plus text) × (n ≡ number_of text)
Writes None n = ⊥

-- the text is not a 32-bit number
abbrev pub WritesNone : Option Text → Type 0
WritesNone text = (n : ℕ) → n < 2 ^ 32 → Writes text n → ⊥

-- n is the value of this option, and in its range
pub record IsNumber (text : Option Text) (least most n : ℕ) : Type 0 where
  pub written : Writes text n
  pub at_least : least ≤ n
  pub at_most : n ≤ most

-- the address that the value of an option writes
abbrev pub IsAddress : Option Text → Ipv4Addr → Type 0
IsAddress (Some text) address = IsIpv4Text text address
IsAddress None address = ⊥

-- whether a flag is set
abbrev pub IsFlag : Option Text → Bool → Type 0
IsFlag text flag = text ≡ Some (if flag then codes "true" else codes "false")
