-- The output for an input.
use Rattle.std.specs.Prelude.{ℕ, ◌≡◌, ◌<◌, ◌≤◌, ◌⊎◌, List, length, Option, Some, None, Result, Err, IfErr, IsErrAnd}
use Rattle.std.specs.Str.Lines.{lines}
use Rattle.std.specs.Io.KnownBytes.{Appends, Consumes, IsAtEnd}
use Rattle.filter.specs.declared.fault.FilterFault.{FilterFault}
use Rattle.filter.specs.declared.fault.FilterFault.TheVariants.{BadLine, NoMemory, Output, TooLong, Unreadable}
use Rattle.trace.specs.Parsed.{FailsAt}
use Rattle.trace.specs.Text.{TextParses}

-- The input was read to its end, and the drawing of its lines was written.
abbrev pub DrawsInput : {A : Type 0} → (Parses : List ℕ → Option A → Type 0) → (drawn : List A → List ℕ) → (old_input new_input old_output new_output : Option (List ℕ)) → Type 0
DrawsInput {A} Parses drawn old_input new_input old_output new_output =
    (text : List ℕ) × (things : List A) × Consumes old_input new_input text × IsAtEnd new_input × TextParses Parses text things × Appends old_output new_output (drawn things)

-- the text has this fault, for these results of its lines
abbrev pub Refuses : {A : Type 0} → (List ℕ → Option A → Type 0) → List ℕ → FilterFault → Type 0
Refuses Parses text TooLong = 16777216 < length text
Refuses Parses text (BadLine number) = (length text ≤ 16777216) × FailsAt Parses (lines text) number
Refuses Parses text Unreadable = ⊥
Refuses Parses text Output = ⊥
Refuses Parses text NoMemory = ⊥

-- the fault of a run whose input has this one, unless the input could not be read
abbrev pub IsRefusal : FilterFault → FilterFault → Type 0
IsRefusal fault e = (e ≡ fault) ⊎ (e ≡ Unreadable) ⊎ (e ≡ NoMemory)

-- If the input has a fault, the run fails, nothing is written, and the fault is reported.
abbrev pub RefusesInput : {A B : Type 0} → (Parses : List ℕ → Option A → Type 0) → (input : Option (List ℕ)) → Result B FilterFault → (old_output new_output : Option (List ℕ)) → Type 0
RefusesInput Parses None result old_output new_output = Unit {0}
RefusesInput Parses (Some text) result old_output new_output =
    (fault : FilterFault) → Refuses Parses text fault → (new_output ≡ old_output) × IsErrAnd result (IsRefusal fault)

-- If it has none, a run that fails had a failed read or write, or no memory.
abbrev pub IsBroken : FilterFault → Type 0
IsBroken e = (e ≡ Unreadable) ⊎ (e ≡ Output) ⊎ (e ≡ NoMemory)

abbrev pub FailsInput : {A B : Type 0} → (Parses : List ℕ → Option A → Type 0) → (input : Option (List ℕ)) → Result B FilterFault → Type 0
FailsInput Parses None result = Unit {0}
FailsInput {A} Parses (Some text) result = (things : List A) → TextParses Parses text things → IfErr result IsBroken

-- A run with this input failed with this fault.
abbrev pub FailsToDraw : {A : Type 0} → (Parses : List ℕ → Option A → Type 0) → FilterFault → (old_input new_input old_output new_output : Option (List ℕ)) → Type 0
FailsToDraw Parses fault old_input new_input old_output new_output =
    RefusesInput {B = Unit {0}} Parses old_input (Err fault) old_output new_output × FailsInput {B = Unit {0}} Parses old_input (Err fault)
