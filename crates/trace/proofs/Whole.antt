-- What is known of a whole input.
use Rattle.std.proofs.Common.{◌≡◌, ℕ, ◌+◌, ◌≤◌, ◌⊎◌, inl, inr, List, [], ◌∷◌, ◌++◌, length, length-append, Option, Some, None, refl, ap, sym, subst, ◌∙◌, arith}
use Rattle.std.proofs.lemmas.List.{append-nil}
use Rattle.std.specs.Prelude.{Result, Ok, Err, OnOk, IfErr, IsErrAnd}
use Rattle.std.specs.Option.{option_to_list}
use Rattle.std.specs.Io.KnownBytes.{Appends, Consumes, IsAtEnd}
use Rattle.std.specs.Str.Lines.{lines}
use Rattle.filter.specs.declared.fault.FilterFault.{FilterFault}
use Rattle.filter.specs.declared.fault.FilterFault.TheVariants.{Unreadable, Output, BadLine, TooLong, NoMemory}
use Rattle.trace.specs.Drawn.{DrawsInput, FailsInput, IsBroken, IsRefusal, Refuses, RefusesInput}
use Rattle.input_text.specs.Read.{ReadsMost}
use Rattle.trace.specs.Text.{TextParses}
use Rattle.trace.specs.Parsed.{FailsAt}
use Rattle.trace.proofs.Parsing.{fails_once, never_both}

-- one result more after those of the lines before, or none
pub with_one : {A : Type 0} (things now : List A) (thing : A) (item : Option A) → now ≡ things ++ thing ∷ [] → item ≡ Some thing → now ≡ things ++ option_to_list item
with_one {A} things now thing item pushed is = pushed ∙ ap (λ (o : Option A). things ++ option_to_list o) (sym is)

pub with_none : {A : Type 0} (things : List A) (item : Option A) → item ≡ None → things ≡ things ++ option_to_list item
with_none {A} things item none = sym (append-nil things) ∙ ap (λ (o : Option A). things ++ option_to_list o) (sym none)

at_end : (old new : Option (List ℕ)) (bytes : List ℕ) → ReadsMost old new 16777217 bytes → length bytes ≤ 16777216 → IsAtEnd new
at_end old new bytes read short = elim read.enough [ inl long ↦ absurd (omega (arith, long, short)) | inr end ↦ end ]

-- A text that is not too long is read whole, and of any other one byte too many.

consumed : (text : List ℕ) (new : Option (List ℕ)) (bytes : List ℕ) → Consumes (Some text) new bytes → (left : List ℕ) × (text ≡ bytes ++ left) × (IsAtEnd new → left ≡ [])
consumed text None bytes taken = absurd taken
consumed text (Some left) bytes taken = (left, taken, λ end. end)

whole : (text : List ℕ) (new : Option (List ℕ)) (bytes : List ℕ) → ReadsMost (Some text) new 16777217 bytes → length bytes ≤ 16777216 → text ≡ bytes
whole text new bytes read short =
    let parts = consumed text new bytes read.taken in
    parts.1 ∙ ap (λ (left : List ℕ). bytes ++ left) (parts.2 (at_end (Some text) new bytes read short)) ∙ append-nil bytes

no_longer : (text : List ℕ) (new : Option (List ℕ)) (bytes : List ℕ) → ReadsMost (Some text) new 16777217 bytes → length bytes ≤ length text
no_longer text new bytes read =
    let parts = consumed text new bytes read.taken in
    let sum : length text ≡ length bytes + length parts.0 = ap length parts.1 ∙ length-append bytes parts.0 in
    omega (arith, sum)

short_text : (text : List ℕ) (new : Option (List ℕ)) (bytes : List ℕ) → ReadsMost (Some text) new 16777217 bytes → length text ≤ 16777216 → text ≡ bytes
short_text text new bytes read short = whole text new bytes read (omega (arith, short, no_longer text new bytes read))

passed_up : {B : Type 0} (result : Result B FilterFault) (e : FilterFault) (P : FilterFault → Type 0) → IsErrAnd result (λ f. f ≡ e) → P e → IsErrAnd result P
passed_up (Ok a) e P is holds = is
passed_up (Err f) e P is holds = subst P (sym is) holds

if_err : {B : Type 0} (result : Result B FilterFault) (P : FilterFault → Type 0) → IsErrAnd result P → IfErr result P
if_err (Ok a) P is = tt
if_err (Err e) P is = is

module _ {A : Type 0} (Parses : List ℕ → Option A → Type 0) where
  -- the input read has the fault of the text
  same_fault : (text : List ℕ) (new : Option (List ℕ)) (bytes : List ℕ) (fault e : FilterFault) → ReadsMost (Some text) new 16777217 bytes → Refuses Parses text fault → Refuses Parses bytes e → e ≡ fault
  same_fault text new bytes TooLong TooLong read refused found = refl
  same_fault text new bytes TooLong (BadLine number) read refused found = absurd (let same : length text ≡ length bytes = ap length (whole text new bytes read found.0) in omega (arith, same, refused, found.0))
  same_fault text new bytes (BadLine number) TooLong read refused found = absurd (omega (arith, refused.0, found, no_longer text new bytes read))
  same_fault text new bytes (BadLine number) (BadLine other) read refused found =
      ap BadLine (fails_once Parses (lines bytes) other number found.1 (subst (λ (bs : List ℕ). FailsAt Parses (lines bs) number) (whole text new bytes read found.0) refused.1))
  same_fault text new bytes Unreadable e read refused found = absurd refused
  same_fault text new bytes Output e read refused found = absurd refused
  same_fault text new bytes NoMemory e read refused found = absurd refused
  same_fault text new bytes fault Unreadable read refused found = absurd found
  same_fault text new bytes fault Output read refused found = absurd found
  same_fault text new bytes fault NoMemory read refused found = absurd found

  -- and a text without a fault has results
  no_fault : (text : List ℕ) (new : Option (List ℕ)) (bytes : List ℕ) (things : List A) (fault : FilterFault) → ReadsMost (Some text) new 16777217 bytes → TextParses Parses bytes things → Refuses Parses text fault → ⊥
  no_fault text new bytes things TooLong read item refused = let same : length text ≡ length bytes = ap length (whole text new bytes read item.0) in omega (arith, same, refused, item.0)
  no_fault text new bytes things (BadLine number) read item refused = never_both Parses (lines bytes) number things (subst (λ (bs : List ℕ). FailsAt Parses (lines bs) number) (whole text new bytes read item.0) refused.1) item.1
  no_fault text new bytes things Unreadable read item refused = refused
  no_fault text new bytes things Output read item refused = refused
  no_fault text new bytes things NoMemory read item refused = refused

  pub draws : {B E : Type 0} (drawn : List A → List ℕ) (r : Result B E) (old new : Option (List ℕ)) (bytes : List ℕ) (things those : List A) (old_output new_output : Option (List ℕ)) → ReadsMost old new 16777217 bytes → TextParses Parses bytes things
      → those ≡ things → OnOk r (Appends old_output new_output (drawn those)) → OnOk r (DrawsInput Parses drawn old new old_output new_output)
  draws drawn (Ok a) old new bytes things those old_output new_output read item same appended =
      (bytes, things, read.taken, at_end old new bytes read item.0, item, subst (λ (ps : List A). Appends old_output new_output (drawn ps)) same appended)
  draws drawn (Err e) old new bytes things those old_output new_output read item same appended = tt

  pub refuses : {B : Type 0} (up : Result B FilterFault) (e : FilterFault) (old new : Option (List ℕ)) (bytes : List ℕ) (output : Option (List ℕ)) → IsErrAnd up (λ f. f ≡ e) → ReadsMost old new 16777217 bytes → (e ≡ NoMemory) ⊎ Refuses Parses bytes e
      → RefusesInput Parses old up output output
  refuses up e None new bytes output is read why = tt
  refuses up e (Some text) new bytes output is read why = λ fault refused.
      (refl, passed_up up e (IsRefusal fault) is (elim why [ inl memory ↦ inr (inr memory) | inr found ↦ inl (same_fault text new bytes fault e read refused found) ]))

  pub refuses_none : {B : Type 0} (result : Result B FilterFault) (old new : Option (List ℕ)) (bytes : List ℕ) (things : List A) (old_output new_output : Option (List ℕ)) → ReadsMost old new 16777217 bytes → TextParses Parses bytes things
      → RefusesInput Parses old result old_output new_output
  refuses_none result None new bytes things old_output new_output read item = tt
  refuses_none result (Some text) new bytes things old_output new_output read item = λ fault refused. absurd (no_fault text new bytes things fault read item refused)

  pub fails : {B : Type 0} (up : Result B FilterFault) (e : FilterFault) (old new : Option (List ℕ)) (bytes : List ℕ) → IsErrAnd up (λ f. f ≡ e) → ReadsMost old new 16777217 bytes → ((things : List A) → TextParses Parses bytes things → e ≡ NoMemory)
      → FailsInput Parses old up
  fails up e None new bytes is read why = tt
  fails up e (Some text) new bytes is read why = λ things item.
      if_err up IsBroken (passed_up up e IsBroken is (inr (inr (why things (subst (λ (bs : List ℕ). TextParses Parses bs things) (short_text text new bytes read item.0) item)))))
