-- How one more byte changes the requests of a text.
use Rattle.std.proofs.Common.{◌≡◌, ℕ, ◌+◌, ◌<◌, ◌≤◌, Bool, true, false, List, [], ◌∷◌, ◌++◌, suc, length, take, Option, Some, None, refl, ap, ap₂, sym, ◌∙◌, inl, inr, arith, if◌then◌else◌, nat_eq, nat_le, ◌&&◌, not, length-append}
use Rattle.std.specs.Prelude.{Err, codes}
use Rattle.std.specs.Str.{bytes_eq}
use Rattle.std.specs.Char.{is_ascii_digit}
use Rattle.std.specs.Str.Parse.{digits_value}
use Rattle.std.specs.List.{before_first, after_first, list_all, position_or_len}
use Rattle.std.specs.Option.{option_to_list}
use Rattle.std.proofs.lemmas.Bool.{and_parts, not-true, lt-leb, lt-ltb, le-ltb, cases_lt, cases_Bool}
use Rattle.std.proofs.lemmas.List.{append-nil, append_assoc, length-drop, length-take}
use Rattle.std.proofs.lemmas.Slice.Eq.{bytes_eq-Decides}
use Rattle.loconet_tcp.specs.declared.request.Request.{Request}
use Rattle.loconet_tcp.specs.declared.request.Request.TheVariants.{Invalid, Turns, Place, Device}
use Rattle.loconet_tcp.specs.declared.request.DeviceRequest.TheVariants.{Mount, Fail}
use Rattle.loconet_tcp.specs.declared.request.MountError.TheVariants.{NoName}
use Rattle.loconet_tcp.specs.declared.request.FailError.TheVariants.{UnknownFailure}
use Rattle.loconet_tcp.specs.declared.request.Things.TheVariants.{Nodes, Trains, Turnouts, Variables}
use Rattle.loconet_tcp.specs.declared.request.PlaceError.TheVariants as place_error
use Rattle.loconet_tcp.specs.declared.request.Reason.TheVariants.{TooLong}
use Rattle.loconet_tcp.specs.Text.{is_end, is_open, onto_line, lines_of}
use Rattle.text.specs.Words.{words_of, is_blank}
use Rattle.loconet_tcp.specs.Requests.{request_of, parse_fail, parse_mount, parse_place, parse_send, ask_states, bytes_of, in_range, is_fail, is_mount, is_place, is_send, is_turns, things_of, turns_of}
use Rattle.text.specs.Decimal.{decimal_of}
use Rattle.loconet_tcp.specs.Reading.{requests_in, requests_of, request_of_byte, kept_after, requests_along}

-- bytes before the first line; nothing if there is no line
abbrev all_onto : List ℕ → List (List ℕ) → List (List ℕ)
all_onto xs [] = []
all_onto xs (line ∷ lines) = (xs ++ line) ∷ lines

none-onto : (lines : List (List ℕ)) → lines ≡ all_onto [] lines
none-onto [] = refl
none-onto (line ∷ lines) = refl

one-onto : (x : ℕ) (xs : List ℕ) (lines : List (List ℕ)) → onto_line x (all_onto xs lines) ≡ all_onto (x ∷ xs) lines
one-onto x xs [] = refl
one-onto x xs (line ∷ lines) = refl

lines-in : (x : ℕ) (xs : List ℕ) → is_end x ≡ false → lines_of (x ∷ xs) ≡ onto_line x (lines_of xs)
lines-in x xs h = rw h refl

lines-end : (x : ℕ) (xs : List ℕ) → is_end x ≡ true → lines_of (x ∷ xs) ≡ [] ∷ lines_of xs
lines-end x xs h = rw h refl

-- bytes that end no line extend the first line after them
lines-open : (xs ys : List ℕ) → is_open xs ≡ true → lines_of (xs ++ ys) ≡ all_onto xs (lines_of ys)
lines-open [] ys h = none-onto (lines_of ys)
lines-open (x ∷ xs) ys h =
    let p = and_parts (not (is_end x)) (is_open xs) h in
    lines-in x (xs ++ ys) (not-true (is_end x) p.0) ∙ ap (onto_line x) (lines-open xs ys p.1) ∙ one-onto x xs (lines_of ys)

-- A long line makes the request of its first bytes.

take-cons : (k b : ℕ) (line : List ℕ) → take (1 + k) (b ∷ line) ≡ b ∷ take k line
take-cons k b line = let e : 1 + k ≡ suc k = omega arith in ap (λ n. take n (b ∷ line)) e

before-cons : (b : ℕ) (line : List ℕ) → before_first is_blank (b ∷ line) ≡ (if is_blank b then [] else b ∷ before_first is_blank line)
before-cons b line = elim (cases_Bool (is_blank b)) [ inl blank ↦ rw blank refl | inr other ↦ rw other (take-cons (position_or_len is_blank line) b line) ]

stops : (blank : Bool) (b : ℕ) (front line : List ℕ) → bytes_eq (if blank then [] else b ∷ front) [] ≡ bytes_eq (if blank then [] else b ∷ line) []
stops true b front line = refl
stops false b front line = refl

goes_on : (blank : Bool) (b w : ℕ) (front line word : List ℕ) → bytes_eq front word ≡ bytes_eq line word → bytes_eq (if blank then [] else b ∷ front) (w ∷ word) ≡ bytes_eq (if blank then [] else b ∷ line) (w ∷ word)
goes_on true b w front line word e = refl
goes_on false b w front line word e = ap (λ (same : Bool). nat_eq b w && same) e

-- one byte more than the word decides whether a line begins with it
first-front : (xs ys word : List ℕ) → length word < length xs → bytes_eq (before_first is_blank (xs ++ ys)) word ≡ bytes_eq (before_first is_blank xs) word
first-front [] ys word h = absurd (omega arith)
first-front (x ∷ xs) ys [] h =
    ap (λ (line : List ℕ). bytes_eq line []) (before-cons x (xs ++ ys))
    ∙ stops (is_blank x) x (before_first is_blank (xs ++ ys)) (before_first is_blank xs)
    ∙ sym (ap (λ (line : List ℕ). bytes_eq line []) (before-cons x xs))
first-front (x ∷ xs) ys (w ∷ word) h =
    ap (λ (line : List ℕ). bytes_eq line (w ∷ word)) (before-cons x (xs ++ ys))
    ∙ goes_on (is_blank x) x w (before_first is_blank (xs ++ ys)) (before_first is_blank xs) word (first-front xs ys word (omega arith))
    ∙ sym (ap (λ (line : List ℕ). bytes_eq line (w ∷ word)) (before-cons x xs))

-- the request of a line that is too long, by whether it is a `SEND`, a `TURNS`, a `PLACE`, a `MOUNT` or a `FAIL` line
abbrev asked_long : (send turns place mount fail : Bool) → Option Request
asked_long send turns place mount fail =
    if send then Some (Invalid TooLong) else if turns then Some (Turns None) else if place then Some (Place (Err place_error.TooLong))
    else if mount then Some (Device (Mount (Err NoName))) else if fail then Some (Device (Fail (Err UnknownFailure))) else None

-- the text after the first blank of a long line writes no number
no_number : (some few digits : Bool) (n : ℕ) → few ≡ false → (if some && few && digits then Some n else None) ≡ None
no_number true true digits n e = cc
no_number true false digits n e = refl
no_number false few digits n e = refl

seven_digits : (text : List ℕ) → 7 < length text → decimal_of text ≡ None
seven_digits text h = no_number (nat_le 1 (length text)) (nat_le (length text) 7) (list_all is_ascii_digit text) (digits_value 10 text) (lt-leb (length text) 7 h)

turns-too_long : (line : List ℕ) → 400 < length line → is_turns line ≡ true → turns_of (after_first is_blank line) ≡ None
turns-too_long line h is =
    let same : before_first is_blank line ≡ codes "TURNS" = (bytes_eq-Decides (before_first is_blank line) (codes "TURNS")).0 is in
    let size : length (before_first is_blank line) ≡ 5 = ap length same in
    let long : 7 < length (after_first is_blank line) =
    omega (arith, size, h, length-take (position_or_len is_blank line) line, length-drop (position_or_len is_blank line + 1) line) in
    ap in_range (seven_digits (after_first is_blank line) long)

-- a line that is longer than a word is not that word
longer : (line word : List ℕ) → length word < length line → bytes_eq line word ≡ false
longer line word h = elim (cases_Bool (bytes_eq line word)) [
  | inl is ↦ absurd (omega (arith, ap length ((bytes_eq-Decides line word).0 is), h))
  | inr is ↦ is
]

no_things : (line : List ℕ) → 400 < length line → things_of line ≡ None
no_things line h =
    let size : length (codes "TURNOUTS") ≡ 8 = refl in
    let five : length (codes "NODES") ≡ 5 = refl in
    let six : length (codes "TRAINS") ≡ 6 = refl in
    let three : length (codes "CVS") ≡ 3 = refl in
    ap (λ (is : Bool). if is then Some Nodes else if bytes_eq line (codes "TRAINS") then Some Trains else if bytes_eq line (codes "TURNOUTS") then Some Turnouts else if bytes_eq line (codes "CVS") then Some Variables else None)
    (longer line (codes "NODES") (omega (arith, five, h)))
    ∙ ap (λ (is : Bool). if is then Some Trains else if bytes_eq line (codes "TURNOUTS") then Some Turnouts else if bytes_eq line (codes "CVS") then Some Variables else None)
    (longer line (codes "TRAINS") (omega (arith, six, h)))
    ∙ ap (λ (is : Bool). if is then Some Turnouts else if bytes_eq line (codes "CVS") then Some Variables else None) (longer line (codes "TURNOUTS") (omega (arith, size, h)))
    ∙ ap (λ (is : Bool). if is then Some Variables else None) (longer line (codes "CVS") (omega (arith, three, h)))

-- the request of a line that is no `SEND` line, by whether it is too long
abbrev other_request : (line : List ℕ) → (long turns place mount fail : Bool) → Option Request
other_request line long turns place mount fail =
    if turns then Some (Turns (turns_of (after_first is_blank line)))
    else if place then Some (Place (if long then Err place_error.TooLong else parse_place (words_of (after_first is_blank line))))
    else if mount then Some (Device (Mount (parse_mount (if long then [] else words_of (after_first is_blank line)))))
    else if fail then Some (Device (Fail (parse_fail (if long then [] else words_of (after_first is_blank line)))))
    else ask_states (things_of line)

request-turns : (line : List ℕ) (turns place mount fail : Bool) → 400 < length line → is_turns line ≡ turns
    → other_request line true turns place mount fail ≡ asked_long false turns place mount fail
request-turns line true place mount fail h is = ap (λ (count : Option ℕ). Some (Turns count)) (turns-too_long line h is)
request-turns line false true mount fail h is = refl
request-turns line false false true fail h is = refl
request-turns line false false false true h is = refl
request-turns line false false false false h is = ap ask_states (no_things line h)

request-too_long : (line : List ℕ) → 400 < length line → request_of line ≡ asked_long (is_send line) (is_turns line) (is_place line) (is_mount line) (is_fail line)
request-too_long line h =
    ap (λ (long : Bool). if is_send line then Some (if long then Invalid TooLong else parse_send (bytes_of (words_of (after_first is_blank line)))) else other_request line long (is_turns line) (is_place line) (is_mount line) (is_fail line)) (lt-ltb 400 (length line) h)
    ∙ ap (λ (other : Option Request). if is_send line then Some (Invalid TooLong) else other) (request-turns line (is_turns line) (is_place line) (is_mount line) (is_fail line) h refl)

request-long : (xs ys : List ℕ) → length xs ≡ 401 → request_of (xs ++ ys) ≡ request_of xs
request-long xs ys h =
    let all : List ℕ = xs ++ ys in
    request-too_long all (omega (arith, length-append xs ys))
    ∙ ap₂ (λ (send turns : Bool). asked_long send turns (is_place all) (is_mount all) (is_fail all)) (first-front xs ys (codes "SEND") (omega arith)) (first-front xs ys (codes "TURNS") (omega arith))
    ∙ ap₂ (λ (place mount : Bool). asked_long (is_send xs) (is_turns xs) place mount (is_fail all)) (first-front xs ys (codes "PLACE") (omega arith)) (first-front xs ys (codes "MOUNT") (omega arith))
    ∙ ap (asked_long (is_send xs) (is_turns xs) (is_place xs) (is_mount xs)) (first-front xs ys (codes "FAIL") (omega arith))
    ∙ sym (request-too_long xs (omega arith))

-- The effect of each kind of byte.

further-end : (xs : List ℕ) (b : ℕ) (z : List ℕ) → is_open xs ≡ true → is_end b ≡ true → requests_of (xs ++ b ∷ z) ≡ option_to_list (request_of xs) ++ requests_of z
further-end xs b z h e =
    ap requests_in (lines-open xs (b ∷ z) h ∙ ap (all_onto xs) (lines-end b z e))
    ∙ ap (λ (line : List ℕ). option_to_list (request_of line) ++ requests_of z) (append-nil xs)

full-lines : (xs : List ℕ) (b : ℕ) (lines : List (List ℕ)) → length xs ≡ 401 → requests_in (all_onto xs (onto_line b lines)) ≡ requests_in (all_onto xs lines)
full-lines xs b [] h = refl
full-lines xs b (line ∷ lines) h =
    ap (λ (request : Option Request). option_to_list request ++ requests_in lines) (request-long xs (b ∷ line) h ∙ sym (request-long xs line h))

further-full : (xs : List ℕ) (b : ℕ) (z : List ℕ) → is_open xs ≡ true → is_end b ≡ false → length xs ≡ 401 → requests_of (xs ++ b ∷ z) ≡ requests_of (xs ++ z)
further-full xs b z h e full =
    ap requests_in (lines-open xs (b ∷ z) h ∙ ap (all_onto xs) (lines-in b z e))
    ∙ full-lines xs b (lines_of z) full
    ∙ ap requests_in (sym (lines-open xs z h))

kept-end : (kept : List ℕ) (b : ℕ) → is_end b ≡ true → kept_after kept b ≡ []
kept-end kept b e = rw e refl

kept-more : (kept : List ℕ) (b : ℕ) → is_end b ≡ false → length kept < 401 → kept_after kept b ≡ kept ++ b ∷ []
kept-more kept b e h = rw (e, lt-ltb (length kept) 401 h) refl

kept-full : (kept : List ℕ) (b : ℕ) → is_end b ≡ false → 401 ≤ length kept → kept_after kept b ≡ kept
kept-full kept b e h = rw (e, le-ltb (length kept) 401 h) refl

request-end : (kept : List ℕ) (b : ℕ) → is_end b ≡ true → request_of_byte kept b ≡ request_of kept
request-end kept b e = rw e refl

request-in : (kept : List ℕ) (b : ℕ) → is_end b ≡ false → request_of_byte kept b ≡ None
request-in kept b e = rw e refl

-- both sides of the law, from the request made and the bytes kept
joined : (kept : List ℕ) (b : ℕ) (z : List ℕ) (request : Option Request) (left : List ℕ) → request_of_byte kept b ≡ request → kept_after kept b ≡ left
    → requests_of (kept ++ b ∷ z) ≡ option_to_list request ++ requests_of (left ++ z)
    → requests_of (kept ++ b ∷ z) ≡ option_to_list (request_of_byte kept b) ++ requests_of (kept_after kept b ++ z)
joined kept b z request left given keeps e =
    e ∙ ap₂ (λ (o : Option Request) (w : List ℕ). option_to_list o ++ requests_of (w ++ z)) (sym given) (sym keeps)

pub further : (kept : List ℕ) (b : ℕ) (z : List ℕ) → is_open kept ≡ true → length kept ≤ 401 → requests_of (kept ++ b ∷ z) ≡ option_to_list (request_of_byte kept b) ++ requests_of (kept_after kept b ++ z)
further kept b z h l = elim (cases_Bool (is_end b)) [
  | inl e ↦ joined kept b z (request_of kept) [] (request-end kept b e) (kept-end kept b e) (further-end kept b z h e)
  | inr e ↦ elim (cases_lt (length kept) 401) [
    | inl less ↦ joined kept b z None (kept ++ b ∷ []) (request-in kept b e) (kept-more kept b e less) (ap requests_of (sym (append_assoc kept (b ∷ []) z)))
    | inr full ↦ joined kept b z None kept (request-in kept b e) (kept-full kept b e full) (further-full kept b z h e (omega arith))
  ]
]

-- the bytes kept of an unfinished line make no request yet
pub requests-open : (kept : List ℕ) → is_open kept ≡ true → requests_of kept ≡ []
requests-open kept h = ap requests_of (sym (append-nil kept)) ∙ ap requests_in (lines-open kept [] h)

-- the kept line stays unfinished and within its limit

open-more : (xs : List ℕ) (b : ℕ) → is_open xs ≡ true → is_end b ≡ false → is_open (xs ++ b ∷ []) ≡ true
open-more [] b h e = rw e refl
open-more (x ∷ xs) b h e =
    let p = and_parts (not (is_end x)) (is_open xs) h in
    rw (p.0) (open-more xs b p.1 e)

pub open-after : (kept : List ℕ) (b : ℕ) → is_open kept ≡ true → is_open (kept_after kept b) ≡ true
open-after kept b h = elim (cases_Bool (is_end b)) [
  | inl e ↦ ap is_open (kept-end kept b e)
  | inr e ↦ elim (cases_lt (length kept) 401) [
    | inl less ↦ ap is_open (kept-more kept b e less) ∙ open-more kept b h e
    | inr full ↦ ap is_open (kept-full kept b e full) ∙ h
  ]
]

pub length-after : (kept : List ℕ) (b : ℕ) → length kept ≤ 401 → length (kept_after kept b) ≤ 401
length-after kept b h = elim (cases_Bool (is_end b)) [
  | inl e ↦ omega (arith, ap length (kept-end kept b e))
  | inr e ↦ elim (cases_lt (length kept) 401) [
    | inl less ↦ omega (arith, ap length (kept-more kept b e less), length-append kept (b ∷ []))
    | inr full ↦ omega (arith, ap length (kept-full kept b e full))
  ]
]

-- one byte after another
pub along : (text kept : List ℕ) → is_open kept ≡ true → length kept ≤ 401 → requests_along kept text ≡ requests_of (kept ++ text)
along [] kept h l = sym (ap requests_of (append-nil kept) ∙ requests-open kept h)
along (b ∷ text) kept h l =
    ap (λ (requests : List Request). option_to_list (request_of_byte kept b) ++ requests) (along text (kept_after kept b) (open-after kept b h) (length-after kept b l))
    ∙ sym (further kept b text h l)
