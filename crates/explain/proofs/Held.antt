-- The effect of a piece of a text on the output still to be written.
use Rattle.std.proofs.Common.{◌≡◌, ℕ, ◌+◌, ◌<◌, Bool, true, false, List, [], ◌∷◌, ◌++◌, length, length-append, append_assoc, append-nil, refl, ap, sym, ◌∙◌, arith}
use Rattle.std.specs.Prelude.{flat_map}
use Rattle.std.proofs.lemmas.Bool.{lt-ltb}
use Rattle.text.specs.Words.{words_of}
use Rattle.loconet_tcp.specs.Requests.{are_pairs, bytes_of, leading_bytes}
use Rattle.explain.specs.Explained.{explained, shown}
use Rattle.explain.specs.Lines.{body_of, end_of, lines_of, onto_line}
use Rattle.text.specs.Lines.{is_open}
use Rattle.explain.specs.Brackets.{without_brackets}
use Rattle.explain.specs.LineKinds.{message_in}
use Rattle.explain.specs.Notes.{note_of}
use Rattle.explain.specs.Parts.{parts_of}
use Rattle.explain.specs.Unfinished.{copied, to_write}
use Rattle.explain.proofs.Ends.{body-front, first-open, open-both, rest-open, shown-last, whole}

-- bytes before the first line
abbrev all_onto : List ℕ → List (List ℕ) → List (List ℕ)
all_onto [] lines = lines
all_onto (x ∷ xs) lines = onto_line x (all_onto xs lines)

onto-some : (x : ℕ) (xs line : List ℕ) (lines : List (List ℕ)) → all_onto (x ∷ xs) (line ∷ lines) ≡ (x ∷ (xs ++ line)) ∷ lines
onto-some x [] line lines = refl
onto-some x (y ∷ xs) line lines = ap (onto_line x) (onto-some y xs line lines)

onto-none : (x : ℕ) (xs : List ℕ) → all_onto (x ∷ xs) [] ≡ (x ∷ xs) ∷ []
onto-none x [] = refl
onto-none x (y ∷ xs) = ap (onto_line x) (onto-none y xs)

lines-in : (x : ℕ) (xs : List ℕ) → (is_open (x ∷ xs)) ≡ true → (ys : List ℕ) → lines_of (x ∷ ys) ≡ onto_line x (lines_of ys)
lines-in x xs h ys = rw (first-open x xs h) refl

lines-open : (xs ys : List ℕ) → is_open xs ≡ true → lines_of (xs ++ ys) ≡ all_onto xs (lines_of ys)
lines-open [] ys h = refl
lines-open (x ∷ xs) ys h = lines-in x xs h (xs ++ ys) ∙ ap (onto_line x) (lines-open xs ys (rest-open x xs h))

-- the line that a line feed ends, and the others
pub lines-ended : (xs more : List ℕ) → is_open xs ≡ true → lines_of (xs ++ 10 ∷ more) ≡ (xs ++ 10 ∷ []) ∷ lines_of more
lines-ended [] more h = refl
lines-ended (x ∷ xs) more h = lines-open (x ∷ xs) (10 ∷ more) h ∙ onto-some x xs (10 ∷ []) (lines_of more)

-- the last line of a text, if it has no end
pub lines-last : (x : ℕ) (xs : List ℕ) → is_open (x ∷ xs) ≡ true → lines_of (x ∷ xs) ≡ (x ∷ xs) ∷ []
lines-last x xs h = ap lines_of (sym (append-nil (x ∷ xs))) ∙ lines-open (x ∷ xs) [] h ∙ onto-none x xs

-- Within a line that is too long, its bytes are written.

copied-one : (x : ℕ) (lines : List (List ℕ)) → copied (onto_line x lines) ≡ x ∷ copied lines
copied-one x [] = refl
copied-one x (line ∷ lines) = refl

copied-onto : (xs : List ℕ) (lines : List (List ℕ)) → copied (all_onto xs lines) ≡ xs ++ copied lines
copied-onto [] lines = refl
copied-onto (x ∷ xs) lines = copied-one x (all_onto xs lines) ∙ ap (λ (bs : List ℕ). x ∷ bs) (copied-onto xs lines)

copied-piece : (piece more : List ℕ) → is_open piece ≡ true → copied (lines_of (piece ++ more)) ≡ piece ++ copied (lines_of more)
copied-piece piece more h = ap copied (lines-open piece more h) ∙ copied-onto piece (lines_of more)

-- A line that begins with more than 401 bytes is too long, and is shown as it is.

no_note : (line : List ℕ) → 400 < length line → note_of line ≡ []
no_note line h = rw (lt-ltb 400 (length line) h) refl

shown-long : (xs ys : List ℕ) → is_open xs ≡ true → 401 < length xs → shown (xs ++ ys) ≡ xs ++ ys
shown-long xs ys h l =
    let long : 400 < length (body_of (xs ++ ys)) = omega (arith, l, body-front xs ys h) in
    ap (λ (comment : List ℕ). body_of (xs ++ ys) ++ comment ++ end_of (xs ++ ys)) (no_note (body_of (xs ++ ys)) long)
    ∙ ap (λ (bs : List ℕ). bs ++ end_of (xs ++ ys)) (append-nil (body_of (xs ++ ys)))
    ∙ whole (xs ++ ys)

shown-all : (xs : List ℕ) (lines : List (List ℕ)) → is_open xs ≡ true → 401 < length xs → flat_map shown (all_onto xs lines) ≡ xs ++ copied lines
shown-all [] lines h l = absurd (omega arith)
shown-all (x ∷ xs) [] h l =
    ap (flat_map shown) (onto-none x xs)
    ∙ ap (λ (bs : List ℕ). bs ++ []) (sym (ap shown (append-nil (x ∷ xs))) ∙ shown-long (x ∷ xs) [] h l ∙ append-nil (x ∷ xs))
shown-all (x ∷ xs) (line ∷ lines) h l =
    ap (flat_map shown) (onto-some x xs line lines)
    ∙ ap (λ (bs : List ℕ). bs ++ flat_map shown lines) (shown-long (x ∷ xs) line h l)
    ∙ append_assoc (x ∷ xs) line (flat_map shown lines)

explained-long : (xs more : List ℕ) → is_open xs ≡ true → 401 < length xs → explained (xs ++ more) ≡ xs ++ copied (lines_of more)
unfolding explained
explained-long xs more h l = ap (flat_map shown) (lines-open xs more h) ∙ shown-all xs (lines_of more) h l

explained-ended : (xs more : List ℕ) → is_open xs ≡ true → explained (xs ++ 10 ∷ more) ≡ shown (xs ++ 10 ∷ []) ++ explained more
unfolding explained
explained-ended xs more h = ap (flat_map shown) (lines-ended xs more h)

explained-none : explained [] ≡ shown []
unfolding explained message_in without_brackets words_of bytes_of are_pairs leading_bytes parts_of
explained-none = refl

explained-last : (xs : List ℕ) → is_open xs ≡ true → explained (xs ++ []) ≡ shown xs
unfolding explained
explained-last [] h = explained-none
explained-last (x ∷ xs) h =
    ap (flat_map shown) (lines-open (x ∷ xs) [] h ∙ onto-none x xs) ∙ append-nil (shown (x ∷ xs))

-- The output still to be written, by whether the line is too long.

write-long : (is_long : Bool) (held text : List ℕ) → is_long ≡ true → to_write is_long held text ≡ copied (lines_of text)
unfolding to_write
write-long is_long held text e = rw e refl

write-short : (is_long : Bool) (held text : List ℕ) → is_long ≡ false → to_write is_long held text ≡ explained (held ++ text)
unfolding to_write
write-short is_long held text e = rw e refl

-- The last part of the output still to be written is written.
moved : (before after part left right : List ℕ) → left ≡ part ++ right → after ≡ before ++ part → before ++ left ≡ after ++ right
moved before after part left right e a =
    ap (λ (bs : List ℕ). before ++ bs) e ∙ sym (append_assoc before part right) ∙ ap (λ (bs : List ℕ). bs ++ right) (sym a)

pub keep-long : (is_long : Bool) (held piece more before after : List ℕ) → is_long ≡ true → is_open piece ≡ true → after ≡ before ++ piece
    → before ++ to_write is_long held (piece ++ more) ≡ after ++ to_write is_long held more
keep-long is_long held piece more before after e h a =
    moved before after piece (to_write is_long held (piece ++ more)) (to_write is_long held more)
    (write-long is_long held (piece ++ more) e ∙ copied-piece piece more h ∙ ap (λ (bs : List ℕ). piece ++ bs) (sym (write-long is_long held more e))) a

pub keep-short : (is_long : Bool) (held piece more before left : List ℕ) → is_long ≡ false → left ≡ held ++ piece
    → before ++ to_write is_long held (piece ++ more) ≡ before ++ to_write is_long left more
keep-short is_long held piece more before left e h =
    ap (λ (bs : List ℕ). before ++ bs)
    (write-short is_long held (piece ++ more) e ∙ ap explained (sym (append_assoc held piece more) ∙ ap (λ (bs : List ℕ). bs ++ more) (sym h)) ∙ sym (write-short is_long left more e))

pub keep-over : (is_long : Bool) (held piece more before middle after left : List ℕ) → is_long ≡ false → is_open held ≡ true → is_open piece ≡ true → 401 < length held + length piece
    → middle ≡ before ++ held → after ≡ middle ++ piece → before ++ to_write is_long held (piece ++ more) ≡ after ++ to_write true left more
keep-over is_long held piece more before middle after left e h p l m a =
    let long : 401 < length (held ++ piece) = omega (arith, l, length-append held piece) in
    moved before after (held ++ piece) (to_write is_long held (piece ++ more)) (to_write true left more)
    (write-short is_long held (piece ++ more) e ∙ ap explained (sym (append_assoc held piece more)) ∙ explained-long (held ++ piece) more (open-both held piece h p) long
    ∙ ap (λ (bs : List ℕ). (held ++ piece) ++ bs) (sym (write-long true left more refl)))
    (a ∙ ap (λ (bs : List ℕ). bs ++ piece) m ∙ append_assoc before held piece)

pub end-long : (is_long : Bool) (held more before after left : List ℕ) → is_long ≡ true → after ≡ before ++ 10 ∷ [] → left ≡ []
    → before ++ to_write is_long held (10 ∷ more) ≡ after ++ to_write false left more
unfolding explained
end-long is_long held more before after left e a n =
    moved before after (10 ∷ []) (to_write is_long held (10 ∷ more)) (to_write false left more)
    (write-long is_long held (10 ∷ more) e ∙ ap (λ (bs : List ℕ). 10 ∷ bs) (sym (write-short false left more refl ∙ ap (λ (bs : List ℕ). explained (bs ++ more)) n))) a

pub end-short : (is_long : Bool) (held more before after left : List ℕ) → is_long ≡ false → is_open held ≡ true → after ≡ before ++ shown (held ++ 10 ∷ []) → left ≡ []
    → before ++ to_write is_long held (10 ∷ more) ≡ after ++ to_write false left more
end-short is_long held more before after left e h a n =
    moved before after (shown (held ++ 10 ∷ [])) (to_write is_long held (10 ∷ more)) (to_write false left more)
    (write-short is_long held (10 ∷ more) e ∙ explained-ended held more h
    ∙ ap (λ (bs : List ℕ). shown (held ++ 10 ∷ []) ++ bs) (sym (write-short false left more refl ∙ ap (λ (bs : List ℕ). explained (bs ++ more)) n))) a

pub finish-long : (is_long : Bool) (held before : List ℕ) → is_long ≡ true → before ≡ before ++ to_write is_long held []
finish-long is_long held before e = sym (ap (λ (bs : List ℕ). before ++ bs) (write-long is_long held [] e) ∙ append-nil before)

pub finish-short : (is_long : Bool) (held before after : List ℕ) → is_long ≡ false → is_open held ≡ true → after ≡ before ++ (held ++ note_of held ++ []) → after ≡ before ++ to_write is_long held []
finish-short is_long held before after e h a =
    let is : shown held ≡ held ++ note_of held ++ [] = shown-last held h ∙ sym (append-nil (held ++ note_of held)) in
    a ∙ ap (λ (bs : List ℕ). before ++ bs) (sym (write-short is_long held [] e ∙ explained-last held h ∙ is))

-- a piece, the line feed after it, and the rest
pub one_line : (rest piece rest_after more : List ℕ) → rest ≡ piece ++ 10 ∷ rest_after → rest ++ more ≡ piece ++ 10 ∷ (rest_after ++ more)
one_line rest piece rest_after more e = ap (λ (bs : List ℕ). bs ++ more) e ∙ append_assoc piece (10 ∷ rest_after) more

-- a line of which nothing is held
pub line-whole : (is_long : Bool) (held piece more before after : List ℕ) → is_long ≡ false → length held ≡ 0 → is_open piece ≡ true → after ≡ before ++ shown (piece ++ 10 ∷ [])
    → before ++ to_write is_long held (piece ++ 10 ∷ more) ≡ after ++ to_write is_long held more
line-whole is_long [] piece more before after e none h a =
    moved before after (shown (piece ++ 10 ∷ [])) (to_write is_long [] (piece ++ 10 ∷ more)) (to_write is_long [] more)
    (write-short is_long [] (piece ++ 10 ∷ more) e ∙ explained-ended piece more h ∙ ap (λ (bs : List ℕ). shown (piece ++ 10 ∷ []) ++ bs) (sym (write-short is_long [] more e))) a
line-whole is_long (x ∷ xs) piece more before after e none h a = absurd (omega (arith, none))

pub ruleset pushes_line = (line-whole)

pub ruleset holds = (keep-long, keep-short, keep-over)

pub ruleset ends_line = (end-long, end-short)

pub ruleset finishes = (finish-long, finish-short)
