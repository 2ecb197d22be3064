-- The parts of captured bytes, one after another.
use Rattle.std.proofs.Common.{◌≡◌, ℕ, suc, ◌+◌, ◌<◌, ◌≤◌, ◌==◌, inl, inr, Bool, true, false, List, [], ◌∷◌, ◌++◌, length, take, drop, Some, None, position, not, refl, ap, sym, ◌∙◌, append_assoc, arith}
use Rattle.std.proofs.lemmas.Bool.{cases_Bool}
use Rattle.std.proofs.lemmas.Bool.Decides.{nat_tests}
use Rattle.std.proofs.lemmas.List.{append-nil, take_all}
use Rattle.std.proofs.Common.{drop_of_length-le}
use Rattle.std.specs.List.{list_any, position_or_len}
use Rattle.explain.specs.Parts.{back_of, begins_whole, front_len, front_of, is_opcode, onto_part, part_note, parts_note, parts_of}
use Rattle.explain.proofs.Closing.{first_place, no_place}

-- data goes on in the same part, and an opcode begins another

cut_data : (b c : ℕ) (cs : List ℕ) → is_opcode c ≡ false
    → parts_of (c ∷ cs) ≡ (c ∷ take (position_or_len is_opcode cs) cs) ∷ parts_of (drop (position_or_len is_opcode cs) cs)
    → parts_of (b ∷ c ∷ cs) ≡ (b ∷ take (position_or_len is_opcode (c ∷ cs)) (c ∷ cs)) ∷ parts_of (drop (position_or_len is_opcode (c ∷ cs)) (c ∷ cs))
unfolding parts_of
cut_data b c cs goes_on rest =
    let at : position_or_len is_opcode (c ∷ cs) ≡ suc (position_or_len is_opcode cs) = rw goes_on (omega arith) in
    ap (λ (ends : Bool). onto_part (not ends) b (parts_of (c ∷ cs))) goes_on
    ∙ ap (onto_part true b) rest
    ∙ ap (λ (n : ℕ). (b ∷ take n (c ∷ cs)) ∷ parts_of (drop n (c ∷ cs))) (sym at)

cut_opcode : (b c : ℕ) (cs : List ℕ) → is_opcode c ≡ true
    → parts_of (b ∷ c ∷ cs) ≡ (b ∷ take (position_or_len is_opcode (c ∷ cs)) (c ∷ cs)) ∷ parts_of (drop (position_or_len is_opcode (c ∷ cs)) (c ∷ cs))
unfolding parts_of
cut_opcode b c cs other =
    let at : position_or_len is_opcode (c ∷ cs) ≡ 0 = rw other refl in
    ap (λ (ends : Bool). onto_part (not ends) b (parts_of (c ∷ cs))) other
    ∙ ap (λ (n : ℕ). (b ∷ take n (c ∷ cs)) ∷ parts_of (drop n (c ∷ cs))) (sym at)

cut : (b : ℕ) (bytes : List ℕ) → parts_of (b ∷ bytes) ≡ (b ∷ take (position_or_len is_opcode bytes) bytes) ∷ parts_of (drop (position_or_len is_opcode bytes) bytes)
unfolding parts_of
cut b [] = refl
cut b (c ∷ cs) = elim (cases_Bool (is_opcode c)) [
  | inl other ↦ cut_opcode b c cs other
  | inr goes_on ↦ cut_data b c cs goes_on (cut c cs)
]

pub part_cut : (bytes : List ℕ) (len : ℕ) → 0 < length bytes → len ≡ position_or_len is_opcode (drop 1 bytes) → parts_of bytes ≡ take (1 + len) bytes ∷ parts_of (drop (1 + len) bytes)
part_cut [] len some is = absurd (omega (arith, some))
part_cut (b ∷ bytes) len some is =
    let next : 1 + len ≡ suc (position_or_len is_opcode bytes) = omega (arith, is) in
    cut b bytes ∙ ap (λ (n : ℕ). take n (b ∷ bytes) ∷ parts_of (drop n (b ∷ bytes))) (sym next)

most : (bytes : List ℕ) → position_or_len is_opcode bytes ≤ length bytes
most [] = omega arith
most (b ∷ bytes) = elim (cases_Bool (is_opcode b)) [
  | inl opcode ↦ rw opcode (omega arith)
  | inr other ↦ rw other (omega (arith, most bytes))
]

pub no_opcode : (bytes : List ℕ) → position is_opcode bytes ≡ None → length bytes ≡ position_or_len is_opcode bytes
no_opcode bytes none = omega (arith, no_place is_opcode bytes none, most bytes)

pub some_opcode : (bytes : List ℕ) (at : ℕ) → position is_opcode bytes ≡ Some at → at ≡ position_or_len is_opcode bytes
some_opcode bytes at is = sym (first_place is_opcode bytes at is)

pub ruleset data_bytes = (no_opcode, some_opcode)

pub front_whole : (part : List ℕ) → length part ≤ front_len part → part ≡ front_of part
front_whole part h = sym (take_all (front_len part) part h)

pub back_none : (part : List ℕ) → length part ≤ front_len part → [] ≡ back_of part
back_none part h = sym (drop_of_length-le part h)

pub ruleset whole_part = (front_whole, back_none)

-- The note of the parts that are left.

pub notes_more : (before now : List ℕ) (left : List (List ℕ)) (part : List ℕ) (rest : List (List ℕ)) (all : List ℕ) → left ≡ part ∷ rest → before ++ parts_note left ≡ all → now ≡ before ++ part_note part → now ++ parts_note rest ≡ all
unfolding parts_note
notes_more before now left part rest all is has pushed =
    ap (λ (text : List ℕ). text ++ parts_note rest) pushed
    ∙ append_assoc before (part_note part) (parts_note rest)
    ∙ ap (λ (parts : List (List ℕ)). before ++ parts_note parts) (sym is)
    ∙ has

pub notes_end : (before : List ℕ) (bytes : List ℕ) (all : List ℕ) → length bytes ≡ 0 → before ++ parts_note (parts_of bytes) ≡ all → before ≡ all
unfolding parts_note parts_of
notes_end before [] all none has = sym (append-nil before) ∙ has
notes_end before (b ∷ bytes) all none has = absurd (omega (arith, none))

pub empty : (bytes : List ℕ) (is : Bool) → is ≡ (length bytes == 0) → is ≡ true → length bytes ≡ 0
empty bytes is same none = grind (arith, nat_tests)

pub none_whole : (bytes : List ℕ) → length bytes ≡ 0 → false ≡ list_any begins_whole (parts_of bytes)
unfolding parts_of
none_whole [] none = refl
none_whole (b ∷ bytes) none = absurd (omega (arith, none))
