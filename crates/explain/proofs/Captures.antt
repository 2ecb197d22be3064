-- Captured bytes as a text, part by part.
use Rattle.std.proofs.Common.{◌≡◌, ℕ, List, [], ◌∷◌, ◌++◌, length, ap, sym, ◌∙◌, append-nil, append_assoc, arith}
use Rattle.explain.specs.Captures.{capture_text, part_lines}
use Rattle.explain.specs.Explained.{explained}
use Rattle.explain.specs.Parts.{parts_of}
use Rattle.explain.specs.Unfinished.{to_write}
use Rattle.std.proofs.Common.{flat_map, false, Bool}

pub next : (before now bytes part rest : List ℕ) (all : List ℕ) → parts_of bytes ≡ part ∷ parts_of rest → before ++ capture_text bytes ≡ all → now ≡ before ++ part_lines part
    → now ++ capture_text rest ≡ all
unfolding capture_text
next before now bytes part rest all is has pushed =
    ap (λ (text : List ℕ). text ++ capture_text rest) pushed
    ∙ append_assoc before (part_lines part) (capture_text rest)
    ∙ ap (λ (parts : List (List ℕ)). before ++ flat_map part_lines parts) (sym is)
    ∙ has

pub end : (before bytes all : List ℕ) → length bytes ≡ 0 → before ++ capture_text bytes ≡ all → before ≡ all
unfolding capture_text parts_of
end before [] all none has = sym (append-nil before) ∙ has
end before (b ∷ bytes) all none has = absurd (omega (arith, none))

-- A whole text, explained at once.
pub explained_at_once : (text pushed output held : List ℕ) (was_long is_long : Bool) (was_held empty : List ℕ) → was_long ≡ false → was_held ≡ [] → empty ≡ []
    → ((more : List ℕ) → empty ++ to_write was_long was_held (text ++ more) ≡ pushed ++ to_write is_long held more)
    → output ≡ pushed ++ to_write is_long held [] → output ≡ explained text
unfolding to_write
explained_at_once text pushed output held was_long is_long was_held empty not_long none nothing further finished =
    finished ∙ sym (further []) ∙ rw (not_long, none, nothing) (ap explained (append-nil text))
