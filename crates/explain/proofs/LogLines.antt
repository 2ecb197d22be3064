-- The hex text of a log, line by line.
use Rattle.std.proofs.Common.{◌≡◌, ℕ, true, List, [], ◌∷◌, ◌++◌, append-nil, append_assoc, refl, ap, sym, ◌∙◌}
use Rattle.text.specs.Words.{words_of}
use Rattle.loconet_tcp.specs.Requests.{are_pairs, bytes_of, leading_bytes}
use Rattle.explain.specs.Brackets.{without_brackets}
use Rattle.explain.specs.HexText.{hex_line_of, hex_text}
use Rattle.explain.specs.Lines.{body_of}
use Rattle.text.specs.Lines.{is_open}
use Rattle.explain.proofs.Ends.{body-open}
use Rattle.explain.proofs.Held.{lines-ended, lines-last}

-- a line, and the others
line_first : (line rest : List ℕ) → is_open line ≡ true → hex_text (line ++ 10 ∷ rest) ≡ hex_line_of (body_of (line ++ 10 ∷ [])) ++ hex_text rest
unfolding hex_text
line_first line rest h = rw (lines-ended line rest h) refl

hex_none : hex_line_of [] ≡ []
unfolding hex_line_of without_brackets bytes_of are_pairs words_of leading_bytes
hex_none = refl

-- the last line, if it has no end
line_last : (line : List ℕ) → is_open line ≡ true → hex_text line ≡ hex_line_of line
unfolding hex_text
line_last [] h = sym hex_none
line_last (b ∷ line) h = rw (lines-last b line h, body-open (b ∷ line) h) (append-nil (hex_line_of (b ∷ line)))

pub next : (before after line behind rest log : List ℕ) → is_open line ≡ true → rest ≡ line ++ 10 ∷ behind → before ++ hex_text rest ≡ hex_text log
    → after ≡ before ++ hex_line_of (body_of (line ++ 10 ∷ [])) → after ++ hex_text behind ≡ hex_text log
next before after line behind rest log no_end parts so_far pushed =
    ap (λ (text : List ℕ). text ++ hex_text behind) pushed ∙ append_assoc before (hex_line_of (body_of (line ++ 10 ∷ []))) (hex_text behind)
    ∙ ap (λ (text : List ℕ). before ++ text) (sym (line_first line behind no_end)) ∙ ap (λ (text : List ℕ). before ++ hex_text text) (sym parts) ∙ so_far

pub last : (before after rest log : List ℕ) → is_open rest ≡ true → before ++ hex_text rest ≡ hex_text log → after ≡ before ++ hex_line_of rest → after ≡ hex_text log
last before after rest log no_end so_far pushed = pushed ∙ ap (λ (text : List ℕ). before ++ text) (sym (line_last rest no_end)) ∙ so_far

pub ruleset log_lines = (next, last)
