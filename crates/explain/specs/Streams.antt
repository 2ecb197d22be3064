-- The effect of a run on its streams.
use Rattle.std.specs.Prelude.{ℕ, Bool, ◌≡◌, ◌⊎◌, List, ◌++◌, Option}
use Rattle.std.specs.Io.KnownBytes.{Appends, Consumes, IsAtEnd}
use Rattle.filter.specs.declared.fault.FilterFault.{FilterFault}
use Rattle.filter.specs.declared.fault.FilterFault.TheVariants.{NoMemory, Output, Unreadable}
use Rattle.explain.specs.declared.explainer.Explainer.{Explainer}
use Rattle.explain.specs.Explained.{explained}
use Rattle.explain.specs.Unfinished.{to_write}

-- Some text was read, and the explained text was written.
abbrev pub Explains : (old_input new_input old_output new_output : Option (List ℕ)) → Type 0
Explains old_input new_input old_output new_output =
    (text : List ℕ) × Consumes old_input new_input text × Appends old_output new_output (explained text)

-- The whole input was read, and the explained text was written.
abbrev pub ExplainsWhole : (old_input new_input old_output new_output : Option (List ℕ)) → Type 0
ExplainsWhole old_input new_input old_output new_output = Explains old_input new_input old_output new_output × IsAtEnd new_input

-- Some text was read, and a prefix of the explained text was written.
abbrev pub ExplainsFront : (old_input new_input old_output new_output : Option (List ℕ)) → Type 0
ExplainsFront old_input new_input old_output new_output =
    (text : List ℕ) × (written : List ℕ) × (left : List ℕ) × Consumes old_input new_input text × Appends old_output new_output written
    × (explained text ≡ written ++ left)

-- It failed: a prefix of the explained text was written, and all of it if a read failed. It was no line, and not the length.
abbrev pub FailsToExplain : FilterFault → (old_input new_input old_output new_output : Option (List ℕ)) → Type 0
FailsToExplain fault old_input new_input old_output new_output =
    ExplainsFront old_input new_input old_output new_output × (fault ≡ Unreadable → Explains old_input new_input old_output new_output)
    × ((fault ≡ Unreadable) ⊎ (fault ≡ Output) ⊎ (fault ≡ NoMemory))

-- After the bytes held some text was read, and the output that it completes was written: whatever
-- text follows, no output is lost and none is invented.
abbrev pub Follows : (old_input new_input old_output new_output : Option (List ℕ)) → (was_long : Bool) → (was_held : List ℕ) → (is_long : Bool) → (held : List ℕ) → Type 0
Follows old_input new_input old_output new_output was_long was_held is_long held =
    (text : List ℕ) × (written : List ℕ) × Consumes old_input new_input text × Appends old_output new_output written
    × ((more : List ℕ) → to_write was_long was_held (text ++ more) ≡ written ++ to_write is_long held more)

-- the same from one state of an explainer to a later one
abbrev pub Continues : (old_input new_input old_output new_output : Option (List ℕ)) → (was is : Explainer) → Type 0
Continues old_input new_input old_output new_output was is =
    Follows old_input new_input old_output new_output was.is_long was.line.items is.is_long is.line.items

-- After the bytes held some text was read, and a prefix of the output for it was written.
abbrev pub Begins : (old_input new_input old_output new_output : Option (List ℕ)) → (is_long : Bool) → (held : List ℕ) → Type 0
Begins old_input new_input old_output new_output is_long held =
    (text : List ℕ) × (written : List ℕ) × (left : List ℕ) × Consumes old_input new_input text × Appends old_output new_output written
    × (to_write is_long held text ≡ written ++ left)

-- a prefix of a text was written
abbrev pub AppendsFront : (old new : Option (List ℕ)) → List ℕ → Type 0
AppendsFront old new text = (written : List ℕ) × (left : List ℕ) × Appends old new written × (text ≡ written ++ left)
