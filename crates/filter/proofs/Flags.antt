-- Whether a flag is set, by the result of its getter.
use Rattle.std.proofs.Common.{◌≡◌, ◌↔◌, Bool, true, false, List, Option, Some, None, codes, refl, sym, ◌∙◌, subst}
use Rattle.std.specs.Prelude.{MatchOption, unwrap_or}
use Rattle.clap.specs.Words.{Row, Text, one_of}
use Rattle.filter.specs.declared.text.FilterFlag.{FilterFlag}
use Rattle.filter.specs.FilterLine.{IsFlagIn, flag_of}
use Rattle.command_line.specs.Values.{HasNone, IsFlag}

by_value : (value : Option Text) (read : Option Bool) → MatchOption read (HasNone (IsFlag value)) (IsFlag value) → (unwrap_or read false ≡ true) ↔ (value ≡ Some (codes "true"))
by_value value (Some true) is = ((λ set. is), (λ e. refl))
by_value value (Some false) is = ((λ set. cc), (λ e. let bad : Some (codes "false") ≡ Some (codes "true") = sym is ∙ e in cc))
by_value value None none = ((λ set. cc), (λ e. absurd (none true e)))

pub of_flag : (option : Option FilterFlag) (text : FilterFlag) (rows : List Row) (read : Option Bool) → option ≡ Some text
    → MatchOption read (HasNone (IsFlag (one_of text.name.now rows))) (IsFlag (one_of text.name.now rows)) → IsFlagIn (flag_of option) rows (unwrap_or read false)
of_flag None text rows read same is = cc
of_flag (Some option) text rows read same is =
    let texts : option ≡ text = cc in
    by_value (one_of option.name.now rows) read (subst (λ (flag : FilterFlag). MatchOption read (HasNone (IsFlag (one_of flag.name.now rows))) (IsFlag (one_of flag.name.now rows))) (sym texts) is)
