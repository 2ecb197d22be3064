-- What some texts say.
use Rattle.std.proofs.Common.{◌≡◌, [], ◌∷◌, Ok, Err, codes, refl}
use Rattle.std.specs.Str.{chars, is_utf8}
use Rattle.std.specs.Char.{encode_utf8}
use Rattle.toml.proofs.OnLiterals.{toml_on_literals}
use Rattle.decoder_cv.specs.Settings.{settings}
use Rattle.decoder_node.specs.declared.node.NodeSpec.TheVariants as node
use Rattle.roster.specs.declared.fault.RosterFaultKind.TheVariants.{BadCv, BadCvList, Empty}
use Rattle.roster.specs.Format.{roster_in}

no_node : roster_in (codes "version = 1") ≡ Err (record { why = Empty; node = 0 })
unfolding roster_in toml_on_literals is_utf8 chars encode_utf8
no_node = refl

two_nodes : roster_in (codes "version = 1\n\n[[node]]\nname = \"shunter\"\nkind = \"loco\"\ncv1 = 3\ncv29 = 2\n\n[[node]]\nname = \"yard\"\nkind = \"accessory\"\nmodule = 1\n")
    ≡ Ok (record { name = codes "shunter"; spec = node.Loco (settings 3 192 0 2) } ∷ record { name = codes "yard"; spec = node.Accessory 1 } ∷ [])
unfolding roster_in toml_on_literals is_utf8 chars encode_utf8
two_nodes = refl

bad_address : roster_in (codes "version = 1\n\n[[node]]\nname = \"shunter\"\nkind = \"loco\"\ncv1 = 0\ncv29 = 2\n\n[[node]]\nname = \"yard\"\nkind = \"accessory\"\nmodule = 1\n")
    ≡ Err (record { why = BadCv; node = 1 })
unfolding roster_in toml_on_literals is_utf8 chars encode_utf8
bad_address = refl

two_listed : roster_in (codes "version = 2\n\n[[node]]\nname = \"shunter\"\nkind = \"loco\"\ncvs = [[1, 3], [29, 2], [1024, 255]]\n\n[[node]]\nname = \"yard\"\nkind = \"accessory\"\nmodule = 1\n")
    ≡ Ok (record { name = codes "shunter"; spec = node.Loco (settings 3 192 0 2) } ∷ record { name = codes "yard"; spec = node.Accessory 1 } ∷ [])
unfolding roster_in toml_on_literals is_utf8 chars encode_utf8
two_listed = refl

named_twice : roster_in (codes "version = 2\n\n[[node]]\nname = \"shunter\"\nkind = \"loco\"\ncvs = [[1, 3], [1, 4], [29, 2]]\n")
    ≡ Err (record { why = BadCvList; node = 1 })
unfolding roster_in toml_on_literals is_utf8 chars encode_utf8
named_twice = refl
