-- What the definitions say of small texts, by computing.
use Rattle.std.proofs.Common.{◌≡◌, [], ◌∷◌, ◌++◌, Ok, Err, codes, refl}
use Rattle.show_text.specs.declared.command.Command.TheVariants.{Byte, Turns, Show}
use Rattle.show_text.specs.declared.command.ScriptFaultKind.TheVariants.{BadLine, BadWord, BadNode}
use Rattle.text.specs.Words.{words_of}
use Rattle.show_text.specs.Script.{bytes_of, nodes_of, commands_of, script_of, fault_at}

commands : script_of 8 4 (codes "line 7 83 7c" ++ 13 ∷ 10 ∷ codes "# rest" ++ 10 ∷ codes "line 0 bF") ≡ Ok (Byte 7 131 ∷ Byte 7 124 ∷ Byte 0 191 ∷ [])
unfolding commands_of bytes_of words_of
commands = refl

late_fault : script_of 8 4 (codes "line 0 83" ++ 10 ∷ 10 ∷ codes "line 8") ≡ Err (fault_at BadLine 3)
unfolding commands_of bytes_of words_of
late_fault = refl

no_bytes : script_of 8 4 (codes "line 0") ≡ Err (fault_at BadWord 1)
unfolding commands_of bytes_of words_of
no_bytes = refl

turns : script_of 8 4 (codes "turn 2" ++ 10 ∷ codes "turn 7 miss 3 0 3" ++ 10 ∷ codes "show") ≡ Ok (Turns 2 0 ∷ Turns 7 9 ∷ Show ∷ [])
unfolding commands_of nodes_of words_of
turns = refl

no_node : script_of 8 0 (codes "turn 1 miss 0") ≡ Err (fault_at BadNode 1)
unfolding commands_of nodes_of words_of
no_node = refl
