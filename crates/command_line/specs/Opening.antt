-- Why a file cannot be opened, in words (own).
use Rattle.std.specs.Prelude.{ℕ, List, codes}
use Rattle.std.specs.declared.io.ErrorKind.{ErrorKind}
use Rattle.std.specs.declared.io.ErrorKind.TheVariants.{NotFound, PermissionDenied, NotADirectory, IsADirectory, InvalidInput, InvalidFilename}

abbrev pub open_error_words : ErrorKind → List ℕ
open_error_words NotFound = codes "no such file"
open_error_words NotADirectory = codes "no such file"
open_error_words IsADirectory = codes "is a folder"
open_error_words PermissionDenied = codes "permission denied"
open_error_words InvalidFilename = codes "not a name of a file"
open_error_words InvalidInput = codes "not a name of a file"
open_error_words why = codes "it cannot be opened"
