-- The words for the faults of a roster (own).
use Rattle.std.specs.Prelude.{ℕ, List, Option, Some, None, codes}
use Rattle.decoder_cv.specs.declared.cv_fault.CvFault.{CvFault}
use Rattle.decoder_cv.specs.declared.cv_fault.CvFault.TheVariants.{BadCv1, BadCv17, NotLoco, BadList}
use Rattle.roster.specs.declared.fault.RosterFaultKind.{RosterFaultKind}
use Rattle.roster.specs.declared.fault.RosterFaultKind.TheVariants.{NotToml, BadShape, TooMany, BadName, BadCv, BadModule, Empty, NoMemory, BadCvList}

unfoldable pub words_of : RosterFaultKind → List ℕ
words_of NotToml = codes "the text is not TOML, or not UTF-8"
words_of BadShape = codes "a key is missing or unknown, or a value has another type"
words_of TooMany = codes "more than 64 nodes"
words_of BadName = codes "a name is not 1 to 16 letters, digits, - or _, or another node has it"
words_of BadCv = codes "a configuration variable is not 0 to 255, or the values make no locomotive decoder"
words_of BadModule = codes "a module is not 1 to 510"
words_of Empty = codes "no node"
words_of NoMemory = codes "no memory"
words_of BadCvList = codes "cvs has a number outside 1 to 1024, or one twice, or lacks 1 or 29"

-- the fault of variables; without one a value is no byte
unfoldable pub cv_words_of : Option CvFault → List ℕ
cv_words_of None = codes "the value of a variable must be 0 to 255"
cv_words_of (Some BadCv1) = codes "CV1 must be 1 to 127"
cv_words_of (Some BadCv17) = codes "CV17 must be 192 to 231, since bit 5 of CV29 is 1"
cv_words_of (Some NotLoco) = codes "bit 7 of CV29 must be 0"
cv_words_of (Some BadList) = words_of BadCvList

-- the words for a fault, with what is wrong with the variables
abbrev pub fault_words : RosterFaultKind → Option CvFault → List ℕ
fault_words BadCv cv = cv_words_of cv
fault_words why cv = words_of why
