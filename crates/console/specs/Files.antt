-- The facts about bytes read from a file.
use Rattle.std.specs.Prelude.{ℕ, ◌≡◌, ◌<◌, ◌≤◌, ◌⊎◌, List, Option, Some, None, Ok, Err, length}
use Rattle.std.specs.Io.KnownBytes.{Consumes, IsAtEnd}
use Rattle.console.specs.declared.fault.RunFault.{RunFault}
use Rattle.console.specs.declared.fault.RunFault.TheVariants.{Unreadable, TooLong, NoMemory}
use Rattle.console.specs.Fault.{of_roster}
use Rattle.roster.specs.declared.fault.RosterFault.{RosterFault}
use Rattle.roster.specs.Entry.{Entry}
use Rattle.roster.specs.Format.{roster_in}

-- all that the input had, at most this many bytes, was read
abbrev pub ReadsFile : (most : ℕ) → (old new : Option (List ℕ)) → (text : List ℕ) → Type 0
ReadsFile most old new text = Consumes old new text × IsAtEnd new × (length text ≤ most)

-- Why the bytes of the input, a file of this name, are not returned: a read of it failed, memory
-- ran out, or it is too long.
abbrev pub FailsFile : (most : ℕ) → (file : List ℕ) → (old new : Option (List ℕ)) → RunFault → Type 0
FailsFile most file old new fault =
    (fault ≡ Unreadable file) ⊎ (fault ≡ NoMemory) ⊎ ((fault ≡ TooLong file) × ((text : List ℕ) × Consumes old new text × (most < length text)))

-- the longest roster, in bytes
abbrev pub longest_roster : ℕ
longest_roster = 65536

-- the input is this roster
abbrev pub ReadsRoster : (old new : Option (List ℕ)) → List Entry → Type 0
ReadsRoster old new entries = (text : List ℕ) × ReadsFile longest_roster old new text × (roster_in text ≡ Ok entries)

-- Why the input, a file of this name, is not a roster: it is not read whole, or its text has this
-- fault, the first.
abbrev pub FailsRoster : (file : List ℕ) → (old new : Option (List ℕ)) → RunFault → Type 0
FailsRoster file old new fault =
    FailsFile longest_roster file old new fault
    ⊎ ((text : List ℕ) × (bad : RosterFault) × ReadsFile longest_roster old new text × (roster_in text ≡ Err bad) × (fault ≡ of_roster bad))

-- None without a file. The contents of a file are not known, only that there is a text that is this
-- roster.
abbrev pub IsRosterOf : (file : Option (List ℕ)) → Option (List Entry) → Type 0
IsRosterOf None roster = roster ≡ None
IsRosterOf (Some file) None = ⊥
IsRosterOf (Some file) (Some entries) = ReadsRoster None None entries

-- Why there is no roster, though a file is named.
abbrev pub HasNoRoster : (file : Option (List ℕ)) → RunFault → Type 0
HasNoRoster None fault = ⊥
HasNoRoster (Some file) fault = FailsRoster file None None fault
