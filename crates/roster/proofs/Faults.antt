-- What a text says has no fault of memory.
use Rattle.std.proofs.Common.{◌≢◌, ℕ, ℤ, pos, negsuc, Bool, true, false, if◌then◌else◌, nat_lt, List, Option, Some, None, Result, Ok, Err}
use Rattle.std.specs.Prelude.{IfErr}
use Rattle.toml.specs.Data.{Data, Members}
use Rattle.dcc_packet.specs.Module.{is_module}
use Rattle.decoder_cv.specs.Settings.{Settings}
use Rattle.decoder_cv.specs.declared.cv_fault.CvFault.{CvFault}
use Rattle.decoder_cv.specs.declared.cv_fault.CvFault.TheVariants.{BadCv1, BadCv17, NotLoco, BadList}
use Rattle.roster.specs.declared.described.Described.{Described}
use Rattle.roster.specs.declared.described.Described.TheVariants.{Loco, Listed, Accessory}
use Rattle.roster.specs.declared.pair.Pair.{Pair}
use Rattle.roster.specs.declared.version.Version.{Version}
use Rattle.roster.specs.declared.version.Version.TheVariants.{One, Two}
use Rattle.roster.specs.declared.fault.RosterFaultKind.{RosterFaultKind}
use Rattle.roster.specs.declared.fault.RosterFaultKind.TheVariants.{BadShape, BadName, BadCv, BadCvList, BadModule, NoMemory}
use Rattle.roster.specs.Entry.{Entry}
use Rattle.roster.specs.Decoder.{accessory_of, loco_of}
use Rattle.roster.specs.Format.{accessory_in, described_as, entry_of, loco_in, loco_in_keys, loco_in_list, loco_listed, name_after, decoder_of}
use Rattle.roster.specs.FourVariables.{byte_of, bytes_of}
use Rattle.roster.specs.declared.four_variables.FourVariables.{FourVariables}
use Rattle.roster.specs.Pairs.{cvs_of}
use Rattle.roster.specs.Steps.{◌>>=◌, or_fault}
use Rattle.roster.specs.Toml.{integer_or}

-- if it is a fault, then not of memory
pub record NeverMemory {A : Type 0} (r : Result A RosterFaultKind) : Type 0 where
  pub fault : IfErr r (λ why. why ≢ NoMemory)

abbrev good : {A : Type 0} → A → Result A RosterFaultKind
good x = Ok x

done : {A : Type 0} (x : A) → NeverMemory (good x)
done x = record { fault = tt }

bad_shape : (A : Type 0) → NeverMemory {A = A} (Err BadShape)
bad_shape A = record { fault = λ e. cc }

bad_name : (A : Type 0) → NeverMemory {A = A} (Err BadName)
bad_name A = record { fault = λ e. cc }

bad_cv : (A : Type 0) → NeverMemory {A = A} (Err BadCv)
bad_cv A = record { fault = λ e. cc }

bad_cv_list : (A : Type 0) → NeverMemory {A = A} (Err BadCvList)
bad_cv_list A = record { fault = λ e. cc }

bad_module : (A : Type 0) → NeverMemory {A = A} (Err BadModule)
bad_module A = record { fault = λ e. cc }

in_turn : {A B : Type 0} (r : Result A RosterFaultKind) (f : A → Result B RosterFaultKind) → NeverMemory r → ((x : A) → NeverMemory (f x)) → NeverMemory (r >>= f)
in_turn (Ok x) f first next = next x
in_turn (Err why) f first next = record { fault = first.fault }

in_both : {A : Type 0} (b : Bool) (r s : Result A RosterFaultKind) → NeverMemory r → NeverMemory s → NeverMemory (if b then r else s)
in_both true r s first next = first
in_both false r s first next = next

shaped : {A : Type 0} (o : Option A) → NeverMemory (or_fault o BadShape)
shaped (Some x) = done x
shaped None = bad_shape _

or_other : (o : Option Data) (z : ℤ) → NeverMemory (integer_or o z)
or_other None z = done z
or_other (Some value) z = shaped _

in_keys : (table : Members) → NeverMemory (loco_in_keys table)
in_keys table = search (in_both, in_turn, shaped, or_other, done, bad_shape) depth 12

in_cvs : (value : Data) → NeverMemory (cvs_of value)
in_cvs value = search (in_both, in_turn, shaped, done, bad_shape)

in_list : (table : Members) → NeverMemory (loco_in_list table)
in_list table = search (in_both, in_turn, shaped, in_cvs, done, bad_shape)

in_loco : (version : Version) (table : Members) → NeverMemory (loco_in version table)
in_loco One table = in_keys table
in_loco Two table = in_list table

in_accessory : (table : Members) → NeverMemory (accessory_in table)
in_accessory table = search (in_both, in_turn, shaped, done, bad_shape)

as_kind : (version : Version) (kind : List ℕ) (table : Members) → NeverMemory (described_as version kind table)
as_kind version kind table = search (in_both, in_loco, in_accessory, bad_shape)

of_byte : (z : ℤ) → NeverMemory (byte_of z)
of_byte (pos n) = in_both (nat_lt n 256) _ _ (done n) (bad_cv _)
of_byte (negsuc n) = bad_cv _

of_settings : (r : Result Settings CvFault) → NeverMemory (loco_of r)
of_settings (Ok cv) = done _
of_settings (Err BadCv1) = bad_cv _
of_settings (Err BadCv17) = bad_cv _
of_settings (Err NotLoco) = bad_cv _
of_settings (Err BadList) = bad_cv_list _

of_list : (pairs : List Pair) → NeverMemory (loco_listed pairs)
of_list pairs = search (in_both, of_settings, bad_cv, bad_cv_list)

of_module : (z : ℤ) → NeverMemory (accessory_of z)
of_module (pos n) = in_both (is_module n) _ _ (done _) (bad_module _)
of_module (negsuc n) = bad_module _

of_bytes : (values : FourVariables ℤ) → NeverMemory (bytes_of values)
of_bytes values = search (in_turn, of_byte, done) depth 12

of_values : (described : Described) → NeverMemory (decoder_of described)
of_values (Accessory number) = of_module number
of_values (Listed pairs) = of_list pairs
of_values (Loco values) = search (in_turn, of_bytes, of_settings)

of_name : (earlier : List Entry) (name : List ℕ) → NeverMemory (name_after earlier name)
of_name earlier name = search (in_both, done, bad_name)

pub of_entry : (version : Version) (earlier : List Entry) (value : Data) → NeverMemory (entry_of version earlier value)
of_entry version earlier value = search (in_turn, shaped, as_kind, of_name, of_values, done) depth 12
