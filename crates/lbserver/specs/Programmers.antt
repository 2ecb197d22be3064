-- The programming track of a file of decoders: a roster, whose locomotives can stand on it.
use Rattle.std.specs.Prelude.{ℕ, zero, suc, ◌≡◌, ◌<◌, ◌+◌, List, length, Option, Some, None, Ok, slice_get, slice_index}
use Rattle.arrayvec.specs.ArrayString.{ArrayString}
use Rattle.toml.specs.Data.{Members}
use Rattle.decoder_cv.specs.declared.cv_pair.CvPair.{CvPair}
use Rattle.roster.specs.Decoders.{decoder_name}
use Rattle.roster.specs.Entry.{Entry}
use Rattle.roster.specs.Format.{roster_in}
use Rattle.roster.specs.Toml.{table_in}
use Rattle.roster.specs.Variables.{variables_at}
use Rattle.cv_memory.specs.Filed.{filed_value}
use Rattle.cv_memory.specs.Hearing.{CvState}
use Rattle.cv_memory.specs.History.{unheard}
use Rattle.programming_track.specs.Bench.{BenchState, bare, first_mounted, with_decoder}

-- a decoder that has these variables in its file, and has heard nothing
pub record IsDecoderOf (pairs : List CvPair) (decoder : CvState) : Type 0 where
  pub values : (address : ℕ) → address < 1024
      → slice_index decoder.values address ≡ filed_value pairs address
  pub new : decoder ≡ unheard decoder.values decoder.values

-- a node more: a locomotive is a decoder under its name, an accessory none
abbrev pub AddsNode : (name : List ℕ) → Option (List CvPair) → (old new : BenchState) → Type 0
AddsNode name None old new = new ≡ old
AddsNode name (Some pairs) old new =
    (decoder : CvState) × IsDecoderOf pairs decoder
    × (own : ArrayString) × (own.bytes ≡ name) × (new ≡ with_decoder old own decoder)

-- the first so many nodes of a roster
abbrev pub HasNodes : Members → List Entry → (count : ℕ) → BenchState → Type 0
HasNodes whole entries zero bench = bench ≡ bare
HasNodes whole entries (suc count) bench =
    (before : BenchState) × HasNodes whole entries count before
    × AddsNode (decoder_name (slice_get entries count)) (variables_at whole (count + 1)) before bench

-- the text is a roster, and the first of its locomotives stands on the track, where no task is under way
abbrev pub IsProgrammingIn : (text : List ℕ) → BenchState → Type 0
IsProgrammingIn text bench =
    (entries : List Entry) × (roster_in text ≡ Ok entries) × (whole : Members) × (table_in text ≡ Some whole)
    × (all : BenchState) × HasNodes whole entries (length entries) all × (bench ≡ first_mounted all)

-- None without a file. The contents of a file are not known, only that there is such a text.
abbrev pub IsProgrammingOf : (file : Option (List ℕ)) → Option BenchState → Type 0
IsProgrammingOf None programming = programming ≡ None
IsProgrammingOf (Some file) None = ⊥
IsProgrammingOf (Some file) (Some bench) = (text : List ℕ) × IsProgrammingIn text bench
