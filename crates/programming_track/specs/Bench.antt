-- A bench: a programming track, and decoders of which one may stand on it.
use Rattle.std.specs.Prelude.{ℕ, zero, suc, ◌≡◌, ◌<◌, IfSome, ◌+◌, ◌-◌, ◌*◌, ◌/◌, ◌%◌, ◌==◌, Bool, false, if◌then◌else◌, List, [], ◌∷◌, ◌++◌, length, Option, Some, None, option_map, is_some, position, slice_get, slice_index, slice_set}
use Rattle.std.specs.List.{slice_index_or}
use Rattle.std.specs.Str.{bytes_eq}
use Rattle.arrayvec.specs.ArrayString.{ArrayString}
use Rattle.cv_memory.specs.Changes.{is_changed}
use Rattle.cv_memory.specs.Hearing.{CvState}
use Rattle.programmer.specs.Machine.{idle}
use Rattle.programming_track.specs.declared.programming_track.ProgrammingTrack.{ProgrammingTrack}
use Rattle.programming_track.specs.Track.{at_packet_start, requested, restarted}
use Rattle.programming_track.specs.Time.{elapsed_by}

-- The track, the names of the decoders, the variables of each that does not stand on the track, and the
-- index of the one that does.
pub record BenchState : Type 0 where
  pub track : ProgrammingTrack
  pub names : List ArrayString
  pub memories : List (Option CvState)
  pub mounted : Option ℕ

-- an empty track, and no decoders
abbrev pub bare : BenchState
bare = record { track = at_packet_start idle false None; names = []; memories = []; mounted = None }

-- one decoder more, which does not stand on the track
abbrev pub with_decoder : BenchState → (name : ArrayString) → CvState → BenchState
with_decoder b name memory = record b {
  names = b.names ++ name ∷ [];
  memories = b.memories ++ Some memory ∷ [];
}

-- the track alone changes: a message, time, and whether acknowledgments fail
abbrev pub bench_requested : BenchState → (message : List ℕ) → BenchState
bench_requested b message = record b { track = requested b.track message }

abbrev pub bench_elapsed : (micros : ℕ) → BenchState → BenchState
bench_elapsed micros b = record b { track = elapsed_by micros b.track }

abbrev pub with_failing : (fails : Bool) → BenchState → BenchState
with_failing fails b = record b { track = record b.track { fails = fails } }

-- The decoder that stands on the track goes back to its place, with its variables as they are.
abbrev pub put_back : Option ℕ → Option CvState → List (Option CvState) → List (Option CvState)
put_back None memory memories = memories
put_back (Some index) memory memories = slice_set memories index memory

abbrev pub dismounted : BenchState → BenchState
dismounted b = record {
  track = record b.track { decoder = None };
  names = b.names;
  memories = put_back b.mounted b.track.decoder b.memories;
  mounted = None;
}

-- One is put on the track: it is as if switched on.
abbrev pub put_on : (index : ℕ) → BenchState → BenchState
put_on index b = record {
  track = record b.track { decoder = option_map restarted (slice_index_or b.memories index None) };
  names = b.names;
  memories = slice_set b.memories index None;
  mounted = Some index;
}

-- the first decoder of this name, if there is one
abbrev pub decoder_named : BenchState → (name : List ℕ) → Option ℕ
decoder_named b name = position (λ own. bytes_eq own.bytes name) b.names

abbrev pub has_decoder : BenchState → (name : List ℕ) → Bool
has_decoder b name = is_some (decoder_named b name)

-- it stands on the track instead of the one before; if there is none, nothing changes
abbrev pub mounted_at : Option ℕ → BenchState → BenchState
mounted_at None b = b
mounted_at (Some index) b = put_on index (dismounted b)

abbrev pub mounted_as : (name : List ℕ) → BenchState → BenchState
mounted_as name b = mounted_at (decoder_named b name) b

-- the first decoder of all stands on the track
abbrev pub first_mounted : BenchState → BenchState
first_mounted b = if length b.memories == 0 then b else put_on 0 b

-- the name of the decoder that stands on the track, if one does
abbrev pub name_of : List ArrayString → (mounted : Option ℕ) → Option ArrayString
name_of names None = None
name_of names (Some index) = slice_get names index

abbrev pub name_on : BenchState → Option ArrayString
name_on b = name_of b.names b.mounted

-- the variables of a decoder, wherever it stands
abbrev pub is_index : Option ℕ → (index : ℕ) → Bool
is_index None index = false
is_index (Some mounted) index = mounted == index

abbrev pub memory_of : BenchState → (index : ℕ) → Option CvState
memory_of b index = if is_index b.mounted index then b.track.decoder else slice_index_or b.memories index None

abbrev pub values_of : BenchState → (index : ℕ) → Option (List ℕ)
values_of b index = option_map (λ memory. memory.values) (memory_of b index)

-- as many names as decoders, and one of them stands on the track, or none
pub record IsBench (b : BenchState) : Type 0 where
  pub as_many : length b.names ≡ length b.memories
  pub mounted : IfSome b.mounted (λ index. index < length b.memories)

-- All variables of all decoders in a row: the position of one is 1024 times the index of its decoder,
-- and its address.
abbrev pub is_changed_in : Option CvState → (address : ℕ) → Bool
is_changed_in None address = false
is_changed_in (Some memory) address = is_changed memory address

abbrev pub is_changed_at : BenchState → (at : ℕ) → Bool
is_changed_at b at = is_changed_in (memory_of b (at / 1024)) (at % 1024)

-- the first of so many positions at which something holds
abbrev pub first_of : (count from : ℕ) → (holds : ℕ → Bool) → Option ℕ
first_of zero from holds = None
first_of (suc count) from holds = if holds from then Some from else first_of count (from + 1) holds

-- the position of the next variable that differs from the file
abbrev pub next_change : BenchState → (from : ℕ) → Option ℕ
next_change b from = first_of (1024 * length b.names - from) from (is_changed_at b)

-- the variable at a position: the name of its decoder, its number, and its value
abbrev pub value_in : Option CvState → (address : ℕ) → ℕ
value_in None address = 0
value_in (Some memory) address = slice_index memory.values address

abbrev pub text_of : Option ArrayString → List ℕ
text_of None = []
text_of (Some name) = name.bytes

abbrev pub name_at : BenchState → (at : ℕ) → List ℕ
name_at b at = text_of (slice_get b.names (at / 1024))

abbrev pub number_at : (at : ℕ) → ℕ
number_at at = at % 1024 + 1

abbrev pub value_at : BenchState → (at : ℕ) → ℕ
value_at b at = value_in (memory_of b (at / 1024)) (at % 1024)
