-- An input whose text has a fault, or is a script.
use Rattle.std.proofs.Common.{◌≡◌, ℕ, ◌+◌, ◌<◌, inl, inr, List, ◌++◌, length, length-append, Bool, if◌then◌else◌, Option, Some, None, refl, ap, sym, subst, ◌∙◌, arith}
use Rattle.std.proofs.lemmas.Bool.{lt-ltb}
use Rattle.std.proofs.lemmas.List.{append-nil}
use Rattle.std.specs.Prelude.{◌≢◌, Result, Ok, Err, IfErr, IsErrAnd}
use Rattle.std.specs.Str.Lines.{lines}
use Rattle.layout_core.specs.declared.world.World.{World}
use Rattle.show_text.specs.declared.command.Command.{Command}
use Rattle.show_text.specs.declared.command.ScriptFault.{ScriptFault}
use Rattle.show_text.specs.declared.command.ScriptFaultKind.{ScriptFaultKind as ScriptWhy}
use Rattle.show_text.specs.declared.command.ScriptFaultKind.TheVariants as script
use Rattle.show_text.specs.Script.{commands_of, fault_at, script_of}
use Rattle.console.specs.declared.fault.RunFault.{RunFault}
use Rattle.console.specs.declared.fault.RunFault.TheVariants.{NoMemory}
use Rattle.console.specs.Fault.{of_script, script_fault}
use Rattle.input_text.specs.Read.{ReadsMost}
use Rattle.station.specs.Scripts.{FailsInput, IsBroken, IsRefusal, RefusesInput}

too_long : (count nodes : ℕ) (text : List ℕ) → 1048576 < length text → script_of count nodes text ≡ Err (fault_at script.TooLong 0)
too_long count nodes text long =
    ap (λ (b : Bool). if b then Err (fault_at script.TooLong 0) else commands_of count nodes 1 (lines text)) (lt-ltb 1048576 (length text) long)

-- the bytes read have the result of the whole text: if they are not the whole, both are too long
same_script : (count nodes : ℕ) (text : List ℕ) (left : Option (List ℕ)) (taken : List ℕ) → ReadsMost (Some text) left 1048577 taken → script_of count nodes text ≡ script_of count nodes taken
same_script count nodes text None taken read = absurd read.taken
same_script count nodes text (Some rest) taken read = elim read.enough [
  | inl long ↦
      let sum : length text ≡ length taken + length rest = ap length read.taken ∙ length-append taken rest in
      too_long count nodes text (omega (arith, sum, long)) ∙ sym (too_long count nodes taken (omega (arith, long)))
  | inr ended ↦ ap (script_of count nodes) (read.taken ∙ ap (λ (bytes : List ℕ). taken ++ bytes) ended ∙ append-nil taken)
]

same_fault : (r : Result (List Command) ScriptFault) (e f : ScriptFault) → r ≡ Err e → r ≡ Err f → e ≡ f
same_fault r e f first second = cc

unlike : {A : Type 0} (r : Result A ScriptFault) (a : A) (e : ScriptFault) → r ≡ Ok a → r ≡ Err e → ⊥
unlike r a e ok err = cc

-- the fault of the run is that memory ran out, or that of the script
reported : (why : ScriptWhy) (line : ℕ) (P : RunFault → Type 0) → (why ≢ script.NoMemory → P (script_fault why line)) → P NoMemory → P (script_fault why line)
reported script.BadWord line P known memory = known λ same. cc
reported script.BadHex line P known memory = known λ same. cc
reported script.BadNumber line P known memory = known λ same. cc
reported script.BadLine line P known memory = known λ same. cc
reported script.BadNode line P known memory = known λ same. cc
reported script.TooLong line P known memory = known λ same. cc
reported script.NoMemory line P known memory = memory

passed_up : {A : Type 0} (r : Result A RunFault) (e : RunFault) (P : RunFault → Type 0) → IsErrAnd r (λ f. f ≡ e) → P e → IfErr r P
passed_up (Ok a) e P is holds = tt
passed_up (Err f) e P is holds = subst P (sym is) holds

module _ {A : Type 0} (r : Result A RunFault) (left : Option (List ℕ)) (taken : List ℕ) (fault : ScriptFault) (start : World) (is : IsErrAnd r (λ e. e ≡ of_script fault)) where
  pub refuses : (input output : Option (List ℕ)) → ReadsMost input left 1048577 taken → (fault.why ≢ script.NoMemory → script_of (length start.station.lines) (length start.nodes) taken ≡ Err fault)
      → RefusesInput input r start start output output
  refuses None output read known = tt
  refuses (Some text) output read known = λ other refused. (
    refl,
    refl,
    passed_up r (of_script fault) (IsRefusal other) is (reported fault.why fault.line (IsRefusal other)
        (λ apart. inl (ap of_script (same_fault (script_of (length start.station.lines) (length start.nodes) text) fault other (same_script (length start.station.lines) (length start.nodes) text left taken read ∙ known apart) refused)))
        (inr (inr refl))),
  )

  pub fails : (input : Option (List ℕ)) → ReadsMost input left 1048577 taken → (fault.why ≢ script.NoMemory → script_of (length start.station.lines) (length start.nodes) taken ≡ Err fault) → FailsInput input r start
  fails None read known = tt
  fails (Some text) read known = λ commands ok.
      passed_up r (of_script fault) IsBroken is (reported fault.why fault.line IsBroken
      (λ apart. absurd (unlike (script_of (length start.station.lines) (length start.nodes) text) commands fault ok (same_script (length start.station.lines) (length start.nodes) text left taken read ∙ known apart)))
      (inr (inr refl)))
