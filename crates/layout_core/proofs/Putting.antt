-- What writing an answer leaves, by the contracts of its writes.
use Rattle.std.proofs.Common.{◌≡◌, ℕ, ◌+◌, Bool, true, false, List, [], Option, Result, Ok, Err, OnOk, OnErr, sym, ap, subst, ◌∙◌, arith}
use Rattle.std.specs.Prelude.{IfErr}
use Rattle.std.specs.Io.KnownBytes.{Appends}
use Rattle.std.specs.Result.{result_or}
use Rattle.std.proofs.lemmas.Result.{on_err_weaker}
use Rattle.station_core.specs.declared.call.Step.{Step}
use Rattle.input_text.specs.declared.output.Broken.{Broken}
use Rattle.layout_core.specs.declared.engine.ServeFault.{ServeFault}
use Rattle.layout_core.specs.declared.engine.ServeFault.TheVariants.{Trace}
use Rattle.layout_core.specs.Faults.{AppendsFront, PutsOut, ended_by, is_trace, is_write}
use Rattle.layout_core.specs.Served.{bytes_of_answer, ended_line, line_of_answer}

-- a result that is one of ours, and otherwise this fault
fault_so : (fault : ServeFault) (put : Result (Unit {0}) Broken) (P : ServeFault → Type 0) → OnErr put (P fault) → IfErr (result_or put (Err fault)) P
fault_so fault (Ok x) P holds = tt
fault_so fault (Err e) P holds = holds

ok_so : (fault : ServeFault) (put : Result (Unit {0}) Broken) (P : Type 0) → OnOk put P → OnOk (result_or put (Err fault)) P
ok_so fault (Ok x) P holds = holds
ok_so fault (Err e) P holds = tt

ended_so : (is : ServeFault → Bool) (fault : ServeFault) (put : Result (Unit {0}) Broken) (failed : Bool) → OnOk put (failed ≡ false) → OnErr put (failed ≡ is fault) → failed ≡ ended_by is (result_or put (Err fault))
ended_so is fault (Ok x) failed ok err = ok
ended_so is fault (Err e) failed ok err = err

always : (put : Result (Unit {0}) Broken) (P : Type 0) → P → OnOk put P
always (Ok x) P holds = holds
always (Err e) P holds = tt

always_err : (put : Result (Unit {0}) Broken) (P : Type 0) → P → OnErr put P
always_err (Ok x) P holds = tt
always_err (Err e) P holds = holds

-- the bytes of an answer were written, and this is its line
pub record HasWritten (line turn : ℕ) (answer : Step) (old new : Option (List ℕ)) (failed : Bool) (text : List ℕ) : Type 0 where
  pub appends : Appends old new (bytes_of_answer answer)
  pub works : failed ≡ false
  pub is_line : line_of_answer line turn answer ≡ ended_line text

-- and then its line is traced
module _ (put : Result (Unit {0}) Broken) (result : Result (Unit {0}) ServeFault) (is : result ≡ result_or put (Err Trace)) where
  pub trace_ended : (old new : Bool) → old ≡ false → OnOk put (new ≡ old) → OnErr put (new ≡ true) → new ≡ ended_by is_trace result
  trace_ended old new works kept broke =
      ended_so is_trace Trace put new (subst (λ (b : Bool). OnOk put (new ≡ b)) works kept) broke
      ∙ sym (ap (ended_by is_trace) is)

  module _ (line turn : ℕ) (answer : Step) (w w' : Option (List ℕ)) (failed : Bool) (text : List ℕ) (has : HasWritten line turn answer w w' failed text) where
    pub stays_written : OnOk result (Appends w w' (bytes_of_answer answer))
    stays_written =
        subst (λ (r : Result (Unit {0}) ServeFault). OnOk r (Appends w w' (bytes_of_answer answer))) (sym is)
        (ok_so Trace put (Appends w w' (bytes_of_answer answer)) (always put (Appends w w' (bytes_of_answer answer)) has.appends))

    pub no_write_ended : failed ≡ ended_by is_write result
    no_write_ended =
        ended_so is_write Trace put failed (always put (failed ≡ false) has.works) (always_err put (failed ≡ false) has.works)
        ∙ sym (ap (ended_by is_write) is)

    pub is_traced : (t t' : Option (List ℕ)) → OnOk put (Appends t t' (ended_line text)) → OnOk result (Appends t t' (line_of_answer line turn answer))
    is_traced t t' all =
        subst (λ (bs : List ℕ). OnOk result (Appends t t' bs)) (sym has.is_line)
        (subst (λ (r : Result (Unit {0}) ServeFault). OnOk r (Appends t t' (ended_line text))) (sym is) (ok_so Trace put (Appends t t' (ended_line text)) all))

    pub trace_faults : (t t' : Option (List ℕ)) → OnErr put (AppendsFront t t' [] (ended_line text)) → IfErr result (λ fault. PutsOut fault line turn [] answer w w' t t')
    trace_faults t t' part =
        let same : turn + 0 ≡ turn = omega arith in
        let out : AppendsFront t t' [] (ended_line text) → PutsOut Trace line turn [] answer w w' t t' =
        λ front. (
          has.appends,
          subst (λ (n : ℕ). AppendsFront t t' [] (line_of_answer line n answer)) (sym same)
              (subst (λ (bs : List ℕ). AppendsFront t t' [] bs) (sym has.is_line) front),
        ) in
        subst (λ (r : Result (Unit {0}) ServeFault). IfErr r (λ fault. PutsOut fault line turn [] answer w w' t t')) (sym is)
        (fault_so Trace put (λ fault. PutsOut fault line turn [] answer w w' t t') (on_err_weaker put out part))

-- a prefix of the bytes of an answer was written, and its line is not traced
pub write_faults : (answer : Step) (bytes : List ℕ) (w w' t : Option (List ℕ)) → bytes_of_answer answer ≡ bytes → AppendsFront w w' [] bytes → Appends t t []
    → AppendsFront w w' [] (bytes_of_answer answer) × Appends t t []
write_faults answer bytes w w' t is front none = (subst (λ (bs : List ℕ). AppendsFront w w' [] bs) (sym is) front, none)

-- the same for a step that wrote its bytes, and whose line was made
pub written_as : (line turn : ℕ) (answer step : Step) (old new now : Option (List ℕ)) (failed still : Bool) (text said : List ℕ) → answer ≡ step → Appends old new (bytes_of_answer step) → now ≡ new
    → failed ≡ still → still ≡ false → text ≡ said → line_of_answer line turn step ≡ ended_line said → HasWritten line turn answer old now failed text
written_as line turn answer step old new now failed still text said is appends kept same works made lines = record {
  appends = subst (λ (o : Option (List ℕ)). Appends old o (bytes_of_answer answer)) (sym kept) (subst (λ (bs : List ℕ). Appends old new bs) (sym (ap bytes_of_answer is)) appends);
  works = same ∙ works;
  is_line = ap (line_of_answer line turn) is ∙ lines ∙ ap ended_line (sym made);
}
