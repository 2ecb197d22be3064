-- What a run of arguments ended by.
use Rattle.std.proofs.Common.{◌≡◌, ℕ, Bool, true, false, List, Result, Ok, Err, refl, ap, subst, sym, ◌∙◌, arith, inl, inr}
use Rattle.std.specs.Prelude.{◌⊎◌, ◌||◌, ◌==◌, IfErr, not}
use Rattle.std.proofs.lemmas.Bool.{both_ways}
use Rattle.command_line.specs.declared.fault.OrderFault.{OrderFault}
use Rattle.command_line.specs.declared.fault.OrderFault.TheVariants as words
use Rattle.command_line.specs.Requests.{is_request}
use Rattle.console.specs.declared.fault.RunFault.TheVariants.{NoMemory}
use Rattle.server_orders.specs.ServerLine.{IsServerFault}
use Rattle.lbserver.specs.declared.fault.ServerFault.{ServerFault}
use Rattle.lbserver.specs.declared.fault.ServerFault.TheVariants.{Order, Output, Run}
use Rattle.lbserver.specs.Execution.{AreNoOrder, IsEnd, IsOpened, ended_by_output, is_of_file, status_of}

-- for a file only if one is named
pub of_named : {A : Type 0} (P : Type 0) (named failed faulted : Bool) (r : Result A ServerFault) → (named ≡ true → P) → IsEnd named failed faulted r → IfErr r (λ fault. is_of_file fault ≡ true → P)
of_named P named failed faulted (Ok value) gives ends = tt
of_named P true failed faulted (Err fault) gives ends = λ of. gives refl
of_named P false failed faulted (Err fault) gives ends = λ of. absurd (both_ways false refl (subst (λ (b : Bool). not b ≡ true) of ends.1))

-- with status 2 only if a file is named
pub of_opened : {A : Type 0} (P : Type 0) (named : Bool) (r : Result A ServerFault) → (named ≡ true → P) → IsOpened named r → IfErr r (λ fault. status_of fault ≡ 2 → P)
of_opened P named (Ok value) gives ends = tt
of_opened P true (Err fault) gives ends = λ two. gives refl
of_opened P false (Err fault) gives ends = λ two. absurd (both_ways false refl (subst (λ (n : ℕ). not (n == 2) ≡ true) two ends))

-- with status 4 only if a call of the system failed
pub of_faulted : {A : Type 0} (P : Type 0) (named failed faulted : Bool) (r : Result A ServerFault) → (faulted ≡ true → P) → IsEnd named failed faulted r → IfErr r (λ fault. status_of fault ≡ 4 → P)
of_faulted P named failed faulted (Ok value) gives ends = tt
of_faulted P named failed true (Err fault) gives ends = λ four. gives refl
of_faulted P named failed false (Err fault) gives ends = λ four. absurd (both_ways false refl (subst (λ (n : ℕ). not (n == 4) ≡ true) four ends.3))

abbrev HasStatus1 : {A : Type 0} → Result A ServerFault → Type 0
HasStatus1 (Ok a) = ⊥
HasStatus1 (Err fault) = status_of fault ≡ 1

-- for the arguments only if they are no order: not where they ask for a text
pub no_order : {A : Type 0} (words : List (List ℕ)) (fault : OrderFault) (asks : Bool) (r : Result A ServerFault) → is_request fault ≡ asks → IsServerFault words fault
    → (is_request fault ≡ true → IfErr r (λ e. (e ≡ Output) ⊎ (e ≡ Run NoMemory))) → (is_request fault ≡ false → r ≡ Err (Order fault)) → IfErr r (λ e. status_of e ≡ 1 → AreNoOrder words)
no_order words fault asks (Ok a) same is asked kept = tt
no_order words fault true (Err e) same is asked kept = λ one. elim (asked same) [
  | inl output ↦ let four : 4 ≡ 1 = subst (λ (f : ServerFault). status_of f ≡ 1) output one in absurd (omega (arith, four))
  | inr memory ↦ let six : 6 ≡ 1 = subst (λ (f : ServerFault). status_of f ≡ 1) memory one in absurd (omega (arith, six))
]
no_order {A = A} words fault false (Err e) same is asked kept = λ one. (fault, is, subst (λ (r : Result A ServerFault). HasStatus1 r) (kept same) one)

abbrev HasStatus4 : {A : Type 0} → Result A ServerFault → Type 0
HasStatus4 (Ok a) = ⊥
HasStatus4 (Err fault) = status_of fault ≡ 4

not_network : (fault : OrderFault) → status_of (Order fault) ≡ 4 → ⊥
not_network (words.Usage error) four = absurd (omega (arith, four))
not_network words.NoMemory four = absurd (omega (arith, four))

-- with status 4 only if they ask for a text, and it was not written
pub unwritten : {A : Type 0} (P : Type 0) (fault : OrderFault) (asks : Bool) (r : Result A ServerFault) → is_request fault ≡ asks
    → (is_request fault ≡ true → IfErr r (λ e. (e ≡ Output) ⊎ (e ≡ Run NoMemory))) → (is_request fault ≡ false → r ≡ Err (Order fault))
    → (is_request fault ≡ true → ended_by_output r ≡ true → P) → IfErr r (λ e. status_of e ≡ 4 → P)
unwritten P fault asks (Ok a) same asked kept gives = tt
unwritten {A = A} P fault true (Err e) same asked kept gives = λ four. elim (asked same) [
  | inl output ↦ gives same (ap (λ (f : ServerFault). ended_by_output {A = A} (Err f)) output)
  | inr memory ↦ let six : 6 ≡ 4 = subst (λ (f : ServerFault). status_of f ≡ 4) memory four in absurd (omega (arith, six))
]
unwritten {A = A} P fault false (Err e) same asked kept gives = λ four. absurd (not_network fault (subst (λ (r : Result A ServerFault). HasStatus4 r) (kept same) four))

abbrev HasStatus2 : {A : Type 0} → Result A ServerFault → Type 0
HasStatus2 (Ok a) = ⊥
HasStatus2 (Err fault) = status_of fault ≡ 2

not_unopened : (fault : OrderFault) → status_of (Order fault) ≡ 2 → ⊥
not_unopened (words.Usage error) two = absurd (omega (arith, two))
not_unopened words.NoMemory two = absurd (omega (arith, two))

-- never with status 2 if they are no order
pub opened : {A : Type 0} (P : Type 0) (fault : OrderFault) (asks : Bool) (r : Result A ServerFault) → is_request fault ≡ asks
    → (is_request fault ≡ true → IfErr r (λ e. (e ≡ Output) ⊎ (e ≡ Run NoMemory))) → (is_request fault ≡ false → r ≡ Err (Order fault)) → IfErr r (λ e. status_of e ≡ 2 → P)
opened P fault asks (Ok a) same asked kept = tt
opened P fault true (Err e) same asked kept = λ two. elim (asked same) [
  | inl output ↦ let four : 4 ≡ 2 = subst (λ (f : ServerFault). status_of f ≡ 2) output two in absurd (omega (arith, four))
  | inr memory ↦ let six : 6 ≡ 2 = subst (λ (f : ServerFault). status_of f ≡ 2) memory two in absurd (omega (arith, six))
]
opened {A = A} P fault false (Err e) same asked kept = λ two. absurd (not_unopened fault (subst (λ (r : Result A ServerFault). HasStatus2 r) (kept same) two))

-- a run that was carried out has status 0 or 7
pub done_or_lost : {P Q : Type 0} (failed : Bool) (status : ℕ) → (failed ≡ false → (status ≡ 0) × Q) → (failed ≡ true → status ≡ 7) → (status ≡ 2) ⊎ (status ≡ 3) → P
done_or_lost true status whole lost (inl two) = let seven = lost refl in absurd (omega (arith, seven, two))
done_or_lost true status whole lost (inr three) = let seven = lost refl in absurd (omega (arith, seven, three))
done_or_lost false status whole lost (inl two) = let none = (whole refl).0 in absurd (omega (arith, none, two))
done_or_lost false status whole lost (inr three) = let none = (whole refl).0 in absurd (omega (arith, none, three))

pub not_stopped : {P Q : Type 0} (failed : Bool) (status : ℕ) → (failed ≡ false → (status ≡ 0) × Q) → (failed ≡ true → status ≡ 7) → status ≡ 4 → P
not_stopped true status whole lost four = let seven = lost refl in absurd (omega (arith, seven, four))
not_stopped false status whole lost four = let none = (whole refl).0 in absurd (omega (arith, none, four))

-- 2 and 3 are those of files
pub of_file : (status : ℕ) (fault : ServerFault) → status ≡ status_of fault → (status ≡ 2) ⊎ (status ≡ 3) → is_of_file fault ≡ true
of_file status fault same (inl two) = subst (λ (n : ℕ). (n == 2 || n == 3) ≡ true) (sym two ∙ same) refl
of_file status fault same (inr three) = subst (λ (n : ℕ). (n == 2 || n == 3) ≡ true) (sym three ∙ same) refl
