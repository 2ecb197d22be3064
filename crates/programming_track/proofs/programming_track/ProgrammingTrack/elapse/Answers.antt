use Rattle.std.proofs.Common.{◌≡◌, ◌⊎◌, ℕ, ◌+◌, ◌-◌, ◌*◌, ◌≤◌, max, Bool, true, IfSome, IsTrue, List, [], ◌∷◌, ◌++◌, length, Option, Some, None, inl, inr, refl, sym, ap, ◌∙◌, arith, append_assoc, append-nil, length-append}
use Rattle.std.specs.List.{list_all}
use Rattle.std.proofs.lemmas.Bool.{and_from}
use Rattle.std.proofs.lemmas.List.Folds.{list_all-append}
use Rattle.cv_memory.specs.declared.cv_change.CvChange.{CvChange}
use Rattle.cv_memory.specs.Hearing.{CvState}
use Rattle.programmer.specs.declared.task_result.TaskResult.{TaskResult}
use Rattle.programmer.specs.declared.task_state.TaskState.{TaskState}
use Rattle.programmer.specs.Machine.{ProgrammerState, result_after}
use Rattle.programmer.specs.Requests.{is_legal_result}
use Rattle.programming_track.specs.declared.packet_end.PacketEnd.{PacketEnd}
use Rattle.programming_track.specs.declared.programming_track.ProgrammingTrack.{ProgrammingTrack}
use Rattle.programming_track.specs.Time.{elapsed_by, ends_within, is_legal_end, is_legal_some}
use Rattle.programming_track.proofs.Times.{after, at, end_with, long_ends, long_state, no_ends, no_packet, programmer_of, short_ends, short_state, stays_idle}
use Rattle.programming_track.proofs.programming_track.ProgrammingTrack.elapse.Goals as goal

pub returns-then-left-rest-clause-state : goal.returns-then-left-rest-clause-state
returns-then-left-rest-clause-state c =
    let s = c.packets.self in
    sym (c.packets.invariant.state
    ∙ short_state s.programmer.last s.fails s.decoder s.programmer.under_way s.elapsed c.packets.left c.rest_of-rest.result c.in-Some.packet c.in-Some.ensures.value c.rest_of-rest.ensures.rest c.if-left-rest.true)

pub returns-then-left-rest-clause-ends : goal.returns-then-left-rest-clause-ends
returns-then-left-rest-clause-ends c =
    let s = c.packets.self in
    sym (c.packets.invariant.ends
    ∙ ap (λ (xs : List PacketEnd). c.packets.ends.items ++ xs) (short_ends s.programmer.last s.fails s.decoder s.programmer.under_way s.elapsed c.packets.left c.rest_of-rest.result c.in-Some.packet c.in-Some.ensures.value c.rest_of-rest.ensures.rest c.if-left-rest.true)
    ∙ append-nil c.packets.ends.items)

-- the track after the packet
stepped : (p q : ProgrammerState) (f : Bool) (d t : Option CvState) → q ≡ p → t ≡ d → at q f t 0 ≡ at p f d 0
stepped p q f d t e g = ap (λ (x : ProgrammerState). at x f t 0) e ∙ ap (λ (y : Option CvState). at p f y 0) g

-- one more packet is legal
some_legal : (result : Option TaskResult) → IfSome result (λ ended. IsTrue (is_legal_result ended)) → is_legal_some result ≡ true
some_legal None e = refl
some_legal (Some ended) e = e

legal_push : (ends : List PacketEnd) (one : PacketEnd) → list_all is_legal_end ends ≡ true → is_legal_end one ≡ true → list_all is_legal_end (ends ++ one ∷ []) ≡ true
legal_push ends one e f = list_all-append is_legal_end ends (one ∷ []) ∙ and_from _ _ e (and_from (is_legal_end one) true f refl)

-- and few are there
few_push : (items : List PacketEnd) (elapsed m left micros rest : ℕ) → (items ≡ []) ⊎ (elapsed ≡ 0) → rest ≡ max 1 (m - elapsed) → 5820 ≤ m → rest ≤ left → left ≤ micros → 5820 * length items + left ≤ micros + 5820 → 5820 * (length items + 1) + (left - rest) ≤ micros + 5820
few_push items elapsed m left micros rest (inl none) is some more less few = let zero : length items ≡ 0 = ap length none in omega arith
few_push items elapsed m left micros rest (inr whole) is some more less few = omega arith

pub packets-preserved : goal.packets-preserved
packets-preserved c =
    let s = c.packets.self in
    let u = s.programmer.under_way in
    let last = s.programmer.last in
    let left = c.packets.left in
    let rest = c.rest_of-rest.result in
    let packet = c.in-Some.packet in
    let load = c.send-load.result in
    let items = c.packets.ends.items in
    let change = c.change_on-change.result in
    let one : PacketEnd = record { packet = packet; result = c.step-result.result; change = change } in
    let here : at c.step-result.new.self s.fails c.send-load.new.decoder 0 ≡ after last s.fails s.decoder u packet load =
    stepped _ _ s.fails _ _ c.step-result.ensures.state c.send-load.ensures.decoder in
    let ended : one ≡ end_with last s.fails s.decoder u packet load =
    ap (λ (r : Option TaskResult). record { packet = packet; result = r; change = change }) c.step-result.ensures.result
    ∙ ap (λ (x : Option CvChange). record { packet = packet; result = result_after u load; change = x }) c.change_on-change.ensures in
    let next = at c.step-result.new.self s.fails c.send-load.new.decoder 0 in
    record {
      state =
          c.packets.invariant.state
          ∙ long_state last s.fails s.decoder u s.elapsed left rest packet load c.in-Some.ensures.value c.rest_of-rest.ensures.rest c.if-left-rest.false c.send-load.ensures.load
          ∙ ap (elapsed_by (left - rest)) (sym here);
      ends =
          c.packets.invariant.ends
          ∙ ap (λ (xs : List PacketEnd). items ++ xs) (long_ends last s.fails s.decoder u s.elapsed left rest packet load c.in-Some.ensures.value c.rest_of-rest.ensures.rest c.if-left-rest.false c.send-load.ensures.load)
          ∙ ap (λ (x : PacketEnd). items ++ (x ∷ ends_within (left - rest) (after last s.fails s.decoder u packet load))) (sym ended)
          ∙ ap (λ (t : ProgrammingTrack). items ++ (one ∷ ends_within (left - rest) t)) (sym here)
          ∙ sym (append_assoc items (one ∷ []) (ends_within (left - rest) next))
          ∙ ap (λ (xs : List PacketEnd). xs ++ ends_within (left - rest) next) (sym c.push.ensures.items);
      begun = inr refl;
      legal =
          ap (list_all is_legal_end) c.push.ensures.items
          ∙ legal_push items one c.packets.invariant.legal (and_from _ _ c.in-Some.ensures.legal (some_legal c.step-result.result c.step-result.ensures.legal));
      within = let less : left - rest ≤ left = omega arith in omega (arith, c.packets.invariant.within);
      few =
          let longer : length c.push.new.self.items ≡ length items + 1 = ap length c.push.ensures.items ∙ length-append items (one ∷ []) in
          let fits : 5820 * (length items + 1) + (left - rest) ≤ c.args.micros + 5820 =
          few_push items s.elapsed _ left c.args.micros rest c.packets.invariant.begun c.rest_of-rest.ensures.rest c.rest_of-rest.ensures.shortest c.if-left-rest.false c.packets.invariant.within c.packets.invariant.few in
          omega (arith, longer, fits);
    }

pub returns-clause-state : goal.returns-clause-state
returns-clause-state c =
    let s = c.packets.self in
    let last = s.programmer.last in
    let here : s ≡ at (programmer_of None last) s.fails s.decoder s.elapsed = ap (λ (u : Option TaskState). at (programmer_of u last) s.fails s.decoder s.elapsed) (no_packet s.programmer.under_way c.in_default.ensures.value) in
    sym (c.packets.invariant.state ∙ ap (elapsed_by c.packets.left) here ∙ stays_idle last s.fails s.decoder c.packets.left s.elapsed ∙ sym here)

pub returns-clause-ends : goal.returns-clause-ends
returns-clause-ends c =
    let s = c.packets.self in
    let last = s.programmer.last in
    let items = c.packets.ends.items in
    let here : s ≡ at (programmer_of None last) s.fails s.decoder s.elapsed = ap (λ (u : Option TaskState). at (programmer_of u last) s.fails s.decoder s.elapsed) (no_packet s.programmer.under_way c.in_default.ensures.value) in
    sym (c.packets.invariant.ends
    ∙ ap (λ (t : ProgrammingTrack). items ++ ends_within c.packets.left t) here
    ∙ ap (λ (xs : List PacketEnd). items ++ xs) (no_ends last s.fails s.decoder c.packets.left s.elapsed)
    ∙ append-nil items)
