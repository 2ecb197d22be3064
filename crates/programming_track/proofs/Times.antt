-- A programming track as time passes: packet by packet is microsecond by microsecond.
use Rattle.std.proofs.Common.{◌≡◌, ℕ, zero, suc, ◌+◌, ◌-◌, ◌<◌, ◌≤◌, max, Bool, List, [], ◌∷◌, ◌++◌, Option, Some, None, refl, sym, ap, subst, ◌∙◌, arith, append_assoc, append-nil}
use Rattle.std.proofs.lemmas.Bool.{lt-leb, le-leb}
use Rattle.service_mode.specs.declared.packet.ServicePacket.{ServicePacket}
use Rattle.cv_memory.specs.Hearing.{CvState}
use Rattle.programmer.specs.declared.load.Load.{Load}
use Rattle.programmer.specs.declared.task_result.TaskResult.{TaskResult}
use Rattle.programmer.specs.declared.task_state.TaskState.{TaskState}
use Rattle.programmer.specs.Machine.{ProgrammerState, after_load, next_packet, packet_of, result_after}
use Rattle.programming_track.specs.declared.packet_end.PacketEnd.{PacketEnd}
use Rattle.programming_track.specs.declared.programming_track.ProgrammingTrack.{ProgrammingTrack}
use Rattle.programming_track.specs.Tasks.{change_on, load_of, decoder_after}
use Rattle.programming_track.specs.Time.{elapsed_by, end_by, ended_by, ends_in_tick, ends_within, micros_of, tick}

pub none_some : {A : Type 0} (x : A) → None ≡ Some x → ⊥
none_some x e = cc

pub same_some : {A : Type 0} (x y : A) → Some x ≡ Some y → x ≡ y
same_some x y e = cc

abbrev pub programmer_of : Option TaskState → TaskResult → ProgrammerState
programmer_of under_way last = record { under_way = under_way; last = last }

abbrev pub at : ProgrammerState → Bool → Option CvState → ℕ → ProgrammingTrack
at programmer fails decoder elapsed = record { programmer = programmer; decoder = decoder; fails = fails; elapsed = elapsed }

-- time may be cut anywhere
pub adds : (a b : ℕ) (s : ProgrammingTrack) → elapsed_by (a + b) s ≡ elapsed_by b (elapsed_by a s)
adds zero b s = let e : zero + b ≡ b = omega arith in ap (λ (n : ℕ). elapsed_by n s) e
adds (suc a) b s = let e : suc a + b ≡ suc (a + b) = omega arith in ap (λ (n : ℕ). elapsed_by n s) e ∙ adds a b (tick s)

pub ends_add : (a b : ℕ) (s : ProgrammingTrack) → ends_within (a + b) s ≡ ends_within a s ++ ends_within b (elapsed_by a s)
ends_add zero b s = let e : zero + b ≡ b = omega arith in ap (λ (n : ℕ). ends_within n s) e
ends_add (suc a) b s =
    let e : suc a + b ≡ suc (a + b) = omega arith in
    ap (λ (n : ℕ). ends_within n s) e
    ∙ ap (λ (rest : List PacketEnd). ends_in_tick s ++ rest) (ends_add a b (tick s))
    ∙ sym (append_assoc (ends_in_tick s) (ends_within a (tick s)) (ends_within b (elapsed_by a (tick s))))

module _ (last : TaskResult) (f : Bool) (d : Option CvState) where
  -- no task is under way
  pub stays_idle : (n e : ℕ) → elapsed_by n (at (programmer_of None last) f d e) ≡ at (programmer_of None last) f d e
  stays_idle zero e = refl
  stays_idle (suc n) e = stays_idle n e

  pub no_ends : (n e : ℕ) → ends_within n (at (programmer_of None last) f d e) ≡ []
  no_ends zero e = refl
  no_ends (suc n) e = no_ends n e

  module _ (r : TaskState) where
    abbrev pub under_way : ℕ → ProgrammingTrack
    under_way e = at (programmer_of (Some r) last) f d e

    abbrev pub next : ProgrammingTrack
    next = ended_by (under_way 0) r

    abbrev pub end : PacketEnd
    end = end_by (under_way 0) r

    -- one microsecond in which the packet continues, and one in which it ends
    continues : (e : ℕ) → e + 1 < micros_of (packet_of r) → tick (under_way e) ≡ under_way (e + 1)
    continues e h = rw (lt-leb (micros_of (packet_of r)) (e + 1) h) refl

    none_ends : (e : ℕ) → e + 1 < micros_of (packet_of r) → ends_in_tick (under_way e) ≡ []
    none_ends e h = rw (lt-leb (micros_of (packet_of r)) (e + 1) h) refl

    is_over : (e : ℕ) → micros_of (packet_of r) ≤ e + 1 → tick (under_way e) ≡ next
    is_over e h = rw (le-leb (micros_of (packet_of r)) (e + 1) h) refl

    one_ends : (e : ℕ) → micros_of (packet_of r) ≤ e + 1 → ends_in_tick (under_way e) ≡ end ∷ []
    one_ends e h = rw (le-leb (micros_of (packet_of r)) (e + 1) h) refl

    -- less than the rest of the packet
    pub within : (k e m : ℕ) → m ≡ micros_of (packet_of r) → k < max 1 (m - e) → elapsed_by k (under_way e) ≡ under_way (e + k)
    within zero e m is h = let z : e ≡ e + zero = omega arith in ap under_way z
    within (suc k) e m is h =
        let next : k < max 1 (m - (e + 1)) = omega arith in
        let more : e + 1 < m = omega arith in
        let sum : e + 1 + k ≡ e + suc k = omega arith in
        ap (elapsed_by k) (continues e (subst (λ (x : ℕ). e + 1 < x) is more)) ∙ within k (e + 1) m is next ∙ ap under_way sum

    pub ends_none : (k e m : ℕ) → m ≡ micros_of (packet_of r) → k < max 1 (m - e) → ends_within k (under_way e) ≡ []
    ends_none zero e m is h = refl
    ends_none (suc k) e m is h =
        let next : k < max 1 (m - (e + 1)) = omega arith in
        let more : e + 1 < m = omega arith in
        ap (λ (xs : List PacketEnd). xs ++ ends_within k (tick (under_way e))) (none_ends e (subst (λ (x : ℕ). e + 1 < x) is more))
        ∙ ap (ends_within k) (continues e (subst (λ (x : ℕ). e + 1 < x) is more)) ∙ ends_none k (e + 1) m is next

    -- the rest of the packet
    pub passes : (k e m : ℕ) → m ≡ micros_of (packet_of r) → suc k ≡ max 1 (m - e) → elapsed_by (suc k) (under_way e) ≡ next
    passes zero e m is h = let done : m ≤ e + 1 = omega arith in is_over e (subst (λ (x : ℕ). x ≤ e + 1) is done)
    passes (suc k) e m is h =
        let next : suc k ≡ max 1 (m - (e + 1)) = omega arith in
        let more : e + 1 < m = omega arith in
        ap (elapsed_by (suc k)) (continues e (subst (λ (x : ℕ). e + 1 < x) is more)) ∙ passes k (e + 1) m is next

    pub ends_one : (k e m : ℕ) → m ≡ micros_of (packet_of r) → suc k ≡ max 1 (m - e) → ends_within (suc k) (under_way e) ≡ end ∷ []
    ends_one zero e m is h =
        let done : m ≤ e + 1 = omega arith in
        append-nil (ends_in_tick (under_way e)) ∙ one_ends e (subst (λ (x : ℕ). x ≤ e + 1) is done)
    ends_one (suc k) e m is h =
        let next : suc k ≡ max 1 (m - (e + 1)) = omega arith in
        let more : e + 1 < m = omega arith in
        ap (λ (xs : List PacketEnd). xs ++ ends_within (suc k) (tick (under_way e))) (none_ends e (subst (λ (x : ℕ). e + 1 < x) is more))
        ∙ ap (ends_within (suc k)) (continues e (subst (λ (x : ℕ). e + 1 < x) is more)) ∙ ends_one k (e + 1) m is next

  -- a time that ends within the packet under way
  pub short_state : (u : Option TaskState) (e left rest : ℕ) (packet : ServicePacket) → Some packet ≡ next_packet u → rest ≡ max 1 (micros_of packet - e) → left < rest → elapsed_by left (at (programmer_of u last) f d e) ≡ at (programmer_of u last) f d (e + left)
  short_state None e left rest packet found is less = absurd (none_some packet (sym found))
  short_state (Some r) e left rest packet found is less =
      within r left e (micros_of packet) (ap micros_of (same_some packet (packet_of r) found)) (subst (λ (x : ℕ). left < x) is less)

  pub short_ends : (u : Option TaskState) (e left rest : ℕ) (packet : ServicePacket) → Some packet ≡ next_packet u → rest ≡ max 1 (micros_of packet - e) → left < rest → ends_within left (at (programmer_of u last) f d e) ≡ []
  short_ends None e left rest packet found is less = absurd (none_some packet (sym found))
  short_ends (Some r) e left rest packet found is less =
      ends_none r left e (micros_of packet) (ap micros_of (same_some packet (packet_of r) found)) (subst (λ (x : ℕ). left < x) is less)

  -- and one that goes past its end
  abbrev pub after : Option TaskState → ServicePacket → Load → ProgrammingTrack
  after u packet load = at (after_load u last load) f (decoder_after d packet) 0

  abbrev pub end_with : Option TaskState → ServicePacket → Load → PacketEnd
  end_with u packet load = record { packet = packet; result = result_after u load; change = change_on d packet }

  positive : (a b : ℕ) → a ≡ max 1 b → suc (a - 1) ≡ a
  positive a b is = omega arith

  whole : (r : TaskState) (packet : ServicePacket) (load : Load) → packet ≡ packet_of r → load ≡ load_of f d packet → after (Some r) packet load ≡ next r
  whole r packet load is drawn =
      ap (after (Some r) packet) drawn ∙ ap (λ (x : ServicePacket). after (Some r) x (load_of f d x)) is

  whole_end : (r : TaskState) (packet : ServicePacket) (load : Load) → packet ≡ packet_of r → load ≡ load_of f d packet → end_with (Some r) packet load ≡ end r
  whole_end r packet load is drawn =
      ap (end_with (Some r) packet) drawn ∙ ap (λ (x : ServicePacket). end_with (Some r) x (load_of f d x)) is

  pub long_state : (u : Option TaskState) (e left rest : ℕ) (packet : ServicePacket) (load : Load) → Some packet ≡ next_packet u → rest ≡ max 1 (micros_of packet - e) → rest ≤ left → load ≡ load_of f d packet → elapsed_by left (at (programmer_of u last) f d e) ≡ elapsed_by (left - rest) (after u packet load)
  long_state None e left rest packet load found is more drawn = absurd (none_some packet (sym found))
  long_state (Some r) e left rest packet load found is more drawn =
      let same : packet ≡ packet_of r = same_some packet (packet_of r) found in
      let one : suc (rest - 1) ≡ rest = positive rest (micros_of packet - e) is in
      let parts : left ≡ suc (rest - 1) + (left - rest) = omega arith in
      ap (λ (n : ℕ). elapsed_by n (under_way r e)) parts
      ∙ adds (suc (rest - 1)) (left - rest) (under_way r e)
      ∙ ap (elapsed_by (left - rest)) (passes r (rest - 1) e (micros_of packet) (ap micros_of same) (one ∙ is) ∙ sym (whole r packet load same drawn))

  pub long_ends : (u : Option TaskState) (e left rest : ℕ) (packet : ServicePacket) (load : Load) → Some packet ≡ next_packet u → rest ≡ max 1 (micros_of packet - e) → rest ≤ left → load ≡ load_of f d packet → ends_within left (at (programmer_of u last) f d e) ≡ end_with u packet load ∷ ends_within (left - rest) (after u packet load)
  long_ends None e left rest packet load found is more drawn = absurd (none_some packet (sym found))
  long_ends (Some r) e left rest packet load found is more drawn =
      let same : packet ≡ packet_of r = same_some packet (packet_of r) found in
      let one : suc (rest - 1) ≡ rest = positive rest (micros_of packet - e) is in
      let parts : left ≡ suc (rest - 1) + (left - rest) = omega arith in
      ap (λ (n : ℕ). ends_within n (under_way r e)) parts
      ∙ ends_add (suc (rest - 1)) (left - rest) (under_way r e)
      ∙ ap (λ (xs : List PacketEnd). xs ++ ends_within (left - rest) (elapsed_by (suc (rest - 1)) (under_way r e)))
      (ends_one r (rest - 1) e (micros_of packet) (ap micros_of same) (one ∙ is))
      ∙ ap (λ (x : PacketEnd). x ∷ ends_within (left - rest) (elapsed_by (suc (rest - 1)) (under_way r e))) (sym (whole_end r packet load same drawn))
      ∙ ap (λ (s : ProgrammingTrack). end_with (Some r) packet load ∷ ends_within (left - rest) s)
      (passes r (rest - 1) e (micros_of packet) (ap micros_of same) (one ∙ is) ∙ sym (whole r packet load same drawn))

-- no packet is sent only if no task is under way
pub no_packet : (u : Option TaskState) → None ≡ next_packet u → u ≡ None
no_packet None e = refl
no_packet (Some r) e = absurd (none_some (packet_of r) e)
