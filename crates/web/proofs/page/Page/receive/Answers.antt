use Rattle.std.proofs.Common.{IfSome, List, ℕ, Ok, Option, inl, inr, refl, subst, sym}
use Rattle.tungstenite.specs.Socket.{Reads, content_of}
use Rattle.tungstenite.specs.declared.message.Message.{Message}
use Rattle.websocket.specs.Content.{text}
use Rattle.web.specs.Receiving.{IsForbidden}
use Rattle.web.proofs.Receiving.{hears-control}
use Rattle.web.proofs.page.Page.receive.Goals as goal

pub returns-then-is_control-clause-no_text : goal.returns-then-is_control-clause-no_text
returns-then-is_control-clause-no_text g c =
    let old = c.args.self.now.socket in
    let new = c.read_message.new.self.socket in
    let reads : Reads (λ s. g.S.Read.remaining s.stream) old new (Ok c.in-Some.message) =
    subst (λ (found : Option Message). IfSome found (λ message. Reads (λ s. g.S.Read.remaining s.stream) old new (Ok message))) c.in-Some.is c.in_ok-message.ensures.reads in
    hears-control (λ s. g.S.Read.remaining s.stream) old new c.in-Some.message reads (c.if-is_control.ensures.control refl)

pub returns-in-Some-text_of-clause-last : goal.returns-in-Some-text_of-clause-last
returns-in-Some-text_of-clause-last g c = λ long.
    let old = c.args.self.now.socket in
    let new = c.read_message.new.self.socket in
    let reads : Reads (λ s. g.S.Read.remaining s.stream) old new (Ok c.in-Some.message) =
    subst (λ (found : Option Message). IfSome found (λ message. Reads (λ s. g.S.Read.remaining s.stream) old new (Ok message))) c.in-Some.is c.in_ok-message.ensures.reads in
    let forbidden : IsForbidden (text c.in-Some-text_of.text) = subst (λ (line : List ℕ). IsForbidden (text line)) (c.as_bytes.ensures.value) (subst (λ (line : List ℕ). IsForbidden (text line)) c.deref.ensures (c.receive_text.ensures.short long)) in
    (new, Ok c.in-Some.message, reads, subst IsForbidden (sym c.in-Some-text_of.ensures.some) forbidden)

pub returns-in-None-clause-last : goal.returns-in-None-clause-last
returns-in-None-clause-last g c = λ _.
    let old = c.args.self.now.socket in
    let new = c.read_message.new.self.socket in
    let reads : Reads (λ s. g.S.Read.remaining s.stream) old new (Ok c.in-Some.message) =
    subst (λ (found : Option Message). IfSome found (λ message. Reads (λ s. g.S.Read.remaining s.stream) old new (Ok message))) c.in-Some.is c.in_ok-message.ensures.reads in
    let forbidden : IsForbidden (content_of c.in-Some.message) = elim (c.in-None.ensures.none refl) [
      | inl control ↦ absurd (c.if-is_control.ensures.data refl control)
      | inr is ↦ is
    ] in
    (new, Ok c.in-Some.message, reads, forbidden)
