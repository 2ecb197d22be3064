use Rattle.ln_frame.specs.Message.{IsWhole}
use Rattle.ln_frame.proofs.Checks.{check-of_whole}
use Rattle.ln_frame.proofs.Forms.{data-of_whole, length-said}
use Rattle.ln_frame.proofs.msg.Msg.bytes.Goals as goal

whole : (c : goal.After-as_slice) → IsWhole c.as_slice.result.now
whole c = rw c.as_slice.ensures.value c.self.invariant

pub returns-clause-length : goal.returns-clause-length
returns-clause-length c = length-said c.as_slice.result.now (whole c)

pub returns-clause-data : goal.returns-clause-data
returns-clause-data c = data-of_whole c.as_slice.result.now (whole c)

pub returns-clause-check : goal.returns-clause-check
returns-clause-check c = λ body last e. check-of_whole body last (rw (← e) (whole c))
