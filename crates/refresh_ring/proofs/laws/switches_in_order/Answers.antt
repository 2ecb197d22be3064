use Rattle.refresh_ring.proofs.Requests.{picked-kept, changed-kept, switch-asked, switch-refused, turn_less, done, turns_for-most, changed-appends, switch-appends}
use Rattle.refresh_ring.proofs.laws.switches_in_order.Goals as goal

pub returns : goal.returns
returns c = search (picked-kept, changed-kept, switch-asked, switch-refused, turn_less, done, turns_for-most, changed-appends, switch-appends)
