use Rattle.std.proofs.Common.{◌≡◌, map, take, string_bytes}
use Rattle.server_orders.proofs.orders.copied.Given as goal

-- the texts so far
abbrev pub invariant-loop-text : goal.invariant-loop-text
invariant-loop-text l = map (λ copy. string_bytes copy) l.copies.items ≡ map (λ text. text.now) (take l.text-index l.texts)
