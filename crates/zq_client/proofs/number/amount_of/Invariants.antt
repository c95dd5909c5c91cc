use Rattle.std.proofs.Common.{◌≡◌, ◌-◌, ◌^◌, min, take}
use Rattle.zq_words.specs.Words.{number_of}
use Rattle.zq_client.proofs.number.amount_of.Given as goal

abbrev pub invariant-loop-digit : goal.invariant-loop-digit
invariant-loop-digit l = l.amount ≡ min (number_of (take l.digit-index l.digits)) (2 ^ 64 - 1)
