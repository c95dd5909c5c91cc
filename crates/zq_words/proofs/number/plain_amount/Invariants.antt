use Rattle.std.proofs.Common.{◌≡◌, ◌<◌, ◌^◌, take, true}
use Rattle.std.specs.Char.{is_ascii_digit}
use Rattle.std.specs.List.{list_all}
use Rattle.zq_words.specs.Words.{number_of}
use Rattle.zq_words.proofs.number.plain_amount.Given as goal

abbrev pub invariant-loop-digit : goal.invariant-loop-digit
invariant-loop-digit l =
    (list_all is_ascii_digit (take l.digit-index l.text) ≡ true) × ((l.amount ≡ number_of (take l.digit-index l.text)) × (l.amount < 10 ^ l.digit-index))
