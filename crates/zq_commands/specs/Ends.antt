-- A copy of the pair at an end of a key.

use Rattle.std.specs.Prelude.{Bool, IsTrue, Some, map, slice_get, true, ◌∷◌, ◌≡◌}
use Rattle.zq_commands.specs.Arrays.{are_writable}
use Rattle.zq_commands.specs.Lending.{IsHomeAt, Lending, queues_in}
use Rattle.zq_commands.specs.declared.pop_leftmost.End.{End}
use Rattle.zq_model.specs.Meaning.{Scored}
use Rattle.zq_resp.specs.Reply.{bulk, reply_bytes}
use Rattle.zq_semantics.specs.Ranges.{turned_if}
use Rattle.zq_semantics.specs.Replies.{parts_of_pair}
use Rattle.zq_words.specs.Words.{Word}

-- a pair's member and the place of its book; the parts are the key, the member and its score
pub record IsCopyOf (pair : Scored) (key : Word) (lent : Lending) (end : End) : Type 0 where
  pub member : end.member.items ≡ pair.1
  pub home : IsHomeAt key end.member.items end.place lent
  pub parts : map reply_bytes end.parts.items ≡ map bulk (key ∷ parts_of_pair true pair)
  pub writable : IsTrue (are_writable end.parts.items)

-- of the first pair, or of the last one where the queue is turned
abbrev pub IsEndOf : Bool → Word → Lending → End → Type 0
IsEndOf is_turned key lent end = (pair : Scored)
    × (slice_get (turned_if is_turned (queues_in lent key)) 0 ≡ Some pair)
    × IsCopyOf pair key lent end
