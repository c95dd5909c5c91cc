-- What a set of operations answers: the queues of keys over heaps, and the bytes of a reply.

use Rattle.std.specs.List.{range_with_len}
use Rattle.std.specs.Prelude.{Bool, Err, List, None, Ok, Option, Some, [], false, map, true, ℕ, ◌∷◌}
use Rattle.zq_model.specs.Image.{image_of}
use Rattle.zq_model.specs.Operation.{Operation}
use Rattle.zq_model.specs.Queue.{queue_of}
use Rattle.zq_model.specs.Rule.{Rule}
use Rattle.zq_model.specs.Moves.{Queues}
use Rattle.zq_semantics.specs.Plan.{plan_of}
use Rattle.zq_semantics.specs.Replies.{bytes_of}
use Rattle.zq_resp.specs.Reply.{line}
use Rattle.zq_words.specs.Command.{Command, Reading, Zcard, Zcount, Zrange, Zrank, Zrevrank, Zscore, command_of, name_of}
use Rattle.zq_words.specs.Refused.{refused_text}
use Rattle.zq_words.specs.Words.{Word}
use Rattle.zq_words.specs.declared.name.Name.{Name}
use Rattle.zq_words.specs.declared.name.Name.TheVariants as name
use Rattle.zq_words.specs.declared.refused.Refused.{Refused}

-- all heaps, of K
abbrev pub heaps_in : ℕ → List ℕ
heaps_in K = range_with_len 0 K

-- the queues over these heaps of a set
abbrev pub queues_over : Rule → List Operation → List ℕ → Queues
queues_over rule S heaps = λ key. queue_of rule key (map (λ h. (image_of S h).members) heaps)

abbrev pub refused_bytes : Refused → Word
refused_bytes refused = 45 ∷ line (refused_text refused)

-- what a command that is read, or a refusal, is answered over these queues
abbrev pub answer_over : Queues → Reading → Word
answer_over queues (Err refused) = refused_bytes refused
answer_over queues (Ok command) = bytes_of (plan_of command queues).reply

-- what a set answers to words
abbrev pub answer_of : Rule → ℕ → List Operation → List Word → Word
answer_of rule K S words = answer_over (queues_over rule S (heaps_in K)) (command_of words)

abbrev pub only_reads : Name → Bool
only_reads name.Zscore = true
only_reads name.Zcard = true
only_reads name.Zcount = true
only_reads name.Zrank = true
only_reads name.Zrevrank = true
only_reads name.Zrange = true
only_reads _ = false

abbrev pub reads_if : Option Name → Bool
reads_if None = false
reads_if (Some name) = only_reads name

-- whether the first word names a command that only reads
abbrev pub is_question : List Word → Bool
is_question [] = false
is_question (word ∷ words) = reads_if (name_of word)

-- whether a command only reads
abbrev pub is_reading : Command → Bool
is_reading (Zscore key member) = true
is_reading (Zcard key) = true
is_reading (Zcount key min max) = true
is_reading (Zrank key member) = true
is_reading (Zrevrank key member) = true
is_reading (Zrange key range is_turned with_scores) = true
is_reading _ = false
