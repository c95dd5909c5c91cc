-- What commands answer, and its bytes.

use Rattle.std.specs.Fmt.{signed_decimal}
use Rattle.std.specs.Prelude.{Bool, List, None, Option, Some, [], codes, decimal, flat_map, if◌then◌else◌, length, map, option_map, pos, ℕ, ℤ, ◌++◌, ◌∷◌}
use Rattle.zq_model.specs.Meaning.{Scored}
use Rattle.zq_model.specs.Moves.{Queue}
use Rattle.zq_resp.specs.Reply.{after_text, bulk, joined, line}
use Rattle.zq_words.specs.Words.{Word}

pub data Reply : Type 0 where
  Simple : (text : Word) → Reply
  -- with a number behind the text, where there is one
  Error : (text : Word) → (after : Option ℕ) → Reply
  Integer : (number : ℤ) → Reply
  Bulk : (bytes : Word) → Reply
  NullBulk : Reply
  -- an array that is not there
  NullArray : Reply
  -- an array of bulk strings
  Bulks : (parts : List Word) → Reply
  -- an array of numbers as texts, with the null bulk for each that is not there
  Scores : (scores : List (Option ℤ)) → Reply

-- a number as a text, and the null bulk for none
abbrev pub score_bytes : Option ℤ → Word
score_bytes None = codes "$-1\r\n"
score_bytes (Some score) = bulk (signed_decimal score)

abbrev pub bytes_of : Reply → Word
bytes_of (Simple text) = 43 ∷ line text
bytes_of (Error text after) = 45 ∷ line (text ++ after_text after)
bytes_of (Integer number) = 58 ∷ line (signed_decimal number)
bytes_of (Bulk bytes) = bulk bytes
bytes_of NullBulk = codes "$-1\r\n"
bytes_of NullArray = codes "*-1\r\n"
bytes_of (Bulks parts) = 42 ∷ line (decimal (length parts)) ++ joined (map bulk parts)
bytes_of (Scores scores) =
    42 ∷ line (decimal (length scores)) ++ joined (map score_bytes scores)

-- a score as a text
abbrev pub number_text : ℤ → Reply
number_text number = Bulk (signed_decimal number)

abbrev pub or_null : Option Reply → Reply
or_null None = NullBulk
or_null (Some reply) = reply

abbrev pub count_reply : ℕ → Reply
count_reply count = Integer (pos count)

abbrev pub score_reply : Option ℤ → Reply
score_reply score = or_null (option_map number_text score)

abbrev pub place_reply : Option ℕ → Reply
place_reply place = or_null (option_map count_reply place)

-- a member, or a member and its score
abbrev pub parts_of_pair : Bool → Scored → List Word
parts_of_pair with_scores pair = if with_scores then pair.1 ∷ signed_decimal pair.0 ∷ [] else pair.1
    ∷ []

abbrev pub pairs_reply : Bool → Queue → Reply
pairs_reply with_scores pairs = Bulks (flat_map (parts_of_pair with_scores) pairs)

abbrev pub ping_reply : Option Word → Reply
ping_reply None = Simple (codes "PONG")
ping_reply (Some message) = Bulk message
