-- The bytes of replies.
use Rattle.std.specs.Prelude.{◌++◌, List, ℕ, ℤ, Option, None, Some, [], ◌∷◌, length, codes, decimal, map, Bool, true, not, ◌||◌, ◌==◌}
use Rattle.std.specs.Fmt.{signed_decimal}
use Rattle.std.specs.List.{list_all, list_any}
use Rattle.zq_resp.specs.declared.reply.Reply.{Reply}
use Rattle.zq_resp.specs.declared.reply.Reply.TheOpen.{Reply-F, Simple, Error, Integer, Bulk, Number, NullBulk, NullArray, Array, Pair}
use Rattle.zq_resp.specs.declared.reply.Reply.TheFolds.{fold-Reply}

-- a text and the end of its line
abbrev pub line : List ℕ → List ℕ
line text = text ++ codes "\r\n"

-- a space and a number behind a text
abbrev pub after_text : Option ℕ → List ℕ
after_text None = []
after_text (Some number) = 32 ∷ decimal number

abbrev pub bulk : List ℕ → List ℕ
bulk bytes = 36 ∷ line (decimal (length bytes)) ++ line bytes

abbrev pub joined : List (List ℕ) → List ℕ
joined [] = []
joined (part ∷ parts) = part ++ joined parts

-- the array of a text and a number's digits
abbrev pub pair : List ℕ → ℤ → List ℕ
pair text number = 42 ∷ line (decimal 2) ++ joined (bulk text ∷ bulk (signed_decimal number) ∷ [])

-- the bytes of a reply, from those of its parts: `+`, `-`, `:`, `$` or `*` first, and `$-1` for the
-- null bulk, `*-1` for the null array
abbrev pub bytes_from_parts : Reply-F (List ℕ) → List ℕ
bytes_from_parts (Simple text) = 43 ∷ line text.now
bytes_from_parts (Error text after) = 45 ∷ line (text.now ++ after_text after)
bytes_from_parts (Integer number) = 58 ∷ line (signed_decimal number)
bytes_from_parts (Bulk bytes) = bulk bytes.items
bytes_from_parts (Number number) = bulk (signed_decimal number)
bytes_from_parts NullBulk = codes "$-1\r\n"
bytes_from_parts NullArray = codes "*-1\r\n"
bytes_from_parts (Array parts) = 42 ∷ line (decimal (length parts.items)) ++ joined parts.items
bytes_from_parts (Pair text number) = pair text.items number

abbrev pub reply_bytes : Reply → List ℕ
reply_bytes = fold-Reply (List ℕ) bytes_from_parts

abbrev pub all_bytes : List Reply → List ℕ
all_bytes replies = joined (map reply_bytes replies)

-- a text that ends no line
abbrev pub is_on_one_line : List ℕ → Bool
is_on_one_line text = not (list_any (λ byte. byte == 13 || byte == 10) text)

abbrev pub writable_from_parts : Reply-F Bool → Bool
writable_from_parts (Simple text) = is_on_one_line text.now
writable_from_parts (Error text after) = is_on_one_line text.now
writable_from_parts (Array parts) = list_all (λ part. part) parts.items
writable_from_parts _ = true

-- no text of the reply ends a line before its own end
abbrev pub is_writable : Reply → Bool
is_writable = fold-Reply Bool writable_from_parts
