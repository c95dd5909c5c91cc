-- The bytes of a reply whose kind is known.
use Rattle.std.proofs.Common.{ℤ, ◌≡◌, ◌∷◌, ◌++◌, List, ℕ, Option, ap, sym, ◌∙◌, Bor}
use Rattle.std.specs.Fmt.{signed_decimal}
use Rattle.zq_resp.specs.Reply.{reply_bytes, bytes_from_parts, line, after_text}
use Rattle.zq_resp.specs.declared.reply.Reply.{Error, Integer}
use Rattle.zq_resp.specs.declared.reply.Reply.TheVariants.{rolls-Error, rolls-Integer}
use Rattle.zq_resp.specs.declared.reply.Reply.TheFolds.{fold-roll-Reply}

pub error_bytes : (text : Bor (List ℕ)) (after : Option ℕ) → reply_bytes (Error text after) ≡ 45 ∷ line (text.now ++ after_text after)
error_bytes text after = ap reply_bytes (sym (rolls-Error text after)) ∙ fold-roll-Reply (List ℕ) bytes_from_parts _

pub integer_bytes : (number : ℤ) → reply_bytes (Integer number) ≡ 58 ∷ line (signed_decimal number)
integer_bytes number = ap reply_bytes (sym (rolls-Integer number)) ∙ fold-roll-Reply (List ℕ) bytes_from_parts _
