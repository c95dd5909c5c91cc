-- The parts of a reply with one pair more.

use Rattle.std.proofs.Common.{Bool, List, [], ap, map, subst, sym, true, ℕ, ◌&&◌, ◌++◌, ◌∙◌, ◌∷◌, ◌≡◌}
use Rattle.smallvec.specs.SmallVec.{SmallVec}
use Rattle.std.specs.Fmt.{signed_decimal}
use Rattle.std.specs.Prelude.{IsTrue, codes, ℤ}
use Rattle.zq_commands.specs.Arrays.{are_writable, copied_parts}
use Rattle.zq_commands.specs.declared.first_pair.Copied.{Copied}
use Rattle.zq_resp.specs.Reply.{bulk, bytes_from_parts, is_writable, reply_bytes, writable_from_parts}
use Rattle.zq_resp.specs.declared.reply.Reply.{Bulk, NullArray, Number, Reply}
use Rattle.zq_resp.specs.declared.reply.Reply.TheFolds.{fold-roll-Reply}
use Rattle.zq_resp.specs.declared.reply.Reply.TheVariants.{rolls-Bulk, rolls-NullArray, rolls-Number}

pub bulk_bytes : (v : SmallVec ℕ) → reply_bytes (Bulk v) ≡ bulk v.items
bulk_bytes v = ap reply_bytes (sym (rolls-Bulk v)) ∙ fold-roll-Reply (List ℕ) bytes_from_parts _

pub bulk_writable : (v : SmallVec ℕ) → is_writable (Bulk v) ≡ true
bulk_writable v = ap is_writable (sym (rolls-Bulk v)) ∙ fold-roll-Reply Bool writable_from_parts _

number_bytes : (n : ℤ) → reply_bytes (Number n) ≡ bulk (signed_decimal n)
number_bytes n = ap reply_bytes (sym (rolls-Number n)) ∙ fold-roll-Reply (List ℕ) bytes_from_parts _

number_writable : (n : ℤ) → is_writable (Number n) ≡ true
number_writable n = ap is_writable (sym (rolls-Number n)) ∙ fold-roll-Reply Bool writable_from_parts _

abbrev pub with_copied : List Reply → Copied → List Reply
with_copied parts copied = (parts ++ Bulk copied.member ∷ []) ++ Number copied.score ∷ []

pub copied_bytes : (parts : List Reply) (copied : Copied) → map reply_bytes (with_copied parts copied) ≡ map reply_bytes parts ++ map bulk (copied_parts copied)
copied_bytes [] copied = ap (λ w. w ∷ reply_bytes (Number copied.score) ∷ []) (bulk_bytes copied.member) ∙ ap (λ w. bulk copied.member.items ∷ w ∷ []) (number_bytes copied.score)
copied_bytes (x ∷ parts) copied = ap (λ ws. reply_bytes x ∷ ws) (copied_bytes parts copied)

writable_same : (parts : List Reply) (copied : Copied) → are_writable (with_copied parts copied) ≡ are_writable parts
writable_same [] copied = ap (λ w. w && (is_writable (Number copied.score) && true)) (bulk_writable copied.member) ∙ ap (λ w. true && (w && true)) (number_writable copied.score)
writable_same (x ∷ parts) copied = ap (λ w. is_writable x && w) (writable_same parts copied)

pub copied_writable : (parts later : List Reply) (copied : Copied) → later ≡ with_copied parts copied → IsTrue (are_writable parts) → IsTrue (are_writable later)
copied_writable parts later copied is are = subst (λ ps. IsTrue (are_writable ps)) (sym is) (subst IsTrue (sym (writable_same parts copied)) are)

pub null_array_bytes : reply_bytes NullArray ≡ codes "*-1\r\n"
null_array_bytes = ap reply_bytes (sym rolls-NullArray) ∙ fold-roll-Reply (List ℕ) bytes_from_parts _
