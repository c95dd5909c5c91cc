-- The scores of several members as a reply.

use Rattle.std.proofs.Common.{List, None, Option, Some, ap, map, refl, ℤ, ◌++◌, ◌∷◌, ◌≡◌}
use Rattle.std.proofs.lemmas.List.{length-map}
use Rattle.std.specs.Prelude.{decimal}
use Rattle.zq_commands.specs.Arrays.{array_bytes}
use Rattle.zq_resp.specs.Reply.{joined, line}
use Rattle.zq_semantics.specs.Replies.{Scores, bytes_of, score_bytes, score_reply}

pub score_shown : (score : Option ℤ) → bytes_of (score_reply score) ≡ score_bytes score
score_shown None = refl
score_shown (Some score) = refl

pub scores_bytes : (scores : List (Option ℤ)) → array_bytes (map score_bytes scores) ≡ bytes_of (Scores scores)
scores_bytes scores = ap (λ n. 42 ∷ line (decimal n) ++ joined (map score_bytes scores)) (length-map scores score_bytes)
