-- What a log has written is read again.

use Rattle.std.proofs.Common.{List, Ok, [], ap, length, map, subst, ℕ, ◌++◌, ◌∙◌, ◌∷◌, ◌≡◌}
use Rattle.std.proofs.lemmas.List.{append-nil, map_push}
use Rattle.zq_backlog.specs.Written.{found_or_nothing, read_from, spelling}
use Rattle.zq_delta.proofs.Again.{found_again}
use Rattle.zq_delta.specs.Reading.{found_at}
use Rattle.zq_delta.specs.Spelling.{op_spelling}
use Rattle.zq_delta.specs.declared.version.Version.TheVariants.{Two}
use Rattle.zq_dots.specs.Placed.{IsRanged, Placed}

pub read_again : (o : Placed) → IsRanged o → read_from (spelling o) ≡ o
unfolding read_from spelling
read_again o sound =
    ap found_or_nothing
    (subst (λ bytes. found_at bytes ≡ Ok (o, length (op_spelling Two o))) (append-nil (op_spelling Two o)) (found_again Two o [] sound (sound.site, tt)))

-- one more text is one more operation
pub read_push : (texts : List (List ℕ)) (o : Placed) → IsRanged o → map read_from (texts ++ spelling o ∷ []) ≡ map read_from texts ++ o ∷ []
read_push texts o sound = map_push read_from texts (spelling o) ∙ ap (λ p. map read_from texts ++ p ∷ []) (read_again o sound)
