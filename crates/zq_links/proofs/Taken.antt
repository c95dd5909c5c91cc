-- What was taken from the front of the bytes is a spelling.

use Rattle.std.proofs.Common.{ap, append_assoc, drop, length, List, refl, sym, take, [], ℕ, ◌++◌, ◌∙◌, ◌∷◌, ◌≡◌}
use Rattle.std.proofs.lemmas.List.{flat_map_more, length-map, map-append, take-append-drop}
use Rattle.std.proofs.lemmas.List.Elements.{All-nil, All-push}
use Rattle.std.specs.Int.{to_be_bytes, w32}
use Rattle.std.specs.List.{flat_map}
use Rattle.zq_delta.specs.Spelling.{op_spelling}
use Rattle.zq_delta.specs.Version as delta
use Rattle.zq_delta.specs.declared.version.Version.{Version}
use Rattle.zq_dots.specs.Placed.{Placed}
use Rattle.zq_links.specs.Ops.{AreEachSpelled, AreSpelled, IsOpSpelled}
use Rattle.zq_links.specs.Spelling.{HasOp, op_bytes, op_of, ops_bytes}

pub one_taken : (v : Version) (o : Placed) (bytes rest : List ℕ) (n : ℕ) → delta.HasSpelling v o → take n bytes ≡ op_spelling v o → rest ≡ drop n bytes → IsOpSpelled o bytes rest
one_taken v o bytes rest n has is left =
    ((v, o), has, refl, sym (take-append-drop n bytes) ∙ (ap (λ b. b ++ drop n bytes) is ∙ ap (λ b. op_spelling v o ++ b) (sym left)))

pub none_taken : (bytes : List ℕ) → AreEachSpelled [] bytes bytes
none_taken bytes = ([], All-nil HasOp, refl, refl)

pub more_taken : (ops : List Placed) (o : Placed) (all bytes rest : List ℕ) → AreEachSpelled ops all bytes → IsOpSpelled o bytes rest → AreEachSpelled (ops ++ o ∷ []) all rest
more_taken ops o all bytes rest before one =
    let os = before.0 in
    let s = one.0 in (
      os ++ s ∷ [],
      All-push HasOp os s before.1 one.1,
      map-append op_of os (s ∷ []) ∙ ((λ i. before.2 i ++ one.2 i ∷ [])),
      before.3 ∙ (ap (λ b. flat_map op_bytes os ++ b) one.3 ∙ (sym (append_assoc (flat_map op_bytes os) (op_bytes s) rest) ∙ ap (λ b. b ++ rest) (flat_map_more op_bytes [] os s))),
    )

pub all_taken : (ops : List Placed) (n : ℕ) (all bytes rest : List ℕ) → all ≡ to_be_bytes w32 n ++ bytes → length ops ≡ n → AreEachSpelled ops bytes rest → AreSpelled ops all rest
unfolding ops_bytes
all_taken ops n all bytes rest first count each =
    let os = each.0 in
    let size : n ≡ length os = sym count ∙ (ap length (sym each.2) ∙ length-map os op_of) in
    (os, each.1, each.2, first ∙ ((λ i. to_be_bytes w32 (size i) ++ each.3 i) ∙ sym (append_assoc (to_be_bytes w32 (length os)) (flat_map op_bytes os) rest)))
