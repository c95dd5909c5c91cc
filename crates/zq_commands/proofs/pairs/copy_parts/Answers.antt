use Rattle.std.proofs.Common.{[], Bor, List, ap, arith, flat_map, get_or, length, map, pos, sym, ◌++◌, ◌<◌, ◌∙◌, ◌∷◌, ◌≡◌, ◌≤◌, ℕ, ℤ}
use Rattle.std.proofs.lemmas.Grind.{flat_map-append}
use Rattle.std.proofs.lemmas.List.{append-nil, map-append}
use Rattle.std.proofs.lemmas.Option.{slice_get-get_or, slice_get-map}
use Rattle.std.specs.Option.{option_map}
use Rattle.std.specs.Prelude.{slice_range}
use Rattle.zq_commands.proofs.Slices.{range_next}
use Rattle.zq_commands.specs.FirstPairs.{lent_pair}
use Rattle.zq_semantics.specs.Replies as plan
use Rattle.zq_resp.specs.Reply.{bulk}
use Rattle.zq_words.specs.Words.{Word}
use Rattle.zq_commands.proofs.pairs.copy_parts.Goals as goal

shown_more : {X : Type 0} (f : X → List Word) (xs : List X) (x : X) → map bulk (flat_map f xs) ++ map bulk (f x) ≡ map bulk (flat_map f (xs ++ x ∷ []))
shown_more f xs x = sym (ap (map bulk) (flat_map-append f xs (x ∷ []) ∙ ap (λ r. flat_map f xs ++ r) (append-nil (f x))) ∙ map-append bulk (flat_map f xs) (f x))

pub loop-place-preserved : goal.loop-place-preserved
loop-place-preserved c =
    let pairs = c.args.pairs.now in
    let i = c.loop-place.place in
    let f = plan.parts_of_pair c.args.with_scores in
    let within : i < length pairs = omega (arith, c.loop-place-test.true) in
    let low : c.args.from ≤ i = omega (arith, c.loop-place.auto.place) in
    let none : ℤ × Bor (List ℕ) = (pos 0, record { ref_ptr = (0, 0); now = [] }) in
    let x = lent_pair (get_or pairs i none) in
    let at = slice_get-map lent_pair pairs i ∙ ap (option_map lent_pair) (slice_get-get_or pairs i none within) in
    record {
      parts =
          c.in_ok-push_pair.ensures.parts ∙ ap (λ ws. ws ++ map bulk (f x)) c.loop-place.invariant.parts
          ∙ shown_more f (slice_range (map lent_pair pairs) c.args.from i) x
          ∙ sym (ap (λ q. map bulk (flat_map f q)) (range_next (map lent_pair pairs) c.args.from i x low at));
      writable = c.in_ok-push_pair.ensures.writable c.loop-place.invariant.writable;
    }
