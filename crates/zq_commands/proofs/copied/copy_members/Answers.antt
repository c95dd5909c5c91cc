use Rattle.std.proofs.Common.{[], Bor, List, arith, ap, get_or, length, map, pos, sym, ◌++◌, ◌∙◌, ◌∷◌, ◌<◌, ◌≤◌, ℕ, ℤ}
use Rattle.std.proofs.lemmas.List.{map-append}
use Rattle.std.proofs.lemmas.Option.{slice_get-get_or, slice_get-map}
use Rattle.std.specs.Option.{option_map}
use Rattle.std.specs.Prelude.{slice_range}
use Rattle.zq_commands.proofs.Slices.{range_next}
use Rattle.zq_commands.specs.FirstPairs.{lent_pair}
use Rattle.zq_model.specs.Meaning.{Scored}
use Rattle.zq_semantics.specs.Procedures.{members_of}
use Rattle.zq_commands.proofs.copied.copy_members.Goals as goal

pub loop-place-preserved : goal.loop-place-preserved
loop-place-preserved c =
    let pairs = c.args.pairs.now in
    let i = c.loop-place.place in
    let within : i < length pairs = omega (arith, c.loop-place-test.true) in
    let low : c.args.from ≤ i = omega (arith, c.loop-place.auto.place) in
    let none : ℤ × Bor (List ℕ) = (pos 0, record { ref_ptr = (0, 0); now = [] }) in
    let x = lent_pair (get_or pairs i none) in
    let at = slice_get-map lent_pair pairs i ∙ ap (option_map lent_pair) (slice_get-get_or pairs i none within) in
    record {
      members =
          c.in_ok-push_member.ensures.members ∙ ap (λ ws. ws ++ x.1 ∷ []) c.loop-place.invariant.members
          ∙ sym (ap members_of (range_next (map lent_pair pairs) c.args.from i x low at) ∙ map-append (λ (p : Scored). p.1) (slice_range (map lent_pair pairs) c.args.from i) (x ∷ []));
    }
