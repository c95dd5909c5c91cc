-- The form in which a peer is answered is told by its first bytes.

use Rattle.std.proofs.Common.{ap, length, List, sym, ℕ, ◌++◌, ◌<◌, ◌≡◌, ◌∙◌, unwrap_or}
use Rattle.std.proofs.Math.ListN.{get_or-append}
use Rattle.std.proofs.lemmas.Option.{unwrap_or-slice_get}
use Rattle.std.specs.List.{slice_get}
use Rattle.std.specs.Prelude.{if◌then◌else◌, nat_le, ◌&&◌, ◌==◌}
use Rattle.zq_wire.specs.Links.{answering}
use Rattle.zq_wire.specs.declared.form.Form.TheVariants.{New, Old}
use Rattle.zq_wire.specs.declared.side.Side.{Side}

mark_stays : (heard piece : List ℕ) → 8 < length heard → unwrap_or (slice_get (heard ++ piece) 8) 0 ≡ unwrap_or (slice_get heard 8) 0
mark_stays heard piece long =
    unwrap_or-slice_get (heard ++ piece) 8 0 ∙ (get_or-append heard piece 0 8 long ∙ sym (unwrap_or-slice_get heard 8 0))

pub side_stays : (side : Side) (heard piece : List ℕ) → 8 < length heard → answering side (heard ++ piece) ≡ answering side heard
side_stays side heard piece long =
    ap (λ (mark : ℕ). record side { form = if mark == 1 && nat_le side.versions.lowest 1 then Old else New }) (mark_stays heard piece long)
