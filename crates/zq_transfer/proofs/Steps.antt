-- The two ends of a stream keep step.

use Rattle.std.proofs.Common.{Some, ap, arith, subst, sym, ◌∙◌}
use Rattle.std.specs.Prelude.{IfSome, List, ℕ, ◌+◌, ◌-◌, ◌<◌, ◌≡◌}
use Rattle.zq_links.specs.declared.piece.Piece.{Piece}
use Rattle.zq_model.specs.Image.{image_when}
use Rattle.zq_model.specs.Rows.{rows_of}
use Rattle.zq_stage.proofs.Replaced.{with_rows-vector}
use Rattle.zq_stage.specs.Piece.{MOST_PIECES}
use Rattle.zq_transfer.specs.Laws.{KeepsOperations, KeepsPieces, Resumes, StepsBegin}
use Rattle.zq_transfer.specs.Transfer.{Follows, in_frame}
use Rattle.zq_transfer.specs.declared.sending.Sending.{Sending}

pub begins : StepsBegin
begins life portion p new made = (
  ap (λ (x : Piece). x.number) made.piece_is,
  record {
    life = ap (λ (x : Piece). x.life) made.piece_is ∙ sym (ap (λ (x : Sending). x.life) made.new_is);
    number = sym (ap (λ (x : Sending). x.number) made.new_is);
    spot = ap (λ (x : Piece). x.next) made.piece_is ∙ sym (ap (λ (x : Sending). in_frame x.spot) made.new_is);
    vector = ap (λ (x : Sending). x.vector) made.new_is ∙ sym (ap (λ (x : Piece). Some x.part.image.vector) made.piece_is);
  },
)

pub operations : KeepsOperations
operations s r o step new = record {
  life = step.life;
  number = step.number;
  spot = step.spot;
  vector = sym (ap (λ t. Some (image_when t o r.staged.held.image).vector) new);
}

-- what the other end has is the portion's vector
has_vector : (s : Sending) (v w : List ℕ) → s.vector ≡ Some v → Follows s w → v ≡ w
has_vector s v w is follows = subst (λ x. IfSome x (λ has. has ≡ w)) is follows

pub pieces : KeepsPieces
pieces s new r portion p step made one rule =
    let vector : r.staged.held.image.vector ≡ p.part.image.vector = has_vector s r.staged.held.image.vector portion.part.image.vector step.vector made.follows ∙ sym (ap (λ (x : Piece). x.part.image.vector) made.piece_is) in (
      record {
        heap = one;
        rule = rule;
        same_life = step.life ∙ sym (ap (λ (x : Piece). x.life) made.piece_is);
        is_next = step.number ∙ sym (ap (λ (x : Piece). x.number) made.piece_is);
        few = subst (λ n. n < MOST_PIECES) (sym (ap (λ (x : Piece). x.number) made.piece_is)) made.few;
        vector = vector;
      },
      record {
        life = step.life ∙ sym (ap (λ (x : Sending). x.life) made.new_is);
        number = ap (λ n. n + 1) step.number ∙ sym (ap (λ (x : Sending). x.number) made.new_is);
        spot = ap (λ (x : Piece). x.next) made.piece_is ∙ sym (ap (λ (x : Sending). in_frame x.spot) made.new_is);
        vector = ap (λ (x : Sending). x.vector) made.new_is ∙ ap (λ (x : Piece). Some x.part.image.vector) (sym made.piece_is) ∙ ap Some (sym vector) ∙ ap Some (sym (with_rows-vector (rows_of p.part.image) r.staged.held.image));
      },
    )

pub resumes : Resumes
resumes s r step some =
    let number : r.staged.next - 1 + 1 ≡ s.number = omega (arith, some, step.number) in
    λ i. record { life = step.life i; number = number i; spot = record { key = key i; member = member i }; vector = sym step.vector i }
  where
    key : r.spot.key ≡ s.spot.key
    key = ap (λ x. x.key) step.spot

    member : r.spot.member ≡ s.spot.member
    member = ap (λ x. x.member) step.spot
