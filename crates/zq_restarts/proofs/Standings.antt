-- What is so of sites that stand.

use Rattle.std.proofs.Common.{arith, subst, sym, ◌∙◌}
use Rattle.std.specs.Prelude.{List, [], map, ℕ, ◌<◌, ◌∷◌, ◌≡◌, ◌≤◌}
use Rattle.zq_model.proofs.Dots.{last_above}
use Rattle.zq_model.proofs.Made.{made_new}
use Rattle.zq_model.proofs.Same.{image_of-same}
use Rattle.zq_model.proofs.Worlds.{world_part}
use Rattle.zq_model.specs.Books.{Book}
use Rattle.zq_model.specs.Limits.{TailLimits}
use Rattle.zq_model.specs.Operation.{Operation}
use Rattle.zq_model.specs.Queue.{queue_of}
use Rattle.zq_model.specs.Rule.{Rule}
use Rattle.zq_model.specs.Sets.{AreSame, IsIn, IsNew, IsWorld, last}
use Rattle.zq_notes.proofs.Histories.{opens}
use Rattle.zq_notes.specs.Gathered.{AreImagesOf}
use Rattle.zq_notes.specs.Linked.{HoldSame}
use Rattle.zq_notes.specs.Notes.{Books}
use Rattle.zq_recovery.specs.Laws.{GoesOn}
use Rattle.zq_restarts.specs.Runs.{State, new_sites}
use Rattle.zq_restarts.specs.Standing.{IsStanding, MakesNew}
use Rattle.zq_semantics.specs.Reading.{heaps_in}

pub new_stand : (limits : ℕ → TailLimits) (rule : Rule) (K : ℕ) → IsStanding rule K (new_sites limits rule K)
new_stand limits rule K = record {
  world = record { each = λ o none. absurd none; one = λ o p none. absurd none };
  images = λ s. opens (limits s) rule K [];
  own = λ o none. absurd none;
}

pub images_wider : (rule : Rule) (K : ℕ) (W X S : List Operation) (books : Books) → ((o : Operation) → IsIn o W → IsIn o X) → AreImagesOf rule K W S books → AreImagesOf rule K X S books
images_wider rule K W X S books more is = record { within = λ o i. more o (is.within o i); closed = is.closed; each = is.each }

-- books of the same images have the same members
members_same : (f g : Books) → ((h : ℕ) → (f h).state ≡ (g h).state) → (heaps : List ℕ) → map (λ (b : Book). b.state.members) (map f heaps) ≡ map (λ (b : Book). b.state.members) (map g heaps)
members_same f g same [] = λ i. []
members_same f g same (h ∷ heaps) = let first = same h in let rest = members_same f g same heaps in λ i. (first i).members ∷ rest i

pub hold_same : (rule : Rule) (K : ℕ) (W X S T : List Operation) (f g : Books) → IsWorld K W → AreImagesOf rule K W S f → AreImagesOf rule K X T g → AreSame S T → HoldSame rule K f g
hold_same rule K W X S T f g world one other same =
    let states : (h : ℕ) → (f h).state ≡ (g h).state =
    (λ h. (one.each h).state ∙ image_of-same K S T h same (world_part K S W one.within world) ∙ sym (other.each h).state) in
    record { images = states; queues = λ i key. queue_of rule key (members_same f g states (heaps_in K) i) }

module _ (rule : Rule) (K : ℕ) (now : State) (stands : IsStanding rule K now) where
  pub goes_on : (s : ℕ) → GoesOn K s now.left (now.has s)
  goes_on s = record {
    world = stands.world;
    within = (stands.images s).within;
    closed = (stands.images s).closed;
    own = λ o i at. subst (λ t. IsIn o (now.has t)) at (stands.own o i);
  }

  pub makes_new : MakesNew rule K now
  makes_new o made p i heaps sites counters =
      let S : List Operation = now.has o.site in
      let new : IsNew S o = made_new K S o (world_part K S now.left (stands.images o.site).within stands.world) made in
      let here : IsIn p S = subst (λ t. IsIn p (now.has t)) sites (stands.own p i) in
      let below : p.n ≤ last S o.heap o.site = last_above S o.heap o.site p here heaps sites in
      let fresh : last S o.heap o.site < o.n = new.fresh in
      absurd (omega (arith, below, fresh, counters))
