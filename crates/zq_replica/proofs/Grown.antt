-- A heap that takes what a site gives, until it takes the site's place.

use Rattle.std.proofs.Common.{List, [], ap, inl, inr, refl, subst, suc, sym, take, zero, ℕ, ⊎_elim, ◌+◌, ◌++◌, ◌<◌, ◌∷◌, ◌∙◌, ◌≡◌}
use Rattle.std.proofs.lemmas.List.{take_more}
use Rattle.std.specs.Prelude.{Vec, length, slice_index_or}
use Rattle.std.specs.declared.alloc.Global.{Global}
use Rattle.zq_dots.specs.Placed.{Placed}
use Rattle.zq_journal.specs.declared.since.Since.{Since}
use Rattle.zq_journal.specs.declared.since.Since.TheVariants.{Ops}
use Rattle.zq_model.proofs.Membership.{in_right, in_taken}
use Rattle.zq_model.specs.Sets.{IsIn}
use Rattle.zq_node.specs.Node.{IsSameHome}
use Rattle.zq_node.specs.declared.node.Node.{Node}
use Rattle.zq_replica.proofs.Asked.{not_asked}
use Rattle.zq_replica.specs.Gathered.{HasTakenOf, IsIdle, IsInAnswer, IsStopped, grown}
use Rattle.zq_replica.specs.Nodes.{Shows}
use Rattle.zq_shard.specs.Shard.{HeapImage}

-- the operation at a place is one of the list
pub item_in : (ops : List Placed) (i : ℕ) (o : Placed) → i < length ops →
    o ≡ slice_index_or ops i o → IsIn o ops
item_in ops i o less is =
    in_taken o (i + 1) ops (subst (IsIn o) (sym (take_more ops i o less)) (in_right o (take i ops) (slice_index_or ops i o ∷ []) (inl (sym is))))

-- one more is taken
pub grown_on : (ops some : List Placed) (o : Placed) (first mid last : HeapImage) →
    ((p : Placed) → IsIn p some → IsIn p ops) → IsIn o ops → mid ≡ grown some first →
    last ≡ grown (o ∷ []) mid →
    (more : List Placed) × ((p : Placed) → IsIn p more → IsIn p ops) × (last ≡ grown more first)
grown_on ops some o first mid last each there was now = (
  o ∷ some,
  λ p among. ⊎_elim (λ same. subst (λ q. IsIn q ops) same there) (each p) among,
  now ∙ ap (grown (o ∷ [])) was,
)

-- what is taken of an answer's operations is taken of the answer
pub of_answer : (answer : Since) (ops : Vec Placed Global) (xs : List Placed) (s t : HeapImage) →
    answer ≡ Ops ops → xs ≡ ops.items →
    (some : List Placed) × ((o : Placed) → IsIn o some → IsIn o xs) × (t ≡ grown some s) →
    HasTakenOf answer s t
of_answer answer ops xs s t is same w =
    (w.0, (λ o among. subst (λ x. IsInAnswer x o) (sym is) (subst (IsIn o) same (w.1 o among))), w.2)

-- nothing was done
pub not_done : (a : Node) → IsIdle a a
not_done a = record { home = refl; parked = refl; no_step = λ h. refl }

pub stopped_after : (a b : Node) → Shows a b → IsStopped a b
stopped_after a b shows = (b, shows, not_done b)
