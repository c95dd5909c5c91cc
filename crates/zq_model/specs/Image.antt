-- The image of a set in one heap, and the join of two images.

use Rattle.std.specs.Cmp.Lexicographic.{slice_cmp}
use Rattle.std.specs.Ordering.{then_cmp, on, nat_cmp}
use Rattle.std.specs.List.{list_all}
use Rattle.std.specs.FinMap.{FinMap, empty, get, insert, keys, remove}
use Rattle.std.specs.Prelude.{Bool, List, None, Option, Some, [], if◌then◌else◌, is_none, map, max, slice_index, slice_index_or, slice_set, unwrap_or, ℕ, ◌++◌, ◌∷◌}
use Rattle.std.specs.declared.cmp.Ordering.{Ordering}
use Rattle.zq_model.specs.Entry.{Addition, addition_of, after_act, join_site}
use Rattle.zq_model.specs.Operation.{Act, Operation}
use Rattle.zq_model.specs.Sets.{Early, Known, New, Taken, by_site, taken_of, vector_of}

-- a key and a member, in the order of their bytes
abbrev pub Place : Type 0
Place = List ℕ × List ℕ

abbrev pub place_cmp : Place → Place → Ordering
place_cmp = then_cmp (on (λ q. q.0) (slice_cmp nat_cmp)) (on (λ q. q.1) (slice_cmp nat_cmp))

-- what a member has of each site
abbrev pub Entry : Type 0
Entry = List (Option Addition)

abbrev pub no_additions : Entry
no_additions = by_site (λ _. None)

abbrev pub is_bare : Entry → Bool
is_bare entry = list_all is_none entry

abbrev pub unless_bare : Entry → Option Entry
unless_bare entry = if is_bare entry then None else Some entry

abbrev pub insert_option : {K X : Type 0} {R : K → K → Ordering} → FinMap R X → K → Option X →
    FinMap R X
insert_option m q None = m
insert_option m q (Some x) = insert m q x

-- the map of what f gives at these keys
abbrev pub map_on : {K X : Type 0} (R : K → K → Ordering) → (K → Option X) → List K → FinMap R X
map_on R f [] = empty
map_on R f (q ∷ qs) = insert_option (map_on R f qs) q (f q)

abbrev pub Members : Type 0
Members = FinMap place_cmp Entry

pub record Image : Type 0 where
  pub vector : List ℕ
  pub members : Members

abbrev pub entry_of : List Operation → ℕ → Place → Entry
entry_of S h q = by_site (addition_of S h q.0 q.1)

abbrev pub place_of : Operation → Place
place_of o = (o.key, o.member)

-- the image of a set in a heap
abbrev pub image_of : List Operation → ℕ → Image
image_of S h = record {
  vector = vector_of S h;
  members = map_on place_cmp (λ q. unless_bare (entry_of S h q)) (map place_of S);
}

abbrev pub entry_at : Members → Place → Entry
entry_at members q = unwrap_or (get members q) no_additions

abbrev pub addition_at : Entry → ℕ → Option Addition
addition_at entry s = slice_index_or entry s None

abbrev pub join_entry : List ℕ → List ℕ → Entry → Entry → Entry
join_entry u v a b = by_site (λ s. join_site u v s (addition_at a s) (addition_at b s))

abbrev pub join_vector : List ℕ → List ℕ → List ℕ
join_vector u v = by_site (λ t. max (slice_index u t) (slice_index v t))

-- the image of no operations: nothing is seen, and no member stands
abbrev pub empty_image : Image
empty_image = record { vector = by_site (λ _. 0); members = empty }

-- the join of two images of one heap
abbrev pub join : Image → Image → Image
join a b = record {
  vector = join_vector a.vector b.vector;
  members = map_on place_cmp (λ q. unless_bare (join_entry a.vector b.vector (entry_at a.members q) (entry_at b.members q))) (keys a.members ++ keys b.members);
}

-- the members with this entry at a place
abbrev pub put_entry : Members → Place → Entry → Members
put_entry members q entry = if is_bare entry then remove members q else insert members q entry

-- what an act with the dot (t, n) makes of its member
abbrev pub entry_after : Act → ℕ → ℕ → List ℕ → Entry → Entry
entry_after act t n seen entry = by_site (λ s. after_act act t n seen s (addition_at entry s))

-- the image after a new operation of its heap
abbrev pub image_after : Operation → Image → Image
image_after o a = record {
  vector = slice_set a.vector o.site o.n;
  members = put_entry a.members (place_of o) (entry_after o.act o.site o.n o.seen (entry_at a.members (place_of o)));
}

abbrev pub image_when : Taken → Operation → Image → Image
image_when New o a = image_after o a
image_when Known o a = a
image_when Early o a = a

-- the image after an operation that is handed to it: what is known or early changes nothing
abbrev pub image_taken : Operation → Image → Image
image_taken o a = image_when (taken_of a.vector o) o a
