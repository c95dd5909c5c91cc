-- Some sets of operations, and what a member's score is where they meet. There are two heaps, and
-- two sites, the first and the second, act on members of the key `q`.

use Rattle.std.specs.Prelude.{List, None, Option, Some, [], if◌then◌else◌, pos, slice_index, ℕ, ℤ, ◌+◌, ◌++◌, ◌==◌, ◌∷◌, ◌≡◌}
use Rattle.zq_model.specs.Image.{Image, entry_at, image_of, join}
use Rattle.zq_model.specs.Meaning.{IsLive, IsScore}
use Rattle.zq_model.specs.Operation.{Act, IsAct, Operation, Put}
use Rattle.zq_model.specs.Rule.{Rule}
use Rattle.zq_model.specs.Score.{score_of}
use Rattle.zq_model.specs.Sets.{IsClosed, IsMade, IsWorld, by_site}

abbrev pub HEAPS : ℕ
HEAPS = 2

-- the key `q`, and the members `a`, `x` and `y`
abbrev pub key_q : List ℕ
key_q = 113 ∷ []

abbrev pub member_a : List ℕ
member_a = 97 ∷ []

abbrev pub member_x : List ℕ
member_x = 120 ∷ []

abbrev pub member_y : List ℕ
member_y = 121 ∷ []

-- the numbers of the two sites
pub record Pair : Type 0 where
  pub first : ℕ
  pub second : ℕ

-- the two least site numbers, and one from the middle with the greatest
abbrev pub near : Pair
near = record { first = 0; second = 1 }

abbrev pub far : Pair
far = record { first = 7; second = 63 }

-- the vector with the first i dots of the first site and the first j of the second
abbrev pub vector_with : Pair → ℕ → ℕ → List ℕ
vector_with p i j = by_site (λ t. if t == p.first then i else if t == p.second then j else 0)

-- a site's act on a member, which lies in this heap, where the site had seen i dots of the first
-- site and j of the second
abbrev pub made : Pair → ℕ → List ℕ → ℕ → ℕ → ℕ → Act → Operation
made p heap member site i j act = record {
  heap = heap;
  site = site;
  n = slice_index (vector_with p i j) site + 1;
  seen = vector_with p i j;
  key = key_q;
  member = member;
  act = act;
}

-- the same on x, which lies in the heap 1
abbrev pub on_x : Pair → ℕ → ℕ → ℕ → Act → Operation
on_x p = made p 1 member_x

-- a site has put x at this score, and had seen nothing
abbrev pub put_by : Pair → ℕ → ℤ → List Operation
put_by p site score = on_x p site 0 0 (Put score) ∷ []

-- the first site has put x at this score, and the second has taken it
abbrev pub shared : Pair → ℤ → List Operation
shared p score = put_by p p.first score

-- what the first site, and the second, has where it then did this alone
abbrev pub at_first : Pair → Act → ℤ → List Operation
at_first p act score = on_x p p.first 1 0 act ∷ shared p score

abbrev pub at_second : Pair → Act → ℤ → List Operation
at_second p act score = on_x p p.second 1 0 act ∷ shared p score

-- what both have once they meet, which shared x and then each did this alone
abbrev pub at_both : Pair → Act → Act → ℤ → List Operation
at_both p first second score = at_first p first score ++ at_second p second score

-- what both have that have put x apart, at these scores, once they meet
abbrev pub put_apart : Pair → ℤ → ℤ → List Operation
put_apart p first second = put_by p p.first first ++ put_by p p.second second

-- the first site puts a at 1 and then y at 2, which lie in the heap 0
abbrev pub put_a : Pair → Operation
put_a p = made p 0 member_a p.first 0 0 (Put (pos 1))

abbrev pub put_y : Pair → Operation
put_y p = made p 0 member_y p.first 1 0 (Put (pos 2))

-- each operation of the examples is what its site makes over what it has
pub record AreMade (p : Pair) : Type 0 where
  pub put_first : (score : ℤ) → IsAct (Put score) → IsMade HEAPS [] (on_x p p.first 0 0 (Put score))
  pub put_second : (score : ℤ) → IsAct (Put score) →
      IsMade HEAPS [] (on_x p p.second 0 0 (Put score))
  pub first : (act : Act) (score : ℤ) → IsAct act →
      IsMade HEAPS (shared p score) (on_x p p.first 1 0 act)
  pub second : (act : Act) (score : ℤ) → IsAct act →
      IsMade HEAPS (shared p score) (on_x p p.second 1 0 act)
  pub after_apart : (act : Act) (x y : ℤ) → IsAct act →
      IsMade HEAPS (put_apart p x y) (on_x p p.first 1 1 act)
  pub after_both : (act one other : Act) (score : ℤ) → IsAct act →
      IsMade HEAPS (at_both p one other score) (on_x p p.first 2 1 act)
  pub a_first : IsMade HEAPS [] (put_a p)
  pub y_then : IsMade HEAPS (put_a p ∷ []) (put_y p)

-- the set gives the member this score, or none
abbrev pub HasScore : Rule → List Operation → List ℕ → List ℕ → Option ℤ → Type 0
HasScore rule S key member None = (p : Operation) → IsLive S key member p → ⊥
HasScore rule S key member (Some x) = IsScore rule S key member x

-- the score of a member in an image
abbrev pub image_score : Rule → Image → List ℕ → List ℕ → Option ℤ
image_score rule a key member = score_of rule (entry_at a.members (key, member))

-- a site's set is closed and of one world, and gives the member this score, and so does its image
pub record StandsAt (rule : Rule) (S : List Operation) (heap : ℕ) (key member : List ℕ)
    (score : Option ℤ) : Type 0 where
  pub world : IsWorld HEAPS S
  pub closed : IsClosed S
  pub set : HasScore rule S key member score
  pub image : image_score rule (image_of S heap) key member ≡ score

-- two sites' sets are closed and of one world, and give the member this score once they meet: in
-- either order, also where one comes again, by the sets and by the images
pub record MeetAt (rule : Rule) (S T : List Operation) (heap : ℕ) (key member : List ℕ)
    (score : Option ℤ) : Type 0 where
  pub world : IsWorld HEAPS (S ++ T)
  pub first_closed : IsClosed S
  pub second_closed : IsClosed T
  pub union : HasScore rule (S ++ T) key member score
  pub union_turned : HasScore rule (T ++ S) key member score
  pub union_again : HasScore rule (T ++ (S ++ T)) key member score
  pub joined : image_score rule (join (image_of S heap) (image_of T heap)) key member ≡ score
  pub joined_turned : image_score rule (join (image_of T heap) (image_of S heap)) key member ≡ score
  pub joined_again : image_score rule
      (join (join (image_of S heap) (image_of T heap)) (image_of T heap)) key member ≡ score
