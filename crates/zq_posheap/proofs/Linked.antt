-- What an exchange, another near, an addition and a move of a hole keep of the links.
use Rattle.std.specs.Prelude.{List, Some, [], ◌++◌, ◌∷◌, length, slice_get, slice_set, ℕ, ℤ, ◌<◌, ◌≡◌, ◌≢◌}
use Rattle.std.proofs.Common.{refl, inl, inr, subst, sym, ap, ◌∙◌, arith}
use Rattle.std.proofs.lemmas.Bool.{cases_eq}
use Rattle.std.proofs.lemmas.List.{length-append, length-map, length-set, map-append, map-set, set-set}
use Rattle.std.proofs.lemmas.Option.{none-some, same_Some, slice_get_within}
use Rattle.zq_posheap.proofs.Inverses as inverses
use Rattle.zq_posheap.proofs.Lists.{behind, mapped_at, set_again, set_either, slice_get-append_end, slice_get-append_left, slice_get-set_other, slice_get-set_same}
use Rattle.zq_posheap.specs.Links.{IsLinked, indices}
use Rattle.zq_posheap.specs.declared.heap.Slot.{Slot}

abbrev pub slot : ℤ → ℕ → Slot
slot near index = record { near = near; index = index }

-- the index of a slot that is there
pub index_there : (slots : List Slot) (p : ℕ) (s : Slot) → slice_get slots p ≡ Some s → slice_get (indices slots) p ≡ Some s.index
index_there slots p s here = mapped_at (λ x. x.index) slots p s here

-- the indices, once another slot is written
pub indices-set : (slots : List Slot) (p : ℕ) (s : Slot) → indices (slice_set slots p s) ≡ slice_set (indices slots) p s.index
indices-set slots p s = map-set (λ x. x.index) slots p s

module _ (slots : List Slot) (positions : List ℕ) (nears : List ℤ) (linked : IsLinked slots positions nears) where
  -- a slot's member has its place for position
  pub position_there : (p : ℕ) (s : Slot) → slice_get slots p ≡ Some s → slice_get positions s.index ≡ Some p
  position_there p s here = linked.placed.there p s.index (index_there slots p s here)

  pub index_within : (p : ℕ) (s : Slot) → slice_get slots p ≡ Some s → s.index < length positions
  index_within p s here = slice_get_within positions s.index p (position_there p s here)

  -- at a member's position is a slot with its index
  pub slot_at : (i p : ℕ) → slice_get positions i ≡ Some p → (s : Slot) × (slice_get slots p ≡ Some s) × (s.index ≡ i)
  slot_at i p here = behind (λ x. x.index) slots p i (linked.placed.back i p here)

  pub place_within : (i p : ℕ) → slice_get positions i ≡ Some p → p < length slots
  place_within i p here = let s = slot_at i p here in slice_get_within slots p s.0 s.1

  -- and with its near
  pub slot_there : (i p : ℕ) (t : ℤ) → slice_get positions i ≡ Some p → slice_get nears i ≡ Some t → slice_get slots p ≡ Some (slot t i)
  slot_there i p t position near =
      let s = slot_at i p position in
      let same : s.0.near ≡ t = same_Some _ _ (sym (linked.near p s.0 s.1) ∙ ap (slice_get nears) s.2 ∙ near) in
      s.1 ∙ (λ k. Some (slot (same k) (s.2 k)))

  -- a member's two slots are one
  pub one_slot : (p q : ℕ) (x y : Slot) → slice_get slots p ≡ Some x → slice_get slots q ≡ Some y → x.index ≡ y.index → p ≡ q
  one_slot p q x y here there same =
      inverses.one_place (indices slots) positions linked.placed p q x.index (index_there slots p x here) (index_there slots q y there ∙ ap (λ i. Some i) (sym same))

  -- two slots in each other's place, and their members' positions told so
  pub swapped : (a b : ℕ) (x y : Slot) → slice_get slots a ≡ Some x → slice_get slots b ≡ Some y → a ≢ b →
      IsLinked (slice_set (slice_set slots a y) b x) (slice_set (slice_set positions x.index b) y.index a) nears
  swapped a b x y at_a at_b apart =
      let slots' = slice_set (slice_set slots a y) b x in
      let written = indices-set (slice_set slots a y) b x ∙ ap (λ xs. slice_set xs b x.index) (indices-set slots a y) in
      let b_in : b < length (slice_set slots a y) = omega (arith, slice_get_within slots b y at_b, length-set slots a y) in
      record {
        placed = rw written (inverses.swapped (indices slots) positions linked.placed a b x.index y.index (index_there slots a x at_a) (index_there slots b y at_b) apart);
        as_many = length-set _ y.index a ∙ length-set positions x.index b ∙ linked.as_many;
        near = λ p s is. elim (cases_eq p b) as (λ _. slice_get nears s.index ≡ Some s.near) [
          | inl e ↦
              let same : s ≡ x = same_Some _ _ (sym is ∙ ap (slice_get slots') e ∙ slice_get-set_same _ b x b_in) in
              rw same (linked.near a x at_a)
          | inr not_b ↦ elim (cases_eq p a) as (λ _. slice_get nears s.index ≡ Some s.near) [
            | inl e ↦
                let same : s ≡ y = same_Some _ _ (sym is ∙ ap (slice_get slots') e ∙ slice_get-set_other _ b a x apart ∙ slice_get-set_same slots a y (slice_get_within slots a x at_a)) in
                rw same (linked.near b y at_b)
            | inr not_a ↦ linked.near p s (sym (slice_get-set_other _ b p x not_b ∙ slice_get-set_other slots a p y not_a) ∙ is)
          ]
        ];
      }

  -- a member with another near, which its slot has too
  pub rescored : (i p : ℕ) (t : ℤ) → slice_get positions i ≡ Some p → IsLinked (slice_set slots p (slot t i)) positions (slice_set nears i t)
  rescored i p t here =
      let s = slot_at i p here in
      let p_in : p < length slots = slice_get_within slots p s.0 s.1 in
      let i_in : i < length nears = omega (arith, slice_get_within positions i p here, linked.as_many) in
      record {
        placed = rw (indices-set slots p (slot t i), set_again (indices slots) p i (linked.placed.back i p here)) linked.placed;
        as_many = linked.as_many ∙ sym (length-set nears i t);
        near = λ q x is. elim (cases_eq q p) as (λ _. slice_get (slice_set nears i t) x.index ≡ Some x.near) [
          | inl e ↦
              let same : x ≡ slot t i = same_Some _ _ (sym is ∙ ap (slice_get (slice_set slots p (slot t i))) e ∙ slice_get-set_same slots p _ p_in) in
              rw same (slice_get-set_same nears i t i_in)
          | inr apart ↦
              let at_q : slice_get slots q ≡ Some x = sym (slice_get-set_other slots p q _ apart) ∙ is in
              slice_get-set_other nears i x.index t (λ e. apart (one_slot q p x s.0 at_q s.1 (e ∙ sym s.2))) ∙ linked.near q x at_q
        ];
      }

  -- one more member, at the last place
  pub added : (n : ℕ) (t : ℤ) → n ≡ length slots → IsLinked (slots ++ slot t n ∷ []) (positions ++ n ∷ []) (nears ++ t ∷ [])
  added n t long =
      let many = length-map slots (λ x. x.index) in
      let nears_long : n ≡ length nears = omega (arith, long, many, linked.placed.one_length, linked.as_many) in
      record {
        placed = rw (map-append (λ (x : Slot). x.index) slots (slot t n ∷ [])) (inverses.added (indices slots) positions linked.placed n (long ∙ sym many));
        as_many = omega (arith, length-append positions (n ∷ []), length-append nears (t ∷ []), linked.as_many);
        near = λ q x is. elim (cases_eq q n) as (λ _. slice_get (nears ++ t ∷ []) x.index ≡ Some x.near) [
          | inl e ↦
              let same : x ≡ slot t n = same_Some _ _ (sym is ∙ ap (slice_get (slots ++ slot t n ∷ [])) (e ∙ long) ∙ slice_get-append_end slots (slot t n)) in
              rw same (ap (slice_get (nears ++ t ∷ [])) nears_long ∙ slice_get-append_end nears t)
          | inr apart ↦
              let q_in : q < length slots = omega (arith, slice_get_within (slots ++ slot t n ∷ []) q x is, length-append slots (slot t n ∷ []), long, apart) in
              let there = linked.near q x (sym (slice_get-append_left slots (slot t n ∷ []) q q_in) ∙ is) in
              slice_get-append_left nears (t ∷ []) x.index (slice_get_within nears x.index x.near there) ∙ there
        ];
      }

-- where a slot was taken out, another comes into its place, and the hole to that other's
pub hole_moved : (slots : List Slot) (positions : List ℕ) (nears : List ℤ) (a b : ℕ) (x y : Slot) → a < length slots → slice_get slots b ≡ Some y → a ≢ b →
    IsLinked (slice_set slots a x) (slice_set positions x.index a) nears →
    IsLinked (slice_set (slice_set slots a y) b x) (slice_set (slice_set positions y.index a) x.index b) nears
hole_moved slots positions nears a b x y within at_b apart linked =
    let at_a : slice_get (slice_set slots a x) a ≡ Some x = slice_get-set_same slots a x within in
    let at_b' : slice_get (slice_set slots a x) b ≡ Some y = slice_get-set_other slots a b x (λ e. apart (sym e)) ∙ at_b in
    let others : x.index ≢ y.index = λ e. apart (one_slot (slice_set slots a x) (slice_set positions x.index a) nears linked a b x y at_a at_b' e) in
    let moved = swapped (slice_set slots a x) (slice_set positions x.index a) nears linked a b x y at_a at_b' apart in
    let slots_are = ap (λ xs. slice_set xs b x) (set-set slots a x y) in
    let positions_are = ap (λ ys. slice_set ys y.index a) (set-set positions x.index a b) ∙ set_either positions x.index y.index b a others in
    subst (λ xs. IsLinked xs (slice_set (slice_set positions y.index a) x.index b) nears) slots_are
    (subst (λ ys. IsLinked (slice_set (slice_set (slice_set slots a x) a y) b x) ys nears) positions_are moved)

-- what stands in its place already is no hole
pub no_hole_taken : (slots : List Slot) (positions : List ℕ) (nears : List ℤ) → IsLinked slots positions nears → (p : ℕ) (x : Slot) → slice_get slots p ≡ Some x →
    IsLinked (slice_set slots p x) (slice_set positions x.index p) nears
no_hole_taken slots positions nears linked p x here =
    rw (set_again slots p x here, set_again positions x.index p (position_there slots positions nears linked p x here)) linked

pub nothing_linked : IsLinked [] [] []
nothing_linked = record { placed = inverses.nothing_stands; as_many = refl; near = λ p s is. absurd (none-some s is) }
