-- What the map's entries say of what is seen of the members.
use Rattle.std.specs.Prelude.{Bool, ◌<◌, get_or, is_some, length, position, List, None, Option, Some, [], false, map, option_map, slice_get, suc, true, zip, ℕ, ◌∷◌, ◌≡◌, cond, nat_eq}
use Rattle.std.proofs.Common.{ap, arith, refl, sym, true≢false, ◌∙◌}
use Rattle.std.proofs.lemmas.List.{length-map}
use Rattle.std.proofs.lemmas.List.Quantifiers.{position-Some}
use Rattle.std.proofs.lemmas.Option.{get_or_from_slice_get, none-some, slice_get-map}
use Rattle.zq_posheap.proofs.Lists.{is_some-map, option_map_some, there_is}
use Rattle.std.proofs.lemmas.Cmp.{nat_list_cmp_total, nat_list_eq_equiv}
use Rattle.std.proofs.lemmas.Map.Text.{is_eq-slice_cmp}
use Rattle.std.specs.Cmp.{IsEquivalence}
use Rattle.std.specs.Cmp.Lexicographic.{pointwise, same_text, slice_cmp}
use Rattle.std.specs.FinMap.{FinMap, IsAntisymmetric, from_entries, get, get-from_entries, get-insert, get-remove, insert, nat_cmp-IsAntisymmetric, remove, same_map, slice_cmp-IsAntisymmetric}
use Rattle.std.specs.FinMap.Entries.{find}
use Rattle.std.specs.Map.{KeepsOthers, keys_of, lookup, values_of}
use Rattle.std.specs.Ordering.{eq_by_cmp, nat_cmp}
use Rattle.indexmap.proofs.CallerLemmas.{updates-with_value_at}
use Rattle.indexmap.specs.IndexMap.{IndexMap, IsUnique, Updates, set_value_at, with_value_at}
use Rattle.zq_posheap.specs.Order.{same_key}

-- members are told apart by their bytes
pub bytes_antisymmetric : IsAntisymmetric (slice_cmp nat_cmp)
bytes_antisymmetric = slice_cmp-IsAntisymmetric nat_cmp-IsAntisymmetric

pub option_map-cond : {X Y : Type 0} (f : X → Y) (b : Bool) (x y : Option X) → option_map f (cond b x y) ≡ cond b (option_map f x) (option_map f y)
option_map-cond f true x y = refl
option_map-cond f false x y = refl

pub none_of : {X : Type 0} (o : Option X) → false ≡ is_some o → o ≡ None
none_of None e = refl
none_of (Some x) e = absurd (true≢false (sym e))

found_within : {X : Type 0} (p : X → Bool) (xs : List X) (i : ℕ) → Some i ≡ position p xs → i < length xs
found_within p [] i is = absurd (none-some i (sym is))
found_within p (x ∷ xs) i is = (position-Some p (x ∷ xs) i x (sym is)).0

-- whether a key has these bytes
abbrev pub has_text : List ℕ → List ℕ → Bool
has_text q key = pointwise nat_eq q key

pub same_key_laws : IsEquivalence same_key
same_key_laws = nat_list_eq_equiv

-- the entry that a search by a member's bytes found
pub found_key : {W : Type 0} (es : List (List ℕ × W)) (q : List ℕ) (i : ℕ) → Some i ≡ position (has_text q) (keys_of es) →
    (e : List ℕ × W) × (slice_get es i ≡ Some e) × (q ≡ e.0)
found_key es q i is =
    let e = there_is es i (omega (arith, found_within (has_text q) (keys_of es) i is, length-map es (λ x. x.0))) in
    let passes = (position-Some (has_text q) (keys_of es) i e.0.0 (sym is)).1 in
    let key : get_or (keys_of es) i e.0.0 ≡ e.0.0 = get_or_from_slice_get (keys_of es) i e.0.0 e.0.0 (slice_get-map (λ x. x.0) es i ∙ ap (option_map (λ x. x.0)) e.1) in
    (e.0, e.1, same_text q e.0.0 (sym passes ∙ ap (has_text q) key))

module _ {W Y : Type 0} (f : W → Y) where
  -- what `f` sees of each member
  abbrev pub seen_in : List (List ℕ × W) → FinMap (slice_cmp nat_cmp) Y
  seen_in es = from_entries (zip (keys_of es) (map f (values_of es)))

  find-seen : (es : List (List ℕ × W)) (q : List ℕ) → find (slice_cmp nat_cmp) q (zip (keys_of es) (map f (values_of es))) ≡ option_map f (lookup (has_text q) es)
  find-seen [] q = refl
  find-seen (e ∷ es) q = (λ k. cond (is_eq-slice_cmp q e.0 k) (Some (f e.1)) (find-seen es q k))
      ∙ sym (option_map-cond f (has_text q e.0) (Some e.1) (lookup (has_text q) es))

  -- what is seen of a member is seen of its entry
  pub get-seen : (es : List (List ℕ × W)) (q : List ℕ) → get (seen_in es) q ≡ option_map f (lookup (has_text q) es)
  get-seen es q = get-from_entries nat_list_cmp_total _ q ∙ find-seen es q

  module _ {S : Type 0} (m n : IndexMap (List ℕ) W S) (key : List ℕ) (w : Option W) (updates : Updates same_key m n key w) where
    updated_by : (q : List ℕ) (b : Bool) → b ≡ pointwise nat_eq q key → lookup (has_text q) n.entries ≡ cond b w (lookup (has_text q) m.entries)
    unfolding KeepsOthers
    updated_by q true e = ap (λ t. lookup (has_text t) n.entries) (same_text q key e) ∙ updates.1
    updated_by q false e = updates.3 (has_text q)
        (λ x y h. ap (λ t. pointwise nat_eq t y) (same_text q x (sym h)))
        (λ x h. ap (pointwise nat_eq q) (sym (same_text key x (sym h))) ∙ sym e)

    get_updated : (q : List ℕ) → get (seen_in n.entries) q ≡ cond (eq_by_cmp (slice_cmp nat_cmp) q key) (option_map f w) (get (seen_in m.entries) q)
    get_updated q =
        let same = is_eq-slice_cmp q key in
        get-seen n.entries q ∙ ap (option_map f) (updated_by q _ same)
        ∙ option_map-cond f (eq_by_cmp (slice_cmp nat_cmp) q key) w (lookup (has_text q) m.entries)
        ∙ ap (cond (eq_by_cmp (slice_cmp nat_cmp) q key) (option_map f w)) (sym (get-seen m.entries q))

  module _ {S : Type 0} (m n : IndexMap (List ℕ) W S) (key : List ℕ) where
    -- a key taken out of the map takes its member out of what is seen
    pub removed : Updates same_key m n key None → seen_in n.entries ≡ remove (seen_in m.entries) key
    removed updates = same_map nat_list_cmp_total bytes_antisymmetric _ _ (λ q. get_updated m n key None updates q ∙ sym (get-remove nat_list_cmp_total _ key q))

    -- a key's new value is what is seen of its member
    pub inserted : (w : W) → Updates same_key m n key (Some w) → seen_in n.entries ≡ insert (seen_in m.entries) key (f w)
    inserted w updates = same_map nat_list_cmp_total bytes_antisymmetric _ _ (λ q. get_updated m n key (Some w) updates q ∙ sym (get-insert nat_list_cmp_total _ key (f w) q))

  -- a write at an index is a write of the member there
  pub seen_at_index : {S : Type 0} (m n : IndexMap (List ℕ) W S) (i : ℕ) (key : List ℕ) (v w : W) → IsUnique same_key m →
      slice_get m.entries i ≡ Some (key, v) → n.entries ≡ set_value_at m.entries i w → seen_in n.entries ≡ insert (seen_in m.entries) key (f w)
  seen_at_index m n i key v w unique at is = ap seen_in is ∙ inserted m (with_value_at m i w) key w (updates-with_value_at m i w same_key_laws unique key v at)

  -- whether a member is seen
  pub is_seen : (es : List (List ℕ × W)) (q : List ℕ) → is_some (get (seen_in es) q) ≡ is_some (lookup (has_text q) es)
  is_seen es q = ap is_some (get-seen es q) ∙ is_some-map f (lookup (has_text q) es)

  pub no_entry : (es : List (List ℕ × W)) (q : List ℕ) → get (seen_in es) q ≡ None → lookup (has_text q) es ≡ None
  no_entry es q none = none_of (lookup (has_text q) es) (ap is_some (sym none) ∙ is_seen es q)

  pub seen_is : (es : List (List ℕ × W)) (q : List ℕ) (w : W) → Some w ≡ lookup (has_text q) es → get (seen_in es) q ≡ Some (f w)
  seen_is es q w is = get-seen es q ∙ ap (option_map f) (sym is)

-- a member that is not there is not taken out
pub remove_absent : {X : Type 0} (m : FinMap (slice_cmp nat_cmp) X) (k : List ℕ) → get m k ≡ None → m ≡ remove m k
remove_absent m k none = same_map nat_list_cmp_total bytes_antisymmetric m (remove m k)
    (λ q. by q (eq_by_cmp (slice_cmp nat_cmp) q k) refl ∙ sym (get-remove nat_list_cmp_total m k q))
  where
    by : (q : List ℕ) (b : Bool) → b ≡ eq_by_cmp (slice_cmp nat_cmp) q k → get m q ≡ cond b None (get m q)
    by q true e = ap (get m) (same_text q k (e ∙ is_eq-slice_cmp q k)) ∙ none
    by q false e = refl

-- an entry that a look-up by a member's bytes finds has an index
pub place_found : {W : Type 0} (es : List (List ℕ × W)) (q : List ℕ) (w : W) → lookup (has_text q) es ≡ Some w → (i : ℕ) × (slice_get (keys_of es) i ≡ Some q)
place_found [] q w is = absurd (none-some w is)
place_found (e ∷ es) q w is = by (has_text q e.0) refl (λ rest. place_found es q w rest)
  where
    by : (b : Bool) → b ≡ has_text q e.0 → (lookup (has_text q) es ≡ Some w → (i : ℕ) × (slice_get (keys_of es) i ≡ Some q)) → (i : ℕ) × (slice_get (keys_of (e ∷ es)) i ≡ Some q)
    by true same later = (0, ap (λ t. Some t) (sym (same_text q e.0 same)))
    by false other later =
        let rest = later (ap (λ b. cond b (Some e.1) (lookup (has_text q) es)) other ∙ is) in (suc rest.0, rest.1)

-- each member that is seen has a place
pub seen_listed : {W Y : Type 0} (f : W → Y) (es : List (List ℕ × W)) (q : List ℕ) (y : Y) → get (seen_in f es) q ≡ Some y → (i : ℕ) × (slice_get (keys_of es) i ≡ Some q)
seen_listed f es q y is =
    let w = option_map_some f (lookup (has_text q) es) y (sym (get-seen f es q) ∙ is) in place_found es q w.0 w.1
