-- How a queue is built from the members of another.
use Rattle.std.proofs.Common.{ap, arith, inl, inr, refl, subst, sym, true≢false, ◌∙◌}
use Rattle.std.proofs.lemmas.Bool.{cond-false, false_from_ne_true}
use Rattle.std.proofs.lemmas.Cmp.{nat_list_cmp_total}
use Rattle.std.proofs.lemmas.List.Folds.{list_any-append}
use Rattle.std.proofs.lemmas.Option.{none-some, same_Some}
use Rattle.std.specs.FinMap.{empty, get, get-empty, insert, keys, remove}
use Rattle.std.specs.List.{list_any}
use Rattle.std.specs.Ordering.{eq_by_cmp}
use Rattle.std.specs.Prelude.{AllPairs, Bool, List, None, Option, Some, [], cond, false, is_some, not, option_map, suc, true, unwrap_or, zero, ℕ, ◌&&◌, ◌++◌, ◌||◌, ◌∷◌, ◌≡◌, ◌≢◌}
use Rattle.zq_model.proofs.Entries.{addition_at-no_additions, unless_bare-none}
use Rattle.zq_model.proofs.Maps.{get-map_on_all, get_without, key_same, same_key}
use Rattle.zq_model.specs.Entry.{join_site}
use Rattle.zq_model.specs.Image.{Entry, addition_at, is_bare, join_entry, no_additions, unless_bare}
use Rattle.zq_model.specs.Sets.{IsIn}
use Rattle.zq_posheap.proofs.Entries.{bytes_antisymmetric}
use Rattle.zq_posheap.specs.Listing.{IsListing}
use Rattle.zq_queue.proofs.Helds.{get_inserted, get_removed, same_at_each}
use Rattle.zq_queue.proofs.Listeds.{contains_in, in_contains}
use Rattle.zq_queue.specs.Built.{AreApart, AreCompared, IsBuilt, among, of_first, only_second}
use Rattle.zq_queue.specs.Entries.{Entries, NoneIsBare, bytes_cmp, entry_in, entry_joined, joined_entries, set_entry}

or_none : (a b : Bool) → (a || b) ≡ false → (a ≡ false) × (b ≡ false)
or_none true b e = absurd (true≢false e)
or_none false b e = (refl, e)

-- ---- rows of a map

not_among : (q : List ℕ) (rows : List (Entry × List ℕ)) → ((row : Entry × List ℕ) → IsIn row rows → row.1 ≢ q) → among q rows ≡ false
not_among q [] apart = refl
not_among q (row ∷ rows) apart = (λ k. false_from_ne_true (eq_by_cmp bytes_cmp q row.1) (λ e. apart row (inl refl) (sym (same_key bytes_antisymmetric q row.1 e))) k || not_among q rows (λ r i. apart r (inr i)) k)

is_among : (q : List ℕ) (rows : List (Entry × List ℕ)) (row : Entry × List ℕ) → IsIn row rows → row.1 ≡ q → among q rows ≡ true
is_among q [] row i same = absurd i
is_among q (r ∷ rows) row (inl e) same = ap (λ b. b || among q rows) (key_same nat_list_cmp_total q r.1 (sym (ap (λ (z : Entry × List ℕ). z.1) e ∙ same)))
is_among q (r ∷ rows) row (inr i) same =
    elim (eq_by_cmp bytes_cmp q r.1) as (λ b. (b || among q rows) ≡ true) [ true ↦ refl | false ↦ is_among q rows row i same ]

are_apart : (rows : List (Entry × List ℕ)) → AllPairs (λ x y. x.1 ≢ y.1) rows → AreApart rows
are_apart [] once = tt
are_apart (row ∷ rows) once = (
  λ later i same.
      let at = in_contains later rows i in
      once zero (suc at.0) later (omega arith) (omega (arith, at.1)) (sym (ap (λ (z : Entry × List ℕ). z.1) at.2 ∙ same)),
  are_apart rows (λ i j d lo within. once (suc i) (suc j) d (omega (arith, lo)) (omega (arith, within))),
)

module _ (held : Entries) (rows : List (Entry × List ℕ)) (lists : IsListing held rows) where
  -- a member that is in no row is not held
  pub not_held : (q : List ℕ) → among q rows ≡ false → get held q ≡ None
  not_held q away = elim (get held q) as (λ o. get held q ≡ o → o ≡ None) [
    | None ↦ λ _. refl
    | Some p ↦ λ got. absurd (true≢false (sym (is_among q rows (p, q) (contains_in (p, q) rows ((lists.has (p, q)).1 got)) refl) ∙ away))
  ] refl

  -- where nothing is taken yet
  pub begins : (wanted : List ℕ → Bool) (f : List ℕ → Option Entry) (start : Entries) (left : List (Entry × List ℕ)) → left ≡ rows →
      ((q : List ℕ) → get start q ≡ cond (wanted q && among q rows) None (f q)) → IsBuilt held wanted f left start
  begins wanted f start left is has = subst (λ xs. IsBuilt held wanted f xs start) (sym is) (record {
    there = λ row i. (lists.has row).0 (in_contains row rows i);
    apart = are_apart rows lists.once;
    has = has;
  })

-- ---- one row more

pub get-set_entry : (entries : Entries) (m : List ℕ) (e : Entry) (q : List ℕ) → get (set_entry entries m e) q ≡ cond (eq_by_cmp bytes_cmp q m) (unless_bare e) (get entries q)
get-set_entry entries m e q =
    elim (is_bare e) as (λ b. get (cond b (remove entries m) (insert entries m e)) q ≡ cond (eq_by_cmp bytes_cmp q m) (cond b None (Some e)) (get entries q)) [
      | true ↦ get_removed entries m q
      | false ↦ get_inserted entries m e q
    ]

module _ (held : Entries) (wanted : List ℕ → Bool) (f : List ℕ → Option Entry) (left rest : List (Entry × List ℕ)) (row : Entry × List ℕ) (next : left ≡ row ∷ rest) (built : Entries)
    (is : IsBuilt held wanted f left built) where
  now : IsBuilt held wanted f (row ∷ rest) built
  now = subst (λ xs. IsBuilt held wanted f xs built) next is

  pub row_there : get held row.1 ≡ Some row.0
  row_there = now.there row (inl refl)

  its_turn : among row.1 (row ∷ rest) ≡ true
  its_turn = ap (λ b. b || among row.1 rest) (key_same nat_list_cmp_total row.1 row.1 refl)

  gone : among row.1 rest ≡ false
  gone = not_among row.1 rest now.apart.0

  -- a member that is wanted is not there yet
  pub not_yet : wanted row.1 ≡ true → get built row.1 ≡ None
  not_yet is_wanted = now.has row.1 ∙ (λ k. cond (is_wanted k && its_turn k) None (f row.1))

  and_false : (b : Bool) → (b && false) ≡ false
  and_false true = refl
  and_false false = refl

  -- it comes with what f gives
  pub one_more : (e : Entry) → wanted row.1 ≡ true → unless_bare e ≡ f row.1 → (new : Entries) → new ≡ set_entry built row.1 e → IsBuilt held wanted f rest new
  one_more e is_wanted gives new added = record {
    there = λ r i. now.there r (inr i);
    apart = now.apart.1;
    has = λ q. ap (λ m. get m q) added ∙ get-set_entry built row.1 e q ∙ by q;
  }
    where
      by : (q : List ℕ) → cond (eq_by_cmp bytes_cmp q row.1) (unless_bare e) (get built q) ≡ cond (wanted q && among q rest) None (f q)
      by q = elim (eq_by_cmp bytes_cmp q row.1) as (λ b. eq_by_cmp bytes_cmp q row.1 ≡ b → cond b (unless_bare e) (get built q) ≡ cond (wanted q && among q rest) None (f q)) [
        | true ↦ λ t.
            let same = same_key bytes_antisymmetric q row.1 t in
            gives ∙ ap f (sym same) ∙ sym ((λ k. cond (wanted q && (ap (λ z. among z rest) same ∙ gone) k) None (f q)) ∙ ap (λ b. cond b None (f q)) (and_false (wanted q)))
        | false ↦ λ t. now.has q ∙ (λ k. cond (wanted q && (t k || among q rest)) None (f q))
      ] refl

  -- one that is not wanted is passed over
  pub passed_over : wanted row.1 ≡ false → IsBuilt held wanted f rest built
  passed_over unwanted = record {
    there = λ r i. now.there r (inr i);
    apart = now.apart.1;
    has = λ q. now.has q ∙ by q;
  }
    where
      by : (q : List ℕ) → cond (wanted q && among q (row ∷ rest)) None (f q) ≡ cond (wanted q && among q rest) None (f q)
      by q = elim (eq_by_cmp bytes_cmp q row.1) as (λ b. eq_by_cmp bytes_cmp q row.1 ≡ b → cond (wanted q && (b || among q rest)) None (f q) ≡ cond (wanted q && among q rest) None (f q)) [
        | true ↦ λ t.
            let none : wanted q ≡ false = ap wanted (same_key bytes_antisymmetric q row.1 t) ∙ unwanted in
            (λ k. cond (none k && true) None (f q)) ∙ sym (λ k. cond (none k && among q rest) None (f q))
        | false ↦ λ t. refl
      ] refl

-- ---- the end

pub all_built : (held : Entries) (wanted : List ℕ → Bool) (f : List ℕ → Option Entry) (left : List (Entry × List ℕ)) (built : Entries) → left ≡ [] → IsBuilt held wanted f left built → (q : List ℕ) → get built q ≡ f q
all_built held wanted f left built none is q = is.has q ∙ (λ k. cond (wanted q && among q (none k)) None (f q)) ∙ by (wanted q)
  where
    by : (b : Bool) → cond (b && false) None (f q) ≡ f q
    by true = refl
    by false = refl

-- ---- what is built

abbrev pub each : List ℕ → Bool
each q = true

-- a copy
pub copy_begins : (held : Entries) (rows : List (Entry × List ℕ)) → IsListing held rows → (start : Entries) → start ≡ empty → (left : List (Entry × List ℕ)) → left ≡ rows →
    IsBuilt held each (get held) left start
copy_begins held rows lists start none left is = begins held rows lists each (get held) start left is (λ q.
    ap (λ m. get m q) none ∙ get-empty bytes_cmp q
    ∙ (elim (among q rows) as (λ b. among q rows ≡ b → None ≡ cond b None (get held q)) [
      | true ↦ λ _. refl
      | false ↦ λ away. sym (not_held held rows lists q away)
    ] refl))

pub copied_row : (held : Entries) (row : Entry × List ℕ) → NoneIsBare held → get held row.1 ≡ Some row.0 → (e : Entry) → e ≡ row.0 → unless_bare e ≡ get held row.1
copied_row held row some there e is =
    cond-false (is_bare e) None (Some e) (ap is_bare is ∙ some row.1 row.0 there) ∙ ap (λ x. Some x) is ∙ sym there

-- the joins at each member of the first side
pub first_begins : (held : Entries) (u v : List ℕ) (other : Entries) (rows : List (Entry × List ℕ)) → IsListing held rows → (start : Entries) → start ≡ empty → (left : List (Entry × List ℕ)) → left ≡ rows →
    IsBuilt held each (of_first held u v other) left start
first_begins held u v other rows lists start none left is = begins held rows lists each (of_first held u v other) start left is (λ q.
    ap (λ m. get m q) none ∙ get-empty bytes_cmp q
    ∙ (elim (among q rows) as (λ b. among q rows ≡ b → None ≡ cond b None (of_first held u v other q)) [
      | true ↦ λ _. refl
      | false ↦ λ away. sym (ap (λ o. cond (is_some o) (entry_joined u v held other q) None) (not_held held rows lists q away))
    ] refl))

pub first_row : (held : Entries) (u v : List ℕ) (other : Entries) (row : Entry × List ℕ) → get held row.1 ≡ Some row.0 → (e : Entry) → e ≡ join_entry u v row.0 (entry_in other row.1) →
    unless_bare e ≡ of_first held u v other row.1
first_row held u v other row there e is =
    let got = there in
    ap unless_bare (is ∙ ap (λ x. join_entry u v x (entry_in other row.1)) (sym (ap (λ o. unwrap_or o no_additions) got)))
    ∙ sym (ap (λ o. cond (is_some o) (entry_joined u v held other row.1) None) got)

-- nothing comes of nothing
pub nothing_joined : (u v : List ℕ) (a b : Entries) (q : List ℕ) → get a q ≡ None → get b q ≡ None → entry_joined u v a b q ≡ None
nothing_joined u v a b q none none' =
    (λ k. unless_bare (join_entry u v (unwrap_or (none k) no_additions) (unwrap_or (none' k) no_additions)))
    ∙ unless_bare-none (λ s. join_site u v s (addition_at no_additions s) (addition_at no_additions s)) (λ s _. (λ k. join_site u v s (addition_at-no_additions s k) (addition_at-no_additions s k)))

-- what a look-up that found nothing, or something, says
pub found_nothing : {X Y : Type 0} (f : X → Y) (o : Option X) → is_some o ≡ false → option_map f o ≡ None
found_nothing f None none = refl
found_nothing f (Some x) none = absurd (true≢false none)

pub found_some : {X Y : Type 0} (f : X → Y) (o : Option X) → is_some o ≡ true → is_some (option_map f o) ≡ true
found_some f None some = absurd (true≢false (sym some))
found_some f (Some x) some = refl

-- the joins at the members of the second side that the first has not
pub second_begins : (held : Entries) (u v : List ℕ) (first : Entries) (rows : List (Entry × List ℕ)) → IsListing held rows → (start : Entries) →
    ((q : List ℕ) → get start q ≡ cond (is_some (get first q)) (entry_joined u v first held q) None) → (left : List (Entry × List ℕ)) → left ≡ rows →
    IsBuilt held (only_second first) (entry_joined u v first held) left start
second_begins held u v first rows lists start has left is = begins held rows lists (only_second first) (entry_joined u v first held) start left is (λ q. has q ∙ by q)
  where
    by : (q : List ℕ) → cond (is_some (get first q)) (entry_joined u v first held q) None ≡ cond (not (is_some (get first q)) && among q rows) None (entry_joined u v first held q)
    by q = elim (get first q) as (λ o. get first q ≡ o → cond (is_some o) (entry_joined u v first held q) None ≡ cond (not (is_some o) && among q rows) None (entry_joined u v first held q)) [
      | Some e ↦ λ _. refl
      | None ↦ λ none. elim (among q rows) as (λ b. among q rows ≡ b → None ≡ cond b None (entry_joined u v first held q)) [
        | true ↦ λ _. refl
        | false ↦ λ away. sym (nothing_joined u v first held q none (not_held held rows lists q away))
      ] refl
    ] refl

pub second_row : (held : Entries) (u v : List ℕ) (first : Entries) (row : Entry × List ℕ) → get held row.1 ≡ Some row.0 → get first row.1 ≡ None → (e : Entry) → e ≡ join_entry u v no_additions row.0 →
    unless_bare e ≡ entry_joined u v first held row.1
second_row held u v first row there none e is =
    ap unless_bare (is ∙ (λ k. join_entry u v (unwrap_or (sym none k) no_additions) (unwrap_or (sym there k) no_additions)))

-- a key of neither list is not in the one, nor in the other
away_first : (p : List ℕ → Bool) (xs ys : List (List ℕ)) → list_any p (xs ++ ys) ≡ false → list_any p xs ≡ false
away_first p xs ys away = (or_none (list_any p xs) (list_any p ys) (sym (list_any-append p xs ys) ∙ away)).0

away_second : (p : List ℕ → Bool) (xs ys : List (List ℕ)) → list_any p (xs ++ ys) ≡ false → list_any p ys ≡ false
away_second p xs ys away = (or_none (list_any p xs) (list_any p ys) (sym (list_any-append p xs ys) ∙ away)).1

pub get-joined_entries : (u v : List ℕ) (a b : Entries) (q : List ℕ) → get (joined_entries u v a b) q ≡ entry_joined u v a b q
get-joined_entries u v a b q = get-map_on_all nat_list_cmp_total bytes_antisymmetric (entry_joined u v a b) (keys a ++ keys b) q (λ away.
    nothing_joined u v a b q (get_without nat_list_cmp_total bytes_antisymmetric a q (away_first (eq_by_cmp bytes_cmp q) (keys a) (keys b) away))
    (get_without nat_list_cmp_total bytes_antisymmetric b q (away_second (eq_by_cmp bytes_cmp q) (keys a) (keys b) away)))

-- a map that has the join at each member is the join
pub is_joined : (u v : List ℕ) (a b new : Entries) → ((q : List ℕ) → get new q ≡ entry_joined u v a b q) → new ≡ joined_entries u v a b
is_joined u v a b new has = same_at_each new (joined_entries u v a b) (λ q. has q ∙ sym (get-joined_entries u v a b q))

-- ---- comparing

pub compare_begins : (held : Entries) (rows left : List (Entry × List ℕ)) (entries : Entries) → IsListing held rows → left ≡ rows → AreCompared held left entries
compare_begins held rows left entries lists is = subst (λ xs. AreCompared held xs entries) (sym is) (record {
  there = λ row i. (lists.has row).0 (in_contains row rows i);
  same = λ q p got away. absurd (none-some p (sym (not_held held rows lists q away) ∙ got));
})

module _ (held : Entries) (left rest : List (Entry × List ℕ)) (row : Entry × List ℕ) (next : left ≡ row ∷ rest) (entries : Entries) (is : AreCompared held left entries) where
  next_held : get held row.1 ≡ Some row.0
  next_held = is.there row (subst (IsIn row) (sym next) (inl refl))

  -- one more that is the same
  pub one_same : get entries row.1 ≡ Some row.0 → AreCompared held rest entries
  one_same stands = record {
    there = λ r i. is.there r (subst (IsIn r) (sym next) (inr i));
    same = λ q p got away.
        elim (eq_by_cmp bytes_cmp q row.1) as (λ b. eq_by_cmp bytes_cmp q row.1 ≡ b → get entries q ≡ Some p) [
          | true ↦ λ t.
              let same = same_key bytes_antisymmetric q row.1 t in
              let its : row.0 ≡ p = same_Some row.0 p (sym next_held ∙ ap (get held) (sym same) ∙ got) in
              ap (get entries) same ∙ stands ∙ ap (λ (e : Entry). Some e) its
          | false ↦ λ t. is.same q p got (ap (among q) next ∙ (λ k. t k || among q rest) ∙ away)
        ] refl;
  }

  -- one that is not the same
  pub not_same : (get entries row.1 ≡ Some row.0 → ⊥) → ((q : List ℕ) (e : Entry) → get held q ≡ Some e → get entries q ≡ Some e) → ⊥
  not_same other all = other (all row.1 row.0 next_held)

pub all_same : (held : Entries) (left : List (Entry × List ℕ)) (entries : Entries) → left ≡ [] → AreCompared held left entries → (q : List ℕ) (e : Entry) → get held q ≡ Some e → get entries q ≡ Some e
all_same held left entries none is q p got = is.same q p got (ap (among q) none)
