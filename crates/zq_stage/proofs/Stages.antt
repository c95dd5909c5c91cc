-- What comes to a stage leaves one.

use Rattle.std.proofs.Common.{Bool, List, None, Option, Some, [], ap, arith, cond, false, get_or, inl, inr, is_some, length, refl, subst, sym, true, unwrap_or, ℕ, ◌++◌, ◌<◌, ◌||◌, ◌∙◌, ◌∷◌, ◌≡◌, ◌≤◌}
use Rattle.std.proofs.lemmas.Bool.{cond-false, cond-true, cond_both}
use Rattle.std.specs.FinMap.{get}
use Rattle.std.specs.Ordering.{eq_by_cmp}
use Rattle.zq_model.proofs.CatchingUp.{peer_catches_up}
use Rattle.zq_model.proofs.Dots.{has_from, has_not_from, has_parts}
use Rattle.zq_model.proofs.Entries.{entry_at-get, entry_at-image_of, entry_unless_bare, get-image_of, get-put_entry, image_from, set_entries, unless_bare-none, unless_bare_some}
use Rattle.zq_model.proofs.Maps.{key_same, place_exact, place_total, same_key}
use Rattle.zq_model.proofs.NewOperation.{closed_after, new_has_seen}
use Rattle.zq_model.proofs.Same.{image_of-same}
use Rattle.zq_model.proofs.Sites.{by_site-at, by_site_from, length-by_site}
use Rattle.zq_model.proofs.SoundImages.{image_sound}
use Rattle.zq_model.proofs.StepImages.{image_of-step}
use Rattle.zq_model.proofs.Taken.{covers_at, covers_from, known_here, taking_new}
use Rattle.zq_model.proofs.Worlds.{last_within, union_turned, vector_is, world_swapped}
use Rattle.zq_model.specs.Entry.{Addition, without}
use Rattle.zq_model.specs.Image.{Entry, Image, Place, addition_at, entry_after, entry_at, entry_of, image_after, image_of, no_additions, place_cmp, place_of, unless_bare}
use Rattle.zq_model.specs.Joining.{HasAddition, IsKnown}
use Rattle.zq_model.specs.Operation.{Operation, has}
use Rattle.zq_model.specs.Rows.{AreEntries, Row, entry_with, place_in, rows_of}
use Rattle.zq_model.specs.Sets.{AreSame, IsClosed, IsIn, IsNew, IsVector, IsWorld, New, SITES, covers, last, taken_of, vector_of}
use Rattle.zq_shard.specs.Shard.{HeapImage, HoldsImage, IsSameHeap, with_entry}
use Rattle.zq_stage.proofs.Newer.{newer_entry}
use Rattle.zq_stage.proofs.RowsOf.{has_in_rows, has_row_moved, row_got}
use Rattle.zq_stage.specs.Rows.{has_row, newer_than, with_image, with_rows}
use Rattle.zq_stage.specs.Staged.{AreAllBrought, IsPieceOf, IsStaged}

-- what a stage has of a member's entry
abbrev pub shown : Bool → List ℕ → Entry → Entry
shown came v e = cond came e (newer_than v e)

shown_wide : (b : Bool) (v : List ℕ) (e : Entry) → length e ≡ SITES → length (shown b v e) ≡ SITES
shown_wide true v e wide = wide
shown_wide false v e wide = length-by_site _

-- at each member
abbrev ShowsAll : List ℕ → List Row → List Operation → HeapImage → Type 0
ShowsAll v rows S s = (q : Place) → get s.image.members q ≡ unless_bare (shown (has_row rows q) v (entry_of S s.heap q))

shows : (v : List ℕ) (rows : List Row) (S : List Operation) (s : HeapImage) → IsStaged v rows S s → ShowsAll v rows S s
shows v rows S s is q =
    elim (has_row rows q) as (λ b. has_row rows q ≡ b → get s.image.members q ≡ unless_bare (shown b v (entry_of S s.heap q))) [
      | true ↦ λ came. is.brought q came
      | false ↦ λ not. is.others q not
    ] refl

staged_from : (v : List ℕ) (rows : List Row) (S : List Operation) (s : HeapImage) → IsWorld s.heaps S → IsClosed S → covers (vector_of S s.heap) v ≡ true →
    s.image.vector ≡ vector_of S s.heap → ShowsAll v rows S s → IsStaged v rows S s
staged_from v rows S s world closed begun vector all = record {
  world = world;
  closed = closed;
  begun = begun;
  vector = vector;
  brought = λ q came. all q ∙ ap (λ b. unless_bare (shown b v (entry_of S s.heap q))) came;
  others = λ q not. all q ∙ ap (λ b. unless_bare (shown b v (entry_of S s.heap q))) not;
}

-- the entry itself
shown_at : (v : List ℕ) (rows : List Row) (S : List Operation) (s : HeapImage) → IsStaged v rows S s → (q : Place) →
    entry_at s.image.members q ≡ shown (has_row rows q) v (entry_of S s.heap q)
shown_at v rows S s is q =
    entry_at-get s.image.members q (shown (has_row rows q) v (entry_of S s.heap q)) (shown_wide (has_row rows q) v (entry_of S s.heap q) (length-by_site _)) (shows v rows S s is q)

-- ---- an operation

abbrev entry_by : Operation → Entry → Entry
entry_by o e = entry_after o.act o.site o.n o.seen e

-- what a new operation makes of each entry of a set
stepped_here : (K : ℕ) (S : List Operation) (o : Operation) → IsWorld K (o ∷ S) → IsClosed S → IsNew S o → (q : Place) →
    entry_of (o ∷ S) o.heap q ≡ cond (eq_by_cmp place_cmp q (place_of o)) (entry_by o (entry_of S o.heap (place_of o))) (entry_of S o.heap q)
stepped_here K S o world closed new q =
    let a : Image = image_of S o.heap in
    let e : Entry = entry_by o (entry_at a.members (place_of o)) in
    sym (entry_at-image_of (o ∷ S) o.heap q)
    ∙ ap (λ (b : Image). entry_at b.members q) (image_of-step K S o world closed new)
    ∙ ap (λ r. unwrap_or r no_additions) (get-put_entry a.members (place_of o) e q)
    ∙ elim (eq_by_cmp place_cmp q (place_of o)) as (λ b. unwrap_or (cond b (unless_bare e) (get a.members q)) no_additions ≡ cond b (entry_by o (entry_of S o.heap (place_of o))) (entry_of S o.heap q)) [
      | true ↦ entry_unless_bare e (length-by_site _) ∙ ap (entry_by o) (entry_at-image_of S o.heap (place_of o))
      | false ↦ entry_at-image_of S o.heap q
    ]

stepped : (K h : ℕ) (S : List Operation) (o : Operation) → o.heap ≡ h → IsWorld K (o ∷ S) → IsClosed S → IsNew S o → (q : Place) →
    entry_of (o ∷ S) h q ≡ cond (eq_by_cmp place_cmp q (place_of o)) (entry_by o (entry_of S h (place_of o))) (entry_of S h q)
stepped K h S o here world closed new q =
    subst (λ g. entry_of (o ∷ S) g q ≡ cond (eq_by_cmp place_cmp q (place_of o)) (entry_by o (entry_of S g (place_of o))) (entry_of S g q)) here (stepped_here K S o world closed new q)

shown_after : (b : Bool) (v : List ℕ) (o : Operation) (e : Entry) → has v o.site o.n ≡ false → entry_by o (shown b v e) ≡ shown b v (entry_by o e)
shown_after true v o e lacks = refl
shown_after false v o e lacks = sym (newer_entry v o.act o.site o.n o.seen e lacks)

module _ (v : List ℕ) (rows : List Row) (S : List Operation) (o : Operation) (s : HeapImage) (is : IsStaged v rows S s) (world : IsWorld s.heaps (o ∷ S)) (here : o.heap ≡ s.heap) where
  at_vector : IsVector s.image.vector S o.heap
  at_vector = subst (λ u. IsVector u S o.heap) (ap (vector_of S) here ∙ sym is.vector) (vector_is s.heaps S o.heap is.world)

  begun_more : covers (vector_of (o ∷ S) s.heap) v ≡ true
  begun_more = covers_from (vector_of (o ∷ S) s.heap) v (λ t below.
      let first : get_or v t 0 ≤ get_or (vector_of S s.heap) t 0 = covers_at (vector_of S s.heap) v t is.begun below in
      let less : last S s.heap t ≤ last (o ∷ S) s.heap t = last_within S (o ∷ S) s.heap t (λ p i _. inr i) in
      let was : get_or (vector_of S s.heap) t 0 ≡ last S s.heap t = by_site-at (last S s.heap) t 0 below in
      let now : get_or (vector_of (o ∷ S) s.heap) t 0 ≡ last (o ∷ S) s.heap t = by_site-at (last (o ∷ S) s.heap) t 0 below in
      omega arith)

  pub knows : has s.image.vector o.site o.n ≡ true → IsStaged v rows (o ∷ S) s
  knows known =
      let i : IsIn o S = known_here s.heaps S o s.image.vector world is.closed at_vector known in
      let more : AreSame S (o ∷ S) = record { forth = λ p j. inr j; back = λ p j. elim j [ inl e ↦ subst (λ x. IsIn x S) e i | inr there ↦ there ] } in
      let same : image_of S s.heap ≡ image_of (o ∷ S) s.heap = image_of-same s.heaps S (o ∷ S) s.heap more is.world in
      let entry : (q : Place) → entry_of S s.heap q ≡ entry_of (o ∷ S) s.heap q = λ q.
      sym (entry_at-image_of S s.heap q) ∙ ap (λ (a : Image). entry_at a.members q) same ∙ entry_at-image_of (o ∷ S) s.heap q in
      staged_from v rows (o ∷ S) s world (closed_after S o is.closed (is.closed.before o i)) begun_more
      (is.vector ∙ ap (λ (a : Image). a.vector) same)
      (λ q. shows v rows S s is q ∙ ap (λ e. unless_bare (shown (has_row rows q) v e)) (entry q))

  module _ (answer : taken_of s.image.vector o ≡ New) where
    new : IsNew S o
    new = taking_new s.heaps S o s.image.vector world is.closed at_vector answer

    lacks : has v o.site o.n ≡ false
    lacks =
        let below : o.site < SITES = (world.each o (inl refl)).site in
        let first : get_or v o.site 0 ≤ get_or (vector_of S s.heap) o.site 0 = covers_at (vector_of S s.heap) v o.site is.begun below in
        let was : get_or (vector_of S s.heap) o.site 0 ≡ last S s.heap o.site = by_site-at (last S s.heap) o.site 0 below in
        let fresh : last S s.heap o.site < o.n = subst (λ h. last S h o.site < o.n) here new.fresh in
        has_not_from v o.site o.n (omega arith)

    taken_at : ShowsAll v rows (o ∷ S) (with_image s (image_after o s.image))
    taken_at q =
        let p : Place = place_of o in
        let e : Entry = entry_by o (entry_at s.image.members p) in
        let next : (r : Place) → entry_of (o ∷ S) s.heap r ≡ cond (eq_by_cmp place_cmp r p) (entry_by o (entry_of S s.heap p)) (entry_of S s.heap r) = stepped s.heaps s.heap S o here world is.closed new in
        get-put_entry s.image.members p e q
        ∙ cond_both (eq_by_cmp place_cmp q p) (unless_bare e) (get s.image.members q) (λ x. x ≡ unless_bare (shown (has_row rows q) v (entry_of (o ∷ S) s.heap q)))
        (λ at.
        let made : e ≡ shown (has_row rows p) v (entry_of (o ∷ S) s.heap p)
        = ap (entry_by o) (shown_at v rows S s is p)
        ∙ shown_after (has_row rows p) v o (entry_of S s.heap p) lacks
        ∙ ap (shown (has_row rows p) v) (sym (next p ∙ cond-true (eq_by_cmp place_cmp p p) _ _ (key_same place_total p p refl))) in
        subst (λ r. unless_bare e ≡ unless_bare (shown (has_row rows r) v (entry_of (o ∷ S) s.heap r))) (sym (same_key place_exact q p at)) (ap unless_bare made))
        (λ away. shows v rows S s is q ∙ ap (λ x. unless_bare (shown (has_row rows q) v x)) (sym (next q ∙ cond-false (eq_by_cmp place_cmp q p) _ _ away)))

    pub takes : IsStaged v rows (o ∷ S) (with_image s (image_after o s.image))
    takes =
        let step : image_of (o ∷ S) o.heap ≡ image_after o (image_of S o.heap) = image_of-step s.heaps S o world is.closed new in
        let after : image_of (o ∷ S) s.heap ≡ image_after o (image_of S s.heap) = subst (λ h. image_of (o ∷ S) h ≡ image_after o (image_of S h)) here step in
        staged_from v rows (o ∷ S) (with_image s (image_after o s.image)) world
        (closed_after S o is.closed (new_has_seen s.heaps S o is.world is.closed new)) begun_more
        (ap (λ u. (image_after o (record { vector = u; members = s.image.members })).vector) is.vector ∙ sym (ap (λ (a : Image). a.vector) after))
        taken_at

-- ---- a piece

-- closed sets of one world with one vector have one image
same_image : (K h : ℕ) (S T : List Operation) → IsWorld K (S ++ T) → IsClosed S → IsClosed T → vector_of S h ≡ vector_of T h → image_of S h ≡ image_of T h
same_image K h S T world first second vectors =
    let itself : (U : List Operation) → covers (vector_of U h) (vector_of U h) ≡ true = λ U. covers_from (vector_of U h) (vector_of U h) (λ t _. omega arith) in
    (peer_catches_up K h T S [] (world_swapped K S T world) second first (tt {0}) (ap (covers (vector_of S h)) (sym vectors) ∙ itself S)).1
    ∙ image_of-same K (S ++ T) (T ++ S) h (union_turned S T) world
    ∙ sym (peer_catches_up K h S T [] world first second (tt {0}) (ap (covers (vector_of T h)) vectors ∙ itself T)).1

-- the row has what its member has in the image of the set
abbrev IsRowOf : List Operation → ℕ → Row → Type 0
IsRowOf S h row = get (image_of S h).members (place_in row) ≡ Some (entry_with row.additions)

one_row : (v : List ℕ) (rows : List Row) (S : List Operation) (s : HeapImage) (row : Row) → IsStaged v rows S s → IsRowOf S s.heap row →
    IsStaged v (row ∷ rows) S (with_image s (with_entry (place_in row) (entry_with row.additions) s.image))
one_row v rows S s row is got =
    let p : Place = place_in row in
    let e : Entry = entry_with row.additions in
    let same : entry_of S s.heap p ≡ e = (unless_bare_some (entry_of S s.heap p) e (sym (get-image_of S s.heap p) ∙ got)).0 in
    staged_from v (row ∷ rows) S (with_image s (with_entry p e s.image)) is.world is.closed is.begun is.vector (λ q.
    get-put_entry s.image.members p e q
    ∙ elim (eq_by_cmp place_cmp q p) as (λ b. eq_by_cmp place_cmp q p ≡ b → cond b (unless_bare e) (get s.image.members q) ≡ unless_bare (shown (b || has_row rows q) v (entry_of S s.heap q))) [
      | true ↦ λ at. subst (λ r. unless_bare e ≡ unless_bare (entry_of S s.heap r)) (sym (same_key place_exact q p at)) (ap unless_bare (sym same))
      | false ↦ λ _. shows v rows S s is q
    ] refl)

-- rows that are counted otherwise
recounted : (v : List ℕ) (rows others : List Row) (S : List Operation) (s : HeapImage) → ((q : Place) → has_row rows q ≡ has_row others q) → IsStaged v rows S s → IsStaged v others S s
recounted v rows others S s same is =
    staged_from v others S s is.world is.closed is.begun is.vector (λ q. shows v rows S s is q ∙ ap (λ b. unless_bare (shown b v (entry_of S s.heap q))) (same q))

all_rows : (v : List ℕ) (rows more : List Row) (S : List Operation) (s : HeapImage) → IsStaged v rows S s → ((row : Row) → IsIn row more → IsRowOf S s.heap row) →
    IsStaged v (more ++ rows) S (with_image s (with_rows more s.image))
all_rows v rows [] S s is each = is
all_rows v rows (row ∷ more) S s is each =
    let first = one_row v rows S s row is (each row (inl refl)) in
    let next : HeapImage = with_image s (with_entry (place_in row) (entry_with row.additions) s.image) in
    recounted v (more ++ row ∷ rows) (row ∷ more ++ rows) S (with_image s (with_rows (row ∷ more) s.image)) (has_row_moved more row rows)
    (all_rows v (row ∷ rows) more S next first (λ r i. each r (inr i)))

-- a piece has an addition in each entry
piece_entries : (T : List Operation) (p : HeapImage) → IsPieceOf T p → AreEntries p.image.members
piece_entries T p is k m e got = set_entries T p.heap k m e (is.rows (k, m) e got)

pub replaces : (v : List ℕ) (rows more : List Row) (S T : List Operation) (s piece : HeapImage) → IsStaged v rows S s → IsPieceOf T piece → IsSameHeap s piece → IsWorld s.heaps (S ++ T) →
    s.image.vector ≡ piece.image.vector → ((row : Row) → IsIn row more → IsIn row (rows_of piece.image)) → IsStaged v (more ++ rows) S (with_image s (with_rows more s.image))
replaces v rows more S T s piece is part heap world vectors among =
    let same : image_of S s.heap ≡ image_of T s.heap = same_image s.heaps s.heap S T world is.closed part.closed (sym is.vector ∙ vectors ∙ part.vector ∙ ap (vector_of T) (sym heap.heap)) in
    all_rows v rows more S s is (λ row i.
    ap (λ (a : Image). get a.members (place_in row)) (same ∙ ap (image_of T) heap.heap)
    ∙ part.rows (place_in row) (entry_with row.additions) (row_got piece.image (piece_entries T piece part) row (among row i)))

-- ---- the first piece

-- nothing that the set has is newer than its vector
all_known : (K h : ℕ) (T : List Operation) (q : Place) → IsWorld K T → unless_bare (newer_than (vector_of T h) (entry_of T h q)) ≡ None
all_known K h T q world = unless_bare-none (λ s. without (vector_of T h) s (addition_at (entry_of T h q) s)) (λ s below.
    elim (addition_at (entry_of T h q) s) as (λ x. addition_at (entry_of T h q) s ≡ x → without (vector_of T h) s x ≡ None) [
      | None ↦ λ _. refl
      | Some x ↦ λ is.
          let stands : HasAddition (image_of T h) q.0 q.1 s x = ap (λ e. addition_at e s) (entry_at-image_of T h q) ∙ is in
          let known : IsKnown (vector_of T h) s x.n = (image_sound K T h world).known q.0 q.1 s x stands in
          cond-true (has (vector_of T h) s x.n) None (Some x) (has_from (vector_of T h) s x.n known.0 known.1)
    ] refl)

pub begins : (T : List Operation) (s : HeapImage) → IsPieceOf T s → IsStaged s.image.vector (rows_of s.image) T s
begins T s is =
    let itself : covers (vector_of T s.heap) s.image.vector ≡ true = covers_from (vector_of T s.heap) s.image.vector (λ t _. let same = ap (λ u. get_or u t 0) is.vector in omega (arith, same)) in
    staged_from s.image.vector (rows_of s.image) T s is.world is.closed itself is.vector (λ q.
    elim (get s.image.members q) as (λ r. get s.image.members q ≡ r → r ≡ unless_bare (shown (is_some r) s.image.vector (entry_of T s.heap q))) [
      | None ↦ λ _. sym (ap (λ u. unless_bare (newer_than u (entry_of T s.heap q))) is.vector ∙ all_known s.heaps s.heap T q is.world)
      | Some e ↦ λ got. sym (is.rows q e got) ∙ get-image_of T s.heap q
    ] refl
    ∙ ap (λ b. unless_bare (shown b s.image.vector (entry_of T s.heap q))) (sym (has_in_rows s.image (piece_entries T s is) q)))

-- ---- the end

kept_at : (v : List ℕ) (s : ℕ) (x : Option Addition) → ((a : Addition) → x ≡ Some a → has v s a.n ≡ true → ⊥) → x ≡ without v s x
kept_at v s None none = refl
kept_at v s (Some a) none =
    elim (has v s a.n) as (λ b. has v s a.n ≡ b → Some a ≡ cond b None (Some a)) [
      | true ↦ λ known. absurd (none a refl known)
      | false ↦ λ _. refl
    ] refl

pub ends : (v : List ℕ) (rows : List Row) (S : List Operation) (s : HeapImage) → IsStaged v rows S s → AreAllBrought v rows S s.heap → HoldsImage s S
ends v rows S s is all = record {
  world = is.world;
  closed = is.closed;
  image = image_from s.image S s.heap is.vector (λ q.
      elim (has_row rows q) as (λ b. has_row rows q ≡ b → get s.image.members q ≡ unless_bare (entry_of S s.heap q)) [
        | true ↦ λ came. is.brought q came
        | false ↦ λ not.
            let e : Entry = entry_of S s.heap q in
            let whole : e ≡ newer_than v e = by_site_from (λ t. without v t (addition_at e t)) e None (length-by_site _) (λ t below.
            kept_at v t (addition_at e t) (λ a stands known.
            let parts = has_parts v t a.n known in
            let came : has_row rows q ≡ true = all q.0 q.1 t a (ap (λ x. addition_at x t) (entry_at-image_of S s.heap q) ∙ stands) (parts.0, parts.1) in
            cc)) in
            is.others q not ∙ ap unless_bare (sym whole)
      ] refl);
}
