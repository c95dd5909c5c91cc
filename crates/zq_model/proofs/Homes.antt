-- The scores of a key's members over books, and what a move that is made in the book of its heap makes of them.
use Rattle.std.proofs.Common.{List, None, Option, Some, [], ap, arith, cond, false, inl, inr, length, map, nat_eq, refl, subst, sym, true, true≢false, unwrap_or, ℕ, ℤ, ◌<◌, ◌==◌, ◌∙◌, ◌∷◌, ◌≡◌, ◌⊎◌}
use Rattle.std.proofs.lemmas.Bool.{cond-false, cond-true, eq-eqb, eqb-true}
use Rattle.std.proofs.lemmas.Option.{none-some, same_Some}
use Rattle.std.specs.Cmp.Lexicographic.{pointwise}
use Rattle.std.specs.FinMap.{get}
use Rattle.std.specs.Ordering.{eq_by_cmp}
use Rattle.std.specs.Prelude.{Bool, find, if◌then◌else◌, option_and_then, option_map}
use Rattle.zq_model.specs.Books.{Book}
use Rattle.zq_model.proofs.Dots.{has_from}
use Rattle.zq_model.proofs.Entries.{addition_at-no_additions, entry_at-get, get-put_entry}
use Rattle.zq_model.proofs.Listing.{in_map_from}
use Rattle.zq_model.proofs.Maps.{in_map, key_same, place_exact, place_total, same_key}
use Rattle.zq_model.proofs.Membership.{find_none, find_only, find_some}
use Rattle.zq_model.proofs.Places.{bytes_same, same_bytes}
use Rattle.zq_model.proofs.Preferred.{score_reached}
use Rattle.zq_model.proofs.Queued.{queued_score, score_queued}
use Rattle.zq_model.proofs.Rising.{rising_keys}
use Rattle.zq_model.proofs.Sites.{length-by_site}
use Rattle.zq_model.specs.Bounded.{IsBounded}
use Rattle.zq_model.specs.Entry.{Addition}
use Rattle.zq_model.specs.Heaps.{heap_of}
use Rattle.zq_model.specs.Image.{Entry, Image, Members, addition_at, entry_after, entry_at, image_after, no_additions, place_cmp, put_entry, unless_bare}
use Rattle.zq_model.specs.Operation.{has}
use Rattle.zq_model.specs.Queue.{queue_of}
use Rattle.zq_model.specs.Rule.{Rule}
use Rattle.zq_model.specs.Score.{score_of}
use Rattle.zq_model.specs.Sets.{IsIn, SITES}
use Rattle.zq_model.proofs.Acts.{IsSeen, score_acted}
use Rattle.zq_model.proofs.Told.{IsTold, acted, changed, told_after, told_one}
use Rattle.zq_model.specs.Lent.{AreLent, HasHome, IsLent, is_home, is_home_of, made, made_in, operation_in, queues_of}
use Rattle.zq_model.specs.Moves.{Move, Queues, after, after_act}

-- ---- scores in books

-- the score of a member of a key in a book
abbrev pub score_here : Rule → List ℕ → List ℕ → Book → Option ℤ
score_here rule key m book = score_of rule (entry_at book.state.members (key, m))

-- its score in the book of its heap
abbrev pub home_score : Rule → List ℕ → List Book → List ℕ → Option ℤ
home_score rule key books m = option_and_then (score_here rule key m) (find (is_home_of key m) books)

-- books of different heaps, of K, in which a member has a score only where it is at home
pub record ArePlaced (rule : Rule) (K : ℕ) (books : List Book) : Type 0 where
  pub heaps : (b : Book) → IsIn b books → b.heaps ≡ K
  pub one : (b c : Book) → IsIn b books → IsIn c books → b.heap ≡ c.heap → b ≡ c
  pub placed : (b : Book) → IsIn b books → (key m : List ℕ) (x : ℤ) → score_here rule key m b ≡ Some x → heap_of key m K ≡ b.heap

module _ (rule : Rule) (K : ℕ) (books : List Book) (are : ArePlaced rule K books) (key : List ℕ) where
  pub home_heap : (m : List ℕ) (b : Book) → IsIn b books → is_home_of key m b ≡ true → heap_of key m K ≡ b.heap
  home_heap m b here home = ap (heap_of key m) (sym (are.heaps b here)) ∙ eqb-true _ _ home

  pub home_one : (m : List ℕ) (b : Book) → IsIn b books → heap_of key m K ≡ b.heap → find (is_home_of key m) books ≡ Some b
  home_one m b here heap =
      let home : is_home_of key m b ≡ true = eq-eqb _ _ (ap (heap_of key m) (are.heaps b here) ∙ heap) in
      find_only (is_home_of key m) books b here home (λ y there passes. are.one y b there here (sym (home_heap m y there passes) ∙ heap))

  -- the queue of a key over the books has the scores of its members in the books of their heaps
  pub told_queues : IsTold (home_score rule key books) (queues_of rule books key)
  told_queues = record {
    rising = rising_keys _;
    members = λ x m. (
      λ here.
          let found = queued_score rule key (map (λ (b : Book). b.state.members) books) x m here in
          let book = in_map_from (λ (b : Book). b.state.members) found.0 books found.1 in
          let score : score_here rule key m book.0 ≡ Some x = ap (λ a. score_of rule (entry_at a (key, m))) book.2 ∙ found.2 in
          ap (option_and_then (score_here rule key m)) (home_one m book.0 book.1 (are.placed book.0 book.1 key m x score)) ∙ score,
      λ is.
          elim (find (is_home_of key m) books) as (λ r. find (is_home_of key m) books ≡ r → option_and_then (score_here rule key m) r ≡ Some x → IsIn (x, m) (queues_of rule books key)) [
            | None ↦ λ _ e. absurd (none-some x e)
            | Some b ↦ λ some e.
                let found = find_some (is_home_of key m) books b some in
                score_queued rule key (map (λ (c : Book). c.state.members) books) x m b.state.members (in_map (λ (c : Book). c.state.members) b books found.0) e
          ] refl is,
    );
  }

-- ---- books within bounds

pub has_addition : (rule : Rule) (K : ℕ) (b : Book) (key m : List ℕ) (x : ℤ) → IsLent K b → score_here rule key m b ≡ Some x → heap_of key m K ≡ b.heap
has_addition rule K b key m x lent is =
    let value = score_reached rule (entry_at b.state.members (key, m)) x is in
    (lent.bounded.additions key m value.0 value.1 value.2).placed

pub lent_each : (K : ℕ) (books : List Book) (b : Book) → AreLent K books → IsIn b books → IsLent K b
lent_each K [] b are here = absurd here
lent_each K (c ∷ books) b are (inl same) = subst (IsLent K) same are.0
lent_each K (c ∷ books) b are (inr later) = lent_each K books b are.2 later

pub lent_one : (K : ℕ) (books : List Book) (b c : Book) → AreLent K books → IsIn b books → IsIn c books → b.heap ≡ c.heap → b ≡ c
lent_one K [] b c are here there same = absurd here
lent_one K (d ∷ books) b c are (inl first) (inl second) same = sym first ∙ second
lent_one K (d ∷ books) b c are (inl first) (inr later) same =
    absurd (let low : d.heap < c.heap = are.1 c later in let heaps : d.heap ≡ c.heap = ap (λ (e : Book). e.heap) first ∙ same in omega (arith, low, heaps))
lent_one K (d ∷ books) b c are (inr later) (inl first) same =
    absurd (let low : d.heap < b.heap = are.1 b later in let heaps : d.heap ≡ b.heap = ap (λ (e : Book). e.heap) first ∙ sym same in omega (arith, low, heaps))
lent_one K (d ∷ books) b c are (inr x) (inr y) same = lent_one K books b c are.2 x y same

pub lent_placed : (rule : Rule) (K : ℕ) (books : List Book) → AreLent K books → ArePlaced rule K books
lent_placed rule K books are = record {
  heaps = λ b here. (lent_each K books b are here).heaps;
  one = λ b c here there same. lent_one K books b c are here there same;
  placed = λ b here key m x is. has_addition rule K b key m x (lent_each K books b are here) is;
}

-- ---- a move

entry_seen : (K heap : ℕ) (a : Image) (key m : List ℕ) → IsBounded K heap a → IsSeen a.vector (entry_at a.members (key, m))
entry_seen K heap a key m bounded = record {
  wide = elim (get a.members (key, m)) as (λ r. get a.members (key, m) ≡ r → length (unwrap_or r no_additions) ≡ SITES) [
    | None ↦ λ none. length-by_site (λ _. None)
    | Some e ↦ λ some. (bounded.entries key m e some).0
  ] refl;
  known = λ s x is. let known = (bounded.additions key m s x is).counter in has_from a.vector s x.n known.0 known.1;
  sums = λ s x is. (bounded.additions key m s x is).wide;
}

module _ (rule : Rule) (K site stamp : ℕ) (move : Move) (below : site < SITES) where
  abbrev pub moved : Book → Book
  moved b = if is_home move b then made_in site stamp move b else b

  pub moved_home : (b : Book) → is_home move b ≡ true → moved b ≡ made_in site stamp move b
  moved_home b home = cond-true (is_home move b) (made_in site stamp move b) b home

  pub moved_away : (b : Book) → is_home move b ≡ false → moved b ≡ b
  moved_away b away = cond-false (is_home move b) (made_in site stamp move b) b away

  moved_heap : (b : Book) → (moved b).heap ≡ b.heap
  moved_heap b = elim (is_home move b) as (λ c. (if c then made_in site stamp move b else b).heap ≡ b.heap) [ true ↦ refl | false ↦ refl ]

  moved_heaps : (b : Book) → (moved b).heaps ≡ b.heaps
  moved_heaps b = elim (is_home move b) as (λ c. (if c then made_in site stamp move b else b).heaps ≡ b.heaps) [ true ↦ refl | false ↦ refl ]

  abbrev pub place : List ℕ × List ℕ
  place = (move.key, move.member)

  abbrev entry_made : Book → Entry
  entry_made b = entry_after move.act site ((operation_in site move b).n) b.state.vector (entry_at b.state.members place)

  made_other : (b : Book) (key m : List ℕ) → eq_by_cmp place_cmp (key, m) place ≡ false → score_here rule key m (made_in site stamp move b) ≡ score_here rule key m b
  made_other b key m other =
      ap (λ r. score_of rule (unwrap_or r no_additions))
      (get-put_entry b.state.members place (entry_made b) (key, m) ∙ cond-false _ (unless_bare (entry_made b)) (get b.state.members (key, m)) other)

  pub made_here : (b : Book) → IsLent K b → score_here rule move.key move.member (made_in site stamp move b) ≡ acted move.act (score_here rule move.key move.member b)
  made_here b lent =
      let members = (made_in site stamp move b).state.members in
      let got : get members place ≡ unless_bare (entry_made b)
      = get-put_entry b.state.members place (entry_made b) place
      ∙ cond-true _ (unless_bare (entry_made b)) (get b.state.members place) (key_same place_total place place refl) in
      ap (score_of rule) (entry_at-get members place (entry_made b) (length-by_site _) got)
      ∙ score_acted rule b.state.vector (entry_at b.state.members place) (entry_seen K b.heap b.state move.key move.member lent.bounded) site ((operation_in site move b).n) below move.act

  -- at another place nothing changes
  pub moved_other : (b : Book) (key m : List ℕ) → eq_by_cmp place_cmp (key, m) place ≡ false → score_here rule key m (moved b) ≡ score_here rule key m b
  moved_other b key m other =
      elim (is_home move b) as (λ c. score_here rule key m (if c then made_in site stamp move b else b) ≡ score_here rule key m b) [
        | true ↦ made_other b key m other
        | false ↦ refl
      ]

  module _ (books : List Book) (are : AreLent K books) where
    moved_scored : (b : Book) → IsIn b books → (key m : List ℕ) (x : ℤ) → score_here rule key m (moved b) ≡ Some x → heap_of key m K ≡ (moved b).heap
    moved_scored b here key m x is =
        elim (eq_by_cmp place_cmp (key, m) place) as (λ c. eq_by_cmp place_cmp (key, m) place ≡ c → heap_of key m K ≡ (moved b).heap) [
          | false ↦ λ other. (lent_placed rule K books are).placed b here key m x (sym (moved_other b key m other) ∙ is) ∙ sym (moved_heap b)
          | true ↦ λ same. elim (is_home move b) as (λ c. is_home move b ≡ c → heap_of key m K ≡ (moved b).heap) [
            | true ↦ λ home.
                let at : (key, m) ≡ place = same_key place_exact (key, m) place same in
                ap (λ (q : List ℕ × List ℕ). heap_of q.0 q.1 K) at ∙ home_heap rule K books (lent_placed rule K books are) move.key move.member b here home ∙ sym (moved_heap b)
            | false ↦ λ away.
                let same_book = moved_away b away in
                (lent_placed rule K books are).placed b here key m x (ap (score_here rule key m) (sym same_book) ∙ is) ∙ sym (moved_heap b)
          ] refl
        ] refl

    pub made_placed : ArePlaced rule K (made site stamp move books)
    made_placed = record {
      heaps = λ b here. let from = in_map_from moved b books here in ap (λ (c : Book). c.heaps) (sym from.2) ∙ moved_heaps from.0 ∙ (lent_each K books from.0 are from.1).heaps;
      one = λ b c here there same.
          let first = in_map_from moved b books here in
          let second = in_map_from moved c books there in
          let heaps : first.0.heap ≡ second.0.heap
          = sym (moved_heap first.0) ∙ ap (λ (d : Book). d.heap) first.2 ∙ same ∙ ap (λ (d : Book). d.heap) (sym second.2) ∙ moved_heap second.0 in
          sym first.2 ∙ ap moved (lent_one K books first.0 second.0 are first.1 second.1 heaps) ∙ second.2;
      placed = λ b here key m x is.
          let from = in_map_from moved b books here in
          moved_scored from.0 from.1 key m x (ap (score_here rule key m) from.2 ∙ is) ∙ ap (λ (c : Book). c.heap) from.2;
    }
