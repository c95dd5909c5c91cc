-- What sites have when they met.
use Rattle.std.proofs.Common.{ap, arith, inl, inr, refl, subst, sym, ◌∙◌}
use Rattle.std.proofs.lemmas.Bool.{cases_eq}
use Rattle.std.proofs.lemmas.List.{length-set}
use Rattle.std.proofs.lemmas.Option.{slice_get_within}
use Rattle.std.specs.Prelude.{IfSome, List, Ok, Some, [], length, slice_get, slice_set, suc, true, zero, ℕ, ◌<◌, ◌∷◌, ◌≡◌, ◌≢◌, ◌⊎◌}
use Rattle.zq_drill.specs.Gathered.{AllHaveAll, Knows, KnowsAt}
use Rattle.zq_drill.specs.Limits.{heap_count}
use Rattle.zq_drill.specs.Meetings.{AreHandedOver, AreMeetings, IsMeeting, round}
use Rattle.zq_drill.specs.SiteHandles.{Place, place_at}
use Rattle.zq_model.proofs.Covered.{reached_covers_too}
use Rattle.zq_model.specs.Books.{Book}
use Rattle.zq_journal.specs.Books.{state_of}
use Rattle.zq_model.proofs.Taken.{covers_at, covers_from}
use Rattle.zq_model.specs.Sets.{IsIn, covers}
use Rattle.zq_node.proofs.Called.{Stays, alone, seen_after}
use Rattle.zq_node.proofs.Told.{Covers, merged_covers}
use Rattle.zq_node.specs.Calls.{Call, Copied, IsCalled, Merged}
use Rattle.zq_shard.specs.Shard.{HeapImage}
use Rattle.zq_spread.specs.Answers.{IsCopied}
use Rattle.zq_spread.specs.Calls.{HasSeenBook}
use Rattle.zq_spread.specs.LockedHeaps.{Follows}
use Rattle.zq_spread.specs.declared.locked_heap.LockedHeap.{LockedHeap}
use Rattle.zq_spread.specs.declared.pass.Pass.{Pass}
use Rattle.zq_spread.specs.declared.site.Site.{Site}

-- the book of the heap has all of the vector
abbrev Has : ℕ → List ℕ → Book → Type 0
Has heap vector b = (b.heap ≡ heap) × (covers b.state.vector vector ≡ true)

has_stays : (heap : ℕ) (vector : List ℕ) → Stays (Has heap vector)
has_stays heap vector later earlier reached has = (reached.1.heap ∙ has.0, reached_covers_too later earlier vector reached has.1)

-- what a pass knows it knows after a call
knows_on : (site : Site) (before after : Pass) (c : Call) (heap : ℕ) (vector : List ℕ) → IsCalled site before after c → Knows before heap vector → Knows after heap vector
knows_on site before after c heap vector is knows = seen_after (Has heap vector) (has_stays heap vector) site before after heap (c ∷ []) (after, is, refl) knows

-- a copy has what the pass knew
copied_has : (site : Site) (before after : Pass) (heap : ℕ) (image : HeapImage) (vector : List ℕ) → IsCalled site before after (Copied heap image) → Knows before heap vector →
    (image.heap ≡ heap) × (covers image.image.vector vector ≡ true)
copied_has site before after heap image vector is knows =
    let one = alone (IsCopied (Ok image)) before after heap is in
    let follow : Follows one.found knows.0 = subst (λ s. IfSome s (Follows one.found)) knows.1 one.worked.follows in
    let has : Has heap vector one.found.book = has_stays heap vector one.found.book knows.0.book follow.0 knows.2 in
    let copy : image ≡ state_of one.found.book = one.done.0 in
    (ap (λ (s : HeapImage). s.heap) copy ∙ has.0, ap (λ (s : HeapImage). covers s.image.vector vector) copy ∙ has.1)

covers_through : (u v w : List ℕ) → covers u v ≡ true → covers v w ≡ true → covers u w ≡ true
covers_through u v w first second = covers_from u w (λ t within. omega (arith, covers_at u v t first within, covers_at v w t second within))

some_same : {A : Type 0} (x y : A) → Some x ≡ Some y → x ≡ y
some_same x y is = cc

-- who merges an image that has the vector knows it then
merged_knows : (site : Site) (before after : Pass) (heap : ℕ) (image : HeapImage) (vector some : List ℕ) → IsCalled site before after (Merged image) → image.heap ≡ heap → covers image.image.vector vector ≡ true →
    Knows before heap some → Knows after heap vector
merged_knows site before after heap image vector some is place has knows =
    let old = knows_on site before after (Merged image) heap some is knows in
    let new : HasSeenBook after heap (Covers image) = subst (λ h. HasSeenBook after h (Covers image)) place (merged_covers site before after image is) in
    let same : new.0 ≡ old.0 = some_same new.0 old.0 (sym new.1 ∙ old.1) in
    (new.0, new.1, (ap (λ (k : LockedHeap). k.book.heap) same ∙ old.2.0, covers_through new.0.book.state.vector image.image.vector vector new.2 has))

-- ---- hand-overs of heaps

sender_knows : (sender receiver : Site) (n : ℕ) (s t p q : Pass) (heap : ℕ) (vector : List ℕ) → AreHandedOver sender receiver n s t p q → Knows s heap vector → Knows t heap vector
sender_knows sender receiver zero s t p q heap vector are knows = subst (λ pass. Knows pass heap vector) (sym are.0) knows
sender_knows sender receiver (suc n) s t p q heap vector are knows =
    knows_on sender are.0 t (Copied n are.3.image) heap vector are.3.copied (sender_knows sender receiver n s are.0 p are.1 heap vector are.2 knows)

receiver_knows : (sender receiver : Site) (n : ℕ) (s t p q : Pass) (heap : ℕ) (vector : List ℕ) → AreHandedOver sender receiver n s t p q → Knows p heap vector → Knows q heap vector
receiver_knows sender receiver zero s t p q heap vector are knows = subst (λ pass. Knows pass heap vector) (sym are.1) knows
receiver_knows sender receiver (suc n) s t p q heap vector are knows =
    knows_on receiver are.1 q (Merged are.3.image) heap vector are.3.merged (receiver_knows sender receiver n s are.0 p are.1 heap vector are.2 knows)

-- the receiver knows what the sender knew
handed_knows : (sender receiver : Site) (n : ℕ) (s t p q : Pass) (heap : ℕ) (vector some : List ℕ) → AreHandedOver sender receiver n s t p q → heap < n → Knows s heap vector → Knows p heap some → Knows q heap vector
handed_knows sender receiver zero s t p q heap vector some are below knows has = absurd (omega arith)
handed_knows sender receiver (suc n) s t p q heap vector some are below knows has = elim (cases_eq heap n) [
  | inl same ↦ (
      let sent : Knows are.0 n vector = subst (λ h. Knows are.0 h vector) same (sender_knows sender receiver n s are.0 p are.1 heap vector are.2 knows) in
      let held : Knows are.1 n some = subst (λ h. Knows are.1 h some) same (receiver_knows sender receiver n s are.0 p are.1 heap some are.2 has) in
      let copy = copied_has sender are.0 t n are.3.image vector are.3.copied sent in
      subst (λ h. Knows q h vector) (sym same) (merged_knows receiver are.1 q n are.3.image vector some are.3.merged copy.0 copy.1 held))
  | inr apart ↦ (
      let lower : heap < n = omega (arith, below, apart) in
      knows_on receiver are.1 q (Merged are.3.image) heap vector are.3.merged (handed_knows sender receiver n s are.0 p are.1 heap vector some are.2 lower knows has))
]

-- ---- meetings

get_set : {A : Type 0} (xs : List A) (i : ℕ) (x : A) → i < length xs → slice_get (slice_set xs i x) i ≡ Some x
get_set [] i x within = absurd (omega (arith, within))
get_set (y ∷ xs) zero x within = refl
get_set (y ∷ xs) (suc i) x within = get_set xs i x (omega (arith, within))

get_apart : {A : Type 0} (xs : List A) (i k : ℕ) (x : A) → k ≢ i → slice_get (slice_set xs i x) k ≡ slice_get xs k
get_apart [] i k x apart = refl
get_apart (y ∷ xs) zero zero x apart = absurd (apart refl)
get_apart (y ∷ xs) zero (suc k) x apart = refl
get_apart (y ∷ xs) (suc i) zero x apart = refl
get_apart (y ∷ xs) (suc i) (suc k) x apart = get_apart xs i k x (λ same. apart (ap suc same))

same_place : (places : List Place) (i : ℕ) (x y : Place) → slice_get places i ≡ Some x → slice_get places i ≡ Some y → x ≡ y
same_place places i x y is also = some_same x y (sym is ∙ also)

module _ (receiver sender : ℕ) (before after : List Place) (is : IsMeeting receiver sender before after) where
  mid : List Place
  mid = slice_set before sender (place_at is.from.site is.gave)

  -- what is at the receiver's place then, and elsewhere
  at_receiver : slice_get after receiver ≡ Some (place_at is.to.site is.got)
  unfolding mid
  at_receiver =
      let within : receiver < length before = slice_get_within before receiver is.to is.to_is in
      ap (λ places. slice_get places receiver) is.after_is
      ∙ get_set mid receiver (place_at is.to.site is.got) (omega (arith, within, length-set before sender (place_at is.from.site is.gave)))

  at_sender : sender ≢ receiver → slice_get after sender ≡ Some (place_at is.from.site is.gave)
  unfolding mid
  at_sender apart =
      ap (λ places. slice_get places sender) is.after_is
      ∙ (get_apart mid receiver sender (place_at is.to.site is.got) apart ∙ get_set before sender (place_at is.from.site is.gave) (slice_get_within before sender is.from is.from_is))

  at_other : (k : ℕ) → k ≢ receiver → k ≢ sender → slice_get after k ≡ slice_get before k
  unfolding mid
  at_other k apart aside =
      ap (λ places. slice_get places k) is.after_is
      ∙ (get_apart mid receiver k (place_at is.to.site is.got) apart ∙ get_apart before sender k (place_at is.from.site is.gave) aside)

  met_knows : (k heap : ℕ) (vector : List ℕ) → KnowsAt before k heap vector → KnowsAt after k heap vector
  met_knows k heap vector had = elim (cases_eq k receiver) [
    | inl same ↦ (
        let place : had.0 ≡ is.to = same_place before k had.0 is.to had.1 (ap (slice_get before) same ∙ is.to_is) in
        let knows : Knows is.to.pass heap vector = subst (λ (p : Place). Knows p.pass heap vector) place had.2 in
        (place_at is.to.site is.got, ap (slice_get after) same ∙ at_receiver, receiver_knows is.from.site is.to.site heap_count is.from.pass is.gave is.to.pass is.got heap vector is.handed knows))
    | inr apart ↦ elim (cases_eq k sender) [
      | inl same ↦ (
          let place : had.0 ≡ is.from = same_place before k had.0 is.from had.1 (ap (slice_get before) same ∙ is.from_is) in
          let knows : Knows is.from.pass heap vector = subst (λ (p : Place). Knows p.pass heap vector) place had.2 in
          let here = at_sender (λ e. apart (same ∙ e)) in
          (place_at is.from.site is.gave, ap (slice_get after) same ∙ here, sender_knows is.from.site is.to.site heap_count is.from.pass is.gave is.to.pass is.got heap vector is.handed knows))
      | inr aside ↦ (had.0, at_other k apart aside ∙ had.1, had.2)
    ]
  ]

  met_gives : (heap : ℕ) (vector some : List ℕ) → heap < heap_count → KnowsAt before sender heap vector → KnowsAt before receiver heap some → KnowsAt after receiver heap vector
  met_gives heap vector some below had has =
      let from : had.0 ≡ is.from = same_place before sender had.0 is.from had.1 is.from_is in
      let to : has.0 ≡ is.to = same_place before receiver has.0 is.to has.1 is.to_is in
      let knows : Knows is.from.pass heap vector = subst (λ (p : Place). Knows p.pass heap vector) from had.2 in
      let knew : Knows is.to.pass heap some = subst (λ (p : Place). Knows p.pass heap some) to has.2 in
      (place_at is.to.site is.got, at_receiver, handed_knows is.from.site is.to.site heap_count is.from.pass is.gave is.to.pass is.got heap vector some is.handed below knows knew)

all_know : (pairs : List (ℕ × ℕ)) (before after : List Place) (k heap : ℕ) (vector : List ℕ) → AreMeetings pairs before after → KnowsAt before k heap vector → KnowsAt after k heap vector
all_know [] before after k heap vector are had = subst (λ places. KnowsAt places k heap vector) (sym are) had
all_know (pair ∷ pairs) before after k heap vector are had =
    all_know pairs are.0 after k heap vector are.2 (met_knows pair.0 pair.1 before are.0 are.1 k heap vector had)

-- by one of the meetings
all_give : (pairs : List (ℕ × ℕ)) (before after : List Place) (i j heap : ℕ) (vector some : List ℕ) → heap < heap_count → IsIn (j, i) pairs → AreMeetings pairs before after →
    KnowsAt before i heap vector → KnowsAt before j heap some → KnowsAt after j heap vector
all_give [] before after i j heap vector some below among are had has = absurd among
all_give (pair ∷ pairs) before after i j heap vector some below (inl same) are had has =
    let sender : i ≡ pair.1 = ap (λ (p : ℕ × ℕ). p.1) (sym same) in
    let receiver : j ≡ pair.0 = ap (λ (p : ℕ × ℕ). p.0) (sym same) in
    let gives = met_gives pair.0 pair.1 before are.0 are.1 heap vector some below (subst (λ k. KnowsAt before k heap vector) sender had) (subst (λ k. KnowsAt before k heap some) receiver has) in
    all_know pairs are.0 after j heap vector are.2 (subst (λ k. KnowsAt are.0 k heap vector) (sym receiver) gives)
all_give (pair ∷ pairs) before after i j heap vector some below (inr among) are had has =
    all_give pairs are.0 after i j heap vector some below among are.2 (met_knows pair.0 pair.1 before are.0 are.1 i heap vector had) (met_knows pair.0 pair.1 before are.0 are.1 j heap some has)

-- each two sites meet in a round
each_met : (i j : ℕ) → i < 3 → j < 3 → (j ≡ i) ⊎ IsIn (j, i) round
each_met zero zero low few = inl refl
each_met zero (suc zero) low few = inr (inr (inr (inl refl)))
each_met zero (suc (suc zero)) low few = inr (inr (inr (inr (inr (inl refl)))))
each_met zero (suc (suc (suc j))) low few = absurd (omega (arith, few))
each_met (suc zero) zero low few = inr (inl refl)
each_met (suc zero) (suc zero) low few = inl refl
each_met (suc zero) (suc (suc zero)) low few = inr (inr (inr (inr (inr (inr (inl refl))))))
each_met (suc zero) (suc (suc (suc j))) low few = absurd (omega (arith, few))
each_met (suc (suc zero)) zero low few = inr (inr (inl refl))
each_met (suc (suc zero)) (suc zero) low few = inr (inr (inr (inr (inl refl))))
each_met (suc (suc zero)) (suc (suc zero)) low few = inl refl
each_met (suc (suc zero)) (suc (suc (suc j))) low few = absurd (omega (arith, few))
each_met (suc (suc (suc i))) j low few = absurd (omega (arith, low))

pub all_have_all : AllHaveAll
all_have_all before after are i j heap low few below vector some had has = elim (each_met i j low few) [
  | inl same ↦ all_know round before after j heap vector are (subst (λ k. KnowsAt before k heap vector) (sym same) had)
  | inr among ↦ all_give round before after i j heap vector some below among are had has
]
