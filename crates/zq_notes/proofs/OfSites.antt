-- Sites whose calls are given in one order: what they made is one world, and each has a closed set of it.

use Rattle.std.proofs.Common.{ap, ap₂, arith, inl, inr, subst, suc, sym, zero, ◌∙◌}
use Rattle.std.proofs.lemmas.Bool.{cases_eq, eq-eqb, ne_eqb}
use Rattle.std.proofs.lemmas.List.{append-nil, append_assoc, length-append, map-append}
use Rattle.std.specs.Prelude.{List, [], if◌then◌else◌, false, length, map, refl, true, ℕ, ◌+◌, ◌++◌, ◌==◌, ◌∷◌, ◌≡◌, ◌≤◌, ◌⊎◌}
use Rattle.zq_model.specs.Books.{Change, HandedOn, Made, Merged, Recorded, Step, Took, TookOver, operation_of}
use Rattle.zq_model.proofs.Dots.{last_above, last_below}
use Rattle.zq_model.proofs.JoinImages.{join-union}
use Rattle.zq_model.proofs.Membership.{in_union}
use Rattle.zq_model.proofs.Worlds.{closed_union, last_within, vector_is, world_part}
use Rattle.zq_model.specs.Image.{Image, join}
use Rattle.zq_model.specs.Limits.{TailLimits}
use Rattle.zq_model.specs.Operation.{Operation}
use Rattle.zq_model.specs.Rule.{Rule}
use Rattle.zq_model.specs.Sets.{IsIn, IsWorld, last, vector_of}
use Rattle.zq_notes.proofs.FromCalls.{over_call}
use Rattle.zq_notes.proofs.GatheredSets.{AreOnce, grown_by}
use Rattle.zq_notes.proofs.HeldOnce.{once_of}
use Rattle.zq_notes.proofs.Histories.{gathers, opens, reads}
use Rattle.zq_notes.proofs.MadeKinds.{kinds}
use Rattle.zq_notes.proofs.MadeWorlds.{IsAbreast, IsMadeIn, IsMadeInAll, as_many, gathered_stays_all, gathers_made_all, in_more_all, made_from_where_all, made_there_all, made_worlds}
use Rattle.zq_notes.proofs.OneThread.{left_by_all-append}
use Rattle.zq_notes.proofs.ReadOff.{AreScoresMeant, read_off}
use Rattle.zq_notes.specs.Calls.{Call, notes_of}
use Rattle.zq_notes.specs.Gathered.{AreImagesOf, AreOf, AreOfIn, AreOfWorld, gathered, gathered_by}
use Rattle.zq_notes.specs.Does.{Does}
use Rattle.zq_notes.specs.Notes.{Answer, Asked, Books, Note}
use Rattle.zq_notes.specs.Readings.{IsAnswerOf, IsReadOff}
use Rattle.zq_notes.specs.Sites.{AreBrought, AreBroughtIn, AreEventsOf, Event, IsEventAfter, IsSent, books_at, calls_of, empty_books, has_at, made_by, made_from, made_in_all, made_of, notes_at}
use Rattle.zq_notes.specs.Thread.{IsNoteOver, IsOneThread, left_by, left_by_all}
use Rattle.zq_spread.specs.Calls.{heaps_of}
use Rattle.zq_spread.specs.declared.site.Site.{Site}

-- ---- events one after the other

abbrev with_call : ℕ → Event → List Call → List Call
with_call s e calls = if e.site == s then e.call ∷ calls else calls

with_more : (s : ℕ) (e : Event) (xs ys : List Call) → with_call s e (xs ++ ys) ≡ with_call s e xs ++ ys
with_more s e xs ys = by (e.site == s)
  where
    by : (b : _) → (if b then e.call ∷ (xs ++ ys) else xs ++ ys) ≡ (if b then e.call ∷ xs else xs) ++ ys
    by true = refl
    by false = refl

pub calls_of-append : (s : ℕ) (xs ys : List Event) → calls_of s (xs ++ ys) ≡ calls_of s xs ++ calls_of s ys
calls_of-append s [] ys = refl
calls_of-append s (e ∷ xs) ys = ap (with_call s e) (calls_of-append s xs ys) ∙ with_more s e (calls_of s xs) (calls_of s ys)

pub notes_at-append : (s : ℕ) (xs ys : List Event) → notes_at s (xs ++ ys) ≡ notes_at s xs ++ notes_at s ys
notes_at-append s xs ys = ap notes_of (calls_of-append s xs ys) ∙ map-append (λ (c : Call). c.note) (calls_of s xs) (calls_of s ys)

pub notes_here : (s : ℕ) (e : Event) (rest : List Event) → e.site ≡ s → notes_at s (e ∷ rest) ≡ e.call.note ∷ notes_at s rest
notes_here s e rest same = ap (λ b. notes_of (if b then e.call ∷ calls_of s rest else calls_of s rest)) (eq-eqb e.site s same)

pub notes_apart : (s : ℕ) (e : Event) (rest : List Event) → (e.site ≡ s → ⊥) → notes_at s (e ∷ rest) ≡ notes_at s rest
notes_apart s e rest apart = ap (λ b. notes_of (if b then e.call ∷ calls_of s rest else calls_of s rest)) (ne_eqb e.site s apart)

pub made_from-append : (xs ys : List Event) (W : List Operation) → made_from (xs ++ ys) W ≡ made_from ys (made_from xs W)
made_from-append [] ys W = refl
made_from-append (e ∷ xs) ys W = made_from-append xs ys (made_in_all e.call.note.steps W)

in_from : (o : Operation) (events : List Event) (W : List Operation) → IsIn o W → IsIn o (made_from events W)
in_from o [] W i = i
in_from o (e ∷ events) W i = in_from o events (made_in_all e.call.note.steps W) (in_more_all o e.call.note.steps W i)

-- what was made before is made
pub in_later : (o : Operation) (events past later : List Event) → events ≡ past ++ later → IsIn o (made_of past) → IsIn o (made_of events)
in_later o events past later is i = subst (IsIn o) (sym (ap (λ l. made_from l []) is ∙ made_from-append past later [])) (in_from o later (made_of past) i)

-- the last event, where there is one
last_of : (p : List Event) → (p ≡ []) ⊎ ((before : List Event) × (e : Event) × (p ≡ before ++ e ∷ []))
last_of [] = inl refl
last_of (x ∷ p) = elim (last_of p) [
  | inl none ↦ inr ([], x, ap (λ l. x ∷ l) none)
  | inr some ↦ inr (x ∷ some.0, some.1, ap (λ l. x ∷ l) some.2)
]

-- the first of some notes
thread_front : (rule : Rule) (K site : ℕ) (books : Books) (xs ys : List Note) → IsOneThread rule K site books (xs ++ ys) → IsOneThread rule K site books xs
thread_front rule K site books [] ys all = tt
thread_front rule K site books (n ∷ xs) ys all = (all.0, thread_front rule K site (left_by n books) xs ys all.1)

world_front : (W : List Operation) (xs ys : List Note) → AreOfWorld W (xs ++ ys) → AreOfWorld W xs
world_front W [] ys all = tt
world_front W (n ∷ xs) ys all = (all.0, world_front W xs ys all.1)

pub gathered-append : (W : List Operation) (xs ys : List Note) (S : List Operation) → gathered W (xs ++ ys) S ≡ gathered W ys (gathered W xs S)
gathered-append W [] ys S = refl
gathered-append W (n ∷ xs) ys S = gathered-append W xs ys (gathered_by W n.heaps n.steps S)

-- what is gathered by calls stays
pub gathered_on : (W : List Operation) (xs ys : List Note) (S : List Operation) (o : Operation) → IsIn o (gathered W xs S) → IsIn o (gathered W (xs ++ ys) S)
gathered_on W [] [] S o i = i
gathered_on W [] (n ∷ ys) S o i = gathered_on W [] ys (gathered_by W n.heaps n.steps S) o (gathered_stays_all W o n.heaps n.steps S i)
gathered_on W (n ∷ xs) ys S o i = gathered_on W xs ys (gathered_by W n.heaps n.steps S) o i

module _ (limits : ℕ → TailLimits) (rule : Rule) (K : ℕ) where
  books_at-append : (s : ℕ) (xs ys : List Event) → books_at limits rule K s (xs ++ ys) ≡ left_by_all (notes_at s ys) (books_at limits rule K s xs)
  books_at-append s xs ys =
      ap (λ notes. left_by_all notes (empty_books (limits s) rule K)) (notes_at-append s xs ys) ∙ left_by_all-append (notes_at s xs) (notes_at s ys) (empty_books (limits s) rule K)

  books_here : (s : ℕ) (before : List Event) (e : Event) → e.site ≡ s → books_at limits rule K s (before ++ e ∷ []) ≡ left_by e.call.note (books_at limits rule K s before)
  books_here s before e same = books_at-append s before (e ∷ []) ∙ ap (λ notes. left_by_all notes (books_at limits rule K s before)) (notes_here s e [] same)

  books_apart : (s : ℕ) (before : List Event) (e : Event) → (e.site ≡ s → ⊥) → books_at limits rule K s (before ++ e ∷ []) ≡ books_at limits rule K s before
  books_apart s before e apart = books_at-append s before (e ∷ []) ∙ ap (λ notes. left_by_all notes (books_at limits rule K s before)) (notes_apart s e [] apart)

  -- after these events what was made is one world; each site has a closed set of it, of which its heaps are the images, and in it what it made
  pub record IsStanding (p : List Event) : Type 0 where
    pub world : IsWorld K (made_of p)
    pub has : ℕ → List Operation
    pub images : (s : ℕ) → AreImagesOf rule K (made_of p) (has s) (books_at limits rule K s p)
    pub own : (o : Operation) → IsIn o (made_of p) → IsIn o (has o.site)

  stands_first : IsStanding []
  stands_first = record {
    world = record { each = λ o none. absurd none; one = λ o p none. absurd none };
    has = λ s. [];
    images = λ s. opens (limits s) rule K [];
    own = λ o none. absurd none;
  }

  images_wider : (W X S : List Operation) (books : Books) → ((o : Operation) → IsIn o W → IsIn o X) → AreImagesOf rule K W S books → AreImagesOf rule K X S books
  images_wider W X S books more is = record { within = λ o i. more o (is.within o i); closed = is.closed; each = is.each }

  module _ (two : 2 ≤ K) (meant : AreScoresMeant) (sites : ℕ → Site) (before : List Event) (e : Event) (at : IsEventAfter limits rule K sites before e) where
    abbrev note : Note
    note = e.call.note

    abbrev made_now : List Operation
    made_now = made_in_all note.steps (made_of before)

    pub note_over : IsNoteOver rule K e.site (books_at limits rule K e.site before) note
    note_over =
        subst (λ n. IsNoteOver rule K n (books_at limits rule K e.site before) note) at.number
        (subst (λ k. IsNoteOver rule k (sites e.site).number (books_at limits rule K e.site before) note) at.heaps
        (subst (λ r. IsNoteOver r (heaps_of (sites e.site)) (sites e.site).number (books_at limits rule K e.site before) note) at.ruled (over_call (sites e.site) (books_at limits rule K e.site before) e.call at.call)))

    once : AreOnce note.heaps
    once = once_of rule K e.site note.stamp note.asked note.heaps note.answer (map (books_at limits rule K e.site before) note.heaps) note.steps two note_over.does

    module _ (earlier : (past later : List Event) → before ≡ past ++ later → IsStanding past) where
      -- what is recorded and merged is of every set that has all that is made by then
      module _ (X : List Operation) (more : (o : Operation) → IsIn o made_now → IsIn o X) where
        of_change : (c : Change) → ((o : Operation) → IsIn o (made_by c) → IsIn o X) → IsSent before c → IsIn (operation_of c) X
        of_change (Made o) made sent = made o (inl refl)
        of_change (Took o) made sent = more o (in_more_all o note.steps (made_of before) sent)

        of_each : (h : ℕ) (steps : List Step) → ((o : Operation) → IsMadeIn o steps → IsIn o X) → AreBrought limits rule K before e.site h steps → AreOf X h steps
        of_each h [] made brought = tt
        of_each h (Recorded r ∷ steps) made brought = (of_change r.change (λ o i. made o (inl i)) brought.0, of_each h steps (λ o i. made o (inr i)) brought.1)
        of_each h (Merged stamp other ∷ steps) made brought =
            let from = brought.0 in
            let stood : IsStanding from.1 = earlier from.1 from.2 from.3 in
            let its = stood.images from.0 in (
              (
                stood.has from.0,
                its.closed,
                (λ o i. more o (in_more_all o note.steps (made_of before) (in_later o before from.1 from.2 from.3 (its.within o i)))),
                from.4 ∙ (its.each h).state,
              ),
              of_each h steps made brought.1,
            )
        of_each h (HandedOn stamp handed ∷ steps) made brought = (tt, of_each h steps made brought.1)
        of_each h (TookOver stamp other ∷ steps) made brought =
            let from = brought.0 in
            let stood : IsStanding from.1 = earlier from.1 from.2 from.3 in
            let now : IsStanding before = earlier before [] (sym (append-nil before)) in
            let its = stood.images from.0 in
            let mine = now.images e.site in
            let S : List Operation = now.has e.site in
            let T : List Operation = stood.has from.0 in
            let inside : (o : Operation) → IsIn o (S ++ T) → IsIn o (made_of before) = λ o i. elim (in_union o S T i) [ inl j ↦ mine.within o j | inr j ↦ in_later o before from.1 from.2 from.3 (its.within o j) ] in (
              (
                S ++ T,
                closed_union S T mine.closed its.closed,
                (λ o i. more o (in_more_all o note.steps (made_of before) (inside o i))),
                from.4 ∙ ap₂ join (mine.each h).state (its.each h).state ∙ join-union K S T h (world_part K (S ++ T) (made_of before) inside now.world) mine.closed its.closed,
              ),
              of_each h steps made brought.1,
            )

        of_all : (heaps : List ℕ) (steps : List (List Step)) → ((o : Operation) → IsMadeInAll o steps → IsIn o X) → AreBroughtIn limits rule K before e.site heaps steps → AreOfIn X heaps steps
        of_all [] steps made brought = tt
        of_all (h ∷ heaps) [] made brought = tt
        of_all (h ∷ heaps) (ss ∷ steps) made brought = (of_each h ss (λ o i. made o (inl i)) brought.0, of_all heaps steps (λ o i. made o (inr i)) brought.1)

        pub of_event : AreOfIn X note.heaps note.steps
        of_event = of_all note.heaps note.steps (λ o i. more o (made_there_all o note.steps (made_of before) i)) at.brought

      module _ (stands : IsStanding before) where
        abbrev had : List Operation
        had = stands.has e.site

        part : IsWorld K had
        part = world_part K had (made_of before) (stands.images e.site).within stands.world

        -- the site knows each operation that it made
        abreast : (h : ℕ) → IsIn h note.heaps → IsAbreast K e.site (made_of before) h (books_at limits rule K e.site before h).state.vector
        abreast h i =
            let same : (books_at limits rule K e.site before h).state.vector ≡ vector_of had h = ap (λ (a : Image). a.vector) ((stands.images e.site).each h).state in
            let counter = (vector_is K had h part).counter in
            subst (IsAbreast K e.site (made_of before) h) (sym same) (record {
              covered = λ t.
                  let is = counter t in
                  let low = last_within had (made_of before) h t (λ o j there. (stands.images e.site).within o j) in
                  omega (arith, is, low);
              fresh =
                  let is = counter e.site in
                  let low = last_below (made_of before) h e.site (last had h e.site) (λ o j there its. last_above had h e.site o (subst (λ t. IsIn o (stands.has t)) its (stands.own o j)) there its) in
                  omega (arith, is, low);
            })

        read : IsAnswerOf rule K e.site had note.asked note.stamp note.heaps note.answer note.steps
        read =
            read_off meant rule K (made_of before) had (books_at limits rule K e.site before) part (stands.images e.site) e.site note.stamp note.asked note.heaps note.answer note.steps (omega (arith, two)) note_over.steps note_over.does

        made_world : IsWorld K made_now × ((o : Operation) → IsMadeInAll o note.steps → o.site ≡ e.site)
        made_world = elim (kinds rule K e.site had note.asked note.stamp note.heaps note.answer note.steps read) [
          | inl made ↦ (
              let all = made_worlds K e.site note.stamp (books_at limits rule K e.site before) note.heaps note.steps (made_of before) once note_over.steps made stands.world abreast
              (λ h. ((stands.images e.site).each h).heaps) (λ h. ((stands.images e.site).each h).heap) in
              (all.world, all.site))
          | inr none ↦ (
            subst (IsWorld K) (sym (none (made_of before))) stands.world,
            λ o i. absurd (subst (IsIn o) (none []) (made_there_all o note.steps [] i)),
          )
        ]

        abbrev has_now : ℕ → List Operation
        has_now t = if e.site == t then gathered_by made_now note.heaps note.steps had else stands.has t

        now_here : has_now e.site ≡ gathered_by made_now note.heaps note.steps had
        now_here = ap (λ b. if b then gathered_by made_now note.heaps note.steps had else stands.has e.site) (eq-eqb e.site e.site refl)

        now_apart : (t : ℕ) → (e.site ≡ t → ⊥) → has_now t ≡ stands.has t
        now_apart t apart = ap (λ b. if b then gathered_by made_now note.heaps note.steps had else stands.has t) (ne_eqb e.site t apart)

        in_now : (o : Operation) → IsIn o (made_of before) → IsIn o made_now
        in_now o i = in_more_all o note.steps (made_of before) i

        images_now : (t : ℕ) → AreImagesOf rule K made_now (has_now t) (books_at limits rule K t (before ++ e ∷ []))
        images_now t = elim (cases_eq e.site t) [
          | inl same ↦ subst (λ x. AreImagesOf rule K made_now (has_now x) (books_at limits rule K x (before ++ e ∷ []))) same
              (subst (λ books. AreImagesOf rule K made_now (has_now e.site) books) (sym (books_here e.site before e refl))
              (subst (λ S. AreImagesOf rule K made_now S (left_by note (books_at limits rule K e.site before))) (sym now_here)
              (grown_by K made_now made_world.0 rule note.stamp note.heaps note.steps had (books_at limits rule K e.site before) once note_over.steps (of_event made_now (λ o i. i))
              (images_wider (made_of before) made_now had (books_at limits rule K e.site before) in_now (stands.images e.site)))))
          | inr apart ↦
              subst (λ books. AreImagesOf rule K made_now (has_now t) books) (sym (books_apart t before e apart))
              (subst (λ S. AreImagesOf rule K made_now S (books_at limits rule K t before)) (sym (now_apart t apart))
              (images_wider (made_of before) made_now (stands.has t) (books_at limits rule K t before) in_now (stands.images t)))
        ]

        stays_now : (t : ℕ) (o : Operation) → IsIn o (stands.has t) → IsIn o (has_now t)
        stays_now t o i = elim (cases_eq e.site t) [
          | inl same ↦ subst (λ x. IsIn o (has_now x)) same (subst (IsIn o) (sym now_here) (gathered_stays_all made_now o note.heaps note.steps had (subst (λ x. IsIn o (stands.has x)) (sym same) i)))
          | inr apart ↦ subst (IsIn o) (sym (now_apart t apart)) i
        ]

        own_now : (o : Operation) → IsIn o made_now → IsIn o (has_now o.site)
        own_now o i = elim (made_from_where_all o note.steps (made_of before) i) [
          | inl before_it ↦ stays_now o.site o (stands.own o before_it)
          | inr now ↦ subst (λ x. IsIn o (has_now x)) (sym (made_world.1 o now))
              (subst (IsIn o) (sym now_here)
              (gathers_made_all made_now o note.heaps note.steps had (as_many note.stamp (books_at limits rule K e.site before) note.heaps note.steps note_over.steps) now))
        ]

        pub stands_next : IsStanding (before ++ e ∷ [])
        stands_next =
            let same : made_of (before ++ e ∷ []) ≡ made_now = made_from-append before (e ∷ []) [] in
            record {
              world = subst (IsWorld K) (sym same) made_world.0;
              has = has_now;
              images = λ t. subst (λ W. AreImagesOf rule K W (has_now t) (books_at limits rule K t (before ++ e ∷ []))) (sym same) (images_now t);
              own = λ o i. own_now o (subst (IsIn o) same i);
            }

  module _ (two : 2 ≤ K) (meant : AreScoresMeant) (sites : ℕ → Site) (events : List Event) (are : AreEventsOf limits rule K sites events) where
    -- a part of the events, and one more
    pub one_longer : (before : List Event) (e : Event) (rest : List Event) → events ≡ before ++ e ∷ rest → events ≡ (before ++ e ∷ []) ++ rest
    one_longer before e rest is = is ∙ sym (append_assoc before (e ∷ []) rest)

    cut_in : (before past later : List Event) (e : Event) (rest : List Event) → events ≡ before ++ e ∷ rest → before ≡ past ++ later → events ≡ past ++ (later ++ e ∷ rest)
    cut_in before past later e rest is split = is ∙ ap (λ l. l ++ e ∷ rest) split ∙ append_assoc past later (e ∷ rest)

    -- after each part of them the sites stand so
    standing : (k : ℕ) (p rest : List Event) → events ≡ p ++ rest → length p ≤ k → IsStanding p
    standing zero p rest is few = elim (last_of p) [
      | inl none ↦ subst IsStanding (sym none) stands_first
      | inr some ↦ (
          let longer : length p ≡ length some.0 + 1 = ap length some.2 ∙ length-append some.0 (some.1 ∷ []) in
          absurd (omega (arith, longer, few)))
    ]
    standing (suc k) p rest is few = elim (last_of p) [
      | inl none ↦ subst IsStanding (sym none) stands_first
      | inr some ↦ (
          let before : List Event = some.0 in
          let e : Event = some.1 in
          let split : events ≡ before ++ e ∷ rest = is ∙ ap (λ l. l ++ rest) some.2 ∙ append_assoc before (e ∷ []) rest in
          let longer : length p ≡ length before + 1 = ap length some.2 ∙ length-append before (e ∷ []) in
          subst IsStanding (sym some.2)
          (stands_next two meant sites before e (are before e rest split)
          (λ past later cut.
          let shorter : length before ≡ length past + length later = ap length cut ∙ length-append past later in
          standing k past (later ++ e ∷ rest) (cut_in before past later e rest split cut) (omega (arith, longer, shorter, few)))
          (standing k before (e ∷ rest) split (omega (arith, longer, few)))))
    ]

    pub stands_at : (p rest : List Event) → events ≡ p ++ rest → IsStanding p
    stands_at p rest is = standing (length p) p rest is (omega arith)

    pub all_world : IsWorld K (made_of events)
    all_world = (stands_at events [] (sym (append-nil events))).world

    -- the notes of each site are one thread's, and of that world
    pub thread_at : (s : ℕ) (before rest : List Event) → events ≡ before ++ rest → IsOneThread rule K s (books_at limits rule K s before) (notes_at s rest)
    thread_at s before [] is = tt
    thread_at s before (e ∷ rest) is =
        let more = thread_at s (before ++ e ∷ []) rest (one_longer before e rest is) in
        elim (cases_eq e.site s) [
          | inl same ↦ subst (IsOneThread rule K s (books_at limits rule K s before)) (sym (notes_here s e rest same)) (
            subst (λ x. IsNoteOver rule K x (books_at limits rule K x before) e.call.note) same (note_over two meant sites before e (are before e rest is)),
            subst (λ books. IsOneThread rule K s books (notes_at s rest)) (books_here s before e same) more,
          )
          | inr apart ↦ subst (IsOneThread rule K s (books_at limits rule K s before)) (sym (notes_apart s e rest apart))
              (subst (λ books. IsOneThread rule K s books (notes_at s rest)) (books_apart s before e apart) more)
        ]

    -- what was made by the end of an event is among all that was made
    pub made_by_then : (before : List Event) (e : Event) (rest : List Event) → events ≡ before ++ e ∷ rest → (o : Operation) → IsIn o (made_in_all e.call.note.steps (made_of before)) → IsIn o (made_of events)
    made_by_then before e rest is o i =
        in_later o events (before ++ e ∷ []) rest (one_longer before e rest is) (subst (IsIn o) (sym (made_from-append before (e ∷ []) [])) i)

    world_at : (s : ℕ) (before rest : List Event) → events ≡ before ++ rest → AreOfWorld (made_of events) (notes_at s rest)
    world_at s before [] is = tt
    world_at s before (e ∷ rest) is =
        let more = world_at s (before ++ e ∷ []) rest (one_longer before e rest is) in
        elim (cases_eq e.site s) [
          | inl same ↦ subst (AreOfWorld (made_of events)) (sym (notes_here s e rest same)) (
            of_event two meant sites before e (are before e rest is) (λ past later cut. stands_at past (later ++ e ∷ rest) (cut_in before past later e rest is cut)) (made_of events) (made_by_then before e rest is),
            more,
          )
          | inr apart ↦ subst (AreOfWorld (made_of events)) (sym (notes_apart s e rest apart)) more
        ]

    pub of_world_at : (before : List Event) (e : Event) (after : List Event) → events ≡ before ++ e ∷ after → AreOfIn (made_of events) e.call.note.heaps e.call.note.steps
    of_world_at before e after is =
        of_event two meant sites before e (are before e after is) (λ past later cut. stands_at past (later ++ e ∷ after) (cut_in before past later e after is cut)) (made_of events) (made_by_then before e after is)

    pub all_answers : (before : List Event) (e : Event) (after : List Event) → events ≡ before ++ e ∷ after → IsReadOff rule K e.site (has_at (made_of events) e.site before) e.call.note
    all_answers before e after is =
        let s : ℕ = e.site in
        let split : notes_at s events ≡ notes_at s before ++ e.call.note ∷ notes_at s after =
        ap (notes_at s) is ∙ notes_at-append s before (e ∷ after) ∙ ap (λ l. notes_at s before ++ l) (notes_here s e after refl) in
        reads rule K s (made_of events) two all_world meant [] (empty_books (limits s) rule K) (notes_at s before) e.call.note (notes_at s after) (opens (limits s) rule K (made_of events))
        (subst (IsOneThread rule K s (empty_books (limits s) rule K)) split (thread_at s [] events refl)) (subst (AreOfWorld (made_of events)) split (world_at s [] events refl))

    -- after each part of the events each heap is the image of what its site has
    pub images_by : (s : ℕ) (before after : List Event) → events ≡ before ++ after → AreImagesOf rule K (made_of events) (has_at (made_of events) s before) (books_at limits rule K s before)
    images_by s before after is =
        let split : notes_at s events ≡ notes_at s before ++ notes_at s after = ap (notes_at s) is ∙ notes_at-append s before after in
        gathers rule K s (made_of events) two all_world [] (empty_books (limits s) rule K) (notes_at s before) (opens (limits s) rule K (made_of events))
        (thread_front rule K s (empty_books (limits s) rule K) (notes_at s before) (notes_at s after) (subst (IsOneThread rule K s (empty_books (limits s) rule K)) split (thread_at s [] events refl)))
        (world_front (made_of events) (notes_at s before) (notes_at s after) (subst (AreOfWorld (made_of events)) split (world_at s [] events refl)))

    module _ (before : List Event) (e : Event) (after : List Event) (is : events ≡ before ++ e ∷ after) where
      abbrev S : List Operation
      S = has_at (made_of events) e.site before

      pub does_as : (asked : Asked) (answer : Answer) → e.call.note.asked ≡ asked → e.call.note.answer ≡ answer →
          Does rule K e.site e.call.note.stamp asked e.call.note.heaps answer (map (books_at limits rule K e.site before) e.call.note.heaps) e.call.note.steps
      does_as asked answer same_asked same_answer =
          let n : Note = e.call.note in
          let found = map (books_at limits rule K e.site before) n.heaps in
          subst (λ a. Does rule K e.site n.stamp asked n.heaps a found n.steps) same_answer
          (subst (λ q. Does rule K e.site n.stamp q n.heaps n.answer found n.steps) same_asked (note_over two meant sites before e (are before e after is)).does)

      pub off_as : (asked : Asked) (answer : Answer) → e.call.note.asked ≡ asked → e.call.note.answer ≡ answer → IsAnswerOf rule K e.site S asked e.call.note.stamp e.call.note.heaps answer e.call.note.steps
      off_as asked answer same_asked same_answer =
          let n : Note = e.call.note in
          subst (λ a. IsAnswerOf rule K e.site S asked n.stamp n.heaps a n.steps) same_answer (subst (λ q. IsAnswerOf rule K e.site S q n.stamp n.heaps n.answer n.steps) same_asked (all_answers before e after is))
