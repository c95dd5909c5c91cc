-- Sites that stand do so after a call too.

use Rattle.std.proofs.Common.{ap, arith, inl, inr, subst, sym}
use Rattle.std.proofs.lemmas.Bool.{cases_eq}
use Rattle.std.specs.Prelude.{List, [], map, ℕ, ◌≡◌, ◌≤◌, ◌⊎◌}
use Rattle.zq_model.proofs.Dots.{last_above, last_below}
use Rattle.zq_model.proofs.Worlds.{last_within, vector_is, world_part}
use Rattle.zq_model.specs.Image.{Image}
use Rattle.zq_model.specs.Operation.{Operation}
use Rattle.zq_model.specs.Rule.{Rule}
use Rattle.zq_model.specs.Sets.{IsIn, IsWorld, last, vector_of}
use Rattle.zq_notes.proofs.GatheredSets.{AreOnce, grown_by}
use Rattle.zq_notes.proofs.HeldOnce.{once_of}
use Rattle.zq_notes.proofs.MadeKinds.{kinds}
use Rattle.zq_notes.proofs.MadeWorlds.{IsAbreast, IsMadeInAll, as_many, gathered_stays_all, gathers_made_all, in_more_all, made_from_where_all, made_there_all, made_worlds}
use Rattle.zq_notes.proofs.ReadOff.{AreScoresMeant, read_off}
use Rattle.zq_notes.proofs.RunMoves.{apart_is, here_is}
use Rattle.zq_notes.specs.Gathered.{AreImagesOf, AreOfIn}
use Rattle.zq_notes.specs.Notes.{Books, Note}
use Rattle.zq_notes.specs.Readings.{IsAnswerOf}
use Rattle.zq_notes.specs.Sites.{Event}
use Rattle.zq_notes.specs.Thread.{IsNoteOver, left_by}
use Rattle.zq_restarts.proofs.Standings.{images_wider}
use Rattle.zq_restarts.specs.Runs.{State, after_call, has_after, left_after}
use Rattle.zq_restarts.specs.Standing.{IsStanding}

module _ (rule : Rule) (K : ℕ) (two : 2 ≤ K) (meant : AreScoresMeant) (now : State) (stands : IsStanding rule K now) (e : Event) (over : IsNoteOver rule K e.site (now.books e.site) e.call.note) where
  abbrev note : Note
  note = e.call.note

  abbrev books : Books
  books = now.books e.site

  abbrev had : List Operation
  had = now.has e.site

  abbrev W : List Operation
  W = left_after e now

  once : AreOnce note.heaps
  once = once_of rule K e.site note.stamp note.asked note.heaps note.answer (map books note.heaps) note.steps two over.does

  part : IsWorld K had
  part = world_part K had now.left (stands.images e.site).within stands.world

  -- the site knows each operation that it made and anybody has
  abreast : (h : ℕ) → IsIn h note.heaps → IsAbreast K e.site now.left h (books h).state.vector
  abreast h i =
      let same : (books h).state.vector ≡ vector_of had h = ap (λ (a : Image). a.vector) ((stands.images e.site).each h).state in
      let counter = (vector_is K had h part).counter in
      subst (IsAbreast K e.site now.left h) (sym same) (record {
        covered = λ t.
            let is = counter t in
            let low = last_within had now.left h t (λ o j there. (stands.images e.site).within o j) in
            omega (arith, is, low);
        fresh =
            let is = counter e.site in
            let low = last_below now.left h e.site (last had h e.site) (λ o j there its. last_above had h e.site o (subst (λ t. IsIn o (now.has t)) its (stands.own o j)) there its) in
            omega (arith, is, low);
      })

  pub read : IsAnswerOf rule K e.site had note.asked note.stamp note.heaps note.answer note.steps
  read = read_off meant rule K now.left had books part (stands.images e.site) e.site note.stamp note.asked note.heaps note.answer note.steps (omega (arith, two)) over.steps over.does

  made_world : IsWorld K W × ((o : Operation) → IsMadeInAll o note.steps → o.site ≡ e.site)
  made_world = elim (kinds rule K e.site had note.asked note.stamp note.heaps note.answer note.steps read) [
    | inl made ↦ (
        let all = made_worlds K e.site note.stamp books note.heaps note.steps now.left once over.steps made stands.world abreast
        (λ h. ((stands.images e.site).each h).heaps) (λ h. ((stands.images e.site).each h).heap) in
        (all.world, all.site))
    | inr none ↦ (
      subst (IsWorld K) (sym (none now.left)) stands.world,
      λ o i. absurd (subst (IsIn o) (none []) (made_there_all o note.steps [] i)),
    )
  ]

  pub world_next : IsWorld K W
  world_next = made_world.0

  in_next : (o : Operation) → IsIn o now.left → IsIn o W
  in_next o i = in_more_all o note.steps now.left i

  -- what is new is what the call's site made, which has it
  pub made : (o : Operation) → IsIn o W → IsIn o now.left ⊎ ((o.site ≡ e.site) × IsIn o (has_after e now))
  made o i = elim (made_from_where_all o note.steps now.left i) [
    | inl before_it ↦ inl before_it
    | inr now_it ↦ inr (made_world.1 o now_it, gathers_made_all W o note.heaps note.steps had (as_many note.stamp books note.heaps note.steps over.steps) now_it)
  ]

  -- no call loses an operation
  pub stays : (o : Operation) → IsIn o had → IsIn o (has_after e now)
  stays o i = gathered_stays_all W o note.heaps note.steps had i

  pub had_wider : AreImagesOf rule K W had books
  had_wider = images_wider rule K now.left W had books in_next (stands.images e.site)

  module _ (of : AreOfIn W note.heaps note.steps) where
    images_here : AreImagesOf rule K W (has_after e now) (left_by note books)
    images_here = grown_by K W world_next rule note.stamp note.heaps note.steps had books once over.steps of had_wider

    has_here : (after_call e now).has e.site ≡ has_after e now
    has_here = here_is now.has e.site (has_after e now)

    has_apart : (t : ℕ) → (t ≡ e.site → ⊥) → (after_call e now).has t ≡ now.has t
    has_apart t apart = apart_is now.has e.site (has_after e now) t apart

    books_here : (after_call e now).books e.site ≡ left_by note books
    books_here = here_is now.books e.site (left_by note books)

    books_apart : (t : ℕ) → (t ≡ e.site → ⊥) → (after_call e now).books t ≡ now.books t
    books_apart t apart = apart_is now.books e.site (left_by note books) t apart

    images_next : (t : ℕ) → AreImagesOf rule K W ((after_call e now).has t) ((after_call e now).books t)
    images_next t = elim (cases_eq t e.site) [
      | inl same ↦ subst (λ x. AreImagesOf rule K W ((after_call e now).has x) ((after_call e now).books x)) (sym same)
          (subst (AreImagesOf rule K W ((after_call e now).has e.site)) (sym books_here)
          (subst (λ S. AreImagesOf rule K W S (left_by note books)) (sym has_here) images_here))
      | inr apart ↦ subst (AreImagesOf rule K W ((after_call e now).has t)) (sym (books_apart t apart))
          (subst (λ S. AreImagesOf rule K W S (now.books t)) (sym (has_apart t apart))
          (images_wider rule K now.left W (now.has t) (now.books t) in_next (stands.images t)))
    ]

    stays_at : (t : ℕ) (o : Operation) → IsIn o (now.has t) → IsIn o ((after_call e now).has t)
    stays_at t o i = elim (cases_eq t e.site) [
      | inl same ↦ subst (λ x. IsIn o ((after_call e now).has x)) (sym same) (subst (IsIn o) (sym has_here) (stays o (subst (λ x. IsIn o (now.has x)) same i)))
      | inr apart ↦ subst (IsIn o) (sym (has_apart t apart)) i
    ]

    own_next : (o : Operation) → IsIn o W → IsIn o ((after_call e now).has o.site)
    own_next o i = elim (made o i) [
      | inl before_it ↦ stays_at o.site o (stands.own o before_it)
      | inr its ↦ subst (λ x. IsIn o ((after_call e now).has x)) (sym its.0) (subst (IsIn o) (sym has_here) its.1)
    ]

    pub stands_next : IsStanding rule K (after_call e now)
    stands_next = record { world = world_next; images = images_next; own = own_next }
