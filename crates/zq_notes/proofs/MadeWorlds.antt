-- What the sites make is of one world.

use Rattle.std.proofs.Common.{ap, arith, get_or-set_other, get_or-set_same, inl, inr, subst, sym, ◌∙◌}
use Rattle.std.proofs.lemmas.Bool.{and_parts, cases_eq}
use Rattle.std.specs.Cmp.Lexicographic.{same_text}
use Rattle.std.specs.Prelude.{List, [], refl, slice_index, slice_set, true, ℕ, ◌+◌, ◌++◌, ◌<◌, ◌∷◌, ◌≡◌, ◌≤◌, ◌⊎◌}
use Rattle.zq_model.proofs.NewRecords.{change_is}
use Rattle.zq_model.specs.Books.{Book, Change, HandedOn, Made, Merged, Recorded, Step, Took, TookOver, are_steps_over, is_change_over, operation_of}
use Rattle.zq_model.proofs.Membership.{in_left, in_right}
use Rattle.zq_model.proofs.NewOperation.{last_elsewhere, last_here, world_after}
use Rattle.zq_model.proofs.Worlds.{last_within}
use Rattle.zq_model.specs.Image.{Image, image_after}
use Rattle.zq_model.specs.Operation.{Operation}
use Rattle.zq_model.specs.Sets.{IsIn, IsNew, IsWorld, last}
use Rattle.zq_notes.proofs.GatheredSets.{AreOnce}
use Rattle.zq_notes.specs.Gathered.{brought, gathered_by, gathered_in}
use Rattle.zq_notes.specs.Notes.{Books}
use Rattle.zq_notes.specs.Sites.{made_by, made_in, made_in_all}
use Rattle.zq_notes.specs.Thread.{AreOwn, AreOwnIn}

-- ---- membership

-- the operation is made by one of the steps
abbrev pub IsMadeIn : Operation → List Step → Type 0
IsMadeIn o [] = ⊥
IsMadeIn o (Recorded r ∷ steps) = IsIn o (made_by r.change) ⊎ IsMadeIn o steps
IsMadeIn o (Merged stamp other ∷ steps) = IsMadeIn o steps
IsMadeIn o (HandedOn stamp handed ∷ steps) = IsMadeIn o steps
IsMadeIn o (TookOver stamp other ∷ steps) = IsMadeIn o steps

abbrev pub IsMadeInAll : Operation → List (List Step) → Type 0
IsMadeInAll o [] = ⊥
IsMadeInAll o (ss ∷ steps) = IsMadeIn o ss ⊎ IsMadeInAll o steps

pub in_more : (o : Operation) (steps : List Step) (W : List Operation) → IsIn o W → IsIn o (made_in steps W)
in_more o [] W i = i
in_more o (Recorded r ∷ steps) W i = in_more o steps (made_by r.change ++ W) (in_right o (made_by r.change) W i)
in_more o (Merged stamp other ∷ steps) W i = in_more o steps W i
in_more o (HandedOn stamp handed ∷ steps) W i = in_more o steps W i
in_more o (TookOver stamp other ∷ steps) W i = in_more o steps W i

pub in_more_all : (o : Operation) (steps : List (List Step)) (W : List Operation) → IsIn o W → IsIn o (made_in_all steps W)
in_more_all o [] W i = i
in_more_all o (ss ∷ steps) W i = in_more_all o steps (made_in ss W) (in_more o ss W i)

made_there : (o : Operation) (steps : List Step) (W : List Operation) → IsMadeIn o steps → IsIn o (made_in steps W)
made_there o [] W i = absurd i
made_there o (Recorded r ∷ steps) W (inl i) = in_more o steps (made_by r.change ++ W) (in_left o (made_by r.change) W i)
made_there o (Recorded r ∷ steps) W (inr i) = made_there o steps (made_by r.change ++ W) i
made_there o (Merged stamp other ∷ steps) W i = made_there o steps W i
made_there o (HandedOn stamp handed ∷ steps) W i = made_there o steps W i
made_there o (TookOver stamp other ∷ steps) W i = made_there o steps W i

pub made_there_all : (o : Operation) (steps : List (List Step)) (W : List Operation) → IsMadeInAll o steps → IsIn o (made_in_all steps W)
made_there_all o [] W i = absurd i
made_there_all o (ss ∷ steps) W (inl i) = in_more_all o steps (made_in ss W) (made_there o ss W i)
made_there_all o (ss ∷ steps) W (inr i) = made_there_all o steps (made_in ss W) i

in_change : (o : Operation) (c : Change) (W : List Operation) → IsIn o (made_by c ++ W) → IsIn o W ⊎ IsIn o (made_by c)
in_change o (Made p) W (inl e) = inr (inl e)
in_change o (Made p) W (inr i) = inl i
in_change o (Took p) W i = inl i

made_from_where : (o : Operation) (steps : List Step) (W : List Operation) → IsIn o (made_in steps W) → IsIn o W ⊎ IsMadeIn o steps
made_from_where o [] W i = inl i
made_from_where o (Recorded r ∷ steps) W i = elim (made_from_where o steps (made_by r.change ++ W) i) [
  | inl j ↦ elim (in_change o r.change W j) [ inl k ↦ inl k | inr k ↦ inr (inl k) ]
  | inr j ↦ inr (inr j)
]
made_from_where o (Merged stamp other ∷ steps) W i = made_from_where o steps W i
made_from_where o (HandedOn stamp handed ∷ steps) W i = made_from_where o steps W i
made_from_where o (TookOver stamp other ∷ steps) W i = made_from_where o steps W i

pub made_from_where_all : (o : Operation) (steps : List (List Step)) (W : List Operation) → IsIn o (made_in_all steps W) → IsIn o W ⊎ IsMadeInAll o steps
made_from_where_all o [] W i = inl i
made_from_where_all o (ss ∷ steps) W i = elim (made_from_where_all o steps (made_in ss W) i) [
  | inl j ↦ elim (made_from_where o ss W j) [ inl k ↦ inl k | inr k ↦ inr (inl k) ]
  | inr j ↦ inr (inr j)
]

-- what is gathered stays, and what is made is gathered
pub gathered_stays : (W : List Operation) (h : ℕ) (o : Operation) (steps : List Step) (S : List Operation) → IsIn o S → IsIn o (gathered_in W h steps S)
gathered_stays W h o [] S i = i
gathered_stays W h o (s ∷ steps) S i = gathered_stays W h o steps (brought W h s ++ S) (in_right o (brought W h s) S i)

pub gathered_stays_all : (W : List Operation) (o : Operation) (heaps : List ℕ) (steps : List (List Step)) (S : List Operation) → IsIn o S → IsIn o (gathered_by W heaps steps S)
gathered_stays_all W o [] steps S i = i
gathered_stays_all W o (h ∷ heaps) [] S i = i
gathered_stays_all W o (h ∷ heaps) (ss ∷ steps) S i = gathered_stays_all W o heaps steps (gathered_in W h ss S) (gathered_stays W h o ss S i)

in_operation : (o : Operation) (c : Change) → IsIn o (made_by c) → IsIn o (operation_of c ∷ [])
in_operation o (Made p) i = i
in_operation o (Took p) i = absurd i

gathers_made : (W : List Operation) (h : ℕ) (o : Operation) (steps : List Step) (S : List Operation) → IsMadeIn o steps → IsIn o (gathered_in W h steps S)
gathers_made W h o [] S i = absurd i
gathers_made W h o (Recorded r ∷ steps) S (inl i) =
    gathered_stays W h o steps (operation_of r.change ∷ [] ++ S) (in_left o (operation_of r.change ∷ []) S (in_operation o r.change i))
gathers_made W h o (Recorded r ∷ steps) S (inr i) = gathers_made W h o steps (operation_of r.change ∷ [] ++ S) i
gathers_made W h o (Merged stamp other ∷ steps) S i = gathers_made W h o steps (brought W h (Merged stamp other) ++ S) i
gathers_made W h o (HandedOn stamp handed ∷ steps) S i = gathers_made W h o steps S i
gathers_made W h o (TookOver stamp other ∷ steps) S i = gathers_made W h o steps (brought W h (TookOver stamp other) ++ S) i

-- as many lists of steps as heaps
abbrev pub AreAsMany : List ℕ → List (List Step) → Type 0
AreAsMany [] [] = Unit {0}
AreAsMany (h ∷ heaps) (ss ∷ steps) = AreAsMany heaps steps
AreAsMany heaps steps = ⊥

pub as_many : (stamp : ℕ) (books : Books) (heaps : List ℕ) (steps : List (List Step)) → AreOwnIn stamp books heaps steps → AreAsMany heaps steps
as_many stamp books [] [] own = tt
as_many stamp books [] (ss ∷ steps) own = absurd own
as_many stamp books (h ∷ heaps) [] own = absurd own
as_many stamp books (h ∷ heaps) (ss ∷ steps) own = as_many stamp books heaps steps own.1

pub gathers_made_all : (W : List Operation) (o : Operation) (heaps : List ℕ) (steps : List (List Step)) (S : List Operation) → AreAsMany heaps steps → IsMadeInAll o steps → IsIn o (gathered_by W heaps steps S)
gathers_made_all W o [] [] S many i = absurd i
gathers_made_all W o [] (ss ∷ steps) S many i = absurd many
gathers_made_all W o (h ∷ heaps) [] S many i = absurd i
gathers_made_all W o (h ∷ heaps) (ss ∷ steps) S many (inl i) = gathered_stays_all W o heaps steps (gathered_in W h ss S) (gathers_made W h o ss S i)
gathers_made_all W o (h ∷ heaps) (ss ∷ steps) S many (inr i) = gathers_made_all W o heaps steps (gathered_in W h ss S) many i

-- ---- operations that a site makes

-- the site of this number made it
abbrev pub IsMadeBy : ℕ → Change → Type 0
IsMadeBy s (Made o) = o.site ≡ s
IsMadeBy s (Took o) = ⊥

abbrev pub AllMade : ℕ → List Step → Type 0
AllMade s [] = Unit {0}
AllMade s (Recorded r ∷ steps) = IsMadeBy s r.change × AllMade s steps
AllMade s (Merged stamp other ∷ steps) = ⊥
AllMade s (HandedOn stamp handed ∷ steps) = ⊥
AllMade s (TookOver stamp other ∷ steps) = ⊥

abbrev pub AllMadeIn : ℕ → List (List Step) → Type 0
AllMadeIn s [] = Unit {0}
AllMadeIn s (ss ∷ steps) = AllMade s ss × AllMadeIn s steps

module _ (K s : ℕ) where
  -- the vector is covered by the world, which has no more of the site than the vector
  pub record IsAbreast (W : List Operation) (h : ℕ) (v : List ℕ) : Type 0 where
    pub covered : (t : ℕ) → slice_index v t ≤ last W h t
    pub fresh : last W h s ≤ slice_index v s

  -- a world with one operation more that its site made
  pub record IsOneMore (W : List Operation) (h : ℕ) (a : Image) (c : Change) : Type 0 where
    pub world : IsWorld K (made_by c ++ W)
    pub abreast : IsAbreast (made_by c ++ W) h (image_after (operation_of c) a).vector
    pub heap : (o : Operation) → IsIn o (made_by c) → (o.heap ≡ h) × (o.site ≡ s)

  one_more : (W : List Operation) (h : ℕ) (a : Image) (c : Change) → IsWorld K W → is_change_over K h a.vector c ≡ true → IsMadeBy s c → IsAbreast W h a.vector → IsOneMore W h a c
  one_more W h a (Took o) world over made abreast = absurd made
  one_more W h a (Made o) world over made abreast =
      let is = change_is K h a.vector (Made o) over in
      let seen : o.seen ≡ a.vector = same_text o.seen a.vector (sym is.over) in
      let next : o.n ≡ slice_index a.vector s + 1 = is.operation.next ∙ ap (λ v. slice_index v o.site + 1) seen ∙ ap (λ t. slice_index a.vector t + 1) made in
      let fresh = abreast.fresh in
      let new : IsNew W o = record {
        covered = λ t. subst (λ v. slice_index v t ≤ last W o.heap t) (sym seen) (subst (λ k. slice_index a.vector t ≤ last W k t) (sym is.heap) (abreast.covered t));
        fresh = subst (λ k. last W k o.site < o.n) (sym is.heap) (subst (λ t. last W h t < o.n) (sym made) (omega (arith, next, fresh)));
      } in
      let site = is.operation.site in
      let wide = is.wide in
      let here : slice_index (slice_set a.vector o.site o.n) o.site ≡ o.n = get_or-set_same a.vector o.site o.n 0 (omega (arith, site, wide)) in
      let top : last (o ∷ W) h o.site ≡ o.n = subst (λ k. last (o ∷ W) k o.site ≡ o.n) is.heap (last_here W o new) in
      record {
        world = world_after K W o world is.operation new;
        abreast = record {
          covered = λ t. elim (cases_eq t o.site) [
            | inl same ↦ subst (λ r. slice_index (slice_set a.vector o.site o.n) r ≤ last (o ∷ W) h r) (sym same) (omega (arith, here, top))
            | inr apart ↦ (
                let kept : slice_index (slice_set a.vector o.site o.n) t ≡ slice_index a.vector t = get_or-set_other a.vector o.site t o.n 0 apart in
                let same : last (o ∷ W) h t ≡ last W h t = subst (λ k. last (o ∷ W) k t ≡ last W k t) is.heap (last_elsewhere W o t apart) in
                let low = abreast.covered t in
                omega (arith, kept, same, low))
          ];
          fresh = subst (λ t. last (o ∷ W) h t ≤ slice_index (slice_set a.vector o.site o.n) t) made (omega (arith, here, top));
        };
        heap = λ p i. elim i [ inl e ↦ subst (λ (x : Operation). (x.heap ≡ h) × (x.site ≡ s)) e (is.heap, made) | inr none ↦ absurd none ];
      }

  -- and with the operations that steps in a heap make
  pub record IsMadeWorld (W : List Operation) (h : ℕ) (steps : List Step) : Type 0 where
    pub world : IsWorld K (made_in steps W)
    pub heap : (o : Operation) → IsMadeIn o steps → (o.heap ≡ h) × (o.site ≡ s)

  made_world : (h : ℕ) (steps : List Step) (a : Image) (W : List Operation) → IsWorld K W → are_steps_over K h a steps ≡ true → AllMade s steps → IsAbreast W h a.vector → IsMadeWorld W h steps
  made_world h [] a W world over made abreast = record { world = world; heap = λ o none. absurd none }
  made_world h (Recorded r ∷ steps) a W world over made abreast =
      let both : (is_change_over K h a.vector r.change ≡ true) × (are_steps_over K h (image_after (operation_of r.change) a) steps ≡ true) = and_parts _ _ over in
      let one = one_more W h a r.change world both.0 made.0 abreast in
      let rest = made_world h steps (image_after (operation_of r.change) a) (made_by r.change ++ W) one.world both.1 made.1 one.abreast in
      record { world = rest.world; heap = λ o i. elim i [ inl j ↦ one.heap o j | inr j ↦ rest.heap o j ] }
  made_world h (Merged stamp other ∷ steps) a W world over made abreast = absurd made
  made_world h (HandedOn stamp handed ∷ steps) a W world over made abreast = absurd made
  made_world h (TookOver stamp other ∷ steps) a W world over made abreast = absurd made

  legal_at : (h stamp : ℕ) (b : Book) (steps : List Step) → b.heaps ≡ K → b.heap ≡ h → AreOwn stamp b steps → are_steps_over K h b.state steps ≡ true
  legal_at h stamp b steps heaps heap own =
      subst (λ x. are_steps_over K x b.state steps ≡ true) heap (subst (λ n. are_steps_over n b.heap b.state steps ≡ true) heaps own.legal)

  -- and in several heaps
  pub record AreMadeWorld (W : List Operation) (steps : List (List Step)) : Type 0 where
    pub world : IsWorld K (made_in_all steps W)
    pub site : (o : Operation) → IsMadeInAll o steps → o.site ≡ s

  pub made_worlds : (stamp : ℕ) (books : Books) (heaps : List ℕ) (steps : List (List Step)) (W : List Operation) → AreOnce heaps → AreOwnIn stamp books heaps steps → AllMadeIn s steps → IsWorld K W →
      ((h : ℕ) → IsIn h heaps → IsAbreast W h (books h).state.vector) → ((h : ℕ) → (books h).heaps ≡ K) → ((h : ℕ) → (books h).heap ≡ h) → AreMadeWorld W steps
  made_worlds stamp books [] [] W once own made world abreast of at = record { world = world; site = λ o none. absurd none }
  made_worlds stamp books [] (ss ∷ steps) W once own made world abreast of at = absurd own
  made_worlds stamp books (h ∷ heaps) [] W once own made world abreast of at = absurd own
  made_worlds stamp books (h ∷ heaps) (ss ∷ steps) W once own made world abreast of at =
      let first = made_world h ss (books h).state W world (legal_at h stamp (books h) ss (of h) (at h) own.0) made.0 (abreast h (inl refl)) in
      let rest = made_worlds stamp books heaps steps (made_in ss W) once.1 own.1 made.1 first.world (λ k i. record {
        covered = λ t. let low = (abreast k (inr i)).covered t in let more = last_within W (made_in ss W) k t (λ o j there. in_more o ss W j) in omega (arith, low, more);
        fresh =
            let low = (abreast k (inr i)).fresh in
            let same = last_within (made_in ss W) W k s (λ o j there. elim (made_from_where o ss W j) [
              | inl before ↦ before
              | inr now ↦ absurd (once.0 (subst (λ x. IsIn x heaps) (sym there ∙ (first.heap o now).0) i))
            ]) in
            omega (arith, low, same);
      }) of at in
      record { world = rest.world; site = λ o i. elim i [ inl j ↦ (first.heap o j).1 | inr j ↦ rest.site o j ] }
