-- A connection at its socket, step by step.
use Rattle.std.proofs.Common.{◌≡◌, List, ℕ, [], ◌∷◌, ◌++◌, ap, append-nil, inl, inr, refl, subst, sym, take, ◌∙◌}
use Rattle.zq_loop.specs.Client.{IsSent, IsServedAt}
use Rattle.zq_session.proofs.Connections.{along-closed, along-first, along-others, along-written}
use Rattle.zq_session.proofs.Talks.{heard-append, said-append, talks-join}
use Rattle.zq_session.specs.Among.{Change, Meanwhile}
use Rattle.zq_session.specs.Connection.{Closes, ConnectionState, IsAlong, IsNew, owed_of}
use Rattle.zq_session.specs.Session.{Relation}
use Rattle.zq_session.specs.Steps.{Does, Heard, Said, Step, Talks, heard, said}

module _ {E S : Type 0} (does : Does E) (others : Change S) (answers : Relation S) where
  pub served-first : (first : E) (now : S) (c : ConnectionState) → IsNew c → IsServedAt does others answers first now now first c
  served-first first now c new = record { steps = []; talks = refl; along = along-first others answers now c new }

  pub served-others : (first socket : E) (begun now later : S) (c : ConnectionState) → IsServedAt does others answers first begun now socket c → Meanwhile others now later
      → IsServedAt does others answers first begun later socket c
  served-others first socket begun now later c p o =
      record { steps = p.steps; talks = p.talks; along = along-others others answers begun now later (heard p.steps) (said p.steps) c p.along o }

  -- a read gave these bytes
  pub served-heard : (first before after : E) (begun now new : S) (steps : List Step) (piece : List ℕ) (c : ConnectionState) → Talks does first steps before → does before (Heard piece) after
      → IsAlong others answers begun new (heard steps ++ piece) (said steps) c → IsServedAt does others answers first begun new after c
  served-heard first before after begun now new steps piece c talks step along =
      let text : heard (steps ++ Heard piece ∷ []) ≡ heard steps ++ piece = heard-append steps (Heard piece ∷ []) ∙ ap (λ l. heard steps ++ l) (append-nil piece) in
      let written : said (steps ++ Heard piece ∷ []) ≡ said steps = said-append steps (Heard piece ∷ []) ∙ append-nil (said steps) in
      record {
        steps = steps ++ Heard piece ∷ [];
        talks = talks-join does first before after steps (Heard piece ∷ []) talks (after, step, refl);
        along = subst (λ text. IsAlong others answers begun new text (said (steps ++ Heard piece ∷ [])) c) (sym text) (subst (λ written. IsAlong others answers begun new (heard steps ++ piece) written c) (sym written) along);
      }

  -- a read of no bytes gave nothing
  pub heard-nothing : (before after : E) (buffer : List ℕ) (count : ℕ) → count ≡ 0 → does before (Heard (take count buffer)) after → does before (Heard []) after
  heard-nothing before after buffer count none step = subst (λ n. does before (Heard (take n buffer)) after) none step

  -- a read gave nothing, and the connection was closed
  pub served-ended : (first before after : E) (begun now : S) (old new : ConnectionState) → IsServedAt does others answers first begun now before old → does before (Heard []) after → Closes old new
      → IsServedAt does others answers first begun now after new
  served-ended first before after begun now old new p step closes =
      served-heard first before after begun now now p.steps [] new p.talks step
      (subst (λ text. IsAlong others answers begun now text (said p.steps) new) (sym (append-nil (heard p.steps))) (along-closed others answers begun now (heard p.steps) (said p.steps) old new p.along closes))

  -- nothing more is read
  pub served-finished : (first socket : E) (begun now : S) (old new : ConnectionState) → IsServedAt does others answers first begun now socket old → Closes old new → IsServedAt does others answers first begun now socket new
  served-finished first socket begun now old new p closes =
      record { steps = p.steps; talks = p.talks; along = along-closed others answers begun now (heard p.steps) (said p.steps) old new p.along closes }

  -- what is owed is written
  pub served-written : (first before after : E) (begun now : S) (old new : ConnectionState) → IsServedAt does others answers first begun now before old → IsSent does before old after new
      → IsServedAt does others answers first begun now after new
  served-written first before after begun now old new p (inl w) =
      let bytes = take w.0 (owed_of old) in
      let text : heard (p.steps ++ Said bytes ∷ []) ≡ heard p.steps = heard-append p.steps (Said bytes ∷ []) ∙ append-nil (heard p.steps) in
      let written : said (p.steps ++ Said bytes ∷ []) ≡ said p.steps ++ bytes = said-append p.steps (Said bytes ∷ []) ∙ ap (λ l. said p.steps ++ l) (append-nil bytes) in
      record {
        steps = p.steps ++ Said bytes ∷ [];
        talks = talks-join does first before after p.steps (Said bytes ∷ []) p.talks (after, w.1, refl);
        along = subst (λ text. IsAlong others answers begun now text (said (p.steps ++ Said bytes ∷ [])) new) (sym text)
            (subst (λ written. IsAlong others answers begun now (heard p.steps) written new) (sym written) (along-written others answers begun now (heard p.steps) (said p.steps) w.0 old new p.along w.2));
      }
  served-written first before after begun now old new p (inr same) =
      subst (λ socket. IsServedAt does others answers first begun now socket new) (sym same.0) (subst (IsServedAt does others answers first begun now before) (sym same.1) p)
