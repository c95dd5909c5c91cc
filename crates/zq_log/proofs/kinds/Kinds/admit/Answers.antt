use Rattle.std.proofs.Common.{ap, inl, set, sym, ◌∙◌}
use Rattle.std.proofs.lemmas.List.{get_or_read}
use Rattle.zq_log.specs.declared.kinds.Kind.{Kind}
use Rattle.zq_log.proofs.kinds.Kinds.admit.Goals as goal

pub returns-in-Some : goal.returns-in-Some
returns-in-Some c =
    let old = c.args.self.now.known.items in
    let known = c.index_mut-known.result.now in
    let found = rw c.as_slice.ensures.value at c.in-Some.ensures.found in
    let read = get_or_read old c.in-Some.place known found.0 c.index_mut-known.ensures.value in
    inl (
      c.in-Some.place,
      known,
      (
        found.0,
        (λ d. sym (read d)),
        ap (λ (k : Kind). k.words.items) (read known) ∙ found.1 known,
        c.admit.ensures.told,
        ap (λ l. set old c.in-Some.place (record { words = known.words; limiter = l })) c.admit.ensures.after,
      ),
    )
